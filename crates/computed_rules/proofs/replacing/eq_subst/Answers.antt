use Rattle.std.proofs.Common.{subst, sym, codes, map}
use Rattle.rule_table.specs.Verdicts.{IsVerdict}
use Rattle.rule_table.proofs.SomeLetters.{readings_of}
use Rattle.dom_terms.specs.Terms.{term_of}
use Rattle.computed_rules.specs.Steps.{judged, step}
use Rattle.computed_rules.proofs.EqSubstVerdicts.{subst-is}
use Rattle.computed_rules.proofs.replacing.eq_subst.Goals as goal

pub returns : goal.returns
returns c =
    subst
    (IsVerdict (readings_of (codes "eq_subst"))
    (step (map term_of c.args.arguments.now) c.args.conclusion.now))
    (sym c.by_subst.ensures)
    (subst-is (map term_of c.args.arguments.now) (judged c.args.conclusion.now))
