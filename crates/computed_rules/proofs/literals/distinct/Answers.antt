use Rattle.std.proofs.Common.{subst, sym, codes, map}
use Rattle.rule_table.specs.Verdicts.{IsVerdict}
use Rattle.rule_table.proofs.SomeLetters.{readings_of}
use Rattle.dom_terms.specs.Terms.{term_of}
use Rattle.computed_rules.specs.Steps.{judged, step}
use Rattle.computed_rules.proofs.DistinctVerdicts.{distinct-is}
use Rattle.computed_rules.proofs.literals.distinct.Goals as goal

pub returns : goal.returns
returns c =
    subst
    (IsVerdict (readings_of (codes "distinct"))
    (step (map term_of c.args.arguments.now) c.args.conclusion.now))
    (sym c.by_distinct.ensures)
    (distinct-is (map term_of c.args.arguments.now) (judged c.args.conclusion.now))
