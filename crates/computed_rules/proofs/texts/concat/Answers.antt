use Rattle.std.proofs.Common.{codes, map}
use Rattle.rule_table.proofs.SomeLetters.{readings_of}
use Rattle.dom_terms.specs.Terms.{term_of}
use Rattle.computed_rules.specs.Steps.{judged, step}
use Rattle.computed_rules.specs.Texts.{concat_verdict}
use Rattle.computed_rules.proofs.Decided.{computed}
use Rattle.computed_rules.proofs.ConcatVerdicts.{concat-is}
use Rattle.computed_rules.proofs.texts.concat.Goals as goal

pub returns : goal.returns
returns c =
    computed (readings_of (codes "concat"))
    (step (map term_of c.args.arguments.now) c.args.conclusion.now)
    (concat_verdict (map term_of c.args.arguments.now) (judged c.args.conclusion.now))
    c.by_concat.result
    (concat-is (map term_of c.args.arguments.now) (judged c.args.conclusion.now))
    c.by_concat.ensures
