use Rattle.std.proofs.Common.{[], codes, map}
use Rattle.rule_table.proofs.SomeLetters.{readings_of}
use Rattle.dom_terms.specs.Sorts.{sort_of}
use Rattle.dom_terms.specs.Terms.{term_of}
use Rattle.formula_syntax.specs.Formulas.{formula_of}
use Rattle.computed_rules.specs.Linear.{by_reading, linear_verdict, read}
use Rattle.computed_rules.specs.Steps.{judged, step}
use Rattle.computed_rules.proofs.Decided.{computed}
use Rattle.computed_rules.proofs.LinearSteps.{linear-is}
use Rattle.computed_rules.proofs.LinearWritten.{linear-written, sorted-order}
use Rattle.computed_rules.proofs.Written.{respelled}
use Rattle.computed_rules.proofs.sums.linear.Goals as goal

pub by_linear-requires : goal.by_linear-requires
by_linear-requires c =
    sorted-order (formula_of c.args.conclusion.now.right) (sort_of c.args.conclusion.now.sort)
    c.requires

pub returns : goal.returns
returns c =
    computed (readings_of (codes "linear"))
    (step (map term_of c.args.arguments.now) c.args.conclusion.now)
    (linear_verdict (map term_of c.args.arguments.now) (judged c.args.conclusion.now))
    c.by_linear.result
    (linear-is (map term_of c.args.arguments.now) (judged c.args.conclusion.now))
    (respelled c.by_linear.result
    (by_reading
    (read [] (formula_of c.args.conclusion.now.left) (map term_of c.args.arguments.now))
    (formula_of c.args.conclusion.now.right))
    (linear_verdict (map term_of c.args.arguments.now) (judged c.args.conclusion.now))
    (linear-written (map term_of c.args.arguments.now) c.args.conclusion.now)
    c.by_linear.ensures)
