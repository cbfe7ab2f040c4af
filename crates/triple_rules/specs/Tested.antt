-- Needn't be believed: the promises speak of the table of rules. What a test finds of what is
-- written at a step.
use Rattle.std.specs.Prelude.{Bool, List, map}
use Rattle.model_shapes.specs.Sorts.{DataSort}
use Rattle.model_terms.specs.Terms as terms
use Rattle.model_formulas.specs.Formulas.{Formula}
use Rattle.model_formulas.specs.Nameless.{nameless}
use Rattle.model_commands.specs.Commands.{Command}
use Rattle.model_commands.specs.Theories as model
use Rattle.dom_terms.specs.Sorts.{data_sort_of}
use Rattle.dom_terms.specs.Terms.{term_of}
use Rattle.formula_syntax.specs.Formulas.{formula_of}
use Rattle.theory_syntax.specs.Commands.{command_of}
use Rattle.cited_steps.specs.Earlier.{steps_in}
use Rattle.rule_table.specs.Verdicts as table
use Rattle.triple_rules.specs.declared.written.Written.{Written}
use Rattle.triple_rules.specs.Tests.{cites_by}

-- from the arguments, the test whether judgements are cited, and the parts of the triple
abbrev pub Test : Type 0
Test = List terms.Term → (List model.Judgement → Bool) → Formula → Command → Formula → DataSort
    → table.Verdict

-- the verdict of a test
abbrev pub tested : Test → Written → table.Verdict
tested test written =
    test (map term_of written.arguments.now)
    (cites_by (steps_in written.earlier.now) written.citations.now)
    (nameless (formula_of written.triple.now.pre)) (command_of written.triple.now.command)
    (nameless (formula_of written.triple.now.post)) (data_sort_of written.triple.now.sort)
