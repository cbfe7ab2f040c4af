-- Needn't be believed: the program's promise doesn't speak of it. What is written at a step that
-- cites no other one.
use Rattle.std.specs.Prelude.{List, [], Some}
use Rattle.model_terms.specs.Terms.{Term}
use Rattle.model_formulas.specs.Nameless.{nameless}
use Rattle.model_commands.specs.Theories.{Judgement, entails}
use Rattle.rule_table.specs.Verdicts.{Written}
use Rattle.dom_terms.specs.Sorts.{sort_of}
use Rattle.formula_syntax.specs.declared.entailments.Entailment.{Entailment}
use Rattle.formula_syntax.specs.Formulas.{formula_of}

-- the entailment as a judgement, without the names of bound variables
abbrev pub judged : Entailment → Judgement
judged entailment =
    entails (nameless (formula_of entailment.left)) (nameless (formula_of entailment.right))
    (sort_of entailment.sort)

-- the arguments and the conclusion, with no premises
abbrev pub step : List Term → Entailment → Written
step arguments conclusion =
    record { arguments = arguments; premises = Some []; conclusion = judged conclusion }
