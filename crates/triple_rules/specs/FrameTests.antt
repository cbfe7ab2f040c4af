-- Needn't be believed: the promises speak of the table of rules. The frame rule as tests that
-- compute.
use Rattle.std.specs.Prelude.{Bool, ◌&&◌, List, [], ◌∷◌}
use Rattle.model_shapes.specs.Sorts.{DataSort}
use Rattle.model_shapes.specs.Tests.{same_data_sort}
use Rattle.model_terms.specs.Terms.{Term}
use Rattle.model_formulas.specs.Formulas.{FormulaOf, Formula, application}
use Rattle.model_formulas.specs.SameFormulas.{same_formula}
use Rattle.model_commands.specs.Commands.{Command}
use Rattle.model_commands.specs.Theories.{Judgement, triple}
use Rattle.rule_table.specs.Conditions.{modified_side}
use Rattle.rule_table.specs.Verdicts.{Verdict, shape_verdict}
use Rattle.triple_rules.specs.Tests.{no_items, staged, last_of}

-- the context of an application
abbrev pub context_in : {Binder : Type 0} → FormulaOf Binder → FormulaOf Binder
context_in (application h a p) = a
context_in p = p

-- with the answer whether the command changes nothing of the context
module _ (arguments : List Term) (are_cited : List Judgement → Bool) where
  abbrev pub frame_test : Bool → Formula → Command → Formula → DataSort → Verdict
  frame_test unchanged (application h a p) c (application h' a' q) k =
      staged (no_items arguments && (same_data_sort h' h && same_formula a' a))
      (are_cited (triple p c q h ∷ []))
      (last_of unchanged modified_side)
  frame_test unchanged p c q k = shape_verdict
