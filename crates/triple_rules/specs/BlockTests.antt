-- Needn't be believed: the promises speak of the table of rules. Choice, loops and local
-- variables as tests that compute.
use Rattle.std.specs.Prelude.{Bool, true, false, ◌&&◌, not, List, [], ◌∷◌}
use Rattle.model_shapes.specs.Sorts.{DataSort}
use Rattle.model_terms.specs.Terms.{Term, literal, variable}
use Rattle.model_terms.specs.Stores.{ProgVar, as_var, sort_of, default}
use Rattle.model_terms.specs.Conditions.{Cond}
use Rattle.model_formulas.specs.Formulas.{Formula, conjunction, negation, equality}
use Rattle.model_formulas.specs.SameFormulas.{same_formula}
use Rattle.model_commands.specs.ConditionFormulas.{formula_of as condition_formula}
use Rattle.model_commands.specs.Commands.{Command, Block, block, while_do, if_else, local}
use Rattle.model_commands.specs.Theories.{Judgement, triple}
use Rattle.rule_table.specs.Conditions.{free_side}
use Rattle.rule_table.specs.Verdicts.{Verdict, instance_verdict, shape_verdict}
use Rattle.triple_rules.specs.Occurring.{mentions}
use Rattle.triple_rules.specs.Tests.{no_items, staged, last_of}

-- the formula of a condition that is tested, where it holds or doesn't
abbrev pub guard : Bool → Cond → Formula
guard true c = condition_formula c
guard false c = negation (condition_formula c)

-- the premise of a block behind such a test
abbrev pub branch : Formula → Bool → Cond → Block → Formula → DataSort → Judgement
branch p holds c b q k = triple (conjunction p (guard holds c)) (block b) q k

-- the variable has the default value of its sort
abbrev pub is_default : ProgVar → Formula
is_default v = equality (variable (as_var v)) (literal (default (sort_of v)))

module _ (arguments : List Term) (are_cited : List Judgement → Bool) where
  abbrev pub while_test : Formula → Command → Formula → DataSort → Verdict
  while_test p (while_do c b) q k =
      staged (no_items arguments && same_formula q (conjunction p (guard false c)))
      (are_cited (branch p true c b p k ∷ [])) instance_verdict
  while_test p c q k = shape_verdict

  abbrev pub if_test : Formula → Command → Formula → DataSort → Verdict
  if_test p (if_else c b b') q k =
      staged (no_items arguments)
      (are_cited (branch p true c b q k ∷ branch p false c b' q k ∷ [])) instance_verdict
  if_test p c q k = shape_verdict

  abbrev pub local_test : Formula → Command → Formula → DataSort → Verdict
  local_test p (local v b) q k =
      staged (no_items arguments)
      (are_cited (triple (conjunction p (is_default v)) (block b) q k ∷ []))
      (last_of (not (mentions (v ∷ []) p) && not (mentions (v ∷ []) q)) free_side)
  local_test p c q k = shape_verdict
