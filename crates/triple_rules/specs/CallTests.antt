-- Needn't be believed: the promises speak of the table of rules. Calls as tests that compute.
use Rattle.std.specs.Prelude.{Bool, ◌&&◌, map, List, [], ◌∷◌, Option, Some, None}
use Rattle.model_shapes.specs.Sorts.{DataSort}
use Rattle.model_shapes.specs.Tests.{same_data_sort}
use Rattle.model_terms.specs.Variables.{Var}
use Rattle.model_terms.specs.Terms.{Term}
use Rattle.model_terms.specs.Stores.{ProgVar, as_var}
use Rattle.model_formulas.specs.Formulas.{Formula}
use Rattle.model_formulas.specs.Substitution.{formula_with}
use Rattle.model_formulas.specs.SameFormulas.{same_formula}
use Rattle.model_commands.specs.Commands.{Command, call}
use Rattle.model_commands.specs.Theories.{Judgement, Procedure, Procedures, procedure_named}
use Rattle.rule_table.specs.Notation.{prog_term}
use Rattle.rule_table.specs.Rules.{passing, itself}
use Rattle.rule_table.specs.Verdicts.{Verdict, instance_verdict, shape_verdict}
use Rattle.triple_rules.specs.Tests.{no_items, staged}

-- the variables, each with the term at its place
abbrev pub put : List ProgVar → List Term → List (Var × Term)
put (x ∷ xs) (t ∷ ts) = (as_var x, t) ∷ put xs ts
put xs ts = []

-- the formulas and the sort are those of the procedure, with the arguments and the results
abbrev pub is_met : Procedure → List ProgVar → List Term → Formula → Formula → DataSort → Bool
is_met f rs es p q k =
    same_formula (formula_with (passing f.params es itself) f.pre) p
    && (same_formula (formula_with (passing f.params es
    (passing f.results (map prog_term rs) itself)) f.post) q && same_data_sort f.sort k)

module _ (arguments : List Term) (are_cited : List Judgement → Bool) where
  -- call, where the name means this procedure, or none
  abbrev pub call_of : Option Procedure → List ProgVar → List Term → Formula → Formula → DataSort
      → Verdict
  call_of None rs es p q k = shape_verdict
  call_of (Some f) rs es p q k =
      staged (no_items arguments && is_met f rs es p q k) (are_cited []) instance_verdict

  abbrev pub call_test : Procedures → Formula → Command → Formula → DataSort → Verdict
  call_test procedures p (call rs name es) q k =
      call_of (procedure_named name procedures) rs es p q k
  call_test procedures p c q k = shape_verdict
