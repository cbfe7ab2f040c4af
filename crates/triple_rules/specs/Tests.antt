-- Needn't be believed: the promises speak of the table of rules. Verdicts as tests that compute.
use Rattle.std.specs.Prelude.{ℕ, Bool, true, false, ◌&&◌, cond, List, [], ◌∷◌, Option, Some, None}
use Rattle.model_shapes.specs.Sorts.{DataSort, shape}
use Rattle.model_shapes.specs.Tests.{same_data_sort, same_sort}
use Rattle.model_terms.specs.Terms.{Term}
use Rattle.model_terms.specs.TermSorts.{evaluates}
use Rattle.model_terms.specs.Stores.{as_var, sort_of}
use Rattle.model_formulas.specs.Formulas.{Formula, falsity, disjunction}
use Rattle.model_formulas.specs.Substitution.{formula_with, replacing}
use Rattle.model_formulas.specs.SameFormulas.{same_formula}
use Rattle.model_commands.specs.Commands.{Command, skip, assign}
use Rattle.model_commands.specs.Theories.{Judgement, Step, entails, triple}
use Rattle.theory_syntax.specs.SameCommands.{same_command}
use Rattle.rule_table.specs.Accepted.{judgement_numbered, in_front}
use Rattle.rule_table.specs.Conditions.{SideName}
use Rattle.rule_table.specs.Verdicts.{Verdict, instance_verdict, premises_verdict, shape_verdict, side_verdict}

-- there are none
abbrev pub no_items : {A : Type 0} → List A → Bool
no_items [] = true
no_items (x ∷ xs) = false

-- two judgements, and two lists of them, are equal
abbrev pub same_judgement : Judgement → Judgement → Bool
same_judgement (entails p q s) (entails p' q' s') =
    same_formula p p' && (same_formula q q' && same_sort s s')
same_judgement (triple p c q d) (triple p' c' q' d') =
    (same_formula p p' && same_formula q q') && (same_command c c' && same_data_sort d d')
same_judgement j j' = false

abbrev pub same_judgements : List Judgement → List Judgement → Bool
same_judgements [] [] = true
same_judgements (j ∷ js) (j' ∷ js') = same_judgement j j' && same_judgements js js'
same_judgements js js' = false

-- these judgements are cited
abbrev pub cites : Option (List Judgement) → List Judgement → Bool
cites None js = false
cites (Some ks) js = same_judgements ks js

-- the steps of these numbers say these judgements
abbrev pub says : Option Judgement → Judgement → Bool
says None j = false
says (Some i) j = same_judgement i j

abbrev pub cites_by : List Step → List ℕ → List Judgement → Bool
cites_by earlier [] [] = true
cites_by earlier (n ∷ []) (j ∷ []) = says (judgement_numbered n earlier) j
cites_by earlier (n ∷ m ∷ ns) (j ∷ i ∷ js) =
    says (judgement_numbered n earlier) j && cites_by earlier (m ∷ ns) (i ∷ js)
cites_by earlier ns js = false

-- the verdict from the tests of the conclusion and of the premises, and from what comes after them
abbrev pub staged : Bool → Bool → Verdict → Verdict
staged concludes follows last = cond concludes (cond follows last premises_verdict) shape_verdict

-- the verdict on one condition
abbrev pub last_of : Bool → SideName → Verdict
last_of holds name = cond holds instance_verdict (side_verdict name)

-- the command is `skip`
abbrev pub is_skip : Command → Bool
is_skip skip = true
is_skip c = false

-- the formula is `false`
abbrev pub is_falsity : Formula → Bool
is_falsity falsity = true
is_falsity p = false

-- the premises of consequence
abbrev pub weaken : Option (List Judgement) → Formula → Command → Formula → DataSort → Bool
weaken (Some (i ∷ triple a c' b k' ∷ j ∷ [])) p c q k =
    (same_command c' c && same_data_sort k' k)
    && (same_judgement i (entails p a (shape k)) && same_judgement j (entails b q (shape k)))
weaken premises p c q k = false

-- the same for the steps of these numbers
abbrev pub weaken_by : List Step → List ℕ → Formula → Command → Formula → DataSort → Bool
weaken_by earlier (n ∷ m ∷ o ∷ []) p c q k =
    weaken (in_front (judgement_numbered n earlier) (in_front (judgement_numbered m earlier)
    (in_front (judgement_numbered o earlier) (Some [])))) p c q k
weaken_by earlier ns p c q k = false

module _ (arguments : List Term) (are_cited : List Judgement → Bool) where
  abbrev pub skip_test : Formula → Command → Formula → DataSort → Verdict
  skip_test p c q k =
      staged (no_items arguments && (is_skip c && same_formula p q)) (are_cited [])
      instance_verdict

  abbrev pub absurd_test : Formula → Command → Formula → DataSort → Verdict
  absurd_test p c q k =
      staged (no_items arguments && is_falsity p) (are_cited []) instance_verdict

  abbrev pub disjunction_test : Formula → Command → Formula → DataSort → Verdict
  disjunction_test (disjunction a b) c q k =
      staged (no_items arguments) (are_cited (triple a c q k ∷ triple b c q k ∷ []))
      instance_verdict
  disjunction_test p c q k = shape_verdict

  abbrev pub assign_test : Formula → Command → Formula → DataSort → Verdict
  assign_test p (assign v e) q k =
      staged (no_items arguments && (evaluates (sort_of v) e
      && same_formula (formula_with (replacing (as_var v) e) q) p)) (are_cited [])
      instance_verdict
  assign_test p c q k = shape_verdict
