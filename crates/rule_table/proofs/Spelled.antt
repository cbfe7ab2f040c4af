-- The closed formulas of the table are what a file writes with any names for the variables.
use Rattle.std.proofs.Common.{◌≡◌, ℕ, List, [], ◌∷◌, refl, ap, ◌∙◌}
use Rattle.model_shapes.specs.Sorts.{value, shape, node_sort, list_sort, int_sort, str_sort, tree, forest, grove}
use Rattle.model_terms.specs.Variables.{Var, logic, bound, var_sort}
use Rattle.model_terms.specs.Terms.{variable, raised_var}
use Rattle.model_terms.specs.VariableTests.{var_eq}
use Rattle.model_formulas.specs.Formulas.{existential, at_most, node_formula, one_tree, one_root, concatenation, grove_sum, conjunction, whole, same_as, length_is}
use Rattle.model_formulas.specs.Nameless.{nameless, names}
use Rattle.model_formulas.specs.Deciding.{name_or}
use Rattle.rule_table.specs.Closed.{number, some_node, first_and_rest, root_and_rest, some_length}

-- a variable below its own binder
own : (x : Var) (xs : List Var) → names (x ∷ xs) x ≡ bound 0 (var_sort x)
own x xs = at (var_eq x x)
  where
    at : (d : Dec (x ≡ x)) → name_or (names xs x) d ≡ bound 0 (var_sort x)
    at (yes e) = refl
    at (no n) = absurd (n refl)

-- below the binder of a variable of another sort
further : (x y : Var) (xs : List Var) → (var_sort y ≡ var_sort x → ⊥)
    → names (x ∷ xs) y ≡ raised_var (names xs y)
further x y xs apart = at (var_eq y x)
  where
    at : (d : Dec (y ≡ x)) → name_or (names xs y) d ≡ raised_var (names xs y)
    at (yes e) = absurd (apart (ap var_sort e))
    at (no n) = refl

-- (exists $n . (len $n and 0 <= $n))
module _ (name : List ℕ) where
  abbrev N : Var
  N = logic name (value int_sort)

  pub length_spelled : nameless (existential N
      (conjunction (length_is (variable N)) (at_most (number 0) (variable N)))) ≡ some_length
  length_spelled = λ i. existential (value int_sort)
      (conjunction (length_is (variable (own N [] i)))
      (at_most (number 0) (variable (own N [] i))))

-- (exists $t . (exists $f . (<$t> * $f))) and (exists $t . (exists $g . ([$t] + $g)))
module _ (first rest : List ℕ) where
  abbrev T : Var
  T = logic first (shape tree)

  abbrev F : Var
  F = logic rest (shape forest)

  abbrev G : Var
  G = logic rest (shape grove)

  pub forest_spelled : nameless (existential T (existential F
      (concatenation whole (one_tree (same_as (variable T))) (same_as (variable F)))))
      ≡ first_and_rest
  forest_spelled = λ i. existential (shape tree) (existential (shape forest)
      (concatenation whole (one_tree (same_as (variable (below_forest i))))
      (same_as (variable (own F (T ∷ []) i)))))
    where
      below_forest : names (F ∷ T ∷ []) T ≡ bound 1 (shape tree)
      below_forest = further F T (T ∷ []) (λ e. cc) ∙ ap raised_var (own T [])

  pub grove_spelled : nameless (existential T (existential G
      (grove_sum (one_root (same_as (variable T))) (same_as (variable G)))))
      ≡ root_and_rest
  grove_spelled = λ i. existential (shape tree) (existential (shape grove)
      (grove_sum (one_root (same_as (variable (below_grove i))))
      (same_as (variable (own G (T ∷ []) i)))))
    where
      below_grove : names (G ∷ T ∷ []) T ≡ bound 1 (shape tree)
      below_grove = further G T (T ∷ []) (λ e. cc) ∙ ap raised_var (own T [])

-- (exists $s . (exists $i . (exists $f . (exists $l . $s#$i[$f]%$l))))
module _ (called numbered kids listed : List ℕ) where
  abbrev S : Var
  S = logic called (value str_sort)

  abbrev I : Var
  I = logic numbered (value node_sort)

  abbrev K : Var
  K = logic kids (shape forest)

  abbrev L : Var
  L = logic listed (value list_sort)

  kids_at : names (L ∷ K ∷ I ∷ S ∷ []) K ≡ bound 1 (shape forest)
  kids_at = further L K (K ∷ I ∷ S ∷ []) (λ e. cc) ∙ ap raised_var (own K (I ∷ S ∷ []))

  number_at : names (L ∷ K ∷ I ∷ S ∷ []) I ≡ bound 2 (value node_sort)
  number_at = further L I (K ∷ I ∷ S ∷ []) (λ e. cc)
      ∙ ap raised_var (further K I (I ∷ S ∷ []) (λ e. cc) ∙ ap raised_var (own I (S ∷ [])))

  name_at : names (L ∷ K ∷ I ∷ S ∷ []) S ≡ bound 3 (value str_sort)
  name_at = further L S (K ∷ I ∷ S ∷ []) (λ e. cc)
      ∙ ap raised_var (further K S (I ∷ S ∷ []) (λ e. cc)
      ∙ ap raised_var (further I S (S ∷ []) (λ e. cc) ∙ ap raised_var (own S [])))

  pub node_spelled : nameless (existential S (existential I (existential K (existential L
      (node_formula (variable S) (variable I) (same_as (variable K)) (variable L))))))
      ≡ some_node
  node_spelled = λ i. existential (value str_sort) (existential (value node_sort)
      (existential (shape forest) (existential (value list_sort)
      (node_formula (variable (name_at i)) (variable (number_at i))
      (same_as (variable (kids_at i))) (variable (own L (K ∷ I ∷ S ∷ []) i))))))
