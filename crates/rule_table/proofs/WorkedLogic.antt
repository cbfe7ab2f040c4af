-- Worked verdicts of the rows of connectives, quantifiers and units.
use Rattle.std.proofs.Common.{◌≡◌, ◌∙◌, List, [], ◌∷◌, Option, Some, refl, ap, sym, subst, inl, ⊎_elim, codes}
use Rattle.model_shapes.specs.Sorts.{value, shape, tree, forest, grove, node_sort, int_sort}
use Rattle.model_shapes.specs.Values.{Name, null}
use Rattle.model_terms.specs.Terms.{literal, variable}
use Rattle.model_terms.specs.Variables.{bound}
use Rattle.model_terms.specs.VariableTests.{var_eq}
use Rattle.model_formulas.specs.Substitution.{FreeIn, closing, formula_with}
use Rattle.model_formulas.specs.Deciding.{closing_at}
use Rattle.model_formulas.specs.Formulas.{Formula, truth, negation, existential, universal, equality, empty, same_as}
use Rattle.model_commands.specs.Theories.{Judgement, entails}
use Rattle.rule_table.specs.Letters.{Letters, LogicVar, as_logic, as_term}
use Rattle.rule_table.specs.Notation.{◌and◌, ◌∗◌, ◌equals◌, for_some, for_each, instead}
use Rattle.rule_table.specs.Verdicts.{IsVerdict, instance_verdict, shape_verdict, premises_verdict, side_verdict}
use Rattle.rule_table.specs.Conditions.{free_side}
use Rattle.rule_table.proofs.SomeLetters.{a_step, readings_of, plain_letters, left_in, right_in, sort_in}
use Rattle.rule_table.proofs.Opening.{opening, opened}

-- (0g and true) entails 0g, and not true
pub left_of_both : IsVerdict (readings_of (codes "and_left"))
    (a_step [] [] (entails (empty grove and truth) (empty grove) (shape grove))) instance_verdict
left_of_both = inl (record plain_letters { P = empty grove }, (((refl, tt, refl), refl), tt))

pub not_right_of_both : IsVerdict (readings_of (codes "and_left"))
    (a_step [] [] (entails (empty grove and truth) truth (shape grove))) shape_verdict
not_right_of_both m = ⊎_elim (λ y. wrong y.0 (ap left_in y.1.2) (ap right_in y.1.2)) (λ z. z) m
  where
    wrong : (l : Letters) → l.P and l.Q ≡ empty grove and truth → l.P ≡ truth → ⊥
    wrong l p q = cc

-- ($x * 0f) entails $x: the unit stands on the right
abbrev a_forest : Formula
a_forest = same_as (as_term (record { name = codes "x"; sort = shape forest }))

pub unit_on_the_right : IsVerdict (readings_of (codes "star_unit"))
    (a_step [] [] (entails (a_forest ∗ empty forest) a_forest (shape forest))) instance_verdict
unit_on_the_right = inl (record plain_letters { P = a_forest }, (((refl, tt, refl), refl), tt))

pub no_unit_on_the_left : IsVerdict (readings_of (codes "unit_star"))
    (a_step [] [] (entails (a_forest ∗ empty forest) a_forest (shape forest))) shape_verdict
no_unit_on_the_left m = ⊎_elim (λ y. wrong y.0 (ap left_in y.1.2)) (λ z. z) m
  where
    wrong : (l : Letters) → empty forest ∗ l.P ≡ a_forest ∗ empty forest → ⊥
    wrong l p = cc

-- (forall $n . (exists $m . (not $n = $m))), with ($m): the bound $m isn't the argument
abbrev an_int : Name → LogicVar
an_int name = record { name = name; sort = value int_sort }

abbrev $n : LogicVar
$n = an_int (codes "n")

abbrev $m : LogicVar
$m = an_int (codes "m")

abbrev differs_from : LogicVar → Formula
differs_from x = for_some $m (negation (as_term x equals as_term $m))

abbrev with_m : Formula → Judgement
with_m q = entails (for_each $n (differs_from $n)) q (shape grove)

-- (exists $k . (not $m = $k))
abbrev some_other : Formula
some_other = existential (value int_sort)
    (negation (equality (as_term $m) (variable (bound 0 (value int_sort)))))

pub another_name : IsVerdict (readings_of (codes "forall_out"))
    (a_step (as_term $m ∷ []) [] (with_m some_other)) instance_verdict
another_name = inl (
  record plain_letters { P = differs_from $n; E = as_term $m; x = $n },
  (((refl, (refl, tt), refl), refl), tt),
)

-- (exists $m . (not $m = $m))
pub nothing_caught : IsVerdict (readings_of (codes "forall_out"))
    (a_step (as_term $m ∷ []) [] (with_m (for_some $m (negation (as_term $m equals as_term $m)))))
    shape_verdict
nothing_caught m =
    ⊎_elim (λ y. wrong y.0 y.1.0 (ap left_in y.1.2) (ap right_in y.1.2)) (λ z. z) m
  where
    part : Formula → Formula
    part (universal s p) = p
    part p = p

    wrong : (l : Letters) → l.E ∷ [] ≡ as_term $m ∷ []
        → for_each l.x l.P ≡ for_each $n (differs_from $n)
        → instead l.E l.x l.P ≡ for_some $m (negation (as_term $m equals as_term $m)) → ⊥
    wrong l a p q =
        let term_is : l.E ≡ as_term $m = cc in
        apart (subst (λ e. formula_with (opening e)
        (formula_with (closing (as_logic $n)) (differs_from $n))
        ≡ for_some $m (negation (as_term $m equals as_term $m))) term_is
        (ap (formula_with (opening l.E)) (sym (ap part p)) ∙ opened l.E l.x l.P ∙ q))
      where
        apart : some_other ≡ for_some $m (negation (as_term $m equals as_term $m)) → ⊥
        apart e = cc

-- exists_out where the variable is free on the right, as forall_in where it is on the left
abbrev $y : LogicVar
$y = an_int (codes "y")

abbrev itself : Formula
itself = as_term $y equals as_term $y

pub free_on_the_right : IsVerdict (readings_of (codes "exists_out"))
    (a_step [] (entails itself itself (shape grove) ∷ [])
    (entails (for_some $y itself) itself (shape grove)))
    (side_verdict free_side)
free_on_the_right = (
  0,
  inl (
    record plain_letters { P = itself; Q = itself; x = $y },
    ((((refl, tt, refl), refl), tt), refl),
  ),
  λ m. ⊎_elim (λ y. wrong y.0 (ap left_in y.1.0.0.2) (ap right_in y.1.0.0.2) y.1.0.1 y.1.1.0)
      (λ z. z) m,
)
  where
    wrong : (l : Letters) → for_some l.x l.P ≡ for_some $y itself → l.Q ≡ itself
        → Some (entails l.P l.Q l.s ∷ []) ≡ Some (entails itself itself (shape grove) ∷ [])
        → (FreeIn (as_logic l.x) l.Q → ⊥) → ⊥
    wrong l p q e fresh =
        let left_is : l.P ≡ itself = cc in
        by_name (var_eq (as_logic $y) (as_logic l.x))
        (subst (λ (r : Formula). for_some l.x r ≡ for_some $y itself) left_is p)
      where
        by_name : (d : Dec (as_logic $y ≡ as_logic l.x))
            → existential l.x.sort (equality (closing_at {x = as_logic l.x} d)
            (closing_at {x = as_logic l.x} d)) ≡ for_some $y itself → ⊥
        by_name (yes same) r =
            fresh (subst (FreeIn (as_logic l.x)) (sym q) (inl (sym same)))
        by_name (no other) r = absurd cc

-- premises at the sort of the conclusion, and at another
pub premises_at_one_sort : IsVerdict (readings_of (codes "cut"))
    (a_step [] (entails truth truth (shape grove) ∷ entails truth truth (shape grove) ∷ [])
    (entails truth truth (shape grove)))
    instance_verdict
premises_at_one_sort = inl (plain_letters, (((refl, tt, refl), refl), tt))

pub premise_at_another_sort : IsVerdict (readings_of (codes "cut"))
    (record {
      arguments = [];
      premises = Some
          (entails truth truth (shape tree) ∷ entails truth truth (shape grove) ∷ []);
      conclusion = entails truth truth (shape grove);
    })
    premises_verdict
premise_at_another_sort = (
  inl (plain_letters, (refl, tt, refl)),
  λ m. ⊎_elim (λ x. wrong x.0 (ap sort_in x.1.0.2) x.1.1)
      (λ z. z) m,
)
  where
    wrong : (l : Letters) → l.s ≡ shape grove
        → Some (entails l.P l.Q l.s ∷ entails l.Q l.R l.s ∷ [])
        ≡ Some (entails truth truth (shape tree) ∷ entails truth truth (shape grove) ∷ []) → ⊥
    wrong l e q = cc

-- $x free on the left: the side condition fails
abbrev z : LogicVar
z = record { name = codes "z"; sort = value node_sort }

abbrev z_is_null : Formula
z_is_null = equality (as_term z) (literal null)

pub free_on_the_left : IsVerdict (readings_of (codes "forall_in"))
    (record {
      arguments = [];
      premises = Some (entails z_is_null z_is_null (shape grove) ∷ []);
      conclusion = entails z_is_null (for_each z z_is_null) (shape grove);
    })
    (side_verdict free_side)
free_on_the_left = (
  0,
  inl (
    record plain_letters { P = z_is_null; Q = z_is_null; x = z },
    ((((refl, tt, refl), refl), tt), refl),
  ),
  λ m. ⊎_elim (λ y. wrong y.0 y.1.0.0.2 y.1.0.1 y.1.1.0)
      (λ n. n) m,
)
  where
    premise_right : Option (List Judgement) → Formula
    premise_right (Some (j ∷ js)) = right_in j
    premise_right o = truth

    wrong : (l : Letters) → entails l.P (for_each l.x l.Q) l.s
        ≡ entails z_is_null (for_each z z_is_null) (shape grove)
        → Some (entails l.P l.Q l.s ∷ []) ≡ Some (entails z_is_null z_is_null (shape grove) ∷ [])
        → (FreeIn (as_logic l.x) l.P → ⊥) → ⊥
    wrong l e q n = by_name (var_eq (as_logic z) (as_logic l.x))
        (subst (λ (p : Formula). for_each l.x p ≡ for_each z z_is_null) same_q (ap right_in e))
      where
        same_q : l.Q ≡ z_is_null
        same_q = cc

        same_p : l.P ≡ z_is_null
        same_p = cc

        by_name : (d : Dec (as_logic z ≡ as_logic l.x))
            → universal l.x.sort (equality (closing_at {x = as_logic l.x} d) (literal null))
            ≡ for_each z z_is_null → ⊥
        by_name (yes same) r = n (subst (FreeIn (as_logic l.x)) (sym same_p) (inl (sym same)))
        by_name (no other) r = absurd cc
