-- Worked verdicts of the rows of contexts, of variables and of forests.
use Rattle.std.proofs.Common.{ℕ, ◌≡◌, List, [], ◌∷◌, Some, refl, ap, sym, subst, inl, ⊎_elim, codes}
use Rattle.model_shapes.specs.Sorts.{shape, context, tree, forest, grove}
use Rattle.model_terms.specs.Terms.{variable}
use Rattle.model_terms.specs.VariableTests.{var_eq}
use Rattle.model_terms.specs.Variables.{logic}
use Rattle.model_formulas.specs.Nameless.{nameless}
use Rattle.model_formulas.specs.Substitution.{FreeIn}
use Rattle.model_formulas.specs.Deciding.{closing_at}
use Rattle.model_formulas.specs.Formulas.{Named, one_tree, concatenation, whole, disjunction, empty, Formula, truth, existential, application, bare_hole, hole_adjoint, context_adjoint, same_as}
use Rattle.model_commands.specs.Theories.{entails}
use Rattle.rule_table.specs.Letters.{Letters, LogicVar, as_logic, as_term}
use Rattle.rule_table.specs.Notation.{◌and◌, ◌∗◌, ◌·∗◌, for_some}
use Rattle.rule_table.specs.Verdicts.{IsVerdict, instance_verdict, shape_verdict, premises_verdict, side_verdict, readings_in}
use Rattle.rule_table.specs.Conditions.{free_side}
use Rattle.rule_table.specs.Entailments.{contexts, variables, nodes}
use Rattle.rule_table.proofs.SomeLetters.{a_step, plain_letters, left_in, right_in, sort_in}

-- ((true -o true) @t true) entails true at tt concludes no hole_adj_out
pub adjoint_at_a_context : IsVerdict (readings_in contexts (codes "hole_adj_out"))
    (a_step [] []
    (entails (application tree (hole_adjoint truth truth) truth) truth (context tree tree)))
    shape_verdict
adjoint_at_a_context m = ⊎_elim (λ y. wrong y.0 (ap sort_in y.1.2)) (λ none. none) m
  where
    wrong : (l : Letters) → shape l.k ≡ context tree tree → ⊥
    wrong l e = cc

-- at t it does
pub adjoint_at_data : IsVerdict (readings_in contexts (codes "hole_adj_out"))
    (a_step [] [] (entails (application tree (hole_adjoint truth truth) truth) truth (shape tree)))
    instance_verdict
adjoint_at_data = inl (record plain_letters { k = tree }, (((refl, tt, refl), refl), tt))

-- ((?t @t ?t) @t true) entails (?t @t (?t @t true)) at t
pub assoc_at_data : IsVerdict (readings_in contexts (codes "app_assoc"))
    (a_step [] [] (entails
    (application tree (application tree (bare_hole tree) (bare_hole tree)) truth)
    (application tree (bare_hole tree) (application tree (bare_hole tree) truth)) (shape tree)))
    instance_verdict
assoc_at_data =
    inl (
      record plain_letters { K = bare_hole tree; H = bare_hole tree; s = shape tree },
      (((refl, tt, refl), refl), tt),
    )

-- and at ft
pub assoc_at_a_context : IsVerdict (readings_in contexts (codes "app_assoc"))
    (a_step [] [] (entails
    (application tree (application tree (bare_hole tree) (bare_hole tree)) truth)
    (application tree (bare_hole tree) (application tree (bare_hole tree) truth))
    (context forest tree)))
    instance_verdict
assoc_at_a_context =
    inl (
      record plain_letters { K = bare_hole tree; H = bare_hole tree; s = context forest tree },
      (((refl, tt, refl), refl), tt),
    )

-- ((K @t P) * Q) is no reading of app_star_left at a context sort: there it is `.*`
pub star_at_a_context : IsVerdict (readings_in contexts (codes "app_star_left"))
    (a_step [] [] (entails (application forest (bare_hole forest ·∗ truth) truth)
    (application forest (bare_hole forest) truth ∗ truth) (context forest forest)))
    shape_verdict
star_at_a_context m = ⊎_elim (λ y. whole y.0 (ap sort_in y.1.2))
    (λ r. ⊎_elim (λ y. left y.0 (ap right_in y.1.2)) (λ none. none) r) m
  where
    whole : (l : Letters) → shape forest ≡ context forest forest → ⊥
    whole l e = cc

    left : (l : Letters) → application l.h l.K l.P ·∗ l.Q
        ≡ application forest (bare_hole forest) truth ∗ truth → ⊥
    left l e = cc

-- ctx_adj_in at t with its premise at t, where `o-g` asks for g
pub premise_at_another_sort : IsVerdict (readings_in contexts (codes "ctx_adj_in"))
    (a_step [] (entails (application tree truth truth) truth (shape tree) ∷ [])
    (entails truth (context_adjoint grove truth truth) (shape tree)))
    premises_verdict
premise_at_another_sort = (
  inl (plain_letters, (refl, tt, refl)),
  λ m. ⊎_elim
      (λ y. wrong y.0 (ap right_in y.1.0.2) y.1.1) (λ none. none) m,
)
  where
    wrong : (l : Letters)
        → context_adjoint l.k l.K l.Q ≡ context_adjoint grove truth truth
        → Some (entails (application l.h l.K l.P) l.Q (shape l.k) ∷ [])
        ≡ Some (entails (application tree truth truth) truth (shape tree) ∷ []) → ⊥
    wrong l e q = cc

-- a variable for trees
abbrev z : LogicVar
z = record { name = codes "z"; sort = shape tree }

abbrev z_as_formula : Formula
z_as_formula = same_as (as_term z)

-- $z entails (exists $z . ($z and $z)): some, but for the condition
pub free_in_what_is_given : IsVerdict (readings_in variables (codes "some"))
    (a_step [] [] (entails z_as_formula (for_some z (z_as_formula and z_as_formula)) (shape tree)))
    (side_verdict free_side)
free_in_what_is_given = (
  0,
  inl (record plain_letters { P = z_as_formula; x = z }, ((((refl, tt, refl), refl), tt), refl)),
  λ m. ⊎_elim (λ y. wrong y.0 (ap left_in y.1.0.0.2) (ap right_in y.1.0.0.2) y.1.1.0)
      (λ none. none) m,
)
  where
    wrong : (l : Letters) → l.P ≡ z_as_formula
        → for_some l.x (same_as (as_term l.x) and l.P) ≡ for_some z (z_as_formula and z_as_formula)
        → (FreeIn (as_logic l.x) l.P → ⊥) → ⊥
    wrong l p q fresh = decide (var_eq (as_logic z) (as_logic l.x))
        (subst (λ (p : Formula). for_some l.x (same_as (as_term l.x) and p)
        ≡ for_some z (z_as_formula and z_as_formula)) p q)
      where
        decide : (d : Dec (as_logic z ≡ as_logic l.x))
            → existential l.x.sort (same_as (closing_at (var_eq (as_logic l.x) (as_logic l.x)))
            and same_as (closing_at {x = as_logic l.x} d))
            ≡ for_some z (z_as_formula and z_as_formula) → ⊥
        decide (yes same) r = fresh (subst (FreeIn (as_logic l.x)) (sym p) (sym same))
        decide (no other) r = absurd cc

-- forest_cases, with the names of the table and with one name for both variables
abbrev cases_named : List ℕ → List ℕ → Named
cases_named t f =
    disjunction (empty forest) (existential (logic t (shape tree))
    (existential (logic f (shape forest)) (concatenation whole
    (one_tree (same_as (variable (logic t (shape tree)))))
    (same_as (variable (logic f (shape forest)))))))

pub cases_of_a_forest : IsVerdict (readings_in nodes (codes "forest_cases"))
    (a_step [] [] (entails truth (nameless (cases_named (codes "t") (codes "f"))) (shape forest)))
    instance_verdict
cases_of_a_forest = inl (plain_letters, (((refl, tt, refl), refl), tt))

pub cases_with_one_name : IsVerdict (readings_in nodes (codes "forest_cases"))
    (a_step [] [] (entails truth (nameless (cases_named (codes "a") (codes "a"))) (shape forest)))
    instance_verdict
cases_with_one_name = inl (plain_letters, (((refl, tt, refl), refl), tt))
