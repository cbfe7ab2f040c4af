-- What the tests of forms say.
use Rattle.std.proofs.Common.{◌≡◌, ◌∙◌, Bool, true, false, ◌&&◌, ◌||◌, cond, List, [], ◌∷◌, map, refl, sym, ap, ap₂}
use Rattle.model_shapes.specs.Sorts.{forest, grove}
use Rattle.model_formulas.specs.Formulas.{Named, Formula, empty, grove_sum}
use Rattle.model_formulas.specs.Nameless.{nameless}
use Rattle.model_formulas.specs.SameFormulas.{same_formula}
use Rattle.assistant_laws.specs.Conjuncts.{is_one_of}
use Rattle.assistant_laws.specs.ConjunctPlans.{same_named}
use Rattle.assistant_laws.specs.Forms.{row_of, tree_form, forest_parts, grove_parts, same_parts, same_up_to_order}
use Rattle.assistant_laws.specs.FormPlans.{tidied, absorbed, absorbed_roots, sum_of, without_named}
use Rattle.assistant_laws.proofs.Forms.{tidied-form, tidied-nameless, absorbed-row, absorbed-nameless, absorbed_roots-sum, grove_parts-nameless, without-nameless}
use Rattle.step_filler.specs.Roots.{has_root, without_root, same_roots}

-- TREES
form-nameless : (p : Named) → nameless (tidied p) ≡ tree_form (nameless p)
form-nameless p = sym (tidied-nameless p) ∙ tidied-form (nameless p)

pub same_tree_forms : (p q : Named) → same_named (tidied p) (tidied q)
    ≡ same_formula (tree_form (nameless p)) (tree_form (nameless q))
same_tree_forms p q = ap₂ same_formula (form-nameless p) (form-nameless q)

-- FORESTS
same-rows : (ps qs : List Formula) → same_formula (row_of ps) (row_of qs) ≡ same_parts ps qs
same-rows [] [] = refl
same-rows [] (q ∷ qs) = refl
same-rows (p ∷ ps) [] = refl
same-rows (p ∷ ps) (q ∷ qs) = ap (λ b. same_formula p q && b) (same-rows ps qs)

row-nameless : (p : Named)
    → nameless (absorbed p (empty forest)) ≡ row_of (forest_parts (nameless p))
row-nameless p = sym (absorbed-nameless p (empty forest)) ∙ absorbed-row (nameless p) (empty forest)

pub same_forest_forms : (p q : Named)
    → same_named (absorbed p (empty forest)) (absorbed q (empty forest))
    ≡ same_parts (forest_parts (nameless p)) (forest_parts (nameless q))
same_forest_forms p q = ap₂ same_formula (row-nameless p) (row-nameless q)
    ∙ same-rows (forest_parts (nameless p)) (forest_parts (nameless q))

-- GROVES
has-root : (ps : List Named) (q : Named)
    → has_root (sum_of ps) q ≡ is_one_of (map nameless ps) (nameless q)
has-root [] q = refl
has-root (p ∷ ps) q = ap (λ b. same_named q p || b) (has-root ps q)

pub without-root : (ps : List Named) (q : Named)
    → without_root (sum_of ps) q ≡ sum_of (without_named q ps)
without-root [] q = refl
without-root (p ∷ ps) q = cases (same_named q p) (without-root ps q)
  where
    cases : (b : Bool) → without_root (sum_of ps) q ≡ sum_of (without_named q ps)
        → cond b (sum_of ps) (grove_sum p (without_root (sum_of ps) q))
        ≡ sum_of (cond b ps (p ∷ without_named q ps))
    cases true e = refl
    cases false e = ap (grove_sum p) e

same-roots : (ps qs : List Named)
    → same_roots (sum_of ps) (sum_of qs) ≡ same_up_to_order (map nameless ps) (map nameless qs)
same-roots [] [] = refl
same-roots (p ∷ ps) [] = refl
same-roots [] (q ∷ qs) = refl
same-roots (p ∷ ps) (q ∷ qs) =
    ap₂ (λ a b. a && b) (has-root (p ∷ ps) q)
    (ap (λ row. same_roots row (sum_of qs)) (without-root (p ∷ ps) q)
    ∙ same-roots (without_named q (p ∷ ps)) qs
    ∙ ap (λ rest. same_up_to_order rest (map nameless qs)) (without-nameless q (p ∷ ps)))

pub same_grove_forms : (p q : Named)
    → same_roots (absorbed_roots p (empty grove)) (absorbed_roots q (empty grove))
    ≡ same_up_to_order (grove_parts (nameless p)) (grove_parts (nameless q))
same_grove_forms p q = ap₂ same_roots (absorbed_roots-sum p) (absorbed_roots-sum q)
    ∙ same-roots (grove_parts p) (grove_parts q)
    ∙ ap₂ same_up_to_order (sym (grove_parts-nameless p)) (sym (grove_parts-nameless q))

-- what each sort's test says
pub ruleset form_rules = (same_tree_forms, same_forest_forms, same_grove_forms)
