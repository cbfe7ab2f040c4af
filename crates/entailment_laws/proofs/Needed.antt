-- What the table asks of sorts is needed: hole_left and hole_right where the sort of the hole is
-- another, and is_mono where that of the variable is no sort, would not hold.
use Rattle.std.proofs.Common.{◌&&◌, Bool, false, None, ◌≡◌, List, ◌∷◌, not, true, pos, refl, sym, ap, arith, ◌∙◌, ℕ}
use Rattle.model_shapes.specs.Tests.{same_sort}
use Rattle.model_shapes.specs.Sorts.{Sort, value, shape, context, tree, forest, grove, is_sort}
use Rattle.model_shapes.specs.Values.{int}
use Rattle.model_shapes.specs.Trees.{Trees, none, hole, width}
use Rattle.model_shapes.specs.Shapes.{Shaped}
use Rattle.model_shapes.specs.Things.{Thing, val, trees, Fits}
use Rattle.model_shapes.proofs.Basics.{width-beside, beside-none}
use Rattle.model_shapes.proofs.Inhabited.{some_thing, fits-is_sort}
use Rattle.model_shapes.proofs.Truth.{false≢true, both_true}
use Rattle.model_formulas.specs.WellSorted.{is_form, first_fault, flags}
use Rattle.std.specs.List.{position_from}
use Rattle.rule_table.specs.Conditions.{TermAt}
use Rattle.model_terms.specs.Variables.{logic}
use Rattle.model_terms.specs.Terms.{literal, variable}
use Rattle.model_formulas.specs.Formulas.{Named, Formula, truth, falsity, negation, empty, whole, bare_hole, concatenation, application, hole_adjoint, length_is, value_meets}
use Rattle.model_formulas.specs.Satisfaction.{Environment, Entails, Meets, Proper}
use Rattle.model_formulas.proofs.Environments.{plain_env, plain_env-proper}
use Rattle.entailment_laws.proofs.Parts.{none-Shaped}
use Rattle.entailment_laws.proofs.Shared.{hole-Shaped, split}
use Rattle.entailment_laws.proofs.Pieces.{put_in}

-- HOLES
no_trees : Shaped (shape forest) none
no_trees = none-Shaped forest (λ n. tt)

tree_hole : Shaped (context tree forest) (hole none)
tree_hole = record {
  well_formed = (hole-Shaped tree).well_formed;
  width_fits = tt;
  holes_fit = record { one = refl; stands = refl };
}

zero≢one : val (int (pos 0)) ≡ val (int (pos 1)) → ⊥
zero≢one e = cc

-- some data put into the hole isn't one tree
abbrev not_one : Formula
not_one = negation (hole_adjoint truth (length_is (literal (int (pos 1)))))

pub hole_right_fails :
    Entails (application forest not_one (bare_hole forest)) not_one (context tree forest) → ⊥
hole_right_fails a =
    a plain_env plain_env-proper (hole none) tree_hole
    (put_in forest (context tree forest) (hole none) not_one (bare_hole forest) plain_env
    (hole none) (hole none) (hole-Shaped forest) tree_hole refl
    (λ m. zero≢one (m none no_trees tt no_trees)) refl)
    (λ d wd md wf.
    ap (λ n. val (int (pos n))) (width-beside d none ∙ omega (arith, wd.width_fits)))

-- it has no empty part of the sort
abbrev no_empty_part : Formula
no_empty_part = negation (concatenation whole (empty forest) truth)

pub hole_left_fails :
    Entails (application tree (bare_hole tree) no_empty_part) no_empty_part (shape forest) → ⊥
hole_left_fails a = with_tree (some_thing (shape tree) refl)
  where
    at : (r : Trees) → Shaped (shape tree) r → ⊥
    at r w =
        let wr : Shaped (shape forest) r =
        record { well_formed = w.well_formed; width_fits = tt; holes_fit = w.holes_fit } in
        a plain_env plain_env-proper r wr
        (put_in tree (shape forest) r (bare_hole tree) no_empty_part plain_env (hole none) r
        tree_hole w (sym (beside-none r)) refl
        (λ m. m (λ x. x.2 (λ y. absurd (omega (arith, x.1.width_fits, ap width y.2.1))))))
        (split forest (shape forest) (shape forest) (Meets (empty forest) plain_env)
        (Meets truth plain_env) r none r no_trees wr refl refl tt)

    with_tree : (x : Thing) × Fits (shape tree) x → ⊥
    with_tree (val v, w) = absurd w
    with_tree (trees r, w) = at r w

-- A VARIABLE OF WHAT IS NO SORT
-- no tree has a hole for a grove, so there a proper environment may have anything
abbrev spoiled : Environment
spoiled (logic name (context grove tree)) = trees none
spoiled x = plain_env x

spoiled-proper : Proper spoiled
spoiled-proper = record { programs = plain_env-proper.programs; logics = logics }
  where
    logics : (name : List ℕ) (s : Sort) → is_sort s ≡ true → Fits s (spoiled (logic name s))
    logics name (value v) h = plain_env-proper.logics name (value v) h
    logics name (shape k) h = plain_env-proper.logics name (shape k) h
    logics name (context tree k) h = plain_env-proper.logics name (context tree k) h
    logics name (context forest k) h = plain_env-proper.logics name (context forest k) h
    logics name (context grove tree) h = false≢true h
    logics name (context grove forest) h = false≢true h
    logics name (context grove grove) h = plain_env-proper.logics name (context grove grove) h

-- whatever entails whatever there
vacuous : (p q : Formula) → Entails p q (context grove tree)
vacuous p q e pr r w m = false≢true (fits-is_sort (context grove tree) (trees r) (w, tt))

pub is_mono_fails : (name : List ℕ) → ((p q : Formula) → Entails p q (context grove tree)
    → Entails (value_meets (context grove tree) (variable (logic name (context grove tree))) p)
    (value_meets (context grove tree) (variable (logic name (context grove tree))) q)
    (shape forest)) → ⊥
is_mono_fails name a =
    a truth falsity (vacuous truth falsity) spoiled spoiled-proper none no_trees tt

-- what is written has no fault, and so asks for what is_mono asks
first-met : (b : Bool) (bs : List Bool) → position_from not 0 (b ∷ bs) ≡ None → b ≡ true
first-met true bs e = refl
first-met false bs e = absurd cc

pub is_mono_met : (name : List ℕ) (u s : Sort) (p : Named)
    → first_fault (value_meets u (variable (logic name u)) p) s ≡ None
    → TermAt u (variable (logic name u))
is_mono_met name u s p e = at u (both_true (is_form u) (same_sort u u)
    (both_true (is_form s) (is_form u && same_sort u u)
    (first-met (is_form s && (is_form u && same_sort u u)) (flags p u) e)).1)
  where
    at : (u : Sort) → (is_form u ≡ true) × (same_sort u u ≡ true)
        → TermAt u (variable (logic name u))
    at (value v) h = false≢true h.0
    at (shape k) h = (h.1, refl)
    at (context i k) h = (h.1, h.0)
