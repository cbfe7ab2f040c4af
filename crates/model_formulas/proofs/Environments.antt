-- There is a proper environment, and truth doesn't entail falsity at any sort of formulas.
use Rattle.std.proofs.Common.{◌≡◌, refl, sym, ◌∙◌, Bool, true, false}
use Rattle.model_shapes.specs.Trees.{Trees}
use Rattle.model_shapes.specs.Shapes.{Shaped}
use Rattle.model_shapes.specs.Sorts.{Sort, value, shape, context, is_sort}
use Rattle.model_shapes.specs.Things.{Thing, val, trees, Fits}
use Rattle.model_shapes.specs.Values.{null}
use Rattle.model_shapes.proofs.Truth.{false≢true}
use Rattle.model_shapes.proofs.Inhabited.{some_thing}
use Rattle.model_terms.specs.Variables.{prog, logic, bound}
use Rattle.model_formulas.specs.Formulas.{truth, falsity}
use Rattle.model_formulas.specs.WellSorted.{is_form}
use Rattle.model_formulas.specs.Satisfaction.{Environment, Proper, Entails}

-- some thing of the sort, where it is one
chosen : (s : Sort) (b : Bool) → is_sort s ≡ b → Thing
chosen s true e = (some_thing s e).0
chosen s false e = val null

-- some thing for each variable
pub plain_env : Environment
plain_env (prog x s) = (some_thing (value s) refl).0
plain_env (logic x s) = chosen s (is_sort s) refl
plain_env (bound i s) = val null

-- of its sort
pub plain_env-proper : Proper plain_env
unfolding plain_env chosen
plain_env-proper =
    record {
      programs = λ x s. (some_thing (value s) refl).1;
      logics = λ x s e.
          chosen_fits s (is_sort s) refl e;
    }
  where
    chosen_fits : (s : Sort) (b : Bool) (q : is_sort s ≡ b) → is_sort s ≡ true
        → Fits s (chosen s b q)
    chosen_fits s true q e = (some_thing s q).1
    chosen_fits s false q e = false≢true (sym q ∙ e)

-- some shape or context of each sort at which formulas are judged
some_shape : (s : Sort) → is_form s ≡ true → (r : Trees) × Shaped s r
some_shape (value v) e = false≢true e
some_shape (shape k) e = shape_of (some_thing (shape k) refl)
  where
    shape_of : (x : Thing) × Fits (shape k) x → (r : Trees) × Shaped (shape k) r
    shape_of (val v, f) = absurd f
    shape_of (trees r, f) = (r, f)
some_shape (context h k) e = shape_of (some_thing (context h k) e)
  where
    shape_of : (x : Thing) × Fits (context h k) x → (r : Trees) × Shaped (context h k) r
    shape_of (val v, f) = absurd f
    shape_of (trees r, f) = (r, f.0)

-- truth doesn't entail falsity
pub consistent : (s : Sort) → is_form s ≡ true → Entails truth falsity s → ⊥
consistent s e entailed =
    let x : (r : Trees) × Shaped s r = some_shape s e in
    entailed plain_env plain_env-proper x.0 x.1 tt
