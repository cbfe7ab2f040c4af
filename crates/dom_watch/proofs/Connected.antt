-- Judgements that are made of others.
use Rattle.std.proofs.Common.{◌≡◌, ◌∙◌, ℕ, zero, suc, ◌+◌, ◌≤◌, ◌<◌, Bool, true, false, not, ◌&&◌, ◌||◌, List, [], ◌∷◌, length, map, drop, get_or, Result, Ok, IfOk, refl, ap, sym, subst, arith, add-one, drop-cons}
use Rattle.std.proofs.Math.Decide.{ℕ_discrete}
use Rattle.std.specs.List.{list_any}
use Rattle.model_shapes.specs.Values.{Value}
use Rattle.model_shapes.specs.Things.{val}
use Rattle.model_shapes.specs.Trees.{Trees}
use Rattle.model_terms.specs.Variables.{Var, var_sort}
use Rattle.model_terms.specs.Stores.{Store}
use Rattle.model_formulas.specs.Formulas.{Named, whole, conjunction, disjunction, implication, existential, concatenation}
use Rattle.model_formulas.specs.Setting.{setting}
use Rattle.model_watch.specs.Watching.{holds}
use Rattle.dom_terms.specs.declared.memory.OutOfMemory.{OutOfMemory}
use Rattle.dom_watch.specs.declared.rows.Row.{Row}
use Rattle.dom_watch.specs.declared.bindings.Bindings.{Bindings}
use Rattle.dom_watch.specs.Rows.{Shows, value_at, values_at}
use Rattle.dom_watch.specs.Judged.{environment, Tells, TellsRoot}
use Rattle.dom_watch.proofs.Cuts.{front, back, one_at, all_but, no_cut, some_cut, no_root, some_root, shown_width}

module _ (all : List Row) (store : Store) (b : Bindings) where
  -- whether these trees meet a formula
  abbrev pub truth_of : Named → Trees → Bool
  truth_of p f = holds (values_at all) p (environment b store) f

  -- the answer that a judgement gave
  abbrev pub Said : Named → List Row → Bool → Type 0
  Said p rows told = (f : Trees) → Shows all rows f → told ≡ truth_of p f

  module _ (p q n : Named) (rows : List Row) (told : Bool) (answer : Result Bool OutOfMemory) where
    pub and_on : n ≡ conjunction p q → told ≡ true → Said p rows told
        → Tells all store b q rows answer
        → Tells all store b n rows answer
    and_on is e left right f h =
        subst (λ m. IfOk answer (λ y. y ≡ truth_of m f)) (sym is)
        (subst (λ x. IfOk answer (λ y. y ≡ (x && truth_of q f))) (sym e ∙ left f h) (right f h))

    pub and_off : n ≡ conjunction p q → told ≡ false → Said p rows told
        → Tells all store b n rows (Ok false)
    and_off is e left f h =
        subst (λ m. false ≡ truth_of m f) (sym is)
        (subst (λ x. false ≡ (x && truth_of q f)) (sym e ∙ left f h) refl)

    pub or_on : n ≡ disjunction p q → told ≡ false → Said p rows told
        → Tells all store b q rows answer
        → Tells all store b n rows answer
    or_on is e left right f h =
        subst (λ m. IfOk answer (λ y. y ≡ truth_of m f)) (sym is)
        (subst (λ x. IfOk answer (λ y. y ≡ (x || truth_of q f))) (sym e ∙ left f h) (right f h))

    pub or_off : n ≡ disjunction p q → told ≡ true → Said p rows told
        → Tells all store b n rows (Ok true)
    or_off is e left f h =
        subst (λ m. true ≡ truth_of m f) (sym is)
        (subst (λ x. true ≡ (x || truth_of q f)) (sym e ∙ left f h) refl)

    pub implies_on : n ≡ implication p q → told ≡ true → Said p rows told
        → Tells all store b q rows answer → Tells all store b n rows answer
    implies_on is e left right f h =
        subst (λ m. IfOk answer (λ y. y ≡ truth_of m f)) (sym is)
        (subst (λ x. IfOk answer (λ y. y ≡ (not x || truth_of q f))) (sym e ∙ left f h) (right f h))

    pub implies_off : n ≡ implication p q → told ≡ false → Said p rows told
        → Tells all store b n rows (Ok true)
    implies_off is e left f h =
        subst (λ m. true ≡ truth_of m f) (sym is)
        (subst (λ x. true ≡ (not x || truth_of q f)) (sym e ∙ left f h) refl)

  -- values for a variable, row by row
  module _ (x : Var) (p : Named) (rows : List Row) where
    abbrev pub with_value : Trees → Value → Bool
    with_value f v = holds (values_at all) p (setting x (val v) (environment b store)) f

    -- the rows before this place have fails value that serves
    abbrev pub SomeFrom : ℕ → Type 0
    SomeFrom n = (f : Trees) → Shows all rows f
        → list_any (with_value f) (map (value_at (var_sort x)) (drop n all))
        ≡ truth_of (existential x p) f

    ahead : (n : ℕ) (row : Row) → n < length all → row ≡ get_or all n row
        → drop n all ≡ row ∷ drop (n + 1) all
    ahead n row low is =
        rw (add-one, drop-cons all n row) (ap (λ q. q ∷ drop (suc n) all) (sym is))

    pub some_on : (n : ℕ) (row : Row) → n < length all → row ≡ get_or all n row
        → ((f : Trees) → Shows all rows f → false ≡ with_value f (value_at (var_sort x) row))
        → SomeFrom n → SomeFrom (n + 1)
    some_on n row low is fails so f h =
        ap (λ y. y || list_any (with_value f) (map (value_at (var_sort x)) (drop (n + 1) all)))
        (fails f h)
        ∙ ap (λ rs. list_any (with_value f) (map (value_at (var_sort x)) rs))
        (sym (ahead n row low is)) ∙ so f h

    pub some_found : (n : ℕ) (row : Row) → n < length all → row ≡ get_or all n row
        → ((f : Trees) → Shows all rows f → true ≡ with_value f (value_at (var_sort x) row))
        → SomeFrom n → Tells all store b (existential x p) rows (Ok true)
    some_found n row low is told so f h =
        ap (λ y. y || list_any (with_value f) (map (value_at (var_sort x)) (drop (n + 1) all)))
        (told f h)
        ∙ ap (λ rs. list_any (with_value f) (map (value_at (var_sort x)) rs))
        (sym (ahead n row low is)) ∙ so f h

    past_all : {A : Type 0} (xs : List A) (n : ℕ) → length xs ≤ n → drop n xs ≡ []
    past_all [] zero h = refl
    past_all [] (suc n) h = refl
    past_all (y ∷ xs) zero h = absurd (omega (arith, h))
    past_all (y ∷ xs) (suc n) h = past_all xs n (omega (arith, h))

    pub some_none : (n : ℕ) → length all ≤ n → SomeFrom n
        → Tells all store b (existential x p) rows (Ok false)
    some_none n le so f h =
        ap (λ rs. list_any (with_value f) (map (value_at (var_sort x)) rs))
        (sym (past_all all n le)) ∙ so f h

  -- cuts, and roots, place by place
  module _ (p q : Named) (rows : List Row) where
    abbrev pub at_cut : Trees → ℕ → Bool
    at_cut f m = truth_of p (front m f) && truth_of q (back m f)

    abbrev pub NoCutTo : ℕ → Type 0
    NoCutTo n = (f : Trees) → Shows all rows f → (m : ℕ) → m < n → at_cut f m ≡ false

    pub cut_start : NoCutTo 0
    cut_start f h m low = absurd (omega (arith, low))

    pub cut_on : (n : ℕ) → ((f : Trees) → Shows all rows f → at_cut f n ≡ false) → NoCutTo n
        → NoCutTo (n + 1)
    cut_on n fails so f h m low = by_case (ℕ_discrete m n)
      where
        by_case : Dec (m ≡ n) → at_cut f m ≡ false
        by_case (yes e) = subst (λ k. at_cut f k ≡ false) (sym e) (fails f h)
        by_case (no d) = so f h m (omega (arith, low, d))

    pub cut_found : (n : ℕ) → n ≤ length rows
        → ((f : Trees) → Shows all rows f → at_cut f n ≡ true)
        → Tells all store b (concatenation whole p q) rows (Ok true)
    cut_found n le told f h =
        sym (some_cut (λ x y. truth_of p x && truth_of q y) f n
        (omega (arith, le, shown_width all rows f h)) (told f h))

    pub cut_none : (n : ℕ) → length rows < n → NoCutTo n
        → Tells all store b (concatenation whole p q) rows (Ok false)
    cut_none n le so f h =
        sym (no_cut (λ x y. truth_of p x && truth_of q y) f
        (λ m low. so f h m (omega (arith, le, low, shown_width all rows f h))))

    abbrev pub at_root : Trees → ℕ → Bool
    at_root f m = truth_of p (one_at m f) && truth_of q (all_but m f)

    abbrev pub NoRootTo : ℕ → Type 0
    NoRootTo n = (f : Trees) → Shows all rows f → (m : ℕ) → m < n → at_root f m ≡ false

    pub root_start : NoRootTo 0
    root_start f h m low = absurd (omega (arith, low))

    pub root_on : (n : ℕ) → ((f : Trees) → Shows all rows f → at_root f n ≡ false) → NoRootTo n
        → NoRootTo (n + 1)
    root_on n fails so f h m low = by_case (ℕ_discrete m n)
      where
        by_case : Dec (m ≡ n) → at_root f m ≡ false
        by_case (yes e) = subst (λ k. at_root f k ≡ false) (sym e) (fails f h)
        by_case (no d) = so f h m (omega (arith, low, d))

    pub root_found : (n : ℕ) → n < length rows
        → ((f : Trees) → Shows all rows f → at_root f n ≡ true)
        → TellsRoot all store b p q rows (Ok true)
    root_found n le told f h =
        sym (some_root (λ x y. truth_of p x && truth_of q y) f n
        (omega (arith, le, shown_width all rows f h)) (told f h))

    pub root_none : (n : ℕ) → length rows ≤ n → NoRootTo n
        → TellsRoot all store b p q rows (Ok false)
    root_none n le so f h =
        sym (no_root (λ x y. truth_of p x && truth_of q y) f
        (λ m low. so f h m (omega (arith, le, low, shown_width all rows f h))))

-- of two that were asked one after the other
pub both_false_first : (x y : Bool) → false ≡ x → (x && y) ≡ false
both_false_first true y e = absurd (cc)
both_false_first false y e = refl

pub both_false_second : (x y : Bool) → true ≡ x → false ≡ y → (x && y) ≡ false
both_false_second true y e h = sym h
both_false_second false y e h = refl

pub both_true : (x y : Bool) → true ≡ x → true ≡ y → (x && y) ≡ true
both_true true y e h = sym h
both_true false y e h = absurd (cc)
