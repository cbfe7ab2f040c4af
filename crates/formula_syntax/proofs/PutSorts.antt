-- What takes the place of a logic variable of no value sort is a variable of its sort; and a
-- well-sorted formula names no variable of a value sort as a formula.
use Rattle.std.proofs.Common.{◌≡◌, ◌∙◌, ℕ, zero, suc, ◌+◌, List, [], ◌∷◌, ◌++◌, Bool, true, false, not, ◌&&◌, refl, sym, ap, subst, None}
use Rattle.std.specs.List.{list_all, position_from}
use Rattle.std.proofs.lemmas.List.Folds.{list_all-append}
use Rattle.model_shapes.specs.Tests.{same_sort}
use Rattle.model_shapes.specs.Sorts.{Sort, value, shape, context, ValueSort, tree, forest, grove, outer, inner, with_outer}
use Rattle.model_terms.specs.Variables.{Var, prog, logic, bound, var_sort}
use Rattle.std.proofs.lemmas.Bool.{and_parts}
use Rattle.model_shapes.proofs.Truth.{false≢true}
use Rattle.model_shapes.proofs.Tests.{same_sort-is, same_sort-refl}
use Rattle.model_terms.specs.VariableTests.{var_eq}
use Rattle.model_terms.specs.Terms.{Term, literal, variable, sum, difference, appended, Substitution, raised, raised_var, term_with, under_binder}
use Rattle.model_formulas.specs.Formulas.{Named, truth, falsity, conjunction, disjunction, implication, negation, existential, universal, equality, at_most, empty, bare_hole, node_formula, one_tree, one_root, concatenation, grove_sum, grove_sum_hole, application, hole_adjoint, context_adjoint, same_as, length_is, value_meets, left_sort, right_sort}
use Rattle.model_formulas.specs.Nameless.{names, naming}
use Rattle.model_formulas.specs.Deciding.{name_or}
use Rattle.model_formulas.specs.WellSorted.{variable_at, is_form, flags, first_fault}
use Rattle.dom_terms.specs.declared.terms.Term.TheVariants as t
use Rattle.dom_terms.specs.declared.terms.Term as program
use Rattle.dom_terms.specs.declared.terms.LogicVar.{LogicVar}
use Rattle.dom_terms.specs.Sorts.{value_sort_of}
use Rattle.dom_terms.specs.Terms.{term_of}
use Rattle.formula_syntax.specs.Substitution.{replaced_or, replacing_each, below, may_replace, pairs_fit, is_value, is_no_value, names_no_value}

-- a variable of the sort
abbrev pub has_place : Sort → Term → Bool
has_place s (variable x) = same_sort s (var_sort x)
has_place s term = false

-- NAMES keep their sorts
raised-sort : (x : Var) → var_sort (raised_var x) ≡ var_sort x
raised-sort (prog x u) = refl
raised-sort (logic x u) = refl
raised-sort (bound i u) = refl

named-sort : (xs : List Var) (y : Var) → var_sort (names xs y) ≡ var_sort y
named-sort [] y = refl
named-sort (x ∷ xs) y = nearest (named-sort xs y) (var_eq y x)
  where
    nearest : var_sort (names xs y) ≡ var_sort y → (d : Dec (y ≡ x))
        → var_sort (name_or (names xs y) d) ≡ var_sort y
    nearest outer (yes q) = ap var_sort (sym q)
    nearest outer (no n) = raised-sort (names xs y) ∙ outer

-- and so do terms below binders
pub named-place : (xs : List Var) (s : Sort) (t : Term)
    → has_place s (term_with (naming xs) t) ≡ has_place s t
named-place xs s (literal v) = refl
named-place xs s (variable x) = ap (same_sort s) (named-sort xs x)
named-place xs s (sum a b) = refl
named-place xs s (difference a b) = refl
named-place xs s (appended a b) = refl

raised-place : (s : Sort) (t : Term) → has_place s t ≡ true → has_place s (raised t) ≡ true
raised-place s (literal v) e = e
raised-place s (variable x) e = ap (same_sort s) (raised-sort x) ∙ e
raised-place s (sum a b) e = e
raised-place s (difference a b) e = e
raised-place s (appended a b) e = e

-- WHAT IS PUT IN: a substitution that puts variables of the sort for those of the sort
abbrev Keeps : Sort → Substitution → Type 0
Keeps s f = (x : Var) → var_sort x ≡ s → has_place s (f x) ≡ true

itself : (s : Sort) (x : Var) → var_sort x ≡ s → has_place s (variable x) ≡ true
itself s x e = subst (λ z. same_sort z (var_sort x) ≡ true) e (same_sort-refl (var_sort x))

keeps-under : (s : Sort) (f : Substitution) → Keeps s f → Keeps s (under_binder f)
keeps-under s f k (prog x u) e = raised-place s (f (prog x u)) (k (prog x u) e)
keeps-under s f k (logic x u) e = raised-place s (f (logic x u)) (k (logic x u) e)
keeps-under s f k (bound zero u) e = itself s (bound zero u) e
keeps-under s f k (bound (suc i) u) e = raised-place s (f (bound i u)) (k (bound i u) e)

keeps-below : (s : Sort) (xs : List Var) (f : Substitution) → Keeps s f → Keeps s (below xs f)
keeps-below s [] f k = k
keeps-below s (x ∷ xs) f k = keeps-under s (below xs f) (keeps-below s xs f k)

at-place : (s : Sort) (t : Term) → variable_at s t ≡ true → has_place s t ≡ true
at-place s (variable (logic x u)) e = e
at-place s (variable (prog x u)) e = false≢true e
at-place s (variable (bound i u)) e = false≢true e
at-place s (literal v) e = false≢true e
at-place s (sum a b) e = false≢true e
at-place s (difference a b) e = false≢true e
at-place s (appended a b) e = false≢true e

fitting-place : (s : Sort) → is_value s ≡ false → (x : Var) (t : Term) → var_sort x ≡ s
    → may_replace x t ≡ true → has_place s t ≡ true
fitting-place s n (prog x u) t e m = false≢true (sym n ∙ ap is_value (sym e))
fitting-place s n (logic x (value u)) t e m = false≢true (sym n ∙ ap is_value (sym e))
fitting-place s n (logic x (shape k)) t e m =
    subst (λ z. has_place z t ≡ true) e (at-place (shape k) t m)
fitting-place s n (logic x (context h k)) t e m =
    subst (λ z. has_place z t ≡ true) e (at-place (context h k) t m)
fitting-place s n (bound i u) t e m = false≢true m

keeps-pairs : (s : Sort) → is_value s ≡ false → (pairs : List (Var × Term)) → pairs_fit pairs ≡ true
    → Keeps s (replacing_each pairs)
keeps-pairs s n [] m x e = itself s x e
keeps-pairs s n (pair ∷ pairs) m x e = first (λ m. keeps-pairs s n pairs m x e) (var_eq x pair.0)
  where
    fits : (may_replace pair.0 pair.1 ≡ true) × (pairs_fit pairs ≡ true)
    fits = and_parts (may_replace pair.0 pair.1) (pairs_fit pairs) m

    first : (pairs_fit pairs ≡ true → has_place s (replacing_each pairs x) ≡ true)
        → (d : Dec (x ≡ pair.0))
        → has_place s (replaced_or {x = pair.0} {y = x} pair.1 (replacing_each pairs x) d) ≡ true
    first later (yes q) = fitting-place s n pair.0 pair.1 (ap var_sort (sym q) ∙ e) fits.0
    first later (no m') = later fits.1

-- below binders, what stands for a variable of the sort is one
pub put-place : (s : Sort) (n : is_value s ≡ false) (xs ys : List Var) (pairs : List (Var × Term))
    (x : Var) (t : Term) → pairs_fit pairs ≡ true → var_sort x ≡ s
    → below xs (replacing_each pairs) (names xs x) ≡ term_with (naming ys) t → has_place s t ≡ true
put-place s n xs ys pairs x t m e q =
    sym (named-place ys s t) ∙ ap (has_place s) (sym q)
    ∙ keeps-below s xs (replacing_each pairs) (keeps-pairs s n pairs m) (names xs x)
    (named-sort xs x ∙ e)

-- WELL-SORTED FORMULAS
none-false : (xs : List Bool) (n : ℕ) → position_from not n xs ≡ None → list_all (λ b. b) xs ≡ true
none-false [] n e = refl
none-false (true ∷ xs) n e = none-false xs (n + 1) e
none-false (false ∷ xs) n e = absurd cc

abbrev All : List Bool → Type 0
All xs = list_all (λ b. b) xs ≡ true

rest : (b : Bool) (xs : List Bool) → All (b ∷ xs) → All xs
rest b xs e = (and_parts b (list_all (λ c. c) xs) e).1

two : (b : Bool) (xs ys : List Bool) (p q : Bool) → (All xs → p ≡ true) → (All ys → q ≡ true)
    → All (b ∷ xs ++ ys) → (p && q) ≡ true
two b xs ys p q f g e =
    let h = and_parts (list_all (λ c. c) xs) (list_all (λ c. c) ys)
    (sym (list_all-append (λ c. c) xs ys) ∙ rest b (xs ++ ys) e) in
    λ j. f h.0 j && g h.1 j

no_value : (u : Sort) → is_form u ≡ true → not (is_value u) ≡ true
no_value (value v) e = e
no_value (shape k) e = refl
no_value (context h k) e = refl

placed : (s : Sort) (a : Term) → is_form s ≡ true → variable_at s a ≡ true → is_no_value a ≡ true
placed s (variable (logic x u)) f e =
    no_value u (subst (λ z. is_form z ≡ true) (same_sort-is s u e) f)
placed s (variable (prog x u)) f e = false≢true e
placed s (variable (bound i u)) f e = false≢true e
placed s (literal v) f e = refl
placed s (sum a b) f e = refl
placed s (difference a b) f e = refl
placed s (appended a b) f e = refl

no-value : (p : Named) (s : Sort) → All (flags p s) → names_no_value p ≡ true
no-value truth s e = refl
no-value falsity s e = refl
no-value (conjunction p q) s e = two _ (flags p s) (flags q s) _ _ (no-value p s) (no-value q s) e
no-value (disjunction p q) s e = two _ (flags p s) (flags q s) _ _ (no-value p s) (no-value q s) e
no-value (implication p q) s e = two _ (flags p s) (flags q s) _ _ (no-value p s) (no-value q s) e
no-value (negation p) s e = no-value p s (rest _ (flags p s) e)
no-value (existential x p) s e = no-value p s (rest _ (flags p s) e)
no-value (universal x p) s e = no-value p s (rest _ (flags p s) e)
no-value (equality a b) s e = refl
no-value (at_most a b) s e = refl
no-value (empty k) s e = refl
no-value (bare_hole h) s e = refl
no-value (node_formula name number p list) s e =
    no-value p (with_outer forest s) (rest _ (flags p (with_outer forest s)) e)
no-value (one_tree p) s e = no-value p (with_outer tree s) (rest _ (flags p (with_outer tree s)) e)
no-value (one_root p) s e = no-value p (with_outer tree s) (rest _ (flags p (with_outer tree s)) e)
no-value (concatenation side p q) s e =
    two _ (flags p (left_sort side s)) (flags q (right_sort side s)) _ _
    (no-value p (left_sort side s)) (no-value q (right_sort side s)) e
no-value (grove_sum p q) s e =
    two _ (flags p s) (flags q s) _ _
    (no-value p s) (no-value q s) e
no-value (grove_sum_hole p q) s e =
    two _ (flags p s) (flags q (shape grove)) _ _
    (no-value p s) (no-value q (shape grove)) e
no-value (application h p q) s e =
    two _ (flags p (context h (outer s))) (flags q (with_outer h s)) _ _
    (no-value p (context h (outer s))) (no-value q (with_outer h s)) e
no-value (hole_adjoint p q) s e =
    two _ (flags p (shape (inner s))) (flags q (shape (outer s))) _ _
    (no-value p (shape (inner s))) (no-value q (shape (outer s))) e
no-value (context_adjoint k p q) s e =
    two _ (flags p (context (outer s) k)) (flags q (shape k)) _ _
    (no-value p (context (outer s) k)) (no-value q (shape k)) e
no-value (same_as a) s e =
    let h = and_parts (is_form s) (variable_at s a)
    (and_parts (is_form s && variable_at s a) true e).0 in
    placed s a h.0 h.1
no-value (length_is a) s e = refl
no-value (value_meets u a p) s e =
    let f = and_parts (is_form s && (is_form u && variable_at u a)) (list_all (λ b. b) (flags p u))
    e in
    let g = and_parts (is_form s) (is_form u && variable_at u a) f.0 in
    let h = and_parts (is_form u) (variable_at u a) g.1 in
    λ j. placed u a h.0 h.1 j && no-value p u f.1 j

pub sorted-names : (p : Named) (s : Sort) → first_fault p s ≡ None → names_no_value p ≡ true
sorted-names p s e = no-value p s (none-false (flags p s) 0 e)

-- RULES: both parts of a test, and what a test denies
pub both-parts : (a b : Bool) → (a && b) ≡ true → (a ≡ true) × (b ≡ true)
both-parts a b e = and_parts a b e

pub denied : (b : Bool) → not b ≡ true → b ≡ false
denied true e = false≢true e
denied false e = refl

pub ruleset part_rules = (both-parts, denied)

-- IN THE PROGRAM: a logic variable in the place of one is of its sort
pub place-sort : (s u : Sort) (name : List ℕ) → has_place s (variable (logic name u)) ≡ true → u ≡ s
place-sort s u name e = sym (same_sort-is s u e)

-- and no other term is there
no-prog : (s : Sort) (name : List ℕ) (u : ValueSort) → is_value s ≡ false
    → has_place s (variable (prog name u)) ≡ true → ⊥
no-prog (value v) name u n e = false≢true (sym n)
no-prog (shape k) name u n e = false≢true e
no-prog (context h k) name u n e = false≢true e

pub only-logic : (s : Sort) (a : program.Term) → is_value s ≡ false
    → has_place s (term_of a) ≡ true → ((x : LogicVar) → a ≡ t.Logic x → ⊥) → ⊥
only-logic s (t.Prog x) n e h = no-prog s x.name (value_sort_of x.sort) n e
only-logic s (t.Logic x) n e h = h x refl
only-logic s t.NullNode n e h = false≢true e
only-logic s t.NullList n e h = false≢true e
only-logic s (t.Int a) n e h = false≢true e
only-logic s (t.Str a) n e h = false≢true e
only-logic s (t.Bool a) n e h = false≢true e
only-logic s (t.Add' p a q b) n e h = false≢true e
only-logic s (t.Sub' p a q b) n e h = false≢true e
only-logic s (t.Cat' p a q b) n e h = false≢true e
