-- A formula that can be watched, is well sorted and passes no limit is ready to be judged.
use Rattle.std.proofs.Common.{◌≡◌, ◌∙◌, ⊎_elim, ℕ, ◌+◌, Bool, true, false, not, ◌&&◌, Option, Some, None, List, [], ◌∷◌, ◌++◌, cond, refl, sym, subst}
use Rattle.std.specs.Prelude.{nat_le}
use Rattle.std.specs.List.{list_all, filter, position_from}
use Rattle.model_limits.specs.Limits.{LimitKind, watch_limit, standard_limits}
use Rattle.model_limits.specs.FirstOf.{or_else, unless}
use Rattle.model_shapes.specs.Sorts.{Sort, shape, tree, forest, grove, ValueSort, node_sort, list_sort, int_sort, str_sort, bool_sort, with_outer}
use Rattle.model_shapes.proofs.Truth.{false≢true, both_true, and_from}
use Rattle.model_terms.specs.Variables.{Var, prog, logic, bound}
use Rattle.model_terms.specs.Terms.{Term, literal, variable, sum, difference, appended}
use Rattle.model_terms.specs.TermSorts.{has_sort, both_have, is_plain}
use Rattle.model_terms.specs.Stores.{Store}
use Rattle.model_terms.specs.TermLimits.{term_limit, terms_limit}
use Rattle.model_terms.proofs.Computing.{all-append}
use Rattle.model_formulas.specs.Formulas.{Named, whole, conjunction, disjunction, implication, negation, existential, equality, at_most, node_formula, one_tree, one_root, concatenation, grove_sum, length_is, left_sort, right_sort}
use Rattle.model_formulas.specs.WellSorted.{flags, one_sort, both_logic_of_one_sort, is_form}
use Rattle.model_watch.specs.Watchable.{watch_flags, is_given, weight}
use Rattle.model_watch.specs.WatchLimits.{terms_by_parts, watching_limit}
use Rattle.model_watch.proofs.Deciding.{either_true}
use Rattle.dom_watch.specs.Evaluating.{Evaluates, AllEvaluate}
use Rattle.dom_watch.specs.Judged.{IsTold, IsReady}
use Rattle.dom_watch.proofs.TermLimits.{limit_of_two, limit_of_more}

-- all flags are set
abbrev All : List Bool → Type 0
All xs = list_all (λ b. b) xs ≡ true

none_fails : (xs : List Bool) (n : ℕ) → position_from not n xs ≡ None → All xs
none_fails [] n h = refl
none_fails (true ∷ xs) n h = none_fails xs (n + 1) h
none_fails (false ∷ xs) n h = absurd (cc)

-- a term of a sort can be evaluated
sorted : (s : ValueSort) (a : Term) → has_sort s a ≡ true → Evaluates a
sorted s a h plain = (s, and_from (has_sort s a) (is_plain a) h plain)

both_sorted : (s : ValueSort) (a b : Term) → both_have s a b ≡ true → Evaluates a × Evaluates b
both_sorted s a b h =
    let w = both_true (has_sort s a) (has_sort s b) h in (sorted s a w.0, sorted s b w.1)

logic_sorted : (a b : Term) → both_logic_of_one_sort a b ≡ true → Evaluates a × Evaluates b
logic_sorted (variable (logic x s)) (variable (logic y u)) h =
    (λ plain. false≢true plain, λ plain. false≢true plain)
logic_sorted a b h = false≢true h

one_sorted : (a b : Term) → one_sort a b ≡ true → Evaluates a × Evaluates b
one_sorted a b h =
    ⊎_elim (both_sorted node_sort a b) (λ h. ⊎_elim (both_sorted list_sort a b)
    (λ h. ⊎_elim (both_sorted int_sort a b) (λ h. ⊎_elim (both_sorted str_sort a b)
    (λ h. ⊎_elim (both_sorted bool_sort a b) (logic_sorted a b)
    (either_true (both_have bool_sort a b) _ h))
    (either_true (both_have str_sort a b) _ h))
    (either_true (both_have int_sort a b) _ h))
    (either_true (both_have list_sort a b) _ h))
    (either_true (both_have node_sort a b) _ h)

own : (b : Bool) (xs : List Bool) → All (b ∷ xs) → (b ≡ true) × All xs
own b xs h = both_true b (list_all (λ b. b) xs) h

two : (b : Bool) (xs ys : List Bool) → All (b ∷ (xs ++ ys)) → All xs × All ys
two b xs ys h = all-append (λ b. b) xs ys (own b (xs ++ ys) h).1

-- each term of a formula that is well sorted can be evaluated
pub all_evaluate : (p : Named) (s : Sort) → All (flags p s) → AllEvaluate p
all_evaluate (conjunction p q) s h =
    let w = two _ (flags p s) (flags q s) h in (all_evaluate p s w.0, all_evaluate q s w.1)
all_evaluate (disjunction p q) s h =
    let w = two _ (flags p s) (flags q s) h in (all_evaluate p s w.0, all_evaluate q s w.1)
all_evaluate (implication p q) s h =
    let w = two _ (flags p s) (flags q s) h in (all_evaluate p s w.0, all_evaluate q s w.1)
all_evaluate (negation p) s h = all_evaluate p s (own _ (flags p s) h).1
all_evaluate (existential x p) s h = all_evaluate p s (own _ (flags p s) h).1
all_evaluate (equality a b) s h =
    one_sorted a b (both_true (is_form s) (one_sort a b) (own _ [] h).0).1
all_evaluate (at_most a b) s h =
    both_sorted int_sort a b (both_true (is_form s) (both_have int_sort a b) (own _ [] h).0).1
all_evaluate (node_formula name number p list) s h =
    let w = own _ (flags p (with_outer forest s)) h in
    let x = both_true _ _ w.0 in
    let y = both_true _ _ x.1 in
    let z = both_true _ _ y.1 in
    let k = both_true _ _ z.1 in (
      sorted str_sort name z.0,
      sorted node_sort number k.0,
      sorted list_sort list k.1,
      all_evaluate p (with_outer forest s) w.1,
    )
all_evaluate (one_tree p) s h = all_evaluate p (with_outer tree s) (own _ (flags p _) h).1
all_evaluate (one_root p) s h = all_evaluate p (with_outer tree s) (own _ (flags p _) h).1
all_evaluate (concatenation side p q) s h =
    let w = two _ (flags p (left_sort side s)) (flags q (right_sort side s)) h in
    (all_evaluate p (left_sort side s) w.0, all_evaluate q (right_sort side s) w.1)
all_evaluate (grove_sum p q) s h =
    let w = two _ (flags p s) (flags q s) h in (all_evaluate p s w.0, all_evaluate q s w.1)
all_evaluate (length_is a) s h = sorted int_sort a (both_true _ _ (own _ [] h).0).1
all_evaluate p s h = tt

neither : (a b : Option LimitKind) → or_else a b ≡ None → (a ≡ None) × (b ≡ None)
neither None b h = (refl, h)
neither (Some x) b h = absurd (cc)

-- no limit is passed by these terms
abbrev Within : Store → List Term → Type 0
Within store terms = terms_limit standard_limits store (filter is_plain terms) ≡ None

within_two : (store : Store) (xs ys : List Term) → Within store (xs ++ ys)
    → Within store xs × Within store ys
within_two store xs ys h = neither _ _ (sym (limit_of_two standard_limits store xs ys) ∙ h)

within_more : (store : Store) (x : Term) (ys : List Term) → Within store (x ∷ ys)
    → Within store (x ∷ []) × Within store ys
within_more store x ys h = neither _ _ (sym (limit_of_more standard_limits store x ys) ∙ h)

within_one : (store : Store) (a : Term) → is_plain a ≡ true → Within store (a ∷ [])
    → term_limit standard_limits store a ≡ None
within_one store a plain h =
    (neither (term_limit standard_limits store a) None
    (subst (λ b. terms_limit standard_limits store (cond b (a ∷ []) []) ≡ None) plain h)).0

told : (over : List Var) (store : Store) (a : Term) → is_given over a ≡ true → Evaluates a
    → Within store (a ∷ []) → IsTold over store a
told over store (variable (logic x s)) g v w = g
told over store (variable (prog x s)) g v w =
    let k = v g in (k.0, k.1, within_one store (variable (prog x s)) g w)
told over store (variable (bound i s)) g v w = false≢true g
told over store (literal x) g v w = let k = v g in (k.0, k.1, within_one store (literal x) g w)
told over store (sum a b) g v w = let k = v g in (k.0, k.1, within_one store (sum a b) g w)
told over store (difference a b) g v w =
    let k = v g in (k.0, k.1, within_one store (difference a b) g w)
told over store (appended a b) g v w =
    let k = v g in (k.0, k.1, within_one store (appended a b) g w)

told_two : (over : List Var) (store : Store) (a b : Term) → (is_given over a && is_given over b)
    ≡ true → Evaluates a × Evaluates b → Within store (a ∷ b ∷ [])
    → IsTold over store a × IsTold over store b
told_two over store a b g v w =
    let x = both_true (is_given over a) (is_given over b) g in
    let y = within_more store a (b ∷ []) w in
    (told over store a x.0 v.0 y.0, told over store b x.1 v.1 y.1)

pub ready : (over : List Var) (store : Store) (p : Named) → All (watch_flags over p)
    → AllEvaluate p → Within store (terms_by_parts p) → IsReady over store p
ready over store (conjunction p q) g v w =
    let x = two true (watch_flags over p) (watch_flags over q) g in
    let y = within_two store (terms_by_parts p) (terms_by_parts q) w in
    (ready over store p x.0 v.0 y.0, ready over store q x.1 v.1 y.1)
ready over store (disjunction p q) g v w =
    let x = two true (watch_flags over p) (watch_flags over q) g in
    let y = within_two store (terms_by_parts p) (terms_by_parts q) w in
    (ready over store p x.0 v.0 y.0, ready over store q x.1 v.1 y.1)
ready over store (implication p q) g v w =
    let x = two true (watch_flags over p) (watch_flags over q) g in
    let y = within_two store (terms_by_parts p) (terms_by_parts q) w in
    (ready over store p x.0 v.0 y.0, ready over store q x.1 v.1 y.1)
ready over store (negation p) g v w =
    ready over store p (own true (watch_flags over p) g).1 v w
ready over store (existential x p) g v w =
    ready (x ∷ over) store p (own _ (watch_flags (x ∷ over) p) g).1 v w
ready over store (equality a b) g v w = told_two over store a b (own _ [] g).0 v w
ready over store (at_most a b) g v w = told_two over store a b (own _ [] g).0 v w
ready over store (node_formula name number p list) g v w =
    let x = own _ (watch_flags over p) g in
    let y = both_true (is_given over name) (is_given over number && is_given over list) x.0 in
    let z = both_true (is_given over number) (is_given over list) y.1 in
    let a = within_more store name (number ∷ list ∷ terms_by_parts p) w in
    let b = within_more store number (list ∷ terms_by_parts p) a.1 in
    let c = within_more store list (terms_by_parts p) b.1 in (
      told over store name y.0 v.0 a.0,
      told over store number z.0 v.1 b.0,
      told over store list z.1 v.2 c.0,
      ready over store p x.1 v.3 c.1,
    )
ready over store (one_tree p) g v w =
    ready over store p (own true (watch_flags over p) g).1 v w
ready over store (one_root p) g v w =
    ready over store p (own true (watch_flags over p) g).1 v w
ready over store (concatenation whole p q) g v w =
    let x = two true (watch_flags over p) (watch_flags over q) g in
    let y = within_two store (terms_by_parts p) (terms_by_parts q) w in
    (ready over store p x.0 v.0 y.0, ready over store q x.1 v.1 y.1)
ready over store (grove_sum p q) g v w =
    let x = two _ (watch_flags over p) (watch_flags over q) g in
    let y = within_two store (terms_by_parts p) (terms_by_parts q) w in
    (ready over store p x.0 v.0 y.0, ready over store q x.1 v.1 y.1)
ready over store (length_is a) g v w = told over store a (own _ [] g).0 v w
ready over store p g v w = tt

-- the same of a whole formula, judged at groves
pub ready_whole : (store : Store) (p : Named) → position_from not 0 (watch_flags [] p) ≡ None
    → AllEvaluate p → Within store (terms_by_parts p) → IsReady [] store p
ready_whole store p g v w = ready [] store p (none_fails (watch_flags [] p) 0 g) v w

pub evaluate_whole : (p : Named) → position_from not 0 (flags p (shape grove)) ≡ None
    → AllEvaluate p
evaluate_whole p h = all_evaluate p (shape grove) (none_fails (flags p (shape grove)) 0 h)

-- the same where no limit of watching is passed
pub ready_watched : (store : Store) (p : Named) (nodes : ℕ)
    → position_from not 0 (watch_flags [] p) ≡ None
    → position_from not 0 (flags p (shape grove)) ≡ None
    → watching_limit standard_limits store nodes p ≡ None → IsReady [] store p
ready_watched store p nodes g v w =
    ready_whole store p g (evaluate_whole p v)
    (neither (terms_limit standard_limits store (filter is_plain (terms_by_parts p)))
    (unless (nat_le (weight nodes p) standard_limits.watch) watch_limit) w).0
