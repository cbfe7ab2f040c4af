-- What the tests of names and scopes say: of names that are distinct, of variables that are set,
-- and of program variables that stand free.
use Rattle.std.proofs.Common.{◌≡◌, ◌⊎◌, ℕ, List, [], ◌∷◌, ◌++◌, map, Bool, true, false, not, ◌||◌, sym, refl, subst, inl, inr}
use Rattle.std.specs.List.{list_all, list_any}
use Rattle.model_shapes.specs.Sorts.{ValueSort}
use Rattle.model_shapes.proofs.Truth.{false≢true, both_true}
use Rattle.model_terms.specs.Variables.{Var, prog, logic, bound}
use Rattle.model_shapes.proofs.Tests.{bytes-refl}
use Rattle.model_terms.specs.VariableTests.{var_eq}
use Rattle.model_terms.specs.Terms.{Term, literal, variable, sum, difference, appended, InTerm, raised_var, term_with}
use Rattle.model_formulas.specs.Formulas.{Named, truth, falsity, conjunction, disjunction, implication, negation, existential, universal, equality, at_most, empty, bare_hole, node_formula, one_tree, one_root, concatenation, grove_sum, grove_sum_hole, application, hole_adjoint, context_adjoint, same_as, length_is, value_meets}
use Rattle.model_formulas.specs.Substitution.{FreeIn}
use Rattle.model_formulas.specs.Nameless.{nameless, walked, naming, names}
use Rattle.model_formulas.specs.Deciding.{name_or}
use Rattle.model_terms.specs.Stores.{ProgVar, named, as_var, same_name}
use Rattle.model_commands.specs.Commands.{Command, skip, block, assign, create_node, node_name, child_nodes, parent_node, list_item, append_child, remove_child, insert_before, if_else, while_do, local, call, Block, stop, ◌then◌, Among, Modifies, BlockModifies}
use Rattle.model_commands.specs.CommandParts.{commands_in, commands_of, targets, variables_of_term, variables_of}
use Rattle.model_commands.specs.SortTests.{distinct_by, is_among, stands_in}
use Rattle.model_files.specs.FileFaults.{share_name, spares, only_among}
use Rattle.model_terms.proofs.StoreLaws.{same_name-is, same_name-refl}
use Rattle.model_terms.proofs.Computing.{all-append}
use Rattle.model_commands.proofs.Sorting.{not-both, left-true, right-true, among-test}
use Rattle.model_files.proofs.FileTests.{stands-left, stands-right, each-among}

-- NAMES
among-left : (xs ys : List ProgVar) (x : ProgVar) → Among xs x → Among (xs ++ ys) x
among-left [] ys x m = absurd m
among-left (z ∷ xs) ys x (inl q) = inl q
among-left (z ∷ xs) ys x (inr m) = inr (among-left xs ys x m)

among-right : (xs ys : List ProgVar) (x : ProgVar) → Among ys x → Among (xs ++ ys) x
among-right [] ys x m = m
among-right (z ∷ xs) ys x m = inr (among-right xs ys x m)

-- a variable shares its name with itself, and so with one of those that it is among
share_name-refl : (x : ProgVar) → share_name (as_var x) (as_var x) ≡ true
share_name-refl (named name s) = bytes-refl name

name-test : (xs : List ProgVar) (x : ProgVar) → Among xs x
    → list_any (share_name (as_var x)) (map as_var xs) ≡ true
name-test [] x m = absurd m
name-test (z ∷ xs) x (inl q) =
    left-true (share_name (as_var x) (as_var z)) (list_any (share_name (as_var x)) (map as_var xs))
    (subst (λ y. share_name (as_var x) (as_var y) ≡ true) q (share_name-refl x))
name-test (z ∷ xs) x (inr m) =
    right-true (share_name (as_var x) (as_var z)) (list_any (share_name (as_var x)) (map as_var xs))
    (name-test xs x m)

-- distinct names in one list and another belong to different variables
distinct-apart : (xs ys : List ProgVar) → distinct_by share_name (map as_var (xs ++ ys)) ≡ true
    → (x : ProgVar) → Among xs x → Among ys x → ⊥
distinct-apart [] ys e x m n = m
distinct-apart (z ∷ xs) ys e x m n = first m (λ q m'. distinct-apart xs ys q x m' n)
  where
    tests : (not (list_any (share_name (as_var z)) (map as_var (xs ++ ys))) ≡ true)
        × (distinct_by share_name (map as_var (xs ++ ys)) ≡ true)
    tests =
        both_true (not (list_any (share_name (as_var z)) (map as_var (xs ++ ys))))
        (distinct_by share_name (map as_var (xs ++ ys))) e

    first : (x ≡ z) ⊎ Among xs x
        → (distinct_by share_name (map as_var (xs ++ ys)) ≡ true → Among xs x → ⊥) → ⊥
    first (inl q) rec =
        not-both (list_any (share_name (as_var z)) (map as_var (xs ++ ys))) tests.0
        (subst (λ y. list_any (share_name (as_var y)) (map as_var (xs ++ ys)) ≡ true) q
        (name-test (xs ++ ys) x (among-right xs ys x n)))
    first (inr m') rec = rec tests.1 m'

-- parameters and results with distinct names are apart
pub names-apart : (xs ys zs : List ProgVar)
    → distinct_by share_name (map as_var (xs ++ (ys ++ zs))) ≡ true
    → (x : ProgVar) → Among xs x → Among ys x → ⊥
names-apart xs ys zs e x m n = distinct-apart xs (ys ++ zs) e x m (among-left ys zs x n)

-- SET VARIABLES
-- a command that spares some variables has none of them as a target
spared : (ps : List ProgVar) (c : Command) → spares ps c ≡ true → (x : ProgVar) → Among ps x
    → Among (targets c) x → ⊥
spared ps c e x m t =
    not-both (is_among ps x) (each-among (λ y. not (is_among ps y)) (targets c) e x t)
    (among-test ps x m)

module _ (ps : List ProgVar) where
  -- each of these commands spares them
  abbrev AllSpare : List Command → Type 0
  AllSpare cs = list_all (spares ps) cs ≡ true

  alone-spared : (c : Command) → AllSpare (c ∷ []) → (x : ProgVar) → Among ps x
      → Among (targets c) x → ⊥
  alone-spared c e x m t = spared ps c (both_true (spares ps c) true e).0 x m t

  mutual
    command-spared : (c : Command) → AllSpare (commands_in c) → (x : ProgVar) → Among ps x
        → Modifies c x → ⊥
    command-spared skip e x m c = c
    command-spared (block b) e x m c =
        block-spared b (both_true (spares ps (block b)) _ e).1 x m c
    command-spared (assign y t) e x m c = alone-spared (assign y t) e x m (inl c)
    command-spared (create_node y t) e x m c = alone-spared (create_node y t) e x m (inl c)
    command-spared (node_name y t) e x m c = alone-spared (node_name y t) e x m (inl c)
    command-spared (child_nodes y t) e x m c = alone-spared (child_nodes y t) e x m (inl c)
    command-spared (parent_node y t) e x m c = alone-spared (parent_node y t) e x m (inl c)
    command-spared (list_item y t u) e x m c = alone-spared (list_item y t u) e x m (inl c)
    command-spared (append_child t u) e x m c = c
    command-spared (remove_child t u) e x m c = c
    command-spared (insert_before t u v) e x m c = c
    command-spared (if_else t a b) e x m (inl c) =
        block-spared a (all-append (spares ps) (commands_of a) (commands_of b)
        (both_true (spares ps (if_else t a b)) _ e).1).0 x m c
    command-spared (if_else t a b) e x m (inr c) =
        block-spared b (all-append (spares ps) (commands_of a) (commands_of b)
        (both_true (spares ps (if_else t a b)) _ e).1).1 x m c
    command-spared (while_do t b) e x m c =
        block-spared b (both_true (spares ps (while_do t b)) _ e).1 x m c
    command-spared (local y b) e x m c =
        block-spared b (both_true (spares ps (local y b)) _ e).1 x m c.1
    command-spared (call rs f ts) e x m c = alone-spared (call rs f ts) e x m c

    block-spared : (b : Block) → AllSpare (commands_of b) → (x : ProgVar) → Among ps x
        → BlockModifies b x → ⊥
    block-spared stop e x m c = c
    block-spared (c then b) e x m (inl k) =
        command-spared c (all-append (spares ps) (commands_in c) (commands_of b) e).0 x m k
    block-spared (c then b) e x m (inr k) =
        block-spared b (all-append (spares ps) (commands_in c) (commands_of b) e).1 x m k

-- parameters that are spared aren't modified
pub modifies-spared : (ps : List ProgVar) (c : Command)
    → list_all (spares ps) (commands_in c) ≡ true
    → (x : ProgVar) → Among ps x → Modifies c x → ⊥
modifies-spared ps c e x m k = command-spared ps c e x m k

-- FREE VARIABLES
-- below some binders, a program variable is named as itself alone
raised-itself : (y : Var) (n : List ℕ) (s : ValueSort) → raised_var y ≡ prog n s → y ≡ prog n s
raised-itself (prog x u) n s e = e
raised-itself (logic x u) n s e = absurd (cc)
raised-itself (bound i u) n s e = absurd (cc)

named-itself : (ys : List Var) (y : Var) (n : List ℕ) (s : ValueSort) → names ys y ≡ prog n s
    → y ≡ prog n s
named-itself [] y n s e = e
named-itself (z ∷ ys) y n s e = by_decision (var_eq y z) e (named-itself ys y n s)
  where
    by_decision : (d : Dec (y ≡ z)) → name_or (names ys y) d ≡ prog n s
        → (names ys y ≡ prog n s → y ≡ prog n s) → y ≡ prog n s
    by_decision (yes q) e rec = absurd (cc)
    by_decision (no m) e rec = rec (raised-itself (names ys y) n s e)

var-stands : (y : Var) (n : List ℕ) (s : ValueSort) → y ≡ prog n s
    → stands_in (y ∷ []) (named n s) ≡ true
var-stands y n s e =
    subst (λ z. stands_in (z ∷ []) (named n s) ≡ true) (sym e)
    (left-true (same_name (named n s) (named n s)) false (same-itself (named n s)))
  where
    same-itself : (x : ProgVar) → same_name x x ≡ true
    same-itself x = same_name-refl x

-- a program variable of a term below some binders stands in the term
named-stands : (t : Term) (ys : List Var) (n : List ℕ) (s : ValueSort)
    → InTerm (prog n s) (term_with (naming ys) t) → stands_in (variables_of_term t) (named n s)
    ≡ true
named-stands (literal v) ys n s m = absurd m
named-stands (variable y) ys n s m = var-stands y n s (named-itself ys y n s (sym m))
named-stands (sum a b) ys n s (inl m) =
    stands-left (variables_of_term a) (variables_of_term b) (named n s) (named-stands a ys n s m)
named-stands (sum a b) ys n s (inr m) =
    stands-right (variables_of_term a) (variables_of_term b) (named n s) (named-stands b ys n s m)
named-stands (difference a b) ys n s (inl m) =
    stands-left (variables_of_term a) (variables_of_term b) (named n s) (named-stands a ys n s m)
named-stands (difference a b) ys n s (inr m) =
    stands-right (variables_of_term a) (variables_of_term b) (named n s) (named-stands b ys n s m)
named-stands (appended a b) ys n s (inl m) =
    stands-left (variables_of_term a) (variables_of_term b) (named n s) (named-stands a ys n s m)
named-stands (appended a b) ys n s (inr m) =
    stands-right (variables_of_term a) (variables_of_term b) (named n s) (named-stands b ys n s m)

-- a program variable that is free in a formula stands in it
free-stands : (p : Named) (ys : List Var) (n : List ℕ) (s : ValueSort)
    → FreeIn (prog n s) (walked ys p) → stands_in (variables_of p) (named n s) ≡ true
free-stands truth ys n s m = absurd m
free-stands falsity ys n s m = absurd m
free-stands (conjunction p q) ys n s (inl m) =
    stands-left (variables_of p) (variables_of q) (named n s) (free-stands p ys n s m)
free-stands (conjunction p q) ys n s (inr m) =
    stands-right (variables_of p) (variables_of q) (named n s) (free-stands q ys n s m)
free-stands (disjunction p q) ys n s (inl m) =
    stands-left (variables_of p) (variables_of q) (named n s) (free-stands p ys n s m)
free-stands (disjunction p q) ys n s (inr m) =
    stands-right (variables_of p) (variables_of q) (named n s) (free-stands q ys n s m)
free-stands (implication p q) ys n s (inl m) =
    stands-left (variables_of p) (variables_of q) (named n s) (free-stands p ys n s m)
free-stands (implication p q) ys n s (inr m) =
    stands-right (variables_of p) (variables_of q) (named n s) (free-stands q ys n s m)
free-stands (negation p) ys n s m = free-stands p ys n s m
free-stands (existential y p) ys n s m =
    stands-right (y ∷ []) (variables_of p) (named n s) (free-stands p (y ∷ ys) n s m)
free-stands (universal y p) ys n s m =
    stands-right (y ∷ []) (variables_of p) (named n s) (free-stands p (y ∷ ys) n s m)
free-stands (equality a b) ys n s (inl m) =
    stands-left (variables_of_term a) (variables_of_term b) (named n s) (named-stands a ys n s m)
free-stands (equality a b) ys n s (inr m) =
    stands-right (variables_of_term a) (variables_of_term b) (named n s) (named-stands b ys n s m)
free-stands (at_most a b) ys n s (inl m) =
    stands-left (variables_of_term a) (variables_of_term b) (named n s) (named-stands a ys n s m)
free-stands (at_most a b) ys n s (inr m) =
    stands-right (variables_of_term a) (variables_of_term b) (named n s) (named-stands b ys n s m)
free-stands (empty k) ys n s m = absurd m
free-stands (bare_hole k) ys n s m = absurd m
free-stands (node_formula u b p l) ys n s (inl m) =
    stands-left (variables_of_term u)
    (variables_of_term b ++ (variables_of p ++ variables_of_term l)) (named n s)
    (named-stands u ys n s m)
free-stands (node_formula u b p l) ys n s (inr (inl m)) =
    stands-right (variables_of_term u)
    (variables_of_term b ++ (variables_of p ++ variables_of_term l)) (named n s)
    (stands-left (variables_of_term b) (variables_of p ++ variables_of_term l) (named n s)
    (named-stands b ys n s m))
free-stands (node_formula u b p l) ys n s (inr (inr (inl m))) =
    stands-right (variables_of_term u)
    (variables_of_term b ++ (variables_of p ++ variables_of_term l)) (named n s)
    (stands-right (variables_of_term b) (variables_of p ++ variables_of_term l) (named n s)
    (stands-left (variables_of p) (variables_of_term l) (named n s) (free-stands p ys n s m)))
free-stands (node_formula u b p l) ys n s (inr (inr (inr m))) =
    stands-right (variables_of_term u)
    (variables_of_term b ++ (variables_of p ++ variables_of_term l)) (named n s)
    (stands-right (variables_of_term b) (variables_of p ++ variables_of_term l) (named n s)
    (stands-right (variables_of p) (variables_of_term l) (named n s) (named-stands l ys n s m)))
free-stands (one_tree p) ys n s m = free-stands p ys n s m
free-stands (one_root p) ys n s m = free-stands p ys n s m
free-stands (concatenation d p q) ys n s (inl m) =
    stands-left (variables_of p) (variables_of q) (named n s) (free-stands p ys n s m)
free-stands (concatenation d p q) ys n s (inr m) =
    stands-right (variables_of p) (variables_of q) (named n s) (free-stands q ys n s m)
free-stands (grove_sum p q) ys n s (inl m) =
    stands-left (variables_of p) (variables_of q) (named n s) (free-stands p ys n s m)
free-stands (grove_sum p q) ys n s (inr m) =
    stands-right (variables_of p) (variables_of q) (named n s) (free-stands q ys n s m)
free-stands (grove_sum_hole p q) ys n s (inl m) =
    stands-left (variables_of p) (variables_of q) (named n s) (free-stands p ys n s m)
free-stands (grove_sum_hole p q) ys n s (inr m) =
    stands-right (variables_of p) (variables_of q) (named n s) (free-stands q ys n s m)
free-stands (application k p q) ys n s (inl m) =
    stands-left (variables_of p) (variables_of q) (named n s) (free-stands p ys n s m)
free-stands (application k p q) ys n s (inr m) =
    stands-right (variables_of p) (variables_of q) (named n s) (free-stands q ys n s m)
free-stands (hole_adjoint p q) ys n s (inl m) =
    stands-left (variables_of p) (variables_of q) (named n s) (free-stands p ys n s m)
free-stands (hole_adjoint p q) ys n s (inr m) =
    stands-right (variables_of p) (variables_of q) (named n s) (free-stands q ys n s m)
free-stands (context_adjoint k p q) ys n s (inl m) =
    stands-left (variables_of p) (variables_of q) (named n s) (free-stands p ys n s m)
free-stands (context_adjoint k p q) ys n s (inr m) =
    stands-right (variables_of p) (variables_of q) (named n s) (free-stands q ys n s m)
free-stands (same_as a) ys n s m = named-stands a ys n s m
free-stands (length_is a) ys n s m = named-stands a ys n s m
free-stands (value_meets k a p) ys n s (inl m) =
    stands-left (variables_of_term a) (variables_of p) (named n s) (named-stands a ys n s m)
free-stands (value_meets k a p) ys n s (inr m) =
    stands-right (variables_of_term a) (variables_of p) (named n s) (free-stands p ys n s m)

-- of what may stand in a list, what does
only-stands : (allowed : List ProgVar) (vars : List Var) (x : ProgVar)
    → only_among allowed vars ≡ true → stands_in vars x ≡ true → is_among allowed x ≡ true
only-stands allowed [] x e m = false≢true m
only-stands allowed (prog n s ∷ rest) x e m =
    by_test (same_name x (named n s)) refl m (only-stands allowed rest x)
  where
    tests : (is_among allowed (named n s) ≡ true) × (only_among allowed rest ≡ true)
    tests = both_true (is_among allowed (named n s)) (only_among allowed rest) e

    by_test : (b : Bool) → same_name x (named n s) ≡ b → (b || stands_in rest x) ≡ true
        → (only_among allowed rest ≡ true → stands_in rest x ≡ true → is_among allowed x ≡ true)
        → is_among allowed x ≡ true
    by_test true q m rec =
        subst (λ z. is_among allowed z ≡ true) (sym (same_name-is x (named n s) q)) tests.0
    by_test false q m rec = rec tests.1 m
only-stands allowed (logic n s ∷ rest) (named k u) e m = only-stands allowed rest (named k u) e m
only-stands allowed (bound i s ∷ rest) (named k u) e m = only-stands allowed rest (named k u) e m

-- a formula with these program variables alone has no others free
pub only-free : (allowed : List ProgVar) (p : Named) → only_among allowed (variables_of p) ≡ true
    → (x : ProgVar) → FreeIn (as_var x) (nameless p) → is_among allowed x ≡ true
only-free allowed p e (named n s) free =
    only-stands allowed (variables_of p) (named n s) e
    (free-stands p [] n s free)

-- what the test says is among them
pub test-among : (xs : List ProgVar) (x : ProgVar) → is_among xs x ≡ true → Among xs x
test-among [] x e = false≢true e
test-among (z ∷ xs) x e = by_test (same_name x z) refl e (test-among xs x)
  where
    by_test : (b : Bool) → same_name x z ≡ b → (b || is_among xs x) ≡ true
        → (is_among xs x ≡ true → Among xs x) → (x ≡ z) ⊎ Among xs x
    by_test true q t rec = inl (same_name-is x z q)
    by_test false q t rec = inr (rec t)
