-- Which shapes and contexts meet a formula, and entailment: the satisfaction of POPL 2005 over the
-- trees, forests and groves of PODS 2008, read classically.
use Rattle.std.specs.Prelude.{◌≡◌, ◌⊎◌, ℕ, zero, suc, ◌++◌, [], ℤ, pos, ◌+ℤ◌, ◌-ℤ◌, int_le, true, IsTrue}
use Rattle.model_shapes.specs.Sorts.{Sort, value, shape, context, ValueSort, tree, forest, outer, inner, with_outer, is_sort}
use Rattle.model_shapes.specs.Values.{Name, Text, Value, node_number, list_number, int, str}
use Rattle.model_shapes.specs.Trees.{Trees, none, node, hole, beside, fill, width}
use Rattle.model_shapes.specs.Shapes.{Shaped, Same}
use Rattle.model_shapes.specs.Things.{Thing, val, trees, Fits}
use Rattle.model_terms.specs.Variables.{Var, prog, logic, bound}
use Rattle.model_terms.specs.Terms.{Term, literal, variable, sum, difference, appended}
use Rattle.model_formulas.specs.Formulas.{Side, whole, hole_left, Formula, truth, falsity, conjunction, disjunction, implication, negation, existential, universal, equality, at_most, empty, bare_hole, node_formula, one_tree, one_root, concatenation, grove_sum, grove_sum_hole, application, hole_adjoint, context_adjoint, same_as, length_is, value_meets, left_sort, right_sort}

-- What each variable stands for. One environment holds the store's values, those of the logic
-- variables, and what the quantifiers passed have chosen.
abbrev pub Environment : Type 0
Environment = Var → Thing

-- under one more binder, which has chosen this thing
abbrev pub choosing : Thing → Environment → Environment
choosing chosen e (bound zero s) = chosen
choosing chosen e (bound (suc i) s) = e (bound i s)
choosing chosen e x = e x

-- the environment with the values of a store for its program variables
abbrev pub with_store : (Name → ValueSort → Value) → Environment → Environment
with_store store e (prog name s) = val (store name s)
with_store store e x = e x

-- the integer that a thing is, and 0 where it is none
abbrev pub number_of : Thing → ℤ
number_of (val (int z)) = z
number_of x = pos 0

-- the text that a thing is, and the empty text where it is none
abbrev pub text_meant : Thing → Text
text_meant (val (str s)) = s
text_meant x = []

-- what a term stands for
abbrev pub meaning_of : Environment → Term → Thing
meaning_of e (literal v) = val v
meaning_of e (variable x) = e x
meaning_of e (sum a b) = val (int (number_of (meaning_of e a) +ℤ number_of (meaning_of e b)))
meaning_of e (difference a b) =
    val (int (number_of (meaning_of e a) -ℤ number_of (meaning_of e b)))
meaning_of e (appended a b) = val (str (text_meant (meaning_of e a) ++ text_meant (meaning_of e b)))

-- "or" and "some" are classical: it can't be that none is
abbrev pub Classically {ℓ} : Type ℓ → Type ℓ
Classically A = (A → ⊥) → ⊥

-- some thing of the sort
abbrev pub SomeThing : Sort → (Thing → Type 0) → Type 0
SomeThing s P = Classically ((x : Thing) × Fits s x × P x)

-- each thing of the sort
abbrev pub EachThing : Sort → (Thing → Type 0) → Type 0
EachThing s P = (x : Thing) → Fits s x → P x

-- some shape or context of the sort
abbrev pub SomeShape : Sort → (Trees → Type 0) → Type 0
SomeShape s P = Classically ((r : Trees) × Shaped s r × P r)

-- each shape or context of the sort
abbrev pub EachShape : Sort → (Trees → Type 0) → Type 0
EachShape s P = (r : Trees) → Shaped s r → P r

-- one node with nothing beside it
abbrev pub IfNode : Trees → (Name → ℕ → Trees → ℕ → Type 0) → Type 0
IfNode (node name number kids list none) P = P name number kids list
IfNode r P = ⊥

-- a shape or context, and no value
abbrev pub IfTrees : Thing → (Trees → Type 0) → Type 0
IfTrees (val v) P = ⊥
IfTrees (trees r) P = P r

-- the same as one part followed by another
abbrev pub Splits : Side → Sort → Trees → (Sort → Trees → Type 0) → (Sort → Trees → Type 0)
    → Type 0
Splits side s r P Q =
    SomeShape (left_sort side s) λ a. SomeShape (right_sort side s) λ b.
    Same s r (beside a b) × P (left_sort side s) a × Q (right_sort side s) b

-- A well-formed shape or context `r` of the sort `s` meets the formula: one case for each form of
-- formula.
abbrev pub Meets : Formula → Environment → Sort → Trees → Type 0
Meets truth e s r = Unit {0}
Meets falsity e s r = ⊥
Meets (conjunction p q) e s r = Meets p e s r × Meets q e s r
Meets (disjunction p q) e s r = Classically (Meets p e s r ⊎ Meets q e s r)
Meets (implication p q) e s r = Meets p e s r → Meets q e s r
Meets (negation p) e s r = Meets p e s r → ⊥
Meets (existential u p) e s r = SomeThing u (λ v. Meets p (choosing v e) s r)
Meets (universal u p) e s r = EachThing u (λ v. Meets p (choosing v e) s r)
Meets (equality a b) e s r = meaning_of e a ≡ meaning_of e b
Meets (at_most a b) e s r =
    IsTrue (int_le (number_of (meaning_of e a)) (number_of (meaning_of e b)))
Meets (empty k) e s r = r ≡ none
Meets (bare_hole h) e s r = r ≡ hole none
Meets (node_formula name number p list) e s r =
    IfNode r (λ called n kids l.
    (val (str called) ≡ meaning_of e name) × (val (node_number n) ≡ meaning_of e number)
    × (val (list_number l) ≡ meaning_of e list) × Meets p e (with_outer forest s) kids)
Meets (one_tree p) e s r = Shaped (with_outer tree s) r × Meets p e (with_outer tree s) r
Meets (one_root p) e s r = Shaped (with_outer tree s) r × Meets p e (with_outer tree s) r
Meets (concatenation side p q) e s r = Splits side s r (Meets p e) (Meets q e)
Meets (grove_sum p q) e s r = Splits whole s r (Meets p e) (Meets q e)
Meets (grove_sum_hole p q) e s r = Splits hole_left s r (Meets p e) (Meets q e)
Meets (application h k p) e s r =
    SomeShape (context h (outer s)) λ c. SomeShape (with_outer h s) λ d.
    Same s r (fill c d) × Meets k e (context h (outer s)) c × Meets p e (with_outer h s) d
Meets (hole_adjoint p q) e s r =
    EachShape (shape (inner s)) λ d. Meets p e (shape (inner s)) d
    → Shaped (shape (outer s)) (fill r d) → Meets q e (shape (outer s)) (fill r d)
Meets (context_adjoint k p q) e s r =
    EachShape (context (outer s) k) λ c. Meets p e (context (outer s) k) c
    → Shaped (shape k) (fill c r) → Meets q e (shape k) (fill c r)
Meets (same_as a) e s r = IfTrees (meaning_of e a) (λ t. Same s r t)
Meets (length_is a) e s r = val (int (pos (width r))) ≡ meaning_of e a
Meets (value_meets u a p) e s r = IfTrees (meaning_of e a) (λ t. Meets p e u t)

-- each variable that has a name stands for a thing of its sort
pub record Proper (e : Environment) : Type 0 where
  -- program variables
  pub programs : (name : Name) (s : ValueSort) → Fits (value s) (e (prog name s))
  -- logic variables, at the sorts that are sorts
  pub logics : (name : Name) (s : Sort) → is_sort s ≡ true → Fits s (e (logic name s))

-- whatever well-formed shape or context of the sort meets the first meets the second
abbrev pub Entails : Formula → Formula → Sort → Type 0
Entails p q s =
    (e : Environment) → Proper e → (r : Trees) → Shaped s r → Meets p e s r → Meets q e s r
