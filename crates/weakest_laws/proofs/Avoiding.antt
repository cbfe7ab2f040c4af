-- Formulas in which no logic variable has a given name, and whose quantifiers bind logic variables.
use Rattle.std.proofs.Common.{◌≡◌, List, [], ◌∷◌, ◌++◌, Bool, true, false, ◌⊎◌, inl, inr, sym, ap, ◌∙◌, subst}
use Rattle.std.specs.List.{list_all}
use Rattle.std.proofs.lemmas.List.Folds.{list_all-append}
use Rattle.model_shapes.specs.Sorts.{Sort, ValueSort, int_sort, str_sort}
use Rattle.model_shapes.specs.Values.{Name}
use Rattle.model_shapes.proofs.Truth.{both_true, false≢true}
use Rattle.model_terms.specs.Variables.{Var, prog, logic, bound}
use Rattle.model_terms.specs.VariableTests.{var_eq}
use Rattle.model_terms.specs.Terms.{Term, literal, variable, sum, difference, appended, gathered_in, raised_var, InTerm, term_with}
use Rattle.model_terms.specs.Computing.{Computes}
use Rattle.model_formulas.specs.Formulas.{Named, truth, falsity, conjunction, disjunction, implication, negation, existential, universal, equality, at_most, empty, bare_hole, node_formula, one_tree, one_root, concatenation, grove_sum, grove_sum_hole, application, hole_adjoint, context_adjoint, same_as, length_is, value_meets}
use Rattle.model_formulas.specs.Substitution.{gathered, FreeIn}
use Rattle.model_formulas.specs.Nameless.{nameless, walked, names, naming}
use Rattle.model_formulas.specs.Deciding.{name_or}
use Rattle.model_commands.specs.CommandParts.{variables_of, variables_of_term}
use Rattle.model_weakest.specs.Written.{is_declared, is_named, is_logic}
use Rattle.weakest_laws.proofs.WrittenRows.{NoneFree}

-- the variable is no logic variable of the name
abbrev pub Other : Name → Var → Type 0
Other w (logic n s) = n ≡ w → ⊥
Other w x = Unit

-- a quantifier's variable: a logic variable of another name
abbrev pub BindsOther : Name → Var → Type 0
BindsOther w (logic n s) = n ≡ w → ⊥
BindsOther w x = ⊥

abbrev pub AvoidsTerm : Name → Term → Type 0
AvoidsTerm w = gathered_in {Result = Type 0} Unit (λ left right. left × right) (Other w)

-- the name is that of no logic variable of the formula, and quantifiers bind logic variables
abbrev pub Avoids : Name → Named → Type 0
Avoids w =
    gathered {Result = Type 0} Unit (λ left right. left × right) (AvoidsTerm w)
    (λ x inside. BindsOther w x × inside)

-- a term of a command has no logic variables
pub computed-avoids : (w : Name) (s : ValueSort) (a : Term) → Computes s a → AvoidsTerm w a
computed-avoids w s (literal v) c = tt
computed-avoids w s (variable (prog x u)) c = tt
computed-avoids w s (variable (logic x u)) c = absurd c
computed-avoids w s (variable (bound i u)) c = absurd c
computed-avoids w s (sum a b) c =
    (computed-avoids w int_sort a c.1, computed-avoids w int_sort b c.2)
computed-avoids w s (difference a b) c =
    (computed-avoids w int_sort a c.1, computed-avoids w int_sort b c.2)
computed-avoids w s (appended a b) c =
    (computed-avoids w str_sort a c.1, computed-avoids w str_sort b c.2)

-- WHAT IS ASKED FOR avoids each name that isn't declared
module _ (declared : List Var) (w : Name) (new : is_declared declared w ≡ false) where
  abbrev Known : List Var → Type 0
  Known xs = list_all (is_named declared) xs ≡ true

  abbrev Logic : List Var → Type 0
  Logic xs = list_all is_logic xs ≡ true

  both : (test : Var → Bool) (xs ys : List Var) → list_all test (xs ++ ys) ≡ true
      → (list_all test xs ≡ true) × (list_all test ys ≡ true)
  both test xs ys h =
      both_true (list_all test xs) (list_all test ys) (sym (list_all-append test xs ys) ∙ h)

  known : (xs ys : List Var) → Known (xs ++ ys) → Known xs × Known ys
  known = both (is_named declared)

  known-other : (x : Var) (xs : List Var) → Known (x ∷ xs) → Other w x
  known-other (prog n s) xs h = tt
  known-other (bound i s) xs h = tt
  known-other (logic n s) xs h = λ e.
      false≢true (sym new ∙ ap (is_declared declared) (sym e)
      ∙ (both_true (is_declared declared n) (list_all (is_named declared) xs) h).0)

  known-term : (a : Term) → Known (variables_of_term a) → AvoidsTerm w a
  known-term (literal v) h = tt
  known-term (variable x) h = known-other x [] h
  known-term (sum a b) h = let k = known (variables_of_term a) (variables_of_term b) h in
      (known-term a k.0, known-term b k.1)
  known-term (difference a b) h = let k = known (variables_of_term a) (variables_of_term b) h in
      (known-term a k.0, known-term b k.1)
  known-term (appended a b) h = let k = known (variables_of_term a) (variables_of_term b) h in
      (known-term a k.0, known-term b k.1)

  -- the variables of the quantifiers
  abbrev binders : Named → List Var
  binders = gathered [] ◌++◌ (λ a. []) ◌∷◌

  binder : (x : Var) (xs ys : List Var) → Known (x ∷ xs) → Logic (x ∷ ys)
      → BindsOther w x × Known xs × Logic ys
  binder (prog n s) xs ys k l = absurd (false≢true l)
  binder (bound i s) xs ys k l = absurd (false≢true l)
  binder (logic n s) xs ys k l = (
    known-other (logic n s) xs k,
    (both_true (is_declared declared n) (list_all (is_named declared) xs) k).1,
    l,
  )

  abbrev Goal : Named → Type 0
  Goal p = Known (variables_of p) → Logic (binders p) → Avoids w p

  -- of two parts, of a quantifier's part, and of a term and a part
  two : (p q : Named) → Goal p → Goal q → Known (variables_of p ++ variables_of q)
      → Logic (binders p ++ binders q) → Avoids w p × Avoids w q
  two p q f g k l =
      let a = known (variables_of p) (variables_of q) k in
      let b = both is_logic (binders p) (binders q) l in
      (f a.0 b.0, g a.1 b.1)

  below : (x : Var) (p : Named) → Goal p → Known (x ∷ variables_of p) → Logic (x ∷ binders p)
      → BindsOther w x × Avoids w p
  below x p f k l = let a = binder x (variables_of p) (binders p) k l in (a.0, f a.1 a.2)

  terms : (a b : Term) → Known (variables_of_term a ++ variables_of_term b)
      → AvoidsTerm w a × AvoidsTerm w b
  terms a b h = let k = known (variables_of_term a) (variables_of_term b) h in
      (known-term a k.0, known-term b k.1)

  pub named-avoids : (p : Named) → Goal p
  named-avoids truth k l = tt
  named-avoids falsity k l = tt
  named-avoids (conjunction p q) k l = two p q (named-avoids p) (named-avoids q) k l
  named-avoids (disjunction p q) k l = two p q (named-avoids p) (named-avoids q) k l
  named-avoids (implication p q) k l = two p q (named-avoids p) (named-avoids q) k l
  named-avoids (negation p) k l = named-avoids p k l
  named-avoids (existential x p) k l = below x p (named-avoids p) k l
  named-avoids (universal x p) k l = below x p (named-avoids p) k l
  named-avoids (equality a b) k l = terms a b k
  named-avoids (at_most a b) k l = terms a b k
  named-avoids (empty h) k l = tt
  named-avoids (bare_hole h) k l = tt
  named-avoids (node_formula n i p t) k l =
      let a = known (variables_of_term n) _ k in
      let b = known (variables_of_term i) _ a.1 in
      let c = known (variables_of p) (variables_of_term t) b.1 in (
        known-term n a.0,
        (
          known-term i b.0,
          (
            named-avoids p c.0 (both is_logic (binders p) [] l).0,
            known-term t c.1,
          ),
        ),
      )
  named-avoids (one_tree p) k l = named-avoids p k l
  named-avoids (one_root p) k l = named-avoids p k l
  named-avoids (concatenation d p q) k l = two p q (named-avoids p) (named-avoids q) k l
  named-avoids (grove_sum p q) k l = two p q (named-avoids p) (named-avoids q) k l
  named-avoids (grove_sum_hole p q) k l = two p q (named-avoids p) (named-avoids q) k l
  named-avoids (application h p q) k l = two p q (named-avoids p) (named-avoids q) k l
  named-avoids (hole_adjoint p q) k l = two p q (named-avoids p) (named-avoids q) k l
  named-avoids (context_adjoint h p q) k l = two p q (named-avoids p) (named-avoids q) k l
  named-avoids (same_as a) k l = known-term a k
  named-avoids (length_is a) k l = known-term a k
  named-avoids (value_meets s a p) k l =
      let c = known (variables_of_term a) (variables_of p) k in
      (known-term a c.0, named-avoids p c.1 l)

-- NO LOGIC VARIABLE OF THE NAME STANDS FREE in the nameless form
module _ (w : Name) (s : Sort) where
  lowered : (y : Var) → logic w s ≡ raised_var y → y ≡ logic w s
  lowered (prog n u) e = sym e
  lowered (logic n u) e = sym e
  lowered (bound i u) e = absurd cc

  -- a variable that stands there under binders stood there before
  before : (xs : List Var) (y : Var) → logic w s ≡ names xs y → y ≡ logic w s
  before [] y e = sym e
  before (x ∷ xs) y e = by_test (var_eq y x) (before xs y) e
    where
      by_test : (d : Dec (y ≡ x)) → (logic w s ≡ names xs y → y ≡ logic w s)
          → logic w s ≡ name_or (names xs y) d → y ≡ logic w s
      by_test (yes h) rec c = absurd cc
      by_test (no n) rec c = rec (sym (lowered (names xs y) c))

  other-not : (y : Var) → Other w y → y ≡ logic w s → ⊥
  other-not (prog n u) h e = cc
  other-not (bound i u) h e = cc
  other-not (logic n u) h e = h cc

  neither : {A B : Type 0} → (A → ⊥) → (B → ⊥) → A ⊎ B → ⊥
  neither f g (inl a) = f a
  neither f g (inr b) = g b

  not-in : (a : Term) (xs : List Var) → AvoidsTerm w a
      → InTerm (logic w s) (term_with (naming xs) a) → ⊥
  not-in (literal v) xs h m = m
  not-in (variable y) xs h m = other-not y h (before xs y m)
  not-in (sum a b) xs h m = neither (not-in a xs h.0) (not-in b xs h.1) m
  not-in (difference a b) xs h m = neither (not-in a xs h.0) (not-in b xs h.1) m
  not-in (appended a b) xs h m = neither (not-in a xs h.0) (not-in b xs h.1) m

  abbrev NotFree : Named → List Var → Type 0
  NotFree p xs = FreeIn (logic w s) (walked xs p) → ⊥

  pub not-free : (p : Named) (xs : List Var) → Avoids w p → NotFree p xs
  not-free truth xs h m = m
  not-free falsity xs h m = m
  not-free (conjunction p q) xs h m = neither (not-free p xs h.0) (not-free q xs h.1) m
  not-free (disjunction p q) xs h m = neither (not-free p xs h.0) (not-free q xs h.1) m
  not-free (implication p q) xs h m = neither (not-free p xs h.0) (not-free q xs h.1) m
  not-free (negation p) xs h m = not-free p xs h m
  not-free (existential x p) xs h m = not-free p (x ∷ xs) h.1 m
  not-free (universal x p) xs h m = not-free p (x ∷ xs) h.1 m
  not-free (equality a b) xs h m = neither (not-in a xs h.0) (not-in b xs h.1) m
  not-free (at_most a b) xs h m = neither (not-in a xs h.0) (not-in b xs h.1) m
  not-free (empty k) xs h m = m
  not-free (bare_hole k) xs h m = m
  not-free (node_formula n i p l) xs h m =
      neither (not-in n xs h.0)
      (neither (not-in i xs h.1.0)
      (neither (not-free p xs h.1.1.0) (not-in l xs h.1.1.1))) m
  not-free (one_tree p) xs h m = not-free p xs h m
  not-free (one_root p) xs h m = not-free p xs h m
  not-free (concatenation d p q) xs h m = neither (not-free p xs h.0) (not-free q xs h.1) m
  not-free (grove_sum p q) xs h m = neither (not-free p xs h.0) (not-free q xs h.1) m
  not-free (grove_sum_hole p q) xs h m = neither (not-free p xs h.0) (not-free q xs h.1) m
  not-free (application k p q) xs h m = neither (not-free p xs h.0) (not-free q xs h.1) m
  not-free (hole_adjoint p q) xs h m = neither (not-free p xs h.0) (not-free q xs h.1) m
  not-free (context_adjoint k p q) xs h m = neither (not-free p xs h.0) (not-free q xs h.1) m
  not-free (same_as a) xs h m = not-in a xs h m
  not-free (length_is a) xs h m = not-in a xs h m
  not-free (value_meets u a p) xs h m = neither (not-in a xs h.0) (not-free p xs h.1) m

  -- so a quantifier over such a variable binds nothing of the formula
  differs : (p : Named) → Avoids w p → (y : Var) → FreeIn y (nameless p) → logic w s ≡ y → ⊥
  differs p h y free e = not-free p [] h (subst (λ z. FreeIn z (nameless p)) (sym e) free)

  pub one-not-free : (p : Named) → Avoids w p → NoneFree (logic w s ∷ []) (nameless p)
  one-not-free p h y free = (differs p h y free, tt)

-- the same of two
pub two-not-free : (v w : Name) (s u : Sort) (p : Named) → Avoids v p → Avoids w p
    → NoneFree (logic v s ∷ logic w u ∷ []) (nameless p)
two-not-free v w s u p h k y free = (differs v s p h y free, (differs w u p k y free, tt))
