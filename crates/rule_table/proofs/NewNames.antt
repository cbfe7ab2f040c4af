-- A name that stands nowhere in a formula.
use Rattle.std.proofs.Common.{◌≡◌, ◌⊎◌, ℕ, zero, suc, ◌+◌, ◌≤◌, refl, subst, inl, inr, arith, List, [], ◌∷◌, length}
use Rattle.model_shapes.specs.Sorts.{Sort, ValueSort}
use Rattle.model_terms.specs.Variables.{Var, prog, logic, bound}
use Rattle.model_terms.specs.Terms.{Term, literal, variable, sum, difference, appended, InTerm, gathered_in}
use Rattle.model_formulas.specs.Formulas.{Formula, truth, falsity, conjunction, disjunction, implication, negation, existential, universal, equality, at_most, empty, bare_hole, node_formula, one_tree, one_root, concatenation, grove_sum, grove_sum_hole, application, hole_adjoint, context_adjoint, same_as, length_is, value_meets}
use Rattle.model_formulas.specs.Substitution.{FreeIn, gathered}

-- the length of the name of a logic variable
abbrev letters_of : Var → ℕ
letters_of (logic name s) = length name
letters_of x = 0

-- of all names of logic variables in a term
abbrev letters_in : Term → ℕ
letters_in = gathered_in 0 ◌+◌ letters_of

-- in a formula
abbrev letters : Formula → ℕ
letters = gathered 0 ◌+◌ letters_in (λ s n. n)

module _ (name : List ℕ) (s : Sort) where
  -- a variable of two parts has a name within theirs
  in_two : {A B : Type 0} (m n : ℕ) → (A → length name ≤ m) → (B → length name ≤ n) → A ⊎ B
      → length name ≤ m + n
  in_two m n f g (inl a) = let h : length name ≤ m = f a in omega arith
  in_two m n f g (inr b) = let h : length name ≤ n = g b in omega arith

  within_term : (t : Term) → InTerm (logic name s) t → length name ≤ letters_in t
  within_term (literal v) m = absurd m
  within_term (variable (prog x u)) m = absurd (other x u m)
    where
      other : (x : List ℕ) (u : ValueSort) → logic name s ≡ prog x u → ⊥
      other x u q = cc
  within_term (variable (bound i u)) m = absurd (other i u m)
    where
      other : (i : ℕ) (u : Sort) → logic name s ≡ bound i u → ⊥
      other i u q = cc
  within_term (variable (logic x u)) m =
      let h : name ≡ x = cc in subst (λ z. length name ≤ length z) h (omega arith)
  within_term (sum a b) m = in_two (letters_in a) (letters_in b) (within_term a) (within_term b) m
  within_term (difference a b) m =
      in_two (letters_in a) (letters_in b) (within_term a) (within_term b) m
  within_term (appended a b) m =
      in_two (letters_in a) (letters_in b) (within_term a) (within_term b) m

  within : (p : Formula) → FreeIn (logic name s) p → length name ≤ letters p
  within truth m = absurd m
  within falsity m = absurd m
  within (conjunction p q) m = in_two (letters p) (letters q) (within p) (within q) m
  within (disjunction p q) m = in_two (letters p) (letters q) (within p) (within q) m
  within (implication p q) m = in_two (letters p) (letters q) (within p) (within q) m
  within (grove_sum p q) m = in_two (letters p) (letters q) (within p) (within q) m
  within (grove_sum_hole p q) m = in_two (letters p) (letters q) (within p) (within q) m
  within (hole_adjoint p q) m = in_two (letters p) (letters q) (within p) (within q) m
  within (concatenation k p q) m = in_two (letters p) (letters q) (within p) (within q) m
  within (application k p q) m = in_two (letters p) (letters q) (within p) (within q) m
  within (context_adjoint k p q) m = in_two (letters p) (letters q) (within p) (within q) m
  within (negation p) m = within p m
  within (one_tree p) m = within p m
  within (one_root p) m = within p m
  within (existential u p) m = within p m
  within (universal u p) m = within p m
  within (equality a b) m =
      in_two (letters_in a) (letters_in b) (within_term a) (within_term b) m
  within (at_most a b) m =
      in_two (letters_in a) (letters_in b) (within_term a) (within_term b) m
  within (empty k) m = absurd m
  within (bare_hole k) m = absurd m
  within (node_formula n i p l) m =
      in_two (letters_in n) (letters_in i + (letters p + letters_in l)) (within_term n)
      (in_two (letters_in i) (letters p + letters_in l) (within_term i)
      (in_two (letters p) (letters_in l) (within p) (within_term l))) m
  within (same_as a) m = within_term a m
  within (length_is a) m = within_term a m
  within (value_meets u a p) m = in_two (letters_in a) (letters p) (within_term a) (within p) m

abbrev of_length : ℕ → List ℕ
of_length zero = []
of_length (suc n) = 0 ∷ of_length n

of_length-is : (n : ℕ) → length (of_length n) ≡ n
of_length-is zero = refl
of_length-is (suc n) = let h : length (of_length n) ≡ n = of_length-is n in omega arith

-- a new name
abbrev pub new_name : Formula → List ℕ
new_name p = of_length (suc (letters p))

pub new_name-new : (p : Formula) (s : Sort) → FreeIn (logic (new_name p) s) p → ⊥
new_name-new p s m =
    let h : length (new_name p) ≤ letters p = within (new_name p) s p m in
    let g : length (new_name p) ≡ suc (letters p) = of_length-is (suc (letters p)) in omega arith
