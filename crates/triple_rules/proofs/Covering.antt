-- A formula is another one with a term for a logic variable just where each occurrence of the
-- variable stands in an occurrence of the term.
use Rattle.std.proofs.Common.{◌≡◌, zero, suc, refl, sym, ap, ◌∙◌, subst, Bool, true, false, ◌&&◌, ◌||◌, not, cond}
use Rattle.std.proofs.lemmas.Bool.{and_parts, and_from}
use mathlib.Core.Path.{fun_ext}
use Rattle.model_shapes.proofs.Truth.{false≢true}
use Rattle.model_terms.specs.Variables.{Var, prog, logic, bound}
use Rattle.model_terms.specs.VariableTests.{same_var, same_var-is, same_var-refl, var_eq}
use Rattle.model_terms.specs.Terms.{Term, literal, variable, sum, difference, appended, raised, under_binder, term_with, Substitution}
use Rattle.model_formulas.specs.Formulas.{Formula, truth, falsity, conjunction, disjunction, implication, negation, existential, universal, equality, at_most, empty, bare_hole, node_formula, one_tree, one_root, concatenation, grove_sum, grove_sum_hole, application, hole_adjoint, context_adjoint, same_as, length_is, value_meets}
use Rattle.model_formulas.specs.SameFormulas.{same_term}
use Rattle.model_formulas.proofs.SameFormulas.{term-is, same_formula-both}
use Rattle.model_formulas.specs.Substitution.{formula_with, replacing}
use Rattle.model_formulas.specs.Deciding.{replacing_at}
use Rattle.rule_table.specs.Letters.{LogicVar, as_logic}
use Rattle.triple_rules.specs.Covered.{term_covers, covers}

pub right-or : (a b : Bool) → b ≡ true → (a || b) ≡ true
right-or true b e = refl
right-or false b e = e

left-or : (a b : Bool) → a ≡ true → (a || b) ≡ true
left-or a b e = subst (λ z. (z || b) ≡ true) (sym e) refl

or-right : (a b : Bool) → a ≡ false → (a || b) ≡ true → b ≡ true
or-right true b f e = absurd cc
or-right false b f e = e

term-refl : (t : Term) → same_term t t ≡ true
term-refl t = (same_formula-both (length_is t) (length_is t)).1 refl

other-var : (y z : Var) → (y ≡ z → ⊥) → not (same_var y z) ≡ true
other-var y z n = by_test (same_var y z) refl
  where
    by_test : (b : Bool) → same_var y z ≡ b → not b ≡ true
    by_test true e = absurd (n (same_var-is y z e))
    by_test false e = refl

module _ (x : LogicVar) (e : Term) (plain : raised e ≡ e) where
  abbrev v : Var
  v = as_logic x

  abbrev put : Substitution
  put = replacing v e

  -- below a binder it is the same
  put-below : under_binder put ≡ put
  put-below = fun_ext at
    where
      kept : (y : Var) → raised (variable y) ≡ variable y → (d : Dec (y ≡ v))
          → raised (replacing_at e d) ≡ replacing_at e d
      kept y r (yes q) = plain
      kept y r (no n) = r

      other : (y : Var) → (y ≡ v → ⊥) → (d : Dec (y ≡ v)) → variable y ≡ replacing_at e d
      other y n (yes q) = absurd (n q)
      other y n (no m) = refl

      at : (y : Var) → under_binder put y ≡ put y
      at (prog name s) = kept (prog name s) refl (var_eq (prog name s) v)
      at (logic name s) = kept (logic name s) refl (var_eq (logic name s) v)
      at (bound zero s) = other (bound zero s) (λ q. absurd cc) (var_eq (bound zero s) v)
      at (bound (suc i) s) =
          ap raised (sym (other (bound i s) (λ q. absurd cc) (var_eq (bound i s) v)))
          ∙ other (bound (suc i) s) (λ q. absurd cc) (var_eq (bound (suc i) s) v)

  -- what comes of putting the term covers
  itself-covers : (t : Term) → t ≡ e → term_covers v e t ≡ true
  itself-covers (literal w) q = refl
  itself-covers (variable y) q =
      left-or _ _ (subst (λ z. same_term (variable y) z ≡ true) q (term-refl (variable y)))
  itself-covers (sum a b) q =
      left-or _ _ (subst (λ z. same_term (sum a b) z ≡ true) q (term-refl (sum a b)))
  itself-covers (difference a b) q =
      left-or _ _ (subst (λ z. same_term (difference a b) z ≡ true) q (term-refl (difference a b)))
  itself-covers (appended a b) q =
      left-or _ _ (subst (λ z. same_term (appended a b) z ≡ true) q (term-refl (appended a b)))

  term-put : (t : Term) → term_covers v e (term_with put t) ≡ true
  term-put (literal w) = refl
  term-put (variable y) = by_decision (var_eq y v)
    where
      by_decision : (d : Dec (y ≡ v)) → term_covers v e (replacing_at e d) ≡ true
      by_decision (yes q) = itself-covers e refl
      by_decision (no n) = right-or _ _ (other-var y v n)
  term-put (sum a b) = right-or _ _ (and_from _ _ (term-put a) (term-put b))
  term-put (difference a b) = right-or _ _ (and_from _ _ (term-put a) (term-put b))
  term-put (appended a b) = right-or _ _ (and_from _ _ (term-put a) (term-put b))

  -- a term from which it comes
  abbrev unput : Term → Term
  unput (literal w) = cond (same_term (literal w) e) (variable v) (literal w)
  unput (variable y) = cond (same_term (variable y) e) (variable v) (variable y)
  unput (sum a b) = cond (same_term (sum a b) e) (variable v) (sum (unput a) (unput b))
  unput (difference a b) =
      cond (same_term (difference a b) e) (variable v) (difference (unput a) (unput b))
  unput (appended a b) =
      cond (same_term (appended a b) e) (variable v) (appended (unput a) (unput b))

  put-here : put v ≡ e
  put-here = by_decision (var_eq v v)
    where
      by_decision : (d : Dec (v ≡ v)) → replacing_at e d ≡ e
      by_decision (yes q) = refl
      by_decision (no n) = absurd (n refl)

  put-there : (y : Var) → not (same_var y v) ≡ true → put y ≡ variable y
  put-there y h = by_decision (var_eq y v)
    where
      by_decision : (d : Dec (y ≡ v)) → replacing_at e d ≡ variable y
      by_decision (no n) = refl
      by_decision (yes q) =
          let same : same_var y v ≡ true = subst (λ z. same_var y z ≡ true) q (same_var-refl y) in
          false≢true (sym (ap not same) ∙ h)

  chosen : (t u : Term) (b : Bool) → same_term t e ≡ b → (b ≡ false → term_with put u ≡ t)
      → term_with put (cond b (variable v) u) ≡ t
  chosen t u true s h = put-here ∙ sym (term-is t e s)
  chosen t u false s h = h refl

  two : (a b : Bool) → (a && b) ≡ true → (a ≡ true) × (b ≡ true)
  two a b h = and_parts a b h

  term-unput : (t : Term) → term_covers v e t ≡ true → term_with put (unput t) ≡ t
  term-unput (literal w) c = chosen (literal w) (literal w) _ refl (λ f. refl)
  term-unput (variable y) c =
      chosen (variable y) (variable y) _ refl (λ f. put-there y (or-right _ _ f c))
  term-unput (sum a b) c = chosen (sum a b) (sum (unput a) (unput b)) _ refl (λ f.
      let h = two (term_covers v e a) (term_covers v e b) (or-right _ _ f c) in
      λ j. sum (term-unput a h.0 j) (term-unput b h.1 j))
  term-unput (difference a b) c =
      chosen (difference a b) (difference (unput a) (unput b)) _ refl (λ f.
      let h = two (term_covers v e a) (term_covers v e b) (or-right _ _ f c) in
      λ j. difference (term-unput a h.0 j) (term-unput b h.1 j))
  term-unput (appended a b) c =
      chosen (appended a b) (appended (unput a) (unput b)) _ refl (λ f.
      let h = two (term_covers v e a) (term_covers v e b) (or-right _ _ f c) in
      λ j. appended (term-unput a h.0 j) (term-unput b h.1 j))

  -- FORMULAS
  abbrev pub unput_formula : Formula → Formula
  unput_formula truth = truth
  unput_formula falsity = falsity
  unput_formula (conjunction p q) = conjunction (unput_formula p) (unput_formula q)
  unput_formula (disjunction p q) = disjunction (unput_formula p) (unput_formula q)
  unput_formula (implication p q) = implication (unput_formula p) (unput_formula q)
  unput_formula (negation p) = negation (unput_formula p)
  unput_formula (existential s p) = existential s (unput_formula p)
  unput_formula (universal s p) = universal s (unput_formula p)
  unput_formula (equality a b) = equality (unput a) (unput b)
  unput_formula (at_most a b) = at_most (unput a) (unput b)
  unput_formula (empty k) = empty k
  unput_formula (bare_hole k) = bare_hole k
  unput_formula (node_formula n i p l) =
      node_formula (unput n) (unput i) (unput_formula p) (unput l)
  unput_formula (one_tree p) = one_tree (unput_formula p)
  unput_formula (one_root p) = one_root (unput_formula p)
  unput_formula (concatenation side p q) = concatenation side (unput_formula p) (unput_formula q)
  unput_formula (grove_sum p q) = grove_sum (unput_formula p) (unput_formula q)
  unput_formula (grove_sum_hole p q) = grove_sum_hole (unput_formula p) (unput_formula q)
  unput_formula (application h p q) = application h (unput_formula p) (unput_formula q)
  unput_formula (hole_adjoint p q) = hole_adjoint (unput_formula p) (unput_formula q)
  unput_formula (context_adjoint k p q) = context_adjoint k (unput_formula p) (unput_formula q)
  unput_formula (same_as a) = same_as (unput a)
  unput_formula (length_is a) = length_is (unput a)
  unput_formula (value_meets s a p) = value_meets s (unput a) (unput_formula p)

  pub covers-put : (p : Formula) → covers v e (formula_with put p) ≡ true
  covers-put truth = refl
  covers-put falsity = refl
  covers-put (conjunction p q) = and_from _ _ (covers-put p) (covers-put q)
  covers-put (disjunction p q) = and_from _ _ (covers-put p) (covers-put q)
  covers-put (implication p q) = and_from _ _ (covers-put p) (covers-put q)
  covers-put (negation p) = covers-put p
  covers-put (existential s p) =
      subst (λ f. covers v e (formula_with f p) ≡ true) (sym put-below) (covers-put p)
  covers-put (universal s p) =
      subst (λ f. covers v e (formula_with f p) ≡ true) (sym put-below) (covers-put p)
  covers-put (equality a b) = and_from _ _ (term-put a) (term-put b)
  covers-put (at_most a b) = and_from _ _ (term-put a) (term-put b)
  covers-put (empty k) = refl
  covers-put (bare_hole k) = refl
  covers-put (node_formula n i p l) =
      and_from _ _ (term-put n)
      (and_from _ _ (term-put i) (and_from _ _ (covers-put p) (term-put l)))
  covers-put (one_tree p) = covers-put p
  covers-put (one_root p) = covers-put p
  covers-put (concatenation side p q) = and_from _ _ (covers-put p) (covers-put q)
  covers-put (grove_sum p q) = and_from _ _ (covers-put p) (covers-put q)
  covers-put (grove_sum_hole p q) = and_from _ _ (covers-put p) (covers-put q)
  covers-put (application h p q) = and_from _ _ (covers-put p) (covers-put q)
  covers-put (hole_adjoint p q) = and_from _ _ (covers-put p) (covers-put q)
  covers-put (context_adjoint k p q) = and_from _ _ (covers-put p) (covers-put q)
  covers-put (same_as a) = term-put a
  covers-put (length_is a) = term-put a
  covers-put (value_meets s a p) = and_from _ _ (term-put a) (covers-put p)

  pub put-unput : (p : Formula) → covers v e p ≡ true → formula_with put (unput_formula p) ≡ p
  put-unput truth c = refl
  put-unput falsity c = refl
  put-unput (conjunction p q) c = let h = two (covers v e p) (covers v e q) c in
      λ j. conjunction (put-unput p h.0 j) (put-unput q h.1 j)
  put-unput (disjunction p q) c = let h = two (covers v e p) (covers v e q) c in
      λ j. disjunction (put-unput p h.0 j) (put-unput q h.1 j)
  put-unput (implication p q) c = let h = two (covers v e p) (covers v e q) c in
      λ j. implication (put-unput p h.0 j) (put-unput q h.1 j)
  put-unput (negation p) c = ap negation (put-unput p c)
  put-unput (existential s p) c = ap (existential s)
      (ap (λ f. formula_with f (unput_formula p)) put-below ∙ put-unput p c)
  put-unput (universal s p) c = ap (universal s)
      (ap (λ f. formula_with f (unput_formula p)) put-below ∙ put-unput p c)
  put-unput (equality a b) c = let h = two (term_covers v e a) (term_covers v e b) c in
      λ j. equality (term-unput a h.0 j) (term-unput b h.1 j)
  put-unput (at_most a b) c = let h = two (term_covers v e a) (term_covers v e b) c in
      λ j. at_most (term-unput a h.0 j) (term-unput b h.1 j)
  put-unput (empty k) c = refl
  put-unput (bare_hole k) c = refl
  put-unput (node_formula n i p l) c =
      let h = two (term_covers v e n) _ c in
      let g = two (term_covers v e i) _ h.1 in
      let k = two (covers v e p) (term_covers v e l) g.1 in
      λ j. node_formula (term-unput n h.0 j) (term-unput i g.0 j) (put-unput p k.0 j)
      (term-unput l k.1 j)
  put-unput (one_tree p) c = ap one_tree (put-unput p c)
  put-unput (one_root p) c = ap one_root (put-unput p c)
  put-unput (concatenation side p q) c = let h = two (covers v e p) (covers v e q) c in
      λ j. concatenation side (put-unput p h.0 j) (put-unput q h.1 j)
  put-unput (grove_sum p q) c = let h = two (covers v e p) (covers v e q) c in
      λ j. grove_sum (put-unput p h.0 j) (put-unput q h.1 j)
  put-unput (grove_sum_hole p q) c = let h = two (covers v e p) (covers v e q) c in
      λ j. grove_sum_hole (put-unput p h.0 j) (put-unput q h.1 j)
  put-unput (application h p q) c = let f = two (covers v e p) (covers v e q) c in
      λ j. application h (put-unput p f.0 j) (put-unput q f.1 j)
  put-unput (hole_adjoint p q) c = let h = two (covers v e p) (covers v e q) c in
      λ j. hole_adjoint (put-unput p h.0 j) (put-unput q h.1 j)
  put-unput (context_adjoint k p q) c = let h = two (covers v e p) (covers v e q) c in
      λ j. context_adjoint k (put-unput p h.0 j) (put-unput q h.1 j)
  put-unput (same_as a) c = ap same_as (term-unput a c)
  put-unput (length_is a) c = ap length_is (term-unput a c)
  put-unput (value_meets s a p) c = let h = two (term_covers v e a) (covers v e p) c in
      λ j. value_meets s (term-unput a h.0 j) (put-unput p h.1 j)
