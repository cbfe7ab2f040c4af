-- Formulas are read exactly.
use Rattle.std.proofs.Common.{◌≡◌, ℕ, zero, suc, ◌&&◌, true, List, ◌++◌, Some, refl, sym, ap, ◌∙◌, subst}
use Rattle.model_shapes.specs.Sorts.{Sort, tree, forest, grove}
use Rattle.model_terms.specs.Variables.{Var, prog, logic, bound, var_sort}
use Rattle.model_terms.specs.Terms.{Term, literal, variable, sum, difference, appended}
use Rattle.model_formulas.specs.Formulas.{Named, Side, whole, hole_left, hole_right, truth, falsity, conjunction, disjunction, implication, negation, existential, universal, equality, at_most, empty, bare_hole, node_formula, one_tree, one_root, concatenation, grove_sum, grove_sum_hole, application, hole_adjoint, context_adjoint, same_as, length_is, value_meets}
use Rattle.model_text.specs.Lexemes.{Lexeme}
use Rattle.model_grammar.specs.Words.{the, ◌⌢◌}
use Rattle.model_grammar.specs.Terms.{in_formula}
use Rattle.model_grammar.specs.Writing.{var_lexemes, term_lexemes, bracketed}
use Rattle.model_grammar.specs.TheoryWriting.{star_sign, at_sign, into_sign, formula_lexemes}
use Rattle.model_grammar.specs.Writable.{IsLogic, IsWritable}
use Rattle.model_certificates.specs.Formulas.{side_bytes, formula_bytes}
use Rattle.model_certificates.specs.Bounds.{FormulaFits}
use Rattle.model_certificates.specs.Reading.{both, logic_var_at, term_at, side_at, formula_at}
use Rattle.model_certificates.proofs.Words.{are_of, behind_sign, before_sign, between, in_round, node_words, hole_words, at_words, into_words, star_words}
use Rattle.model_certificates.proofs.Exact.{Spelling, Taken, Exact, pair, none_some, made_again, both_exact, no_more, ◌or◌, tagged_takes, variant, alone}
use Rattle.model_certificates.proofs.Leaves.{plain, data_sort_exact, logic_vars, logic_var_exact}
use Rattle.model_certificates.proofs.TermReaders.{terms, term_exact}

side_again : (s : Side) (rest : List ℕ) → side_at (side_bytes s ++ rest) ≡ Some (s, rest)
side_again whole rest = refl
side_again hole_left rest = refl
side_again hole_right rest = refl

pub side_exact : Exact side_at (plain side_bytes)
side_exact = record {
  again = λ s rest w f o. side_again s rest;
  takes = tagged_takes (plain side_bytes) _ (
      alone whole refl tt tt refl
      or alone hole_left refl tt tt refl
      or alone hole_right refl tt tt refl
      or no_more);
}

abbrev pub formulas : ℕ → ℕ → Spelling Named
formulas v n = record {
  bytes = formula_bytes;
  Writes = IsWritable;
  Fits = FormulaFits n;
  words = λ p. are_of v (formula_lexemes p);
}

pub logic_words : (v : ℕ) (x : Var) → IsLogic x → are_of v (var_lexemes x) ≡ true
logic_words v (logic name s) w = refl
logic_words v (prog name s) w = absurd w
logic_words v (bound i s) w = absurd w

module _ (v : ℕ) where
  two_words : (p q : Named) (sign : List Lexeme) → are_of v sign ≡ true
      → are_of v (bracketed (formula_lexemes p) sign (formula_lexemes q))
      ≡ (are_of v (formula_lexemes p) && are_of v (formula_lexemes q))
  two_words p q sign e = in_round v (formula_lexemes p) sign (formula_lexemes q) e

  not_words : (p : Named) → are_of v (formula_lexemes (negation p)) ≡ are_of v (formula_lexemes p)
  not_words p = before_sign v (formula_lexemes p) (the ")") refl

  exists_words : (x : Var) (p : Named) → IsLogic x
      → are_of v (formula_lexemes (existential x p)) ≡ are_of v (formula_lexemes p)
  exists_words x p w =
      behind_sign v (var_lexemes x) (the "." ⌢ formula_lexemes p ⌢ the ")") (logic_words v x w)
      ∙ before_sign v (formula_lexemes p) (the ")") refl

  forall_words : (x : Var) (p : Named) → IsLogic x
      → are_of v (formula_lexemes (universal x p)) ≡ are_of v (formula_lexemes p)
  forall_words x p w =
      behind_sign v (var_lexemes x) (the "." ⌢ formula_lexemes p ⌢ the ")") (logic_words v x w)
      ∙ before_sign v (formula_lexemes p) (the ")") refl

  terms_words : (a b : Term) (sign : List Lexeme) → are_of v sign ≡ true
      → are_of v (term_lexemes a ⌢ sign ⌢ term_lexemes b)
      ≡ (are_of v (term_lexemes a) && are_of v (term_lexemes b))
  terms_words a b sign e = between v (term_lexemes a) sign (term_lexemes b) e

  tree_words : (p : Named) → are_of v (formula_lexemes (one_tree p)) ≡ are_of v (formula_lexemes p)
  tree_words p = before_sign v (formula_lexemes p) (the ">") refl

  root_words : (p : Named) → are_of v (formula_lexemes (one_root p)) ≡ are_of v (formula_lexemes p)
  root_words p = before_sign v (formula_lexemes p) (the "]") refl

  same_words : (x : Var) → IsLogic x → are_of v (formula_lexemes (same_as (variable x))) ≡ true
  same_words x w = logic_words v x w

  is_words : (s : Sort) → (x : Var) (p : Named) → IsLogic x
      → are_of v (formula_lexemes (value_meets s (variable x) p)) ≡ are_of v (formula_lexemes p)
  is_words s x p w =
      in_round v (var_lexemes x) (the "is") (formula_lexemes p) refl
      ∙ ap (λ b. b && are_of v (formula_lexemes p)) (logic_words v x w)

module _ (v n : ℕ) (P : Exact (formula_at v n) (formulas v n)) where
  T : Exact (term_at v in_formula n) (terms v in_formula n)
  T = term_exact v in_formula n

  two : Exact (both (formula_at v n) (formula_at v n)) (pair (formulas v n) (formulas v n))
  two = both_exact P P

  two_terms : Exact (both (term_at v in_formula n) (term_at v in_formula n))
      (pair (terms v in_formula n) (terms v in_formula n))
  two_terms = both_exact T T

  bound_in : Exact (both logic_var_at (formula_at v n)) (pair logic_vars (formulas v n))
  bound_in = both_exact logic_var_exact P

  node_parts : Exact (both (term_at v in_formula n) (both (term_at v in_formula n)
      (both (formula_at v n) (term_at v in_formula n)))) (pair (terms v in_formula n)
      (pair (terms v in_formula n) (pair (formulas v n) (terms v in_formula n))))
  node_parts = both_exact T (both_exact T (both_exact P T))

  formula_again : (p : Named) (rest : List ℕ) → IsWritable p → FormulaFits (suc n) p
      → are_of v (formula_lexemes p) ≡ true
      → formula_at v (suc n) (formula_bytes p ++ rest) ≡ Some (p, rest)
  unfolding formula_at
  formula_again truth rest w f o = refl
  formula_again falsity rest w f o = refl
  formula_again (conjunction p q) rest w f o =
      made_again (λ x. conjunction x.0 x.1) two (p, q) rest w f
      (sym (two_words v p q (the "and") refl) ∙ o)
  formula_again (disjunction p q) rest w f o =
      made_again (λ x. disjunction x.0 x.1) two (p, q) rest w f
      (sym (two_words v p q (the "or") refl) ∙ o)
  formula_again (implication p q) rest w f o =
      made_again (λ x. implication x.0 x.1) two (p, q) rest w f
      (sym (two_words v p q (the "->") refl) ∙ o)
  formula_again (negation p) rest w f o =
      made_again negation P p rest w f (sym (not_words v p) ∙ o)
  formula_again (existential x p) rest w f o =
      made_again (λ y. existential y.0 y.1) bound_in (x, p) rest w f
      (sym (exists_words v x p w.0) ∙ o)
  formula_again (universal x p) rest w f o =
      made_again (λ y. universal y.0 y.1) bound_in (x, p) rest w f
      (sym (forall_words v x p w.0) ∙ o)
  formula_again (equality a b) rest w f o =
      made_again (λ x. equality x.0 x.1) two_terms (a, b) rest w f
      (sym (terms_words v a b (the "=") refl) ∙ o)
  formula_again (at_most a b) rest w f o =
      made_again (λ x. at_most x.0 x.1) two_terms (a, b) rest w f
      (sym (terms_words v a b (the "<=") refl) ∙ o)
  formula_again (empty tree) rest w f o = absurd w
  formula_again (empty forest) rest w f o = refl
  formula_again (empty grove) rest w f o = refl
  formula_again (bare_hole k) rest w f o = made_again bare_hole data_sort_exact k rest tt tt refl
  formula_again (node_formula a b p c) rest w f o =
      made_again (λ x. node_formula x.0 x.1.0 x.1.1.0 x.1.1.1) node_parts (a, (b, (p, c))) rest
      (w.0, (w.1, (w.2, w.3))) (f.0, (f.1, (f.2, f.3)))
      (sym (node_words v (term_lexemes a) (term_lexemes b) (formula_lexemes p) (term_lexemes c))
      ∙ o)
  formula_again (one_tree p) rest w f o =
      made_again one_tree P p rest w f (sym (tree_words v p) ∙ o)
  formula_again (one_root p) rest w f o =
      made_again one_root P p rest w f (sym (root_words v p) ∙ o)
  formula_again (concatenation s p q) rest w f o =
      made_again (λ x. concatenation x.0 x.1.0 x.1.1) (both_exact side_exact two) (s, (p, q)) rest
      (tt, w) (tt, f)
      (sym (two_words v p q (star_sign s) (star_words v s)) ∙ o)
  formula_again (grove_sum p q) rest w f o =
      made_again (λ x. grove_sum x.0 x.1) two (p, q) rest w f
      (sym (two_words v p q (the "+") refl) ∙ o)
  formula_again (grove_sum_hole p q) rest w f o =
      made_again (λ x. grove_sum_hole x.0 x.1) two (p, q) rest w f
      (sym (two_words v p q (the ".+") refl) ∙ o)
  formula_again (application k p q) rest w f o =
      made_again (λ x. application x.0 x.1.0 x.1.1) (both_exact data_sort_exact two) (k, (p, q))
      rest (tt, w) (tt, f)
      (sym (two_words v p q (at_sign k) (at_words v k)) ∙ o)
  formula_again (hole_adjoint p q) rest w f o =
      made_again (λ x. hole_adjoint x.0 x.1) two (p, q) rest w f
      (sym (two_words v p q (the "-o") refl) ∙ o)
  formula_again (context_adjoint k p q) rest w f o =
      made_again (λ x. context_adjoint x.0 x.1.0 x.1.1) (both_exact data_sort_exact two) (k, (p, q))
      rest (tt, w) (tt, f)
      (sym (two_words v p q (into_sign k) (into_words v k)) ∙ o)
  formula_again (same_as (variable x)) rest w f o =
      made_again (λ y. same_as (variable y)) logic_var_exact x rest w f refl
  formula_again (same_as (literal v)) rest w f o = absurd w
  formula_again (same_as (sum a b)) rest w f o = absurd w
  formula_again (same_as (difference a b)) rest w f o = absurd w
  formula_again (same_as (appended a b)) rest w f o = absurd w
  formula_again (length_is a) rest w f o = made_again length_is T a rest w f o
  formula_again (value_meets s (variable x) p) rest w f o =
      subst (λ u. formula_at v (suc n) (formula_bytes (value_meets s (variable x) p) ++ rest)
      ≡ Some (value_meets u (variable x) p, rest)) f.0.1
      (made_again (λ y. value_meets (var_sort y.0) (variable y.0) y.1) bound_in (x, p) rest
      (w.0, w.1) (f.0.0, f.1) (sym (is_words v s x p w.0) ∙ o))
  formula_again (value_meets s (literal v) p) rest w f o = absurd w.0
  formula_again (value_meets s (sum a b) p) rest w f o = absurd w.0
  formula_again (value_meets s (difference a b) p) rest w f o = absurd w.0
  formula_again (value_meets s (appended a b) p) rest w f o = absurd w.0

  formula_takes : (bs : List ℕ) (p : Named) (rest : List ℕ)
      → formula_at v (suc n) bs ≡ Some (p, rest) → Taken (formulas v (suc n)) bs p rest
  unfolding formula_at
  formula_takes = tagged_takes (formulas v (suc n)) _ (
      alone truth refl tt tt refl
      or alone falsity refl tt tt refl
      or variant (λ x. conjunction x.0 x.1) two (λ x w. refl) (λ x w. w) (λ x f. f)
      (λ x w. two_words v x.0 x.1 (the "and") refl)
      or variant (λ x. disjunction x.0 x.1) two (λ x w. refl) (λ x w. w) (λ x f. f)
      (λ x w. two_words v x.0 x.1 (the "or") refl)
      or variant (λ x. implication x.0 x.1) two (λ x w. refl) (λ x w. w) (λ x f. f)
      (λ x w. two_words v x.0 x.1 (the "->") refl)
      or variant negation P (λ x w. refl) (λ x w. w) (λ x f. f)
      (λ x w. not_words v x)
      or variant (λ x. existential x.0 x.1) bound_in (λ x w. refl) (λ x w. w) (λ x f. f)
      (λ x w. exists_words v x.0 x.1 w.0)
      or variant (λ x. universal x.0 x.1) bound_in (λ x w. refl) (λ x w. w) (λ x f. f)
      (λ x w. forall_words v x.0 x.1 w.0)
      or variant (λ x. equality x.0 x.1) two_terms (λ x w. refl) (λ x w. w) (λ x f. f)
      (λ x w. terms_words v x.0 x.1 (the "=") refl)
      or variant (λ x. at_most x.0 x.1) two_terms (λ x w. refl) (λ x w. w) (λ x f. f)
      (λ x w. terms_words v x.0 x.1 (the "<=") refl)
      or alone (empty forest) refl tt tt refl
      or alone (empty grove) refl tt tt refl
      or variant bare_hole data_sort_exact (λ x w. refl) (λ x w. w) (λ x f. f)
      (λ x w. hole_words v x)
      or variant (λ x. node_formula x.0 x.1.0 x.1.1.0 x.1.1.1) node_parts (λ x w. refl)
      (λ x w. (w.0, w.1.0, w.1.1.0, w.1.1.1)) (λ x f. (f.0, f.1.0, f.1.1.0, f.1.1.1))
      (λ x w. node_words v (term_lexemes x.0) (term_lexemes x.1.0) (formula_lexemes x.1.1.0)
      (term_lexemes x.1.1.1))
      or variant one_tree P (λ x w. refl) (λ x w. w) (λ x f. f)
      (λ x w. tree_words v x)
      or variant one_root P (λ x w. refl) (λ x w. w) (λ x f. f)
      (λ x w. root_words v x)
      or variant (λ x. concatenation x.0 x.1.0 x.1.1) (both_exact side_exact two) (λ x w. refl)
      (λ x w. w.1) (λ x f. f.1)
      (λ x w. two_words v x.1.0 x.1.1 (star_sign x.0) (star_words v x.0))
      or variant (λ x. grove_sum x.0 x.1) two (λ x w. refl) (λ x w. w) (λ x f. f)
      (λ x w. two_words v x.0 x.1 (the "+") refl)
      or variant (λ x. grove_sum_hole x.0 x.1) two (λ x w. refl) (λ x w. w) (λ x f. f)
      (λ x w. two_words v x.0 x.1 (the ".+") refl)
      or variant (λ x. application x.0 x.1.0 x.1.1) (both_exact data_sort_exact two) (λ x w. refl)
      (λ x w. w.1) (λ x f. f.1)
      (λ x w. two_words v x.1.0 x.1.1 (at_sign x.0) (at_words v x.0))
      or variant (λ x. hole_adjoint x.0 x.1) two (λ x w. refl) (λ x w. w) (λ x f. f)
      (λ x w. two_words v x.0 x.1 (the "-o") refl)
      or variant (λ x. context_adjoint x.0 x.1.0 x.1.1) (both_exact data_sort_exact two)
      (λ x w. refl) (λ x w. w.1) (λ x f. f.1)
      (λ x w. two_words v x.1.0 x.1.1 (into_sign x.0) (into_words v x.0))
      or variant (λ x. same_as (variable x)) logic_var_exact (λ x w. refl) (λ x w. w) (λ x f. f)
      (λ x w. same_words v x w)
      or variant length_is T (λ x w. refl) (λ x w. w) (λ x f. f)
      (λ x w. refl)
      or variant (λ x. value_meets (var_sort x.0) (variable x.0) x.1) bound_in (λ x w. refl)
      (λ x w. (w.0, w.1)) (λ x f. ((f.0, refl), f.1))
      (λ x w. is_words v (var_sort x.0) x.0 x.1 w.0)
      or no_more)

pub formula_exact : (v n : ℕ) → Exact (formula_at v n) (formulas v n)
unfolding formula_at
formula_exact v zero = record {
  again = λ p rest w f o. absurd f;
  takes = λ bs p rest e. absurd (none_some (p, rest) e);
}
formula_exact v (suc n) = record {
  again = formula_again v n (formula_exact v n);
  takes = formula_takes v n (formula_exact v n);
}
