-- Formulas that are well sorted, with variables that can be written and integers that have
-- literals, can be written.
use Rattle.std.proofs.Common.{◌≡◌, ℕ, suc, true, ◌&&◌, ◌++◌, pos, negsuc, refl, sym, subst}
use Rattle.std.proofs.lemmas.Bool.{leb-true}
use Rattle.model_limits.specs.Limits.{standard_limits}
use Rattle.model_shapes.specs.Sorts.{Sort, value, shape, context, ValueSort, node_sort, list_sort, int_sort, str_sort, bool_sort, DataSort, tree, forest, grove, outer, inner, with_outer}
use Rattle.model_shapes.specs.Tests.{same_sort}
use Rattle.model_shapes.specs.Values.{null, nolist, node_number, list_number, int, str, boolean}
use Rattle.model_shapes.proofs.Truth.{both_true, false≢true}
use Rattle.model_shapes.proofs.Tests.{same_sort-is}
use Rattle.model_terms.specs.Variables.{Var, prog, logic, bound}
use Rattle.model_terms.specs.Terms.{Term, literal, variable, sum, difference, appended}
use Rattle.model_terms.specs.TermSorts.{has_sort, both_have, is_plain, is_program}
use Rattle.model_formulas.specs.Formulas.{Named, left_sort, right_sort, truth, falsity, conjunction, disjunction, implication, negation, existential, universal, equality, at_most, empty, bare_hole, node_formula, one_tree, one_root, concatenation, grove_sum, grove_sum_hole, application, hole_adjoint, context_adjoint, same_as, length_is, value_meets}
use Rattle.model_formulas.specs.WellSorted.{flags, is_form, is_shape, one_sort, both_logic_of_one_sort, may_bind, variable_at}
use Rattle.model_commands.specs.Each.{Each}
use Rattle.model_commands.specs.CommandParts.{variables_of, variables_of_term}
use Rattle.model_grammar.specs.Terms.{in_formula, in_command}
use Rattle.model_grammar.specs.Writable.{IsLogic, IsLogicTerm, IsWritableTerm, IsWritable}
use Rattle.model_round_trip.specs.Writable.{IsShapeSort}
use Rattle.model_filling.specs.Sizes.{integers_fit, formula_integers_fit}
use Rattle.filled_theory_laws.proofs.Declared.{either_true, each-parts, Fits}
use Rattle.filled_theory_laws.proofs.Flags.{AllPass, passes-parts}

-- TERMS: no number of a node or a list stands in the term
abbrev pub Stands : Term → Type 0
Stands (literal (node_number n)) = ⊥
Stands (literal (list_number n)) = ⊥
Stands (literal v) = Unit
Stands (variable x) = Unit
Stands (sum a b) = Stands a × Stands b
Stands (difference a b) = Stands a × Stands b
Stands (appended a b) = Stands a × Stands b

pub sorted-stands : (s : ValueSort) (a : Term) → has_sort s a ≡ true → Stands a
sorted-stands s (literal (node_number n)) e = false≢true e
sorted-stands s (literal (list_number n)) e = false≢true e
sorted-stands s (literal v) e = tt
sorted-stands s (variable x) e = tt
sorted-stands s (sum a b) e =
    let both = both_true _ _ (both_true _ _ e).1 in
    (sorted-stands int_sort a both.0, sorted-stands int_sort b both.1)
sorted-stands s (difference a b) e =
    let both = both_true _ _ (both_true _ _ e).1 in
    (sorted-stands int_sort a both.0, sorted-stands int_sort b both.1)
sorted-stands s (appended a b) e =
    let both = both_true _ _ (both_true _ _ e).1 in
    (sorted-stands str_sort a both.0, sorted-stands str_sort b both.1)

pub two-stand : (a b : Term) (s : ValueSort) → both_have s a b ≡ true → Stands a × Stands b
two-stand a b s e =
    let both = both_true _ _ e in (sorted-stands s a both.0, sorted-stands s b both.1)

logic-stand : (a b : Term) → both_logic_of_one_sort a b ≡ true → Stands a × Stands b
logic-stand (variable (logic x s)) (variable (logic y u)) e = (tt, tt)
logic-stand a b e = false≢true e

pub one_sort-stand : (a b : Term) → one_sort a b ≡ true → Stands a × Stands b
one_sort-stand a b =
    either_true _ _ (two-stand a b node_sort)
    (either_true _ _ (two-stand a b list_sort)
    (either_true _ _ (two-stand a b int_sort)
    (either_true _ _ (two-stand a b str_sort)
    (either_true _ _ (two-stand a b bool_sort) (logic-stand a b)))))

module _ (version : ℕ) where
  -- the variables of the term fit, and its integers do
  pub record IsFitTerm (a : Term) : Type 0 where
    pub variables : Each (Fits version) (variables_of_term a)
    pub integers : integers_fit a ≡ true

  two-terms : (a b : Term)
      → Each (Fits version) (variables_of_term a ++ variables_of_term b)
      → (integers_fit a && integers_fit b) ≡ true → IsFitTerm a × IsFitTerm b
  two-terms a b h e =
      let x = each-parts (Fits version) (variables_of_term a) (variables_of_term b) h in
      let y = both_true _ _ e in
      (record { variables = x.0; integers = y.0 }, record { variables = x.1; integers = y.1 })

  pub term-writable : (a : Term) → Stands a → IsFitTerm a → IsWritableTerm in_formula a
  term-writable (literal null) s h = tt
  term-writable (literal nolist) s h = tt
  term-writable (literal (node_number n)) s h = s
  term-writable (literal (list_number n)) s h = s
  term-writable (literal (int (pos n))) s h = leb-true n standard_limits.integer h.integers
  term-writable (literal (int (negsuc n))) s h = leb-true (suc n) standard_limits.integer h.integers
  term-writable (literal (str text)) s h = tt
  term-writable (literal (boolean b)) s h = tt
  term-writable (variable (prog name u)) s h = h.variables.0.0
  term-writable (variable (logic name u)) s h = h.variables.0
  term-writable (variable (bound i u)) s h = absurd h.variables.0
  term-writable (sum a b) s h = let x = two-terms a b h.variables h.integers in
      (term-writable a s.0 x.0, term-writable b s.1 x.1)
  term-writable (difference a b) s h = let x = two-terms a b h.variables h.integers in
      (term-writable a s.0 x.0, term-writable b s.1 x.1)
  term-writable (appended a b) s h = let x = two-terms a b h.variables h.integers in
      (term-writable a s.0 x.0, term-writable b s.1 x.1)

  -- without logic variables it can be written in a command
  pub plain-writable : (a : Term) → IsWritableTerm in_formula a → is_plain a ≡ true
      → IsWritableTerm in_command a
  plain-writable (literal null) h e = tt
  plain-writable (literal nolist) h e = tt
  plain-writable (literal (node_number n)) h e = h
  plain-writable (literal (list_number n)) h e = h
  plain-writable (literal (int (pos n))) h e = h
  plain-writable (literal (int (negsuc n))) h e = h
  plain-writable (literal (str text)) h e = tt
  plain-writable (literal (boolean b)) h e = tt
  plain-writable (variable (prog name u)) h e = h
  plain-writable (variable (logic name u)) h e = false≢true e
  plain-writable (variable (bound i u)) h e = h
  plain-writable (sum a b) h e =
      let x = passes-parts is_program (variables_of_term a) (variables_of_term b) e in
      (plain-writable a h.0 x.0, plain-writable b h.1 x.1)
  plain-writable (difference a b) h e =
      let x = passes-parts is_program (variables_of_term a) (variables_of_term b) e in
      (plain-writable a h.0 x.0, plain-writable b h.1 x.1)
  plain-writable (appended a b) h e =
      let x = passes-parts is_program (variables_of_term a) (variables_of_term b) e in
      (plain-writable a h.0 x.0, plain-writable b h.1 x.1)

  -- VARIABLES of the logic
  binder-logic : (x : Var) → may_bind x ≡ true → Fits version x → IsLogic x
  binder-logic (logic name s) e h = h
  binder-logic x e h = false≢true e

  pub variable-logic : (s : Sort) (a : Term) → variable_at s a ≡ true
      → Each (Fits version) (variables_of_term a) → IsLogicTerm a
  variable-logic s (variable (logic name u)) e h = h.0
  variable-logic s a e h = false≢true e

  -- FORMULAS: well sorted, and with variables and integers that fit
  pub record IsFit (p : Named) (s : Sort) : Type 0 where
    pub sorted : AllPass (flags p s)
    pub variables : Each (Fits version) (variables_of p)
    pub integers : formula_integers_fit p ≡ true

  two-fit : (p q : Named) (s u : Sort) → AllPass (flags p s ++ flags q u)
      → Each (Fits version) (variables_of p ++ variables_of q)
      → (formula_integers_fit p && formula_integers_fit q) ≡ true → IsFit p s × IsFit q u
  two-fit p q s u e h i =
      let x = passes-parts (λ flag. flag) (flags p s) (flags q u) e in
      let y = each-parts (Fits version) (variables_of p) (variables_of q) h in
      let z = both_true _ _ i in (
        record { sorted = x.0; variables = y.0; integers = z.0 },
        record { sorted = x.1; variables = y.1; integers = z.1 },
      )

  terms-writable : (a b : Term) → Stands a × Stands b
      → Each (Fits version) (variables_of_term a ++ variables_of_term b)
      → (integers_fit a && integers_fit b) ≡ true
      → IsWritableTerm in_formula a × IsWritableTerm in_formula b
  terms-writable a b s h e = let x = two-terms a b h e in
      (term-writable a s.0 x.0, term-writable b s.1 x.1)

  pub formula-writable : (p : Named) (s : Sort) → IsFit p s → IsWritable p
  formula-writable truth s h = tt
  formula-writable falsity s h = tt
  formula-writable (conjunction p q) s h =
      let x = two-fit p q s s (both_true _ _ h.sorted).1 h.variables h.integers in
      (formula-writable p s x.0, formula-writable q s x.1)
  formula-writable (disjunction p q) s h =
      let x = two-fit p q s s (both_true _ _ h.sorted).1 h.variables h.integers in
      (formula-writable p s x.0, formula-writable q s x.1)
  formula-writable (implication p q) s h =
      let x = two-fit p q s s (both_true _ _ h.sorted).1 h.variables h.integers in
      (formula-writable p s x.0, formula-writable q s x.1)
  formula-writable (negation p) s h = formula-writable p s
      (record {
        sorted = (both_true _ _ h.sorted).1;
        variables = h.variables;
        integers = h.integers;
      })
  formula-writable (existential x p) s h =
      let e = both_true _ _ h.sorted in (
        binder-logic x (both_true (is_form s) _ e.0).1 h.variables.0,
        formula-writable p s
            (record { sorted = e.1; variables = h.variables.1; integers = h.integers }),
      )
  formula-writable (universal x p) s h =
      let e = both_true _ _ h.sorted in (
        binder-logic x (both_true (is_form s) _ e.0).1 h.variables.0,
        formula-writable p s
            (record { sorted = e.1; variables = h.variables.1; integers = h.integers }),
      )
  formula-writable (equality a b) s h =
      terms-writable a b
      (one_sort-stand a b (both_true (is_form s) _ (both_true _ _ h.sorted).0).1)
      h.variables h.integers
  formula-writable (at_most a b) s h =
      terms-writable a b
      (two-stand a b int_sort (both_true (is_form s) _ (both_true _ _ h.sorted).0).1)
      h.variables h.integers
  formula-writable (empty tree) s h = false≢true h.sorted
  formula-writable (empty forest) s h = tt
  formula-writable (empty grove) s h = tt
  formula-writable (bare_hole k) s h = tt
  formula-writable (node_formula name number p list) s h =
      let e = both_true _ _ h.sorted in
      let shapes = both_true _ _ e.0 in
      let contexts = both_true _ _ shapes.1 in
      let first = both_true _ _ contexts.1 in
      let others = both_true _ _ first.1 in
      let v = each-parts (Fits version) (variables_of_term name) _ h.variables in
      let w = each-parts (Fits version) (variables_of_term number) _ v.1 in
      let x = each-parts (Fits version) (variables_of p) (variables_of_term list) w.1 in
      let i = both_true (integers_fit name) _ h.integers in
      let j = both_true (integers_fit number) _ i.1 in
      let k = both_true (formula_integers_fit p) (integers_fit list) j.1 in (
        term-writable name (sorted-stands str_sort name first.0)
            (record { variables = v.0; integers = i.0 }),
        term-writable number (sorted-stands node_sort number others.0)
            (record { variables = w.0; integers = j.0 }),
        formula-writable p (with_outer forest s)
            (record { sorted = e.1; variables = x.0; integers = k.0 }),
        term-writable list (sorted-stands list_sort list others.1)
            (record { variables = x.1; integers = k.1 }),
      )
  formula-writable (one_tree p) s h = formula-writable p (with_outer tree s)
      (record {
        sorted = (both_true _ _ h.sorted).1;
        variables = h.variables;
        integers = h.integers;
      })
  formula-writable (one_root p) s h = formula-writable p (with_outer tree s)
      (record {
        sorted = (both_true _ _ h.sorted).1;
        variables = h.variables;
        integers = h.integers;
      })
  formula-writable (concatenation side p q) s h =
      let x = two-fit p q (left_sort side s) (right_sort side s) (both_true _ _ h.sorted).1
      h.variables h.integers in
      (formula-writable p (left_sort side s) x.0, formula-writable q (right_sort side s) x.1)
  formula-writable (grove_sum p q) s h =
      let x = two-fit p q s s (both_true _ _ h.sorted).1 h.variables h.integers in
      (formula-writable p s x.0, formula-writable q s x.1)
  formula-writable (grove_sum_hole p q) s h =
      let x = two-fit p q s (shape grove) (both_true _ _ h.sorted).1 h.variables h.integers in
      (formula-writable p s x.0, formula-writable q (shape grove) x.1)
  formula-writable (application k p q) s h =
      let x = two-fit p q (context k (outer s)) (with_outer k s) (both_true _ _ h.sorted).1
      h.variables h.integers in
      (formula-writable p (context k (outer s)) x.0, formula-writable q (with_outer k s) x.1)
  formula-writable (hole_adjoint p q) s h =
      let x = two-fit p q (shape (inner s)) (shape (outer s)) (both_true _ _ h.sorted).1 h.variables
      h.integers in
      (formula-writable p (shape (inner s)) x.0, formula-writable q (shape (outer s)) x.1)
  formula-writable (context_adjoint k p q) s h =
      let x = two-fit p q (context (outer s) k) (shape k) (both_true _ _ h.sorted).1 h.variables
      h.integers in
      (formula-writable p (context (outer s) k) x.0, formula-writable q (shape k) x.1)
  formula-writable (same_as a) s h =
      variable-logic s a (both_true (is_form s) _ (both_true _ _ h.sorted).0).1 h.variables
  formula-writable (length_is a) s h =
      term-writable a
      (sorted-stands int_sort a (both_true (same_sort s (shape forest)) _
      (both_true _ _ h.sorted).0).1)
      (record { variables = h.variables; integers = h.integers })
  formula-writable (value_meets u a p) s h =
      let e = both_true _ _ h.sorted in
      let form = both_true (is_form s) _ e.0 in
      let x = each-parts (Fits version) (variables_of_term a) (variables_of p) h.variables in (
        variable-logic u a (both_true (is_form u) _ form.1).1 x.0,
        formula-writable p u
            (record { sorted = e.1; variables = x.1; integers = (both_true _ _ h.integers).1 }),
      )

-- THE SORT of a judgement has a word
same-form : (s u : Sort) → same_sort s u ≡ true → is_form u ≡ true → is_form s ≡ true
same-form s u e f = subst (λ (v : Sort). is_form v ≡ true) (sym (same_sort-is s u e)) f

hole-form : (k : DataSort) → is_form (context k k) ≡ true
hole-form tree = refl
hole-form forest = refl
hole-form grove = refl

shape-form : (s : Sort) → is_shape s ≡ true → is_form s ≡ true
shape-form (shape k) e = refl
shape-form s e = false≢true e

pub judged-form : (p : Named) (s : Sort) → AllPass (flags p s) → is_form s ≡ true
judged-form (empty tree) s e = false≢true e
judged-form (empty forest) s e = same-form s (shape forest) (both_true _ _ e).0 refl
judged-form (empty grove) s e = same-form s (shape grove) (both_true _ _ e).0 refl
judged-form (bare_hole k) s e = same-form s (context k k) (both_true _ _ e).0 (hole-form k)
judged-form (grove_sum p q) s e = same-form s (shape grove) (both_true _ _ e).0 refl
judged-form (length_is a) s e =
    same-form s (shape forest) (both_true _ (has_sort int_sort a) (both_true _ _ e).0).0 refl
judged-form (context_adjoint k p q) s e = shape-form s (both_true _ _ (both_true _ _ e).0).0
judged-form (node_formula name number p list) s e =
    (both_true (is_form s) _ (both_true _ _ (both_true _ _ e).0).0).0
judged-form (one_tree p) s e = (both_true (is_form s) _ (both_true _ _ (both_true _ _ e).0).0).0
judged-form (one_root p) s e = (both_true (is_form s) _ (both_true _ _ (both_true _ _ e).0).0).0
judged-form (concatenation side p q) s e =
    (both_true (is_form s) _ (both_true _ _ (both_true _ _ e).0).0).0
judged-form (grove_sum_hole p q) s e =
    (both_true (is_form s) _ (both_true _ _ (both_true _ _ e).0).0).0
judged-form truth s e = (both_true _ _ e).0
judged-form falsity s e = (both_true _ _ e).0
judged-form (conjunction p q) s e = (both_true _ _ e).0
judged-form (disjunction p q) s e = (both_true _ _ e).0
judged-form (implication p q) s e = (both_true _ _ e).0
judged-form (negation p) s e = (both_true _ _ e).0
judged-form (existential x p) s e = (both_true (is_form s) _ (both_true _ _ e).0).0
judged-form (universal x p) s e = (both_true (is_form s) _ (both_true _ _ e).0).0
judged-form (equality a b) s e = (both_true (is_form s) _ (both_true _ _ e).0).0
judged-form (at_most a b) s e = (both_true (is_form s) _ (both_true _ _ e).0).0
judged-form (application h p q) s e = (both_true (is_form s) _ (both_true _ _ e).0).0
judged-form (hole_adjoint p q) s e = (both_true (is_form s) _ (both_true _ _ e).0).0
judged-form (same_as a) s e = (both_true (is_form s) _ (both_true _ _ e).0).0
judged-form (value_meets u a p) s e = (both_true (is_form s) _ (both_true _ _ e).0).0

pub form-shape : (s : Sort) → is_form s ≡ true → IsShapeSort s
form-shape (value v) e = false≢true e
form-shape (shape k) e = e
form-shape (context h k) e = e
