-- Needn't be believed: patterns, which are rows of the table as data, and what a choice of the
-- letters makes of them.
use Rattle.std.specs.Prelude.{List, [], ◌∷◌}
use Rattle.model_shapes.specs.Sorts.{Sort, shape, context, DataSort}
use Rattle.model_shapes.specs.Values.{Value}
use Rattle.model_terms.specs.Terms.{Term, literal, variable, sum, difference, appended}
use Rattle.model_formulas.specs.Formulas.{Side, Formula, truth, falsity, conjunction, disjunction, implication, negation, equality, at_most, empty, bare_hole, node_formula, one_tree, one_root, concatenation, grove_sum, grove_sum_hole, application, hole_adjoint, context_adjoint, same_as, length_is, value_meets}
use Rattle.model_formulas.specs.Substitution.{exists, forall, formula_with, replacing}
use Rattle.model_commands.specs.Theories.{Judgement, entails}
use Rattle.rule_table.specs.Letters.{Letters, as_logic, sort_at}
use Rattle.rule_table.specs.Conditions.{Requirement, of_sort, Condition, not_free, pure}
use Rattle.rule_table.specs.Lines.{Line}
use Rattle.rule_table.specs.Entries.{Row}
use Rattle.rule_patterns.specs.Constant.{Constant, constant_formula}
use Rattle.rule_patterns.specs.Letter.{FormulaLetter, TermLetter, DataLetter, formula_at, term_at, data_at}

-- a letter of data sorts, or a data sort
pub data DataPattern : Type 0 where
  some_data : DataLetter → DataPattern
  this_data : DataSort → DataPattern

-- sorts
pub data SortPattern : Type 0 where
  -- the letter s; the sort of $x
  some_sort sort_of_x : SortPattern
  -- a data sort; a context sort; the letter o with a data sort
  data_sort : DataPattern → SortPattern
  context_sort : DataPattern → DataPattern → SortPattern
  either_sort : DataPattern → SortPattern

-- terms
pub data TermPattern : Type 0 where
  some_term : TermLetter → TermPattern
  -- $x
  x_term : TermPattern
  literal_p : Value → TermPattern
  sum_p difference_p appended_p : TermPattern → TermPattern → TermPattern

-- formulas
pub data FormulaPattern : Type 0 where
  some_formula : FormulaLetter → FormulaPattern
  -- P with E for $x
  replaced : TermLetter → FormulaLetter → FormulaPattern
  truth_p falsity_p : FormulaPattern
  -- a closed formula of the table
  closed_p : Constant → FormulaPattern
  conjunction_p disjunction_p implication_p : FormulaPattern → FormulaPattern → FormulaPattern
  negation_p : FormulaPattern → FormulaPattern
  -- over $x
  exists_p forall_p : FormulaPattern → FormulaPattern
  equality_p at_most_p : TermPattern → TermPattern → FormulaPattern
  empty_p : DataPattern → FormulaPattern
  bare_hole_p : DataPattern → FormulaPattern
  node_p : TermPattern → TermPattern → FormulaPattern → TermPattern → FormulaPattern
  tree_p root_p : FormulaPattern → FormulaPattern
  concatenation_p : Side → FormulaPattern → FormulaPattern → FormulaPattern
  sum_of_groves_p sum_hole_p : FormulaPattern → FormulaPattern → FormulaPattern
  application_p : DataPattern → FormulaPattern → FormulaPattern → FormulaPattern
  hole_adjoint_p : FormulaPattern → FormulaPattern → FormulaPattern
  context_adjoint_p : DataPattern → FormulaPattern → FormulaPattern → FormulaPattern
  same_as_p : TermPattern → FormulaPattern
  length_p : TermPattern → FormulaPattern
  meets_p : SortPattern → TermPattern → FormulaPattern → FormulaPattern

-- entailments
pub data JudgementPattern : Type 0 where
  entails_p : FormulaPattern → FormulaPattern → SortPattern → JudgementPattern

-- $x isn't free in the formula; the formula is pure
pub data ConditionPattern : Type 0 where
  not_free_p : FormulaLetter → ConditionPattern
  pure_p : FormulaLetter → ConditionPattern

-- the term has the sort of $x; the sort of $x is a sort, as $x has it
pub data RequirementPattern : Type 0 where
  of_sort_p : TermLetter → RequirementPattern
  x_of_sort_p : RequirementPattern

-- a row
pub record LinePattern : Type 0 where
  pub arguments : List TermPattern
  pub requirements : List RequirementPattern
  pub premises : List JudgementPattern
  pub conclusion : JudgementPattern
  pub conditions : List ConditionPattern

-- WHAT A CHOICE MAKES OF THEM
module _ (l : Letters) where
  abbrev pub data_of : DataPattern → DataSort
  data_of (some_data a) = data_at l a
  data_of (this_data k) = k

  abbrev pub sort_of_pattern : SortPattern → Sort
  sort_of_pattern some_sort = l.s
  sort_of_pattern sort_of_x = l.x.sort
  sort_of_pattern (data_sort k) = shape (data_of k)
  sort_of_pattern (context_sort h k) = context (data_of h) (data_of k)
  sort_of_pattern (either_sort k) = sort_at l.o (data_of k)

  abbrev pub term_of : TermPattern → Term
  term_of (some_term a) = term_at l a
  term_of x_term = variable (as_logic l.x)
  term_of (literal_p v) = literal v
  term_of (sum_p a b) = sum (term_of a) (term_of b)
  term_of (difference_p a b) = difference (term_of a) (term_of b)
  term_of (appended_p a b) = appended (term_of a) (term_of b)

  abbrev pub formula_of : FormulaPattern → Formula
  formula_of (some_formula a) = formula_at l a
  formula_of (replaced e a) =
      formula_with (replacing (as_logic l.x) (term_at l e)) (formula_at l a)
  formula_of truth_p = truth
  formula_of falsity_p = falsity
  formula_of (closed_p c) = constant_formula c
  formula_of (conjunction_p p q) = conjunction (formula_of p) (formula_of q)
  formula_of (disjunction_p p q) = disjunction (formula_of p) (formula_of q)
  formula_of (implication_p p q) = implication (formula_of p) (formula_of q)
  formula_of (negation_p p) = negation (formula_of p)
  formula_of (exists_p p) = exists (as_logic l.x) (formula_of p)
  formula_of (forall_p p) = forall (as_logic l.x) (formula_of p)
  formula_of (equality_p a b) = equality (term_of a) (term_of b)
  formula_of (at_most_p a b) = at_most (term_of a) (term_of b)
  formula_of (empty_p k) = empty (data_of k)
  formula_of (bare_hole_p k) = bare_hole (data_of k)
  formula_of (node_p a b p c) = node_formula (term_of a) (term_of b) (formula_of p) (term_of c)
  formula_of (tree_p p) = one_tree (formula_of p)
  formula_of (root_p p) = one_root (formula_of p)
  formula_of (concatenation_p side p q) = concatenation side (formula_of p) (formula_of q)
  formula_of (sum_of_groves_p p q) = grove_sum (formula_of p) (formula_of q)
  formula_of (sum_hole_p p q) = grove_sum_hole (formula_of p) (formula_of q)
  formula_of (application_p h p q) = application (data_of h) (formula_of p) (formula_of q)
  formula_of (hole_adjoint_p p q) = hole_adjoint (formula_of p) (formula_of q)
  formula_of (context_adjoint_p k p q) =
      context_adjoint (data_of k) (formula_of p) (formula_of q)
  formula_of (same_as_p a) = same_as (term_of a)
  formula_of (length_p a) = length_is (term_of a)
  formula_of (meets_p s a p) = value_meets (sort_of_pattern s) (term_of a) (formula_of p)

  abbrev pub judgement_of : JudgementPattern → Judgement
  judgement_of (entails_p p q s) = entails (formula_of p) (formula_of q) (sort_of_pattern s)

  abbrev pub condition_of : ConditionPattern → Condition
  condition_of (not_free_p a) = not_free l.x (formula_at l a)
  condition_of (pure_p a) = pure (formula_at l a)

  abbrev pub requirement_of : RequirementPattern → Requirement
  requirement_of (of_sort_p e) = of_sort l.x.sort (term_at l e)
  requirement_of x_of_sort_p = of_sort l.x.sort (variable (as_logic l.x))

  abbrev pub terms_of : List TermPattern → List Term
  terms_of [] = []
  terms_of (p ∷ ps) = term_of p ∷ terms_of ps

  abbrev pub judgements_of : List JudgementPattern → List Judgement
  judgements_of [] = []
  judgements_of (p ∷ ps) = judgement_of p ∷ judgements_of ps

  abbrev pub requirements_of : List RequirementPattern → List Requirement
  requirements_of [] = []
  requirements_of (p ∷ ps) = requirement_of p ∷ requirements_of ps

  abbrev pub conditions_of : List ConditionPattern → List Condition
  conditions_of [] = []
  conditions_of (p ∷ ps) = condition_of p ∷ conditions_of ps

  abbrev pub line_of : LinePattern → Line
  line_of p = record {
    arguments = terms_of p.arguments;
    requirements = requirements_of p.requirements;
    premises = judgements_of p.premises;
    conclusion = judgement_of p.conclusion;
    conditions = conditions_of p.conditions;
  }

-- the rows of the patterns
abbrev pub rows_of : List LinePattern → List Row
rows_of [] = []
rows_of (p ∷ ps) = (λ l. line_of l p) ∷ rows_of ps
