-- Needn't be believed: the patterns of rule_patterns that the program's patterns stand for.
use Rattle.std.specs.Prelude.{List, [], ◌∷◌}
use Rattle.model_shapes.specs.Sorts.{forest, grove}
use Rattle.model_shapes.specs.Values.{null, nolist, int}
use Rattle.dom_terms.specs.Sorts.{data_sort_of}
use Rattle.formula_syntax.specs.Formulas.{side_of}
use Rattle.rule_patterns.specs.Constant as constant
use Rattle.rule_patterns.specs.Letter as letter
use Rattle.rule_patterns.specs.Patterns as pattern
use Rattle.row_patterns.specs.declared.letters.FormulaLetter.{FormulaLetter}
use Rattle.row_patterns.specs.declared.letters.FormulaLetter.TheVariants as fl
use Rattle.row_patterns.specs.declared.letters.TermLetter.{TermLetter}
use Rattle.row_patterns.specs.declared.letters.TermLetter.TheVariants as tl
use Rattle.row_patterns.specs.declared.letters.DataLetter.{DataLetter}
use Rattle.row_patterns.specs.declared.letters.DataLetter.TheVariants as dl
use Rattle.row_patterns.specs.declared.patterns.DataPattern.{DataPattern}
use Rattle.row_patterns.specs.declared.patterns.DataPattern.TheVariants as da
use Rattle.row_patterns.specs.declared.patterns.SortPattern.{SortPattern}
use Rattle.row_patterns.specs.declared.patterns.SortPattern.TheVariants as so
use Rattle.row_patterns.specs.declared.patterns.Closed.{Closed}
use Rattle.row_patterns.specs.declared.patterns.Closed.TheVariants as cl
use Rattle.row_patterns.specs.declared.patterns.TermPattern as te
use Rattle.row_patterns.specs.declared.patterns.Pattern as pa
use Rattle.row_patterns.specs.declared.rows.Judged.{Judged}
use Rattle.row_patterns.specs.declared.rows.Premises.{Premises}
use Rattle.row_patterns.specs.declared.rows.Premises.TheVariants as pr
use Rattle.row_patterns.specs.declared.rows.Asked.{Asked}
use Rattle.row_patterns.specs.declared.rows.Asked.TheVariants as asked
use Rattle.row_patterns.specs.declared.rows.Condition.{Condition}
use Rattle.row_patterns.specs.declared.rows.Condition.TheVariants as co
use Rattle.row_patterns.specs.declared.rows.Row.{Row}

-- LETTERS
abbrev pub letter_in : FormulaLetter → letter.FormulaLetter
letter_in fl.P = letter.P'
letter_in fl.Q = letter.Q'
letter_in fl.R = letter.R'
letter_in fl.A = letter.A'
letter_in fl.B = letter.B'
letter_in fl.K = letter.K'
letter_in fl.H = letter.H'

abbrev pub term_letter_in : TermLetter → letter.TermLetter
term_letter_in tl.E = letter.E'
term_letter_in tl.F = letter.F'
term_letter_in tl.S = letter.S'
term_letter_in tl.I = letter.I'
term_letter_in tl.L = letter.L'
term_letter_in tl.T = letter.T'
term_letter_in tl.J = letter.J'
term_letter_in tl.M = letter.M'
term_letter_in tl.G = letter.G'
term_letter_in tl.V = letter.V'
term_letter_in tl.Y = letter.Y'
term_letter_in tl.N = letter.N'

abbrev pub data_letter_in : DataLetter → letter.DataLetter
data_letter_in dl.H = letter.h'
data_letter_in dl.K = letter.k'
data_letter_in dl.J = letter.j'

-- PATTERNS
abbrev pub data_in : DataPattern → pattern.DataPattern
data_in (da.Letter a) = pattern.some_data (data_letter_in a)
data_in (da.Is k) = pattern.this_data (data_sort_of k)

abbrev pub sort_in : SortPattern → pattern.SortPattern
sort_in so.Any = pattern.some_sort
sort_in so.OfX = pattern.sort_of_x
sort_in (so.Shape k) = pattern.data_sort (data_in k)
sort_in (so.Context h k) = pattern.context_sort (data_in h) (data_in k)
sort_in (so.Either k) = pattern.either_sort (data_in k)

abbrev pub term_in : te.TermPattern → pattern.TermPattern
term_in (te.Letter a) = pattern.some_term (term_letter_in a)
term_in te.X = pattern.x_term
term_in te.NullNode = pattern.literal_p null
term_in te.NullList = pattern.literal_p nolist
term_in (te.Int n) = pattern.literal_p (int n)
term_in (te.Add' p a q b) = pattern.sum_p (term_in a) (term_in b)
term_in (te.Sub' p a q b) = pattern.difference_p (term_in a) (term_in b)
term_in (te.Cat' p a q b) = pattern.appended_p (term_in a) (term_in b)

abbrev pub closed_in : Closed → constant.Constant
closed_in cl.SomeNode = constant.node_constant
closed_in cl.FirstAndRest = constant.forest_constant
closed_in cl.RootAndRest = constant.grove_constant
closed_in cl.SomeLength = constant.length_constant

abbrev pub formula_in : pa.Pattern → pattern.FormulaPattern
formula_in (pa.Letter a) = pattern.some_formula (letter_in a)
formula_in (pa.Replaced e a) = pattern.replaced (term_letter_in e) (letter_in a)
formula_in pa.True = pattern.truth_p
formula_in pa.False = pattern.falsity_p
formula_in (pa.Closed c) = pattern.closed_p (closed_in c)
formula_in (pa.And' p a q b) = pattern.conjunction_p (formula_in a) (formula_in b)
formula_in (pa.Or' p a q b) = pattern.disjunction_p (formula_in a) (formula_in b)
formula_in (pa.Imp' p a q b) = pattern.implication_p (formula_in a) (formula_in b)
formula_in (pa.Not' p a) = pattern.negation_p (formula_in a)
formula_in (pa.Exists' p a) = pattern.exists_p (formula_in a)
formula_in (pa.Forall' p a) = pattern.forall_p (formula_in a)
formula_in (pa.Eq a b) = pattern.equality_p (term_in a) (term_in b)
formula_in (pa.Le a b) = pattern.at_most_p (term_in a) (term_in b)
formula_in pa.EmptyForest = pattern.empty_p (pattern.this_data forest)
formula_in pa.EmptyGrove = pattern.empty_p (pattern.this_data grove)
formula_in (pa.Hole k) = pattern.bare_hole_p (data_in k)
formula_in (pa.Node' a b p c d) =
    pattern.node_p (term_in a) (term_in b) (formula_in c) (term_in d)
formula_in (pa.One' p a) = pattern.tree_p (formula_in a)
formula_in (pa.Root' p a) = pattern.root_p (formula_in a)
formula_in (pa.Join' side p a q b) =
    pattern.concatenation_p (side_of side) (formula_in a) (formula_in b)
formula_in (pa.Plus' p a q b) = pattern.sum_of_groves_p (formula_in a) (formula_in b)
formula_in (pa.PlusHole' p a q b) = pattern.sum_hole_p (formula_in a) (formula_in b)
formula_in (pa.App' h p a q b) =
    pattern.application_p (data_in h) (formula_in a) (formula_in b)
formula_in (pa.HoleAdj' p a q b) = pattern.hole_adjoint_p (formula_in a) (formula_in b)
formula_in (pa.CtxAdj' k p a q b) =
    pattern.context_adjoint_p (data_in k) (formula_in a) (formula_in b)
formula_in pa.Var = pattern.same_as_p pattern.x_term
formula_in (pa.Len a) = pattern.length_p (term_in a)
formula_in (pa.Is' p a) = pattern.meets_p pattern.sort_of_x pattern.x_term (formula_in a)

-- ROWS
abbrev pub judgement_in : Judged → pattern.JudgementPattern
judgement_in j = pattern.entails_p (formula_in j.left) (formula_in j.right) (sort_in j.sort)

abbrev pub premises_in : Premises → List pattern.JudgementPattern
premises_in pr.Nothing = []
premises_in (pr.One a) = judgement_in a ∷ []
premises_in (pr.Two a b) = judgement_in a ∷ judgement_in b ∷ []

abbrev pub arguments_in : Asked → List pattern.TermPattern
arguments_in asked.Nothing = []
arguments_in (asked.Argument e) = pattern.some_term (term_letter_in e) ∷ []
arguments_in asked.SortOfX = []

abbrev pub requirements_in : Asked → List pattern.RequirementPattern
requirements_in asked.Nothing = []
requirements_in (asked.Argument e) = pattern.of_sort_p (term_letter_in e) ∷ []
requirements_in asked.SortOfX = pattern.x_of_sort_p ∷ []

abbrev pub conditions_in : Condition → List pattern.ConditionPattern
conditions_in co.Nothing = []
conditions_in (co.NotFree a) = pattern.not_free_p (letter_in a) ∷ []
conditions_in (co.Pure a) = pattern.pure_p (letter_in a) ∷ []

abbrev pub line_in : Row → pattern.LinePattern
line_in row = record {
  arguments = arguments_in row.asked;
  requirements = requirements_in row.asked;
  premises = premises_in row.premises;
  conclusion = judgement_in row.conclusion;
  conditions = conditions_in row.condition;
}

abbrev pub patterns_in : List Row → List pattern.LinePattern
patterns_in [] = []
patterns_in (row ∷ rows) = line_in row ∷ patterns_in rows
