-- Needn't be believed: the operators and connectives that those of the program stand for.
use Rattle.model_terms.specs.Variables.{Var}
use Rattle.model_terms.specs.Terms.{Term, sum, difference, appended}
use Rattle.model_formulas.specs.Formulas.{Named, conjunction, disjunction, implication, existential, universal, concatenation, grove_sum, grove_sum_hole, application, hole_adjoint, context_adjoint}
use Rattle.dom_terms.specs.Sorts.{data_sort_of}
use Rattle.formula_syntax.specs.Formulas.{side_of}
use Rattle.logic_text.specs.declared.term_reading.Operator.{Operator}
use Rattle.logic_text.specs.declared.term_reading.Operator.TheVariants as o
use Rattle.logic_text.specs.declared.connectives.Connective.{Connective}
use Rattle.logic_text.specs.declared.connectives.Connective.TheVariants as c
use Rattle.logic_text.specs.declared.formula_reading.Quantifier.{Quantifier}
use Rattle.logic_text.specs.declared.formula_reading.Quantifier.TheVariants as q

-- what the operator makes of two terms
abbrev pub operator_of : Operator → Term → Term → Term
operator_of o.Add = sum
operator_of o.Sub = difference
operator_of o.Cat = appended

-- what the connective makes of two formulas
abbrev pub connective_of : Connective → Named → Named → Named
connective_of c.And = conjunction
connective_of c.Or = disjunction
connective_of c.Imp = implication
connective_of (c.Join side) = concatenation (side_of side)
connective_of c.Plus = grove_sum
connective_of c.PlusHole = grove_sum_hole
connective_of (c.App sort) = application (data_sort_of sort)
connective_of c.HoleAdj = hole_adjoint
connective_of (c.CtxAdj sort) = context_adjoint (data_sort_of sort)

-- what the quantifier makes of a variable and a formula
abbrev pub quantifier_of : Quantifier → Var → Named → Named
quantifier_of q.Exists = existential
quantifier_of q.Forall = universal
