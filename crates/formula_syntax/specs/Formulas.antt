-- Needn't be believed: the program's promise doesn't speak of it. The formulas of the definitions,
-- those of POPL 2005 and PODS 2008 with the names that they are written with, that the formulas of
-- the program stand for; and its variables and pairs.
use Rattle.model_shapes.specs.Sorts.{forest, grove}
use Rattle.model_terms.specs.Variables.{Var}
use Rattle.model_terms.specs.Terms as terms
use Rattle.model_formulas.specs.Formulas as model
use Rattle.dom_terms.specs.Sorts.{data_sort_of, sort_of}
use Rattle.dom_terms.specs.Terms.{var_of, logic_var_of, term_of}
use Rattle.formula_syntax.specs.declared.formulas.Side.{Side}
use Rattle.formula_syntax.specs.declared.formulas.Side.TheVariants as s
use Rattle.formula_syntax.specs.declared.formulas.Formula.{Formula}
use Rattle.formula_syntax.specs.declared.formulas.Formula.TheVariants as f
use Rattle.formula_syntax.specs.declared.variables.AnyVar.{AnyVar}
use Rattle.formula_syntax.specs.declared.variables.AnyVar.TheVariants as v
use Rattle.formula_syntax.specs.declared.variables.Pair.{Pair}

-- where the hole of a concatenation is
abbrev pub side_of : Side → model.Side
side_of s.Whole = model.whole
side_of s.HoleLeft = model.hole_left
side_of s.HoleRight = model.hole_right

-- the formula
abbrev pub formula_of : Formula → model.Named
formula_of f.True = model.truth
formula_of f.False = model.falsity
formula_of (f.And' p a q b) = model.conjunction (formula_of a) (formula_of b)
formula_of (f.Or' p a q b) = model.disjunction (formula_of a) (formula_of b)
formula_of (f.Imp' p a q b) = model.implication (formula_of a) (formula_of b)
formula_of (f.Not' p a) = model.negation (formula_of a)
formula_of (f.Exists' x p a) = model.existential (logic_var_of x) (formula_of a)
formula_of (f.Forall' x p a) = model.universal (logic_var_of x) (formula_of a)
formula_of (f.Eq left right) = model.equality (term_of left) (term_of right)
formula_of (f.Le left right) = model.at_most (term_of left) (term_of right)
formula_of f.EmptyForest = model.empty forest
formula_of f.EmptyGrove = model.empty grove
formula_of (f.Hole sort) = model.bare_hole (data_sort_of sort)
formula_of (f.Node' name number p children list) =
    model.node_formula (term_of name) (term_of number) (formula_of children) (term_of list)
formula_of (f.One' p a) = model.one_tree (formula_of a)
formula_of (f.Root' p a) = model.one_root (formula_of a)
formula_of (f.Join' side p a q b) =
    model.concatenation (side_of side) (formula_of a) (formula_of b)
formula_of (f.Plus' p a q b) = model.grove_sum (formula_of a) (formula_of b)
formula_of (f.PlusHole' p a q b) = model.grove_sum_hole (formula_of a) (formula_of b)
formula_of (f.App' sort p a q b) =
    model.application (data_sort_of sort) (formula_of a) (formula_of b)
formula_of (f.HoleAdj' p a q b) = model.hole_adjoint (formula_of a) (formula_of b)
formula_of (f.CtxAdj' sort p a q b) =
    model.context_adjoint (data_sort_of sort) (formula_of a) (formula_of b)
formula_of (f.Var x) = model.same_as (terms.variable (logic_var_of x))
formula_of (f.Len length) = model.length_is (term_of length)
formula_of (f.Is' x p a) =
    model.value_meets (sort_of x.sort) (terms.variable (logic_var_of x)) (formula_of a)

-- the variable, of the program or of the logic
abbrev pub any_var_of : AnyVar → Var
any_var_of (v.Prog variable) = var_of variable
any_var_of (v.Logic variable) = logic_var_of variable

-- the variable and the term that takes its place
abbrev pub pair_of : Pair → Var × terms.Term
pair_of pair = (any_var_of pair.var, term_of pair.term)
