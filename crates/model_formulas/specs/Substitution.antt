-- Substitution in nameless formulas, and the variables that stand free in them.
-- A quantifier has no name there, so nothing can be captured.
use Rattle.std.specs.Prelude.{◌⊎◌, zero}
use Rattle.model_shapes.specs.Trees.{decided}
use Rattle.model_terms.specs.Variables.{Var, bound, var_sort}
use Rattle.model_terms.specs.VariableTests.{var_eq}
use Rattle.model_terms.specs.Terms.{Term, variable, raised, raised_var, InTerm, Substitution, under_binder, term_with}
use Rattle.model_formulas.specs.Changes.{changed}
use Rattle.model_formulas.specs.Formulas.{FormulaOf, Formula, conjunction, disjunction, implication, negation, existential, universal, equality, at_most, node_formula, one_tree, one_root, concatenation, grove_sum, grove_sum_hole, application, hole_adjoint, context_adjoint, same_as, length_is, value_meets}

-- the formula with a term for each variable
abbrev pub formula_with : Substitution → Formula → Formula
formula_with = changed (λ f s. s) (λ s. under_binder) term_with (λ a s. s)

-- What is gathered from the terms of a formula, from left to right, and from its binders.
module _ {ℓ} {Binder : Type 0} {Result : Type ℓ} (nothing : Result)
    (both : Result → Result → Result) (from : Term → Result)
    (bound_by : Binder → Result → Result) where
  abbrev pub gathered : FormulaOf Binder → Result
  gathered (conjunction p q) = both (gathered p) (gathered q)
  gathered (disjunction p q) = both (gathered p) (gathered q)
  gathered (implication p q) = both (gathered p) (gathered q)
  gathered (negation p) = gathered p
  gathered (existential b p) = bound_by b (gathered p)
  gathered (universal b p) = bound_by b (gathered p)
  gathered (equality a b) = both (from a) (from b)
  gathered (at_most a b) = both (from a) (from b)
  gathered (node_formula name number p list) =
      both (from name) (both (from number) (both (gathered p) (from list)))
  gathered (one_tree p) = gathered p
  gathered (one_root p) = gathered p
  gathered (concatenation side p q) = both (gathered p) (gathered q)
  gathered (grove_sum p q) = both (gathered p) (gathered q)
  gathered (grove_sum_hole p q) = both (gathered p) (gathered q)
  gathered (application h p q) = both (gathered p) (gathered q)
  gathered (hole_adjoint p q) = both (gathered p) (gathered q)
  gathered (context_adjoint k p q) = both (gathered p) (gathered q)
  gathered (same_as a) = from a
  gathered (length_is a) = from a
  gathered (value_meets s a p) = both (from a) (gathered p)
  gathered p = nothing

-- the variable stands free in the formula: in one of its terms, named there as the binders passed
-- on the way ask
abbrev pub FreeIn : Var → Formula → Type 0
FreeIn x p =
    gathered {Result = Var → Type 0} (λ y. ⊥) (λ left right y. left y ⊎ right y)
    (λ a y. InTerm y a) (λ s inside y. inside (raised_var y)) p x

-- the variable bound by a new binder round the formula, as a substitution
abbrev pub closing : Var → Substitution
closing x y = decided (var_eq y x) (variable (bound zero (var_sort x))) (raised (variable y))

-- (exists $x . P) and (forall $x . P), from $x and the nameless P
abbrev pub exists : Var → Formula → Formula
exists x p = existential (var_sort x) (formula_with (closing x) p)

-- the same for every thing
abbrev pub forall : Var → Formula → Formula
forall x p = universal (var_sort x) (formula_with (closing x) p)

-- a term for one variable, and every other variable for itself, as a substitution
abbrev pub replacing : Var → Term → Substitution
replacing x t y = decided (var_eq y x) t (variable y)
