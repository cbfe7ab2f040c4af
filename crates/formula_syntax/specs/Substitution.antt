-- Needn't be believed: the program's promise doesn't speak of it. The simultaneous substitution of
-- terms for variables that a list of pairs says, in the nameless formulas of the definitions, where
-- nothing can be captured; and what it is below binders.
use Rattle.std.specs.Prelude.{◌≡◌, List, [], ◌∷◌, map, Bool, true, false, not, ◌&&◌}
use Rattle.std.specs.List.{list_all}
use Rattle.model_shapes.specs.Sorts.{Sort, value}
use Rattle.model_terms.specs.Variables.{Var, prog, logic, bound, var_sort}
use Rattle.model_terms.specs.VariableTests.{var_eq}
use Rattle.model_terms.specs.Terms.{Term, variable, Substitution, under_binder}
use Rattle.dom_terms.specs.Terms.{var_of, logic_var_of, term_of}
use Rattle.model_formulas.specs.Formulas.{Named, conjunction, disjunction, implication, negation, existential, universal, node_formula, one_tree, one_root, concatenation, grove_sum, grove_sum_hole, application, hole_adjoint, context_adjoint, same_as, value_meets}
use Rattle.model_formulas.specs.WellSorted.{has_sort, variable_at}
use Rattle.model_formulas.specs.Substitution.{replacing}
use Rattle.formula_syntax.specs.Formulas.{pair_of}
use Rattle.formula_syntax.specs.declared.replaced.Name.{Name}
use Rattle.formula_syntax.specs.declared.replaced.Name.TheVariants as n
use Rattle.formula_syntax.specs.declared.replaced.Replacing.{Replacing}
use Rattle.formula_syntax.specs.declared.replaced.Replacing.TheVariants as r

-- the term for one variable, and what else takes its place for every other one
abbrev pub replaced_or : {x y : Var} → Term → Term → Dec (y ≡ x) → Term
replaced_or {x} {y} term other (yes e) = term
replaced_or {x} {y} term other (no n) = other

-- for each variable the term of the first pair that has it, or itself where none does
abbrev pub replacing_each : List (Var × Term) → Substitution
replacing_each [] y = variable y
replacing_each (pair ∷ pairs) y =
    replaced_or pair.1 (replacing_each pairs y) (var_eq y pair.0)

-- the substitution below binders with these names
abbrev pub below : List Var → Substitution → Substitution
below [] substitution = substitution
below (x ∷ xs) substitution = under_binder (below xs substitution)

-- the variable, of the program or of the logic
abbrev pub var_named : Name → Var
var_named (n.Prog named) = var_of named.now
var_named (n.Logic named) = logic_var_of named.now

-- what takes the place of each variable
abbrev pub replacing_of : Replacing → Substitution
replacing_of (r.Pairs pairs) = replacing_each (map pair_of pairs.now)
replacing_of (r.One named term) = replacing (var_of named.now) (term_of term.now)

-- CONDITIONS: the term may take the place of the variable, as a term of a value variable's sort or,
-- for a logic variable of another sort, as a logic variable of that sort
abbrev pub may_replace : Var → Term → Bool
may_replace (prog name s) term = has_sort s term
may_replace (logic name (value s)) term = has_sort s term
may_replace (logic name s) term = variable_at s term
may_replace (bound i s) term = false

-- each pair's term fits its variable
abbrev pub pairs_fit : List (Var × Term) → Bool
pairs_fit pairs = list_all (λ pair. may_replace pair.0 pair.1) pairs

-- a sort of values
abbrev pub is_value : Sort → Bool
is_value (value s) = true
is_value s = false

-- no variable of a value sort
abbrev pub is_no_value : Term → Bool
is_no_value (variable x) = not (is_value (var_sort x))
is_no_value term = true

-- no variable of a value sort stands as a formula or in `is`
abbrev pub names_no_value : Named → Bool
names_no_value (conjunction p q) = names_no_value p && names_no_value q
names_no_value (disjunction p q) = names_no_value p && names_no_value q
names_no_value (implication p q) = names_no_value p && names_no_value q
names_no_value (negation p) = names_no_value p
names_no_value (existential x p) = names_no_value p
names_no_value (universal x p) = names_no_value p
names_no_value (node_formula name number p list) = names_no_value p
names_no_value (one_tree p) = names_no_value p
names_no_value (one_root p) = names_no_value p
names_no_value (concatenation side p q) = names_no_value p && names_no_value q
names_no_value (grove_sum p q) = names_no_value p && names_no_value q
names_no_value (grove_sum_hole p q) = names_no_value p && names_no_value q
names_no_value (application h p q) = names_no_value p && names_no_value q
names_no_value (hole_adjoint p q) = names_no_value p && names_no_value q
names_no_value (context_adjoint k p q) = names_no_value p && names_no_value q
names_no_value (same_as a) = is_no_value a
names_no_value (value_meets s a p) = is_no_value a && names_no_value p
names_no_value formula = true
