-- Needn't be believed: the end of a walk. What $x is, and whether all that is known of a letter
-- outside and below a binder goes together with that.
use Rattle.std.specs.Prelude.{Bool, true, false, not, ◌&&◌, cond, Option, Some, None}
use Rattle.std.specs.Option.{option_or}
use Rattle.model_shapes.specs.Sorts.{Sort}
use Rattle.model_shapes.specs.Tests.{same_sort}
use Rattle.model_terms.specs.Variables.{logic, bound}
use Rattle.model_terms.specs.Terms.{Term, variable, sum, difference, appended}
use Rattle.model_formulas.specs.Formulas.{Formula, conjunction, disjunction, implication, negation, existential, universal, equality, at_most, node_formula, one_tree, one_root, concatenation, grove_sum, grove_sum_hole, application, hole_adjoint, context_adjoint, same_as, length_is, value_meets}
use Rattle.model_formulas.specs.SameFormulas.{same_formula}
use Rattle.rule_table.specs.Letters.{LogicVar, as_logic}
use Rattle.letter_bindings.specs.Known.{FormulaPlaces, Known}
use Rattle.letter_bindings.specs.Shifts.{close, raise, open_with, shifted, is_free}

-- WHAT $x IS
-- the logic variable at the first place where the one has a logic variable, the other a bound one
abbrev pub bound_in_term : Term → Term → Option LogicVar
bound_in_term (variable (logic n s)) (variable (bound i u)) = Some (record { name = n; sort = s })
bound_in_term (sum a b) (sum c d) = option_or (bound_in_term a c) (bound_in_term b d)
bound_in_term (difference a b) (difference c d) =
    option_or (bound_in_term a c) (bound_in_term b d)
bound_in_term (appended a b) (appended c d) = option_or (bound_in_term a c) (bound_in_term b d)
bound_in_term a b = None

abbrev pub bound_in : Formula → Formula → Option LogicVar
bound_in (conjunction p q) (conjunction r s) = option_or (bound_in p r) (bound_in q s)
bound_in (disjunction p q) (disjunction r s) = option_or (bound_in p r) (bound_in q s)
bound_in (implication p q) (implication r s) = option_or (bound_in p r) (bound_in q s)
bound_in (negation p) (negation r) = bound_in p r
bound_in (existential u p) (existential v r) = bound_in p r
bound_in (universal u p) (universal v r) = bound_in p r
bound_in (equality a b) (equality c d) = option_or (bound_in_term a c) (bound_in_term b d)
bound_in (at_most a b) (at_most c d) = option_or (bound_in_term a c) (bound_in_term b d)
bound_in (node_formula a b p c) (node_formula d e r f) =
    option_or (bound_in_term a d)
    (option_or (bound_in_term b e) (option_or (bound_in p r) (bound_in_term c f)))
bound_in (one_tree p) (one_tree r) = bound_in p r
bound_in (one_root p) (one_root r) = bound_in p r
bound_in (concatenation d p q) (concatenation e r s) = option_or (bound_in p r) (bound_in q s)
bound_in (grove_sum p q) (grove_sum r s) = option_or (bound_in p r) (bound_in q s)
bound_in (grove_sum_hole p q) (grove_sum_hole r s) = option_or (bound_in p r) (bound_in q s)
bound_in (application h p q) (application k r s) = option_or (bound_in p r) (bound_in q s)
bound_in (hole_adjoint p q) (hole_adjoint r s) = option_or (bound_in p r) (bound_in q s)
bound_in (context_adjoint h p q) (context_adjoint k r s) =
    option_or (bound_in p r) (bound_in q s)
bound_in (same_as a) (same_as b) = bound_in_term a b
bound_in (length_is a) (length_is b) = bound_in_term a b
bound_in (value_meets u a p) (value_meets v b r) = option_or (bound_in_term a b) (bound_in p r)
bound_in p r = None

-- where a letter is known outside and below
abbrev pub found_in : Option Formula → Option Formula → Option LogicVar
found_in (Some p) (Some q) = bound_in p q
found_in p q = None

-- at the first of the letters where it shows
abbrev pub found_at : FormulaPlaces → FormulaPlaces → Option LogicVar
found_at ps qs =
    option_or (found_in ps.P qs.P)
    (option_or (found_in ps.Q qs.Q)
    (option_or (found_in ps.R qs.R)
    (option_or (found_in ps.A qs.A)
    (option_or (found_in ps.B qs.B)
    (option_or (found_in ps.K qs.K) (found_in ps.H qs.H))))))

-- $x, where it shows; where it doesn't it is a new variable
abbrev pub found_x : Known → Option LogicVar
found_x k = option_or k.x (found_at k.formulas k.belows)

-- WHETHER IT GOES TOGETHER, with $x this variable or a new one
-- what stands below is the letter's formula closed over $x; where this isn't known, $x is free in
-- nothing that stands below
abbrev pub goes_below : Option LogicVar → Option Formula → Option Formula → Bool
goes_below x p None = true
goes_below None None (Some q) = true
goes_below None (Some p) (Some q) = same_formula (shifted raise p) q
goes_below (Some v) None (Some q) = not (is_free (as_logic v) q)
goes_below (Some v) (Some p) (Some q) = same_formula (shifted (close v) p) q

abbrev pub all_go_below : Option LogicVar → FormulaPlaces → FormulaPlaces → Bool
all_go_below x ps qs =
    goes_below x ps.P qs.P &&
    (goes_below x ps.Q qs.Q &&
    (goes_below x ps.R qs.R &&
    (goes_below x ps.A qs.A &&
    (goes_below x ps.B qs.B && (goes_below x ps.K qs.K && goes_below x ps.H qs.H)))))

-- P with E for $x, where it is to be something: P is known below a binder
abbrev pub is_put : Option Formula → Option Term → Option Formula → Bool
is_put p e None = true
is_put (Some p) (Some e) (Some q) = same_formula (shifted (open_with e) p) q
is_put p e q = false

-- the variable has the sort
abbrev pub has_x_sort : Option LogicVar → Option Sort → Bool
has_x_sort (Some v) (Some s) = same_sort s v.sort
has_x_sort x s = true

abbrev pub settles_with : Option LogicVar → Known → Bool
settles_with x k =
    has_x_sort x k.x_sort &&
    (all_go_below x k.formulas k.belows && is_put k.belows.P k.terms.E k.put)

-- $x, this variable or a new one, where all goes together with it
abbrev pub settle : Known → Option (Option LogicVar)
settle k = cond (settles_with (found_x k) k) (Some (found_x k)) None
