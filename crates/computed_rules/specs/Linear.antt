-- Needn't be believed: a law says that this is the verdict. The verdict by the rule on sums of
-- comparisons, as it is computed.
use Rattle.std.specs.Prelude.{ℤ, pos, int_le, Bool, true, false, ◌&&◌, List, [], ◌∷◌, ◌++◌, Option, Some, None, cond}
use Rattle.std.specs.List.{flat_map, list_all}
use Rattle.model_shapes.specs.Sorts.{int_sort}
use Rattle.model_shapes.specs.Tests.{int_eq}
use Rattle.model_shapes.specs.Values.{int}
use Rattle.model_terms.specs.Terms.{Term, literal, difference}
use Rattle.model_terms.specs.TermSorts.{both_have}
use Rattle.model_formulas.specs.Formulas.{FormulaOf, conjunction, equality, at_most, falsity}
use Rattle.model_commands.specs.Theories.{Judgement, entails, triple}
use Rattle.rule_table.specs.Conditions.{coefficient_side, sum_side}
use Rattle.rule_table.specs.Linear.{Form, multiple, rest, in_range, at_least_zero, below_zero, is_zero}
use Rattle.rule_table.specs.Verdicts.{Verdict, instance_verdict, shape_verdict, side_verdict}

-- a comparison with its number: an order, or else an equation
pub record Comparison : Type 0 where
  pub number : ℤ
  pub is_order : Bool
  pub left : Term
  pub right : Term

-- what was read: the comparisons, and the numbers that are left
abbrev pub Reading : Type 0
Reading = List Comparison × List Term

abbrev pub and_then : Option Reading → (List Comparison → List Term → Option Reading)
    → Option Reading
and_then None f = None
and_then (Some r) f = f r.0 r.1

-- a comparison with the first number, behind those that are there
abbrev pub compared : Bool → List Comparison → Term → Term → List Term → Option Reading
compared o cs l r (literal (int a) ∷ ts) =
    Some (cs ++ record { number = a; is_order = o; left = l; right = r } ∷ [], ts)
compared o cs l r ts = None

-- the comparisons of a formula with the first numbers, behind those that are there
abbrev pub read : {Binder : Type 0} → List Comparison → FormulaOf Binder → List Term
    → Option Reading
read cs (conjunction p q) ts = and_then (read cs p ts) (λ ds us. read ds q us)
read cs (at_most l r) ts = compared true cs l r ts
read cs (equality l r) ts = compared false cs l r ts
read cs p ts = None

-- the terms are integers
abbrev pub is_integral : Comparison → Bool
is_integral c = both_have int_sort c.left c.right

-- the number is in range, and at least 0 at an order
abbrev pub is_fair : Comparison → Bool
is_fair c = in_range c.number && cond c.is_order (int_le (pos 0) c.number) true

-- the comparison is an equation, or counts for nothing
abbrev pub is_equation : Comparison → Bool
is_equation c = cond c.is_order (int_eq c.number (pos 0)) true

-- the sum of each number times (R - L)
abbrev pub weighed : Comparison → Form
weighed c = multiple c.number (difference c.right c.left)

abbrev pub total : List Comparison → Form
total cs = flat_map weighed cs

-- s - (F - E): what is written of a conclusion is that this is at most 0, or 0
abbrev pub shortfall : Term → Term → Form → Form
shortfall e f s = s ++ multiple (pos 1) (difference e f)

-- by the numbers, and whether the sum gives the conclusion
abbrev pub by_sum : List Comparison → Bool → Verdict
by_sum cs gives =
    cond (list_all is_fair cs) (cond gives instance_verdict (side_verdict sum_side))
    (side_verdict coefficient_side)

-- a conclusion of the rule: E <= F, E = F of integers, or false
abbrev pub may_conclude : {Binder : Type 0} → FormulaOf Binder → Bool
may_conclude (at_most a b) = true
may_conclude (equality a b) = both_have int_sort a b
may_conclude falsity = true
may_conclude q = false

-- the sum gives it
abbrev pub gives : {Binder : Type 0} → List Comparison → FormulaOf Binder → Bool
gives cs (at_most a b) = at_least_zero (rest a b (total cs))
gives cs (equality a b) = is_zero (rest a b (total cs)) && list_all is_equation cs
gives cs falsity = below_zero (total cs)
gives cs q = false

-- by the conclusion
abbrev pub by_conclusion : {Binder : Type 0} → List Comparison → FormulaOf Binder → Verdict
by_conclusion cs q = cond (may_conclude q) (by_sum cs (gives cs q)) shape_verdict

-- the terms of an order are integers
abbrev pub orders_integers : {Binder : Type 0} → FormulaOf Binder → Bool
orders_integers (at_most a b) = both_have int_sort a b
orders_integers q = true

-- by what was read
abbrev pub by_numbers : {Binder : Type 0} → List Comparison → List Term → FormulaOf Binder
    → Verdict
by_numbers cs [] q = cond (list_all is_integral cs) (by_conclusion cs q) shape_verdict
by_numbers cs (t ∷ ts) q = shape_verdict

abbrev pub by_reading : {Binder : Type 0} → Option Reading → FormulaOf Binder → Verdict
by_reading None q = shape_verdict
by_reading (Some r) q = by_numbers r.0 r.1 q

-- of `linear`
abbrev pub linear_verdict : List Term → Judgement → Verdict
linear_verdict ts (entails p q s) = by_reading (read [] p ts) q
linear_verdict ts (triple p c q d) = shape_verdict
