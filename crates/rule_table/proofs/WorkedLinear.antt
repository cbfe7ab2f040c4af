-- Worked verdicts of the row linear, by evaluation.
use Rattle.std.proofs.Common.{ℤ, pos, negsuc, List, [], ◌∷◌, Some, codes}
use Rattle.model_shapes.specs.Sorts.{shape, grove, int_sort, bool_sort}
use Rattle.model_shapes.specs.Values.{int, str}
use Rattle.model_terms.specs.Variables.{prog}
use Rattle.model_terms.specs.Terms.{Term, literal, variable, sum}
use Rattle.model_formulas.specs.Formulas.{Formula, truth, falsity, conjunction, at_most, equality}
use Rattle.model_commands.specs.Theories.{entails}
use Rattle.rule_table.specs.Conditions.{coefficient_side, sum_side}
use Rattle.rule_table.specs.Verdicts.{Verdict, IsVerdict, instance_verdict, shape_verdict, premises_verdict, side_verdict}
use Rattle.rule_table.proofs.LinearVerdicts.{linear_verdict}
use Rattle.rule_table.proofs.SomeLetters.{readings_of}

-- x, y, z
abbrev x : Term
x = variable (prog (codes "x") int_sort)

abbrev y : Term
y = variable (prog (codes "y") int_sort)

abbrev z : Term
z = variable (prog (codes "z") int_sort)

abbrev number : ℤ → Term
number a = literal (int a)

-- by linear() with the arguments: the left formula entails the right one at g
abbrev Linear : List Term → Formula → Formula → Verdict → Type 0
Linear arguments p q = IsVerdict (readings_of (codes "linear"))
    (record { arguments = arguments; premises = Some []; conclusion = entails p q (shape grove) })

-- its verdict
abbrev found : (arguments : List Term) (p q : Formula) → (v : Verdict) × Linear arguments p q v
found arguments p q = linear_verdict arguments (Some []) (entails p q (shape grove))

-- (x <= y and y <= z)
abbrev in_order : Formula
in_order = conjunction (at_most x y) (at_most y z)

-- {{x + x} + y} <= {{z + z} + z}: the difference of the sides is 2 (y - x) + 3 (z - y)
abbrev weighed_order : Formula
weighed_order = at_most (sum (sum x x) y) (sum (sum z z) z)

-- (x <= y and y <= z) entails {{x + x} + y} <= {{z + z} + z}
pub two_and_three : Linear (number (pos 2) ∷ number (pos 3) ∷ []) in_order weighed_order
    instance_verdict
two_and_three = (found (number (pos 2) ∷ number (pos 3) ∷ []) in_order weighed_order).1

-- a number below 0 at an order
pub two_and_minus_three : Linear (number (pos 2) ∷ number (negsuc 2) ∷ []) in_order weighed_order
    (side_verdict coefficient_side)
two_and_minus_three = (found (number (pos 2) ∷ number (negsuc 2) ∷ []) in_order weighed_order).1

-- a number out of range
pub a_million_and_one : Linear (number (pos 2) ∷ number (pos 1000001) ∷ []) in_order weighed_order
    (side_verdict coefficient_side)
a_million_and_one = (found (number (pos 2) ∷ number (pos 1000001) ∷ []) in_order weighed_order).1

-- another sum
pub two_and_two : Linear (number (pos 2) ∷ number (pos 2) ∷ []) in_order weighed_order
    (side_verdict sum_side)
two_and_two = (found (number (pos 2) ∷ number (pos 2) ∷ []) in_order weighed_order).1

-- another number of arguments than of comparisons
pub two_alone : Linear (number (pos 2) ∷ []) in_order weighed_order shape_verdict
two_alone = (found (number (pos 2) ∷ []) in_order weighed_order).1

-- an argument that is no integer
pub a_text : Linear (number (pos 2) ∷ literal (str []) ∷ []) in_order weighed_order shape_verdict
a_text = (found (number (pos 2) ∷ literal (str []) ∷ []) in_order weighed_order).1

-- a conjunct that is no comparison
pub true_and_order : Linear (number (pos 0) ∷ number (pos 1) ∷ []) (conjunction truth (at_most x y))
    (at_most x y) shape_verdict
true_and_order =
    (found (number (pos 0) ∷ number (pos 1) ∷ []) (conjunction truth (at_most x y)) (at_most x y)).1

-- x = {x + 1} entails false, with (-1)
abbrev its_next : Formula
its_next = equality x (sum x (number (pos 1)))

pub minus_one : Linear (number (negsuc 0) ∷ []) its_next falsity instance_verdict
minus_one = (found (number (negsuc 0) ∷ []) its_next falsity).1

pub plus_one : Linear (number (pos 1) ∷ []) its_next falsity (side_verdict sum_side)
plus_one = (found (number (pos 1) ∷ []) its_next falsity).1

-- an order gives no equation, but for the number 0
pub order_alone : Linear (number (pos 1) ∷ []) (at_most x y) (equality x y) (side_verdict sum_side)
order_alone = (found (number (pos 1) ∷ []) (at_most x y) (equality x y)).1

pub nothing_needed : Linear (number (pos 0) ∷ []) (at_most x y)
    (equality (sum x y) (sum y x)) instance_verdict
nothing_needed = (found (number (pos 0) ∷ []) (at_most x y) (equality (sum x y) (sum y x))).1

-- an equation of truth values is none of integers
pub truth_values : Linear (number (pos 0) ∷ [])
    (equality (variable (prog (codes "b") bool_sort)) (variable (prog (codes "b") bool_sort)))
    (at_most x x) shape_verdict
truth_values =
    (found (number (pos 0) ∷ [])
    (equality (variable (prog (codes "b") bool_sort)) (variable (prog (codes "b") bool_sort)))
    (at_most x x)).1

-- a citation that isn't wanted
pub cited : IsVerdict (readings_of (codes "linear"))
    (record {
      arguments = number (pos 1) ∷ [];
      premises = Some (entails truth truth (shape grove) ∷ []);
      conclusion = entails (at_most x y) (at_most x y) (shape grove);
    }) premises_verdict
cited =
    (linear_verdict (number (pos 1) ∷ []) (Some (entails truth truth (shape grove) ∷ []))
    (entails (at_most x y) (at_most x y) (shape grove))).1
