-- Needn't be believed: contracts of private functions alone speak of it. Roots in a row: a sum
-- whose left side is the first root, and whose right side is the row of the others.
use Rattle.std.specs.Prelude.{◌≡◌, Bool, true, false, ◌&&◌, ◌||◌, not, cond, codes}
use Rattle.model_shapes.specs.Sorts.{shape, grove}
use Rattle.model_formulas.specs.Formulas.{Named, empty, grove_sum}
use Rattle.model_commands.specs.Theories.{entails}
use Rattle.assistant_laws.specs.ConjunctPlans.{same_named}
use Rattle.assistant_laws.specs.Plans.{Plan, alone, from_two}
use Rattle.assistant_laws.specs.FormPlans.{pass}
use Rattle.assistant_laws.specs.Ways.{itself}
use Rattle.formula_syntax.specs.Formulas.{formula_of}
use Rattle.step_filler.specs.declared.roots.Arranged.{Arranged}

-- there is a root
abbrev pub is_sum : Named → Bool
is_sum (grove_sum p rest) = true
is_sum row = false

-- the root is one of the row
abbrev pub has_root : Named → Named → Bool
has_root (grove_sum p rest) root = same_named root p || has_root rest root
has_root row root = false

-- the row without the first that is the root
abbrev pub without_root : Named → Named → Named
without_root (grove_sum p rest) root = cond (same_named root p) rest
    (grove_sum p (without_root rest root))
without_root row root = row

-- both rows have the same roots, in whatever order
abbrev pub same_roots : Named → Named → Bool
same_roots row (grove_sum root rest) = has_root row root && same_roots (without_root row root) rest
same_roots row end = not (is_sum row)

-- from a row to the same with the root in front
abbrev pub front_plan : Named → Named → Plan
front_plan root (grove_sum p rest) = cond (same_named root p)
    (alone (codes "id") (entails (grove_sum p rest) (grove_sum root rest) (shape grove)))
    (pass p root rest (without_root rest root) (front_plan root rest))
front_plan root row = itself (empty grove) (shape grove)

-- from a row to the other, which has the same roots
abbrev pub order_plan : Named → Named → Plan
order_plan row (grove_sum root others) =
    let rest = without_root row root in
    from_two (codes "cut") (front_plan root row)
    (from_two (codes "mono_plus") (itself root (shape grove)) (order_plan rest others)
    (entails (grove_sum root rest) (grove_sum root others) (shape grove)))
    (entails row (grove_sum root others) (shape grove))
order_plan row end = alone (codes "id") (entails row (empty grove) (shape grove))

-- from two roots and others after them to the same with the two the other way round
abbrev pub exchange : Named → Named → Named → Plan
exchange p q rest =
    let first = grove_sum p (grove_sum q rest) in
    let second = grove_sum (grove_sum p q) rest in
    let third = grove_sum (grove_sum q p) rest in
    let end = grove_sum q (grove_sum p rest) in
    from_two (codes "cut") (alone (codes "plus_assoc_back") (entails first second (shape grove)))
    (from_two (codes "cut")
    (from_two (codes "mono_plus")
    (alone (codes "plus_comm") (entails (grove_sum p q) (grove_sum q p) (shape grove)))
    (itself rest (shape grove)) (entails second third (shape grove)))
    (alone (codes "plus_assoc") (entails third end (shape grove)))
    (entails second end (shape grove)))
    (entails first end (shape grove))

-- it is of the two roots and the others
pub record IsArranged (p q rest : Named) (these : Arranged) : Type 0 where
  pub pair : formula_of these.pair ≡ grove_sum p q
  pub grouped : formula_of these.grouped ≡ grove_sum (grove_sum p q) rest
  pub row : formula_of these.row ≡ grove_sum p (grove_sum q rest)
