-- Lengths as numbers: what the rows of `len` share, and len_star.
use Rattle.std.proofs.Common.{◌≡◌, ℕ, ◌+◌, ◌+ℤ◌, pos, int_le, IsTrue, ap, ◌∙◌, subst}
use Rattle.std.proofs.Math.Dec.{leb-zero}
use Rattle.model_shapes.specs.Sorts.{Sort, outer}
use Rattle.model_shapes.specs.Values.{int}
use Rattle.model_shapes.specs.Trees.{beside, width}
use Rattle.model_shapes.specs.Things.{Thing, val}
use Rattle.model_shapes.proofs.Basics.{width-beside}
use Rattle.model_shapes.proofs.Shapes.{same-width}
use Rattle.model_terms.specs.Terms.{Term, sum}
use Rattle.model_formulas.specs.Formulas.{Formula, length_is}
use Rattle.model_formulas.specs.Satisfaction.{Meets, Entails, meaning_of, number_of}
use Rattle.model_formulas.proofs.Stable.{stable}
use Rattle.rule_table.specs.Notation.{◌and◌, ◌∗◌}
use Rattle.entailment_laws.proofs.Classical.{◌>>=◌, surely}
use Rattle.entailment_laws.proofs.Shared.{split}

-- a number as a thing
abbrev pub count : ℕ → Thing
count n = val (int (pos n))

pub count-zero : (n : ℕ) → count n ≡ count 0 → n ≡ 0
count-zero n e = cc

pub at_least_zero : (n : ℕ) (x : Thing) → count n ≡ x → IsTrue (int_le (pos 0) (number_of x))
at_least_zero n x e = subst (λ z. IsTrue (int_le (pos 0) (number_of z))) e (leb-zero n)

-- the sum of two
count-sum : (n m : ℕ) (x y : Thing) → count n ≡ x → count m ≡ y
    → count (n + m) ≡ val (int (number_of x +ℤ number_of y))
count-sum n m x y e f = λ j. val (int (number_of (e j) +ℤ number_of (f j)))

pub len_star : (p q : Formula) (a b : Term) (s : Sort)
    → Entails ((p and length_is a) ∗ (q and length_is b)) ((p ∗ q) and length_is (sum a b)) s
len_star p q a b s e pr r w m = stable ((p ∗ q) and length_is (sum a b)) e s r (do
  (x, wx, m1) ← m
  (y, wy, (same, mx, my)) ← m1
  let n : width r ≡ width x + width y =
      same-width (outer s) r (beside x y) same ∙ width-beside x y
  let total : count (width x + width y) ≡ meaning_of e (sum a b) =
      count-sum (width x) (width y) (meaning_of e a) (meaning_of e b) mx.1 my.1
  surely (
    split (outer s) s s (Meets p e) (Meets q e) r x y wx wy same mx.0 my.0,
    ap count n ∙ total,
  ))
