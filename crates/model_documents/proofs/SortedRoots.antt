-- Sorting roots reorders them, and groves that stand by rising number are the same where they are
-- equal.
use Rattle.std.proofs.Common.{◌≡◌, ℕ, ◌≤◌, ◌+◌, Bool, true, false, cond, List, nat_le, refl, sym, ap, ◌∙◌, arith}
use Rattle.std.proofs.lemmas.Bool.Decides.{nat_tests}
use Rattle.std.proofs.Math.Decide.{ℕ_discrete}
use Rattle.model_shapes.specs.Trees.{Trees, none, node, hole, beside, root_uses, node_uses, list_uses, one_if, trees_eq, WellFormed}
use Rattle.model_shapes.specs.RootHoles.{root_holes}
use Rattle.model_shapes.proofs.Basics.{root_uses-beside, root_holes-beside, node_uses-beside, list_uses-beside}
use Rattle.model_shapes.proofs.Sameness.{SameGrove, one_if_self, same-count}
use Rattle.model_documents.specs.Roots.{root_put, sorted_roots, FromNumber, Rising}

-- a root that is put among others is one root more
put-same : (s : List ℕ) (i : ℕ) (k : Trees) (l : ℕ) (r : Trees)
    → SameGrove (root_put s i k l r) (node s i k l r)
put-same s i k l none u = refl
put-same s i k l (node s' i' k' l' r) u = by_test (nat_le i i') (put-same s i k l r u)
  where
    by_test : (b : Bool) → root_uses u (root_put s i k l r) ≡ root_uses u (node s i k l r)
        → root_uses u (cond b (node s i k l (node s' i' k' l' r))
        (node s' i' k' l' (root_put s i k l r)))
        ≡ root_uses u (node s i k l (node s' i' k' l' r))
    by_test true e = refl
    by_test false e = omega arith
put-same s i k l (hole r) u = omega (arith, put-same s i k l r u)

pub sorted-same : (g : Trees) → SameGrove (sorted_roots g) g
sorted-same none u = refl
sorted-same (node s i k l r) u = omega (arith, put-same s i k l (sorted_roots r) u, sorted-same r u)
sorted-same (hole r) u = omega (arith, sorted-same r u)

-- and so it is as well formed as before
pub sorted-WellFormed : (g : Trees) → WellFormed g → WellFormed (sorted_roots g)
sorted-WellFormed g wf = record {
  nodes_once = λ n. omega (
    arith,
    same-count (node_uses n) (node_uses-beside n) (sorted_roots g) g
        (sorted-same g),
    wf.nodes_once n,
  );
  lists_once = λ n. omega (
    arith,
    same-count (list_uses n) (list_uses-beside n) (sorted_roots g) g
        (sorted-same g),
    wf.lists_once n,
  );
  no_node_zero = same-count (node_uses 0) (node_uses-beside 0) (sorted_roots g) g (sorted-same g)
      ∙ wf.no_node_zero;
  no_list_zero = same-count (list_uses 0) (list_uses-beside 0) (sorted_roots g) g (sorted-same g)
      ∙ wf.no_list_zero;
}

-- what is put stands by rising number
from-lower : (m n : ℕ) (g : Trees) → m ≤ n → FromNumber n g → FromNumber m g
from-lower m n none h f = tt
from-lower m n (node s i k l r) h f = (omega (arith, f.0), from-lower m n r h f.1)
from-lower m n (hole r) h f = from-lower m n r h f

from-put : (n : ℕ) (s : List ℕ) (i : ℕ) (k : Trees) (l : ℕ) (r : Trees) → n ≤ i → FromNumber n r
    → FromNumber n (root_put s i k l r)
from-put n s i k l none h f = (h, tt)
from-put n s i k l (node s' i' k' l' r) h f = by_test (nat_le i i') (from-put n s i k l r h f.1)
  where
    by_test : (b : Bool) → FromNumber n (root_put s i k l r)
        → FromNumber n (cond b (node s i k l (node s' i' k' l' r))
        (node s' i' k' l' (root_put s i k l r)))
    by_test true e = (h, f)
    by_test false e = (f.0, e)
from-put n s i k l (hole r) h f = from-put n s i k l r h f

put-rising : (s : List ℕ) (i : ℕ) (k : Trees) (l : ℕ) (r : Trees) → Rising r
    → Rising (root_put s i k l r)
put-rising s i k l none h = (tt, tt)
put-rising s i k l (node s' i' k' l' r) h = by_test (nat_le i i') refl (put-rising s i k l r h.1)
  where
    by_test : (b : Bool) → nat_le i i' ≡ b → Rising (root_put s i k l r)
        → Rising (cond b (node s i k l (node s' i' k' l' r))
        (node s' i' k' l' (root_put s i k l r)))
    by_test true e p = let below : i ≤ i' = grind (arith, nat_tests) in
        ((below, from-lower i i' r below h.0), h)
    by_test false e p = let above : i' ≤ i = grind (arith, nat_tests) in
        (from-put i' s i k l r above h.0, p)
put-rising s i k l (hole r) h = put-rising s i k l r h

pub sorted-rising : (g : Trees) → Rising (sorted_roots g)
sorted-rising none = tt
sorted-rising (node s i k l r) = put-rising s i k l (sorted_roots r) (sorted-rising r)
sorted-rising (hole r) = sorted-rising r

-- what rises is left as it is
put-kept : (s : List ℕ) (i : ℕ) (k : Trees) (l : ℕ) (r : Trees) → root_holes r ≡ 0 → FromNumber i r
    → root_put s i k l r ≡ node s i k l r
put-kept s i k l none h f = refl
put-kept s i k l (node s' i' k' l' r) h f = by_test (nat_le i i') refl
  where
    by_test : (b : Bool) → nat_le i i' ≡ b
        → cond b (node s i k l (node s' i' k' l' r)) (node s' i' k' l' (root_put s i k l r))
        ≡ node s i k l (node s' i' k' l' r)
    by_test true e = refl
    by_test false e = let below : i ≤ i' = f.0 in absurd (grind (arith, nat_tests))
put-kept s i k l (hole r) h f = absurd (omega arith)

pub sorted-kept : (g : Trees) → root_holes g ≡ 0 → Rising g → sorted_roots g ≡ g
sorted-kept none h f = refl
sorted-kept (node s i k l r) h f =
    ap (root_put s i k l) (sorted-kept r h f.1) ∙ put-kept s i k l r h f.0
sorted-kept (hole r) h f = absurd (omega arith)

-- a root has no smaller number than the first
from-root : (n : ℕ) (s : List ℕ) (i : ℕ) (k : Trees) (l : ℕ) (g : Trees) → FromNumber n g
    → 1 ≤ root_uses (node s i k l none) g → n ≤ i
from-root n s i k l none f h = absurd (omega arith)
from-root n s i k l (node s' i' k' l' r) f h =
    by_decision (trees_eq (node s i k l none) (node s' i' k' l' none)) h (from-root n s i k l r f.1)
  where
    by_decision : (d : Dec (node s i k l none ≡ node s' i' k' l' none))
        → 1 ≤ one_if d + root_uses (node s i k l none) r
        → (1 ≤ root_uses (node s i k l none) r → n ≤ i) → n ≤ i
    by_decision (yes e) w rec = let same : i ≡ i' = cc in omega (arith, f.0)
    by_decision (no e) w rec = rec (omega arith)
from-root n s i k l (hole r) f h =
    by_decision (trees_eq (node s i k l none) (hole none)) h (from-root n s i k l r f)
  where
    by_decision : (d : Dec (node s i k l none ≡ hole none))
        → 1 ≤ one_if d + root_uses (node s i k l none) r
        → (1 ≤ root_uses (node s i k l none) r → n ≤ i) → n ≤ i
    by_decision (yes e) w rec = absurd cc
    by_decision (no e) w rec = rec (omega arith)

-- a root's number is used
root-used : (s : List ℕ) (i : ℕ) (k : Trees) (l : ℕ) (g : Trees)
    → root_uses (node s i k l none) g ≤ node_uses i g
root-used s i k l none = omega arith
root-used s i k l (node s' i' k' l' r) =
    by_decision (trees_eq (node s i k l none) (node s' i' k' l' none)) (ℕ_discrete i i')
    (root-used s i k l r)
  where
    by_decision : (d : Dec (node s i k l none ≡ node s' i' k' l' none)) (n : Dec (i ≡ i'))
        → root_uses (node s i k l none) r ≤ node_uses i r
        → one_if d + root_uses (node s i k l none) r ≤ one_if n + (node_uses i k' + node_uses i r)
    by_decision (yes e) (yes f) h = omega arith
    by_decision (no e) (yes f) h = omega arith
    by_decision (yes e) (no f) h = absurd (f cc)
    by_decision (no e) (no f) h = omega arith
root-used s i k l (hole r) = by_decision (trees_eq (node s i k l none) (hole none))
    (root-used s i k l r)
  where
    by_decision : (d : Dec (node s i k l none ≡ hole none))
        → root_uses (node s i k l none) r ≤ node_uses i r
        → one_if d + root_uses (node s i k l none) r ≤ node_uses i r
    by_decision (yes e) h = absurd cc
    by_decision (no e) h = omega arith

-- the first roots of two sorted groves that are the same
counts-itself : (m n : ℕ) → m ≡ n → one_if (ℕ_discrete m n) ≡ 1
counts-itself m n e = by_decision (ℕ_discrete m n)
  where
    by_decision : (d : Dec (m ≡ n)) → one_if d ≡ 1
    by_decision (yes f) = refl
    by_decision (no f) = absurd (f e)

first-number : (s : List ℕ) (i : ℕ) (k : Trees) (l : ℕ) (r : Trees) (s' : List ℕ) (i' : ℕ)
    (k' : Trees)
    (l' : ℕ) (q : Trees) → FromNumber i' q → SameGrove (node s i k l r) (node s' i' k' l' q)
    → i' ≤ i
first-number s i k l r s' i' k' l' q y same =
    from-root i' s i k l (node s' i' k' l' q) (omega arith, y)
    (omega (arith, same (node s i k l none), one_if_self (node s i k l none)))

first-equal : (s : List ℕ) (i : ℕ) (k : Trees) (l : ℕ) (r : Trees) (s' : List ℕ) (i' : ℕ)
    (k' : Trees)
    (l' : ℕ) → node_uses i' (node s i k l r) ≤ 1 → i' ≡ i
    → 1 ≤ root_uses (node s' i' k' l' none) (node s i k l r)
    → node s' i' k' l' none ≡ node s i k l none
first-equal s i k l r s' i' k' l' once e =
    by_decision (trees_eq (node s' i' k' l' none) (node s i k l none))
  where
    by_decision : (d : Dec (node s' i' k' l' none ≡ node s i k l none))
        → 1 ≤ one_if d + root_uses (node s' i' k' l' none) r
        → node s' i' k' l' none ≡ node s i k l none
    by_decision (yes f) w = f
    by_decision (no f) w = absurd (omega (arith, root-used s' i' k' l' r, counts-itself i' i e))

-- what stands behind equal roots is the same
rest-same : (t t' r q : Trees) → t' ≡ t → SameGrove (beside t r) (beside t' q) → SameGrove r q
rest-same t t' r q e same u = omega (
  arith,
  same u,
  root_uses-beside u t r,
  root_uses-beside u t' q,
  ap (root_uses u) e,
)

join : (s : List ℕ) (i : ℕ) (k : Trees) (l : ℕ) (r : Trees) (s' : List ℕ) (i' : ℕ) (k' : Trees)
    (l' : ℕ) (q : Trees) → node s' i' k' l' none ≡ node s i k l none → r ≡ q
    → node s i k l r ≡ node s' i' k' l' q
join s i k l r s' i' k' l' q e f = ap (beside (node s i k l none)) f ∙ ap (λ z. beside z q) (sym e)

-- THE SORTED GROVE IS ONE
pub rising-equal : (a b : Trees) → ((n : ℕ) → node_uses n a ≤ 1) → root_holes a ≡ 0 → Rising a
    → Rising b
    → SameGrove a b → a ≡ b
rising-equal none none once h x y same = refl
rising-equal none (node s i k l r) once h x y same =
    absurd (omega (arith, same (node s i k l none), one_if_self (node s i k l none)))
rising-equal none (hole r) once h x y same =
    absurd (omega (arith, same (hole none), one_if_self (hole none)))
rising-equal (hole r) b once h x y same = absurd (omega arith)
rising-equal (node s i k l r) none once h x y same =
    absurd (omega (arith, same (node s i k l none), one_if_self (node s i k l none)))
rising-equal (node s i k l r) (hole q) once h x y same =
    absurd (omega (
      arith,
      h,
      same-count root_holes root_holes-beside (node s i k l r) (hole q)
          same,
    ))
rising-equal (node s i k l r) (node s' i' k' l' q) once h x y same =
    let equal_number : i' ≡ i = omega (
      arith,
      first-number s i k l r s' i' k' l' q y.0 same,
      first-number s' i' k' l' q s i k l r x.0 (λ u. sym (same u)),
    ) in
    let first : node s' i' k' l' none ≡ node s i k l none =
    first-equal s i k l r s' i' k' l' (once i') equal_number
    (omega (arith, same (node s' i' k' l' none), one_if_self (node s' i' k' l' none))) in
    join s i k l r s' i' k' l' q first
    (rising-equal r q (λ n. omega (arith, once n)) h x.1 y.1
    (rest-same (node s i k l none) (node s' i' k' l' none) r q first same))
