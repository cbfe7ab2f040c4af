-- Sorted groves, and groves that are compared tree by tree.
use Rattle.std.proofs.Common.{◌≡◌, ℕ, suc, ◌≤◌, ◌<◌, ◌+◌, Bool, true, false, ◌&&◌, ◌==◌, List, [], ◌∷◌, length, get_or, drop, bytes_eq, refl, sym, ap, ◌∙◌, subst, arith, IsTrue}
use Rattle.std.specs.Prelude.{◌↔◌}
use Rattle.std.specs.List.{sum_by}
use Rattle.std.specs.List.Sorted.{IsPermutation, IsNonDecreasingBy}
use Rattle.std.proofs.lemmas.List.Sums.{sum_by-cons}
use Rattle.std.proofs.lemmas.List.Sorted.{sum_by-IsPermutation}
use Rattle.std.proofs.lemmas.Slice.Eq.{bytes_eq-Decides}
use Rattle.std.proofs.lemmas.Bool.Decides.{nat_tests}
use Rattle.model_shapes.specs.Trees.{Trees, none, node, hole, beside, root_uses, node_uses, WellFormed}
use Rattle.model_shapes.specs.Shapes.{SameAt}
use Rattle.model_shapes.specs.RootHoles.{root_holes}
use Rattle.model_shapes.specs.Sorts.{grove}
use Rattle.model_shapes.proofs.Truth.{both_true}
use Rattle.model_shapes.proofs.Basics.{root_uses-beside, node_uses-beside}
use Rattle.model_shapes.proofs.Sameness.{SameGrove, same-count}
use Rattle.model_documents.specs.Roots.{sorted_roots, FromNumber, Rising}
use Rattle.model_documents.proofs.SortedRoots.{sorted-same, sorted-WellFormed, sorted-rising, rising-equal}
use Rattle.grove_data.specs.Trees.{tree_of, forest_of}
use Rattle.grove_data.specs.SameTrees.{same_trees}
use Rattle.grove_data.specs.declared.trees.Tree.{Tree, out-Tree}
use Rattle.grove_data.proofs.Walks.{tree_is, forest_at}

-- a forest has no hole among its roots
no-root_holes : (ts : List Tree) → root_holes (forest_of ts) ≡ 0
no-root_holes [] = refl
no-root_holes (t ∷ ts) = ap (λ z. root_holes (beside z (forest_of ts))) (tree_is t)
    ∙ no-root_holes ts

-- roots in another order are the same grove
uses-summed : (u : Trees) (ts : List Tree)
    → root_uses u (forest_of ts) ≡ sum_by (λ t. root_uses u (tree_of t)) ts
uses-summed u [] = refl
uses-summed u (t ∷ ts) =
    omega (
      arith,
      root_uses-beside u (tree_of t) (forest_of ts),
      uses-summed u ts,
      sum_by-cons (λ t. root_uses u (tree_of t)) t ts,
    )

moved-same : (old new : List Tree) → IsPermutation old new
    → SameGrove (forest_of new) (forest_of old)
moved-same old new p u =
    uses-summed u new ∙ sum_by-IsPermutation (λ t. root_uses u (tree_of t)) old new p
    ∙ sym (uses-summed u old)

-- the node number of a tree
abbrev pub number_of : Tree → ℕ
number_of t = (out-Tree t).id

-- trees whose numbers don't fall stand by rising number
from-list : (n : ℕ) (ts : List Tree)
    → ((j : ℕ) (d : Tree) → j < length ts → n ≤ number_of (get_or ts j d))
    → FromNumber n (forest_of ts)
from-list n [] h = tt
from-list n (t ∷ ts) h =
    subst (λ z. FromNumber n (beside z (forest_of ts))) (sym (tree_is t))
    (h 0 t (omega arith), from-list n ts (λ j d w. h (suc j) d (omega arith)))

rising-list : (ts : List Tree) → IsNonDecreasingBy number_of ts → Rising (forest_of ts)
rising-list [] h = tt
rising-list (t ∷ ts) h =
    subst (λ z. Rising (beside z (forest_of ts))) (sym (tree_is t)) (
      from-list (number_of t) ts (λ j d w. h 0 (suc j) d (omega arith) (omega arith)),
      rising-list ts (λ i j d v w. h (suc i) (suc j) d (omega arith) (omega arith)),
    )

-- THE SORT: roots in another order whose numbers don't fall are the sorted ones
pub sorted_is : (old new : List Tree) → WellFormed (forest_of old) → IsPermutation old new
    → IsNonDecreasingBy number_of new → forest_of new ≡ sorted_roots (forest_of old)
sorted_is old new wf p h =
    rising-equal (forest_of new) (sorted_roots (forest_of old))
    (λ n. omega (
      arith,
      wf.nodes_once n,
      same-count (node_uses n) (node_uses-beside n) (forest_of new) (forest_of old)
          (moved-same old new p),
    ))
    (no-root_holes new) (rising-list new h) (sorted-rising (forest_of old))
    (λ u. moved-same old new p u ∙ sym (sorted-same (forest_of old) u))

-- what is sorted is as well formed as before, and rises
pub sorted_fits : (old new : List Tree) → forest_of new ≡ sorted_roots (forest_of old)
    → WellFormed (forest_of old) → WellFormed (forest_of new)
sorted_fits old new e wf = subst WellFormed (sym e) (sorted-WellFormed (forest_of old) wf)

pub sorted_rises : (old new : List Tree) → forest_of new ≡ sorted_roots (forest_of old)
    → Rising (forest_of new)
sorted_rises old new e = subst Rising (sym e) (sorted-rising (forest_of old))

-- the test of trees decides their equality
both : (a b : Bool) → a ≡ true → b ≡ true → (a && b) ≡ true
both a b e f = rw (e, f) refl

and-true : (a : Bool) → (a && true) ≡ a
and-true true = refl
and-true false = refl

same-is : (a b : Trees) → same_trees a b ≡ true → a ≡ b
same-is none none e = refl
same-is (node s i k l r) (node s' i' k' l' r') e =
    let x = both_true (bytes_eq s s' && (i == i' && (l == l' && same_trees k k')))
    (same_trees r r') e in
    let y = both_true (bytes_eq s s') (i == i' && (l == l' && same_trees k k')) x.0 in
    let z = both_true (i == i') (l == l' && same_trees k k') y.1 in
    let w = both_true (l == l') (same_trees k k') z.1 in
    let names : s ≡ s' = (bytes_eq-Decides s s').0 y.0 in
    let z0 = z.0 in let w0 = w.0 in
    let numbers : i ≡ i' = grind (arith, nat_tests) in
    let lists : l ≡ l' = grind (arith, nat_tests) in
    rw (names, numbers, same-is k k' w.1, lists, same-is r r' x.1) refl
same-is (hole r) (hole r') e = ap hole (same-is r r' e)
same-is a b e = absurd cc

same-itself : (a : Trees) → same_trees a a ≡ true
same-itself none = refl
same-itself (node s i k l r) =
    let number : (i == i) ≡ true = grind (arith, nat_tests) in
    let list : (l == l) ≡ true = grind (arith, nat_tests) in
    both _ (same_trees r r) (both (bytes_eq s s) _ ((bytes_eq-Decides s s).1 refl)
    (both (i == i) _ number (both (l == l) (same_trees k k) list (same-itself k)))) (same-itself r)
same-itself (hole r) = same-itself r

pub sorted_alike : (a b : List Tree) → WellFormed (forest_of a) → Rising (forest_of a)
    → Rising (forest_of b)
    → IsTrue (same_trees (forest_of a) (forest_of b)) ↔ SameAt grove (forest_of a) (forest_of b)
sorted_alike a b wf x y = (
  λ e u. ap (root_uses u) (same-is (forest_of a) (forest_of b) e),
  λ same. subst (λ z. same_trees (forest_of a) z ≡ true)
      (rising-equal (forest_of a) (forest_of b) wf.nodes_once (no-root_holes a) x y same)
      (same-itself (forest_of a)),
)

-- trees are compared field by field
pub trees_by_fields : (t u : Tree) → same_trees (tree_of t) (tree_of u)
    ≡ (bytes_eq (out-Tree t).name (out-Tree u).name && ((out-Tree t).id == (out-Tree u).id
    && ((out-Tree t).list == (out-Tree u).list
    && same_trees (forest_of (out-Tree t).kids) (forest_of (out-Tree u).kids))))
trees_by_fields t u = rw (tree_is t, tree_is u) (and-true _)

-- forests are compared tree by tree
pub forests_by_trees : (items : List Tree) (i : ℕ) (t : Tree) → i < length items
    → t ≡ get_or items i t
    → (u : Tree) (others : List Tree)
    → same_trees (forest_of (drop i items)) (forest_of (u ∷ others))
    ≡ (same_trees (tree_of t) (tree_of u)
    && same_trees (forest_of (drop (i + 1) items)) (forest_of others))
forests_by_trees items i t h e u others =
    rw (forest_at items i t h e, tree_is t, tree_is u, and-true) refl

-- no trees are left of the one forest, and some of the other
pub some-left : (others : List Tree) → 1 ≤ length others
    → same_trees (forest_of []) (forest_of others) ≡ false
some-left [] n = absurd (omega arith)
some-left (t ∷ others) n = ap (λ z. same_trees none (beside z (forest_of others))) (tree_is t)
