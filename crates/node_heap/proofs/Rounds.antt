-- A walk over all roots, by rising number.
use Rattle.std.proofs.Common.{◌≡◌, ◌≢◌, ◌⊎◌, ℕ, suc, ◌+◌, ◌<◌, ◌≤◌, true, false, List, [], ◌∷◌, ◌++◌, length, map, get_or, drop, add-one, drop-cons, Option, Some, None, refl, sym, ap, ◌∙◌, inl, inr, arith, subst, append_assoc}
use Rattle.std.specs.Option.{IsSome, is_some, option_map}
use Rattle.std.proofs.lemmas.Bool.{cases_eq}
use Rattle.model_shapes.specs.Trees.{Trees, none, node, hole, beside}
use Rattle.model_shapes.specs.Sorts.{grove}
use Rattle.model_shapes.specs.Shapes.{SameAt}
use Rattle.model_shapes.specs.RootHoles.{root_holes}
use Rattle.model_shapes.proofs.Shapes.{root_holes-le}
use Rattle.model_documents.specs.Roots.{sorted_roots, FromNumber}
use Rattle.model_documents.specs.Roots as documents
use Rattle.model_documents.proofs.SortedRoots.{sorted-kept, rising-equal}
use Rattle.model_heap.specs.Lists.{count}
use Rattle.model_heap.specs.Entries.{rows_of, roots, parent_of}
use Rattle.model_heap.specs.Marks.{Mark, opens, closes, walked}
use Rattle.model_heap.specs.Roots.{root_at, arranged}
use Rattle.model_heap.proofs.Moves.{test_yes, test_no}
use Rattle.model_heap.proofs.Kinship.{root_of, root_parent}
use Rattle.slab.specs.Slab.{Slab, get, ContainsKey}
use Rattle.node_heap.specs.declared.records.Record.{Record}
use Rattle.node_heap.specs.declared.index.Pair.{Pair}
use Rattle.node_heap.specs.Indexes.{lookup, key_in, numbers, Rising}
use Rattle.node_heap.specs.Heap.{grove_of, Linked}
use Rattle.node_heap.specs.Walking.{Said}
use Rattle.node_heap.proofs.Found.{Found, found, from_none}
use Rattle.node_heap.proofs.Whole.{rising_rest, read_back}
use Rattle.node_heap.proofs.Search.{lookup_at, at_any}
use Rattle.node_heap.proofs.ReadBack.{no_root_at}
use Rattle.node_heap.proofs.Tests.{once_there}

-- the roots rise
from_root : (n m : ℕ) (g t : Trees) → m ≤ n → FromNumber m t
    → FromNumber m (beside (root_at n g) t)
from_root n m none t le h = h
from_root n m (node s i kids l rest) t le h =
    elim (cases_eq n i) [
      | inl e ↦ rw (test_yes n i e) (omega (arith, le, e), h)
      | inr d ↦ rw (test_no n i d) (from_root n m rest t le h)
    ]
from_root n m (hole rest) t le h = from_root n m rest t le h

rising_root : (n : ℕ) (g t : Trees) → FromNumber n t → documents.Rising t
    → documents.Rising (beside (root_at n g) t)
rising_root n none t h k = k
rising_root n (node s i kids l rest) t h k =
    elim (cases_eq n i) [
      | inl e ↦ rw (test_yes n i e) (subst (λ m. FromNumber m t) e h, k)
      | inr d ↦ rw (test_no n i d) (rising_root n rest t h k)
    ]
rising_root n (hole rest) t h k = rising_root n rest t h k

from_all : (g : Trees) (m : ℕ) (q : Pair) (qs : List Pair) → m ≤ q.number → Rising (q ∷ qs)
    → FromNumber m (arranged g (numbers qs))
from_all g m q [] le r = tt
from_all g m q (p ∷ qs) le r =
    from_root p.number m g (arranged g (numbers qs)) (omega (arith, le, r.0))
    (from_all g m p qs (omega (arith, le, r.0)) r.1)

rising_all : (g : Trees) (qs : List Pair) → Rising qs → documents.Rising (arranged g (numbers qs))
rising_all g [] r = tt
rising_all g (q ∷ qs) r =
    rising_root q.number g (arranged g (numbers qs))
    (from_all g q.number q qs (omega arith) r) (rising_all g qs (rising_rest q qs r))

module _ (s : Slab Record) (nodes lists : List Pair)
    (l : Linked s nodes lists (grove_of s nodes)) where
  no_hole : root_holes (grove_of s nodes) ≡ 0
  no_hole = omega (arith, root_holes-le (grove_of s nodes), l.links.whole)

  roots_rise : documents.Rising (grove_of s nodes)
  roots_rise = subst documents.Rising (sym (read_back s nodes lists (grove_of s nodes) l))
      (rising_all (grove_of s nodes) nodes l.rising)

  pub still_sorted : sorted_roots (grove_of s nodes) ≡ grove_of s nodes
  still_sorted = sorted-kept (grove_of s nodes) no_hole roots_rise

  -- so it is the one grove that is the same and has its roots in that order
  pub one_order : (s' : Slab Record) (nodes' lists' : List Pair)
      → Linked s' nodes' lists' (grove_of s' nodes')
      → SameAt grove (grove_of s nodes) (grove_of s' nodes')
      → grove_of s nodes ≡ grove_of s' nodes'
  one_order s' nodes' lists' l' same =
      rising-equal (grove_of s nodes) (grove_of s' nodes') l.links.well_formed.nodes_once no_hole
      roots_rise (subst documents.Rising (sym (read_back s' nodes' lists' (grove_of s' nodes') l'))
      (rising_all (grove_of s' nodes') nodes' l'.rising)) same

-- one root behind the others
walked-beside : (a b : Trees) → walked (beside a b) ≡ walked a ++ walked b
walked-beside none b = refl
walked-beside (node s i kids l rest) b =
    ap (λ ms. opens i ∷ (walked kids ++ closes i ∷ ms)) (walked-beside rest b)
    ∙ ap (λ ms. opens i ∷ ms) (sym (append_assoc (walked kids) (closes i ∷ walked rest) (walked b)))
walked-beside (hole rest) b = walked-beside rest b

map-append : (f : Mark → Said) (xs ys : List Mark) → map f (xs ++ ys) ≡ map f xs ++ map f ys
map-append f [] ys = refl
map-append f (x ∷ xs) ys = ap (λ z. f x ∷ z) (map-append f xs ys)

module _ (f : Mark → Said) (g : Trees) (nodes : List Pair) (i : ℕ) (pair : Pair)
    (low : i < length nodes) (is : pair ≡ get_or nodes i pair)
  where
    split_here : map f (walked (arranged g (numbers (drop i nodes))))
        ≡ map f (walked (root_at pair.number g))
        ++ map f (walked (arranged g (numbers (drop (i + 1) nodes))))
    split_here =
        let at : drop i nodes ≡ pair ∷ drop (i + 1) nodes =
        rw (add-one, drop-cons nodes i pair) (ap (λ q. q ∷ drop (suc i) nodes) (sym is)) in
        ap (λ qs. map f (walked (arranged g (numbers qs)))) at
        ∙ ap (map f) (walked-beside (root_at pair.number g)
        (arranged g (numbers (drop (i + 1) nodes))))
        ∙ map-append f (walked (root_at pair.number g))
        (walked (arranged g (numbers (drop (i + 1) nodes))))

    pub round_on : (before after all : List Said)
        → before ++ map f (walked (arranged g (numbers (drop i nodes)))) ≡ all
        → after ≡ before ++ map f (walked (root_at pair.number g))
        → after ++ map f (walked (arranged g (numbers (drop (i + 1) nodes)))) ≡ all
    round_on before after all h e =
        ap (λ xs. xs ++ map f (walked (arranged g (numbers (drop (i + 1) nodes))))) e
        ∙ append_assoc before (map f (walked (root_at pair.number g)))
        (map f (walked (arranged g (numbers (drop (i + 1) nodes)))))
        ∙ ap (λ xs. before ++ xs) (sym split_here) ∙ h

    pub round_past : (before all : List Said)
        → before ++ map f (walked (arranged g (numbers (drop i nodes)))) ≡ all
        → root_at pair.number g ≡ none
        → before ++ map f (walked (arranged g (numbers (drop (i + 1) nodes)))) ≡ all
    round_past before all h e =
        ap (λ xs. before ++ xs) (sym (split_here
        ∙ ap (λ t. map f (walked t) ++ map f (walked (arranged g (numbers (drop (i + 1) nodes)))))
        e))
        ∙ h

-- the record of a pair
module _ (s : Slab Record) (nodes lists : List Pair) (g : Trees) (l : Linked s nodes lists g)
    (i : ℕ) (pair : Pair) (low : i < length nodes) (is : pair ≡ get_or nodes i pair)
  where
    pub pair_found : Found s nodes g pair.number pair.key
    pair_found =
        let at : lookup pair.number nodes ≡ Some pair.key =
        subst (λ q. lookup q.number nodes ≡ Some q.key) (sym is)
        (lookup_at nodes i pair l.rising low) in
        found s nodes lists g l.links pair.number pair.key (sym at)

    pub pair_there : ContainsKey s pair.key
    pair_there = subst IsSome (sym pair_found.at) refl

    pub pair_root : (r : Record) → get s pair.key ≡ Some r → is_some r.parent ≡ false
        → 1 ≤ count pair.number (roots g)
    pair_root r a e =
        let f = pair_found in
        let same : f.it ≡ r = let x = f.at in cc in
        let top : f.entry.parent ≡ None =
        from_none (key_in nodes) f.entry.parent
        (sym f.fits.parent ∙ ap (λ (r : Record). r.parent) same ∙ nothing r.parent e) in
        root_of None g pair.number
        (once_there s nodes g pair.number pair.key (l.links.once pair.number) f)
        (ap parent_of f.is ∙ top)
      where
        nothing : (o : Option ℕ) → is_some o ≡ false → o ≡ None
        nothing None e = refl
        nothing (Some x) e = absurd (cc)

    pub pair_below : (r : Record) → get s pair.key ≡ Some r → is_some r.parent ≡ true
        → root_at pair.number g ≡ none
    pair_below r a d =
        no_root_at pair.number g (none_counted (cases_eq (count pair.number (roots g)) 0))
      where
        none_counted : (count pair.number (roots g) ≡ 0) ⊎ (count pair.number (roots g) ≢ 0)
            → count pair.number (roots g) ≡ 0
        none_counted (inl z) = z
        none_counted (inr z) =
            let f = pair_found in
            let same : f.it ≡ r = let x = f.at in cc in
            let top : parent_of (rows_of g pair.number) ≡ None =
            root_parent None g pair.number (l.links.once pair.number) (omega (arith, z)) in
            let none_above : f.entry.parent ≡ None = ap parent_of (sym f.is) ∙ top in
            let gone : r.parent ≡ None =
            ap (λ (r : Record). r.parent) (sym same) ∙ f.fits.parent
            ∙ ap (option_map (key_in nodes)) none_above in
            absurd (let x = ap is_some gone in cc)

-- a pair of the index at a place
pub pair_is : (xs nodes : List Pair) (i : ℕ) (d : Pair) → xs ≡ nodes → i < length xs
    → get_or xs i d ≡ get_or nodes i (get_or xs i d)
pair_is xs nodes i d e low =
    ap (λ ys. get_or ys i d) e
    ∙ at_any nodes i d (get_or xs i d) (subst (λ ys. i < length ys) e low)
