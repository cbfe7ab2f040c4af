-- The walk from a node to its root.
use Rattle.std.proofs.Common.{◌≡◌, ◌≢◌, ℕ, ◌<◌, ◌≤◌, false, List, [], ◌∷◌, Option, Some, None, refl, sym, ap, ◌∙◌, inl, inr, arith, subst}
use Rattle.std.specs.Option.{option_map, is_some, IsSome}
use Rattle.std.proofs.lemmas.Bool.{cases_eq}
use Rattle.model_shapes.specs.Trees.{Trees, none, node, hole}
use Rattle.model_heap.specs.Lists.{count, head_of}
use Rattle.model_heap.specs.Entries.{entry, roots, rows_of, uses, tree_at, kids_of, parent_of, depth}
use Rattle.model_heap.proofs.Moves.{test_yes, test_no, none_here, or_none, entry_absent, tree_absent, uses-beside}
use Rattle.model_heap.proofs.Kinship.{Kin-rows_of, depth_kid, tree_step, root_outside, root_of, tree_holds}
use Rattle.slab.specs.Slab.{Slab, get}
use Rattle.node_heap.specs.declared.records.Record.{Record}
use Rattle.node_heap.specs.declared.index.Pair.{Pair}
use Rattle.node_heap.specs.Indexes.{key_in}
use Rattle.node_heap.specs.Heap.{Linking}
use Rattle.node_heap.proofs.Found.{Found, Points, parent_found}
use Rattle.node_heap.proofs.Tests.{once_there}

abbrev pub number_of : Option Record → ℕ
number_of None = 0
number_of (Some r) = r.number

abbrev pub number_at : Slab Record → ℕ → ℕ
number_at s k = number_of (get s k)

-- NOTHING STANDS BELOW A LEAF
none_among : (x : ℕ) (r : Trees) → roots r ≡ [] → uses x r ≡ 0
none_among x none e = refl
none_among x (node s i kids l rest) e = absurd (cc)
none_among x (hole rest) e = none_among x rest e

none_below : (c x : ℕ) (q : Option ℕ) (r : Trees) → x ≢ c → uses c r ≤ 1
    → kids_of (entry q r c) ≡ [] → uses x (tree_at c r) ≡ 0
none_below c x q none d u e = refl
none_below c x q (node s i kids l rest) d u e =
    elim (cases_eq c i) [
      | inl f ↦
          let k : roots kids ≡ [] = rw (test_yes c i f) at e in
          let o : x ≢ i = λ z. d (z ∙ sym f) in
          rw (test_yes c i f) (omega (arith, none_here x i o, none_among x kids k))
      | inr f ↦ elim (cases_eq (uses c kids) 0) [
        | inl z ↦
            let k : kids_of (entry q rest c) ≡ [] = rw
            (test_no c i f, entry_absent (Some i) kids c z) at e in
            rw (test_no c i f, tree_absent c kids z)
            (none_below c x q rest d (omega (arith, u)) k)
        | inr z ↦
            let y : uses c rest ≡ 0 = omega (arith, u, z) in
            let k : kids_of (entry (Some i) kids c) ≡ [] = rw
            (test_no c i f, entry_absent q rest c y, or_none) at e in
            rw (test_no c i f, tree_absent c rest y) (omega (
              arith,
              uses-beside x (tree_at c kids) none,
              none_below c x (Some i) kids d (omega (arith, u)) k,
            ))
      ]
    ]
none_below c x q (hole rest) d u e = none_below c x q rest d u e

-- the walk has come to a number, which stands in the child's tree where the first did
pub record Walk (s : Slab Record) (nodes : List Pair) (g : Trees) (p c k : ℕ) : Type 0 where
  pub number : ℕ
  pub found : Found s nodes g number k
  pub same : uses number (tree_at c g) ≡ uses p (tree_at c g)

pub number_found : (s : Slab Record) (nodes : List Pair) (g : Trees) (n k : ℕ) → Found s nodes g n k
    → number_at s k ≡ n
number_found s nodes g n k f = ap number_of f.at ∙ f.fits.number

pub record Up (s : Slab Record) (nodes : List Pair) (g : Trees) (p c k next : ℕ) : Type 0 where
  pub walk : Walk s nodes g p c next
  pub nearer : depth (number_at s next) g < depth (number_at s k) g

module _ (s : Slab Record) (nodes lists : List Pair) (g : Trees) (l : Linking s nodes lists g)
    (p c k : ℕ) (w : Walk s nodes g p c k) (ck : ℕ) (fc : Found s nodes g c ck) where
  there : uses c g ≡ 1
  there = once_there s nodes g c ck (l.once c) fc

  other : k ≢ ck → w.number ≢ c
  other d e = d (w.found.key ∙ ap (key_in nodes) e ∙ sym fc.key)

  pub walk_up : k ≢ ck → (r : Record) (next : ℕ) → get s k ≡ Some r → r.parent ≡ Some next
      → Up s nodes g p c k next
  walk_up d r next a up = up_from (parent_found s nodes lists g g l w.number k next r w.found a up)
    where
      up_from : (f : Found s nodes g w.number k) × Points s nodes g f.entry.parent next
          → Up s nodes g p c k next
      up_from q =
          let kin = Kin-rows_of g l.once in
          let has : 1 ≤ count w.number (kids_of (rows_of g q.1.number)) =
          kin.down q.1.number w.number (ap parent_of q.0.is ∙ q.1.is) in
          record {
            walk = record {
              number = q.1.number;
              found = q.1.there;
              same = sym (tree_step c None g q.1.number w.number (other d) (l.once c)
                  (l.once q.1.number) (l.once w.number) has) ∙ w.same;
            };
            nearer = rw (
              number_found s nodes g q.1.number next q.1.there,
              number_found s nodes g w.number k w.found,
            )
                (omega (
                  arith,
                  depth_kid None g q.1.number w.number (l.once q.1.number)
                      (l.once w.number) has,
                ));
          }

  -- it ends at a root outside the child's tree
  pub walk_out : k ≢ ck → (r : Record) → get s k ≡ Some r → r.parent ≡ None → uses p (tree_at c g)
      ≡ 0
  walk_out d r a e =
      let same : w.found.it ≡ r = let x = w.found.at in cc in
      let none : w.found.entry.parent ≡ None = no_parent w.found.entry.parent
      (sym w.found.fits.parent ∙ ap (λ (r : Record). r.parent) same ∙ e) in
      let root : parent_of (rows_of g w.number) ≡ None = ap parent_of w.found.is ∙ none in
      let u = once_there s nodes g w.number k (l.once w.number) w.found in
      sym w.same ∙ root_outside c w.number g (other d) (l.once c) (l.once w.number)
      (root_of None g w.number u root)
    where
      no_parent : (o : Option ℕ) → option_map (key_in nodes) o ≡ None → o ≡ None
      no_parent None m = refl
      no_parent (Some p) m = absurd (cc)

  -- or at the child itself
  pub walk_in : k ≡ ck → uses p (tree_at c g) ≡ 1
  walk_in e =
      let same : w.number ≡ c = l.stands.apart w.number c (subst IsSome (sym w.found.is) refl)
      (subst IsSome (sym fc.is) refl) (sym w.found.key ∙ e ∙ fc.key) in
      sym w.same ∙ ap (λ n. uses n (tree_at c g)) same ∙ tree_holds c g there

-- it needn't begin where the child is a leaf
pub walk_spared : (s : Slab Record) (nodes lists : List Pair) (g : Trees)
    (l : Linking s nodes lists g) (p c pk ck : ℕ) (fp : Found s nodes g p pk)
    (fc : Found s nodes g c ck) → pk ≢ ck → (r : Record) → get s ck ≡ Some r
    → is_some r.first ≡ false → uses p (tree_at c g) ≡ 0
walk_spared s nodes lists g l p c pk ck fp fc d r a e =
    let same : fc.it ≡ r = let x = fc.at in cc in
    let leaf : is_some (option_map (key_in nodes) (head_of fc.entry.kids)) ≡ false =
    ap is_some (sym fc.fits.first ∙ ap (λ (r : Record). r.first) same) ∙ e in
    let other : p ≢ c = λ z. d (fp.key ∙ ap (key_in nodes) z ∙ sym fc.key) in
    none_below c p None g other (l.once c) (ap kids_of fc.is ∙ no_head fc.entry.kids leaf)
  where
    no_head : (xs : List ℕ) → is_some (option_map (key_in nodes) (head_of xs)) ≡ false → xs ≡ []
    no_head [] h = refl
    no_head (x ∷ xs) h = absurd (cc)

pub apart_from : (p c : ℕ) (g : Trees) → uses c g ≡ 1 → uses p (tree_at c g) ≡ 0 → p ≢ c
apart_from p c g u h e = omega (arith, h, tree_holds c g u, ap (λ n. uses n (tree_at c g)) e)
