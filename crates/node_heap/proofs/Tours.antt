-- The walk over a tree.
use Rattle.std.proofs.Common.{◌≡◌, ◌≢◌, ℕ, ◌+◌, ◌<◌, ◌≤◌, Bool, true, false, cond, eqb, List, [], ◌∷◌, ◌++◌, Option, Some, None, refl, sym, ap, ◌∙◌, inl, inr, arith, subst, length, map, append_assoc}
use Rattle.std.specs.Option.{option_map, is_some}
use Rattle.std.proofs.lemmas.Bool.{cases_eq}
use Rattle.model_shapes.specs.Trees.{Trees, none, node, hole}
use Rattle.model_shapes.specs.Shapes.{holes}
use Rattle.model_heap.specs.Lists.{count, head_of, after, before}
use Rattle.model_heap.specs.Entries.{Entry, rows_of, entry, roots, uses, kids_of, parent_of}
use Rattle.model_heap.specs.Roots.{root_at}
use Rattle.model_heap.specs.Marks.{Mark, opens, closes, walked, opening, closing}
use Rattle.model_heap.proofs.Moves.{test_yes, test_no, one_here, none_here, entry_absent}
use Rattle.model_heap.proofs.Kinship.{Kin-rows_of, root_of, roots_use, kids_use, present}
use Rattle.model_heap.proofs.Arranged.{root_use}
use Rattle.model_heap.proofs.Walks.{open_kid, open_leaf, close_next, close_up, close_last}
use Rattle.slab.specs.Slab.{Slab, get}
use Rattle.node_heap.specs.declared.records.Record.{Record}
use Rattle.node_heap.specs.declared.index.Pair.{Pair}
use Rattle.node_heap.specs.Links.{row}
use Rattle.node_heap.specs.Indexes.{lookup, key_in}
use Rattle.node_heap.specs.Heap.{Linking}
use Rattle.node_heap.proofs.Found.{Found, found, found_at}
use Rattle.node_heap.proofs.Tests.{after_count}
use Rattle.node_heap.specs.declared.walking.Place.{Place}
use Rattle.node_heap.specs.Walking.{Said, seen, said_in, told, down_to, across_to, onward_from}
use Rattle.node_heap.specs.declared.walking.Mark as program
use Rattle.node_heap.proofs.Walk.{number_at, number_found}

-- a root's tree has the grove's entries
pub entry-root_at : (c : ℕ) (r : Trees) (n : ℕ) → uses n r ≤ 1 → 1 ≤ uses n (root_at c r)
    → entry None (root_at c r) n ≡ entry None r n
entry-root_at c none n u h = absurd (omega (arith, h))
entry-root_at c (node s i kids l rest) n u h = elim (cases_eq c i) [
  | inl e ↦
      let h1 : 1 ≤ uses n (node s i kids l none) = rw (test_yes c i e) at h in
      let z : uses n rest ≡ 0 = omega (arith, u, h1) in
      rw (test_yes c i e, entry_absent None rest n z) refl
  | inr e ↦
      let h1 : 1 ≤ uses n (root_at c rest) = rw (test_no c i e) at h in
      let v : 1 ≤ uses n rest = omega (arith, h1, root_use n c rest) in
      let k : uses n kids ≡ 0 = omega (arith, u, v) in
      let d : n ≢ i = λ z. absurd (omega (arith, u, v, one_here n i z)) in
      rw (test_no c i e, test_no n i d, entry_absent (Some i) kids n k)
      (entry-root_at c rest n (omega (arith, u)) h1)
]
entry-root_at c (hole rest) n u h = entry-root_at c rest n u h

pub holes-root_at : (c : ℕ) (r : Trees) → holes r ≡ 0 → holes (root_at c r) ≡ 0
holes-root_at c none h = refl
holes-root_at c (node s i kids l rest) h = elim (cases_eq c i) [
  | inl e ↦ rw (test_yes c i e) (omega (arith, h))
  | inr e ↦
      rw (test_no c i e) (holes-root_at c rest (omega (arith, h)))
]
holes-root_at c (hole rest) h = absurd (omega (arith, h))

-- it has one root
pub alone : (c : ℕ) (r : Trees) → 1 ≤ count c (roots r) → roots (root_at c r) ≡ c ∷ []
alone c none h = absurd (omega (arith, h))
alone c (node s i kids l rest) h = elim (cases_eq c i) [
  | inl e ↦ rw (test_yes c i e) (ap (λ x. x ∷ []) (sym e))
  | inr e ↦
      rw (test_no c i e) (alone c rest (omega (arith, h, none_here c i e)))
]
alone c (hole rest) h = alone c rest h

pub opens_first : (c : ℕ) (r : Trees) → 1 ≤ count c (roots r)
    → (opening c (root_at c r) ≡ walked (root_at c r)) × (1 ≤ uses c (root_at c r))
opens_first c none h = absurd (omega (arith, h))
opens_first c (node s i kids l rest) h = elim (cases_eq c i) [
  | inl e ↦ rw (test_yes c i e) (rw (test_yes c i e) (refl, omega arith))
  | inr e ↦
      rw (test_no c i e) (opens_first c rest (omega (arith, h, none_here c i e)))
]
opens_first c (hole rest) h = opens_first c rest h

abbrev pub to_come : Bool → ℕ → Trees → List Mark
to_come true n t = opening n t
to_come false n t = closing n t

pub record At (s : Slab Record) (nodes : List Pair) (g : Trees) (root : ℕ) (out : List Mark)
    (entering : Bool) (key : ℕ) : Type 0 where
  pub number : ℕ
  pub found : Found s nodes g number key
  pub inside : 1 ≤ uses number (root_at root g)
  pub left : out ++ to_come entering number (root_at root g) ≡ walked (root_at root g)

shift : (out : List Mark) (x : Mark) (a b t : List Mark) → out ++ a ≡ t → a ≡ x ∷ b
    → (out ++ x ∷ []) ++ b ≡ t
shift out x a b t e h = append_assoc out (x ∷ []) b ∙ ap (λ z. out ++ z) (sym h) ∙ e

module _ (s : Slab Record) (nodes lists : List Pair) (g : Trees) (l : Linking s nodes lists g)
    (root : ℕ) (out : List Mark) (key : ℕ) where
  once : (n : ℕ) → uses n (root_at root g) ≤ 1
  once n = omega (arith, l.once n, root_use n root g)

  whole : holes (root_at root g) ≡ 0
  whole = holes-root_at root g l.whole

  same : (n : ℕ) → 1 ≤ uses n (root_at root g) → entry None (root_at root g) n ≡ rows_of g n
  same n h = entry-root_at root g n (l.once n) h

  kid_found : (p x k : ℕ) → 1 ≤ uses p (root_at root g) → 1 ≤ count x (kids_of (rows_of g p)) → k
      ≡ key_in nodes x → Found s nodes g x k × (1 ≤ uses x (root_at root g))
  kid_found p x k h c e =
      let b : count x (kids_of (entry None (root_at root g) p)) ≡ count x (kids_of (rows_of g p)) =
      ap (λ o. count x (kids_of o)) (same p h) in
      let u : 1 ≤ uses x (root_at root g) = omega
      (arith, c, b, kids_use None (root_at root g) p x) in
      (by_entry (rows_of g x) refl (present None g x (omega (arith, u, root_use x root g))), u)
    where
      by_entry : (o : Option Entry) → rows_of g x ≡ o → is_some o ≡ true → Found s nodes g x k
      by_entry None z i = absurd (cc)
      by_entry (Some w) z i = found_at s nodes lists g l x k w z e

  head_counts : (x : ℕ) (xs : List ℕ) → head_of xs ≡ Some x → 1 ≤ count x xs
  head_counts x [] h = absurd (cc)
  head_counts x (y ∷ ys) h = let w : y ≡ x = cc in omega (arith, one_here x y (sym w))

  -- a pointer that leads somewhere comes from a number
  from : (o : Option ℕ) (k : ℕ) → option_map (key_in nodes) o ≡ Some k → (x : ℕ) × (o ≡ Some x)
      × (k ≡ key_in nodes x)
  from None k h = absurd (cc)
  from (Some x) k h = (x, refl, let z : key_in nodes x ≡ k = cc in sym z)

  from_none : (o : Option ℕ) → option_map (key_in nodes) o ≡ None → o ≡ None
  from_none None h = refl
  from_none (Some x) h = absurd (cc)

  -- down to the first child
  pub down : (w : At s nodes g root out true key) (r : Record) (k : ℕ) → get s key ≡ Some r
      → r.first ≡ Some k → (n : At s nodes g root (out ++ opens w.number ∷ []) true k)
      × (length (opening n.number (root_at root g)) < length (opening w.number (root_at root g)))
  down w r k a h =
      let it : w.found.it ≡ r = let x = w.found.at in cc in
      let x = from (head_of w.found.entry.kids) k
      (sym w.found.fits.first ∙ ap (λ (r : Record). r.first) it ∙ h) in
      let kids : kids_of (rows_of g w.number) ≡ w.found.entry.kids = ap kids_of w.found.is in
      let c : 1 ≤ count x.0 (kids_of (rows_of g w.number)) =
      rw kids (head_counts x.0 w.found.entry.kids x.1) in
      let f = kid_found w.number x.0 k w.inside c x.2 in
      let hd : head_of (kids_of (entry None (root_at root g) w.number)) ≡ Some x.0 =
      ap (λ o. head_of (kids_of o)) (same w.number w.inside) ∙ ap head_of kids ∙ x.1 in
      let opened = open_kid None (root_at root g) w.number x.0 whole once hd in (
        record {
          number = x.0;
          found = f.0;
          inside = f.1;
          left =
              shift out (opens w.number) (opening w.number (root_at root g))
              (opening x.0 (root_at root g)) (walked (root_at root g)) w.left opened;
        },
        omega (arith, ap length opened),
      )

  -- a node with no child closes at once
  pub turn : (w : At s nodes g root out true key) (r : Record) → get s key ≡ Some r → r.first ≡ None
      → (n : At s nodes g root (out ++ opens w.number ∷ []) false key)
      × (length (closing n.number (root_at root g)) < length (opening w.number (root_at root g)))
  turn w r a h =
      let it : w.found.it ≡ r = let x = w.found.at in cc in
      let x = from_none (head_of w.found.entry.kids)
      (sym w.found.fits.first ∙ ap (λ (r : Record). r.first) it ∙ h) in
      let hd : head_of (kids_of (entry None (root_at root g) w.number)) ≡ None =
      ap (λ o. head_of (kids_of o)) (same w.number w.inside)
      ∙ ap (λ o. head_of (kids_of o)) w.found.is ∙ x in
      let opened = open_leaf None (root_at root g) w.number whole once
      (omega (arith, w.inside, once w.number)) hd in (
        record {
          number = w.number;
          found = w.found;
          inside = w.inside;
          left =
              shift out (opens w.number) (opening w.number (root_at root g))
              (closing w.number (root_at root g)) (walked (root_at root g)) w.left opened;
        },
        omega (arith, ap length opened),
      )

  -- where a number below a parent stands
  record Below (n p : ℕ) : Type 0 where
    has : 1 ≤ count n (kids_of (rows_of g p))
    inside : 1 ≤ uses p (root_at root g)
    kids : kids_of (entry None (root_at root g) p) ≡ kids_of (rows_of g p)

  below : (n p : ℕ) → 1 ≤ uses n (root_at root g) → parent_of (rows_of g n) ≡ Some p → Below n p
  below n p h up =
      let kin = Kin-rows_of (root_at root g) once in
      let c : 1 ≤ count n (kids_of (entry None (root_at root g) p)) =
      kin.down p n (ap parent_of (same n h) ∙ up) in
      let i : 1 ≤ uses p (root_at root g) = used_below c in
      record {
        has = subst (λ o. 1 ≤ count n (kids_of o)) (same p i) c;
        inside = i;
        kids =
            ap kids_of (same p i);
      }
    where
      used_below : 1 ≤ count n (kids_of (entry None (root_at root g) p))
          → 1 ≤ uses p (root_at root g)
      used_below c = elim (cases_eq (uses p (root_at root g)) 0) [
        | inl z ↦ absurd (omega (
          arith,
          c,
          ap (λ o. count n (kids_of o))
              (entry_absent None (root_at root g) p z),
        ))
        | inr z ↦ omega (arith, z)
      ]

  -- on to the next child
  pub onward : (w : At s nodes g root out false key) (r : Record) (k : ℕ) → get s key ≡ Some r
      → r.next ≡ Some k → (n : At s nodes g root (out ++ closes w.number ∷ []) true k)
      × (length (opening n.number (root_at root g)) < length (closing w.number (root_at root g)))
  onward w r k a h =
      let it : w.found.it ≡ r = let x = w.found.at in cc in
      let x = from (after w.number (row (rows_of g) w.found.entry.parent)) k
      (sym w.found.fits.next ∙ ap (λ (r : Record). r.next) it ∙ h) in
      by_parent w.found.entry.parent refl x.0 x.1 x.2
    where
      by_parent : (q : Option ℕ) → w.found.entry.parent ≡ q → (x : ℕ)
          → after w.number (row (rows_of g) w.found.entry.parent) ≡ Some x → k ≡ key_in nodes x
          → (n : At s nodes g root (out ++ closes w.number ∷ []) true k)
          × (length (opening n.number (root_at root g)) < length
          (closing w.number (root_at root g)))
      by_parent None e x y z = absurd (let b = ap (λ q. after w.number (row (rows_of g) q)) e in cc)
      by_parent (Some p) e x y z =
          let b = below w.number p w.inside (ap parent_of w.found.is ∙ e) in
          let next : after w.number (kids_of (rows_of g p)) ≡ Some x =
          ap (λ q. after w.number (row (rows_of g) q)) (sym e) ∙ y in
          let f = kid_found p x k b.inside (after_count w.number x (kids_of (rows_of g p)) next)
          z in
          let closed = close_next None (root_at root g) p w.number x whole once
          (ap (after w.number) b.kids ∙ next) in (
            record {
              number = x;
              found = f.0;
              inside = f.1;
              left =
                  shift out (closes w.number) (closing w.number (root_at root g))
                  (opening x (root_at root g)) (walked (root_at root g)) w.left closed;
            },
            omega (arith, ap length closed),
          )

  -- up to the parent
  pub upward : (w : At s nodes g root out false key) (r : Record) (k : ℕ) → get s key ≡ Some r
      → r.next ≡ None → r.parent ≡ Some k → (n : At s nodes g root (out ++ closes w.number ∷ [])
      false k) × (length (closing n.number (root_at root g)) < length
      (closing w.number (root_at root g)))
  upward w r k a h up =
      let it : w.found.it ≡ r = let x = w.found.at in cc in
      let x = from w.found.entry.parent k (sym w.found.fits.parent
      ∙ ap (λ (r : Record). r.parent) it ∙ up) in
      let none = from_none (after w.number (row (rows_of g) w.found.entry.parent))
      (sym w.found.fits.next ∙ ap (λ (r : Record). r.next) it ∙ h) in
      let b = below w.number x.0 w.inside (ap parent_of w.found.is ∙ x.1) in
      let last : after w.number (kids_of (rows_of g x.0)) ≡ None =
      ap (λ q. after w.number (row (rows_of g) q)) (sym x.1) ∙ none in
      let closed = close_up None (root_at root g) x.0 w.number whole once (rw (b.kids) (b.has))
      (ap (after w.number) b.kids ∙ last) in
      let f = there x.0 (rows_of g x.0) refl (present None g x.0
      (omega (arith, b.inside, root_use x.0 root g))) x.2 in (
        record {
          number = x.0;
          found = f;
          inside = b.inside;
          left =
              shift out (closes w.number) (closing w.number (root_at root g))
              (closing x.0 (root_at root g)) (walked (root_at root g)) w.left closed;
        },
        omega (arith, ap length closed),
      )
    where
      there : (x : ℕ) (o : Option Entry) → rows_of g x ≡ o → is_some o ≡ true → k ≡ key_in nodes x
          → Found s nodes g x k
      there x None z i e = absurd (cc)
      there x (Some v) z i e = found_at s nodes lists g l x k v z e

  -- the root closes last
  pub finished : 1 ≤ count root (roots g) → (w : At s nodes g root out false key) (r : Record)
      → get s key ≡ Some r → r.parent ≡ None → out ++ closes w.number ∷ [] ≡ walked (root_at root g)
  finished is_root w r a up =
      let it : w.found.it ≡ r = let x = w.found.at in cc in
      let none = from_none w.found.entry.parent
      (sym w.found.fits.parent ∙ ap (λ (r : Record). r.parent) it ∙ up) in
      let top : parent_of (entry None (root_at root g) w.number) ≡ None =
      ap parent_of (same w.number w.inside) ∙ ap parent_of w.found.is ∙ none in
      let c = root_of None (root_at root g) w.number (omega (arith, w.inside, once w.number)) top in
      let one = alone root g is_root in
      let last : after w.number (roots (root_at root g)) ≡ None =
      rw one (nothing (eqb w.number root)) in
      ap (λ z. out ++ z) (sym (close_last (root_at root g) w.number whole once c last)) ∙ w.left
    where
      nothing : (b : Bool) → ◌≡◌ {A = Option ℕ} (cond b None None) None
      nothing true = refl
      nothing false = refl

-- the mark at a place
abbrev pub mark_of : Bool → ℕ → Mark
mark_of true n = opens n
mark_of false n = closes n

-- where a walk stands, and how much is left of it
abbrev pub AtPlace : (s : Slab Record) (nodes : List Pair) (g : Trees) (root : ℕ) → List Mark
    → Option Place → Type 0
AtPlace s nodes g root out None = out ≡ walked (root_at root g)
AtPlace s nodes g root out (Some here) = At s nodes g root out here.opens here.key

abbrev pub left_at : Slab Record → Trees → Option Place → ℕ
left_at s tree None = 0
left_at s tree (Some here) = 1 + length (to_come here.opens (number_at s here.key) tree)

-- one turn
pub record Next (s : Slab Record) (nodes : List Pair) (g : Trees) (root : ℕ) (out : List Mark)
    (here : Place) (place : Option Place) : Type 0 where
  pub at : AtPlace s nodes g root out place
  pub nearer : left_at s (root_at root g) place < left_at s (root_at root g) (Some here)

module _ (s : Slab Record) (nodes lists : List Pair) (g : Trees) (l : Linking s nodes lists g)
    (root : ℕ) (is_root : 1 ≤ count root (roots g)) (out : List Mark) (r : Record)
  where
    next_at : (before e : Bool) (was key : ℕ) (now : List Mark)
        (w : At s nodes g root out before was)
        (n : At s nodes g root now e key)
        → length (to_come e n.number (root_at root g)) < length
        (to_come before w.number (root_at root g))
        → Next s nodes g root now (record { key = was; opens = before })
        (Some (record { key = key; opens = e }))
    next_at before e was key now w n h = record {
      at = n;
      nearer = rw (
        number_found s nodes g n.number key n.found,
        number_found s nodes g w.number was w.found,
      ) (omega (arith, h));
    }

    pub turn_on : (key : ℕ) (e : Bool) → get s key ≡ Some r → (w : At s nodes g root out e key)
        → Next s nodes g root (out ++ mark_of e w.number ∷ []) (record { key = key; opens = e })
        (onward_from r (record { key = key; opens = e }))
    turn_on key true a w = by_first r.first refl
      where
        by_first : (o : Option ℕ) → r.first ≡ o
            → Next s nodes g root (out ++ opens w.number ∷ []) (record { key = key; opens = true })
            (Some (down_to o key))
        by_first None e = let x = turn s nodes lists g l root out key w r a e in
            next_at true false key key _ w x.0 x.1
        by_first (Some k) e = let x = down s nodes lists g l root out key w r k a e in
            next_at true true key k _ w x.0 x.1
    turn_on key false a w = by_next r.next r.parent refl refl
      where
        by_next : (o q : Option ℕ) → r.next ≡ o → r.parent ≡ q
            → Next s nodes g root (out ++ closes w.number ∷ [])
            (record { key = key; opens = false })
            (across_to o q)
        by_next (Some k) q e f = let x = onward s nodes lists g l root out key w r k a e in
            next_at false true key k _ w x.0 x.1
        by_next None (Some k) e f = let x = upward s nodes lists g l root out key w r k a e f in
            next_at false false key k _ w x.0 x.1
        by_next None None e f = record {
          at = finished s nodes lists g l root out key is_root w r a f;
          nearer = omega arith;
        }

pub begin : (s : Slab Record) (nodes lists : List Pair) (g : Trees) (l : Linking s nodes lists g)
    (root k : ℕ) → 1 ≤ count root (roots g) → Some k ≡ lookup root nodes
    → At s nodes g root [] true k
begin s nodes lists g l root k h i = let o = opens_first root g h in
    record { number = root; found = found s nodes lists g l root k i; inside = o.1; left = o.0 }

pub no_index : (s : Slab Record) (nodes lists : List Pair) (g : Trees) (l : Linking s nodes lists g)
    (root : ℕ) → 1 ≤ count root (roots g) → None ≡ lookup root nodes → ⊥
no_index s nodes lists g l root h i = let p = present None g root
    (omega (arith, h, roots_use root g)) in let x = l.indexed root in cc

-- WHAT A MARK TELLS is what stands at the number
some_keyed : (key : ℕ → ℕ) (o : Option ℕ) → is_some (option_map key o) ≡ is_some o
some_keyed key None = refl
some_keyed key (Some x) = refl

pub mark_said : (s : Slab Record) (nodes : List Pair) (g : Trees) (n k : ℕ)
    (f : Found s nodes g n k)
    (b : Bool) (m : program.Mark) → get s k ≡ Some m.node.now → m.opens ≡ b
    → seen m ≡ said_in (rows_of g) (mark_of b n)
mark_said s nodes g n k f b m a opened =
    let same : f.it ≡ m.node.now = let x = f.at in cc in
    let r : Record = m.node.now in
    let name : r.name ≡ f.entry.name = ap (λ (r : Record). r.name) (sym same) ∙ f.fits.name in
    let number : r.number ≡ n = ap (λ (r : Record). r.number) (sym same) ∙ f.fits.number in
    let list : r.list ≡ f.entry.list = ap (λ (r : Record). r.list) (sym same) ∙ f.fits.list in
    let below : is_some r.parent ≡ is_some f.entry.parent =
    ap (λ (r : Record). is_some r.parent) (sym same) ∙ ap is_some f.fits.parent
    ∙ some_keyed (key_in nodes) f.entry.parent in
    let later : is_some r.previous ≡ is_some (before n (row (rows_of g) f.entry.parent)) =
    ap (λ (r : Record). is_some r.previous) (sym same) ∙ ap is_some f.fits.previous
    ∙ some_keyed (key_in nodes) (before n (row (rows_of g) f.entry.parent)) in
    let kids : is_some r.first ≡ is_some (head_of f.entry.kids) =
    ap (λ (r : Record). is_some r.first) (sym same) ∙ ap is_some f.fits.first
    ∙ some_keyed (key_in nodes) (head_of f.entry.kids) in
    rw (opened, name, number, list, below, later, kids) (by_kind b)
  where
    by_kind : (b : Bool) → told (rows_of g) b n (Some f.entry) ≡ said_in (rows_of g) (mark_of b n)
    by_kind true = ap (told (rows_of g) true n) (sym f.is)
    by_kind false = ap (told (rows_of g) false n) (sym f.is)

-- the marks so far
pub record Toured (s : Slab Record) (nodes : List Pair) (g : Trees) (root : ℕ)
    (start now : List Said) (place : Option Place) : Type 0 where
  pub out : List Mark
  pub is : now ≡ start ++ map (said_in (rows_of g)) out
  pub at : AtPlace s nodes g root out place

map-last : (f : Mark → Said) (xs : List Mark) (x : Mark) → map f (xs ++ x ∷ []) ≡ map f xs
    ++ f x ∷ []
map-last f [] x = refl
map-last f (y ∷ xs) x = ap (λ z. f y ∷ z) (map-last f xs x)

pub seen-last : (xs : List program.Mark) (x : program.Mark) → map seen (xs ++ x ∷ []) ≡ map seen xs
    ++ seen x ∷ []
seen-last [] x = refl
seen-last (y ∷ xs) x = ap (λ z. seen y ∷ z) (seen-last xs x)

pub toured_on : (s : Slab Record) (nodes lists : List Pair) (g : Trees)
    (l : Linking s nodes lists g)
    (root : ℕ) (is_root : 1 ≤ count root (roots g)) (start now : List Said) (here : Place)
    (w : Toured s nodes g root start now (Some here)) (m : program.Mark)
    → get s here.key ≡ Some m.node.now → m.opens ≡ here.opens → (then : List Said)
    → then ≡ now ++ seen m ∷ []
    → Toured s nodes g root start then (onward_from m.node.now here)
    × (left_at s (root_at root g) (onward_from m.node.now here) < left_at s (root_at root g)
    (Some here))
toured_on s nodes lists g l root is_root start now here w m a opened then e =
    let t = turn_on s nodes lists g l root is_root w.out m.node.now here.key here.opens a w.at in
    let said = mark_said s nodes g w.at.number here.key w.at.found here.opens m a opened in (
      record {
        out = w.out ++ mark_of here.opens w.at.number ∷ [];
        is = e ∙ ap (λ ms. now ++ ms ∷ []) said ∙ ap
            (λ ms. ms ++ said_in (rows_of g) (mark_of here.opens w.at.number) ∷ []) w.is
            ∙ append_assoc start (map (said_in (rows_of g)) w.out)
            (said_in (rows_of g) (mark_of here.opens w.at.number) ∷ [])
            ∙ ap (λ ms. start ++ ms) (sym (map-last (said_in (rows_of g)) w.out
            (mark_of here.opens w.at.number)));
        at = t.at;
      },
      t.nearer,
    )
