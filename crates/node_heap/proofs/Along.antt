-- The walk along a row of children.
use Rattle.std.proofs.Common.{◌≡◌, ℕ, ◌+◌, ◌≤◌, List, [], ◌∷◌, ◌++◌, Option, Some, None, refl, sym, ap, ◌∙◌, arith, subst, length, append_assoc, length-append, append-nil}
use Rattle.std.specs.List.{slice_get}
use Rattle.std.proofs.lemmas.Option.{slice_get_past}
use Rattle.std.specs.Option.{option_map, IsSome}
use Rattle.model_shapes.specs.Trees.{Trees}
use Rattle.model_heap.specs.Lists.{count, head_of, after}
use Rattle.model_heap.specs.Entries.{Entry, rows_of, kids_of, parent_of}
use Rattle.model_heap.proofs.Moves.{one_here}
use Rattle.model_heap.proofs.Neighbours.{after-here, count-append}
use Rattle.model_heap.proofs.Kinship.{Kin-rows_of}
use Rattle.slab.specs.Slab.{Slab, get, ContainsKey}
use Rattle.node_heap.specs.declared.records.Record.{Record}
use Rattle.node_heap.specs.declared.index.Pair.{Pair}
use Rattle.node_heap.specs.Links.{row}
use Rattle.node_heap.specs.Indexes.{lookup, key_in}
use Rattle.node_heap.specs.Heap.{Linking}
use Rattle.node_heap.proofs.Found.{Found, found_at}

pub record Along (s : Slab Record) (nodes : List Pair) (g : Trees) (list place : ℕ)
    (current : Option ℕ) : Type 0 where
  pub owner : ℕ
  pub entry : Entry
  pub is : rows_of g owner ≡ Some entry
  pub list_is : entry.list ≡ list
  pub passed : List ℕ
  pub rest : List ℕ
  pub whole : entry.kids ≡ passed ++ rest
  pub len : length passed ≡ place
  pub at : current ≡ option_map (key_in nodes) (head_of rest)

pub record Stop (s : Slab Record) (nodes : List Pair) (g : Trees) (list place key : ℕ) : Type
    0 where
  pub number : ℕ
  pub there : Found s nodes g number key
  pub item : (n : ℕ) (e : Entry) → rows_of g n ≡ Some e → e.list ≡ list → slice_get e.kids place
      ≡ Some number
  pub onward : Along s nodes g list (place + 1) there.it.next

slice_get-here : (xs ys : List ℕ) → slice_get (xs ++ ys) (length xs) ≡ head_of ys
slice_get-here [] [] = refl
slice_get-here [] (y ∷ ys) = refl
slice_get-here (x ∷ xs) ys = slice_get-here xs ys

module _ (s : Slab Record) (nodes lists : List Pair) (g : Trees) (l : Linking s nodes lists g) where
  -- a list number has one owner
  pub one_owner : (n m : ℕ) (e f : Entry) → rows_of g n ≡ Some e → rows_of g m ≡ Some f → e.list
      ≡ f.list → e ≡ f
  one_owner n m e f x y h =
      let a = l.listed n e x in
      let b = l.listed m f y in
      let k : key_in nodes n ≡ key_in nodes m = let c : lookup e.list lists ≡ lookup f.list lists =
      ap (λ z. lookup z lists) h in cc in
      let same : n ≡ m = l.stands.apart n m (subst IsSome (sym x) refl) (subst IsSome (sym y) refl)
      k in
      let z : Some e ≡ Some f = sym x ∙ ap (rows_of g) same ∙ y in
      ap pick z
    where
      pick : Option Entry → Entry
      pick None = e
      pick (Some x) = x

  pub start : (list k : ℕ) (r : Record) → Some k ≡ lookup list lists → get s k ≡ Some r
      → Along s nodes g list 0 r.first
  start list k r h a =
      let w = l.listed_only list k (sym h) in
      let f = found_at s nodes lists g l w.0 k w.1 w.2 (sym w.4) in
      let same : f.it ≡ r = let x = f.at in cc in
      let entry_same : f.entry ≡ w.1 = let z : Some f.entry ≡ Some w.1 = sym f.is ∙ w.2 in
      ap (pick w.1) z in
      record {
        owner = w.0;
        entry = w.1;
        is = w.2;
        list_is = w.3;
        passed = [];
        rest = w.1.kids;
        whole = refl;
        len = refl;
        at = ap (λ (r : Record). r.first) (sym same) ∙ f.fits.first
            ∙ ap (λ (e : Entry). option_map (key_in nodes) (head_of e.kids)) entry_same;
      }
    where
      pick : Entry → Option Entry → Entry
      pick d None = d
      pick d (Some x) = x

  pub owner_there : (list k : ℕ) → Some k ≡ lookup list lists → ContainsKey s k
  owner_there list k h =
      let w = l.listed_only list k (sym h) in
      subst IsSome (sym (found_at s nodes lists g l w.0 k w.1 w.2 (sym w.4)).at) refl

  pub at_key : (list place key : ℕ) (current : Option ℕ) → Along s nodes g list place current
      → current ≡ Some key → Stop s nodes g list place key
  at_key list place key current w c = by_rest w.rest w.whole (sym w.at ∙ c)
    where
      up_some : (o : Option Entry) (p : ℕ) → parent_of o ≡ Some p → IsSome o
      up_some None p h = absurd (cc)
      up_some (Some e) p h = refl

      found_in : (x : ℕ) (o : Option Entry) → rows_of g x ≡ o → IsSome o → parent_of (rows_of g x)
          ≡ Some w.owner → key ≡ key_in nodes x → (f : Found s nodes g x key)
          × (f.entry.parent ≡ Some w.owner)
      found_in x None h i p k = absurd (cc)
      found_in x (Some e) h i p k = let f = found_at s nodes lists g l x key e h k in
          (f, sym (ap parent_of f.is) ∙ p)

      by_rest : (rest : List ℕ) → w.entry.kids ≡ w.passed ++ rest
          → option_map (key_in nodes) (head_of rest) ≡ Some key → Stop s nodes g list place key
      by_rest [] whole h = absurd (cc)
      by_rest (x ∷ rest) whole h =
          let kin = Kin-rows_of g l.once in
          let kids : kids_of (rows_of g w.owner) ≡ w.passed ++ x ∷ rest = ap kids_of w.is ∙ whole in
          let parts = ap (count x) kids ∙ count-append x w.passed (x ∷ rest) in
          let has : 1 ≤ count x (kids_of (rows_of g w.owner)) =
          omega (arith, parts, one_here x x refl) in
          let up : parent_of (rows_of g x) ≡ Some w.owner = kin.up w.owner x has in
          let k : key ≡ key_in nodes x = let z : Some (key_in nodes x) ≡ Some key = h in cc in
          let f = found_in x (rows_of g x) refl (up_some (rows_of g x) w.owner up) up k in
          let fewer : count x w.passed ≡ 0 = omega
          (arith, kin.once w.owner x, parts, one_here x x refl) in
          let next : f.0.it.next ≡ option_map (key_in nodes) (head_of rest) = f.0.fits.next
          ∙ ap (λ q. option_map (key_in nodes) (after x (row (rows_of g) q))) f.1
          ∙ ap (λ xs. option_map (key_in nodes) (after x xs)) kids
          ∙ ap (option_map (key_in nodes)) (after-here x w.passed rest fewer) in
          record {
            number = x;
            there = f.0;
            item = λ n e is same.
                let one : e ≡ w.entry = one_owner n w.owner e w.entry is w.is
                (same ∙ sym w.list_is) in
                ap (λ (e : Entry). slice_get e.kids place) one ∙ ap (λ xs. slice_get xs place) whole
                ∙ ap (slice_get (w.passed ++ x ∷ rest)) (sym w.len)
                ∙ slice_get-here w.passed (x ∷ rest);
            onward = record {
              owner = w.owner;
              entry = w.entry;
              is = w.is;
              list_is = w.list_is;
              passed = w.passed ++ x ∷ [];
              rest = rest;
              whole = whole ∙ sym (append_assoc w.passed (x ∷ []) rest);
              len = omega (arith, w.len, length-append w.passed (x ∷ []));
              at = next;
            };
          }

  pub at_end : (list place more : ℕ) (current : Option ℕ) → Along s nodes g list place current
      → current ≡ None → place ≤ more → (n : ℕ) (e : Entry) → rows_of g n ≡ Some e → e.list ≡ list
      → slice_get e.kids more ≡ None
  at_end list place more current w c h n e is same =
      let one : e ≡ w.entry = one_owner n w.owner e w.entry is w.is (same ∙ sym w.list_is) in
      ap (λ (e : Entry). slice_get e.kids more) one ∙ by_rest w.rest w.whole (sym w.at ∙ c)
    where
      by_rest : (rest : List ℕ) → w.entry.kids ≡ w.passed ++ rest
          → option_map (key_in nodes) (head_of rest) ≡ None → slice_get w.entry.kids more ≡ None
      by_rest [] whole z = slice_get_past w.entry.kids more
          (omega (arith, ap length (whole ∙ append-nil w.passed), w.len, h))
      by_rest (x ∷ rest) whole z = absurd (cc)
