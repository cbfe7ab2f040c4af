-- The record of a number that the index has.
use Rattle.std.proofs.Common.{◌≡◌, ℕ, ◌≤◌, List, Option, Some, None, refl, sym, ap, ◌∙◌, arith, subst}
use Rattle.std.specs.Option.{option_map, IsSomeAnd, unwrap_or}
use Rattle.model_shapes.specs.Trees.{Trees}
use Rattle.model_heap.specs.Lists.{count}
use Rattle.model_heap.specs.Entries.{Entry, rows_of, kids_of, parent_of}
use Rattle.model_heap.proofs.Kinship.{Kin-rows_of}
use Rattle.slab.specs.Slab.{Slab, get}
use Rattle.node_heap.specs.declared.records.Record.{Record}
use Rattle.node_heap.specs.declared.index.Pair.{Pair}
use Rattle.node_heap.specs.Links.{Fits}
use Rattle.node_heap.specs.Indexes.{lookup, key_in}
use Rattle.node_heap.specs.Heap.{Linking}

pub record Found (s : Slab Record) (nodes : List Pair) (g : Trees) (n k : ℕ) : Type 0 where
  pub entry : Entry
  pub is : rows_of g n ≡ Some entry
  pub key : k ≡ key_in nodes n
  pub it : Record
  pub at : get s k ≡ Some it
  pub fits : Fits (key_in nodes) (rows_of g) n entry it

found_record : (s : Slab Record) (nodes : List Pair) (g : Trees) (n k : ℕ) (e : Entry) → rows_of g n
    ≡ Some e → k ≡ key_in nodes n → (o : Option Record) → get s k ≡ o
    → IsSomeAnd o (Fits (key_in nodes) (rows_of g) n e) → Found s nodes g n k
found_record s nodes g n k e is key None at f = absurd (f)
found_record s nodes g n k e is key (Some r) at f =
    record { entry = e; is = is; key = key; it = r; at = at; fits = f }

pub found_at : (s : Slab Record) (nodes lists : List Pair) (g : Trees) (l : Linking s nodes lists g)
    (n k : ℕ) (e : Entry) → rows_of g n ≡ Some e → k ≡ key_in nodes n → Found s nodes g n k
found_at s nodes lists g l n k e is key = found_record s nodes g n k e is key (get s k) refl
    (subst (λ k. IsSomeAnd (get s k) (Fits (key_in nodes) (rows_of g) n e)) (sym key)
    (l.stands.fits n e is))

pub found : (s : Slab Record) (nodes lists : List Pair) (g : Trees) (l : Linking s nodes lists g)
    (n k : ℕ) → Some k ≡ lookup n nodes → Found s nodes g n k
found s nodes lists g l n k h = by_entry (rows_of g n) refl
  where
    by_entry : (o : Option Entry) → rows_of g n ≡ o → Found s nodes g n k
    by_entry None e = absurd (let i = l.indexed n in cc)
    by_entry (Some e) is = found_at s nodes lists g l n k e is (ap (λ o. unwrap_or o 0) h)

-- what a key in a record points to
pub record Points (s : Slab Record) (nodes : List Pair) (g : Trees) (o : Option ℕ) (k : ℕ) : Type
    0 where
  pub number : ℕ
  pub is : o ≡ Some number
  pub there : Found s nodes g number k

pub points_parent : (s : Slab Record) (nodes lists : List Pair) (g : Trees)
    (l : Linking s nodes lists g) (n k pk : ℕ) (f : Found s nodes g n k) → f.it.parent ≡ Some pk
    → Points s nodes g f.entry.parent pk
points_parent s nodes lists g l n k pk f h = by_parent f.entry.parent refl
  where
    by_parent : (o : Option ℕ) → f.entry.parent ≡ o → Points s nodes g f.entry.parent pk
    by_parent None e = absurd (let a = f.fits.parent ∙ ap (option_map (key_in nodes)) e in cc)
    by_parent (Some p) e =
        let a : f.it.parent ≡ Some (key_in nodes p) = f.fits.parent
        ∙ ap (option_map (key_in nodes)) e in
        let kin = Kin-rows_of g l.once in
        let up : parent_of (rows_of g n) ≡ Some p = ap parent_of f.is ∙ e in
        let has : 1 ≤ count n (kids_of (rows_of g p)) = kin.down p n up in
        record {
          number = p;
          is = e;
          there = stand p (rows_of g p) refl has
              (let x : pk ≡ key_in nodes p = cc in x);
        }
      where
        stand : (p : ℕ) (o : Option Entry) → rows_of g p ≡ o → 1 ≤ count n (kids_of (rows_of g p))
            → pk ≡ key_in nodes p → Found s nodes g p pk
        stand p None e h x = absurd (omega (arith, h, ap (λ o. count n (kids_of o)) e))
        stand p (Some w) e h x = found_at s nodes lists g l p pk w e x

-- a pointer that leads nowhere
pub from_none : (key : ℕ → ℕ) (o : Option ℕ) → option_map key o ≡ None → o ≡ None
from_none key None h = refl
from_none key (Some x) h = absurd (cc)

pub parent_found : (s : Slab Record) (nodes lists : List Pair) (g h : Trees)
    (l : Linking s nodes lists g) (n k pk : ℕ) (r : Record) → Found s nodes g n k → get s k ≡ Some r
    → r.parent ≡ Some pk → (f : Found s nodes g n k) × Points s nodes g f.entry.parent pk
parent_found s nodes lists g h l n k pk r f a p =
    let same : f.it ≡ r = let x = f.at in cc in
    (f, points_parent s nodes lists g l n k pk f (ap (λ (r : Record). r.parent) same ∙ p))
