-- One number comes into a row, or leaves it.
use Rattle.std.proofs.Common.{◌≡◌, ◌≢◌, ◌⊎◌, ℕ, ◌≤◌, Bool, true, false, cond, List, [], ◌∷◌, Option, Some, None, refl, sym, ap, ◌∙◌, inl, inr, arith, subst}
use Rattle.std.specs.Option.{option_map, IsSome, IsSomeAnd}
use Rattle.std.proofs.lemmas.Bool.{cases_eq}
use Rattle.model_heap.specs.Lists.{count, holds, head_of, last_of, after, before}
use Rattle.model_heap.specs.Entries.{Entry, Rows, kids_of, parent_of, Kin}
use Rattle.model_heap.proofs.Moves.{test_yes, test_no, one_here}
use Rattle.slab.specs.Slab.{Slab, get}
use Rattle.node_heap.specs.declared.records.Record.{Record}
use Rattle.node_heap.specs.Records.{at_end, linked, Becomes}
use Rattle.node_heap.specs.Links.{row, Fits, Stands}

abbrev pub is_none : {A : Type 0} → Option A → Bool
is_none None = true
is_none (Some x) = false

-- what a move of `c` in the row of `p` does: `a` stands before its place and `b` after it
pub record Moved (rows new : Rows) (p c : ℕ) (a b : List ℕ) (to back up : Option ℕ) : Type 0 where
  pub parent_stands : IsSome (rows p)
  pub outside : p ≢ c
  pub in_front : (x : ℕ) → 1 ≤ count x a → 1 ≤ count x (kids_of (rows p))
  pub in_back : (x : ℕ) → 1 ≤ count x b → 1 ≤ count x (kids_of (rows p))
  pub after : (n : ℕ) → n ≢ c → after n (kids_of (new p))
      ≡ cond (holds (last_of a) n) to (after n (kids_of (rows p)))
  pub before : (n : ℕ) → n ≢ c → before n (kids_of (new p))
      ≡ cond (holds (head_of b) n) back (before n (kids_of (rows p)))
  pub head : head_of (kids_of (new p)) ≡ cond (is_none (last_of a)) to (head_of (kids_of (rows p)))
  pub last : last_of (kids_of (new p)) ≡ cond (is_none (head_of b)) back
      (last_of (kids_of (rows p)))
  pub rest : (m : ℕ) → m ≢ p → kids_of (new m) ≡ kids_of (rows m)
  pub others : (m : ℕ) (e : Entry) → m ≢ c → new m ≡ Some e → rows m
      ≡ Some (record e { kids = kids_of (rows m) })
  pub itself : (e : Entry) → new c ≡ Some e → (q : Option ℕ)
      × (rows c ≡ Some (record e { parent = q })) × (e.parent ≡ up)

pub two_ways : (b : Bool) → (b ≡ true) ⊎ (b ≡ false)
two_ways true = inl refl
two_ways false = inr refl

pub map_cond : {A B : Type 0} (f : A → B) (b : Bool) (x y : Option A) → option_map f (cond b x y)
    ≡ cond b (option_map f x) (option_map f y)
map_cond f true x y = refl
map_cond f false x y = refl

pub held : (o : Option ℕ) (n : ℕ) → holds o n ≡ true → o ≡ Some n
held None n h = absurd (cc)
held (Some x) n h = elim (cases_eq x n) [
  | inl e ↦ ap Some e
  | inr d ↦
      absurd (let g = test_no x n d in cc)
]

pub last_count : (a : List ℕ) (n : ℕ) → holds (last_of a) n ≡ true → 1 ≤ count n a
last_count [] n h = absurd (cc)
last_count (x ∷ []) n h = elim (cases_eq n x) [
  | inl e ↦ omega (arith, one_here n x e)
  | inr d ↦ absurd
      (let g = test_no x n (λ e. d (sym e)) in cc)
]
last_count (x ∷ y ∷ ys) n h = omega (arith, last_count (y ∷ ys) n h)

pub head_count : (a : List ℕ) (n : ℕ) → holds (head_of a) n ≡ true → 1 ≤ count n a
head_count [] n h = absurd (cc)
head_count (x ∷ xs) n h = elim (cases_eq n x) [
  | inl e ↦ omega (arith, one_here n x e)
  | inr d ↦ absurd
      (let g = test_no x n (λ e. d (sym e)) in cc)
]

parent_some : (o : Option Entry) (p : ℕ) → parent_of o ≡ Some p → IsSome o
parent_some None p h = absurd (cc)
parent_some (Some e) p h = refl

pub with_record : (o new : Option Record) (f : Record → Record) (P Q : Record → Type 0) → new
    ≡ option_map f o → IsSomeAnd o P → ((r : Record) → P r → Q (f r)) → IsSomeAnd new Q
with_record None new f P Q e h k = absurd (h)
with_record (Some r) new f P Q e h k = subst (λ o. IsSomeAnd o Q) (sym e) (k r h)

module _ (key : ℕ → ℕ) (rows new : Rows) (p c : ℕ) (a b : List ℕ) (to back up : Option ℕ)
    (m : Moved rows new p c a b to back up) (kin : Kin rows) (s : Slab Record)
    (stands : Stands key rows s) where
  front_parent : (n : ℕ) → holds (last_of a) n ≡ true → parent_of (rows n) ≡ Some p
  front_parent n h = kin.up p n (m.in_front n (last_count a n h))

  back_parent : (n : ℕ) → holds (head_of b) n ≡ true → parent_of (rows n) ≡ Some p
  back_parent n h = kin.up p n (m.in_back n (head_count b n h))

  key_test : (o : Option ℕ) (n : ℕ) → ((x : ℕ) → holds o x ≡ true → IsSome (rows x))
      → IsSome (rows n) → holds (option_map key o) (key n) ≡ holds o n
  key_test None n k h = refl
  key_test (Some x) n k h =
      elim (cases_eq x n) [
        | inl e ↦ test_yes (key x) (key n) (ap key e) ∙ sym (test_yes x n e)
        | inr d ↦ test_no (key x) (key n) (λ e. d (stands.apart x n (k x (test_yes x x refl)) h e))
            ∙ sym (test_no x n d)
      ]

  row_after : (n : ℕ) (q : Option ℕ) → n ≢ c → parent_of (rows n) ≡ q → after n (row new q)
      ≡ cond (holds (last_of a) n) to (after n (row rows q))
  row_after n None d e = elim (two_ways (holds (last_of a) n))
      [ inl h ↦ absurd (let g = front_parent n h in cc) | inr h ↦ rw h refl ]
  row_after n (Some q) d e = elim (cases_eq q p) [
    | inl f ↦ rw f (m.after n d)
    | inr f ↦ elim (two_ways (holds (last_of a) n))
        [ inl h ↦ absurd (f (let g = front_parent n h in cc)) | inr h ↦ rw (h, m.rest q f) refl ]
  ]

  row_before : (n : ℕ) (q : Option ℕ) → n ≢ c → parent_of (rows n) ≡ q → before n (row new q)
      ≡ cond (holds (head_of b) n) back (before n (row rows q))
  row_before n None d e = elim (two_ways (holds (head_of b) n))
      [ inl h ↦ absurd (let g = back_parent n h in cc) | inr h ↦ rw h refl ]
  row_before n (Some q) d e = elim (cases_eq q p) [
    | inl f ↦ rw f (m.before n d)
    | inr f ↦ elim (two_ways (holds (head_of b) n))
        [ inl h ↦ absurd (f (let g = back_parent n h in cc)) | inr h ↦ rw (h, m.rest q f) refl ]
  ]

  first_kept : (n : ℕ) → IsSome (rows n) → cond
      (at_end (option_map key (last_of a)) (key p) (key n)) (option_map key to)
      (option_map key (head_of (kids_of (rows n)))) ≡ option_map key (head_of (kids_of (new n)))
  first_kept n h = elim (cases_eq n p) [
    | inl e ↦ subst (λ n. cond (at_end (option_map key (last_of a)) (key p) (key n))
        (option_map key to) (option_map key (head_of (kids_of (rows n))))
        ≡ option_map key (head_of (kids_of (new n)))) (sym e) (rw (m.head) (here (last_of a)))
    | inr d ↦ rw (away (last_of a) n d h, m.rest n d) refl
  ]
    where
      here : (o : Option ℕ) → cond (at_end (option_map key o) (key p) (key p)) (option_map key to)
          (option_map key (head_of (kids_of (rows p)))) ≡ option_map key
          (cond (is_none o) to (head_of (kids_of (rows p))))
      here None = rw (test_yes (key p) (key p) refl) refl
      here (Some x) = refl

      away : (o : Option ℕ) (n : ℕ) → n ≢ p → IsSome (rows n)
          → at_end (option_map key o) (key p) (key n) ≡ false
      away None n d h = test_no (key p) (key n)
          (λ e. d (stands.apart n p h m.parent_stands (sym e)))
      away (Some x) n d h = refl

  last_kept : (n : ℕ) → IsSome (rows n) → cond (at_end (option_map key (head_of b)) (key p) (key n))
      (option_map key back) (option_map key (last_of (kids_of (rows n))))
      ≡ option_map key (last_of (kids_of (new n)))
  last_kept n h = elim (cases_eq n p) [
    | inl e ↦ subst (λ n. cond (at_end (option_map key (head_of b)) (key p) (key n))
        (option_map key back) (option_map key (last_of (kids_of (rows n))))
        ≡ option_map key (last_of (kids_of (new n)))) (sym e) (rw (m.last) (here (head_of b)))
    | inr d ↦ rw (away (head_of b) n d h, m.rest n d) refl
  ]
    where
      here : (o : Option ℕ) → cond (at_end (option_map key o) (key p) (key p)) (option_map key back)
          (option_map key (last_of (kids_of (rows p)))) ≡ option_map key
          (cond (is_none o) back (last_of (kids_of (rows p))))
      here None = rw (test_yes (key p) (key p) refl) refl
      here (Some x) = refl

      away : (o : Option ℕ) (n : ℕ) → n ≢ p → IsSome (rows n)
          → at_end (option_map key o) (key p) (key n) ≡ false
      away None n d h = test_no (key p) (key n)
          (λ e. d (stands.apart n p h m.parent_stands (sym e)))
      away (Some x) n d h = refl

  other_fits : (left right : Option ℕ) (n : ℕ) (e : Entry) (r : Record) → n ≢ c → IsSome (rows c)
      → rows n ≡ Some (record e { kids = kids_of (rows n) }) → kids_of (new n) ≡ e.kids
      → Fits key rows n (record e { kids = kids_of (rows n) }) r
      → Fits key new n e (linked (option_map key (last_of a)) (key p) (option_map key to)
      (option_map key (head_of b)) (option_map key back) (key c) (option_map key up) left right
      (key n) r)
  other_fits left right n e r d cs was kids f =
      let n_stands : IsSome (rows n) = subst IsSome (sym was) refl in
      let away : key c ≢ key n = λ w. d (sym (stands.apart c n cs n_stands w)) in
      let q : parent_of (rows n) ≡ e.parent = ap parent_of was in
      rw (test_no (key c) (key n) away) (record {
        number = f.number;
        name = f.name;
        list = f.list;
        parent = f.parent;
        previous = rw (
          row_before n e.parent d q,
          map_cond,
          key_test (head_of b) n (λ x h. parent_some (rows x) p (back_parent x h)) n_stands,
          f.previous,
        ) refl;
        next = rw (
          row_after n e.parent d q,
          map_cond,
          key_test (last_of a) n
              (λ x h. parent_some (rows x) p (front_parent x h)) n_stands,
          f.next,
        ) refl;
        first = rw (f.first, first_kept n n_stands) (ap (λ k. option_map key (head_of k)) kids);
        last = rw (f.last, last_kept n n_stands) (ap (λ k. option_map key (last_of k)) kids);
      })

  itself_fits : (left right : Option ℕ) (e : Entry) (q : Option ℕ) (r : Record) → left
      ≡ option_map key (before c (row new up)) → right ≡ option_map key (after c (row new up))
      → IsSome (rows c) → e.parent ≡ up → Fits key rows c (record e { parent = q }) r
      → Fits key new c e (linked (option_map key (last_of a)) (key p) (option_map key to)
      (option_map key (head_of b)) (option_map key back) (key c) (option_map key up) left right
      (key c) r)
  itself_fits left right e q r hl hr cs hp f =
      let away : key p ≢ key c = λ w. m.outside (stands.apart p c m.parent_stands cs w) in
      rw (test_yes (key c) (key c) refl) (record {
        number = f.number;
        name = f.name;
        list = f.list;
        parent = ap (option_map key) (sym hp);
        previous = rw hp hl;
        next = rw hp hr;
        first = rw (end_away (last_of a) away) f.first;
        last = rw (end_away (head_of b) away) f.last;
      })
    where
      end_away : (o : Option ℕ) → key p ≢ key c → at_end (option_map key o) (key p) (key c) ≡ false
      end_away None d = test_no (key p) (key c) d
      end_away (Some x) d = refl

  -- THE RECORDS AFTER A MOVE
  pub stands_moved : (left right : Option ℕ) (s' : Slab Record) → left
      ≡ option_map key (before c (row new up)) → right ≡ option_map key (after c (row new up))
      → IsSome (rows c) → Becomes s s' (linked (option_map key (last_of a)) (key p)
      (option_map key to) (option_map key (head_of b)) (option_map key back) (key c)
      (option_map key up) left right) → Stands key new s'
  stands_moved left right s' hl hr cs becomes =
      record {
        apart = λ n k hn hk e. stands.apart n k (was n (new n) refl hn) (was k (new k) refl hk) e;
        fits = λ n e h. elim (cases_eq n c) [
          | inl w ↦ subst (λ n. IsSomeAnd (get s' (key n)) (Fits key new n e)) (sym w)
              (at_itself e (subst (λ n. new n ≡ Some e) w h))
          | inr d ↦ with_record (get s (key n)) (get s' (key n))
              (linked (option_map key (last_of a)) (key p) (option_map key to)
              (option_map key (head_of b)) (option_map key back) (key c) (option_map key up) left
              right (key n)) (Fits key rows n (record e { kids = kids_of (rows n) }))
              (Fits key new n e) (becomes (key n)) (stands.fits n
              (record e { kids = kids_of (rows n) }) (m.others n e d h))
              (λ r f. other_fits left right n e r d cs (m.others n e d h) (ap kids_of h) f)
        ];
      }
    where
      was : (n : ℕ) (o : Option Entry) → new n ≡ o → IsSome o → IsSome (rows n)
      was n None h e = absurd (cc)
      was n (Some e) h i = elim (cases_eq n c) [
        | inl w ↦ subst (λ n. IsSome (rows n)) (sym w) cs
        | inr d ↦ subst IsSome (sym (m.others n e d h)) refl
      ]

      at_itself : (e : Entry) → new c ≡ Some e → IsSomeAnd (get s' (key c)) (Fits key new c e)
      at_itself e h =
          let w = m.itself e h in
          with_record (get s (key c)) (get s' (key c))
          (linked (option_map key (last_of a)) (key p) (option_map key to)
          (option_map key (head_of b)) (option_map key back) (key c) (option_map key up) left
          right (key c)) (Fits key rows c (record e { parent = w.0 })) (Fits key new c e)
          (becomes (key c)) (stands.fits c (record e { parent = w.0 }) w.1)
          (λ r f. itself_fits left right e w.0 r hl hr cs w.2 f)
