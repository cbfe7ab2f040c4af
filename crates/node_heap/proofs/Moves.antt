-- A number leaves its row, and comes to the end of another.
use Rattle.std.proofs.Common.{◌≡◌, ◌≢◌, ℕ, ◌+◌, ◌≤◌, Bool, true, false, cond, eqb, List, [], ◌∷◌, ◌++◌, Option, Some, None, refl, sym, ap, ◌∙◌, inl, inr, arith, append-nil}
use Rattle.std.specs.Option.{option_map, IsSome}
use Rattle.std.proofs.lemmas.Bool.{cases_eq}
use Rattle.model_heap.specs.Lists.{count, head_of, last_of}
use Rattle.model_heap.specs.Entries.{Entry, Rows, kids_of, parent_of, Kin, detached, attached_by, kids_by, less_kid, below, drop_from}
use Rattle.model_heap.proofs.Moves.{test_yes, test_no, one_here}
use Rattle.model_heap.proofs.Neighbours.{Split, count-append, last-append, after-with, after-all_but, before-with, before-all_but}
use Rattle.node_heap.proofs.Moved.{Moved, is_none}

pub drop_none : (c : ℕ) (xs : List ℕ) → count c xs ≡ 0 → drop_from c xs ≡ xs
drop_none c [] h = refl
drop_none c (x ∷ xs) h = elim (cases_eq c x) [
  | inl e ↦ absurd (omega (arith, h, one_here c x e))
  | inr d ↦
      rw (test_no c x d) (ap (λ z. x ∷ z) (drop_none c xs (omega (arith, h))))
]

some_entry : (o : Option Entry) (p : ℕ) → 1 ≤ count p (kids_of o) → IsSome o
some_entry None p h = absurd (omega (arith, h))
some_entry (Some e) p h = refl

less_kids : (c : ℕ) (o : Option Entry) → kids_of (option_map (less_kid c) o)
    ≡ drop_from c (kids_of o)
less_kids c None = refl
less_kids c (Some e) = refl

below_kids : (q : Option ℕ) (o : Option Entry) → kids_of (option_map (below q) o) ≡ kids_of o
below_kids q None = refl
below_kids q (Some e) = refl

less_was : (c : ℕ) (o : Option Entry) (e : Entry) → option_map (less_kid c) o ≡ Some e → o
    ≡ Some (record e { kids = kids_of o })
less_was c None e h = absurd (cc)
less_was c (Some e0) e h = ap (λ o. Some (record (or o) { kids = e0.kids })) h
  where
    or : Option Entry → Entry
    or None = e0
    or (Some e) = e

kids_by_was : (b : Bool) (f : List ℕ → List ℕ) (o : Option Entry) (e : Entry)
    → option_map (kids_by b f) o ≡ Some e → o ≡ Some (record e { kids = kids_of o })
kids_by_was b f None e h = absurd (cc)
kids_by_was b f (Some e0) e h = ap (λ o. Some (record (or o) { kids = e0.kids })) h
  where
    or : Option Entry → Entry
    or None = e0
    or (Some e) = e

below_was : (q : Option ℕ) (o : Option Entry) (e : Entry) → option_map (below q) o ≡ Some e
    → (w : Option ℕ) × (o ≡ Some (record e { parent = w })) × (e.parent ≡ q)
below_was q None e h = absurd (cc)
below_was q (Some e0) e h = (
  e0.parent,
  ap (λ o. Some (record (or o) { parent = e0.parent })) h,
  ap (λ o. (or o).parent) (sym h),
)
  where
    or : Option Entry → Entry
    or None = e0
    or (Some e) = e

head_part : (c : ℕ) (a b : List ℕ) → head_of (a ++ b)
    ≡ cond (is_none (last_of a)) (head_of b) (head_of (a ++ c ∷ b))
head_part c [] b = refl
head_part c (x ∷ []) b = refl
head_part c (x ∷ y ∷ ys) b = other (y ∷ ys) y ys refl
  where
    other : (zs : List ℕ) (y : ℕ) (ys : List ℕ) → zs ≡ y ∷ ys → Some x
        ≡ cond (is_none (last_of (y ∷ ys))) (head_of b) (Some x)
    other zs y [] e = refl
    other zs y (z ∷ rest) e = other (z ∷ rest) z rest refl

last_part : (c : ℕ) (a b : List ℕ) → last_of (a ++ b)
    ≡ cond (is_none (head_of b)) (last_of a) (last_of (a ++ c ∷ b))
last_part c a [] = rw (append-nil a) refl
last_part c a (y ∷ ys) = last-append a (y ∷ ys) ∙ sym (last-append a (c ∷ y ∷ ys))

pub detach_moved : (rows : Rows) (p c : ℕ) → Kin rows → parent_of (rows c) ≡ Some p → p ≢ c
    → (w : Split c (kids_of (rows p))) → Moved rows (detached c rows) p c w.front w.back
    (head_of w.back) (last_of w.front) None
detach_moved rows p c kin up d w =
    let there = kin.down p c up in
    let kids : kids_of (detached c rows p) ≡ w.front ++ w.back =
    rw (test_no p c d) (less_kids c (rows p) ∙ w.rest) in
    let parts : (x : ℕ) → count x (kids_of (rows p)) ≡ count x w.front +
    (cond (eqb x c) 1 0 + count x w.back) = λ x. ap (count x) w.whole
    ∙ count-append x w.front (c ∷ w.back) in
    record {
      parent_stands = some_entry (rows p) c there;
      outside = d;
      in_front = λ x h. omega (arith, h, parts x);
      in_back = λ x h. omega (arith, h, parts x);
      after = λ n e. rw (kids, w.whole) (after-all_but n c w.front w.back e
          (omega (arith, kin.once p n, parts n)));
      before = λ n e. rw (kids, w.whole) (before-all_but n c w.front w.back e
          (omega (arith, kin.once p n, parts n, count-append n w.front w.back)));
      head = rw (kids, w.whole) (head_part c w.front w.back);
      last = rw (kids, w.whole) (last_part c w.front w.back);
      rest = λ m e. elim (cases_eq m c) [
        | inl f ↦ rw (test_yes m c f) (below_kids None (rows m))
        | inr f ↦ rw (test_no m c f) (less_kids c (rows m)
            ∙ drop_none c (kids_of (rows m)) (absent m e))
      ];
      others = λ m e f h. less_was c (rows m) e (rw (test_no m c f) at h);
      itself = λ e h. below_was None (rows c) e (rw (test_yes c c refl) at h);
    }
  where
    absent : (m : ℕ) → m ≢ p → count c (kids_of (rows m)) ≡ 0
    absent m e = elim (cases_eq (count c (kids_of (rows m))) 0) [
      | inl z ↦ z
      | inr z ↦ absurd (e (let u = kin.up m c (omega (arith, z)) in cc))
    ]

head_more : (c : ℕ) (a b : List ℕ) → head_of (a ++ c ∷ b)
    ≡ cond (is_none (last_of a)) (Some c) (head_of (a ++ b))
head_more c [] b = refl
head_more c (x ∷ []) b = refl
head_more c (x ∷ y ∷ ys) b = other y ys
  where
    other : (y : ℕ) (ys : List ℕ) → Some x ≡ cond (is_none (last_of (y ∷ ys))) (Some c) (Some x)
    other y [] = refl
    other y (z ∷ rest) = other z rest

last_more : (c : ℕ) (a b : List ℕ) → last_of (a ++ c ∷ b)
    ≡ cond (is_none (head_of b)) (Some c) (last_of (a ++ b))
last_more c a [] = last-append a (c ∷ [])
last_more c a (y ∷ ys) = last-append a (c ∷ y ∷ ys) ∙ sym (last-append a (y ∷ ys))

pub attach_moved : (f : List ℕ → List ℕ) (rows : Rows) (p c : ℕ) (a b : List ℕ) → Kin rows
    → IsSome (rows p) → parent_of (rows c) ≡ None → p ≢ c → kids_of (rows p) ≡ a ++ b
    → f (kids_of (rows p)) ≡ a ++ c ∷ b → Moved rows (attached_by f p c rows) p c a b (Some c)
    (Some c) (Some p)
attach_moved f rows p c a b kin there free d old new =
    let kids : kids_of (attached_by f p c rows p) ≡ a ++ c ∷ b =
    rw (test_no p c d, test_yes p p refl) (wide (rows p) there ∙ new) in
    let parts : (x : ℕ) → count x (kids_of (rows p)) ≡ count x a + count x b = λ x. ap (count x) old
    ∙ count-append x a b in
    record {
      parent_stands = there;
      outside = d;
      in_front = λ x h. omega (arith, h, parts x);
      in_back = λ x h. omega (arith, h, parts x);
      after = λ n e. rw (kids, old) (after-with n c a b e (omega (arith, kin.once p n, parts n)));
      before = λ n e. rw (kids, old) (before-with n c a b e
          (omega (arith, kin.once p n, parts n, count-append n a b)));
      head = rw (kids, old) (head_more c a b);
      last = rw (kids, old) (last_more c a b);
      rest = λ m e. elim (cases_eq m c) [
        | inl g ↦ rw (test_yes m c g) (below_kids (Some p) (rows m))
        | inr g ↦ rw (test_no m c g, test_no m p e) (same (rows m))
      ];
      others = λ m e g h. kids_by_was (eqb m p) f (rows m) e (rw (test_no m c g) at h);
      itself = λ e h. below_was (Some p) (rows c) e (rw (test_yes c c refl) at h);
    }
  where
    wide : (o : Option Entry) → IsSome o → kids_of (option_map (kids_by true f) o) ≡ f (kids_of o)
    wide None h = absurd (cc)
    wide (Some e) h = refl

    same : (o : Option Entry) → kids_of (option_map (kids_by false f) o) ≡ kids_of o
    same None = refl
    same (Some e) = refl
