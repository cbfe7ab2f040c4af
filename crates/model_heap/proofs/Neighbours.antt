-- A list before and after one number comes in.
use Rattle.std.proofs.Common.{◌≡◌, ◌≢◌, ℕ, ◌+◌, ◌≤◌, Bool, true, false, cond, List, [], ◌∷◌, ◌++◌, Some, None, refl, sym, ap, inl, inr, arith}
use Rattle.std.specs.Option.{option_or}
use Rattle.std.proofs.lemmas.Bool.{cases_eq}
use Rattle.model_heap.specs.Lists.{count, holds, head_of, last_of, after, before}
use Rattle.model_heap.specs.Entries.{drop_from}
use Rattle.model_heap.proofs.Moves.{test_yes, test_no, one_here, none_here}

pub count-append : (n : ℕ) (a b : List ℕ) → count n (a ++ b) ≡ count n a + count n b
count-append n [] b = omega arith
count-append n (x ∷ xs) b = omega (arith, count-append n xs b)

pub head-append : (a b : List ℕ) → head_of (a ++ b) ≡ option_or (head_of a) (head_of b)
head-append [] b = refl
head-append (x ∷ xs) b = refl

pub last-append : (a b : List ℕ) → last_of (a ++ b) ≡ option_or (last_of b) (last_of a)
last-append [] [] = refl
last-append [] (y ∷ ys) = some y ys
  where
    some : (y : ℕ) (ys : List ℕ) → last_of (y ∷ ys) ≡ option_or (last_of (y ∷ ys)) None
    some y [] = refl
    some y (z ∷ zs) = some z zs
last-append (x ∷ []) [] = refl
last-append (x ∷ []) (y ∷ ys) = some y ys
  where
    some : (y : ℕ) (ys : List ℕ) → last_of (y ∷ ys) ≡ option_or (last_of (y ∷ ys)) (Some x)
    some y [] = refl
    some y (z ∷ zs) = some z zs
last-append (x ∷ z ∷ zs) b = last-append (z ∷ zs) b

-- the first place of a number
pub record Split (c : ℕ) (xs : List ℕ) : Type 0 where
  pub front : List ℕ
  pub back : List ℕ
  pub whole : xs ≡ front ++ c ∷ back
  pub rest : drop_from c xs ≡ front ++ back
  pub first : count c front ≡ 0

split_past : (c x : ℕ) (xs : List ℕ) → c ≢ x → Split c xs → Split c (x ∷ xs)
split_past c x xs d r =
    record {
      front = x ∷ r.front;
      back = r.back;
      whole = ap (λ z. x ∷ z) r.whole;
      rest = rw (test_no c x d) (ap (λ z. x ∷ z) r.rest);
      first = omega (arith, none_here c x d, r.first);
    }

pub split : (c : ℕ) (xs : List ℕ) → 1 ≤ count c xs → Split c xs
split c [] h = absurd (omega arith)
split c (x ∷ xs) h =
    elim (cases_eq c x) [
      | inl e ↦ record {
        front = [];
        back = xs;
        whole = ap (λ z. z ∷ xs) (sym e);
        rest =
            rw (test_yes c x e) refl;
        first = refl;
      }
      | inr d ↦ split_past c x xs d (split c xs (omega (arith, h, none_here c x d)))
    ]

holds_absent : (n : ℕ) (xs : List ℕ) → count n xs ≡ 0 → holds (head_of xs) n ≡ false
holds_absent n [] h = refl
holds_absent n (x ∷ xs) h = elim (cases_eq x n)
    [ inl e ↦ absurd (omega (arith, h, one_here n x (sym e))) | inr d ↦ test_no x n d ]

last_absent : (n : ℕ) (xs : List ℕ) → count n xs ≡ 0 → holds (last_of xs) n ≡ false
last_absent n [] h = refl
last_absent n (x ∷ []) h = elim (cases_eq x n)
    [ inl e ↦ absurd (omega (arith, h, one_here n x (sym e))) | inr d ↦ test_no x n d ]
last_absent n (x ∷ y ∷ ys) h = last_absent n (y ∷ ys) (omega (arith, h))

pub after_absent : (n : ℕ) (xs : List ℕ) → count n xs ≡ 0 → after n xs ≡ None
after_absent n [] h = refl
after_absent n (x ∷ xs) h = elim (cases_eq n x) [
  | inl e ↦ absurd (omega (arith, h, one_here n x e))
  | inr d ↦
      rw (test_no n x d) (after_absent n xs (omega (arith, h)))
]

pub before_absent : (n : ℕ) (xs : List ℕ) → count n xs ≡ 0 → before n xs ≡ None
before_absent n [] h = refl
before_absent n (x ∷ xs) h = rw (holds_absent n xs (omega (arith, h)))
    (before_absent n xs (omega (arith, h)))

-- the neighbours of the number itself
pub after-here : (c : ℕ) (a b : List ℕ) → count c a ≡ 0 → after c (a ++ c ∷ b) ≡ head_of b
after-here c [] b h = rw (test_yes c c refl) refl
after-here c (x ∷ a) b h = elim (cases_eq c x) [
  | inl e ↦ absurd (omega (arith, h, one_here c x e))
  | inr d ↦
      rw (test_no c x d) (after-here c a b (omega (arith, h)))
]

pub before-here : (c : ℕ) (a b : List ℕ) → count c a ≡ 0 → count c b ≡ 0 → before c (a ++ c ∷ b)
    ≡ last_of a
before-here c [] b h k = rw (holds_absent c b k) (before_absent c b k)
before-here c (x ∷ []) b h k = rw (test_yes c c refl) refl
before-here c (x ∷ y ∷ ys) b h k = elim (cases_eq y c) [
  | inl e ↦ absurd (omega (arith, h, one_here c y (sym e)))
  | inr d ↦
      rw (test_no y c d) (before-here c (y ∷ ys) b (omega (arith, h)) k)
]

-- the neighbours of another number, with and all_but it
pub after-with : (n c : ℕ) (a b : List ℕ) → n ≢ c → count n a ≤ 1 → after n (a ++ c ∷ b)
    ≡ cond (holds (last_of a) n) (Some c) (after n (a ++ b))
after-with n c [] b d h = rw (test_no n c d) refl
after-with n c (x ∷ []) b d h = elim (cases_eq n x) [
  | inl e ↦ rw (test_yes n x e, test_yes x n (sym e)) refl
  | inr f ↦
      rw (test_no n x f, test_no x n (λ e. f (sym e)), test_no n c d) refl
]
after-with n c (x ∷ y ∷ ys) b d h =
    elim (cases_eq n x) [
      | inl e ↦ rw (test_yes n x e, last_absent n (y ∷ ys) (omega (arith, h, one_here n x e))) refl
      | inr f ↦ rw (test_no n x f) (after-with n c (y ∷ ys) b d (omega (arith, h)))
    ]

pub after-all_but : (n c : ℕ) (a b : List ℕ) → n ≢ c → count n a ≤ 1 → after n (a ++ b)
    ≡ cond (holds (last_of a) n) (head_of b) (after n (a ++ c ∷ b))
after-all_but n c [] b d h = rw (test_no n c d) refl
after-all_but n c (x ∷ []) b d h = elim (cases_eq n x) [
  | inl e ↦ rw (test_yes n x e, test_yes x n (sym e)) refl
  | inr f ↦
      rw (test_no n x f, test_no x n (λ e. f (sym e)), test_no n c d) refl
]
after-all_but n c (x ∷ y ∷ ys) b d h =
    elim (cases_eq n x) [
      | inl e ↦ rw (test_yes n x e, last_absent n (y ∷ ys) (omega (arith, h, one_here n x e))) refl
      | inr f ↦ rw (test_no n x f) (after-all_but n c (y ∷ ys) b d (omega (arith, h)))
    ]

pub before-with : (n c : ℕ) (a b : List ℕ) → n ≢ c → count n (a ++ b) ≤ 1 → before n (a ++ c ∷ b)
    ≡ cond (holds (head_of b) n) (Some c) (before n (a ++ b))
before-with n c [] b d h = refl
before-with n c (x ∷ []) b d h = rw (test_no c n (λ e. d (sym e))) (once (holds (head_of b) n))
  where
    once : (t : Bool) → cond t (Some c) (before n b) ≡ cond t (Some c)
        (cond t (Some x) (before n b))
    once true = refl
    once false = refl
before-with n c (x ∷ y ∷ ys) b d h =
    elim (cases_eq y n) [
      | inl e ↦
          let k : count n b ≡ 0 = omega (arith, h, one_here n y (sym e), count-append n ys b) in
          rw (test_yes y n e, holds_absent n b k) refl
      | inr f ↦ rw (test_no y n f) (before-with n c (y ∷ ys) b d (omega (arith, h)))
    ]

pub before-all_but : (n c : ℕ) (a b : List ℕ) → n ≢ c → count n (a ++ b) ≤ 1 → before n (a ++ b)
    ≡ cond (holds (head_of b) n) (last_of a) (before n (a ++ c ∷ b))
before-all_but n c [] [] d h = refl
before-all_but n c [] (y ∷ ys) d h =
    elim (cases_eq y n) [
      | inl e ↦ rw (test_yes y n e) (before_head n y ys e (omega (arith, h, one_here n y (sym e))))
      | inr f ↦ rw (test_no y n f) refl
    ]
  where
    before_head : (n y : ℕ) (ys : List ℕ) → y ≡ n → count n ys ≡ 0 → before n (y ∷ ys) ≡ None
    before_head n y ys e k = rw (holds_absent n ys k) (before_absent n ys k)
before-all_but n c (x ∷ []) b d h = rw (test_no c n (λ e. d (sym e))) (once (holds (head_of b) n))
  where
    once : (t : Bool) → cond t (Some x) (before n b) ≡ cond t (Some x)
        (cond t (Some c) (before n b))
    once true = refl
    once false = refl
before-all_but n c (x ∷ y ∷ ys) b d h =
    elim (cases_eq y n) [
      | inl e ↦
          let k : count n b ≡ 0 = omega (arith, h, one_here n y (sym e), count-append n ys b) in
          rw (test_yes y n e, holds_absent n b k) refl
      | inr f ↦ rw (test_no y n f) (before-all_but n c (y ∷ ys) b d (omega (arith, h)))
    ]
