-- What is found and changed in a grove that is data in a context.
use Rattle.std.proofs.Common.{◌≡◌, ℕ, zero, suc, ◌≤◌, ◌+◌, ◌*◌, List, refl, ap, arith, ◌∙◌, Bool, true, false, cond, ◌||◌}
use Rattle.std.proofs.Math.Decide.{ℕ_discrete}
use Rattle.model_shapes.specs.Trees.{Trees, none, node, hole, beside, fill, node_uses, list_uses, one_if, WellFormed}
use Rattle.model_shapes.specs.Shapes.{holes}
use Rattle.model_shapes.proofs.Basics.{beside-none, beside_assoc, node_uses-fill, list_uses-fill}
use Rattle.model_groves.specs.Groves.{is_yes}
use Rattle.model_groves.specs.Groves.{nodes_where, has_root, numbered, listed, parental, without, adding, adding_before}
use Rattle.model_groves.proofs.Groves.{those-beside, without-beside, adding-beside, adding_before-beside}

-- the same list, so many times
abbrev pub copies : ℕ → Trees → Trees
copies zero a = none
copies (suc n) a = beside a (copies n a)

copies-add : (m n : ℕ) (a : Trees) → beside (copies m a) (copies n a) ≡ copies (m + n) a
copies-add zero n a = λ i. copies (let e : n ≡ 0 + n = omega arith in e i) a
copies-add (suc m) n a = beside_assoc a (copies m a) (copies n a)
    ∙ ap (beside a) (copies-add m n a)
    ∙ ap (λ z. copies z a) (let e : suc (m + n) ≡ suc m + n = omega arith in e)

-- no node of the context passes the test, whatever stands in the hole
module _ (t : ℕ → Trees → ℕ → Bool) (Out : Trees → Type 0) (d : Trees)
    (kids-out : (s : List ℕ) (i : ℕ) (k : Trees) (l : ℕ) (r : Trees) → Out (node s i k l r) → Out k)
    (rest-out : (s : List ℕ) (i : ℕ) (k : Trees) (l : ℕ) (r : Trees) → Out (node s i k l r) → Out r)
    (hole-out : (r : Trees) → Out (hole r) → Out r)
    (fails : (s : List ℕ) (i : ℕ) (k : Trees) (l : ℕ) (r : Trees) → Out (node s i k l r)
    → t i (fill k d) l ≡ false)
  where
    -- what is found in a context is found in its piece
    pub those-fill : (c : Trees) → Out c
        → nodes_where t (fill c d) ≡ copies (holes c) (nodes_where t d)
    those-fill none o = refl
    those-fill (node s i k l r) o =
        ap (λ b. cond b (node s i (fill k d) l (nodes_where t (fill r d)))
        (beside (nodes_where t (fill k d)) (nodes_where t (fill r d)))) (fails s i k l r o)
        ∙ (λ j. beside (those-fill k (kids-out s i k l r o) j)
        (those-fill r (rest-out s i k l r o) j))
        ∙ copies-add (holes k) (holes r) (nodes_where t d)
    those-fill (hole r) o =
        those-beside t d (fill r d) ∙ ap (beside (nodes_where t d)) (those-fill r (hole-out r o))
        ∙ ap (λ z. copies z (nodes_where t d))
        (let e : suc (holes r) ≡ 1 + holes r = omega arith in e)

-- once
pub copies-one : (n : ℕ) (a : Trees) → n ≡ 1 → copies n a ≡ a
copies-one n a e = ap (λ z. copies z a) e ∙ beside-none a

-- a number that a node doesn't have
pub not-here : (n i : ℕ) → one_if (ℕ_discrete n i) ≡ 0 → is_yes (ℕ_discrete n i) ≡ false
not-here n i = by_test (ℕ_discrete n i)
  where
    by_test : {A : Type 0} (d : Dec A) → one_if d ≡ 0 → is_yes d ≡ false
    by_test (yes a) e = absurd (omega arith)
    by_test (no m) e = refl

module _ (n : ℕ) (d : Trees) where
  -- a node by its number
  pub numbered-fill : (c : Trees) → node_uses n c ≡ 0 → nodes_where (numbered n) (fill c d)
      ≡ copies (holes c) (nodes_where (numbered n) d)
  numbered-fill = those-fill (numbered n) (λ c. node_uses n c ≡ 0) d
      (λ s i k l r o. omega arith) (λ s i k l r o. omega arith) (λ r o. o)
      (λ s i k l r o. not-here n i (omega arith))

  -- a node by its list number
  pub listed-fill : (c : Trees) → list_uses n c ≡ 0
      → nodes_where (listed n) (fill c d) ≡ copies (holes c) (nodes_where (listed n) d)
  listed-fill = those-fill (listed n) (λ c. list_uses n c ≡ 0) d
      (λ s i k l r o. omega arith) (λ s i k l r o. omega arith) (λ r o. o)
      (λ s i k l r o. not-here n l (omega arith))

  has_root-beside : (a b : Trees) → has_root n a ≡ false → has_root n b ≡ false
      → has_root n (beside a b) ≡ false
  has_root-beside none b x y = y
  has_root-beside (hole r) b x y = has_root-beside r b x y
  has_root-beside (node s i k l r) b x y =
      by_test (is_yes (ℕ_discrete n i)) x (λ z. has_root-beside r b z y)
    where
      by_test : (q : Bool) → (q || has_root n r) ≡ false
          → (has_root n r ≡ false → has_root n (beside r b) ≡ false)
          → (q || has_root n (beside r b)) ≡ false
      by_test true e rec = e
      by_test false e rec = rec e

  has_root-fill : has_root n d ≡ false → (c : Trees) → node_uses n c ≡ 0
      → has_root n (fill c d) ≡ false
  has_root-fill h none o = refl
  has_root-fill h (node s i k l r) o =
      ap (λ q. q || has_root n (fill r d)) (not-here n i (omega arith))
      ∙ has_root-fill h r (omega arith)
  has_root-fill h (hole r) o = has_root-beside d (fill r d) h (has_root-fill h r o)

  -- a node by a child
  pub parental-fill : has_root n d ≡ false → (c : Trees) → node_uses n c ≡ 0
      → nodes_where (parental n) (fill c d) ≡ copies (holes c) (nodes_where (parental n) d)
  parental-fill h = those-fill (parental n) (λ c. node_uses n c ≡ 0) d
      (λ s i k l r o. omega arith) (λ s i k l r o. omega arith) (λ r o. o)
      (λ s i k l r o. has_root-fill h k (omega arith))

  -- a tree of the data is taken out of the data
  pub without-fill : (c : Trees) → node_uses n c ≡ 0 → without n (fill c d) ≡ fill c (without n d)
  without-fill none o = refl
  without-fill (node s i k l r) o =
      ap (λ b.
      cond b (without n (fill r d)) (node s i (without n (fill k d)) l (without n (fill r d))))
      (not-here n i (omega arith))
      ∙ (λ j. node s i (without-fill k (omega arith) j) l (without-fill r (omega arith) j))
  without-fill (hole r) o =
      without-beside n d (fill r d) ∙ ap (beside (without n d)) (without-fill r o)

  -- and what is added to a node of the data is added in the data
  pub adding-fill : (t c : Trees) → node_uses n c ≡ 0
      → adding n t (fill c d) ≡ fill c (adding n t d)
  adding-fill t none o = refl
  adding-fill t (node s i k l r) o =
      ap (λ b. node s i (cond b (beside (adding n t (fill k d)) t) (adding n t (fill k d))) l
      (adding n t (fill r d))) (not-here n i (omega arith))
      ∙ (λ j. node s i (adding-fill t k (omega arith) j) l (adding-fill t r (omega arith) j))
  adding-fill t (hole r) o =
      adding-beside n t d (fill r d) ∙ ap (beside (adding n t d)) (adding-fill t r o)

  -- and what is put before a tree of the data
  pub adding_before-fill : (t c : Trees) → node_uses n c ≡ 0
      → adding_before n t (fill c d) ≡ fill c (adding_before n t d)
  adding_before-fill t none o = refl
  adding_before-fill t (node s i k l r) o =
      ap (λ b. cond b
      (beside t (node s i (adding_before n t (fill k d)) l (adding_before n t (fill r d))))
      (node s i (adding_before n t (fill k d)) l (adding_before n t (fill r d))))
      (not-here n i (omega arith))
      ∙ (λ j. node s i (adding_before-fill t k (omega arith) j) l
      (adding_before-fill t r (omega arith) j))
  adding_before-fill t (hole r) o =
      adding_before-beside n t d (fill r d)
      ∙ ap (beside (adding_before n t d)) (adding_before-fill t r o)

-- the number stands nowhere
pub without-none : (n : ℕ) (a : Trees) → node_uses n a ≡ 0 → without n a ≡ a
without-none n none o = refl
without-none n (node s i k l r) o =
    ap (λ b. cond b (without n r) (node s i (without n k) l (without n r)))
    (not-here n i (omega arith))
    ∙ (λ j. node s i (without-none n k (omega arith) j) l (without-none n r (omega arith) j))
without-none n (hole r) o = ap hole (without-none n r o)

-- nothing is added to a node that isn't there
pub adding-none : (n : ℕ) (t a : Trees) → node_uses n a ≡ 0 → adding n t a ≡ a
adding-none n t none o = refl
adding-none n t (node s i k l r) o =
    ap (λ b. node s i (cond b (beside (adding n t k) t) (adding n t k)) l (adding n t r))
    (not-here n i (omega arith))
    ∙ (λ j. node s i (adding-none n t k (omega arith) j) l (adding-none n t r (omega arith) j))
adding-none n t (hole r) o = ap hole (adding-none n t r o)

-- nor put before one that isn't there
pub adding_before-none : (n : ℕ) (t a : Trees) → node_uses n a ≡ 0 → adding_before n t a ≡ a
adding_before-none n t none o = refl
adding_before-none n t (node s i k l r) o =
    ap (λ b. cond b (beside t (node s i (adding_before n t k) l (adding_before n t r)))
    (node s i (adding_before n t k) l (adding_before n t r))) (not-here n i (omega arith))
    ∙ (λ j. node s i (adding_before-none n t k (omega arith) j) l
    (adding_before-none n t r (omega arith) j))
adding_before-none n t (hole r) o = ap hole (adding_before-none n t r o)

-- the context has none of the numbers of the data
pub context-apart : (n : ℕ) (c d : Trees) → holes c ≡ 1 → WellFormed (fill c d) → 1 ≤ node_uses n d
    → node_uses n c ≡ 0
context-apart n c d o w h =
    omega (arith, node_uses-fill n c d, w.nodes_once n, ap (λ z. z * node_uses n d) o)

-- nor any of its list numbers
pub context-lists-apart : (n : ℕ) (c d : Trees) → holes c ≡ 1 → WellFormed (fill c d)
    → 1 ≤ list_uses n d → list_uses n c ≡ 0
context-lists-apart n c d o w h =
    omega (arith, list_uses-fill n c d, w.lists_once n, ap (λ z. z * list_uses n d) o)

-- a node of the data is found in the data
pub found-inside : (n : ℕ) (c d : Trees) → holes c ≡ 1 → WellFormed (fill c d)
    → 1 ≤ node_uses n d → nodes_where (numbered n) (fill c d) ≡ nodes_where (numbered n) d
found-inside n c d o w h =
    numbered-fill n d c (context-apart n c d o w h)
    ∙ copies-one (holes c) (nodes_where (numbered n) d) o

-- it is taken out of the data
pub without-inside : (n : ℕ) (c d : Trees) → holes c ≡ 1 → WellFormed (fill c d)
    → 1 ≤ node_uses n d → without n (fill c d) ≡ fill c (without n d)
without-inside n c d o w h = without-fill n d c (context-apart n c d o w h)

-- and what is added to it is added in the data
pub adding-inside : (n : ℕ) (t c d : Trees) → holes c ≡ 1 → WellFormed (fill c d)
    → 1 ≤ node_uses n d → adding n t (fill c d) ≡ fill c (adding n t d)
adding-inside n t c d o w h = adding-fill n d t c (context-apart n c d o w h)

-- and what is put before it is put there in the data
pub adding_before-inside : (n : ℕ) (t c d : Trees) → holes c ≡ 1 → WellFormed (fill c d)
    → 1 ≤ node_uses n d → adding_before n t (fill c d) ≡ fill c (adding_before n t d)
adding_before-inside n t c d o w h = adding_before-fill n d t c (context-apart n c d o w h)
