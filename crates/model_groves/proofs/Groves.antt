-- What is found in a grove, taken out of it and put into it.
use Rattle.std.proofs.Common.{◌≡◌, ℕ, zero, suc, ◌≤◌, ◌+◌, ◌*◌, sym, refl, ap, arith, ◌∙◌, subst, Bool, true, false, cond, ◌||◌, List}
use Rattle.std.proofs.Math.Decide.{ℕ_discrete}
use Rattle.model_shapes.specs.Trees.{Trees, none, node, hole, beside, width, root_uses, node_uses, list_uses, one_if}
use Rattle.model_shapes.specs.Shapes.{holes, SameAt}
use Rattle.model_shapes.specs.Sorts.{grove}
use Rattle.model_shapes.proofs.Basics.{beside_assoc, holes-beside, width-beside, node_uses-beside, list_uses-beside, root_uses-beside}
use Rattle.model_shapes.proofs.Sameness.{same-count}
use Rattle.model_groves.specs.Groves.{is_yes}
use Rattle.model_groves.proofs.Decided.{is-yes}
use Rattle.model_groves.specs.Groves.{nodes_where, has_root, numbered, listed, parental, without, adding, adding_before}

-- beside
pub those-beside : (t : ℕ → Trees → ℕ → Bool) (a b : Trees)
    → nodes_where t (beside a b) ≡ beside (nodes_where t a) (nodes_where t b)
those-beside t none b = refl
those-beside t (node s i k l r) b = by_test (t i k l) (those-beside t r b)
  where
    by_test : (c : Bool) → nodes_where t (beside r b) ≡ beside (nodes_where t r) (nodes_where t b)
        → cond c (node s i k l (nodes_where t (beside r b)))
        (beside (nodes_where t k) (nodes_where t (beside r b)))
        ≡ beside
        (cond c (node s i k l (nodes_where t r)) (beside (nodes_where t k) (nodes_where t r)))
        (nodes_where t b)
    by_test true e = ap (node s i k l) e
    by_test false e = ap (beside (nodes_where t k)) e
        ∙ sym (beside_assoc (nodes_where t k) (nodes_where t r) (nodes_where t b))
those-beside t (hole r) b = those-beside t r b

-- a tree is taken out of two lists one by one
pub without-beside : (n : ℕ) (a b : Trees)
    → without n (beside a b) ≡ beside (without n a) (without n b)
without-beside n none b = refl
without-beside n (node s i k l r) b = by_test (is_yes (ℕ_discrete n i)) (without-beside n r b)
  where
    by_test : (c : Bool) → without n (beside r b) ≡ beside (without n r) (without n b)
        → cond c (without n (beside r b)) (node s i (without n k) l (without n (beside r b)))
        ≡ beside (cond c (without n r) (node s i (without n k) l (without n r))) (without n b)
    by_test true e = e
    by_test false e = ap (node s i (without n k) l) e
without-beside n (hole r) b = ap hole (without-beside n r b)

-- and put into them one by one
pub adding-beside : (n : ℕ) (t a b : Trees)
    → adding n t (beside a b) ≡ beside (adding n t a) (adding n t b)
adding-beside n t none b = refl
adding-beside n t (node s i k l r) b =
    ap (node s i (cond (is_yes (ℕ_discrete n i)) (beside (adding n t k) t) (adding n t k)) l)
    (adding-beside n t r b)
adding-beside n t (hole r) b = ap hole (adding-beside n t r b)

-- or put before a tree of them
pub adding_before-beside : (n : ℕ) (t a b : Trees)
    → adding_before n t (beside a b) ≡ beside (adding_before n t a) (adding_before n t b)
adding_before-beside n t none b = refl
adding_before-beside n t (node s i k l r) b =
    by_test (is_yes (ℕ_discrete n i)) (adding_before-beside n t r b)
  where
    by_test : (c : Bool)
        → adding_before n t (beside r b) ≡ beside (adding_before n t r) (adding_before n t b)
        → cond c
        (beside t (node s i (adding_before n t k) l (adding_before n t (beside r b))))
        (node s i (adding_before n t k) l (adding_before n t (beside r b)))
        ≡ beside
        (cond c (beside t (node s i (adding_before n t k) l (adding_before n t r)))
        (node s i (adding_before n t k) l (adding_before n t r))) (adding_before n t b)
    by_test true e = ap (λ z. beside t (node s i (adding_before n t k) l z)) e
        ∙ sym (beside_assoc t (node s i (adding_before n t k) l (adding_before n t r))
        (adding_before n t b))
    by_test false e = ap (node s i (adding_before n t k) l) e
adding_before-beside n t (hole r) b = ap hole (adding_before-beside n t r b)

-- same groves
pub same-after : (T : Trees → Trees) → ((a b : Trees) → T (beside a b) ≡ beside (T a) (T b))
    → (g g' : Trees) → SameAt grove g g' → SameAt grove (T g) (T g')
same-after T adds g g' h =
    λ u. same-count (λ x. root_uses u (T x)) (λ a b. ap (root_uses u) (adds a b)
    ∙ root_uses-beside u (T a) (T b)) g g' h

-- how many are found
pub width-numbered : (n : ℕ) (g : Trees) → width (nodes_where (numbered n) g) ≤ node_uses n g
width-numbered n none = omega arith
width-numbered n (node s i k l r) =
    by_test (ℕ_discrete n i) (width-numbered n k) (width-numbered n r)
  where
    by_test : (d : Dec (n ≡ i)) → width (nodes_where (numbered n) k) ≤ node_uses n k
        → width (nodes_where (numbered n) r) ≤ node_uses n r
        → width (cond (is_yes d) (node s i k l (nodes_where (numbered n) r))
        (beside (nodes_where (numbered n) k) (nodes_where (numbered n) r))) ≤ one_if d +
        (node_uses n k + node_uses n r)
    by_test (yes e) a b = omega arith
    by_test (no m) a b =
        omega (arith, width-beside (nodes_where (numbered n) k) (nodes_where (numbered n) r))
width-numbered n (hole r) = width-numbered n r

-- at most one list has a number
pub width-listed : (n : ℕ) (g : Trees) → width (nodes_where (listed n) g) ≤ list_uses n g
width-listed n none = omega arith
width-listed n (node s i k l r) = by_test (ℕ_discrete n l) (width-listed n k) (width-listed n r)
  where
    by_test : (d : Dec (n ≡ l)) → width (nodes_where (listed n) k) ≤ list_uses n k
        → width (nodes_where (listed n) r) ≤ list_uses n r
        → width (cond (is_yes d) (node s i k l (nodes_where (listed n) r))
        (beside (nodes_where (listed n) k) (nodes_where (listed n) r))) ≤ one_if d +
        (list_uses n k + list_uses n r)
    by_test (yes e) a b = omega arith
    by_test (no m) a b =
        omega (arith, width-beside (nodes_where (listed n) k) (nodes_where (listed n) r))
width-listed n (hole r) = width-listed n r

-- one where the test says yes
abbrev pub bit : Bool → ℕ
bit true = 1
bit false = 0

-- at most one node is a parent, and none where the node is a root
pub width-parental : (n : ℕ) (g : Trees)
    → width (nodes_where (parental n) g) + bit (has_root n g) ≤ node_uses n g
width-parental n none = omega arith
width-parental n (node s i k l r) =
    by_test (ℕ_discrete n i) (has_root n k) (has_root n r) (width-parental n k) (width-parental n r)
  where
    by_test : (d : Dec (n ≡ i)) (x y : Bool)
        → width (nodes_where (parental n) k) + bit x ≤ node_uses n k
        → width (nodes_where (parental n) r) + bit y ≤ node_uses n r
        → width (cond x (node s i k l (nodes_where (parental n) r))
        (beside (nodes_where (parental n) k) (nodes_where (parental n) r))) + bit
        (is_yes d || y) ≤ one_if d + (node_uses n k + node_uses n r)
    by_test (yes e) true y a b = omega arith
    by_test (yes e) false y a b =
        omega (arith, width-beside (nodes_where (parental n) k) (nodes_where (parental n) r))
    by_test (no m) true y a b = omega arith
    by_test (no m) false y a b =
        omega (arith, width-beside (nodes_where (parental n) k) (nodes_where (parental n) r))
width-parental n (hole r) = width-parental n r

-- what is found passes the test
abbrev pub Roots : (ℕ → Trees → ℕ → Bool) → Trees → Type 0
Roots t none = Unit
Roots t (node s i k l r) = (t i k l ≡ true) × Roots t r
Roots t (hole r) = ⊥

Roots-beside : (t : ℕ → Trees → ℕ → Bool) (a b : Trees) → Roots t a → Roots t b
    → Roots t (beside a b)
Roots-beside t none b x y = y
Roots-beside t (node s i k l r) b x y = (x.0, Roots-beside t r b x.1 y)
Roots-beside t (hole r) b x y = x

-- of all that is found
pub those-pass : (t : ℕ → Trees → ℕ → Bool) (g : Trees) → Roots t (nodes_where t g)
those-pass t none = tt
those-pass t (node s i k l r) = by_test (t i k l) refl (those-pass t k) (those-pass t r)
  where
    by_test : (c : Bool) → t i k l ≡ c → Roots t (nodes_where t k) → Roots t (nodes_where t r)
        → Roots t
        (cond c (node s i k l (nodes_where t r)) (beside (nodes_where t k) (nodes_where t r)))
    by_test true e x y = (e, y)
    by_test false e x y = Roots-beside t (nodes_where t k) (nodes_where t r) x y
those-pass t (hole r) = those-pass t r

-- what is found by its number has it
pub found-number : (n : ℕ) (g : Trees) (s : List ℕ) (i : ℕ) (k : Trees) (l : ℕ) (r : Trees)
    → nodes_where (numbered n) g ≡ node s i k l r → n ≡ i
found-number n g s i k l r e = let x : Roots (numbered n) (node s i k l r) =
    subst (Roots (numbered n)) e (those-pass (numbered n) g) in is-yes (ℕ_discrete n i) x.0

-- COUNTS
module _ (f : Trees → ℕ) (c : ℕ → ℕ → ℕ) (d : ℕ)
    (at_none : f none ≡ 0)
    (at_node : (s : List ℕ) (i : ℕ) (k : Trees) (l : ℕ) (r : Trees)
    → f (node s i k l r) ≡ c i l + (f k + f r))
    (at_hole : (r : Trees) → f (hole r) ≡ d + f r)
    (adds : (a b : Trees) → f (beside a b) ≡ f a + f b)
  where
    -- what is taken out and what is left make the whole
    pub taken-out : (n : ℕ) (g : Trees) → f (without n g) + f (nodes_where (numbered n) g) ≡ f g
    taken-out n none = omega (arith, at_none)
    taken-out n (node s i k l r) = by_test (is_yes (ℕ_discrete n i)) (taken-out n k) (taken-out n r)
      where
        by_test : (b : Bool) → f (without n k) + f (nodes_where (numbered n) k) ≡ f k
            → f (without n r) + f (nodes_where (numbered n) r) ≡ f r
            → f (cond b (without n r) (node s i (without n k) l (without n r))) + f
            (cond b (node s i k l (nodes_where (numbered n) r))
            (beside (nodes_where (numbered n) k) (nodes_where (numbered n) r)))
            ≡ f (node s i k l r)
        by_test true x y =
            omega (arith, at_node s i k l (nodes_where (numbered n) r), at_node s i k l r)
        by_test false x y =
            omega (
              arith,
              at_node s i (without n k) l (without n r),
              adds (nodes_where (numbered n) k) (nodes_where (numbered n) r),
              at_node s i k l r,
            )
    taken-out n (hole r) = omega (arith, taken-out n r, at_hole (without n r), at_hole r)

    -- what is put in is added once for each node of the number
    pub put-in : (n : ℕ) (t g : Trees) → f (adding n t g) ≡ f g + node_uses n g * f t
    put-in n t none = omega (arith, at_none)
    put-in n t (node s i k l r) = by_test (ℕ_discrete n i) (put-in n t k) (put-in n t r)
      where
        by_test : (b : Dec (n ≡ i)) → f (adding n t k) ≡ f k + node_uses n k * f t
            → f (adding n t r) ≡ f r + node_uses n r * f t
            → f (node s i (cond (is_yes b) (beside (adding n t k) t) (adding n t k)) l
            (adding n t r))
            ≡ f (node s i k l r) + (one_if b + (node_uses n k + node_uses n r)) * f t
        by_test (yes e) x y =
            omega (
              arith,
              at_node s i (beside (adding n t k) t) l (adding n t r),
              adds (adding n t k) t,
              at_node s i k l r,
            )
        by_test (no m) x y =
            omega (arith, at_node s i (adding n t k) l (adding n t r), at_node s i k l r)
    put-in n t (hole r) = omega (arith, put-in n t r, at_hole (adding n t r), at_hole r)

    -- what is put before is added once for each node of the number
    pub put-before : (n : ℕ) (t g : Trees) → f (adding_before n t g) ≡ f g + node_uses n g * f t
    put-before n t none = omega (arith, at_none)
    put-before n t (node s i k l r) =
        by_test (ℕ_discrete n i) (put-before n t k) (put-before n t r)
      where
        behind : Trees
        behind = node s i (adding_before n t k) l (adding_before n t r)

        by_test : (b : Dec (n ≡ i)) → f (adding_before n t k) ≡ f k + node_uses n k * f t
            → f (adding_before n t r) ≡ f r + node_uses n r * f t
            → f (cond (is_yes b) (beside t behind) behind)
            ≡ f (node s i k l r) + (one_if b + (node_uses n k + node_uses n r)) * f t
        by_test (yes e) x y =
            omega (
              arith,
              at_node s i (adding_before n t k) l (adding_before n t r),
              adds t behind,
              at_node s i k l r,
            )
        by_test (no m) x y =
            omega (
              arith,
              at_node s i (adding_before n t k) l (adding_before n t r),
              at_node s i k l r,
            )
    put-before n t (hole r) =
        omega (arith, put-before n t r, at_hole (adding_before n t r), at_hole r)

    -- what is found counts no more than the whole
    pub those-le : (t : ℕ → Trees → ℕ → Bool) (g : Trees) → f (nodes_where t g) ≤ f g
    those-le t none = omega arith
    those-le t (node s i k l r) = by_test (t i k l) (those-le t k) (those-le t r)
      where
        by_test : (b : Bool) → f (nodes_where t k) ≤ f k → f (nodes_where t r) ≤ f r
            → f (cond b (node s i k l (nodes_where t r))
            (beside (nodes_where t k) (nodes_where t r))) ≤ f (node s i k l r)
        by_test true x y = omega (arith, at_node s i k l (nodes_where t r), at_node s i k l r)
        by_test false x y =
            omega (arith, adds (nodes_where t k) (nodes_where t r), at_node s i k l r)
    those-le t (hole r) = omega (arith, those-le t r, at_hole r)

    -- a tree that is moved counts no more than before
    pub moved-le : (i j : ℕ) (t g : Trees) → nodes_where (numbered j) g ≡ t
        → node_uses i (without j g) ≤ 1 → f (adding i t (without j g)) ≤ f g
    moved-le i j t g e u =
        by_uses (node_uses i (without j g)) u (put-in i t (without j g)) (ap f e) (taken-out j g)
      where
        by_uses : (m : ℕ) → m ≤ 1 → f (adding i t (without j g)) ≡ f (without j g) + m * f t
            → f (nodes_where (numbered j) g) ≡ f t
            → f (without j g) + f (nodes_where (numbered j) g) ≡ f g
            → f (adding i t (without j g)) ≤ f g
        by_uses zero le a b c' = omega arith
        by_uses (suc zero) le a b c' = omega arith
        by_uses (suc (suc m)) le a b c' = absurd (omega arith)

    -- nor where it is moved before another
    pub put-le : (i j : ℕ) (t g : Trees) → nodes_where (numbered j) g ≡ t
        → node_uses i (without j g) ≤ 1 → f (adding_before i t (without j g)) ≤ f g
    put-le i j t g e u =
        by_uses (node_uses i (without j g)) u (put-before i t (without j g)) (ap f e)
        (taken-out j g)
      where
        by_uses : (m : ℕ) → m ≤ 1
            → f (adding_before i t (without j g)) ≡ f (without j g) + m * f t
            → f (nodes_where (numbered j) g) ≡ f t
            → f (without j g) + f (nodes_where (numbered j) g) ≡ f g
            → f (adding_before i t (without j g)) ≤ f g
        by_uses zero le a b c' = omega arith
        by_uses (suc zero) le a b c' = omega arith
        by_uses (suc (suc m)) le a b c' = absurd (omega arith)

-- the three counts
pub node-taken-out : (m n : ℕ) (g : Trees)
    → node_uses m (without n g) + node_uses m (nodes_where (numbered n) g) ≡ node_uses m g
node-taken-out m =
    taken-out (node_uses m) (λ i l. one_if (ℕ_discrete m i)) 0 refl (λ s i k l r. refl)
    (λ r. omega arith) (node_uses-beside m)

-- of list numbers
pub list-taken-out : (m n : ℕ) (g : Trees)
    → list_uses m (without n g) + list_uses m (nodes_where (numbered n) g) ≡ list_uses m g
list-taken-out m =
    taken-out (list_uses m) (λ i l. one_if (ℕ_discrete m l)) 0 refl (λ s i k l r. refl)
    (λ r. omega arith) (list_uses-beside m)

-- of holes
pub holes-taken-out : (n : ℕ) (g : Trees)
    → holes (without n g) + holes (nodes_where (numbered n) g) ≡ holes g
holes-taken-out =
    taken-out holes (λ i l. 0) 1 refl (λ s i k l r. omega arith) (λ r. refl) holes-beside

-- of node numbers, when a tree is moved
pub node-moved-le : (m i j : ℕ) (t g : Trees) → nodes_where (numbered j) g ≡ t
    → node_uses i (without j g) ≤ 1 → node_uses m (adding i t (without j g)) ≤ node_uses m g
node-moved-le m =
    moved-le (node_uses m) (λ i l. one_if (ℕ_discrete m i)) 0 refl (λ s i k l r. refl)
    (λ r. omega arith) (node_uses-beside m)

-- of list numbers
pub list-moved-le : (m i j : ℕ) (t g : Trees) → nodes_where (numbered j) g ≡ t
    → node_uses i (without j g) ≤ 1 → list_uses m (adding i t (without j g)) ≤ list_uses m g
list-moved-le m =
    moved-le (list_uses m) (λ i l. one_if (ℕ_discrete m l)) 0 refl (λ s i k l r. refl)
    (λ r. omega arith) (list_uses-beside m)

-- of holes
pub holes-moved-le : (i j : ℕ) (t g : Trees) → nodes_where (numbered j) g ≡ t
    → node_uses i (without j g) ≤ 1 → holes (adding i t (without j g)) ≤ holes g
holes-moved-le =
    moved-le holes (λ i l. 0) 1 refl (λ s i k l r. omega arith) (λ r. refl) holes-beside

-- the three counts, when a tree is moved before another
pub node-put-le : (m i j : ℕ) (t g : Trees) → nodes_where (numbered j) g ≡ t
    → node_uses i (without j g) ≤ 1 → node_uses m (adding_before i t (without j g)) ≤ node_uses m g
node-put-le m =
    put-le (node_uses m) (λ i l. one_if (ℕ_discrete m i)) 0 refl (λ s i k l r. refl)
    (λ r. omega arith) (node_uses-beside m)

-- of list numbers
pub list-put-le : (m i j : ℕ) (t g : Trees) → nodes_where (numbered j) g ≡ t
    → node_uses i (without j g) ≤ 1 → list_uses m (adding_before i t (without j g)) ≤ list_uses m g
list-put-le m =
    put-le (list_uses m) (λ i l. one_if (ℕ_discrete m l)) 0 refl (λ s i k l r. refl)
    (λ r. omega arith) (list_uses-beside m)

-- of holes
pub holes-put-le : (i j : ℕ) (t g : Trees) → nodes_where (numbered j) g ≡ t
    → node_uses i (without j g) ≤ 1 → holes (adding_before i t (without j g)) ≤ holes g
holes-put-le =
    put-le holes (λ i l. 0) 1 refl (λ s i k l r. omega arith) (λ r. refl) holes-beside

-- of node numbers, in what is found
pub node-those-le : (m : ℕ) (t : ℕ → Trees → ℕ → Bool) (g : Trees)
    → node_uses m (nodes_where t g) ≤ node_uses m g
node-those-le m =
    those-le (node_uses m) (λ i l. one_if (ℕ_discrete m i)) 0 refl (λ s i k l r. refl)
    (λ r. omega arith) (node_uses-beside m)

-- of list numbers
pub list-those-le : (m : ℕ) (t : ℕ → Trees → ℕ → Bool) (g : Trees)
    → list_uses m (nodes_where t g) ≤ list_uses m g
list-those-le m =
    those-le (list_uses m) (λ i l. one_if (ℕ_discrete m l)) 0 refl (λ s i k l r. refl)
    (λ r. omega arith) (list_uses-beside m)
