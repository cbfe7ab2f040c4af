-- A grove that is read tree by tree comes to be the whole.
use Rattle.std.proofs.Common.{◌≡◌, ◌≢◌, ℕ, ◌+◌, ◌*◌, ◌≤◌, Bool, true, false, cond, List, [], ◌∷◌, ◌++◌, Option, Some, None, refl, ap, ◌∙◌, arith}
use Rattle.std.proofs.Math.Decide.{ℕ_discrete}
use Rattle.model_shapes.specs.Trees.{Trees, none, node, hole, beside, node_uses, list_uses, one_if}
use Rattle.model_shapes.proofs.Basics.{beside-none, beside_assoc, node_uses-beside, list_uses-beside}
use Rattle.model_groves.specs.Groves.{is_yes, adding}
use Rattle.model_groves.proofs.Groves.{adding-beside, put-in}
use Rattle.model_groves.proofs.InContext.{adding-none}
use Rattle.model_heap.specs.Entries.{uses}
use Rattle.model_heap.specs.Growing.{Frame, putting, completing, Present, weight, weights}
use Rattle.model_heap.proofs.Moves.{one_here}
use Rattle.model_heap.proofs.Words.{decided_yes, decided_no, uses-are}

-- the last frame is put first
pub completing-last : (fs : List Frame) (f : Frame) (g : Trees)
    → completing (fs ++ f ∷ []) g ≡ completing fs (putting f.parent f.trees g)
completing-last [] f g = refl
completing-last (x ∷ fs) f g = ap (putting x.parent x.trees) (completing-last fs f g)

pub weights-last : (fs : List Frame) (f : Frame)
    → weights (fs ++ f ∷ []) ≡ weights fs + weight f.trees
weights-last [] f = omega arith
weights-last (x ∷ fs) f = omega (arith, weights-last fs f)

-- what is put adds up
module _ (f : Trees → ℕ)
    (puts : (p : ℕ) (t g : Trees) → f (adding p t g) ≡ f g + node_uses p g * f t)
    (adds : (a b : Trees) → f (beside a b) ≡ f a + f b)
  where
    putting_le : (q : Option ℕ) (t g : Trees) → f g ≤ f (putting q t g)
    putting_le None t g = omega (arith, adds g t)
    putting_le (Some p) t g = omega (arith, puts p t g)

    completing_le : (fs : List Frame) (g : Trees) → f g ≤ f (completing fs g)
    completing_le [] g = omega arith
    completing_le (x ∷ fs) g =
        omega (arith, completing_le fs g, putting_le x.parent x.trees (completing fs g))

    putting_is : (q : Option ℕ) (t g : Trees) → Present q g → f (putting q t g) ≡ f g + f t
    putting_is None t g h = adds g t
    putting_is (Some p) t g h = puts p t g ∙ ap (λ n. f g + n * f t) h ∙ one (f g) (f t)
      where
        one : (a b : ℕ) → a + 1 * b ≡ a + b
        one a b = omega arith

node_puts : (n p : ℕ) (t g : Trees)
    → node_uses n (adding p t g) ≡ node_uses n g + node_uses p g * node_uses n t
node_puts n =
    put-in (node_uses n) (λ i l. one_if (ℕ_discrete n i)) 0 refl (λ s i k l r. refl)
    (λ r. omega arith) (node_uses-beside n)

list_puts : (n p : ℕ) (t g : Trees)
    → list_uses n (adding p t g) ≡ list_uses n g + node_uses p g * list_uses n t
list_puts n =
    put-in (list_uses n) (λ i l. one_if (ℕ_discrete n l)) 0 refl (λ s i k l r. refl)
    (λ r. omega arith) (list_uses-beside n)

-- the node numbers of what stands and of what is put are among those of the whole
pub node_fits : (n : ℕ) (fs : List Frame) (q : Option ℕ) (t g : Trees) → Present q g
    → node_uses n g + node_uses n t ≤ node_uses n (completing fs (putting q t g))
node_fits n fs q t g h =
    omega (
      arith,
      putting_is (node_uses n) (node_puts n) (node_uses-beside n) q t g h,
      completing_le (node_uses n) (node_puts n) (node_uses-beside n) fs (putting q t g),
    )

pub list_fits : (n : ℕ) (fs : List Frame) (q : Option ℕ) (t g : Trees) → Present q g
    → list_uses n g + list_uses n t ≤ list_uses n (completing fs (putting q t g))
list_fits n fs q t g h =
    omega (
      arith,
      putting_is (list_uses n) (list_puts n) (list_uses-beside n) q t g h,
      completing_le (list_uses n) (list_puts n) (list_uses-beside n) fs (putting q t g),
    )

pub node_put : (n : ℕ) (q : Option ℕ) (t g : Trees) → Present q g
    → node_uses n (putting q t g) ≡ node_uses n g + node_uses n t
node_put n = putting_is (node_uses n) (node_puts n) (node_uses-beside n)

pub list_put : (n : ℕ) (q : Option ℕ) (t g : Trees) → Present q g
    → list_uses n (putting q t g) ≡ list_uses n g + list_uses n t
list_put n = putting_is (list_uses n) (list_puts n) (list_uses-beside n)

-- what is put into what was put
adding_in : (i : ℕ) (kids : Trees) (p : ℕ) (v g : Trees) → uses i g ≡ 0
    → adding i kids (adding p v g) ≡ adding p (adding i kids v) g
adding_in i kids p v none h = refl
adding_in i kids p v (node s j below l rest) h =
    let d : i ≢ j = λ e. absurd (omega (arith, h, one_here i j e)) in
    rw (decided_no i j d) (by_test (is_yes (ℕ_discrete p j))
    (adding_in i kids p v below (omega (arith, h)))
    (adding_in i kids p v rest (omega (arith, h))))
  where
    by_test : (b : Bool) → adding i kids (adding p v below) ≡ adding p (adding i kids v) below
        → adding i kids (adding p v rest) ≡ adding p (adding i kids v) rest
        → node s j (adding i kids (cond b (beside (adding p v below) v) (adding p v below))) l
        (adding i kids (adding p v rest))
        ≡ node s j (cond b (beside (adding p (adding i kids v) below) (adding i kids v))
        (adding p (adding i kids v) below)) l (adding p (adding i kids v) rest)
    by_test true x y = rw (adding-beside i kids (adding p v below) v, x, y) refl
    by_test false x y = rw (x, y) refl
adding_in i kids p v (hole rest) h = ap hole (adding_in i kids p v rest h)

-- what is put behind what was put
adding_twice : (p : ℕ) (u v g : Trees) → uses p u ≡ 0
    → adding p v (adding p u g) ≡ adding p (beside u v) g
adding_twice p u v none h = refl
adding_twice p u v (node s j below l rest) h =
    by_test (is_yes (ℕ_discrete p j)) (adding_twice p u v below h) (adding_twice p u v rest h)
    (adding-none p v u (uses-are p u ∙ h))
  where
    by_test : (b : Bool) → adding p v (adding p u below) ≡ adding p (beside u v) below
        → adding p v (adding p u rest) ≡ adding p (beside u v) rest → adding p v u ≡ u
        → node s j (cond b
        (beside (adding p v (cond b (beside (adding p u below) u) (adding p u below))) v)
        (adding p v (cond b (beside (adding p u below) u) (adding p u below)))) l
        (adding p v (adding p u rest))
        ≡ node s j (cond b (beside (adding p (beside u v) below) (beside u v))
        (adding p (beside u v) below)) l (adding p (beside u v) rest)
    by_test true x y z =
        rw (
          adding-beside p v (adding p u below) u,
          x,
          y,
          z,
          beside_assoc (adding p (beside u v) below) u v,
        ) refl
    by_test false x y z = rw (x, y) refl
adding_twice p u v (hole rest) h = ap hole (adding_twice p u v rest h)

own_kids : (s : List ℕ) (i : ℕ) (kids : Trees) (l : ℕ)
    → adding i kids (node s i none l none) ≡ node s i kids l none
own_kids s i kids l = rw (decided_yes i i refl) refl

-- A TURN: the first of the trees is put without its children, which come next
pub turned : (q : Option ℕ) (s : List ℕ) (i : ℕ) (kids : Trees) (l : ℕ) (others g : Trees)
    → uses i g ≡ 0 → ((p : ℕ) → q ≡ Some p → uses p (node s i kids l none) ≡ 0)
    → putting q others (adding i kids (putting q (node s i none l none) g))
    ≡ putting q (node s i kids l others) g
turned None s i kids l others g h apart =
    let none_there : adding i kids g ≡ g = adding-none i kids g (uses-are i g ∙ h) in
    rw (adding-beside i kids g (node s i none l none), none_there, own_kids s i kids l)
    (beside_assoc g (node s i kids l none) others)
turned (Some p) s i kids l others g h apart =
    rw (adding_in i kids p (node s i none l none) g h, own_kids s i kids l)
    (adding_twice p (node s i kids l none) others g (apart p refl))

-- nothing is put
pub adding_nothing : (p : ℕ) (g : Trees) → adding p none g ≡ g
adding_nothing p none = refl
adding_nothing p (node s i kids l rest) =
    by_test (is_yes (ℕ_discrete p i)) (adding_nothing p kids) (adding_nothing p rest)
  where
    by_test : (b : Bool) → adding p none kids ≡ kids → adding p none rest ≡ rest
        → node s i (cond b (beside (adding p none kids) none) (adding p none kids)) l
        (adding p none rest) ≡ node s i kids l rest
    by_test true x y = rw (x, y, beside-none kids) refl
    by_test false x y = rw (x, y) refl
adding_nothing p (hole rest) = ap hole (adding_nothing p rest)
