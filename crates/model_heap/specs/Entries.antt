-- Needn't be believed: the invariant of heaps and lemmas speak of it; the contracts of public calls
-- don't. What stands at each number of a grove, and the moves of trees.
use Rattle.std.specs.Prelude.{◌≡◌, ℕ, ◌+◌, ◌≤◌, ◌==◌, Bool, cond, List, [], ◌∷◌, ◌++◌, Option, Some, None, option_map}
use Rattle.std.specs.Option.{option_or}
use Rattle.model_heap.specs.Lists.{count}
use Rattle.model_shapes.specs.Trees.{Trees, none, node, hole, beside}

-- a node: its name, the number of its list, the number of its parent, and those of its children
pub record Entry : Type 0 where
  pub name : List ℕ
  pub list : ℕ
  pub parent : Option ℕ
  pub kids : List ℕ

-- the numbers of the roots
abbrev pub roots : Trees → List ℕ
roots none = []
roots (node name number kids list rest) = number ∷ roots rest
roots (hole rest) = roots rest

-- how often a number stands at a node
abbrev pub uses : ℕ → Trees → ℕ
uses n none = 0
uses n (node name number kids list rest) =
    cond (n == number) 1 0 + (uses n kids + uses n rest)
uses n (hole rest) = uses n rest

-- what stands at a number, where the roots have this parent
abbrev pub entry : Option ℕ → Trees → ℕ → Option Entry
entry p none n = None
entry p (node name number kids list rest) n =
    cond (n == number)
    (Some (record { name = name; list = list; parent = p; kids = roots kids }))
    (option_or (entry (Some number) kids n) (entry p rest n))
entry p (hole rest) n = entry p rest n

-- the tree of a number, as one root
abbrev pub tree_at : ℕ → Trees → Trees
tree_at c none = none
tree_at c (node name number kids list rest) =
    cond (c == number) (node name number kids list none)
    (beside (tree_at c kids) (tree_at c rest))
tree_at c (hole rest) = tree_at c rest

-- all but the tree of a number
abbrev pub all_but : ℕ → Trees → Trees
all_but c none = none
all_but c (node name number kids list rest) =
    cond (c == number) rest (node name number (all_but c kids) list (all_but c rest))
all_but c (hole rest) = hole (all_but c rest)

-- more roots at the end of a node's children
abbrev pub adopt : ℕ → Trees → Trees → Trees
adopt p more none = none
adopt p more (node name number kids list rest) =
    cond (p == number) (node name number (beside kids more) list rest)
    (node name number (adopt p more kids) list (adopt p more rest))
adopt p more (hole rest) = hole (adopt p more rest)

-- the tree of a number moved to the roots
abbrev pub removed : ℕ → Trees → Trees
removed c g = beside (all_but c g) (tree_at c g)

-- the tree of the second number moved to the end of the children of the first
abbrev pub appended : ℕ → ℕ → Trees → Trees
appended p c g = adopt p (tree_at c g) (all_but c g)

-- a list without the first place of a number
abbrev pub drop_from : ℕ → List ℕ → List ℕ
drop_from c [] = []
drop_from c (x ∷ xs) = cond (c == x) xs (x ∷ drop_from c xs)

-- what stands at each number
abbrev pub Rows : Type 0
Rows = ℕ → Option Entry

-- without a child
abbrev pub less_kid : ℕ → Entry → Entry
less_kid c e = record e { kids = drop_from c e.kids }

-- with another parent, or none
abbrev pub below : Option ℕ → Entry → Entry
below q e = record e { parent = q }

-- with more children, where the answer is yes
abbrev pub more_kids : Bool → List ℕ → Entry → Entry
more_kids b cs e = record e { kids = cond b (e.kids ++ cs) e.kids }

-- with its children changed, where the answer is yes
abbrev pub kids_by : Bool → (List ℕ → List ℕ) → Entry → Entry
kids_by b f e = record e { kids = cond b (f e.kids) e.kids }

-- a number that is a root comes into the row of `p`, which `f` extends
abbrev pub attached_by : (List ℕ → List ℕ) → ℕ → ℕ → Rows → Rows
attached_by f p c rows n =
    cond (n == c) (option_map (below (Some p)) (rows n))
    (option_map (kids_by (n == p) f) (rows n))

-- a number becomes a root
abbrev pub detached : ℕ → Rows → Rows
detached c rows n =
    cond (n == c) (option_map (below None) (rows n)) (option_map (less_kid c) (rows n))

-- a number that is a root comes to the end of the row of `p`
abbrev pub attached : ℕ → ℕ → Rows → Rows
attached p c = attached_by (λ xs. xs ++ c ∷ []) p c

-- what stands at each number of a grove
abbrev pub rows_of : Trees → Rows
rows_of g = entry None g

-- the children of what stands somewhere
abbrev pub kids_of : Option Entry → List ℕ
kids_of None = []
kids_of (Some e) = e.kids

-- its parent
abbrev pub parent_of : Option Entry → Option ℕ
parent_of None = None
parent_of (Some e) = e.parent

-- each child knows its parent, each parent its children, and no child stands twice
pub record Kin (rows : Rows) : Type 0 where
  pub up : (p x : ℕ) → 1 ≤ count x (kids_of (rows p)) → parent_of (rows x) ≡ Some p
  pub down : (p x : ℕ) → parent_of (rows x) ≡ Some p → 1 ≤ count x (kids_of (rows p))
  pub once : (p x : ℕ) → count x (kids_of (rows p)) ≤ 1

-- how many steps up a number has to a root
abbrev pub depth : ℕ → Trees → ℕ
depth n none = 0
depth n (node name number kids list rest) =
    cond (n == number) 0 (cond (uses n kids == 0) (depth n rest) (1 + depth n kids))
depth n (hole rest) = depth n rest

-- one more root
abbrev pub created : List ℕ → ℕ → ℕ → Trees → Trees
created name n list g = beside g (node name n none list none)

-- more roots before the tree of a number
abbrev pub inserted_at : ℕ → Trees → Trees → Trees
inserted_at w more none = none
inserted_at w more (node name number kids list rest) =
    cond (w == number) (beside more (node name number kids list rest))
    (node name number (inserted_at w more kids) list (inserted_at w more rest))
inserted_at w more (hole rest) = hole (inserted_at w more rest)

-- the tree of the second number moved to just before that of the first
abbrev pub inserted : ℕ → ℕ → Trees → Trees
inserted w c g = inserted_at w (tree_at c g) (all_but c g)

-- more numbers before the first place of a number
abbrev pub insert_in : ℕ → List ℕ → List ℕ → List ℕ
insert_in w cs [] = []
insert_in w cs (x ∷ xs) = cond (w == x) (cs ++ x ∷ xs) (x ∷ insert_in w cs xs)

-- with more children before one of them
abbrev pub into : ℕ → List ℕ → Entry → Entry
into w cs e = record e { kids = insert_in w cs e.kids }
