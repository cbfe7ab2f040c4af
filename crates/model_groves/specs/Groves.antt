-- Looking into a grove and changing it, as the commands of DOM Level 1 Core do, on the groves of
-- PODS 2008.
use Rattle.std.specs.Prelude.{ℕ, zero, suc, pos, Bool, true, false, cond, ◌||◌}
use Rattle.std.proofs.Math.Decide.{ℕ_discrete}
use Rattle.model_shapes.specs.Values.{Value, null, node_number, list_number, int}
use Rattle.model_shapes.specs.Trees.{Trees, none, node, hole, beside, decided}

-- whether a decision says yes
abbrev pub is_yes {ℓ} : {A : Type ℓ} → Dec A → Bool
is_yes answer = decided answer true false

-- The nodes that pass a test of number, children and list number, in document order. Inside a node
-- that passes nothing is looked for.
abbrev pub nodes_where : (ℕ → Trees → ℕ → Bool) → Trees → Trees
nodes_where test none = none
nodes_where test (node name number kids list rest) =
    cond (test number kids list) (node name number kids list (nodes_where test rest))
    (beside (nodes_where test kids) (nodes_where test rest))
nodes_where test (hole rest) = nodes_where test rest

-- a root has the number
abbrev pub has_root : ℕ → Trees → Bool
has_root n none = false
has_root n (node name number kids list rest) = is_yes (ℕ_discrete n number) || has_root n rest
has_root n (hole rest) = has_root n rest

-- the tests: of the node number, of the list number, and of a child with the number
abbrev pub numbered : ℕ → ℕ → Trees → ℕ → Bool
numbered n number kids list = is_yes (ℕ_discrete n number)

-- the test of the list number
abbrev pub listed : ℕ → ℕ → Trees → ℕ → Bool
listed n number kids list = is_yes (ℕ_discrete n list)

-- the test of a child with the number
abbrev pub parental : ℕ → ℕ → Trees → ℕ → Bool
parental n number kids list = has_root n kids

-- the node, or the children list, that a value names; nothing for another value
abbrev pub node_at : Value → Trees → Trees
node_at (node_number n) grove = nodes_where (numbered n) grove
node_at v grove = none

-- the node whose children list a value names
abbrev pub list_at : Value → Trees → Trees
list_at (list_number n) grove = nodes_where (listed n) grove
list_at v grove = none

-- the number of the root at the place, counted from 0, or null
abbrev pub number_at : ℕ → Trees → Value
number_at n none = null
number_at zero (node name number kids list rest) = node_number number
number_at (suc n) (node name number kids list rest) = number_at n rest
number_at n (hole rest) = null

-- the number of the first root, or null
abbrev pub first_number : Trees → Value
first_number = number_at 0

-- the same, with the place as a value: null below 0
abbrev pub item_of : Value → Trees → Value
item_of (int (pos n)) kids = number_at n kids
item_of v kids = null

-- without the tree of the number
abbrev pub without : ℕ → Trees → Trees
without n none = none
without n (node name number kids list rest) =
    cond (is_yes (ℕ_discrete n number)) (without n rest)
    (node name number (without n kids) list (without n rest))
without n (hole rest) = hole (without n rest)

-- with these trees at the end of the children of the node with the number
abbrev pub adding : ℕ → Trees → Trees → Trees
adding n more none = none
adding n more (node name number kids list rest) =
    node name number (cond (is_yes (ℕ_discrete n number)) (beside (adding n more kids) more)
    (adding n more kids)) list (adding n more rest)
adding n more (hole rest) = hole (adding n more rest)

-- with these trees just before the tree of the number
abbrev pub adding_before : ℕ → Trees → Trees → Trees
adding_before n more none = none
adding_before n more (node name number kids list rest) =
    cond (is_yes (ℕ_discrete n number))
    (beside more (node name number (adding_before n more kids) list (adding_before n more rest)))
    (node name number (adding_before n more kids) list (adding_before n more rest))
adding_before n more (hole rest) = hole (adding_before n more rest)

-- the number isn't 0
abbrev pub positive : ℕ → Bool
positive zero = false
positive (suc n) = true
