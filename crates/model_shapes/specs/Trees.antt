-- Trees, forests and groves, with or without holes, as one type: the first root and those after it.
-- The trees are those of PODS 2008; a hole and its filling are those of POPL 2005.
use Rattle.std.specs.Prelude.{◌≡◌, ℕ, ◌+◌, ◌≤◌}
use Rattle.std.proofs.Math.Decide.{ℕ_discrete}
use mathlib.Core.HLevel.{Discrete}
use Rattle.model_shapes.specs.Values.{Name}
use Rattle.model_shapes.specs.Tests.{text_eq}

-- A list of roots. A node has its name, its node number, its children, its list number and the
-- roots that follow it; a hole has the roots that follow it.
pub data Trees : Type 0 where
  none : Trees
  node : Name → ℕ → Trees → ℕ → Trees → Trees
  hole : Trees → Trees
  deriving Discrete as Trees-discrete

-- lists of roots are equal or not
pub trees_eq : Discrete Trees
trees_eq = Trees-discrete text_eq ℕ_discrete

-- one list of roots followed by another
abbrev pub beside : Trees → Trees → Trees
beside none after = after
beside (node name number kids list rest) after = node name number kids list (beside rest after)
beside (hole rest) after = hole (beside rest after)

-- a context with this in place of its hole; the same function composes two contexts
abbrev pub fill : Trees → Trees → Trees
fill none piece = none
fill (node name number kids list rest) piece =
    node name number (fill kids piece) list (fill rest piece)
fill (hole rest) piece = beside piece (fill rest piece)

-- how many roots there are
abbrev pub width : Trees → ℕ
width none = 0
width (node name number kids list rest) = 1 + width rest
width (hole rest) = 1 + width rest

-- the first of two where the answer is yes, and else the second
abbrev pub decided {ℓ} : {A : Type ℓ} {B : Type 0} → Dec A → B → B → B
decided (yes a) first second = first
decided (no a) first second = second

-- one where the answer is yes
abbrev pub one_if {ℓ} : {A : Type ℓ} → Dec A → ℕ
one_if answer = decided answer 1 0

-- What all nodes come to, joined in this way, where each gives a number from its node number and
-- its list number.
module _ (join : ℕ → ℕ → ℕ) (from : ℕ → ℕ → ℕ) where
  abbrev pub of_nodes : Trees → ℕ
  of_nodes none = 0
  of_nodes (node name number kids list rest) =
      join (from number list) (join (of_nodes kids) (of_nodes rest))
  of_nodes (hole rest) = of_nodes rest

-- how often a number is the number of a node
abbrev pub node_uses : ℕ → Trees → ℕ
node_uses n = of_nodes ◌+◌ (λ number list. one_if (ℕ_discrete n number))

-- how often a number is the number of a children list
abbrev pub list_uses : ℕ → Trees → ℕ
list_uses n = of_nodes ◌+◌ (λ number list. one_if (ℕ_discrete n list))

-- how often a tree stands among the roots
abbrev pub root_uses : Trees → Trees → ℕ
root_uses tree none = 0
root_uses tree (node name number kids list rest) =
    one_if (trees_eq tree (node name number kids list none)) + root_uses tree rest
root_uses tree (hole rest) = one_if (trees_eq tree (hole none)) + root_uses tree rest

-- no number is 0, and no number of one kind stands twice
pub record WellFormed (trees : Trees) : Type 0 where
  pub nodes_once : (n : ℕ) → node_uses n trees ≤ 1
  pub lists_once : (n : ℕ) → list_uses n trees ≤ 1
  pub no_node_zero : node_uses 0 trees ≡ 0
  pub no_list_zero : list_uses 0 trees ≡ 0
