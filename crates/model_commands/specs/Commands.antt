-- Commands: those of PODS 2008, named as in DOM Level 1 Core, with blocks, choice, loops, local
-- variables and calls; and the variables that a command changes.
use Rattle.std.specs.Prelude.{◌≡◌, ◌≢◌, ◌⊎◌, List, [], ◌∷◌}
use Rattle.model_shapes.specs.Values.{Name}
use Rattle.model_terms.specs.Terms.{Term}
use Rattle.model_terms.specs.Stores.{ProgVar}
use Rattle.model_terms.specs.Conditions.{Cond}

mutual
  pub data Command : Type 0 where
    skip : Command
    block : Block → Command
    assign : ProgVar → Term → Command
    create_node node_name child_nodes parent_node : ProgVar → Term → Command
    list_item : ProgVar → Term → Term → Command
    append_child remove_child : Term → Term → Command
    insert_before : Term → Term → Term → Command
    if_else : Cond → Block → Block → Command
    while_do : Cond → Block → Command
    local : ProgVar → Block → Command
    -- the variables that take the results, the procedure's name, and the arguments
    call : List ProgVar → Name → List Term → Command

  pub data Block : Type 0 where
    stop : Block
    ◌then◌ : Command → Block → Block

infixr 20 ◌then◌
-- the variable is one of these
abbrev pub Among : List ProgVar → ProgVar → Type 0
Among [] x = ⊥
Among (y ∷ ys) x = (x ≡ y) ⊎ Among ys x

-- The command changes the variable: it assigns it or takes a result in it. A local variable of a
-- block isn't changed by it.
abbrev mutual
  pub Modifies : Command → ProgVar → Type 0
  Modifies (block b) x = BlockModifies b x
  Modifies (assign y e) x = x ≡ y
  Modifies (create_node y e) x = x ≡ y
  Modifies (node_name y e) x = x ≡ y
  Modifies (child_nodes y e) x = x ≡ y
  Modifies (parent_node y e) x = x ≡ y
  Modifies (list_item y e f) x = x ≡ y
  Modifies (if_else c a b) x = BlockModifies a x ⊎ BlockModifies b x
  Modifies (while_do c b) x = BlockModifies b x
  Modifies (local y b) x = (x ≢ y) × BlockModifies b x
  Modifies (call results name arguments) x = Among results x
  Modifies command x = ⊥

  pub BlockModifies : Block → ProgVar → Type 0
  BlockModifies stop x = ⊥
  BlockModifies (c then b) x = Modifies c x ⊎ BlockModifies b x
