-- The parts of a command: what stands in a part stands in the whole.
use Rattle.std.proofs.Common.{◌≡◌, List, [], ◌∷◌, ◌++◌, refl, sym, ap, ◌∙◌, subst, ◌⊎◌, inl, inr}
use Rattle.std.specs.Prelude.{Contains, flat_map}
use Rattle.std.proofs.lemmas.List.Elements.{Contains-append_left, Contains-append_right, Contains-append_cases}
use Rattle.model_commands.specs.Commands.{Command, skip, block, assign, create_node, node_name, child_nodes, parent_node, list_item, append_child, remove_child, insert_before, if_else, while_do, local, call, Block, stop, ◌then◌}
use Rattle.model_commands.specs.CommandParts.{commands_in, commands_of}
use Rattle.model_machine.specs.Parts.{blocks_of, parts_of}
use Rattle.model_machine.proofs.Members.{first-member, later-member, no-member, which-member, some-source, from-source}

-- COMMANDS IN COMMANDS: those below a command
abbrev below : Command → List Command
below (block b) = commands_of b
below (if_else c a b) = commands_of a ++ commands_of b
below (while_do c b) = commands_of b
below (local x b) = commands_of b
below command = []

-- a command is the first in itself
in-itself : (c : Command) → commands_in c ≡ c ∷ below c
in-itself skip = refl
in-itself (block b) = refl
in-itself (assign x t) = refl
in-itself (create_node x t) = refl
in-itself (node_name x t) = refl
in-itself (child_nodes x t) = refl
in-itself (parent_node x t) = refl
in-itself (list_item x t u) = refl
in-itself (append_child t u) = refl
in-itself (remove_child t u) = refl
in-itself (insert_before t u v) = refl
in-itself (if_else c a b) = refl
in-itself (while_do c b) = refl
in-itself (local x b) = refl
in-itself (call xs name es) = refl

pub itself : (c : Command) → Contains (commands_in c) c
itself c = subst (λ z. Contains z c) (sym (in-itself c)) (first-member c (below c))

-- each of these is one of those
abbrev Among : List Command → List Command → Type 0
Among these those = (x : Command) → Contains these x → Contains those x

-- what stands in a command that stands in another stands in that
abbrev Deep : List Command → Type 0
Deep those = (c : Command) → Contains those c → Among (commands_in c) those

deep-append : (xs ys : List Command) → Deep xs → Deep ys → Deep (xs ++ ys)
deep-append xs ys a b c h = by_side (Contains-append_cases xs ys c h)
  where
    by_side : Contains xs c ⊎ Contains ys c → Among (commands_in c) (xs ++ ys)
    by_side (inl h) x m = Contains-append_left xs ys x (a c h x m)
    by_side (inr h) x m = Contains-append_right xs ys x (b c h x m)

-- where it holds below the command
deep-below : (whole : Command) → Deep (below whole) → Deep (commands_in whole)
deep-below whole d = subst Deep (sym (in-itself whole)) deep
  where
    deep : Deep (whole ∷ below whole)
    deep c h = by_place (which-member whole (below whole) c h)
      where
        by_place : (whole ≡ c) ⊎ Contains (below whole) c
            → Among (commands_in c) (whole ∷ below whole)
        by_place (inl e) x m =
            subst (λ z. Contains z x) (ap commands_in (sym e) ∙ in-itself whole) m
        by_place (inr k) x m = later-member whole (below whole) x (d c k x m)

nothing-deep : Deep []
nothing-deep c h = absurd (no-member c h)

mutual
  deep-command : (whole : Command) → Deep (commands_in whole)
  deep-command (block b) = deep-below (block b) (deep-block b)
  deep-command (if_else c a b) =
      deep-below (if_else c a b) (deep-append (commands_of a) (commands_of b) (deep-block a)
      (deep-block b))
  deep-command (while_do c b) = deep-below (while_do c b) (deep-block b)
  deep-command (local x b) = deep-below (local x b) (deep-block b)
  deep-command skip = deep-below skip nothing-deep
  deep-command (assign x t) = deep-below (assign x t) nothing-deep
  deep-command (create_node x t) = deep-below (create_node x t) nothing-deep
  deep-command (node_name x t) = deep-below (node_name x t) nothing-deep
  deep-command (child_nodes x t) = deep-below (child_nodes x t) nothing-deep
  deep-command (parent_node x t) = deep-below (parent_node x t) nothing-deep
  deep-command (list_item x t u) = deep-below (list_item x t u) nothing-deep
  deep-command (append_child t u) = deep-below (append_child t u) nothing-deep
  deep-command (remove_child t u) = deep-below (remove_child t u) nothing-deep
  deep-command (insert_before t u v) = deep-below (insert_before t u v) nothing-deep
  deep-command (call xs name es) = deep-below (call xs name es) nothing-deep

  deep-block : (b : Block) → Deep (commands_of b)
  deep-block stop = nothing-deep
  deep-block (c then b) =
      deep-append (commands_in c) (commands_of b) (deep-command c) (deep-block b)

-- BLOCKS OF COMMANDS: a block of a command, all of which stands in the command
pub record OwnBlock (owner command : Command) : Type 0 where
  pub own : Block
  pub is : command ≡ block own
  pub inside : Among (commands_of own) (below owner)

-- the only one
only-block : (owner : Command) (b : Block) → Among (commands_of b) (below owner) → (c : Command)
    → Contains (block b ∷ []) c → OwnBlock owner c
only-block owner b inside c h = by_place (which-member (block b) [] c h)
  where
    by_place : (block b ≡ c) ⊎ Contains [] c → OwnBlock owner c
    by_place (inl e) = record { own = b; is = sym e; inside = inside }
    by_place (inr k) = absurd (no-member c k)

own-block : (owner c : Command) → Contains (blocks_of owner) c → OwnBlock owner c
own-block (if_else t a b) c h = by_side (Contains-append_cases (block a ∷ []) (block b ∷ []) c h)
  where
    owner : Command
    owner = if_else t a b

    by_side : Contains (block a ∷ []) c ⊎ Contains (block b ∷ []) c → OwnBlock owner c
    by_side (inl k) =
        only-block owner a (Contains-append_left (commands_of a) (commands_of b)) c k
    by_side (inr k) =
        only-block owner b (Contains-append_right (commands_of a) (commands_of b)) c k
own-block (while_do t b) c h = only-block (while_do t b) b (λ x m. m) c h
own-block (local x b) c h = only-block (local x b) b (λ x m. m) c h
own-block command c h = absurd (no-member c h)

-- a part is a command in the whole, or the block of one
abbrev BlockIn : Command → Command → Type 0
BlockIn whole c = (o : Command) × Contains (commands_in whole) o × OwnBlock o c

which-part : (whole c : Command) → Contains (parts_of whole) c
    → Contains (commands_in whole) c ⊎ BlockIn whole c
which-part whole c h =
    by_side (Contains-append_cases (commands_in whole) (flat_map blocks_of (commands_in whole)) c h)
  where
    by_side : Contains (commands_in whole) c ⊎ Contains (flat_map blocks_of (commands_in whole)) c
        → Contains (commands_in whole) c ⊎ BlockIn whole c
    by_side (inl k) = inl k
    by_side (inr k) =
        let from = some-source blocks_of (commands_in whole) c k in
        inr (from.0, from.1, own-block from.0 c from.2)

-- one that is no block is a command in the whole
pub no-block : (whole c : Command) → ((b : Block) → c ≡ block b → ⊥) → Contains (parts_of whole) c
    → Contains (commands_in whole) c
no-block whole c n h = by_kind (which-part whole c h)
  where
    by_kind : Contains (commands_in whole) c ⊎ BlockIn whole c → Contains (commands_in whole) c
    by_kind (inl k) = k
    by_kind (inr k) = let o = k.2 in absurd (n o.own o.is)

-- its blocks are parts
pub block-part : (whole c x : Command) → Contains (commands_in whole) c → Contains (blocks_of c) x
    → Contains (parts_of whole) x
block-part whole c x h m =
    Contains-append_right (commands_in whole) (flat_map blocks_of (commands_in whole)) x
    (from-source blocks_of (commands_in whole) c x h m)

-- each command in the whole is a part
pub command-part : (whole c : Command) → Contains (commands_in whole) c
    → Contains (parts_of whole) c
command-part whole c h =
    Contains-append_left (commands_in whole) (flat_map blocks_of (commands_in whole)) c h

-- the commands of a block that is a part stand in the whole
pub inside-block : (whole : Command) (b : Block) → Contains (parts_of whole) (block b)
    → (x : Command) → Contains (commands_of b) x → Contains (commands_in whole) x
inside-block whole b h x m = by_kind (which-part whole (block b) h)
  where
    by_kind : Contains (commands_in whole) (block b) ⊎ BlockIn whole (block b)
        → Contains (commands_in whole) x
    by_kind (inl k) =
        deep-command whole (block b) k x (later-member (block b) (commands_of b) x m)
    by_kind (inr k) =
        let o = k.2 in
        let o_is = o.is in
        let same : b ≡ o.own = cc in
        deep-command whole k.0 k.1 x (subst (λ z. Contains z x) (sym (in-itself k.0))
        (later-member k.0 (below k.0) x
        (o.inside x (subst (λ z. Contains (commands_of z) x) same m))))
