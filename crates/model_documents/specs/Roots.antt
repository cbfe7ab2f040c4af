-- The order of the roots in which a grove is printed.
use Rattle.std.specs.Prelude.{ℕ, ◌≤◌, nat_le, cond, List}
use Rattle.model_shapes.specs.Trees.{Trees, none, node, hole}

-- a root put before the first of the others that has no smaller number
abbrev pub root_put : List ℕ → ℕ → Trees → ℕ → Trees → Trees
root_put name number kids list none = node name number kids list none
root_put name number kids list (node other_name other other_kids other_list rest) =
    cond (nat_le number other)
    (node name number kids list (node other_name other other_kids other_list rest))
    (node other_name other other_kids other_list (root_put name number kids list rest))
root_put name number kids list (hole rest) = hole (root_put name number kids list rest)

-- the same roots by rising node number
abbrev pub sorted_roots : Trees → Trees
sorted_roots none = none
sorted_roots (node name number kids list rest) =
    root_put name number kids list (sorted_roots rest)
sorted_roots (hole rest) = hole (sorted_roots rest)

-- no root has a smaller number than this
abbrev pub FromNumber : ℕ → Trees → Type 0
FromNumber n none = Unit
FromNumber n (node name number kids list rest) = (n ≤ number) × FromNumber n rest
FromNumber n (hole rest) = FromNumber n rest

-- the roots stand by rising number
abbrev pub Rising : Trees → Type 0
Rising none = Unit
Rising (node name number kids list rest) = FromNumber number rest × Rising rest
Rising (hole rest) = Rising rest
