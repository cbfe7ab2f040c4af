-- Needn't be believed: the contract of the call that answers it speaks of equality. Equality of
-- commands as a test that computes.
use Rattle.std.specs.Prelude.{Bool, true, false, ◌&&◌, List, [], ◌∷◌, bytes_eq}
use Rattle.model_terms.specs.Terms.{Term}
use Rattle.model_formulas.specs.SameFormulas.{same_term}
use Rattle.model_terms.specs.Stores.{ProgVar, same_name}
use Rattle.model_terms.specs.Conditions.{Cond, cond_true, cond_false, cond_variable, cond_equal, cond_at_most, cond_not, cond_and, cond_or}
use Rattle.model_commands.specs.Commands.{Command, skip, block, assign, create_node, node_name, child_nodes, parent_node, list_item, append_child, remove_child, insert_before, if_else, while_do, local, call, Block, stop, ◌then◌}

-- of lists of terms
abbrev pub same_terms : List Term → List Term → Bool
same_terms [] [] = true
same_terms (t ∷ ts) (u ∷ us) = same_term t u && same_terms ts us
same_terms ts us = false

-- of lists of program variables
abbrev pub same_vars : List ProgVar → List ProgVar → Bool
same_vars [] [] = true
same_vars (x ∷ xs) (y ∷ ys) = same_name x y && same_vars xs ys
same_vars xs ys = false

-- of conditions
abbrev pub same_cond : Cond → Cond → Bool
same_cond cond_true cond_true = true
same_cond cond_false cond_false = true
same_cond (cond_variable x) (cond_variable y) = same_name x y
same_cond (cond_equal a b) (cond_equal c d) = same_term a c && same_term b d
same_cond (cond_at_most a b) (cond_at_most c d) = same_term a c && same_term b d
same_cond (cond_not a) (cond_not b) = same_cond a b
same_cond (cond_and a b) (cond_and c d) = same_cond a c && same_cond b d
same_cond (cond_or a b) (cond_or c d) = same_cond a c && same_cond b d
same_cond a b = false

-- of commands and blocks
abbrev mutual
  pub same_command : Command → Command → Bool
  same_command skip skip = true
  same_command (block a) (block b) = same_block a b
  same_command (assign x t) (assign y u) = same_name x y && same_term t u
  same_command (create_node x t) (create_node y u) = same_name x y && same_term t u
  same_command (node_name x t) (node_name y u) = same_name x y && same_term t u
  same_command (child_nodes x t) (child_nodes y u) = same_name x y && same_term t u
  same_command (parent_node x t) (parent_node y u) = same_name x y && same_term t u
  same_command (list_item x t i) (list_item y u j) =
      same_name x y && (same_term t u && same_term i j)
  same_command (append_child t i) (append_child u j) = same_term t u && same_term i j
  same_command (remove_child t i) (remove_child u j) = same_term t u && same_term i j
  same_command (insert_before t i o) (insert_before u j q) =
      same_term t u && (same_term i j && same_term o q)
  same_command (if_else c a b) (if_else d a' b') =
      same_cond c d && (same_block a a' && same_block b b')
  same_command (while_do c a) (while_do d b) = same_cond c d && same_block a b
  same_command (local x a) (local y b) = same_name x y && same_block a b
  same_command (call xs f ts) (call ys g us) =
      same_vars xs ys && (bytes_eq f g && same_terms ts us)
  same_command c d = false

  pub same_block : Block → Block → Bool
  same_block stop stop = true
  same_block (c then a) (d then b) = same_command c d && same_block a b
  same_block a b = false
