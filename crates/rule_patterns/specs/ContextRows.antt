-- Needn't be believed: the rules of contexts and variables as patterns.
use Rattle.std.specs.Prelude.{List, [], ◌∷◌, ◌++◌, map}
use Rattle.rule_patterns.specs.Letter.{K', P'}
use Rattle.rule_patterns.specs.Patterns.{sort_of_x, data_sort, context_sort, either_sort, FormulaPattern, exists_p, bare_hole_p, tree_p, root_p, application_p, context_adjoint_p, not_free_p, x_of_sort_p, LinePattern}
use Rattle.rule_patterns.specs.Rows.{P, Q, K, H, s, h, k, j, a_forest, a_grove, at_forest, at_grove, ◌and◌, ◌or◌, ◌∗◌, ◌·∗◌, ◌∗·◌, ◌⊹◌, ◌·⊹◌, ◌⊸◌, $x, x_is, one_node, ◌⊢◌, ◌at◌, ◌⟹◌, always, ◌⊣⊢◌, ◌provided◌, ◌given◌, reads, both_ways}

-- (p @h q)
abbrev ◌over◌ : FormulaPattern → FormulaPattern → FormulaPattern
p over q = application_p h p q

infix 70 ◌over◌
-- both ways, in the order of the table
abbrev put_in : List (List LinePattern)
put_in =
    -- hole_left, hole_right
    both_ways ((bare_hole_p h over P ⊣⊢ P at either_sort h) ∷ []) ++
    both_ways ((K over bare_hole_p h ⊣⊢ K at context_sort h k) ∷ []) ++
    -- app_assoc, app_node, app_tree, app_root
    both_ways ((application_p j (K over H) P ⊣⊢ K over application_p j H P at s) ∷ []) ++
    both_ways ((one_node K over P ⊣⊢ one_node (K over P) at s) ∷ []) ++
    both_ways ((tree_p K over P ⊣⊢ tree_p (K over P) at s) ∷ []) ++
    both_ways ((root_p K over P ⊣⊢ root_p (K over P) at s) ∷ []) ++
    -- app_star_left, app_star_right, app_plus
    both_ways (
    ((K ·∗ Q) over P ⊣⊢ (K over P) ∗ Q at at_forest) ∷
    ((K ·∗ Q) over P ⊣⊢ (K over P) ·∗ Q at context_sort j a_forest) ∷ []) ++
    both_ways (
    ((Q ∗· K) over P ⊣⊢ Q ∗ (K over P) at at_forest) ∷
    ((Q ∗· K) over P ⊣⊢ Q ∗· (K over P) at context_sort j a_forest) ∷ []) ++
    both_ways (
    ((K ·⊹ Q) over P ⊣⊢ (K over P) ⊹ Q at at_grove) ∷
    ((K ·⊹ Q) over P ⊣⊢ (K over P) ·⊹ Q at context_sort j a_grove) ∷ [])

-- one way
abbrev through : List LinePattern
through =
    -- hole_adj_in, hole_adj_out
    ((K over P ⊢ Q at data_sort k) ∷ [] ⟹ K ⊢ P ⊸ Q at context_sort h k) ∷
    always ((P ⊸ Q) over P ⊢ Q at data_sort k) ∷
    -- ctx_adj_in, ctx_adj_out
    ((K over P ⊢ Q at data_sort k) ∷ [] ⟹ P ⊢ context_adjoint_p k K Q at data_sort h) ∷
    always (K over context_adjoint_p k K Q ⊢ Q at data_sort k) ∷
    -- app_exists_part, app_exists_ctx
    (always (K over exists_p P ⊢ exists_p (K over P) at s) provided not_free_p K') ∷
    (always (exists_p K over P ⊢ exists_p (K over P) at s) provided not_free_p P') ∷
    -- app_or_part, app_or_ctx
    always (K over (P or Q) ⊢ (K over P) or (K over Q) at s) ∷
    always ((K or H) over P ⊢ (K over P) or (H over P) at s) ∷ []

-- in the order of the table
abbrev pub contexts : List (List LinePattern)
contexts = put_in ++ map reads through

-- in the order of the table
abbrev pub variables : List (List LinePattern)
variables = map reads (
    -- some
    (always (P ⊢ exists_p ($x and P) at sort_of_x) provided not_free_p P') ∷
    -- cancel_app, cancel_left, cancel_right, cancel_plus
    always (($x over P) and ($x over Q) ⊢ $x over (P and Q) at data_sort k) ∷
    always (($x ∗ P) and ($x ∗ Q) ⊢ $x ∗ (P and Q) at at_forest) ∷
    always ((P ∗ $x) and (Q ∗ $x) ⊢ (P and Q) ∗ $x at at_forest) ∷
    always (($x ⊹ P) and ($x ⊹ Q) ⊢ $x ⊹ (P and Q) at at_grove) ∷
    -- is_in, is_out, is_mono
    always ($x and P ⊢ x_is P at sort_of_x) ∷
    always ($x and x_is P ⊢ P at sort_of_x) ∷
    ((P ⊢ Q at sort_of_x) ∷ [] ⟹ x_is P ⊢ x_is Q at s given x_of_sort_p) ∷ [])
