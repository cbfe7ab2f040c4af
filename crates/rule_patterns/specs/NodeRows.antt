-- Needn't be believed: the rules of nodes and lengths as patterns.
use Rattle.std.specs.Prelude.{List, [], ◌∷◌, map}
use Rattle.model_shapes.specs.Values.{null, nolist}
use Rattle.rule_patterns.specs.Constant.{node_constant, forest_constant, grove_constant, length_constant}
use Rattle.rule_patterns.specs.Patterns.{literal_p, sum_p, FormulaPattern, truth_p, falsity_p, closed_p, negation_p, at_most_p, tree_p, root_p, application_p, length_p, LinePattern}
use Rattle.rule_patterns.specs.Rows.{P, Q, A, B, K, H, E, F, S, I, L, T, J, M, s, a_tree, at_tree, at_forest, at_grove, no_trees, no_roots, ◌and◌, ◌or◌, ◌∗◌, ◌⊹◌, ◌equals◌, one_node, other_node, zero_p, one_p, ◌⊢◌, ◌at◌, always, reads}

-- ((not I = J) and (not L = M))
abbrev other_numbers : FormulaPattern
other_numbers = negation_p (I equals J) and negation_p (L equals M)

-- the one node in a context, and the other
abbrev K_of_one : FormulaPattern
K_of_one = application_p a_tree K (one_node P)

abbrev H_of_other : FormulaPattern
H_of_other = application_p a_tree H other_node

-- in the order of the table
abbrev pub nodes : List (List LinePattern)
nodes = map reads (
    -- node_and, tree_and, root_and
    always (one_node P and other_node
    ⊢ one_node (P and Q) and (((S equals T) and (I equals J)) and (L equals M)) at s) ∷
    always (tree_p P and tree_p Q ⊢ tree_p (P and Q) at s) ∷
    always (root_p P and root_p Q ⊢ root_p (P and Q) at s) ∷
    -- node_some, not_null
    always (truth_p ⊢ closed_p node_constant at at_tree) ∷
    always (one_node P ⊢ negation_p (I equals literal_p null)
    and negation_p (L equals literal_p nolist) at s) ∷
    -- apart_star, apart_plus, apart_up
    always (K_of_one ∗ H_of_other ⊢ other_numbers at at_forest) ∷
    always (K_of_one ⊹ H_of_other ⊢ other_numbers at at_grove) ∷
    always (one_node (application_p a_tree K other_node) ⊢ other_numbers at at_tree) ∷
    -- forest_cases, grove_cases
    always (truth_p ⊢ no_trees or closed_p forest_constant at at_forest) ∷
    always (truth_p ⊢ no_roots or closed_p grove_constant at at_grove) ∷
    -- empty_star, empty_plus
    always ((P ∗ Q) and no_trees ⊢ (P and no_trees) ∗ (Q and no_trees) at at_forest) ∷
    always ((P ⊹ Q) and no_roots ⊢ (P and no_roots) ⊹ (Q and no_roots) at at_grove) ∷
    -- tree_full, root_full
    always (tree_p P and no_trees ⊢ falsity_p at at_forest) ∷
    always (root_p P and no_roots ⊢ falsity_p at at_grove) ∷
    -- head, last
    always ((tree_p P ∗ Q) and (tree_p A ∗ B) ⊢ tree_p (P and A) ∗ (Q and B) at at_forest) ∷
    always ((Q ∗ tree_p P) and (B ∗ tree_p A) ⊢ (Q and B) ∗ tree_p (P and A) at at_forest) ∷ [])

-- in the order of the table
abbrev pub lengths : List (List LinePattern)
lengths = map reads (
    -- len_empty, len_zero, len_tree
    always (no_trees ⊢ length_p zero_p at at_forest) ∷
    always (length_p zero_p ⊢ no_trees at at_forest) ∷
    always (tree_p P ⊢ length_p one_p at at_forest) ∷
    -- len_star, len_some
    always ((P and length_p E) ∗ (Q and length_p F)
    ⊢ (P ∗ Q) and length_p (sum_p E F) at at_forest) ∷
    always (truth_p ⊢ closed_p length_constant at at_forest) ∷
    -- len_unique, len_nonneg
    always (length_p E and length_p F ⊢ E equals F at at_forest) ∷
    always (length_p E ⊢ at_most_p zero_p E at at_forest) ∷ [])
