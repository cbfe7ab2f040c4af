-- Needn't be believed: the rules of structure and monotony as patterns.
use Rattle.std.specs.Prelude.{List, [], ◌∷◌, ◌++◌, map}
use Rattle.rule_patterns.specs.Letter.{Q'}
use Rattle.rule_patterns.specs.Patterns.{SortPattern, data_sort, context_sort, either_sort, FormulaPattern, tree_p, root_p, application_p, context_adjoint_p, JudgementPattern, pure_p, LinePattern}
use Rattle.rule_patterns.specs.Rows.{P, Q, R, A, B, K, H, s, h, k, a_tree, a_forest, a_grove, at_forest, at_grove, no_trees, no_roots, ◌and◌, ◌∗◌, ◌·∗◌, ◌∗·◌, ◌⊹◌, ◌·⊹◌, ◌⊸◌, one_node, ◌⊢◌, ◌at◌, ◌⟹◌, always, ◌⊣⊢◌, ◌provided◌, reads, both_ways}

-- contexts to forests, and to groves
abbrev to_forest : SortPattern
to_forest = context_sort h a_forest

abbrev to_grove : SortPattern
to_grove = context_sort h a_grove

-- in the order of the table
abbrev pub structure : List (List LinePattern)
structure =
    -- star_assoc, star_left_assoc, star_right_assoc, star_mid_assoc
    both_ways (((P ∗ Q) ∗ R ⊣⊢ P ∗ (Q ∗ R) at at_forest) ∷ []) ++
    both_ways (((K ·∗ P) ·∗ Q ⊣⊢ K ·∗ (P ∗ Q) at to_forest) ∷ []) ++
    both_ways ((P ∗· (Q ∗· K) ⊣⊢ (P ∗ Q) ∗· K at to_forest) ∷ []) ++
    both_ways (((P ∗· K) ·∗ Q ⊣⊢ P ∗· (K ·∗ Q) at to_forest) ∷ []) ++
    -- star_unit, unit_star, star_left_unit, star_right_unit
    both_ways ((P ∗ no_trees ⊣⊢ P at at_forest) ∷ []) ++
    both_ways ((no_trees ∗ P ⊣⊢ P at at_forest) ∷ []) ++
    both_ways ((K ·∗ no_trees ⊣⊢ K at to_forest) ∷ []) ++
    both_ways ((no_trees ∗· K ⊣⊢ K at to_forest) ∷ []) ++
    -- plus_assoc, plus_comm, plus_unit, plus_left_assoc, plus_left_unit
    both_ways (((P ⊹ Q) ⊹ R ⊣⊢ P ⊹ (Q ⊹ R) at at_grove) ∷ []) ++
    reads (always (P ⊹ Q ⊢ Q ⊹ P at at_grove)) ∷
    both_ways ((P ⊹ no_roots ⊣⊢ P at at_grove) ∷ []) ++
    both_ways (((K ·⊹ P) ·⊹ Q ⊣⊢ K ·⊹ (P ⊹ Q) at to_grove) ∷ []) ++
    both_ways ((K ·⊹ no_roots ⊣⊢ K at to_grove) ∷ [])

-- P entails A at the one sort, Q entails B at the other
abbrev parts_entail : SortPattern → SortPattern → List JudgementPattern
parts_entail one other = (P ⊢ A at one) ∷ (Q ⊢ B at other) ∷ []

-- P entails Q at this data sort, or at a context sort to it
abbrev part_entails : SortPattern → List JudgementPattern
part_entails one = (P ⊢ Q at one) ∷ []

abbrev monotone : List LinePattern
monotone =
    -- mono_star, mono_star_left, mono_star_right, mono_plus, mono_plus_left
    (parts_entail at_forest at_forest ⟹ P ∗ Q ⊢ A ∗ B at at_forest) ∷
    (parts_entail to_forest at_forest ⟹ P ·∗ Q ⊢ A ·∗ B at to_forest) ∷
    (parts_entail at_forest to_forest ⟹ P ∗· Q ⊢ A ∗· B at to_forest) ∷
    (parts_entail at_grove at_grove ⟹ P ⊹ Q ⊢ A ⊹ B at at_grove) ∷
    (parts_entail to_grove at_grove ⟹ P ·⊹ Q ⊢ A ·⊹ B at to_grove) ∷
    -- mono_node, mono_tree, mono_root
    (part_entails (either_sort a_forest) ⟹ one_node P ⊢ one_node Q at either_sort a_tree) ∷
    (part_entails (either_sort a_tree) ⟹ tree_p P ⊢ tree_p Q at either_sort a_forest) ∷
    (part_entails (either_sort a_tree) ⟹ root_p P ⊢ root_p Q at either_sort a_grove) ∷
    -- mono_app, mono_hole_adj, mono_ctx_adj
    ((K ⊢ H at context_sort h k) ∷ part_entails (either_sort h)
    ⟹ application_p h K P ⊢ application_p h H Q at either_sort k) ∷
    ((A ⊢ P at data_sort h) ∷ (Q ⊢ B at data_sort k) ∷ []
    ⟹ P ⊸ Q ⊢ A ⊸ B at context_sort h k) ∷
    ((H ⊢ K at context_sort h k) ∷ (Q ⊢ B at data_sort k) ∷ []
    ⟹ context_adjoint_p k K Q ⊢ context_adjoint_p k H B at data_sort h) ∷ []

-- Q moves out of the part, and into it
abbrev pure_out : (FormulaPattern → FormulaPattern) → LinePattern
pure_out z = always (z (P and Q) ⊢ z P and Q at s) provided pure_p Q'

abbrev pure_in : (FormulaPattern → FormulaPattern) → LinePattern
pure_in z = always (z P and Q ⊢ z (P and Q) at s) provided pure_p Q'

abbrev parts : List (FormulaPattern → FormulaPattern)
parts =
    (λ z. z ∗ B) ∷ (λ z. B ∗ z) ∷ (λ z. z ·∗ B) ∷ (λ z. B ·∗ z) ∷
    (λ z. z ∗· B) ∷ (λ z. B ∗· z) ∷ (λ z. z ⊹ B) ∷ (λ z. B ⊹ z) ∷
    (λ z. z ·⊹ B) ∷ (λ z. B ·⊹ z) ∷ (λ z. one_node z) ∷ (λ z. tree_p z) ∷ (λ z. root_p z) ∷
    (λ z. application_p h z B) ∷ (λ z. application_p h B z) ∷ []

-- in the order of the table
abbrev pub monotony : List (List LinePattern)
monotony = map reads monotone ++ map pure_out parts ∷ map pure_in parts ∷ []
