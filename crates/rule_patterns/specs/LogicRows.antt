-- Needn't be believed: the rules of logic as patterns, and those of equations that don't compute.
use Rattle.std.specs.Prelude.{List, [], ◌∷◌, map}
use Rattle.rule_patterns.specs.Letter.{E', P', Q'}
use Rattle.rule_patterns.specs.Patterns.{sum_p, truth_p, falsity_p, negation_p, exists_p, forall_p, at_most_p, not_free_p, of_sort_p, LinePattern}
use Rattle.rule_patterns.specs.Rows.{P, Q, R, E, F, s, ◌and◌, ◌or◌, ◌implies◌, ◌equals◌, P_with_E, one_p, ◌⊢◌, ◌at◌, ◌⟹◌, always, ◌provided◌, ◌given◌, ◌with_arguments◌, reads}

-- in the order of the table
abbrev pub logic : List (List LinePattern)
logic = map reads (
    -- id, cut
    always (P ⊢ P at s) ∷
    ((P ⊢ Q at s) ∷ (Q ⊢ R at s) ∷ [] ⟹ P ⊢ R at s) ∷
    -- true_in, false_out
    always (P ⊢ truth_p at s) ∷
    always (falsity_p ⊢ P at s) ∷
    -- and_in, and_left, and_right
    ((P ⊢ Q at s) ∷ (P ⊢ R at s) ∷ [] ⟹ P ⊢ Q and R at s) ∷
    always (P and Q ⊢ P at s) ∷
    always (P and Q ⊢ Q at s) ∷
    -- or_left, or_right, or_out
    always (P ⊢ P or Q at s) ∷
    always (Q ⊢ P or Q at s) ∷
    ((P ⊢ R at s) ∷ (Q ⊢ R at s) ∷ [] ⟹ P or Q ⊢ R at s) ∷
    -- imp_in, imp_out
    ((P and Q ⊢ R at s) ∷ [] ⟹ P ⊢ Q implies R at s) ∷
    always ((P implies Q) and P ⊢ Q at s) ∷
    -- not_in, not_out, classical
    ((P and Q ⊢ falsity_p at s) ∷ [] ⟹ P ⊢ negation_p Q at s) ∷
    always (negation_p P and P ⊢ falsity_p at s) ∷
    always (negation_p (negation_p P) ⊢ P at s) ∷
    -- forall_in, forall_out
    ((P ⊢ Q at s) ∷ [] ⟹ P ⊢ forall_p Q at s provided not_free_p P') ∷
    (always (forall_p P ⊢ P_with_E at s) with_arguments (E ∷ []) given of_sort_p E') ∷
    -- exists_in, exists_out
    (always (P_with_E ⊢ exists_p P at s) with_arguments (E ∷ []) given of_sort_p E') ∷
    ((P ⊢ Q at s) ∷ [] ⟹ exists_p P ⊢ Q at s provided not_free_p Q') ∷ [])

-- eq_refl
abbrev pub reflexive : List LinePattern
reflexive = reads (always (P ⊢ E equals E at s))

-- int_total
abbrev pub total : List LinePattern
total = reads (always (P ⊢ at_most_p E F or at_most_p (sum_p F one_p) E at s))
