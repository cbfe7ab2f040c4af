-- Needn't be believed: the promises speak of the table of rules. The rule that binds a variable of
-- both formulas, as tests that compute.
use Rattle.std.specs.Prelude.{ℕ, Bool, false, ◌&&◌, is_some, List, [], ◌∷◌, Option, Some, None}
use Rattle.model_shapes.specs.Sorts.{Sort}
use Rattle.model_shapes.specs.Tests.{same_sort, same_data_sort}
use Rattle.model_terms.specs.Terms.{Term}
use Rattle.model_formulas.specs.Formulas.{Formula, existential}
use Rattle.model_commands.specs.Theories.{Judgement, Step, triple}
use Rattle.theory_syntax.specs.SameCommands.{same_command}
use Rattle.letter_bindings.specs.Known.{Known, nothing, no_formulas}
use Rattle.letter_bindings.specs.Settled.{settle}
use Rattle.rule_table.specs.Accepted.{judgement_numbered}
use Rattle.rule_table.specs.Verdicts.{Verdict, instance_verdict, shape_verdict}
use Rattle.triple_rules.specs.Tests.{no_items, staged}

-- what is known of $x, P and Q where P and Q are these formulas, and the other two stand for them
-- below binders of $x, which has the sort
abbrev pub known_of : Sort → Formula → Formula → Formula → Formula → Known
known_of s p q before behind = record nothing {
  formulas = record no_formulas { P = Some p; Q = Some q };
  belows = record no_formulas { P = Some before; Q = Some behind };
  x_sort = Some s;
}

-- existentials of one sort
abbrev pub bind_one_sort : Formula → Formula → Bool
bind_one_sort (existential s p) (existential t q) = same_sort s t
bind_one_sort p q = false

-- existentials, which bind some variable of the other two formulas
abbrev pub eliminates : Formula → Formula → Formula → Formula → Bool
eliminates (existential s before) (existential t behind) p q =
    is_some (settle (known_of s p q before behind))
eliminates pre post p q = false

-- the first judgement is a triple from which the other, a triple, follows
abbrev pub lifts : Judgement → Judgement → Bool
lifts (triple p c q k) (triple pre c' post k') =
    (same_command c c' && same_data_sort k k') && eliminates pre post p q
lifts i j = false

abbrev pub lifts_some : Option Judgement → Judgement → Bool
lifts_some None j = false
lifts_some (Some i) j = lifts i j

-- the step of the one number says so
abbrev pub follows : List Step → List ℕ → Judgement → Bool
follows steps (n ∷ []) j = lifts_some (judgement_numbered n steps) j
follows steps ns j = false

-- the verdict
abbrev pub eliminate_test : List Step → List ℕ → List Term → Judgement → Verdict
eliminate_test steps ns arguments (triple p c q k) =
    staged (no_items arguments && bind_one_sort p q) (follows steps ns (triple p c q k))
    instance_verdict
eliminate_test steps ns arguments j = shape_verdict
