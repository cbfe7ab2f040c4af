-- Needn't be believed: the walk over a row, how far it goes along with what is written at a step,
-- and the verdict that comes of it.
use Rattle.std.specs.Prelude.{Bool, true, false, not, ◌&&◌, List, [], ◌∷◌, Option, Some, None, is_some, cond}
use Rattle.std.specs.List.{list_all}
use Rattle.model_shapes.specs.Sorts.{Sort, value, is_sort}
use Rattle.model_terms.specs.Terms.{Term}
use Rattle.model_terms.specs.TermSorts.{has_sort}
use Rattle.model_formulas.specs.Formulas.{Formula, is_pure}
use Rattle.model_formulas.specs.WellSorted.{variable_at}
use Rattle.model_commands.specs.Theories.{Judgement}
use Rattle.rule_table.specs.Conditions.{SideName, free_side, pure_side}
use Rattle.rule_table.specs.Letters.{LogicVar, as_logic}
use Rattle.rule_table.specs.Verdicts.{Written, Verdict, instance_verdict, shape_verdict, premises_verdict, side_verdict}
use Rattle.rule_patterns.specs.Patterns.{ConditionPattern, not_free_p, pure_p, RequirementPattern, of_sort_p, x_of_sort_p, LinePattern}
use Rattle.letter_bindings.specs.Known.{Known, nothing, place_in, term_in}
use Rattle.letter_bindings.specs.Matching.{then, match_terms, match_judgement, match_judgements, judgement_binds_simply, each_binds_simply}
use Rattle.letter_bindings.specs.Settled.{settle}
use Rattle.letter_bindings.specs.Shifts.{is_free}

-- THE WALK: over the arguments and the conclusion
abbrev pub walk_conclusion : LinePattern → Written → Option Known
walk_conclusion p w =
    then (match_terms p.arguments w.arguments nothing) (match_judgement p.conclusion w.conclusion)

-- over the premises, which there are none of where a citation is of no earlier step
abbrev pub walk_premises : LinePattern → Option (List Judgement) → Known → Option Known
walk_premises p None k = None
walk_premises p (Some js) k = match_judgements p.premises js k

-- each binder of the row has a simple form below it
abbrev pub line_simple : LinePattern → Bool
line_simple p = judgement_binds_simply p.conclusion && each_binds_simply p.premises

-- WHAT IS ASKED of the sort of $x, and of an argument
abbrev pub has_sort_at : Sort → Term → Bool
has_sort_at (value u) a = has_sort u a
has_sort_at s a = variable_at s a && is_sort s

abbrev pub argument_fits : Option Sort → Option Term → Bool
argument_fits (Some s) (Some a) = has_sort_at s a
argument_fits s a = false

abbrev pub sort_fits : Option Sort → Bool
sort_fits (Some s) = is_sort s
sort_fits None = false

abbrev pub requirement_met : Known → RequirementPattern → Bool
requirement_met k (of_sort_p e) = argument_fits k.x_sort (term_in k.terms e)
requirement_met k x_of_sort_p = sort_fits k.x_sort

-- THE CONDITIONS, with $x this variable or a new one
abbrev pub is_out_of : Option LogicVar → Option Formula → Bool
is_out_of (Some v) (Some p) = not (is_free (as_logic v) p)
is_out_of x p = true

abbrev pub all_pure : Option Formula → Bool
all_pure (Some p) = is_pure p
all_pure None = true

abbrev pub condition_met : Option LogicVar → Known → ConditionPattern → Bool
condition_met x k (not_free_p a) = is_out_of x (place_in k.formulas a)
condition_met x k (pure_p a) = all_pure (place_in k.formulas a)

-- the name of the first one
abbrev pub first_side : List ConditionPattern → SideName
first_side (not_free_p a ∷ cs) = free_side
first_side cs = pure_side

-- THE VERDICT of a row: after the premises
abbrev pub verdict_settled : LinePattern → Known → Option (Option LogicVar) → Verdict
verdict_settled p k None = premises_verdict
verdict_settled p k (Some x) =
    cond (list_all (condition_met x k) p.conditions) instance_verdict
    (side_verdict (first_side p.conditions))

abbrev pub verdict_followed : LinePattern → Option Known → Verdict
verdict_followed p None = premises_verdict
verdict_followed p (Some k) = verdict_settled p k (settle k)

-- after the conclusion
abbrev pub verdict_concluded : LinePattern → Written → Option Known → Verdict
verdict_concluded p w None = shape_verdict
verdict_concluded p w (Some k) =
    cond (list_all (requirement_met k) p.requirements && is_some (settle k))
    (verdict_followed p (walk_premises p w.premises k)) shape_verdict

abbrev pub row_verdict : LinePattern → Written → Verdict
row_verdict p w = verdict_concluded p w (walk_conclusion p w)

-- of two rows the one that goes farther, and of two that go as far the first
abbrev pub farther : Verdict → Verdict → Verdict
farther instance_verdict w = instance_verdict
farther v instance_verdict = instance_verdict
farther (side_verdict name) w = side_verdict name
farther v (side_verdict name) = side_verdict name
farther premises_verdict w = premises_verdict
farther v w = w

-- of the rows of a rule
abbrev pub verdict_by : List LinePattern → Written → Verdict
verdict_by [] w = shape_verdict
verdict_by (p ∷ ps) w = farther (row_verdict p w) (verdict_by ps w)
