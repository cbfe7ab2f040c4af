-- Needn't be believed: the program's promise doesn't speak of it. Renumbered steps as the program
-- holds them: with numbers of 32 bits.
use Rattle.std.specs.Prelude.{◌≡◌, ◌↔◌, ℕ, ◌<◌, min, true, List, length, map}
use Rattle.model_formulas.specs.Formulas.{Named}
use Rattle.model_commands.specs.Theories.{Judgement, Reason, auto, by_rule, StepOf, Procedures}
use Rattle.rule_table.specs.Verdicts.{Verdict}
use Rattle.rule_table.specs.Accepted.{VerdictBy}
use Rattle.model_filling.specs.Renumbering as filling
use Rattle.theory_syntax.specs.declared.steps.Step.{Step}
use Rattle.cited_steps.specs.Earlier.{are_numbered, steps_in}
use Rattle.gap_filling.specs.declared.renumbering.FilledGap.{FilledGap}

-- the gap
abbrev pub gap_of : FilledGap → filling.FilledGap
gap_of gap = record { number = gap.number; more = gap.more }

-- the number as the program holds it: in place of a greater one the greatest of 32 bits
abbrev pub held : ℕ → ℕ
held n = min n 4294967295

-- the reason, with such citations
abbrev pub held_reason : Reason → Reason
held_reason auto = auto
held_reason (by_rule name citations arguments) = by_rule name (map held citations) arguments

-- the step, with such a number and such citations; where each is of 32 bits it is the step itself
abbrev pub held_step : StepOf Named → StepOf Named
held_step step = record {
  number = held step.number;
  line = step.line;
  reason = held_reason step.reason;
  judgement = step.judgement;
}

-- The verdicts by two reasons are the same, after steps that are numbered one by one and that
-- aren't too many for numbers of 32 bits.
abbrev pub HaveSameVerdicts : Reason → Reason → Type 0
HaveSameVerdicts left right =
    (procedures : Procedures) (earlier : List Step) (judgement : Judgement) (verdict : Verdict)
    → are_numbered 1 earlier ≡ true → length earlier < 4294967295
    → VerdictBy procedures left (steps_in earlier) judgement verdict
    ↔ VerdictBy procedures right (steps_in earlier) judgement verdict
