-- Needn't be believed: the program's promise doesn't speak of it. What an instance of a rule
-- promises of a step behind these earlier ones: each of its citations is the number of one of them,
-- and where the judgements that it cites hold, so does its own.
use Rattle.std.specs.Prelude.{List, MatchOption}
use Rattle.model_commands.specs.Theories.{Judgement, Reason, auto, by_rule, Step}
use Rattle.rule_table.specs.Accepted.{cited}
use Rattle.entailment_laws.specs.Judgements.{Reading, JudgementHolds, AllProved}

abbrev pub IsSoundStep : Reading → List Step → Reason → Judgement → Type 0
IsSoundStep reading earlier auto judgement = ⊥
IsSoundStep reading earlier (by_rule name citations arguments) judgement =
    MatchOption (cited earlier citations) ⊥
    (λ premises. AllProved reading premises → JudgementHolds reading judgement)
