-- Needn't be believed: the program's promise doesn't speak of it. What a step cites, of which each
-- formula has a row in a table.
use Rattle.std.specs.Prelude.{◌≡◌, ℕ, List, Some}
use Rattle.model_commands.specs.Theories.{Judgement, Step}
use Rattle.rule_table.specs.Accepted.{cited, judgement_numbered}
use Rattle.formula_table.specs.declared.tables.Table.{Table}
use Rattle.entail_rules.specs.Numbers.{AllHaveRows, JudgementHasRows}

-- the first earlier step with the number
abbrev pub NumberHasRows : Table → List Step → ℕ → Type 0
NumberHasRows t earlier n =
    (j : Judgement) → judgement_numbered n earlier ≡ Some j → JudgementHasRows t j

-- those with these numbers, where each is the number of one
abbrev pub CitedHaveRows : Table → List Step → List ℕ → Type 0
CitedHaveRows t earlier ns = (js : List Judgement) → cited earlier ns ≡ Some js → AllHaveRows t js
