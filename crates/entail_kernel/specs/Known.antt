-- Needn't be believed: the program's promise doesn't speak of it. The numbers that the formulas of
-- earlier steps have in a table, as far as they are known.
use Rattle.std.specs.Prelude.{ℕ, zero, suc, List, [], ◌∷◌, Option, Some, None, slice_index_or}
use Rattle.model_commands.specs.Theories.{nameless_judgement}
use Rattle.theory_syntax.specs.Judgements.{judgement_of}
use Rattle.theory_syntax.specs.declared.steps.Step.{Step}
use Rattle.formula_table.specs.declared.tables.Table.{Table}
use Rattle.row_walks.specs.declared.steps.Numbered.{Numbered}
use Rattle.entail_rules.specs.Judged.{judged}
use Rattle.entail_rules.specs.Numbers.{IsKnown}
use Rattle.entail_rules.specs.declared.cited.Premise.{Premise}

-- those of a cited entailment stand for it
abbrev pub PremiseKnown : Table → Option Premise → Type 0
PremiseKnown t None = Unit
PremiseKnown t (Some a) = IsKnown t a.numbers (judged a.entailment.now)

-- those of each of the first steps stand for what it says; of the others none are known
abbrev pub AreKnown : Table → List (Option Numbered) → List Step → Type 0
AreKnown t [] steps = Unit
AreKnown t (o ∷ known) [] = ⊥
AreKnown t (o ∷ known) (step ∷ steps) =
    IsKnown t o (nameless_judgement (judgement_of step.judgement)) × AreKnown t known steps

-- those of the step with the number, where steps are numbered by their places from 1 on
abbrev pub known_of : ℕ → List (Option Numbered) → Option Numbered
known_of zero known = None
known_of (suc place) known = slice_index_or known place None
