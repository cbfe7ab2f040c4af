-- Needn't be believed: the program's promise doesn't speak of it. When a judgement holds, by how
-- triples are read: an entailment holds as ever, and a triple as the reading says.
use Rattle.std.specs.Prelude.{List, [], ◌∷◌}
use Rattle.model_shapes.specs.Sorts.{DataSort}
use Rattle.model_formulas.specs.Formulas.{Formula}
use Rattle.model_formulas.specs.Satisfaction.{Entails}
use Rattle.model_commands.specs.Commands.{Command}
use Rattle.model_commands.specs.Theories.{Judgement, entails, triple}

-- how triples are read
pub record Reading : Type 1 where
  -- the commands that a triple may have
  pub fits : Command → Type 0
  -- {P} C {Q} at a sort holds
  pub holds : Formula → Command → Formula → DataSort → Type 0

-- no triple holds, so what holds is an entailment
abbrev pub entailments_alone : Reading
entailments_alone = record { fits = λ command. Unit; holds = λ p command q d. ⊥ }

-- a judgement has a command that fits, or none
abbrev pub Fitting : Reading → Judgement → Type 0
Fitting reading (entails p q s) = Unit
Fitting reading (triple p command q d) = reading.fits command

-- a judgement holds
abbrev pub JudgementHolds : Reading → Judgement → Type 0
JudgementHolds reading (entails p q s) = Entails p q s
JudgementHolds reading (triple p command q d) = reading.holds p command q d

-- it fits and holds
abbrev pub Proved : Reading → Judgement → Type 0
Proved reading j = Fitting reading j × JudgementHolds reading j

-- each of these does
abbrev pub AllProved : Reading → List Judgement → Type 0
AllProved reading [] = Unit
AllProved reading (j ∷ js) = Proved reading j × AllProved reading js
