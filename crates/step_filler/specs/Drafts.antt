-- Needn't be believed: contracts of private functions alone speak of it. How a draft of steps
-- grows.
use Rattle.std.specs.Prelude.{◌≡◌, ℕ, ◌+◌, ◌≤◌, ◌<◌, false, List, [], ◌∷◌, ◌++◌, length, map, sum_by, Option, Result, Ok, Err, MatchOption}
use Rattle.model_shapes.specs.Values.{Name}
use Rattle.model_formulas.specs.Formulas.{Named}
use Rattle.model_commands.specs.Theories.{JudgementOf, by_rule, StepOf}
use Rattle.model_limits.specs.Limits.{standard_limits}
use Rattle.assistant_laws.specs.Plans.{Plan, last_number, steps_of}
use Rattle.theory_syntax.specs.Judgements.{step_of}
use Rattle.step_filler.specs.declared.drafts.Draft.{Draft}
use Rattle.step_filler.specs.declared.drafts.Stop.{Stop}
use Rattle.step_filler.specs.declared.drafts.Stop.TheVariants as stop
use Rattle.step_filler.specs.Weights.{weight_of}
use Rattle.step_filler.specs.Given.{are_too_many, grown}

-- the steps so far
abbrev pub drafted : Draft → List (StepOf Named)
drafted draft = map step_of draft.steps

-- the number of the next
abbrev pub next : Draft → ℕ
next draft = draft.first + length draft.steps

-- what is left of the room when so much of it was taken: none where it was too little
abbrev pub Leaves : ℕ → ℕ → Option ℕ → Type 0
Leaves room taken left = MatchOption left (room < taken) (λ rest. rest + taken ≡ room)

-- numbers of 32 bits suffice, and the room is what the steps leave
abbrev pub IsReady : Draft → Type 0
IsReady draft = (draft.first ≤ 4000000000)
    × Leaves standard_limits.offer_bytes (sum_by weight_of (drafted draft)) draft.room

-- the next step has the number, and so much room
abbrev pub IsPlace : Draft → ℕ → ℕ → Type 0
IsPlace draft number room = (are_too_many (drafted draft) ≡ false) × (number ≡ next draft)
    × (room + sum_by weight_of (drafted draft) ≡ standard_limits.offer_bytes)

-- from the one to the other these steps were added, and further ones come after the other as they
-- would after the one and these
abbrev pub Adds : List (StepOf Named) → Draft → Draft → Type 0
Adds steps before after = (after.first ≡ before.first) × IsReady after
    × (drafted after ≡ drafted before ++ steps)
    × ((rest : List (StepOf Named))
    → grown (drafted before) (steps ++ rest) ≡ grown (drafted after) rest)

-- as many were added as there was room for, and whatever comes after them is left out
abbrev pub AddsSome : List (StepOf Named) → Draft → Draft → Type 0
AddsSome steps before after = (after.first ≡ before.first) × IsReady after
    × ((rest : List (StepOf Named)) → grown (drafted before) (steps ++ rest) ≡ drafted after)

-- the steps were added, of which the last has the number; or there was no room for all of them
abbrev pub Written : List (StepOf Named) → ℕ → Draft → Draft → Result ℕ Stop → Type 0
Written steps last before after (Ok n) = (n ≡ last) × Adds steps before after
Written steps last before after (Err stop.Full) = AddsSome steps before after
Written steps last before after (Err stop.OutOfMemory) = Unit

-- memory wasn't refused
abbrev pub IsKept : Result ℕ Stop → Type 0
IsKept (Ok n) = Unit
IsKept (Err stop.Full) = Unit
IsKept (Err stop.OutOfMemory) = ⊥

-- a step by a rule
abbrev pub step_by : ℕ → Name → List ℕ → JudgementOf Named → StepOf Named
step_by n rule citations j =
    record { number = n; line = 0; reason = by_rule rule citations []; judgement = j }

-- one step was added
abbrev pub WritesOne : Name → List ℕ → JudgementOf Named → Draft → Draft → Result ℕ Stop → Type 0
WritesOne rule citations j before after result =
    Written (step_by (next before) rule citations j ∷ []) (next before) before after result

-- the steps of a plan were added
abbrev pub WritesPlan : Plan → Draft → Draft → Result ℕ Stop → Type 0
WritesPlan plan before after result =
    Written (steps_of (next before) plan) (last_number (next before) plan) before after result
