-- Instances of a rule, and the verdict on a step. A choice may give anything to a letter: what the
-- conclusion and the premises have for it is read off judgements that are well sorted, and for what
-- they leave open there is something of each sort.
use Rattle.std.specs.Prelude.{◌≡◌, ◌⊎◌, ℕ, zero, suc, List, [], ◌∷◌, Option, Some, None, bytes_eq, cond}
use Rattle.model_shapes.specs.Values.{Name}
use Rattle.model_terms.specs.Terms.{Term}
use Rattle.model_commands.specs.Theories.{Judgement}
use Rattle.rule_table.specs.Letters.{Letters}
use Rattle.rule_table.specs.Conditions.{Requirement, IsMet, SideName, Condition, side_of, Holds}
use Rattle.rule_table.specs.Lines.{Line}
use Rattle.rule_table.specs.Entries.{Row, Entry}

-- What is written at a step: the arguments; the cited judgements, if each citation is the number of
-- an earlier step; and the judgement.
pub record Written : Type 0 where
  pub arguments : List Term
  pub premises : Option (List Judgement)
  pub conclusion : Judgement

-- each requirement is met
abbrev pub AllMet : List Requirement → Type 0
AllMet [] = Unit
AllMet (r ∷ rs) = IsMet r × AllMet rs

-- each condition holds
abbrev pub AllHold : List Condition → Type 0
AllHold [] = Unit
AllHold (c ∷ cs) = Holds c × AllHold cs

-- the first n conditions
abbrev pub first : ℕ → List Condition → List Condition
first zero cs = []
first (suc n) [] = []
first (suc n) (c ∷ cs) = c ∷ first n cs

-- the line has the written arguments and conclusion
abbrev pub Concludes : Written → Line → Type 0
Concludes written line =
    (line.arguments ≡ written.arguments) × AllMet line.requirements
    × (line.conclusion ≡ written.conclusion)

-- and the written premises
abbrev pub Follows : Written → Line → Type 0
Follows written line = Concludes written line × (Some line.premises ≡ written.premises)

-- and its first n conditions hold
abbrev pub MeetsFirst : ℕ → Written → Line → Type 0
MeetsFirst n written line = Follows written line × AllHold (first n line.conditions)

-- and all of them do
abbrev pub MeetsAll : Written → Line → Type 0
MeetsAll written line = Follows written line × AllHold line.conditions

-- some choice of the letters makes such a line of one of the rows
abbrev pub SomeLine : List Row → (Line → Type 0) → Type 0
SomeLine [] P = ⊥
SomeLine (row ∷ rows) P = ((letters : Letters) × P (row letters)) ⊎ SomeLine rows P

-- the name of the condition at a place, counted from 0
abbrev pub side_at : ℕ → List Condition → Option SideName
side_at n [] = None
side_at zero (c ∷ cs) = Some (side_of c)
side_at (suc n) (c ∷ cs) = side_at n cs

-- a verdict on a step
pub data Verdict : Type 0 where
  instance_verdict shape_verdict premises_verdict : Verdict
  side_verdict : SideName → Verdict

-- AN INSTANCE: some choice makes the conclusion and the premises the written ones and meets the
-- conditions
abbrev pub IsInstance : List Row → Written → Type 0
IsInstance rows written = SomeLine rows (MeetsAll written)

-- THE VERDICT on a step: what some choice reaches, and none goes beyond. It names the first
-- condition that no choice meets together with those before it.
abbrev pub IsVerdict : List Row → Written → Verdict → Type 0
IsVerdict rows written instance_verdict = IsInstance rows written
IsVerdict rows written shape_verdict = SomeLine rows (Concludes written) → ⊥
IsVerdict rows written premises_verdict =
    SomeLine rows (Concludes written) × (SomeLine rows (Follows written) → ⊥)
IsVerdict rows written (side_verdict name) =
    (n : ℕ)
    × SomeLine rows (λ line. MeetsFirst n written line × (side_at n line.conditions ≡ Some name))
    × (SomeLine rows (MeetsFirst (suc n) written) → ⊥)

-- the rows of the rule of that name; a name of no rule has none
abbrev pub readings_in : List Entry → Name → List Row
readings_in [] name = []
readings_in (entry ∷ entries) name =
    cond (bytes_eq name entry.name) entry.readings (readings_in entries name)
