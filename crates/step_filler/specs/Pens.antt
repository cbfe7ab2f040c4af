-- Needn't be believed: contracts of private functions alone speak of it. What a pen wrote, which
-- writes no more once it stopped.
use Rattle.std.specs.Prelude.{◌≡◌, ℕ, List, Option, Some, None, Result, Ok, Err}
use Rattle.model_shapes.specs.Values.{Name}
use Rattle.model_formulas.specs.Formulas.{Named}
use Rattle.model_commands.specs.Theories.{JudgementOf}
use Rattle.assistant_laws.specs.Plans.{Plan}
use Rattle.step_filler.specs.declared.drafts.Draft.{Draft}
use Rattle.step_filler.specs.declared.drafts.Stop.{Stop}
use Rattle.step_filler.specs.declared.drafts.Stop.TheVariants as stop
use Rattle.step_filler.specs.declared.pens.Pen.{Pen}
use Rattle.step_filler.specs.Drafts.{IsReady, WritesOne, WritesPlan}

-- the number of the last step, or why there is none
abbrev pub outcome : Option Stop → ℕ → Result ℕ Stop
outcome None n = Ok n
outcome (Some e) n = Err e

-- it had stopped: nothing was written, but memory may be what stops it now
abbrev pub Stays : Option Stop → Stop → Draft → Draft → Type 0
Stays None e before after = ⊥
Stays (Some stop.Full) stop.Full before after = after ≡ before
Stays (Some stop.Full) stop.OutOfMemory before after = ⊥
Stays (Some stop.OutOfMemory) e before after = Unit

-- it wrote what it was to, unless it had stopped
abbrev pub Goes : Option Stop → Option Stop → Draft → Draft → ℕ → (Result ℕ Stop → Type 0) → Type 0
Goes None stopped before after n Writes = Writes (outcome stopped n)
Goes (Some e) stopped before after n Writes = Stays stopped e before after

-- one step
pub record PensOne (rule : Name) (citations : List ℕ) (j : JudgementOf Named) (before after : Pen)
    (n : ℕ) : Type 0 where
  pub goes : Goes before.stopped after.stopped before.draft after.draft n
      (WritesOne rule citations j before.draft after.draft)

-- the steps of a plan
pub record Pens (plan : Plan) (before after : Pen) (n : ℕ) : Type 0 where
  pub goes : Goes before.stopped after.stopped before.draft after.draft n
      (WritesPlan plan before.draft after.draft)

-- it can write on
abbrev pub IsPen : Pen → Type 0
IsPen pen = pen.stopped ≡ None → IsReady pen.draft
