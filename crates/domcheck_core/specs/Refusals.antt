-- Needn't be believed: what a refusal of the program is, among the answers.
use Rattle.std.specs.Prelude.{◌≡◌, ℕ, List, Option, Some}
use Rattle.fault_report.specs.Lines.{line_of}
use Rattle.domcheck_core.specs.Answers.{Answer}
use Rattle.domcheck_core.specs.declared.replies.Refused.{Refused}
use Rattle.domcheck_core.specs.declared.replies.Refused.TheVariants as r
use Rattle.domcheck_core.specs.declared.status.Status.{Status}

-- this holds of the status and the line, unless memory ran out
abbrev pub IfAnswer : Refused → (Status → List ℕ → Type 0) → Type 0
IfAnswer (r.Answer s report) P = P s (line_of report)
IfAnswer r.OutOfMemory P = Unit

-- there is an answer, and this holds of its status and line
abbrev pub Answers : Refused → (Status → List ℕ → Type 0) → Type 0
Answers (r.Answer s report) P = P s (line_of report)
Answers r.OutOfMemory P = ⊥

-- what is refused is the answer
abbrev pub IsRefusal : Refused → Option Answer → Type 0
IsRefusal refused answer = IfAnswer refused (λ s output. answer ≡ Some (s, output))
