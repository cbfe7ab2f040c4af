-- Where a first bad place stands in the program's theory.
use Rattle.std.proofs.Common.{◌≡◌, refl, ℕ, suc, ◌+◌, List, [], ◌∷◌, ◌++◌, map, Some, ⊎_elim, arith}
use Rattle.std.specs.List.{slice_get}
use Rattle.model_commands.specs.Theories as model
use Rattle.rule_table.specs.Accepted.{Fault, no_proof, BadPlace, FirstBadStep, FirstBadOf, IsFirstBad}
use Rattle.theory_syntax.specs.declared.steps.Step.{Step}
use Rattle.theory_syntax.specs.declared.theories.Procedure.{Procedure}
use Rattle.theory_syntax.specs.declared.theories.Theory.{Theory}
use Rattle.theory_syntax.specs.Judgements.{step_of}
use Rattle.theory_syntax.specs.Theories.{procedure_of, theory_of}
use Rattle.cited_steps.specs.Earlier.{steps_in}

-- the procedure at a place counted from 0
pub record ProcedureThere (theory : Theory) (bad : BadPlace) : Type 0 where
  pub place : ℕ
  pub procedure : Procedure
  pub counted : bad.procedure ≡ 1 + place
  pub there : slice_get theory.procedures place ≡ Some procedure
  pub first : FirstBadStep (model.procedures_of (theory_of theory))
      (model.nameless_procedure (procedure_of procedure)) [] (steps_in procedure.proof) 1 bad.step
      bad.fault

-- the step at a place counted from 0
pub record StepThere (steps : List Step) (at bad : ℕ) : Type 0 where
  pub place : ℕ
  pub step : Step
  pub counted : bad ≡ at + place
  pub there : slice_get steps place ≡ Some step

module _ (ps : model.Procedures) where
  record Found (fs : List Procedure) (n : ℕ) (bad : BadPlace) : Type 0 where
    place : ℕ
    procedure : Procedure
    counted : bad.procedure ≡ n + place
    there : slice_get fs place ≡ Some procedure
    first : FirstBadStep ps (model.nameless_procedure (procedure_of procedure)) []
        (steps_in procedure.proof) 1 bad.step bad.fault

  found : (fs : List Procedure) (n : ℕ) (bad : BadPlace)
      → FirstBadOf ps (map model.nameless_procedure (map procedure_of fs)) n bad → Found fs n bad
  found [] n bad h = absurd h
  found (f ∷ fs) n bad h = ⊎_elim here (λ later. further (found fs (n + 1) bad later.1)) h
    where
      here : (bad.procedure ≡ n) × FirstBadStep ps (model.nameless_procedure (procedure_of f)) []
          (steps_in f.proof) 1 bad.step bad.fault → Found (f ∷ fs) n bad
      here a = record {
        place = 0;
        procedure = f;
        counted = omega (arith, a.0);
        there = refl;
        first = a.1;
      }

      further : Found fs (n + 1) bad → Found (f ∷ fs) n bad
      further a = record {
        place = suc a.place;
        procedure = a.procedure;
        counted = omega (arith, a.counted);
        there = a.there;
        first = a.first;
      }

  pub step-there : (f : model.Procedure) (earlier : List model.Step) (steps : List Step)
      (at bad : ℕ) (fault : Fault) → FirstBadStep ps f earlier (steps_in steps) at bad fault
      → (fault ≡ no_proof → ⊥) → StepThere steps at bad
  step-there f earlier [] at bad fault h n = absurd (n h.1)
  step-there f earlier (x ∷ steps) at bad fault h n = ⊎_elim
      (λ a. record { place = 0; step = x; counted = omega (arith, a.0); there = refl })
      (λ later. further (step-there f (earlier ++ model.nameless_step (step_of x) ∷ []) steps
      (at + 1) bad fault later.1 n)) h
    where
      further : StepThere steps (at + 1) bad → StepThere (x ∷ steps) at bad
      further a = record {
        place = suc a.place;
        step = a.step;
        counted = omega (arith, a.counted);
        there = a.there;
      }

pub procedure-there : (theory : Theory) (bad : BadPlace) → IsFirstBad (theory_of theory) bad
    → ProcedureThere theory bad
procedure-there theory bad h =
    let a = found (model.procedures_of (theory_of theory)) theory.procedures 1 bad h in
    record {
      place = a.place;
      procedure = a.procedure;
      counted = a.counted;
      there = a.there;
      first = a.first;
    }
