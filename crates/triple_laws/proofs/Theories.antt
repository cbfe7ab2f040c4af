-- ACCEPTED THEORIES HOLD: each procedure of an accepted theory meets its specification.
use Rattle.std.proofs.Common.{◌≡◌, ℕ, zero, suc, List, [], ◌∷◌, length, Bool, true, false, cond, Some, subst, arith, bytes_eq}
use Rattle.model_shapes.specs.Values.{Name}
use Rattle.model_files.specs.FileFaults.{IsWellFormedTheory}
use Rattle.model_commands.specs.SortTests.{BodiesSorted}
use Rattle.model_machine.specs.LocalTriples.{MeetsItsSpecification}
use Rattle.model_commands.specs.Theories.{Theory, Judgement, Reason, auto, by_rule, entails, triple, Step, Procedure, Procedures, procedures_of, procedure_named, own_triple}
use Rattle.model_machine.proofs.Plain.{classical-plain}
use Rattle.model_files.proofs.WellFormedTheories.{well-formed-bodies, well-formed-scopes}
use Rattle.rule_table.specs.Accepted.{Each, InstanceBy, IsProved, IsAccepted}
use Rattle.rule_table.specs.Table.{table}
use Rattle.rule_table.specs.Table.{entailments}
use Rattle.rule_table.specs.Table.{triples}
use Rattle.rule_table.specs.Axioms.{axioms}
use Rattle.rule_table.specs.Verdicts.{readings_in, Written, IsInstance}
use Rattle.entailment_laws.specs.Judgements.{Fitting, JudgementHolds, AllProved}
use Rattle.entailment_laws.proofs.Instances.{some-is, named-instance}
use Rattle.entailment_laws.proofs.Sound.{entailments_sound}
use Rattle.entailment_laws.proofs.SoundRows.{SoundEntries, sound-append}
use Rattle.entailment_laws.proofs.Steps.{step-sound}
use Rattle.triple_laws.specs.BySteps.{in_steps, locally, HoldBelow}
use Rattle.triple_laws.specs.Steps.{HoldsAnywhere, HoldsBySteps}
use Rattle.triple_laws.proofs.Fitting.{step-sorted}
use Rattle.triple_laws.proofs.Proofs.{StepsFitting, procedure-holds, procedure-fits}
use Rattle.triple_laws.proofs.StepsFit.{well-formed-steps}
use Rattle.triple_laws.proofs.NoPremises.{axiom-cites-nothing}
use Rattle.triple_laws.proofs.Rows.{triples-sound, Scoped, axioms-sound}

-- a judgement that holds for the runs of at most n steps, for each n
any-length : (ps : Procedures) → BodiesSorted ps → (j : Judgement) → Fitting (locally ps) j
    → ((n : ℕ) → JudgementHolds (in_steps ps n) j) → JudgementHolds (locally ps) j
any-length ps bodies (entails p q s) fit h = h 0
any-length ps bodies (triple p c q d) fit h =
    classical-plain ps p c q d bodies (step-sorted ps c fit)
    (λ e st pr r wr m around wa wf picks long.
    h (length picks) e st pr r wr m around wa wf picks (omega arith))

-- the steps of a proof fit, for whatever number of steps
fitting-judgement : (ps : Procedures) (n : ℕ) (j : Judgement) → Fitting (locally ps) j
    → Fitting (in_steps ps n) j
fitting-judgement ps n (entails p q s) f = f
fitting-judgement ps n (triple p c q d) f = f

fitting-again : (ps : Procedures) (n : ℕ) (steps : List Step) → StepsFitting (locally ps) steps
    → StepsFitting (in_steps ps n) steps
fitting-again ps n [] h = tt
fitting-again ps n (step ∷ steps) h =
    (fitting-judgement ps n step.judgement h.0, fitting-again ps n steps h.1)

-- RECURSION
each-named : (P : Procedure → Type 0) (fs : Procedures) → Each P fs → (name : List ℕ)
    (f : Procedure) → procedure_named name fs ≡ Some f → P f
each-named P [] p name f e = absurd cc
each-named P (g ∷ fs) p name f e =
    by_test (bytes_eq name g.name) e (each-named P fs p.1 name f)
  where
    by_test : (b : Bool) → cond b (Some g) (procedure_named name fs) ≡ Some f
        → (procedure_named name fs ≡ Some f → P f) → P f
    by_test true q later = subst P (some-is g f q) p.0
    by_test false q later = later q

-- both of two
both-each : (P Q : Procedure → Type 0) (fs : Procedures) → Each P fs → Each Q fs
    → Each (λ f. P f × Q f) fs
both-each P Q [] p q = tt
both-each P Q (f ∷ fs) p q = ((p.0, q.0), both-each P Q fs p.1 q.1)

module _ (ps : Procedures) (bodies : BodiesSorted ps) (scoped : Scoped ps)
  where
    -- where the triples of the procedures hold for fewer steps
    table-sound : (n : ℕ) → HoldBelow ps n → SoundEntries (in_steps ps n) (table ps)
    table-sound n below =
        sound-append (in_steps ps n) entailments (triples ps) (entailments_sound (in_steps ps n))
        (triples-sound ps bodies n scoped below)

    abbrev ProvedFitting : Procedure → Type 0
    ProvedFitting f = IsProved ps f × StepsFitting (locally ps) f.proof

    module _ (proved : Each ProvedFitting ps) where
      -- they do, by the number of steps
      hold-below : (n : ℕ) → HoldBelow ps n
      hold-below zero name f is e st pr r wr m around wa wf picks l = absurd (omega arith)
      hold-below (suc n) name f is e st pr r wr m around wa wf picks l =
          let p : ProvedFitting f = each-named ProvedFitting ps proved name f is in
          procedure-holds (in_steps ps n) ps (table-sound n (hold-below n)) f p.0
          (fitting-again ps n f.proof p.1) e st pr r wr m around wa wf picks (omega arith)

      meets-it : (f : Procedure) → ProvedFitting f → MeetsItsSpecification ps f
      meets-it f p =
          any-length ps bodies (own_triple f) (procedure-fits (locally ps) f p.1 p.0.ends)
          (λ n. procedure-holds (in_steps ps n) ps (table-sound n (hold-below n)) f p.0
          (fitting-again ps n f.proof p.1))

      each-meets : (fs : Procedures) → Each ProvedFitting fs → Each (MeetsItsSpecification ps) fs
      each-meets [] p = tt
      each-meets (f ∷ fs) p = (meets-it f p.0, each-meets fs p.1)

-- The procedures of an accepted theory meet their specifications.
pub accepted_theories_hold : (theory : Theory) → IsWellFormedTheory theory → IsAccepted theory
    → Each (MeetsItsSpecification (procedures_of theory)) (procedures_of theory)
accepted_theories_hold theory w accepted =
    let ps : Procedures = procedures_of theory in
    let proved : Each (λ f. IsProved ps f × StepsFitting (locally ps) f.proof) ps =
    both-each (IsProved ps) (λ f. StepsFitting (locally ps) f.proof) ps accepted
    (well-formed-steps theory w) in
    each-meets ps (well-formed-bodies theory w) (well-formed-scopes theory w) proved ps proved

-- THE RULES of a theory, by the number of steps
pub table-of-triples-sound : (theory : Theory) → IsWellFormedTheory theory → (n : ℕ)
    → HoldBelow (procedures_of theory) n → (name : Name) (written : Written)
    (premises : List Judgement) → Fitting (in_steps (procedures_of theory) n) written.conclusion
    → written.premises ≡ Some premises
    → AllProved (in_steps (procedures_of theory) n) premises
    → IsInstance (readings_in (triples (procedures_of theory)) name) written
    → JudgementHolds (in_steps (procedures_of theory) n) written.conclusion
table-of-triples-sound theory w n below name written premises fit cites h i =
    let ps : Procedures = procedures_of theory in
    let bodies : BodiesSorted ps = well-formed-bodies theory w in
    named-instance (in_steps ps n) (triples ps)
    (triples-sound ps bodies n (well-formed-scopes theory w) below) name written premises fit cites
    h i

-- and of a step by any rule of the table
pub step-holds : (theory : Theory) (earlier : List Step) (reason : Reason) (judgement : Judgement)
    → InstanceBy (procedures_of theory) reason earlier judgement
    → HoldsBySteps theory earlier reason judgement
step-holds theory earlier auto judgement i w fit n below = i
step-holds theory earlier (by_rule name citations arguments) judgement i w fit n below =
    let ps : Procedures = procedures_of theory in
    step-sound (in_steps ps n) (table ps)
    (table-sound ps (well-formed-bodies theory w) (well-formed-scopes theory w) n below) name
    citations arguments earlier judgement (fitting-judgement ps n judgement fit) i

-- AN AXIOM in every context
pub axiom-holds : (theory : Theory) → IsWellFormedTheory theory → (name : Name)
    (written : Written) → Fitting (locally (procedures_of theory)) written.conclusion
    → IsInstance (readings_in axioms name) written
    → JudgementHolds (locally (procedures_of theory)) written.conclusion
axiom-holds theory w name written fit i =
    let ps : Procedures = procedures_of theory in
    let bodies : BodiesSorted ps = well-formed-bodies theory w in
    any-length ps bodies written.conclusion fit
    (λ n. named-instance (in_steps ps n) axioms (axioms-sound ps bodies n) name written []
    (fitting-judgement ps n written.conclusion fit) (axiom-cites-nothing name written i) tt i)

pub axiom-anywhere : (name : Name) (written : Written)
    → IsInstance (readings_in axioms name) written → HoldsAnywhere written.conclusion
axiom-anywhere name written i theory w fit = axiom-holds theory w name written fit i
