-- FILLED THEORIES: what comes of filling the gaps of a theory.
use Rattle.std.specs.Prelude.{ℕ, suc, nat_le, List, [], ◌∷◌, length, Option}
use Rattle.model_limits.specs.Limits.{LimitKind, file_limit, steps_limit, standard_limits}
use Rattle.model_limits.specs.FirstOf.{or_else, unless}
use Rattle.model_formulas.specs.Formulas.{Named}
use Rattle.model_commands.specs.Theories.{StepOf, ProcedureOf, Theory}
use Rattle.model_files.specs.FileLimits.{step_count}
use Rattle.model_grammar.specs.TheoryWriting.{theory_text}
use Rattle.rule_table.specs.Accepted.{BadPlace, Fault}
use Rattle.model_filling.specs.Offers.{Voice}
use Rattle.model_filling.specs.Walk.{Walk, proof_filled, fails_at}

-- the procedure with another proof
abbrev pub with_proof : ProcedureOf Named → List (StepOf Named) → ProcedureOf Named
with_proof f proof = record f { proof = proof }

-- what comes of procedures: the filled ones and the fillers after that, or the first place that
-- fails
pub data Outcome : Type 0 where
  all_filled : List (ProcedureOf Named) → List Voice → Outcome
  fails_in : BadPlace → Outcome

-- a filled procedure before others, where those are filled
abbrev pub in_front : ProcedureOf Named → Outcome → Outcome
in_front f (all_filled fs voices) = all_filled (f ∷ fs) voices
in_front f (fails_in bad) = fails_in bad

module _ (theory : Theory) where
  -- the walk through procedures, of which the first has the number
  pub data WalkAll : ℕ → List (ProcedureOf Named) → List Voice → Outcome → Type 0 where
    all_done : {number : ℕ} {voices : List Voice}
        → WalkAll number [] voices (all_filled [] voices)
    fails_first : {number place : ℕ} {fault : Fault} {f : ProcedureOf Named}
        {fs : List (ProcedureOf Named)} {voices : List Voice}
        → Walk theory f [] [] 1 f.proof voices (fails_at place fault)
        → WalkAll number (f ∷ fs) voices
        (fails_in (record { procedure = number; step = place; fault = fault }))
    fills_first : {number : ℕ} {f : ProcedureOf Named} {fs : List (ProcedureOf Named)}
        {proof : List (StepOf Named)} {voices after : List Voice} {rest : Outcome}
        → Walk theory f [] [] 1 f.proof voices (proof_filled proof after)
        → WalkAll (suc number) fs after rest
        → WalkAll number (f ∷ fs) voices (in_front (with_proof f proof) rest)

-- THE FILLED THEORY: the same but for the proofs
pub data IsFilled (theory : Theory) (voices : List Voice) : Theory → Type 0 where
  filled : {fs : List (ProcedureOf Named)} {after : List Voice}
      → WalkAll theory 1 theory.procedures voices (all_filled fs after)
      → IsFilled theory voices (record theory { procedures = fs })

-- the first place that fails, counted as in the theory handed in
abbrev pub FailsFirst : Theory → List Voice → BadPlace → Type 0
FailsFirst theory voices bad = WalkAll theory 1 theory.procedures voices (fails_in bad)

-- the limit that a filled theory passes: that of its steps, and else that of the bytes of its text
abbrev pub filled_limit : Theory → Option LimitKind
filled_limit theory =
    or_else (unless (nat_le (step_count theory.procedures) standard_limits.proof_steps) steps_limit)
    (unless (nat_le (length (theory_text theory)) standard_limits.file_bytes) file_limit)
