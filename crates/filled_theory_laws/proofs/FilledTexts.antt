-- A filled theory can be written where the theory could be.
use Rattle.std.proofs.Common.{◌≡◌, ℕ, ◌+◌, ◌≤◌, true, List, [], ◌∷◌, ◌++◌, length, map, None, is_some, refl, arith}
use Rattle.std.specs.List.{list_all}
use Rattle.model_limits.specs.Limits.{standard_limits}
use Rattle.model_shapes.proofs.Truth.{both_true}
use Rattle.model_formulas.specs.Formulas.{Named}
use Rattle.model_commands.specs.Each.{Each}
use Rattle.model_commands.specs.Theories.{Reason, auto, by_rule, StepOf, ProcedureOf, Theory, procedures_of, procedure_named}
use Rattle.model_files.specs.FileFaults.{header, declarations, step_kind, steps_from, procedures_from, first_fault_at, IsWellFormedTheory}
use Rattle.model_files.specs.FileLimits.{step_count}
use Rattle.model_files.proofs.Places.{first-none, both-none}
use Rattle.model_grammar.specs.Words.{the}
use Rattle.model_grammar.specs.TheoryWriting.{step_line, procedure_lines, procedures_lines, logic_line}
use Rattle.model_round_trip.specs.Writable.{IsDeclarable, IsWritableReason, IsWritableStep, IsWritableProcedure, HasOne, IsWritableTheory}
use Rattle.model_filling.specs.Offers.{Voice}
use Rattle.model_filling.specs.Sizes.{step_integers_fit}
use Rattle.model_filling.specs.Walk.{Walk, proof_filled}
use Rattle.model_filling.specs.Filled as F
use Rattle.model_filling.specs.Filled.{WalkAll, IsFilled, with_proof, all_filled, fails_in, in_front}
use Rattle.model_filling.proofs.WalkEach.{walk-each}
use Rattle.model_filling.proofs.Walks.{walk-proved}
use Rattle.model_filling.proofs.WellFormed.{proof-numbered}
use Rattle.filled_theory_laws.proofs.Declared.{each-both, each-parts, FitsName}
use Rattle.filled_theory_laws.proofs.WritableCommands.{found-name}
use Rattle.filled_theory_laws.proofs.Words.{AreWords}
use Rattle.filled_theory_laws.proofs.ScopesFit.{IsReadable, own-name-fits, scope-fits}
use Rattle.filled_theory_laws.proofs.FitSteps.{IsWritableBy, IsWritableBut, IsReadableStep, step-kept, step-writable}
use Rattle.filled_theory_laws.proofs.Citations.{CitesLow, numbered-low, steps-low}

-- A STEP with its number and what it cites
module _ (version : ℕ) where
  reason-whole : (reason : Reason) → IsWritableBy version reason
      → CitesLow standard_limits.numeral reason → IsWritableReason reason
  reason-whole auto h low = tt
  reason-whole (by_rule name citations arguments) h low = (h.0, low, h.1)

  steps-whole : (steps : List (StepOf Named)) → Each (IsWritableBut version) steps
      → Each (λ step. step.number ≤ standard_limits.numeral) steps
      → Each (λ step. CitesLow standard_limits.numeral step.reason) steps
      → Each IsWritableStep steps × Each (AreWords version) (map (step_line version) steps)
  steps-whole [] h low cites = (tt, tt)
  steps-whole (step ∷ steps) h low cites =
      let rest = steps-whole steps h.1 low.1 cites.1 in (
        (
          record {
            number = low.0;
            reason = reason-whole step.reason h.0.reason cites.0;
            judgement = h.0.judgement;
          },
          rest.0,
        ),
        (h.0.words, rest.1),
      )

  steps-read : (steps : List (StepOf Named)) → Each IsWritableStep steps
      → Each (AreWords version) (map (step_line version) steps)
      → Each (IsReadableStep version) steps
  steps-read [] h k = tt
  steps-read (step ∷ steps) h k = ((h.0, k.0), steps-read steps h.1 k.1)

module _ (theory : Theory) (logics : Each IsDeclarable theory.logic)
    (named-here : (name : List ℕ) → is_some (procedure_named name (procedures_of theory)) ≡ true
    → FitsName theory.version name) where
  module _ (f : ProcedureOf Named) (readable : IsReadable theory.version f) where
    -- what is offered
    offer-writable : (steps : List (StepOf Named))
        → Each (λ step. step_kind theory f step.number step ≡ None) steps
        → list_all step_integers_fit steps ≡ true → Each (IsWritableBut theory.version) steps
    offer-writable [] h e = tt
    offer-writable (step ∷ steps) h e =
        let both = both_true (step_integers_fit step) (list_all step_integers_fit steps) e in (
          step-writable theory f (scope-fits theory f logics readable) named-here step.number step
              h.0 both.0,
          offer-writable steps h.1 both.1,
        )

    -- A FILLED PROOF
    proof-writable : (number : ℕ) (voices after : List Voice) (proof : List (StepOf Named))
        → Walk theory f [] [] 1 f.proof voices (proof_filled proof after)
        → first_fault_at (steps_from theory number f 1 f.proof) ≡ None
        → length proof ≤ standard_limits.numeral
        → Each IsWritableStep proof
        × Each (AreWords theory.version) (map (step_line theory.version) proof)
    proof-writable number voices after proof walk e le =
        let lines = each-parts (AreWords theory.version)
        (map (step_line theory.version) f.proof) (the "end" ∷ []) readable.words.1.1.1.1.1 in
        let numbered = proof-numbered theory f number voices after proof walk e in
        let low = numbered-low standard_limits.numeral 1 proof numbered (omega (arith, le)) in
        let proved = walk-proved theory f voices after proof walk in
        steps-whole theory.version proof
        (walk-each theory f (IsWritableBut theory.version) (IsReadableStep theory.version)
        (step-kept theory.version)
        (λ earlier number judgement offer usable.
        offer-writable offer usable.formed usable.sized.integers) [] [] 1 f.proof voices
        (proof_filled proof after) proof after walk refl tt
        (steps-read theory.version f.proof readable.writable.proof lines.0))
        low (steps-low standard_limits.numeral (procedures_of theory) [] proof tt low proved.steps)

    filled-readable : (number : ℕ) (voices after : List Voice) (proof : List (StepOf Named))
        → Walk theory f [] [] 1 f.proof voices (proof_filled proof after)
        → first_fault_at (steps_from theory number f 1 f.proof) ≡ None
        → length proof ≤ standard_limits.numeral
        → IsReadable theory.version (with_proof f proof)
    filled-readable number voices after proof walk e le =
        let filled = proof-writable number voices after proof walk e le in
        let own = readable.writable in
        let words = readable.words in
        let lines = each-parts (AreWords theory.version)
        (map (step_line theory.version) f.proof) (the "end" ∷ []) words.1.1.1.1.1 in
        record {
          writable = record {
            name = own.name;
            params = own.params;
            results = own.results;
            pre = own.pre;
            post = own.post;
            body = own.body;
            proof = filled.0;
          };
          words = (
            words.0,
            (
              words.1.0,
              (
                words.1.1.0,
                (
                  words.1.1.1.0,
                  (
                    words.1.1.1.1.0,
                    each-both (AreWords theory.version) (map (step_line theory.version) proof)
                        (the "end" ∷ []) filled.1 lines.1,
                  ),
                ),
              ),
            ),
          );
        }

  -- ALL PROCEDURES
  abbrev AllReadable : List (ProcedureOf Named) → F.Outcome → Type 0
  AllReadable fs (all_filled gs voices) = (earlier : List (ProcedureOf Named)) (number : ℕ)
      → Each (IsReadable theory.version) fs
      → first_fault_at (procedures_from theory earlier number fs) ≡ None
      → step_count gs ≤ standard_limits.numeral → Each (IsReadable theory.version) gs
  AllReadable fs (fails_in bad) = Unit

  pub all-readable : {number : ℕ} {fs : List (ProcedureOf Named)} {voices : List Voice}
      (r : F.Outcome)
      → WalkAll theory number fs voices r → AllReadable fs r
  all-readable (all_filled [] voices) F.all_done = λ earlier number h e le. tt
  all-readable (fails_in bad) (F.fails_first walk) = tt
  all-readable r (F.fills_first {f = f} {fs = fs} {proof = proof} {voices = voices} {after = after}
      {rest = rest} walk following) =
      with-first rest (all-readable rest following)
    where
      with-first : (rest : F.Outcome) → AllReadable fs rest
          → AllReadable (f ∷ fs) (in_front (with_proof f proof) rest)
      with-first (all_filled gs v) x = λ earlier number h e le.
          let a = first-none number 0 (header theory earlier f)
          (steps_from theory number f 1 f.proof
          ++ procedures_from theory (f ∷ earlier) (number + 1) fs) e in
          let b = both-none (steps_from theory number f 1 f.proof) _ a.1 in (
            filled-readable f h.0 number voices after proof walk b.0 (omega (arith, le)),
            x (f ∷ earlier) (number + 1) h.1 b.1 (omega (arith, le)),
          )
      with-first (fails_in bad) x = tt

abbrev KeepsOne : List (ProcedureOf Named) → F.Outcome → Type 0
KeepsOne fs (all_filled gs voices) = HasOne fs → HasOne gs
KeepsOne fs (fails_in bad) = Unit

keeps-one : {theory : Theory} {number : ℕ} {fs : List (ProcedureOf Named)} {voices : List Voice}
    (r : F.Outcome) → WalkAll theory number fs voices r → KeepsOne fs r
keeps-one (all_filled [] voices) F.all_done = λ h. h
keeps-one (fails_in bad) (F.fails_first walk) = tt
keeps-one r (F.fills_first {f = f} {fs = fs} {proof = proof} {rest = rest} walk following) =
    with-first rest
  where
    with-first : (rest : F.Outcome) → KeepsOne (f ∷ fs) (in_front (with_proof f proof) rest)
    with-first (all_filled gs v) = λ h. tt
    with-first (fails_in bad) = tt

-- THE LINES of a theory
module _ (version : ℕ) where
  lines-read : (fs : List (ProcedureOf Named)) → Each IsWritableProcedure fs
      → Each (AreWords version) (procedures_lines version fs) → Each (IsReadable version) fs
  lines-read [] h k = tt
  lines-read (f ∷ fs) h k =
      let both = each-parts (AreWords version) (procedure_lines version f)
      (procedures_lines version fs) k in
      (record { writable = h.0; words = both.0 }, lines-read fs h.1 both.1)

  read-lines : (fs : List (ProcedureOf Named)) → Each (IsReadable version) fs
      → Each IsWritableProcedure fs × Each (AreWords version) (procedures_lines version fs)
  read-lines [] h = (tt, tt)
  read-lines (f ∷ fs) h =
      let rest = read-lines fs h.1 in (
        (h.0.writable, rest.0),
        each-both (AreWords version) (procedure_lines version f) (procedures_lines version fs)
            h.0.words rest.1,
      )

  names-read : (fs : List (ProcedureOf Named)) → Each (IsReadable version) fs
      → Each (λ f. FitsName version f.name) fs
  names-read [] h = tt
  names-read (f ∷ fs) h = (own-name-fits version f h.0, names-read fs h.1)

pub filled-writable : (theory : Theory) (voices : List Voice) (t : Theory)
    → IsFilled theory voices t → IsWellFormedTheory theory → IsWritableTheory theory
    → step_count t.procedures ≤ standard_limits.numeral → IsWritableTheory t
filled-writable theory voices t (F.filled {fs = fs} {after = after} walk) formed h le =
    let lines = each-parts (AreWords theory.version) (map logic_line theory.logic)
    (procedures_lines theory.version theory.procedures) h.words.1 in
    let readable = lines-read theory.version theory.procedures h.procedures lines.1 in
    let named-here = found-name (FitsName theory.version) theory.procedures
    (names-read theory.version theory.procedures readable) in
    let places = first-none 0 0 (declarations theory)
    (procedures_from theory [] 1 theory.procedures)
    formed in
    let filled = read-lines theory.version fs
    (all-readable theory h.logic named-here (all_filled fs after) walk [] 1 readable places.1 le) in
    record {
      version = h.version;
      logic = h.logic;
      some = keeps-one (all_filled fs after) walk h.some;
      procedures = filled.0;
      words = (
        h.words.0,
        each-both (AreWords theory.version) (map logic_line theory.logic)
            (procedures_lines theory.version fs) lines.0 filled.1,
      );
    }
