-- What reads as a filled theory is well formed and accepted, and passes no limit of theories where
-- the filled theory doesn't.
use Rattle.std.proofs.Common.{◌≡◌, ◌∙◌, ℕ, Bool, true, false, ◌&&◌, List, [], ◌∷◌, length, nat_le, None, refl, sym, ap}
use Rattle.model_limits.specs.Limits.{standard_limits, variables_limit, steps_limit, file_limit, LimitKind}
use Rattle.model_limits.specs.FirstOf.{or_else, unless}
use Rattle.model_formulas.specs.Formulas.{Named}
use Rattle.model_commands.specs.Theories.{ProcedureOf, Theory}
use Rattle.model_files.specs.FileFaults.{declared_by, IsWellFormedTheory}
use Rattle.model_files.specs.FileLimits.{variables_within, step_count}
use Rattle.model_grammar.specs.TheoryWriting.{theory_text}
use Rattle.model_round_trip.specs.ReadBack.{without_lines}
use Rattle.model_answers.specs.Texts.{theory_limit}
use Rattle.rule_table.specs.Accepted.{IsAccepted}
use Rattle.generator_laws.proofs.Lines.{lines-apart}
use Rattle.model_filling.specs.Offers.{Voice}
use Rattle.model_filling.specs.Filled as F
use Rattle.model_filling.specs.Filled.{WalkAll, IsFilled, with_proof, all_filled, fails_in, in_front, filled_limit}
use Rattle.model_filling.proofs.Walks.{filled-accepted}
use Rattle.model_filling.proofs.WellFormed.{filled-formed}
use Rattle.filled_theory_laws.proofs.WithoutLines.{formed-apart, variables-apart, count-apart}

-- of two limits none is passed
pub no-limit : (a b : Bool) (k l : LimitKind) → or_else (unless a k) (unless b l) ≡ None
    → (a ≡ true) × (b ≡ true)
no-limit true true k l e = (refl, refl)
no-limit true false k l e = absurd cc
no-limit false b k l e = absurd cc

-- the variables of a procedure aren't of its proof
abbrev SameVariables : List (ProcedureOf Named) → F.Outcome → Type 0
SameVariables fs (all_filled gs voices) = variables_within fs ≡ variables_within gs
SameVariables fs (fails_in bad) = Unit

same-variables : {theory : Theory} {number : ℕ} {fs : List (ProcedureOf Named)}
    {voices : List Voice} (r : F.Outcome) → WalkAll theory number fs voices r → SameVariables fs r
same-variables (all_filled [] voices) F.all_done = refl
same-variables (fails_in bad) (F.fails_first walk) = tt
same-variables r (F.fills_first {f = f} {fs = fs} {proof = proof} {rest = rest} walk following) =
    with-first rest (same-variables rest following)
  where
    with-first : (rest : F.Outcome) → SameVariables fs rest
        → SameVariables (f ∷ fs) (in_front (with_proof f proof) rest)
    with-first (all_filled gs v) e =
        ap (λ b. nat_le (length (declared_by f)) standard_limits.variables && b) e
    with-first (fails_in bad) e = tt

filled-variables : (theory : Theory) (voices : List Voice) (t : Theory)
    → IsFilled theory voices t
    → variables_within theory.procedures ≡ variables_within t.procedures
filled-variables theory voices t (F.filled {fs = fs} {after = after} walk) =
    same-variables (all_filled fs after) walk

pub read-formed : (theory : Theory) (voices : List Voice) (t read : Theory)
    → IsFilled theory voices t → IsWellFormedTheory theory
    → without_lines read ≡ without_lines t → IsWellFormedTheory read
read-formed theory voices t read is formed same =
    formed-apart t read (sym same) (filled-formed theory voices t is formed)

pub read-accepted : (theory : Theory) (voices : List Voice) (t read : Theory)
    → IsFilled theory voices t → without_lines read ≡ without_lines t → IsAccepted read
read-accepted theory voices t read is same =
    lines-apart t read (sym same) (filled-accepted theory voices t is)

pub read-within : (theory : Theory) (voices : List Voice) (t read : Theory)
    → IsFilled theory voices t → theory_limit theory ≡ None → filled_limit t ≡ None
    → without_lines read ≡ without_lines t → theory_limit read ≡ None
read-within theory voices t read is within few same =
    let own = no-limit (variables_within theory.procedures)
    (nat_le (step_count theory.procedures) standard_limits.proof_steps) variables_limit steps_limit
    within in
    let counts = no-limit (nat_le (step_count t.procedures) standard_limits.proof_steps)
    (nat_le (length (theory_text t)) standard_limits.file_bytes) steps_limit file_limit few in
    let variables = variables-apart read t same ∙ sym (filled-variables theory voices t is)
    ∙ own.0 in
    let steps = ap (λ n. nat_le n standard_limits.proof_steps) (count-apart read t same)
    ∙ counts.0 in
    λ i. or_else (unless (variables i) variables_limit) (unless (steps i) steps_limit)
