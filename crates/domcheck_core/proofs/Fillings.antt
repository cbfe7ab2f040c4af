-- What filling needs of the theory of a file, and what it leaves of the fillers.
use Rattle.std.proofs.Common.{◌≡◌, ◌≤◌, List, [], ◌∷◌, None, nat_le}
use Rattle.std.proofs.lemmas.Bool.{leb-true}
use Rattle.model_limits.specs.Limits.{variables_limit, steps_limit, standard_limits}
use Rattle.model_commands.specs.Theories.{Theory}
use Rattle.model_files.specs.FileLimits.{variables_within, step_count}
use Rattle.model_answers.specs.Texts.{theory_limit}
use Rattle.model_filling.specs.Offers.{Voice}
use Rattle.filled_theory_laws.proofs.FilledFiles.{no-limit}
use Rattle.theory_filler.specs.Answers.{WereAsked, not_at_all}

-- a theory that passes no limit has no more steps than the most
pub few-steps : (theory : Theory) → theory_limit theory ≡ None
    → step_count theory.procedures ≤ standard_limits.proof_steps
few-steps theory within =
    leb-true (step_count theory.procedures) standard_limits.proof_steps
    (no-limit (variables_within theory.procedures)
    (nat_le (step_count theory.procedures) standard_limits.proof_steps) variables_limit steps_limit
    within).1

-- fillers that weren't asked
pub unasked : (voices : List Voice) → WereAsked voices voices
unasked [] = tt
unasked (voice ∷ voices) = (not_at_all, unasked voices)
