-- The texts that are read: the limits that they pass, and the files.
use Rattle.std.specs.Prelude.{◌≡◌, ℕ, nat_le, List, length, Option, None}
use Rattle.model_limits.specs.Limits.{LimitKind, file_limit, variables_limit, steps_limit, standard_limits}
use Rattle.model_limits.specs.FirstOf.{or_else, unless}
use Rattle.model_commands.specs.Theories.{Theory}
use Rattle.model_files.specs.FileFaults.{IsWellFormedTheory}
use Rattle.model_files.specs.FileLimits.{variables_within, step_count}
use Rattle.model_text.specs.Nesting.{token_limit, lexemes_of}
use Rattle.model_grammar.specs.Theories.{SpellsTheory}

-- the limit that a text passes before it is read: that of its bytes, or that of its first token
-- that passes one, where at most so many brackets may be open
abbrev pub limit_passed : ℕ → List ℕ → Option LimitKind
limit_passed most bytes =
    or_else (unless (nat_le (length bytes) standard_limits.file_bytes) file_limit)
    (token_limit most 0 (lexemes_of bytes))

-- the limit that a theory passes: the variables of a procedure, or the steps of all proofs
abbrev pub theory_limit : Theory → Option LimitKind
theory_limit theory = or_else (unless (variables_within theory.procedures) variables_limit)
    (unless (nat_le (step_count theory.procedures) standard_limits.proof_steps) steps_limit)

-- A FILE: these bytes pass no limit and spell this theory, which is well formed and passes none.
pub record IsFile (bytes : List ℕ) (theory : Theory) : Type 0 where
  pub read : limit_passed standard_limits.file_nesting bytes ≡ None
  pub spelled : SpellsTheory theory (lexemes_of bytes)
  pub well_formed : IsWellFormedTheory theory
  pub within : theory_limit theory ≡ None
