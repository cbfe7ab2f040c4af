-- There are few tokens: at most one more than there are bytes.
use Rattle.std.proofs.Common.{ℕ, suc, ◌+◌, ◌<◌, ◌≤◌, List, length, arith}
use Rattle.std.proofs.lemmas.List.{length-map}
use Rattle.std.proofs.lemmas.Str.{length-le-encodes}
use Rattle.model_limits.specs.Limits.{standard_limits}
use Rattle.model_text.specs.Lexemes.{lexeme_of}
use Rattle.model_text.specs.Nesting.{lexemes_of}
use Rattle.model_text.specs.Tokens.{tokens_of, characters}
use Rattle.text_tokens.proofs.AsciiLemmas.{few_from}
use Rattle.text_tokens.proofs.ReadingLemmas.{characters-le}

few_tokens : (bytes : List ℕ) → length (tokens_of bytes) ≤ length bytes + 1
unfolding tokens_of
few_tokens bytes =
    let few = few_from bytes (characters bytes) (suc (length (characters bytes))) 0 in
    omega (arith, few, characters-le bytes, length-le-encodes (characters bytes))

-- a text has at most one lexeme more than bytes
pub lexemes-below : (bytes : List ℕ) → length (lexemes_of bytes) ≤ length bytes + 1
lexemes-below bytes = omega (arith, few_tokens bytes, length-map (tokens_of bytes) lexeme_of)

-- few bytes have few lexemes
pub few_lexemes : (bytes : List ℕ) → length bytes ≤ standard_limits.file_bytes
    → length (lexemes_of bytes) < 4294967295
few_lexemes bytes h = omega (arith, lexemes-below bytes)
