-- The limits of a text, as those of its bytes and its tokens, and the answers to them.
use Rattle.std.proofs.Common.{◌≡◌, ◌≤◌, ◌<◌, ◌∙◌, ℕ, List, Bool, ap, sym, subst, Option, Some, option_map, refl, length}
use Rattle.std.proofs.lemmas.Bool.{le-leb, lt-leb}
use Rattle.model_limits.specs.Limits.{LimitKind, file_limit, standard_limits}
use Rattle.model_limits.specs.FirstOf.{or_else, unless}
use Rattle.model_text.specs.Lexemes.{Lexeme}
use Rattle.model_text.specs.Nesting.{lexemes_of, token_limit}
use Rattle.model_answers.specs.Texts.{limit_passed}
use Rattle.model_answers.specs.Output.{limit_line}
use Rattle.dom_terms.specs.declared.limits.LimitKind as own
use Rattle.dom_terms.specs.declared.limits.LimitKind.TheVariants as l
use Rattle.dom_terms.specs.Limits.{NamesLimit, limit_kind_of}
use Rattle.domcheck_core.specs.Answers.{limit_named, limit_answer}
use Rattle.domcheck_core.specs.declared.status.Status.TheVariants as status

-- a text with more bytes than the most passes that limit
pub large_text : (most : ℕ) (bytes : List ℕ) → standard_limits.file_bytes < length bytes
    → limit_passed most bytes ≡ Some file_limit
large_text most bytes long = ap (λ (b : Bool). or_else (unless b file_limit)
    (token_limit most 0 (lexemes_of bytes))) (lt-leb _ _ long)

-- one with no more passes the limit that its tokens do
pub few_text : (most : ℕ) (bytes : List ℕ) → length bytes ≤ standard_limits.file_bytes
    → limit_passed most bytes ≡ token_limit most 0 (lexemes_of bytes)
few_text most bytes small =
    ap (λ (b : Bool). or_else (unless b file_limit) (token_limit most 0 (lexemes_of bytes)))
    (le-leb _ _ small)

module _ (most : ℕ) (bytes : List ℕ) (seen : List Lexeme) (named : Option own.LimitKind)
    (small : length bytes ≤ standard_limits.file_bytes)
    (names : NamesLimit named (token_limit most 0 seen))
    (read : seen ≡ lexemes_of bytes) where
  -- one with no more passes no other limit than its tokens do
  pub limit_of_tokens : NamesLimit named (limit_passed most bytes)
  limit_of_tokens =
      let few : limit_passed most bytes ≡ token_limit most 0 seen =
      few_text most bytes small ∙ ap (λ (z : List Lexeme). token_limit most 0 z) (sym read) in
      subst (NamesLimit named) (sym few) names

-- the name of a limit names it again
named_again : (kind : own.LimitKind) → limit_named (limit_kind_of kind) ≡ kind
named_again l.File = refl
named_again l.Nesting = refl
named_again l.Text = refl
named_again l.Variables = refl
named_again l.Steps = refl
named_again l.Nodes = refl
named_again l.Identifier = refl
named_again l.Number = refl
named_again l.Depth = refl
named_again l.Straight = refl
named_again l.Watch = refl

-- the answer to the limit that is named
pub past_limit : (kind : own.LimitKind) (limit : Option LimitKind) → NamesLimit (Some kind) limit
    → option_map limit_answer limit
    ≡ Some (status.Limit kind, limit_line (limit_kind_of kind))
past_limit kind limit e =
    ap (λ (z : Option LimitKind). option_map limit_answer z) e
    ∙ ap (λ (z : own.LimitKind). Some (status.Limit z, limit_line (limit_kind_of kind)))
    (named_again kind)
