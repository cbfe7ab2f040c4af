use Rattle.std.proofs.Common.{◌≡◌, ℕ, List, Some, ◌∙◌, slice_get}
use Rattle.std.proofs.lemmas.Result.{err_from_is_err_and}
use Rattle.model_limits.specs.Limits.{standard_limits}
use Rattle.model_commands.specs.Theories.{Theory}
use Rattle.model_text.specs.Lexemes.{Lexeme, bad_lexeme}
use Rattle.model_grammar.specs.Theories.{SpellsTheory}
use Rattle.model_grammar.proofs.Sizes.{theory_small}
use Rattle.model_answers.specs.Output.{bad_text_line}
use Rattle.theory_syntax.specs.Theories.{theory_of}
use Rattle.domcheck_core.specs.Answers.{Unread}
use Rattle.domcheck_core.specs.Refusals.{IfAnswer}
use Rattle.domcheck_core.proofs.Counts.{few_lexemes}
use Rattle.model_round_trip.proofs.NoBadToken.{none_at, theory_good}
use Rattle.domcheck_core.proofs.Refusing.{handed_on, over, nothing, read_whole}
use Rattle.domcheck_core.proofs.file.spelled_theory.Goals as goal

spelled_good : (t : Theory) (s : List Lexeme) → SpellsTheory t s → (place : ℕ)
    → slice_get s place ≡ Some bad_lexeme → ⊥
spelled_good t s l = none_at s (theory_good l)

pub returns-in_err-source-clause-told : goal.returns-in_err-source-clause-told
returns-in_err-source-clause-told c =
    let p = err_from_is_err_and c.from_residual.result c.from_residual.ensures.1 in
    handed_on (λ e. IfAnswer e (Unread SpellsTheory standard_limits.file_nesting bad_text_line
    c.args.bytes.now)) c.from_residual.result p.0 c.in_err-source.field-0.0 p.1 p.2
    (over SpellsTheory standard_limits.file_nesting bad_text_line c.args.bytes.now
    c.in_err-source.field-0.0 c.in_err-source.ensures.told)

pub returns-in-Ok-clause-reads : goal.returns-in-Ok-clause-reads
returns-in-Ok-clause-reads c =
    (read_whole SpellsTheory spelled_good standard_limits.file_nesting c.args.bytes.now _ _
    c.front.ensures c.in_ok-source.ensures.passes c.in_ok-source.ensures.whole
    (theory_of c.in-Ok.read.theory) c.in-Ok.ensures.found).passes

pub returns-in-Ok-clause-spelled : goal.returns-in-Ok-clause-spelled
returns-in-Ok-clause-spelled c =
    (read_whole SpellsTheory spelled_good standard_limits.file_nesting c.args.bytes.now _ _
    c.front.ensures c.in_ok-source.ensures.passes c.in_ok-source.ensures.whole
    (theory_of c.in-Ok.read.theory) c.in-Ok.ensures.found).spelled

pub returns-in-Ok-clause-small : goal.returns-in-Ok-clause-small
returns-in-Ok-clause-small c =
    theory_small (read_whole SpellsTheory spelled_good standard_limits.file_nesting
    c.args.bytes.now _ _ c.front.ensures c.in_ok-source.ensures.passes c.in_ok-source.ensures.whole
    (theory_of c.in-Ok.read.theory) c.in-Ok.ensures.found).spelled
    (few_lexemes c.args.bytes.now c.in_ok-source.ensures.small)

pub returns-in_err-pass_no_limit-in-Err-clause-told :
    goal.returns-in_err-pass_no_limit-in-Err-clause-told
returns-in_err-pass_no_limit-in-Err-clause-told c =
    let p = err_from_is_err_and c.from_residual-in_err-pass_no_limit-in-Err.result
    c.from_residual-in_err-pass_no_limit-in-Err.ensures.1 in
    handed_on (λ e. IfAnswer e (Unread SpellsTheory standard_limits.file_nesting bad_text_line
    c.args.bytes.now)) c.from_residual-in_err-pass_no_limit-in-Err.result p.0
    c.in_err-pass_no_limit-in-Err.field-0.0 p.1 p.2
    (over SpellsTheory standard_limits.file_nesting bad_text_line c.args.bytes.now
    c.in_err-pass_no_limit-in-Err.field-0.0 c.in_err-pass_no_limit-in-Err.ensures.told)

pub returns-in-BadText-clause-told : goal.returns-in-BadText-clause-told
returns-in-BadText-clause-told c =
    nothing SpellsTheory standard_limits.file_nesting bad_text_line c.args.bytes.now _
    c.in-BadText.token
    (c.front.ensures ∙ c.in_ok-source.ensures.whole c.in_ok-pass_no_limit-in-Err.ensures.passes)
    c.in_ok-pass_no_limit-in-Err.ensures.passes
    (rw c.in-BadText.is at c.in-Err.ensures.bad_text)
    (rw c.in-BadText.is at c.in-Err.ensures.fault_token)
