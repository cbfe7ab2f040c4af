use Rattle.std.proofs.Common.{ap, subst, sym, ◌∙◌}
use Rattle.std.specs.Prelude.{slice_get}
use Rattle.model_text.specs.Nesting.{lexemes_of, token_limit}
use Rattle.text_tokens.proofs.SourceLemmas.{listed_all}
use Rattle.text_tokens.proofs.WithinLemmas.{HasNoBad, within_all, within_told}
use Rattle.text_tokens.proofs.sources.Source.new.Goals as goal

pub returns-in-Some : goal.returns-in-Some
returns-in-Some c =
    let bytes = c.args.bytes.now in
    record {
      whole = λ none. c.in-Some.ensures ∙ within_all c.args.most 0 (lexemes_of bytes) none;
      told = λ good. within_told c.args.most 0 (lexemes_of bytes)
          (subst HasNoBad c.in-Some.ensures good);
    }

pub returns-in-Some-token_limit : goal.returns-in-Some-token_limit
returns-in-Some-token_limit c =
    let bytes = c.args.bytes.now in
    let same = listed_all c.in_ok-tokens.tokens bytes c.in_ok-tokens.ensures in
    let passes = sym (ap (token_limit c.args.most 0) same) ∙ c.in-Some-token_limit.ensures in
    record {
      whole = λ none. absurd (cc (none, passes));
      told = λ good. absurd (good 0 (ap (λ l. slice_get l 0) c.stopped.ensures));
    }

pub returns : goal.returns
returns c =
    let bytes = c.args.bytes.now in
    let same = listed_all c.in_ok-tokens.tokens bytes c.in_ok-tokens.ensures in
    record {
      whole = λ _. same;
      told = λ _. sym (ap (token_limit c.args.most 0) same) ∙ c.in-None.ensures;
    }
