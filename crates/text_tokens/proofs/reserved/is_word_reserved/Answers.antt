use Rattle.std.proofs.Common.{◌≡◌, ◌∙◌, ℕ, List, bytes_eq, drop, subst}
use Rattle.std.specs.List.{list_any}
use Rattle.model_text.specs.Lexemes.{is_reserved}
use Rattle.text_tokens.proofs.ReservedLemmas.{first_and_rest}
use Rattle.text_tokens.proofs.reserved.is_word_reserved.Goals as goal

pub returns-in-len1-up : goal.returns-in-len1-up
returns-in-len1-up c =
    c.is_among.ensures
    ∙ subst (λ (word : List ℕ). list_any (λ w. bytes_eq word w.now) c.words_from.result.now
    ≡ is_reserved word)
    (first_and_rest c.as_bytes.result.now c.args.word.now c.in-len1-up.len_at_least
    c.as_bytes.ensures.value) (c.words_from.ensures (drop 1 c.args.word.now))
