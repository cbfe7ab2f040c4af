use Rattle.std.proofs.Common.{[], ◌++◌, map, subst, sym, ap, ◌∙◌, IfSome}
use Rattle.model_text.specs.Tokens.{tokens_of}
use Rattle.text_tokens.specs.Reading.{AreRead}
use Rattle.text_tokens.specs.Tokens.{token_of}
use Rattle.text_tokens.proofs.ReadingLemmas.{whole_read, part_read}
use Rattle.text_tokens.proofs.reading.token_list.Goals as goal

pub returns-then-end-bytes : goal.returns-then-end-bytes
returns-then-end-bytes c =
    let so : AreRead c.args.bytes.now (map token_of c.new-tokens.result)
    (map token_of c.read_lines.new.tokens) [] c.in-Some.end =
    subst (λ o. IfSome o (AreRead c.args.bytes.now (map token_of c.new-tokens.result)
    (map token_of c.read_lines.new.tokens) [])) c.in-Some.is c.in_ok-end.ensures.goes_on in
    sym (ap (λ ts. map token_of ts ++ tokens_of c.args.bytes.now) (sym c.new-tokens.ensures)
    ∙ part_read c.args.bytes.now _ _ _ c.in-Some.end so c.if-end-bytes.true
    c.in_ok-push_token.ensures)

pub returns : goal.returns
returns c =
    let so : AreRead c.args.bytes.now (map token_of c.new-tokens.result)
    (map token_of c.read_lines.new.tokens) [] c.in-Some.end =
    subst (λ o. IfSome o (AreRead c.args.bytes.now (map token_of c.new-tokens.result)
    (map token_of c.read_lines.new.tokens) [])) c.in-Some.is c.in_ok-end.ensures.goes_on in
    sym (ap (λ ts. map token_of ts ++ tokens_of c.args.bytes.now) (sym c.new-tokens.ensures)
    ∙ whole_read c.args.bytes.now _ _ c.in-Some.end so c.if-end-bytes.false)
