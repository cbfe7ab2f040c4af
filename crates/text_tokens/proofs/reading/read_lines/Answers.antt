use Rattle.std.proofs.Common.{length, map, subst, ◌∙◌, IfSome, IfNone}
use Rattle.text_tokens.specs.Reading.{GoesOn, EndsIn}
use Rattle.text_tokens.specs.Tokens.{token_of}
use Rattle.text_tokens.proofs.ReadingLemmas.{cut_at, none_read, read_to, line_within, single_line, line_read, ends_read}
use Rattle.text_tokens.proofs.reading.read_lines.Goals as goal

pub loop-left-init : goal.loop-left-init
loop-left-init c = (
  c.utf8.text,
  none_read c.args.bytes.now c.args.text.now _ c.first_position-position.result c.requires.is
      (c.first_position-position.ensures.is c.args.bytes.now _)
      c.first_position-position.ensures.number c.first_position-position.ensures.place,
)

pub read_line-requires-clause-is : goal.read_line-requires-clause-is
read_line-requires-clause-is c =
    read_to c.args.bytes.now c.loop-left.left.now _ _ c.loop-left.position c.loop-left.invariant.1

pub read_line-requires-clause-within : goal.read_line-requires-clause-within
read_line-requires-clause-within c =
    let own = c.split_at.result.0.now in
    let later = c.split_at.result.1.now in
    let line = c.as_slice-characters.result.now in
    let cut = cut_at c.loop-left.left.now own later line c.line_length.result
    c.loop-left.invariant.0 c.line_length.ensures.cut c.line_length.ensures.is
    c.split_at.ensures.front c.split_at.ensures.back
    (c.as_slice-characters.ensures.value ∙ c.in_ok-decode.ensures) in
    line_within c.args.bytes.now c.loop-left.left.now own later line _ _ c.loop-left.position
    c.loop-left.invariant.1 cut

pub read_line-requires-clause-single : goal.read_line-requires-clause-single
read_line-requires-clause-single c =
    let own = c.split_at.result.0.now in
    let later = c.split_at.result.1.now in
    let line = c.as_slice-characters.result.now in
    let cut = cut_at c.loop-left.left.now own later line c.line_length.result
    c.loop-left.invariant.0 c.line_length.ensures.cut c.line_length.ensures.is
    c.split_at.ensures.front c.split_at.ensures.back
    (c.as_slice-characters.ensures.value ∙ c.in_ok-decode.ensures) in
    single_line c.loop-left.left.now own later line cut

pub returns-in_default-clause-ends : goal.returns-in_default-clause-ends
returns-in_default-clause-ends c =
    let own = c.split_at.result.0.now in
    let later = c.split_at.result.1.now in
    let line = c.as_slice-characters.result.now in
    let cut = cut_at c.loop-left.left.now own later line c.line_length.result
    c.loop-left.invariant.0 c.line_length.ensures.cut c.line_length.ensures.is
    c.split_at.ensures.front c.split_at.ensures.back
    (c.as_slice-characters.ensures.value ∙ c.in_ok-decode.ensures) in
    ends_read c.args.bytes.now c.loop-left.left.now own later line _ _ _ c.loop-left.position
    c.loop-left.invariant.1 cut
    (subst (λ o. IfNone o (EndsIn c.args.bytes.now line (map token_of c.loop-left.tokens)
    c.loop-left.position (map token_of c.read_line.new.tokens)))
    c.in_default.is c.in_ok-next.ensures.ends)

pub loop-left-preserved : goal.loop-left-preserved
loop-left-preserved c =
    let own = c.split_at.result.0.now in
    let later = c.split_at.result.1.now in
    let line = c.as_slice-characters.result.now in
    let cut = cut_at c.loop-left.left.now own later line c.line_length.result
    c.loop-left.invariant.0 c.line_length.ensures.cut c.line_length.ensures.is
    c.split_at.ensures.front c.split_at.ensures.back
    (c.as_slice-characters.ensures.value ∙ c.in_ok-decode.ensures) in (
      cut.later_utf8,
      line_read c.args.bytes.now c.loop-left.left.now own later line _ _ _ c.loop-left.position
          c.in-Some.next c.loop-left.invariant.1 cut
          (subst (λ o. IfSome o (GoesOn c.args.bytes.now line (map token_of c.loop-left.tokens)
          c.loop-left.position (map token_of c.read_line.new.tokens) (length line)))
          c.in-Some.is c.in_ok-next.ensures.goes_on),
    )
