use Rattle.std.proofs.Common.{◌≡◌, ℕ, List, map, ap, ◌∙◌, arith, length-take}
use Rattle.std.proofs.lemmas.List.{map-id}
use Rattle.model_text.specs.Tokens.{Piece, piece_length, piece_at}
use Rattle.text_tokens.specs.Pieces.{piece_of}
use Rattle.text_tokens.specs.Tokens.{kind_of}
use Rattle.text_tokens.proofs.ReadingLemmas.{front_le, single_parts, piece_fits, gap_fits, token_fits, further, read_gap, read_token, ends_bad}
use Rattle.text_tokens.proofs.reading.read_piece.Goals as goal

-- what stands at the front of characters stands at the front of their codes
of_line : (piece : Piece) (line : List ℕ) → piece ≡ piece_at (map (λ c. c) line)
    → piece ≡ piece_at line
of_line piece line is = is ∙ ap piece_at (map-id line)

pub slice_bounds-own-end : goal.slice_bounds-own-end
slice_bounds-own-end c =
    omega (
      arith,
      length-take c.len.result c.args.line.now,
      piece_fits c.args.line.now (piece_of c.piece_at-piece.result)
          (of_line _ c.args.line.now c.piece_at-piece.ensures),
    )

pub advanced-to-requires-clause-within : goal.advanced-to-requires-clause-within
advanced-to-requires-clause-within c = omega (arith, front_le c.args.line.now c.len.result)

pub advanced-to-requires-clause-single : goal.advanced-to-requires-clause-single
advanced-to-requires-clause-single c = λ single.
    (single_parts c.args.line.now c.len.result (c.requires.single single)).0

pub returns-in-Gap-clause-goes_on : goal.returns-in-Gap-clause-goes_on
returns-in-Gap-clause-goes_on c =
    read_gap c.args.bytes.now c.args.line.now _ c.args.from c.advanced-to.result c.in-Gap.field-0
    c.len.result (of_line _ c.args.line.now c.in-Gap.ensures)
    (c.len.ensures ∙ ap (λ p. piece_length (piece_of p)) c.in-Gap.is)
    c.requires.some c.advanced-to.ensures.is c.advanced-to.ensures.number
    c.advanced-to.ensures.place

pub returns-in-Gap-clause-further : goal.returns-in-Gap-clause-further
returns-in-Gap-clause-further c =
    further c.args.line.now c.args.from c.advanced-to.result c.in-Gap.field-0 c.len.result
    (gap_fits c.args.line.now c.in-Gap.field-0 (of_line _ c.args.line.now c.in-Gap.ensures))
    (c.len.ensures ∙ ap (λ p. piece_length (piece_of p)) c.in-Gap.is)
    c.advanced-to.ensures.number

pub returns-in_ok-push_token-in-Token-clause-goes_on :
    goal.returns-in_ok-push_token-in-Token-clause-goes_on
returns-in_ok-push_token-in-Token-clause-goes_on c =
    read_token c.args.bytes.now c.args.line.now _ _ c.args.from c.advanced-to.result
    (kind_of c.in-Token.kind) c.in-Token.field-1 c.len.result
    (of_line _ c.args.line.now c.in-Token.ensures)
    (c.len.ensures ∙ ap (λ p. piece_length (piece_of p)) c.in-Token.is)
    c.requires.some c.advanced-to.ensures.is c.advanced-to.ensures.number
    c.advanced-to.ensures.place c.in_ok-push_token-in-Token.ensures

pub returns-in_ok-push_token-in-Token-clause-further :
    goal.returns-in_ok-push_token-in-Token-clause-further
returns-in_ok-push_token-in-Token-clause-further c =
    further c.args.line.now c.args.from c.advanced-to.result c.in-Token.field-1 c.len.result
    (token_fits c.args.line.now (kind_of c.in-Token.kind) c.in-Token.field-1
    (of_line _ c.args.line.now c.in-Token.ensures))
    (c.len.ensures ∙ ap (λ p. piece_length (piece_of p)) c.in-Token.is)
    c.advanced-to.ensures.number

pub returns-in_ok-push_token-in-Nothing-clause-ends :
    goal.returns-in_ok-push_token-in-Nothing-clause-ends
returns-in_ok-push_token-in-Nothing-clause-ends c =
    ends_bad c.args.bytes.now c.args.line.now _ _ c.args.from
    (of_line _ c.args.line.now c.in-Nothing.ensures)
    c.requires.some c.requires.within c.in_ok-push_token-in-Nothing.ensures
