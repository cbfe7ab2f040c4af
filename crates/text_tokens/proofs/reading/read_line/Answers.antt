use Rattle.std.proofs.Common.{◌-◌, map, arith, subst, IfSome, IfNone}
use Rattle.text_tokens.specs.declared.positions.Position.{Position}
use Rattle.text_tokens.specs.Reading.{GoesOn, EndsIn}
use Rattle.text_tokens.specs.Tokens.{token_of}
use Rattle.text_tokens.proofs.ReadingLemmas.{read_further, left_ends, single_left, ends_left}
use Rattle.text_tokens.proofs.reading.read_line.Goals as goal

pub read_piece-requires-clause-within : goal.read_piece-requires-clause-within
read_piece-requires-clause-within c =
    omega (
      arith,
      left_ends c.args.bytes.now c.args.line.now c.loop-left.left.now _ _ c.args.from
          c.loop-left.position c.loop-left.invariant,
    )

pub read_piece-requires-clause-single : goal.read_piece-requires-clause-single
read_piece-requires-clause-single c = λ single.
    single_left c.args.bytes.now c.args.line.now c.loop-left.left.now _ _ c.args.from
    c.loop-left.position c.loop-left.invariant (c.requires.single single)

pub returns-in_default-clause-ends : goal.returns-in_default-clause-ends
returns-in_default-clause-ends c =
    ends_left c.args.bytes.now c.args.line.now c.loop-left.left.now _ _ _ c.args.from
    c.loop-left.position c.loop-left.invariant
    (subst (λ o. IfNone o (EndsIn c.args.bytes.now c.loop-left.left.now
    (map token_of c.loop-left.tokens) c.loop-left.position
    (map token_of c.read_piece.new.tokens))) c.in_default.is c.in_ok-next.ensures.ends)

pub loop-left-preserved : goal.loop-left-preserved
loop-left-preserved c =
    let on : GoesOn c.args.bytes.now c.loop-left.left.now (map token_of c.loop-left.tokens)
    c.loop-left.position (map token_of c.read_piece.new.tokens)
    (c.in-Some.next.number - c.loop-left.position.number) c.in-Some.next =
    subst (λ o. IfSome o (λ (to : Position). GoesOn c.args.bytes.now c.loop-left.left.now
    (map token_of c.loop-left.tokens) c.loop-left.position
    (map token_of c.read_piece.new.tokens) (to.number - c.loop-left.position.number) to))
    c.in-Some.is c.in_ok-next.ensures.goes_on in
    read_further c.args.bytes.now c.args.line.now c.loop-left.left.now _ _ _ c.args.from
    c.loop-left.position c.in-Some.next (c.in-Some.next.number - c.loop-left.position.number)
    c.loop-left.invariant on
