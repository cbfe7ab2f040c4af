use Rattle.std.proofs.Common.{◌+◌, ap, ◌∙◌, arith}
use Rattle.text_tokens.proofs.AsciiLemmas.{gap_in, token_in, behind_gap, line_behind, space_gap, space_line}
use Rattle.text_tokens.specs.Tokens.{kind_of}
use Rattle.text_tokens.proofs.ascii_watching.found.Goals as goal

pub overflow_add-place-in-Gap : goal.overflow_add-place-in-Gap
overflow_add-place-in-Gap c =
    let p = gap_in c.args.bytes.now c.loop-place.place c.in-Gap.length
    c.loop-place.invariant.within c.in-Gap.ensures in
    omega (arith, p.1, c.requires.bounded)

pub newlines_in-line-requires-clause-within : goal.newlines_in-line-requires-clause-within
newlines_in-line-requires-clause-within c =
    let p = gap_in c.args.bytes.now c.loop-place.place c.in-Gap.length
    c.loop-place.invariant.within c.in-Gap.ensures in
    p.1

pub loop-place-smaller : goal.loop-place-smaller
loop-place-smaller c =
    let p = gap_in c.args.bytes.now c.loop-place.place c.in-Gap.length
    c.loop-place.invariant.within c.in-Gap.ensures in
    omega (arith, p.0, p.1)

pub loop-place-preserved : goal.loop-place-preserved
loop-place-preserved c =
    let p = gap_in c.args.bytes.now c.loop-place.place c.in-Gap.length
    c.loop-place.invariant.within c.in-Gap.ensures in
    record {
      within = p.1;
      line_is = ap (λ n. c.loop-place.line + n) c.newlines_in-line.ensures
          ∙ line_behind c.args.bytes.now c.loop-place.line c.loop-place.place c.in-Gap.length
          c.loop-place.invariant.line_is;
      same = behind_gap c.args.bytes.now c.loop-place.place c.in-Gap.length
          c.loop-place.invariant.within c.in-Gap.ensures ∙ c.loop-place.invariant.same;
    }

pub overflow_cast-result-in-Token : goal.overflow_cast-result-in-Token
overflow_cast-result-in-Token c =
    let p = token_in c.args.bytes.now c.loop-place.place c.in-Token.length (kind_of c.in-Token.kind)
    c.loop-place.invariant.within c.in-Token.ensures in
    omega (arith, p.1, c.requires.bounded)

pub loop-place-preserved-then-is_space_at : goal.loop-place-preserved-then-is_space_at
loop-place-preserved-then-is_space_at c =
    let is = c.if-is_space_at.ensures in
    let e = space_gap c.args.bytes.now c.loop-place.place is in
    let p = gap_in c.args.bytes.now c.loop-place.place 1 c.loop-place.invariant.within e in
    record {
      within = p.1;
      line_is = space_line c.args.bytes.now c.loop-place.line c.loop-place.place is
          c.loop-place.invariant.line_is;
      same = behind_gap c.args.bytes.now c.loop-place.place 1 c.loop-place.invariant.within e
          ∙ c.loop-place.invariant.same;
    }
