use Rattle.std.proofs.Common.{ap, sym, ◌∙◌, arith}
use Rattle.text_tokens.specs.Tokens.{kind_of}
use Rattle.text_tokens.specs.Within.{within_limits}
use Rattle.text_tokens.proofs.AsciiLemmas.{has_kind, some_in, token_in, token_line}
use Rattle.text_tokens.proofs.WithinLemmas.{rest_within}
use Rattle.text_tokens.proofs.ascii.AsciiFront.near_behind.Goals as goal

pub behind_space-place-requires : goal.behind_space-place-requires
behind_space-place-requires c =
    (some_in _ _ _ _ _ c.args.self.settled (has_kind _ c.if-is_none.ensures)).0

pub overflow_cast-result-in-Some : goal.overflow_cast-result-in-Some
overflow_cast-result-in-Some c =
    let passes = c.in-Some.ensures in
    let p = token_in c.args.self.bytes.now c.behind_space-place.result c.in-Some.length
    (kind_of c.in-Some.kind) c.behind_space-place.ensures.within passes.stands in
    omega (arith, p.1, c.args.self.settled.bounded)

pub invariant_of-result : goal.invariant_of-result
invariant_of-result c =
    let passes = c.in-Some.ensures in
    record {
      settled = record {
        ascii = c.args.self.settled.ascii;
        bounded = c.args.self.settled.bounded;
        within = c.behind_space-place.ensures.within;
        line_is = token_line _ _ _ _ _ c.args.self.settled (has_kind _ c.if-is_none.ensures)
            ∙ c.behind_space-place.ensures.line;
        stands = passes.stands;
      };
      few = passes.few;
    }

pub returns-in-Some : goal.returns-in-Some
returns-in-Some c =
    let self = c.args.self in
    let passes = c.in-Some.ensures in
    sym passes.same
    ∙ ap (within_limits self.most self.open) (c.behind_space-place.ensures.same
    ∙ (some_in _ _ _ _ _ self.settled (has_kind _ c.if-is_none.ensures)).1)
    ∙ rest_within self.most self.open _
