use Rattle.std.proofs.Common.{arith}
use Rattle.std.proofs.lemmas.Str.{length-le-encodes}
use Rattle.text_tokens.proofs.PositionLemmas.{line_step}
use Rattle.text_tokens.proofs.positions.advanced.Goals as goal

pub returns-clause-is : goal.returns-clause-is
returns-clause-is c = record {
  counted = omega (arith, length-le-encodes c.args.own.now);
  line_is = omega (arith, line_step c.args.bytes.now c.args.position.place c.width.result);
}
