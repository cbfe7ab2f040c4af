use Rattle.heap_runner.proofs.StackLaws.{no_return}
use Rattle.heap_runner.proofs.pieces.Piece.returns.Goals as goal

pub returns-in_default : goal.returns-in_default
returns-in_default c = no_return c.args.self.now c.in_default.not-Return
