use Rattle.model_printing.proofs.Terminals.{terminal_printable}
use Rattle.model_printing.proofs.terminals_are_printable.Goals as goal

pub returns : goal.returns
returns c = terminal_printable
