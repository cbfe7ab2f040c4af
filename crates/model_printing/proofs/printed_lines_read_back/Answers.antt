use Rattle.model_printing.proofs.Lines.{lines_read_back}
use Rattle.model_printing.proofs.printed_lines_read_back.Goals as goal

pub returns : goal.returns
returns c = lines_read_back
