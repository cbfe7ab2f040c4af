use Rattle.model_printing.proofs.Groves.{grove_reads_back}
use Rattle.model_printing.proofs.printed_groves_read_back.Goals as goal

pub returns : goal.returns
returns c = grove_reads_back
