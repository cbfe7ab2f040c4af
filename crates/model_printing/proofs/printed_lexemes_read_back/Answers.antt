use Rattle.model_printing.proofs.Lines.{same_read_back, text_reads_back}
use Rattle.model_printing.proofs.printed_lexemes_read_back.Goals as goal

pub returns-clause-same : goal.returns-clause-same
returns-clause-same c = same_read_back

pub returns-clause-same_but_for_lines : goal.returns-clause-same_but_for_lines
returns-clause-same_but_for_lines c = text_reads_back
