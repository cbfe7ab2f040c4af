use Rattle.generator_laws.proofs.Lines.{lines-apart}
use Rattle.generator_laws.proofs.lines_do_not_count.Goals as goal

pub returns : goal.returns
returns c = lines-apart
