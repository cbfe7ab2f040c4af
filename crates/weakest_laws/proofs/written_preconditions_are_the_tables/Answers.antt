use Rattle.weakest_laws.proofs.WrittenExact.{written-tables}
use Rattle.weakest_laws.proofs.written_preconditions_are_the_tables.Goals as goal

pub returns : goal.returns
returns c = written-tables
