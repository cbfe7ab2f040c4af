use Rattle.model_round_trip.proofs.Laws.{theory_reads, theory_reads_again}
use Rattle.model_round_trip.proofs.printed_theories_read_back.Goals as goal

pub returns-clause-written : goal.returns-clause-written
returns-clause-written c = theory_reads

pub returns-clause-again : goal.returns-clause-again
returns-clause-again c = theory_reads_again
