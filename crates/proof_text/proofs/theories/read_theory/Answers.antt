use Rattle.proof_text.proofs.theories.read_theory.Goals as goal

pub returns-in-Err-clause-bad_text : goal.returns-in-Err-clause-bad_text
returns-in-Err-clause-bad_text c = rw c.of_list.ensures at c.in-Err.ensures.bad_text
