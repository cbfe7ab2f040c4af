use Rattle.filled_theory_laws.proofs.FileTexts.{filled-file}
use Rattle.filled_theory_laws.proofs.the_text_of_a_filled_theory_is_an_accepted_file.Goals as goal

pub returns : goal.returns
returns c = filled-file
