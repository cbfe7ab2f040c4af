use Rattle.generator_laws.proofs.MadeText.{text_is_made}
use Rattle.generator_laws.proofs.what_is_printed_is_the_text_of_make.Goals as goal

pub returns : goal.returns
returns c = text_is_made
