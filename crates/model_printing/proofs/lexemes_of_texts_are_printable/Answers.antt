use Rattle.model_printing.proofs.Found.{token_printable}
use Rattle.model_printing.proofs.lexemes_of_texts_are_printable.Goals as goal

pub returns : goal.returns
returns c = token_printable
