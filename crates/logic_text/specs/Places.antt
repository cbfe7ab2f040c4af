-- Needn't be believed: the places of terms that those of the program stand for.
use Rattle.model_grammar.specs.Terms as model
use Rattle.logic_text.specs.declared.term_reading.Place.{Place}
use Rattle.logic_text.specs.declared.term_reading.Place.TheVariants as p

-- the place
abbrev pub place_of : Place → model.Place
place_of p.Formula = model.in_formula
place_of p.Command = model.in_command
