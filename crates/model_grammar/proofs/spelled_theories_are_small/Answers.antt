use Rattle.model_grammar.proofs.Sizes.{theory_small}
use Rattle.model_grammar.proofs.spelled_theories_are_small.Goals as goal

pub returns : goal.returns
returns c = λ t lexemes l h. theory_small l h
