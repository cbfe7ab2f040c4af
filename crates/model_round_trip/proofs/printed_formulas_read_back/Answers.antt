use Rattle.model_text.specs.Nesting.{lexemes_of}
use Rattle.model_grammar.specs.Writing.{text_of}
use Rattle.model_grammar.specs.TheoryWriting.{formula_lexemes}
use Rattle.model_round_trip.proofs.Laws.{formula_at, formula_reads, formula_reads_again}
use Rattle.model_round_trip.proofs.printed_formulas_read_back.Goals as goal

pub returns-clause-raw : goal.returns-clause-raw
returns-clause-raw c = formula_reads

pub returns-clause-declared : goal.returns-clause-declared
returns-clause-declared c =
    λ d p h utf8 e. formula_at d p (lexemes_of (text_of (formula_lexemes p))) e
    (formula_reads p h utf8)

pub returns-clause-again : goal.returns-clause-again
returns-clause-again c = formula_reads_again
