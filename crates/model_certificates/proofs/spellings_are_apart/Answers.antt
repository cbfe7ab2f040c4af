use Rattle.model_grammar.specs.Writing.{term_lexemes, command_lexemes}
use Rattle.model_grammar.specs.TheoryWriting.{formula_lexemes}
use Rattle.model_certificates.proofs.Words.{are_held}
use Rattle.model_certificates.proofs.Exact.{apart}
use Rattle.model_certificates.proofs.TermReaders.{term_exact}
use Rattle.model_certificates.proofs.FormulaReaders.{formula_exact}
use Rattle.model_certificates.proofs.CommandReaders.{command_exact}
use Rattle.model_certificates.proofs.spellings_are_apart.Goals as goal

pub returns-clause-terms : goal.returns-clause-terms
returns-clause-terms c = λ v place n a b s t wa fa oa wb fb ob e.
    apart (term_exact v place n) a b s t wa fa (are_held v (term_lexemes a) oa) wb fb
    (are_held v (term_lexemes b) ob) e

pub returns-clause-formulas : goal.returns-clause-formulas
returns-clause-formulas c = λ v n a b s t wa fa oa wb fb ob e.
    apart (formula_exact v n) a b s t wa fa (are_held v (formula_lexemes a) oa) wb fb
    (are_held v (formula_lexemes b) ob) e

pub returns-clause-commands : goal.returns-clause-commands
returns-clause-commands c = λ v n a b s t wa fa oa wb fb ob e.
    apart (command_exact v n) a b s t wa fa (are_held v (command_lexemes a) oa) wb fb
    (are_held v (command_lexemes b) ob) e
