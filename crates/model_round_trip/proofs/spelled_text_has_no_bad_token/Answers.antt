use Rattle.model_round_trip.proofs.NoBadToken.{none_at, theory_good, grove_good}
use Rattle.model_round_trip.proofs.spelled_text_has_no_bad_token.Goals as goal

pub returns-clause-theories : goal.returns-clause-theories
returns-clause-theories c = λ t lexemes l. none_at lexemes (theory_good l)

pub returns-clause-groves : goal.returns-clause-groves
returns-clause-groves c = λ g lexemes l. none_at lexemes (grove_good l)
