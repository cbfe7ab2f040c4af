use Rattle.filling_laws.proofs.ShortTexts.{conjuncts-nested, form-nested, filling-nested}
use Rattle.filling_laws.proofs.what_is_given_nests_little.Goals as goal

pub returns-clause-conjuncts : goal.returns-clause-conjuncts
returns-clause-conjuncts c = conjuncts-nested

pub returns-clause-form : goal.returns-clause-form
returns-clause-form c = form-nested

pub returns-clause-filling : goal.returns-clause-filling
returns-clause-filling c = filling-nested
