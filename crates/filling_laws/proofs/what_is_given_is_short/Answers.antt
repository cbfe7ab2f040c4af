use Rattle.filling_laws.proofs.ShortTexts.{conjuncts-bounded, form-bounded, filling-bounded}
use Rattle.filling_laws.proofs.what_is_given_is_short.Goals as goal

pub returns-clause-conjuncts : goal.returns-clause-conjuncts
returns-clause-conjuncts c = conjuncts-bounded

pub returns-clause-form : goal.returns-clause-form
returns-clause-form c = form-bounded

pub returns-clause-filling : goal.returns-clause-filling
returns-clause-filling c = filling-bounded
