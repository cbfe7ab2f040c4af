use Rattle.model_formulas.proofs.SortedTerms.{term-fits}
use Rattle.model_formulas.proofs.terms_stand_for_their_sort.Goals as goal

pub returns : goal.returns
returns c = term-fits
