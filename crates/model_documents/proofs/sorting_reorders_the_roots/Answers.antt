use Rattle.model_documents.proofs.SortedRoots.{sorted-same, sorted-WellFormed, sorted-rising, sorted-kept}
use Rattle.model_documents.proofs.sorting_reorders_the_roots.Goals as goal

pub returns-clause-same : goal.returns-clause-same
returns-clause-same c = sorted-same

pub returns-clause-well_formed : goal.returns-clause-well_formed
returns-clause-well_formed c = sorted-WellFormed

pub returns-clause-rising : goal.returns-clause-rising
returns-clause-rising c = sorted-rising

pub returns-clause-kept : goal.returns-clause-kept
returns-clause-kept c = sorted-kept
