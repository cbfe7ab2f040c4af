use Rattle.model_documents.proofs.SortedRoots.{rising-equal}
use Rattle.model_documents.proofs.sorted_groves_are_equal_where_the_same.Goals as goal

pub returns : goal.returns
returns c = λ a b wf. rising-equal a b wf.nodes_once
