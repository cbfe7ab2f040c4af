use Rattle.model_shapes.proofs.ByConstruction.{tree-plain, in_tree, tree-once}
use Rattle.model_shapes.proofs.tree_contexts_are_plain.Goals as goal

pub returns-clause-plain : goal.returns-clause-plain
returns-clause-plain c = tree-plain

pub returns-clause-constructed : goal.returns-clause-constructed
returns-clause-constructed c = in_tree

pub returns-clause-once : goal.returns-clause-once
returns-clause-once c = tree-once
