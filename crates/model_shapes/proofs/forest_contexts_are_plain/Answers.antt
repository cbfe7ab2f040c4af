use Rattle.model_shapes.proofs.ByConstruction.{forest-plain, from_forest, forest-once}
use Rattle.model_shapes.proofs.forest_contexts_are_plain.Goals as goal

pub returns-clause-plain : goal.returns-clause-plain
returns-clause-plain c = forest-plain

pub returns-clause-constructed : goal.returns-clause-constructed
returns-clause-constructed c = from_forest

pub returns-clause-once : goal.returns-clause-once
returns-clause-once c = forest-once
