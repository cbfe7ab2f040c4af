use Rattle.model_shapes.proofs.ByConstruction.{grove-plain, in_grove, grove-once, same-context}
use Rattle.model_shapes.proofs.grove_contexts_are_plain.Goals as goal

pub returns-clause-plain : goal.returns-clause-plain
returns-clause-plain c = grove-plain

pub returns-clause-constructed : goal.returns-clause-constructed
returns-clause-constructed c = in_grove

pub returns-clause-once : goal.returns-clause-once
returns-clause-once c = λ a b ba bb h. (grove-once a b ba bb h, same-context a b)
