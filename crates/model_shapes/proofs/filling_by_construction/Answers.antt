use Rattle.model_shapes.proofs.Basics.{beside-none}
use Rattle.model_shapes.specs.Contexts.{tree_thing, inner_thing}
use Rattle.model_shapes.proofs.ByConstruction.{fill-between, fill-before, fill-root}
use Rattle.model_shapes.proofs.filling_by_construction.Goals as goal

pub returns-clause-at_hole : goal.returns-clause-at_hole
returns-clause-at_hole c = beside-none

pub returns-clause-at_forest : goal.returns-clause-at_forest
returns-clause-at_forest c = λ a b d x z y. fill-between a (inner_thing x) b d z y

pub returns-clause-at_grove : goal.returns-clause-at_grove
returns-clause-at_grove c = fill-before

pub returns-clause-at_root : goal.returns-clause-at_root
returns-clause-at_root c = λ t r d z. fill-root (tree_thing t) r d z
