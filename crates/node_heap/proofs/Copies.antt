-- A heap of the grove of a heap stands for the same grove.
use Rattle.std.proofs.Common.{◌≡◌, subst, sym, ◌∙◌}
use Rattle.model_shapes.specs.Sorts.{shape, grove}
use Rattle.model_shapes.specs.Trees.{Trees, WellFormed}
use Rattle.model_shapes.specs.Shapes.{SameAt, Shaped}
use Rattle.model_documents.specs.Roots.{sorted_roots}
use Rattle.model_documents.proofs.SortedRoots.{sorted-same, sorted-WellFormed}

pub sorted_well : (g sorted : Trees) → sorted ≡ sorted_roots g → Shaped (shape grove) g
    → WellFormed sorted
sorted_well g sorted e is = subst WellFormed (sym e) (sorted-WellFormed g is.well_formed)

pub same_again : (g sorted copied : Trees) → sorted ≡ sorted_roots g → SameAt grove copied sorted
    → SameAt grove copied g
same_again g sorted copied e same t =
    subst (λ (z : Trees). SameAt grove copied z) e same t ∙ sorted-same g t
