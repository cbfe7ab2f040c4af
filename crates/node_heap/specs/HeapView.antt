-- Needn't be believed: the program's promise doesn't speak of it. What contracts see of a heap.
use Rattle.std.specs.Prelude.{ℕ, refl}
use Rattle.std.specs.Coded.{Coded, code_by, coded×, coded_ℕ}
use Rattle.model_shapes.specs.Trees.{Trees}
use Rattle.model_heap.specs.Codes.{trees_code}

-- the grove, and how many nodes can be made with no memory
pub record HeapView : Type 0 where
  pub grove : Trees
  pub spare : ℕ

-- how it is kept
abbrev pub view_code : Coded HeapView
view_code =
    code_by (Trees × ℕ) (coded× trees_code coded_ℕ) (λ view. (view.grove, view.spare))
    (λ pair. record { grove = pair.0; spare = pair.1 }) (λ _. refl)
