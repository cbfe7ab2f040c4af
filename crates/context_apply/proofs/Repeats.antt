-- Trees in which no number repeats are well formed, and one that repeats is a clash.
use Rattle.std.proofs.Common.{◌≡◌, Some, None, inl, inr}
use Rattle.model_shapes.specs.Trees.{Trees, WellFormed}
use Rattle.model_documents.specs.Numbers.{Numbered, node_numbered, list_numbered, first_repeat}
use Rattle.model_documents.proofs.Counting.{repeats-twice}
use Rattle.model_documents.proofs.UniqueNumbers.{unrepeated-once}
use Rattle.context_apply.specs.Clashes.{NoZero, Clashes}

-- no number repeats
pub unrepeated : (g : Trees) → NoZero g → first_repeat g ≡ None → WellFormed g
unrepeated g zero e = record {
  nodes_once = λ n. unrepeated-once g e (node_numbered n);
  lists_once = λ n. unrepeated-once g e (list_numbered n);
  no_node_zero = zero.0;
  no_list_zero = zero.1;
}

-- a number repeats
pub repeated : (g : Trees) (q : Numbered) → first_repeat g ≡ Some q → Clashes g
repeated g (node_numbered n) e = (n, inl (repeats-twice g (node_numbered n) e))
repeated g (list_numbered n) e = (n, inr (repeats-twice g (list_numbered n) e))
