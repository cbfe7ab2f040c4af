use Rattle.std.proofs.Common.{rules}
use Rattle.std.proofs.lemmas.List.Sorted.{IsNonDecreasingBy-from_sort_by_key}
use Rattle.node_heap.proofs.Sorting.{is_sorted, number_of}
use Rattle.node_heap.proofs.building.sorted.Goals as goal

pub returns : goal.returns
returns c =
    is_sorted c.args.index.items c.sort_by_key.new.self.items c.requires
    c.sort_by_key.ensures.permutation
    (IsNonDecreasingBy-from_sort_by_key number_of c.sort_by_key.new.self.items
    c.in_ok-sort_by_key.ensures.sorted (λ a r q k. search rules))
