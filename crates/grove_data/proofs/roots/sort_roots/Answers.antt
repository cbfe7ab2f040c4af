use Rattle.std.proofs.Common.{rules}
use Rattle.std.proofs.lemmas.Result.{on_ok_weaker}
use Rattle.std.proofs.lemmas.List.Sorted.{IsNonDecreasingBy-from_sort_by_key}
use Rattle.grove_data.proofs.Sorted.{sorted_is, number_of}
use Rattle.grove_data.proofs.roots.sort_roots.Goals as goal

pub returns-clause-sorted : goal.returns-clause-sorted
returns-clause-sorted c =
    on_ok_weaker c.sort_by_key.result
    (λ sorted. sorted_is c.args.grove.now c.sort_by_key.new.self c.requires
    c.sort_by_key.ensures.permutation
    (IsNonDecreasingBy-from_sort_by_key number_of c.sort_by_key.new.self sorted
    (λ a r q k. search rules)))
    c.sort_by_key.ensures.sorted
