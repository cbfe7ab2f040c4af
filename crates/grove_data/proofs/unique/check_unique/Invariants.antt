use Rattle.std.proofs.Common.{◌≡◌, map, drop, List}
use Rattle.std.specs.List.{list_any}
use Rattle.model_documents.specs.Numbers.{Numbered, same_numbered, first_repeat, first_repeat_behind}
use Rattle.grove_data.specs.Trees.{forest_of}
use Rattle.grove_data.specs.UsedNumbers.{used, was_seen}
use Rattle.grove_data.proofs.unique.check_unique.Given as goal

abbrev pub invariant-loop-next : goal.invariant-loop-next
invariant-loop-next l =
    (before : List Numbered)
    × (first_repeat (forest_of l.grove)
    ≡ first_repeat_behind before (map used (drop l.next-index l.next-items)))
    × ((q : Numbered) → was_seen l.seen q ≡ list_any (same_numbered q) before)
