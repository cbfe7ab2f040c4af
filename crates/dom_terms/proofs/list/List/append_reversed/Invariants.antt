use Rattle.std.proofs.Common.{◌≡◌, ◌≤◌, ◌+◌, ◌++◌, map, reverse, vec_len, vec_capacity}
use Rattle.dom_terms.proofs.list.List.append_reversed.Given as goal

-- what was moved and what is left make the whole, and there is room for what is left
abbrev pub invariant-loop-item : goal.invariant-loop-item
invariant-loop-item g l = record {
  whole : l.self-inside.items.items ++ map g.T.MadeOf.make (reverse l.other-inside.items.items)
      ≡ l.fn.self ++ map g.T.MadeOf.make (reverse l.fn.other);
  room : vec_len l.self-inside.items + vec_len l.other-inside.items
      ≤ vec_capacity l.self-inside.items;
}

abbrev pub decreases-loop-item : goal.decreases-loop-item
decreases-loop-item g l = vec_len l.other-inside.items
