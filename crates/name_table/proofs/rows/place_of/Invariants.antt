use Rattle.std.proofs.Common.{◌≡◌, ◌+◌, bytes_eq, drop}
use Rattle.std.specs.List.{position_or_len}
use Rattle.name_table.proofs.rows.place_of.Given as goal

-- the place is that of the entry, and the name isn't among those before it
abbrev pub invariant-loop-key : goal.invariant-loop-key
invariant-loop-key g l =
    (l.place ≡ l.key-index)
    × (position_or_len (λ e. bytes_eq l.name e.0.now) l.row
    ≡ l.place + position_or_len (λ e. bytes_eq l.name e.0.now) (drop l.key-index l.row))
