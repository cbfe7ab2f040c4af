use Rattle.std.proofs.Common.{◌≡◌, map, take}
use Rattle.dom_terms.specs.Stores.{cell_seen}
use Rattle.dom_terms.proofs.store.copied_cells.Given as goal

abbrev pub invariant-loop-cell : goal.invariant-loop-cell
invariant-loop-cell l =
    map cell_seen l.copied.items ≡ map cell_seen (take l.cell-index l.cells)
