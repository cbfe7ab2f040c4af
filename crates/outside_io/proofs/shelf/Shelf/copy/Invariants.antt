use Rattle.std.proofs.Common.{◌≡◌, take}
use Rattle.outside_io.proofs.shelf.Shelf.copy.Given as goal

abbrev pub invariant-loop-book : goal.invariant-loop-book
invariant-loop-book l = l.books.items ≡ take l.book-index l.self-inside.books.items
