-- Needn't be believed: the program's promise doesn't speak of it. What a list ends as, where its
-- items or the last of them were lent to be changed.
use Rattle.std.specs.Prelude.{List, length, take, drop, ◌++◌, ◌-◌, slice_set, Option}
use Rattle.std.specs.Borrow.{Lends, LendsIf, Fml, RattleType, MutBor, Array}
use Rattle.dom_terms.specs.contracts.list.List.{the_row}
use Rattle.dom_terms.specs.contracts.few.Few as few

-- the last item is what was written through the loan last, and the list is unchanged without one
abbrev pub LendsLast : (T : RattleType) → MutBor (List T.Denot) → Option (MutBor T.Denot) → Fml
LendsLast T list loan =
    LendsIf (the_row T) T list loan (slice_set list.now (length list.now - 1)) list.now

-- so many items as before, those that were written through the loan last
abbrev pub with_items : {A : Type 0} → List A → List A → List A
with_items old last = take (length old) (last ++ drop (length last) old)

-- the items are those, of which there are as many as before
abbrev pub LendsItems : (T : RattleType) → MutBor (List T.Denot) → MutBor (List T.Denot) → Fml
LendsItems T list loan = Lends (the_row T) (Array T 0) list loan (with_items list.now)

-- the same of a list of few items
abbrev pub LendsFew : (T N : RattleType) → MutBor (List T.Denot) → MutBor (List T.Denot) → Fml
LendsFew T N list loan = Lends (few.the_row T N) (Array T 0) list loan (with_items list.now)
