-- Needn't be believed: the program's promise speaks of any observers. What the counting observer
-- holds and says.
use Rattle.std.specs.Prelude.{ℕ, ◌+◌, ◌-◌, ◌^◌, min, List, [], ◌∷◌, ◌++◌, codes}
use Rattle.std.specs.Fmt.{decimal}
use Rattle.model_machine.specs.Changes.{Change, created, moved, removed}

-- one more, as far as 64 bits go
abbrev pub one_more : ℕ → ℕ
one_more n = min (n + 1) (2 ^ 64 - 1)

-- the counts of nodes made, moved and removed, when there is one change more
abbrev pub counted : List ℕ → Change → List ℕ
counted (c ∷ m ∷ r ∷ []) (created step node list) = one_more c ∷ m ∷ r ∷ []
counted (c ∷ m ∷ r ∷ []) (moved step node from to before) = c ∷ one_more m ∷ r ∷ []
counted (c ∷ m ∷ r ∷ []) (removed step node from) = c ∷ m ∷ one_more r ∷ []
counted counts change = counts

-- `created A, moved B, removed C`
abbrev pub tally_text : List ℕ → List ℕ
tally_text (c ∷ m ∷ r ∷ []) = codes "created "
    ++ (decimal c ++ (codes ", moved " ++ (decimal m ++ (codes ", removed " ++ decimal r))))
tally_text counts = []
