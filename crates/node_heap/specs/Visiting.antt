-- Needn't be believed: the program's promise doesn't speak of it. What is told where a grove is
-- gone over by numbers.
use Rattle.std.specs.Prelude.{ℕ, ◌<◌, cond, List, [], ◌∷◌}
use Rattle.std.proofs.Math.Decide.{ℕ_discrete}
use Rattle.model_shapes.specs.Values.{Value, null}
use Rattle.model_shapes.specs.Trees.{Trees, none, node, hole}
use Rattle.model_groves.specs.Groves.{is_yes, first_number}

-- the number is below all of these
abbrev pub IsBelow : ℕ → List ℕ → Type 0
IsBelow n [] = Unit {0}
IsBelow n (m ∷ rest) = (n < m) × IsBelow n rest

-- each number is below all that stand after it
abbrev pub AreRising : List ℕ → Type 0
AreRising [] = Unit {0}
AreRising (n ∷ rest) = IsBelow n rest × AreRising rest

-- the number of the root after that with this number, or null
abbrev pub number_after : ℕ → Trees → Value
number_after n none = null
number_after n (node name number kids list rest) =
    cond (is_yes (ℕ_discrete n number)) (first_number rest) (number_after n rest)
number_after n (hole rest) = number_after n rest

-- the same among the children of the first of these nodes, which is the parent of that with the
-- number; null where there is no parent
abbrev pub sibling_number : ℕ → Trees → Value
sibling_number n none = null
sibling_number n (node name number kids list rest) = number_after n kids
sibling_number n (hole rest) = null
