-- Needn't be believed: all moves as one. The contracts of the public calls speak of what is taken
-- out and put in.
use Rattle.std.specs.Prelude.{ℕ, Bool, false, cond}
use Rattle.std.proofs.Math.Decide.{ℕ_discrete}
use Rattle.model_shapes.specs.Trees.{Trees, none}
use Rattle.model_groves.specs.Groves.{is_yes, without, adding, adding_before}
use Rattle.grove_data.specs.declared.changing.Place.{Place}
use Rattle.grove_data.specs.declared.changing.Place.TheVariants as p

-- without the tree of the number, and with the other tree at its place
abbrev pub moving : Place → ℕ → Trees → Trees → Trees
moving p.Nowhere number tree grove = without number grove
moving (p.Below parent) number tree grove = adding parent tree (without number grove)
moving (p.Before next) number tree grove = adding_before next tree (without number grove)

-- the place is below the node with the number
abbrev pub below_here : Place → ℕ → Bool
below_here (p.Below parent) number = is_yes (ℕ_discrete parent number)
below_here place number = false

-- the place is before the tree of the number
abbrev pub before_here : Place → ℕ → Bool
before_here (p.Before next) number = is_yes (ℕ_discrete next number)
before_here place number = false

-- what is put before the tree of the number
abbrev pub in_front : Place → ℕ → Trees → Trees
in_front place number tree = cond (before_here place number) tree none
