-- The fillers of a list, as the definitions of filling see them.
use Rattle.std.specs.Prelude.{ℕ, List, map}
use Rattle.model_filling.specs.Offers.{Offers, Voice}

-- fillers of any kind that tells of each its turn and its offers
module _ {Filler : Type 0} (turn : Filler → ℕ) (offers : Filler → Offers) where
  -- a filler
  abbrev pub voice_of : Filler → Voice
  voice_of filler = record { turn = turn filler; offers = offers filler }

  -- all of a list, in their order
  abbrev pub voices_of : List Filler → List Voice
  voices_of = map voice_of
