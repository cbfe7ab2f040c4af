-- Needn't be believed: what a tape is to its callers, the sink in memory, which tells all that it
-- has taken. The program writes to none.
use Rattle.std.specs.Prelude.{◌⊎◌, ℕ, ◌+◌, ◌<◌, List, length, Contains}
use Rattle.outside_io.specs.Causes.{next_count}

-- the bytes taken; how many bytes it has room for in all; how many puts there were; the put
-- calls, counted from 1, that fail; and how many puts have failed
pub record TapeState : Type 0 where
  pub taken : List ℕ
  pub room : ℕ
  pub calls : ℕ
  pub failing : List ℕ
  pub faults : ℕ

-- the next put of a piece of this length fails: the call is one of those that fail, or the piece
-- passes the room that is left
abbrev pub PutFails : TapeState → ℕ → Type 0
PutFails tape size =
    Contains tape.failing (next_count tape.calls) ⊎ (tape.room < length tape.taken + size)
