-- Counts of failed calls, and content that may or may not be told. The library and the sink are
-- the program's own outside: a proof names what they hold only as far as they tell it.
use Rattle.std.specs.Prelude.{◌≡◌, ℕ, ◌+◌, ◌-◌, ◌^◌, ◌≤◌, min, Option, Some}

-- the count after one more: a number of 64 bits that stays at its last value
abbrev pub next_count : ℕ → ℕ
next_count count = min (count + 1) (2 ^ 64 - 1)

-- a count rose: it is greater after than before, or stands at the last number of 64 bits
abbrev pub Rose : ℕ → ℕ → Type 0
Rose before after = next_count before ≤ after

-- where a content is told, the fact holds of it
abbrev pub Told : {A : Type 0} → Option A → (A → Type 0) → Type 0
Told {A} content Fact = (told : A) → content ≡ Some told → Fact told
