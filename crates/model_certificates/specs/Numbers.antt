-- Needn't be believed: the program's promise doesn't speak of it. How numbers, truth values, texts
-- and lists are spelled in bytes, and which have a spelling. The spelling is the language's own.
use Rattle.model_limits.specs.Limits.{standard_limits}
use Rattle.std.specs.Prelude.{ℕ, ℤ, ◌≤◌, Bool, true, false, List, [], ◌∷◌, ◌++◌, length}
use Rattle.std.specs.Int.{w32, w64, to_be_bytes, cast_unsigned}
use Rattle.std.specs.Str.{IsUtf8}
use Rattle.model_shapes.specs.Values.{Text}
use Rattle.model_commands.specs.Each.{Each}

-- a number: four bytes, the most significant first
abbrev pub number_bytes : ℕ → List ℕ
number_bytes n = to_be_bytes w32 n

-- an integer: eight bytes in two's complement, the most significant first
abbrev pub integer_bytes : ℤ → List ℕ
integer_bytes z = to_be_bytes w64 (cast_unsigned w64 z)

-- a truth value: one byte
abbrev pub truth_bytes : Bool → List ℕ
truth_bytes false = 0 ∷ []
truth_bytes true = 1 ∷ []

-- a text: its length, and its bytes
abbrev pub text_bytes : Text → List ℕ
text_bytes text = number_bytes (length text) ++ text

-- items that are spelled so, one after another
abbrev pub all_bytes : {A : Type 0} → (A → List ℕ) → List A → List ℕ
all_bytes spelled [] = []
all_bytes spelled (x ∷ xs) = spelled x ++ all_bytes spelled xs

-- a list: its length, and its items
abbrev pub list_bytes : {A : Type 0} → (A → List ℕ) → List A → List ℕ
list_bytes spelled xs = number_bytes (length xs) ++ all_bytes spelled xs

-- a number of at most 32 bits
abbrev pub IsNumber : ℕ → Type 0
IsNumber n = n ≤ standard_limits.numeral

-- a text of UTF-8, of no more bytes than the most
abbrev pub IsText : ℕ → Text → Type 0
IsText most text = IsUtf8 text × (length text ≤ most)

-- so is a text that is no literal
abbrev pub IsNameText : Text → Type 0
IsNameText text = IsText standard_limits.file_bytes text

-- a list of which there are no more than a number can say, each item being as asked
abbrev pub IsList : {A : Type 0} → (A → Type 0) → List A → Type 0
IsList Asked xs = IsNumber (length xs) × Each Asked xs
