-- Needn't be believed: the program's promise doesn't speak of it. The ASCII characters of words.
use Rattle.std.specs.Prelude.{ℕ, Bool, ◌||◌, ◌==◌}
use Rattle.std.specs.Char.{is_ascii_alphabetic, is_ascii_digit}

-- whether a word may begin with it
abbrev pub begins_ascii_word : ℕ → Bool
begins_ascii_word c = is_ascii_alphabetic c || (c == 95)

-- whether it may stand behind the first character of a word
abbrev pub continues_ascii_word : ℕ → Bool
continues_ascii_word c = is_ascii_alphabetic c || (is_ascii_digit c || (c == 95))
