-- Needn't be believed: the program's promise doesn't speak of it. A number with one more digit.
use Rattle.std.specs.Prelude.{ℕ, ◌+◌, ◌-◌, ◌*◌, ◌&&◌, Option, Some, None, nat_le, if◌then◌else◌}
use Rattle.std.specs.Char.{is_ascii_digit}

-- the number with one more digit, where the code is a digit's and the number isn't too great
abbrev pub with_digit : ℕ → ℕ → Option ℕ
with_digit value code =
    if is_ascii_digit code && nat_le (value * 10 + (code - 48)) 9223372036854775807
    then Some (value * 10 + (code - 48)) else None
