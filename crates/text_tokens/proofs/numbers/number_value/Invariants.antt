use Rattle.std.proofs.Common.{◌≡◌, ◌≤◌, drop}
use Rattle.std.specs.Str.Parse.{digits_value, digits_value_after}
use Rattle.model_text.specs.Tokens.{digits_fit}
use Rattle.text_tokens.proofs.NumberLemmas.{fits_after}
use Rattle.text_tokens.proofs.numbers.number_value.Given as goal

-- the digits that are left decide, after a number that fits
abbrev pub invariant-loop-digit : goal.invariant-loop-digit
invariant-loop-digit l = record {
  left : fits_after l.value (drop l.digit-index l.digits) ≡ digits_fit l.digits;
  value : digits_value_after 10 l.value (drop l.digit-index l.digits) ≡ digits_value 10 l.digits;
  fits : l.value ≤ 9223372036854775807;
}
