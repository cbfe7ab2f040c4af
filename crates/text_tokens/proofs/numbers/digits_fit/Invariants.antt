use Rattle.std.proofs.Common.{◌≡◌, ◌≤◌, map, drop}
use Rattle.model_text.specs.Tokens.{digits_fit}
use Rattle.text_tokens.proofs.NumberLemmas.{fits_after}
use Rattle.text_tokens.proofs.numbers.digits_fit.Given as goal

-- the characters that are left decide, after a number that fits
abbrev pub invariant-loop-letter : goal.invariant-loop-letter
invariant-loop-letter g l = record {
  left : fits_after l.value (map g.C.Letter.code (drop l.letter-index l.run))
      ≡ digits_fit (map g.C.Letter.code l.run);
  fits : l.value ≤ 9223372036854775807;
}
