use Rattle.std.proofs.Common.{◌≡◌, ◌++◌, map, drop, encode_utf8_all}
use Rattle.text_tokens.proofs.literals.spell.Given as goal

-- with the characters that are left, the whole text
abbrev pub invariant-loop-letter : goal.invariant-loop-letter
invariant-loop-letter g l =
    l.text ++ encode_utf8_all (map g.C.Letter.code (drop l.letter-index l.letters))
    ≡ l.fn.text ++ encode_utf8_all (map g.C.Letter.code l.letters)
