use Rattle.std.proofs.Common.{◌≡◌, ◌++◌, map, drop, false, encode_utf8_all}
use Rattle.model_text.specs.Tokens.{unescaped}
use Rattle.text_tokens.proofs.literals.unescape.Given as goal

-- with what the characters that are left stand for, the whole text
abbrev pub invariant-loop-letter : goal.invariant-loop-letter
invariant-loop-letter g l =
    l.text ++ encode_utf8_all
    (unescaped l.escaped (map g.C.Letter.code (drop l.letter-index l.inside)))
    ≡ l.fn.text ++ encode_utf8_all (unescaped false (map g.C.Letter.code l.inside))
