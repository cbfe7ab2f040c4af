use Rattle.std.proofs.Common.{◌≡◌, ◌+◌, drop, length, encode_utf8_all}
use Rattle.text_tokens.proofs.positions.byte_length.Given as goal

-- with those of the characters that are left, the bytes of all
abbrev pub invariant-loop-character : goal.invariant-loop-character
invariant-loop-character l =
    l.length + length (encode_utf8_all (drop l.character-index l.characters))
    ≡ length (encode_utf8_all l.characters)
