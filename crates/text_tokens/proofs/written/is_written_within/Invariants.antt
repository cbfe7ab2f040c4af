use Rattle.std.proofs.Common.{◌≡◌, ◌+◌, ◌≤◌, drop, false, length, encode_utf8_all}
use Rattle.model_text.specs.Tokens.{unescaped}
use Rattle.text_tokens.proofs.written.is_written_within.Given as goal

-- with those that the bytes that are left stand for, all
abbrev pub invariant-loop-byte : goal.invariant-loop-byte
invariant-loop-byte l = record {
  whole : l.found + length (encode_utf8_all (unescaped l.escaped (drop l.byte-index l.inside)))
      ≡ length (encode_utf8_all (unescaped false l.inside));
  few : l.found ≤ 4096;
}
