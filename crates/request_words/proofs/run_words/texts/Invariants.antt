use Rattle.std.proofs.Common.{◌≡◌, map, take, string_bytes}
use Rattle.request_words.proofs.run_words.texts.Given as goal

abbrev pub invariant-loop-word : goal.invariant-loop-word
invariant-loop-word l = l.texts ≡ map string_bytes (take l.word-index l.words)
