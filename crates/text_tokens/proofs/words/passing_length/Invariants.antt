use Rattle.std.proofs.Common.{◌≡◌, ◌+◌, map, drop}
use Rattle.std.specs.List.{prefix_len}
use Rattle.text_tokens.proofs.words.passing_length.Given as goal

-- all before the place pass
abbrev pub invariant-loop-place : goal.invariant-loop-place
invariant-loop-place g l =
    l.place + prefix_len g.T.Test.passes (map g.C.Letter.code (drop l.place l.text))
    ≡ prefix_len g.T.Test.passes (map g.C.Letter.code l.text)
