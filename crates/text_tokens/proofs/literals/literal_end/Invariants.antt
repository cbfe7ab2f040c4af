use Rattle.std.proofs.Common.{◌≡◌, map, drop, false}
use Rattle.model_text.specs.Tokens.{literal_end}
use Rattle.text_tokens.proofs.literals.literal_end.Given as goal

-- the literal goes on with the characters that are left
abbrev pub invariant-loop-place : goal.invariant-loop-place
invariant-loop-place g l =
    literal_end l.escaped l.place (map g.C.Letter.code (drop l.place l.text))
    ≡ literal_end false 1 (map g.C.Letter.code (drop 1 l.text))
