use Rattle.std.proofs.Common.{length, map}
use denote.Text.{Utf8}
use denote.Shadow.{shadow}
use Rattle.text_tokens.specs.Reading.{AreRead}
use Rattle.text_tokens.specs.Tokens.{token_of}
use Rattle.text_tokens.proofs.reading.read_lines.Given as goal

-- the lines before the text that is left are read
abbrev pub invariant-loop-left : goal.invariant-loop-left
invariant-loop-left l = shadow (Utf8 l.left)
    × AreRead l.bytes (map token_of l.fn.tokens) (map token_of l.tokens) l.left l.position

abbrev pub decreases-loop-left : goal.decreases-loop-left
decreases-loop-left l = length l.left
