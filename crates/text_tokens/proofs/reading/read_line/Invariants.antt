use Rattle.std.proofs.Common.{length, map}
use Rattle.text_tokens.specs.Reading.{IsReadTo}
use Rattle.text_tokens.specs.Tokens.{token_of}
use Rattle.text_tokens.proofs.reading.read_line.Given as goal

-- the characters before those left are read
abbrev pub invariant-loop-left : goal.invariant-loop-left
invariant-loop-left l = IsReadTo l.bytes l.fn.line (map token_of l.fn.tokens) l.fn.from
    (map token_of l.tokens) l.left l.position

abbrev pub decreases-loop-left : goal.decreases-loop-left
decreases-loop-left l = length l.left
