use Rattle.std.proofs.Common.{◌≡◌, ◌-◌, ◌≤◌, length}
use Rattle.model_text.specs.Tokens.{line_of}
use Rattle.text_tokens.specs.Ascii.{left_behind}
use Rattle.text_tokens.proofs.ascii_watching.found.Given as goal

abbrev pub invariant-loop-place : goal.invariant-loop-place
invariant-loop-place l = record {
  within : l.place ≤ length l.bytes;
  line_is : l.line ≡ line_of l.bytes l.place;
  same : left_behind l.bytes l.place ≡ left_behind l.bytes l.from;
}

abbrev pub decreases-loop-place : goal.decreases-loop-place
decreases-loop-place l = length l.bytes - l.place
