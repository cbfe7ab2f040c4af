use Rattle.std.proofs.Common.{◌≡◌, ◌-◌, ◌≤◌, length}
use Rattle.model_text.specs.Nesting as model
use Rattle.text_tokens.specs.Ascii.{left_behind}
use Rattle.text_tokens.proofs.ascii_limits.ascii_limit.Given as goal

abbrev pub invariant-loop-length : goal.invariant-loop-length
invariant-loop-length l = record {
  within : l.place ≤ length l.bytes;
  few : l.open ≤ l.nesting;
  same : model.token_limit l.nesting 0 (left_behind l.bytes 0)
      ≡ model.token_limit l.nesting l.open (left_behind l.bytes l.place);
}

abbrev pub decreases-loop-length : goal.decreases-loop-length
decreases-loop-length l = length l.bytes - l.place
