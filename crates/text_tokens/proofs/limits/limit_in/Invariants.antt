use Rattle.std.proofs.Common.{◌≡◌, ◌≤◌, length}
use Rattle.model_text.specs.Nesting as model
use Rattle.text_tokens.specs.Lexemes.{lexemes_in}
use Rattle.text_tokens.proofs.limits.limit_in.Given as goal

abbrev pub invariant-loop-token : goal.invariant-loop-token
invariant-loop-token l = record {
  same : model.token_limit l.nesting 0 (lexemes_in l.tokens)
      ≡ model.token_limit l.nesting l.open (lexemes_in l.left);
  few : l.open ≤ l.nesting;
}

abbrev pub decreases-loop-token : goal.decreases-loop-token
decreases-loop-token l = length (lexemes_in l.left)
