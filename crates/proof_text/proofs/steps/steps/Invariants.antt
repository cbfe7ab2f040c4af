-- The steps read so far and those behind them are all, and each that was read was told of.
use Rattle.std.proofs.Common.{◌≡◌, ◌-◌, map, true}
use Rattle.std.specs.Bool.{OnTrue}
use Rattle.std.specs.List.{list_all}
use Rattle.theory_syntax.specs.Judgements.{step_of}
use Rattle.declared_sorts.specs.Declarations.{declared_of, scope_in}
use Rattle.declared_sorts.specs.Judged.{steps_judged}
use Rattle.declared_sorts.specs.Settled.{step_settled}
use Rattle.token_readers.specs.Reading.{many, with_front}
use Rattle.token_readers.specs.Leaves.{lexemes_in, leaf_step}
use Rattle.proof_text.specs.SortedTheories.{sorted_step_tail}
use Rattle.proof_text.proofs.steps.steps.Given as goal

abbrev pub invariant-loop : goal.invariant-loop
invariant-loop l = record {
  read : with_front (map step_of l.steps)
      (many leaf_step (sorted_step_tail (declared_of l.declared) l.depth 4294967295)
      (4294967295 - l.counter) (lexemes_in l.tokens))
      ≡ many leaf_step (sorted_step_tail (declared_of l.declared) l.depth 4294967295) 4294967295
      (lexemes_in l.fn.tokens);
  told : l.are_settled ≡ list_all (step_settled (scope_in l.declared)) (map step_of l.steps);
  judged : OnTrue l.are_judged (steps_judged (map step_of l.steps) ≡ true);
}
