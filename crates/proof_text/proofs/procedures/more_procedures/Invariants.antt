-- The procedures read so far and those behind them are all, and each that was read was told of.
use Rattle.std.proofs.Common.{◌≡◌, ◌-◌, ◌∷◌, [], codes, map, true}
use Rattle.std.specs.Bool.{OnTrue}
use Rattle.std.specs.List.{list_all}
use Rattle.dom_terms.specs.Terms.{logic_var_of}
use Rattle.theory_syntax.specs.Theories.{procedure_of}
use Rattle.declared_sorts.specs.Judged.{procedure_judged}
use Rattle.declared_sorts.specs.Settled.{procedure_settled}
use Rattle.token_readers.specs.Reading.{many, the_terminal, with_front}
use Rattle.token_readers.specs.Leaves.{lexemes_in}
use Rattle.proof_text.specs.SortedTheories.{sorted_procedure_tail, more_sorted_procedures_at}
use Rattle.proof_text.proofs.procedures.more_procedures.Given as goal

abbrev pub invariant-loop : goal.invariant-loop
invariant-loop l = record {
  read : with_front (map procedure_of l.procedures) (many (the_terminal (codes "proc"))
      (λ x. sorted_procedure_tail (map logic_var_of l.logics) l.depth 4294967295)
      (4294967295 - l.counter) (lexemes_in l.tokens))
      ≡ with_front (procedure_of l.fn.first.procedure ∷ [])
      (more_sorted_procedures_at (map logic_var_of l.logics) l.depth 4294967295
      (lexemes_in l.fn.tokens));
  told : l.are_settled ≡ list_all (procedure_settled (map logic_var_of l.logics))
      (map procedure_of l.procedures);
  judged : OnTrue l.are_judged
      (list_all procedure_judged (map procedure_of l.procedures) ≡ true);
}
