use Rattle.std.proofs.Common.{◌≡◌, ◌<◌, drop, take, map}
use Rattle.model_commands.specs.Theories.{nameless_procedure}
use Rattle.model_files.specs.FileLimits.{step_count}
use Rattle.model_files.specs.Sizes.{ProceduresAreSmall}
use Rattle.rule_table.specs.Accepted.{Each, IsProved}
use Rattle.theory_syntax.specs.Theories.{procedure_of}
use Rattle.triple_rules.specs.Procedures.{procedures_in}
use Rattle.hoare_kernel.specs.Walks.{AreNumbered, EachSorted}
use Rattle.hoare_kernel.proofs.theories.check_procedures.Given as goal

abbrev pub invariant-loop-procedure : goal.invariant-loop-procedure
invariant-loop-procedure l = record {
  proved : Each (IsProved (procedures_in l.callees.procedures.now))
      (map nameless_procedure (map procedure_of (take l.procedure-index l.callees.procedures.now)));
  small : ProceduresAreSmall (map procedure_of (drop l.procedure-index l.callees.procedures.now));
  numbered : AreNumbered (drop l.procedure-index l.callees.procedures.now);
  sorted : EachSorted (drop l.procedure-index l.callees.procedures.now);
  at : l.number ≡ l.procedure-index;
  few : step_count (map procedure_of (drop l.procedure-index l.callees.procedures.now))
      < 4294967295;
}
