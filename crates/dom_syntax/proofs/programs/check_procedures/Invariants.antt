use Rattle.std.proofs.Common.{◌≡◌, ◌+◌, ◌<◌, List, [], drop, length, map}
use Rattle.model_formulas.specs.Formulas.{Named}
use Rattle.model_commands.specs.Theories.{ProcedureOf}
use Rattle.model_files.specs.FileFaults.{first_fault_at, procedures_from}
use Rattle.model_files.specs.FileLimits.{step_count}
use Rattle.theory_syntax.specs.Theories.{procedure_of}
use Rattle.dom_syntax.specs.Scopes.{theory_in}
use Rattle.model_files.specs.Sizes.{ProceduresAreSmall}
use Rattle.dom_syntax.proofs.FaultLaws.{IsEarlier}
use Rattle.dom_syntax.proofs.programs.check_procedures.Given as goal

abbrev pub invariant-loop-procedure : goal.invariant-loop-procedure
invariant-loop-procedure l = record {
  passed : List (ProcedureOf Named);
  before : IsEarlier l.earlier passed;
  at : l.number ≡ l.procedure-index;
  few : length l.procedure-items < 4294967295;
  steps :
      step_count (map procedure_of (drop l.procedure-index l.procedure-items)) < 4294967295;
  small :
      ProceduresAreSmall (map procedure_of (drop l.procedure-index l.procedure-items));
  rest :
      first_fault_at (procedures_from (theory_in l.names) [] 1 (theory_in l.names).procedures)
      ≡ first_fault_at (procedures_from (theory_in l.names) passed (l.number + 1)
      (map procedure_of (drop l.procedure-index l.procedure-items)));
}
