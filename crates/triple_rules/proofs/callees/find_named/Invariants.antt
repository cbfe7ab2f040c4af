use Rattle.std.proofs.Common.{◌≡◌, map, drop}
use Rattle.model_commands.specs.Theories.{procedure_named}
use Rattle.model_files.specs.Sizes.{ProceduresAreSmall}
use Rattle.theory_syntax.specs.Theories.{procedure_of}
use Rattle.triple_rules.specs.Procedures.{procedures_in}
use Rattle.triple_rules.proofs.callees.find_named.Given as goal

abbrev pub invariant-loop-procedure : goal.invariant-loop-procedure
invariant-loop-procedure l = record {
  same : procedure_named l.name (procedures_in l.procedures)
      ≡ procedure_named l.name (procedures_in (drop l.procedure-index l.procedures));
  small : ProceduresAreSmall (map procedure_of (drop l.procedure-index l.procedures));
}
