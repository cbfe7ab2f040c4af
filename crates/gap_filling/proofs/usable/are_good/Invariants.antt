use Rattle.std.proofs.Common.{◌≡◌, ◌-◌, Some, slice_get}
use Rattle.std.specs.Prelude.{◌↔◌}
use Rattle.model_formulas.specs.Formulas.{Named}
use Rattle.model_commands.specs.Theories.{ProcedureOf}
use Rattle.theory_syntax.specs.Theories.{theory_of}
use Rattle.formula_table.specs.Interning.{KeepsAll}
use Rattle.gap_filling.proofs.GoodSteps.{GoodAt}
use Rattle.gap_filling.proofs.usable.are_good.Given as goal

abbrev pub invariant-loop-place : goal.invariant-loop-place
invariant-loop-place l = record {
  walked : (f : ProcedureOf Named)
      → slice_get (theory_of l.theory).procedures (l.procedure - 1) ≡ Some f
      → GoodAt (theory_of l.theory) f l.proof l.kept
      ↔ GoodAt (theory_of l.theory) f l.proof l.place;
  kept : KeepsAll l.fn.table l.table;
}
