-- Needn't be believed: the program's promise doesn't speak of it. What the program answers in one
-- line, as a value of the definitions.
use Rattle.std.specs.Prelude.{ℕ}
use Rattle.model_shapes.specs.Values.{Text}
use Rattle.model_commands.specs.Commands.{Command}
use Rattle.model_files.specs.FileFaults.{FileFault}
use Rattle.model_documents.specs.Numbers.{Numbered}
use Rattle.model_machine.specs.Machine.{FaultKind}
use Rattle.model_limits.specs.Limits.{LimitKind}
use Rattle.rule_table.specs.Verdicts.{Verdict}
use Rattle.row_patterns.specs.Verdicts.{verdict_in}
use Rattle.grove_data.specs.UsedNumbers.{numbered_of}
use Rattle.theory_syntax.specs.Commands.{command_of}
use Rattle.dom_syntax.specs.Faults.{fault_at}
use Rattle.dom_meaning.specs.Faults.{fault_kind_of, limit_kind_of}
use Rattle.fault_report.specs.declared.reports.Report as program
use Rattle.fault_report.specs.declared.reports.Report.TheVariants as r

-- a report, with what it names
pub data Report : Type 0 where
  -- a step that fails: its number, its procedure, its line, its rule and its verdict
  step_fails : ℕ → Text → ℕ → Text → Verdict → Report
  -- the procedure whose proof ends too early
  no_proof : Text → Report
  bad_words : Report
  -- the fault token of a file, and of a document
  bad_text bad_document_text : ℕ → Report
  -- the first fault of a file
  bad_file : FileFault → Report
  -- a number of a document that is out of range, and one that repeats
  out_of_range repeated : Numbered → Report
  -- the kind of a fault, the steps taken before, and the command
  faulted : FaultKind → ℕ → Command → Report
  -- the steps taken
  fuel_spent : ℕ → Report
  limit : LimitKind → Report
  -- a gap: its number, its procedure and its line
  gap_left : ℕ → Text → ℕ → Report
  -- a procedure of another sort than that of groves, and a command that isn't straight-line
  not_straight_sort : Report
  not_straight : Command → Report
  -- the same of a procedure that is watched, and the first part of its requires, or of its ensures,
  -- that can't be judged
  not_watchable_sort : Report
  not_watchable_requires not_watchable_ensures : ℕ → Report

-- the report
abbrev pub report_of : program.Report → Report
report_of (r.StepFails step procedure at rule verdict) =
    step_fails step procedure at rule (verdict_in verdict)
report_of (r.NoProof procedure) = no_proof procedure
report_of r.BadWords = bad_words
report_of (r.BadText token) = bad_text token
report_of (r.BadDocumentText token) = bad_document_text token
report_of (r.BadFile procedure step kind) = bad_file (fault_at procedure step kind)
report_of (r.OutOfRange kind n) = out_of_range (numbered_of kind n)
report_of (r.Repeated kind n) = repeated (numbered_of kind n)
report_of (r.Faulted kind steps command) =
    faulted (fault_kind_of kind) steps (command_of command)
report_of (r.FuelSpent steps) = fuel_spent steps
report_of (r.Limit kind) = limit (limit_kind_of kind)
report_of (r.GapLeft step procedure at) = gap_left step procedure at
report_of r.NotStraightSort = not_straight_sort
report_of (r.NotStraight command) = not_straight (command_of command)
report_of r.NotWatchableSort = not_watchable_sort
report_of (r.NotWatchableRequires part) = not_watchable_requires part
report_of (r.NotWatchableEnsures part) = not_watchable_ensures part
