use Rattle.std.proofs.Common.{◌≡◌, ◌++◌, map, length, string_bytes}
use Rattle.model_answers.specs.Output.{change_text, lines_of}
use Rattle.run_trace.specs.Changes.{change_of}
use Rattle.fault_report.proofs.changes.change_lines.Given as goal

abbrev pub invariant-changes : goal.invariant-changes
invariant-changes l = record {
  same : string_bytes l.text ++ lines_of (map change_text (map change_of l.rest))
      ≡ lines_of (map change_text (map change_of l.changes));
}

abbrev pub decreases-changes : goal.decreases-changes
decreases-changes l = length l.rest
