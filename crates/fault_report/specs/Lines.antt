-- Needn't be believed: the line of each report, among those of the definitions.
use Rattle.std.specs.Prelude.{ℕ, List}
use Rattle.model_answers.specs.Output.{fail_line, no_proof_line, bad_words_line, bad_text_line, bad_document_text_line, file_fault_line, range_line, repeat_line, fault_line, spent_line, limit_line, gap_line, not_straight_sort_line, not_straight_line, not_watchable_sort_line, not_watchable_requires_line, not_watchable_ensures_line}
use Rattle.fault_report.specs.declared.reports.Report as program
use Rattle.fault_report.specs.Reports.{Report, step_fails, no_proof, bad_words, bad_text, bad_document_text, bad_file, out_of_range, repeated, faulted, fuel_spent, limit, gap_left, not_straight_sort, not_straight, not_watchable_sort, not_watchable_requires, not_watchable_ensures, report_of}

-- the line, with its newline
abbrev pub report_line : Report → List ℕ
report_line (step_fails step procedure at rule verdict) =
    fail_line step procedure at rule verdict
report_line (no_proof procedure) = no_proof_line procedure
report_line bad_words = bad_words_line
report_line (bad_text token) = bad_text_line token
report_line (bad_document_text token) = bad_document_text_line token
report_line (bad_file fault) = file_fault_line fault
report_line (out_of_range number) = range_line number
report_line (repeated number) = repeat_line number
report_line (faulted kind steps command) = fault_line kind steps command
report_line (fuel_spent steps) = spent_line steps
report_line (limit kind) = limit_line kind
report_line (gap_left step procedure at) = gap_line step procedure at
report_line not_straight_sort = not_straight_sort_line
report_line (not_straight command) = not_straight_line command
report_line not_watchable_sort = not_watchable_sort_line
report_line (not_watchable_requires part) = not_watchable_requires_line part
report_line (not_watchable_ensures part) = not_watchable_ensures_line part

-- the line of a report of the program
abbrev pub line_of : program.Report → List ℕ
line_of report = report_line (report_of report)
