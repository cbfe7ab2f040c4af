-- Needn't be believed: the program's promise doesn't speak of it. The verdicts of the table, and
-- the names of its side conditions, that those of the program stand for.
use Rattle.rule_table.specs.Conditions as table
use Rattle.rule_table.specs.Verdicts as table_verdicts
use Rattle.dom_terms.specs.declared.verdicts.SideName.{SideName}
use Rattle.dom_terms.specs.declared.verdicts.SideName.TheVariants as s
use Rattle.dom_terms.specs.declared.verdicts.Verdict.{Verdict}
use Rattle.dom_terms.specs.declared.verdicts.Verdict.TheVariants as v

-- the name of the condition
abbrev pub side_in : SideName → table.SideName
side_in s.Free = table.free_side
side_in s.Literal = table.literal_side
side_in s.Coefficient = table.coefficient_side
side_in s.Sum = table.sum_side
side_in s.Texts = table.texts_side
side_in s.Pure = table.pure_side
side_in s.Modified = table.modified_side
side_in s.Assigned = table.assigned_side

-- the verdict
abbrev pub verdict_in : Verdict → table_verdicts.Verdict
verdict_in v.Instance = table_verdicts.instance_verdict
verdict_in v.Premises = table_verdicts.premises_verdict
verdict_in v.Shape = table_verdicts.shape_verdict
verdict_in (v.Side name) = table_verdicts.side_verdict (side_in name)
