-- Needn't be believed: the program's promise doesn't speak of it. The ways of rule_patterns that
-- the program's ways stand for.
use Rattle.rule_patterns.specs.Ways as ways
use Rattle.row_patterns.specs.Views.{patterns_in}
use Rattle.rule_rows.specs.declared.ways.Way.{Way}
use Rattle.rule_rows.specs.declared.ways.Way.TheVariants as w

abbrev pub way_in : Way → ways.Way
way_in (w.Matched rows) = ways.matched (patterns_in rows.now)
way_in (w.Computed rule) = ways.computed
