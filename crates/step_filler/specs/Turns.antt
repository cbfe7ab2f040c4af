-- Needn't be believed: contracts of private functions alone speak of it. Ways, and the rules that
-- are read both ways, as the plans have them.
use Rattle.std.specs.Prelude.{codes}
use Rattle.model_shapes.specs.Values.{Name}
use Rattle.assistant_laws.specs.Ways as model
use Rattle.step_filler.specs.declared.turns.Law.{Law}
use Rattle.step_filler.specs.declared.turns.Law.TheVariants as l
use Rattle.step_filler.specs.declared.turns.Way.{Way}
use Rattle.step_filler.specs.declared.turns.Way.TheVariants as w

-- the way
abbrev pub way_of : Way → model.Way
way_of w.Onward = model.onward
way_of w.Backward = model.backward

-- the rule, read onward
abbrev pub rule_of : Law → Name
rule_of l.StarUnit = codes "star_unit"
rule_of l.UnitStar = codes "unit_star"
rule_of l.StarAssoc = codes "star_assoc"
rule_of l.PlusUnit = codes "plus_unit"
rule_of l.PlusAssoc = codes "plus_assoc"
