-- Needn't be believed: the rule that a table of names gives.
use Rattle.std.specs.Prelude.{cond, bytes_eq, List, [], ◌∷◌, Option, Some, None}
use Rattle.model_shapes.specs.Values.{Name}
use Rattle.rule_rows.specs.declared.names.EntailRule.{EntailRule}

-- of the first entry with the name
abbrev pub rule_in : List (Name × EntailRule) → Name → Option EntailRule
rule_in [] name = None
rule_in (named ∷ rest) name = cond (bytes_eq name named.0) (Some named.1) (rule_in rest name)
