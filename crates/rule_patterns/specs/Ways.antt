-- Needn't be believed: how the verdicts of each rule of entailment are found.
use Rattle.std.specs.Prelude.{List, [], ◌∷◌, ◌++◌, map, bytes_eq, cond}
use Rattle.model_shapes.specs.Values.{Name}
use Rattle.rule_table.specs.Entries.{Entry}
use Rattle.rule_table.specs.Table.{entailments}
use Rattle.rule_patterns.specs.Patterns.{LinePattern}
use Rattle.rule_patterns.specs.LogicRows.{logic, reflexive, total}
use Rattle.rule_patterns.specs.StructureRows.{structure, monotony}
use Rattle.rule_patterns.specs.ContextRows.{contexts, variables}
use Rattle.rule_patterns.specs.NodeRows.{nodes, lengths}

-- by matching what is written with these patterns, or by what is computed from it
pub data Way : Type 0 where
  matched : List LinePattern → Way
  computed : Way

-- eq_subst, distinct, linear and concat compute
abbrev pub equations : List Way
equations =
    matched reflexive ∷ computed ∷ computed ∷ matched total ∷ computed ∷ computed ∷ []

-- in the order of the table
abbrev pub ways : List Way
ways =
    map matched logic ++
    (equations ++
    (map matched structure ++
    (map matched monotony ++
    (map matched contexts ++
    (map matched variables ++ (map matched nodes ++ map matched lengths))))))

-- of the rule of that name, the ways standing in the order of the entries; a name of no rule has
-- no pattern
abbrev pub way_in : List Entry → List Way → Name → Way
way_in [] ws name = matched []
way_in (entry ∷ entries) [] name = matched []
way_in (entry ∷ entries) (way ∷ ws) name =
    cond (bytes_eq name entry.name) way (way_in entries ws name)

abbrev pub way_of : Name → Way
way_of = way_in entailments ways
