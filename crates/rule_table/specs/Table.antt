-- THE TABLE OF RULES, in the order in which the language names them. The rules of entailment follow
-- POPL 2005, the axioms and the frame rule PODS 2008.
use Rattle.std.specs.Prelude.{List, ◌++◌}
use Rattle.std.specs.List.{flat_map}
use Rattle.model_commands.specs.Theories.{Procedures}
use Rattle.rule_table.specs.Entries.{Entry}
use Rattle.rule_table.specs.Entailments.{groups}
use Rattle.rule_table.specs.Rules.{rules}
use Rattle.rule_table.specs.Axioms.{axioms}

-- the rules of entailment
abbrev pub entailments : List Entry
entailments = flat_map (λ entries. entries) groups

-- the rules for triples and the axioms, in a theory with these procedures
abbrev pub triples : Procedures → List Entry
triples procedures = rules procedures ++ axioms

-- all of them
abbrev pub table : Procedures → List Entry
table procedures = entailments ++ triples procedures
