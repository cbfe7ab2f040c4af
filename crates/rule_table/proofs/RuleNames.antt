-- The table has the names of the language, in their order.
use Rattle.std.proofs.Common.{◌≡◌, List, map, ◌++◌, ℕ, refl}
use Rattle.model_commands.specs.Theories.{Procedures}
use Rattle.model_files.specs.RuleNames.{entailment_rule_names, triple_rule_names}
use Rattle.rule_table.specs.Entries.{Entry}
use Rattle.rule_table.specs.Table.{table}

abbrev names_of : List Entry → List (List ℕ)
names_of = map (λ entry. entry.name)

pub table_has_the_names : (procedures : Procedures)
    → names_of (table procedures) ≡ entailment_rule_names ++ triple_rule_names
table_has_the_names procedures = refl
