-- In the table of a theory the names of each rule's conditions are fixed, so a step has at most one
-- verdict.
use Rattle.std.proofs.Common.{◌≡◌, ℕ, List, [], ◌∷◌, ◌++◌, Bool, true, false, cond, bytes_eq, refl}
use Rattle.std.specs.List.{flat_map}
use Rattle.model_commands.specs.Theories.{Procedures}
use Rattle.rule_table.specs.Conditions.{free_side, pure_side, literal_side, coefficient_side, sum_side, texts_side, modified_side, assigned_side, SideName}
use Rattle.rule_table.specs.Entries.{Entry}
use Rattle.rule_table.specs.Table.{entailments, triples, table}
use Rattle.rule_table.specs.Entailments.{connectives, equations, structure, monotony, contexts, variables, nodes, lengths, groups}
use Rattle.rule_table.specs.Rules.{rules}
use Rattle.rule_table.specs.Axioms.{axioms}
use Rattle.rule_table.specs.Verdicts.{Written, Verdict, IsVerdict, readings_in}
use Rattle.rule_table.proofs.VerdictLaws.{FixedNames, one-verdict}
use Rattle.rule_table.proofs.SomeLetters.{◌&◌}

abbrev AllFixed : List Entry → Type 0
AllFixed [] = Unit
AllFixed (entry ∷ entries) =
    ((names : List SideName) × FixedNames names entry.readings) × AllFixed entries

append-fixed : (first second : List Entry) → AllFixed first → AllFixed second
    → AllFixed (first ++ second)
append-fixed [] second a b = b
append-fixed (entry ∷ first) second a b = (a.0, append-fixed first second a.1 b)

-- of each group
abbrev GroupsFixed : List (List Entry) → Type 0
GroupsFixed [] = Unit
GroupsFixed (group ∷ more) = AllFixed group × GroupsFixed more

groups-fixed : (all : List (List Entry)) → GroupsFixed all
    → AllFixed (flat_map (λ entries. entries) all)
groups-fixed [] h = tt
groups-fixed (group ∷ more) h =
    append-fixed group (flat_map (λ entries. entries) more) h.0 (groups-fixed more h.1)

connectives-fixed : AllFixed connectives
connectives-fixed =
    ([], ((λ l. refl), tt)) &
    ([], ((λ l. refl), tt)) &
    ([], ((λ l. refl), tt)) &
    ([], ((λ l. refl), tt)) &
    ([], ((λ l. refl), tt)) &
    ([], ((λ l. refl), tt)) &
    ([], ((λ l. refl), tt)) &
    ([], ((λ l. refl), tt)) &
    ([], ((λ l. refl), tt)) &
    ([], ((λ l. refl), tt)) &
    ([], ((λ l. refl), tt)) &
    ([], ((λ l. refl), tt)) &
    ([], ((λ l. refl), tt)) &
    ([], ((λ l. refl), tt)) &
    ([], ((λ l. refl), tt)) &
    (free_side ∷ [], ((λ l. refl), tt)) &
    ([], ((λ l. refl), tt)) &
    ([], ((λ l. refl), tt)) &
    (free_side ∷ [], ((λ l. refl), tt)) & tt

equations-fixed : AllFixed equations
equations-fixed =
    ([], ((λ l. refl), tt)) &
    ([], ((λ l. refl), tt)) &
    (literal_side ∷ [], ((λ l. refl), tt)) &
    ([], ((λ l. refl), tt)) &
    (coefficient_side ∷ sum_side ∷ [], ((λ l. refl), ((λ l. refl), ((λ l. refl), tt)))) &
    (texts_side ∷ [], ((λ l. refl), tt)) & tt

structure-fixed : AllFixed structure
structure-fixed =
    ([], ((λ l. refl), tt)) &
    ([], ((λ l. refl), tt)) &
    ([], ((λ l. refl), tt)) &
    ([], ((λ l. refl), tt)) &
    ([], ((λ l. refl), tt)) &
    ([], ((λ l. refl), tt)) &
    ([], ((λ l. refl), tt)) &
    ([], ((λ l. refl), tt)) &
    ([], ((λ l. refl), tt)) &
    ([], ((λ l. refl), tt)) &
    ([], ((λ l. refl), tt)) &
    ([], ((λ l. refl), tt)) &
    ([], ((λ l. refl), tt)) &
    ([], ((λ l. refl), tt)) &
    ([], ((λ l. refl), tt)) &
    ([], ((λ l. refl), tt)) &
    ([], ((λ l. refl), tt)) &
    ([], ((λ l. refl), tt)) &
    ([], ((λ l. refl), tt)) &
    ([], ((λ l. refl), tt)) &
    ([], ((λ l. refl), tt)) &
    ([], ((λ l. refl), tt)) &
    ([], ((λ l. refl), tt)) &
    ([], ((λ l. refl), tt)) &
    ([], ((λ l. refl), tt)) & tt

monotony-fixed : AllFixed monotony
monotony-fixed =
    ([], ((λ l. refl), tt)) &
    ([], ((λ l. refl), tt)) &
    ([], ((λ l. refl), tt)) &
    ([], ((λ l. refl), tt)) &
    ([], ((λ l. refl), tt)) &
    ([], ((λ l. refl), tt)) &
    ([], ((λ l. refl), tt)) &
    ([], ((λ l. refl), tt)) &
    ([], ((λ l. refl), tt)) &
    ([], ((λ l. refl), tt)) &
    ([], ((λ l. refl), tt)) & (
      pure_side ∷ [],
      ((λ l. refl) & (λ l. refl) & (λ l. refl) & (λ l. refl) & (λ l. refl)
          & (λ l. refl) & (λ l. refl) & (λ l. refl) & (λ l. refl) & (λ l. refl)
          & (λ l. refl) & (λ l. refl) & (λ l. refl) & (λ l. refl) & (λ l. refl) & tt),
    ) & (
      pure_side ∷ [],
      ((λ l. refl) & (λ l. refl) & (λ l. refl) & (λ l. refl) & (λ l. refl)
          & (λ l. refl) & (λ l. refl) & (λ l. refl) & (λ l. refl) & (λ l. refl)
          & (λ l. refl) & (λ l. refl) & (λ l. refl) & (λ l. refl) & (λ l. refl) & tt),
    ) & tt

contexts-fixed : AllFixed contexts
contexts-fixed =
    ([], ((λ l. refl), tt)) &
    ([], ((λ l. refl), tt)) &
    ([], ((λ l. refl), tt)) &
    ([], ((λ l. refl), tt)) &
    ([], ((λ l. refl), tt)) &
    ([], ((λ l. refl), tt)) &
    ([], ((λ l. refl), tt)) &
    ([], ((λ l. refl), tt)) &
    ([], ((λ l. refl), tt)) &
    ([], ((λ l. refl), tt)) &
    ([], ((λ l. refl), tt)) &
    ([], ((λ l. refl), tt)) &
    ([], ((λ l. refl), ((λ l. refl), tt))) &
    ([], ((λ l. refl), ((λ l. refl), tt))) &
    ([], ((λ l. refl), ((λ l. refl), tt))) &
    ([], ((λ l. refl), ((λ l. refl), tt))) &
    ([], ((λ l. refl), ((λ l. refl), tt))) &
    ([], ((λ l. refl), ((λ l. refl), tt))) &
    ([], ((λ l. refl), tt)) &
    ([], ((λ l. refl), tt)) &
    ([], ((λ l. refl), tt)) &
    ([], ((λ l. refl), tt)) &
    (free_side ∷ [], ((λ l. refl), tt)) &
    (free_side ∷ [], ((λ l. refl), tt)) &
    ([], ((λ l. refl), tt)) &
    ([], ((λ l. refl), tt)) & tt

variables-fixed : AllFixed variables
variables-fixed =
    (free_side ∷ [], ((λ l. refl), tt)) &
    ([], ((λ l. refl), tt)) &
    ([], ((λ l. refl), tt)) &
    ([], ((λ l. refl), tt)) &
    ([], ((λ l. refl), tt)) &
    ([], ((λ l. refl), tt)) &
    ([], ((λ l. refl), tt)) &
    ([], ((λ l. refl), tt)) & tt

nodes-fixed : AllFixed nodes
nodes-fixed =
    ([], ((λ l. refl), tt)) &
    ([], ((λ l. refl), tt)) &
    ([], ((λ l. refl), tt)) &
    ([], ((λ l. refl), tt)) &
    ([], ((λ l. refl), tt)) &
    ([], ((λ l. refl), tt)) &
    ([], ((λ l. refl), tt)) &
    ([], ((λ l. refl), tt)) &
    ([], ((λ l. refl), tt)) &
    ([], ((λ l. refl), tt)) &
    ([], ((λ l. refl), tt)) &
    ([], ((λ l. refl), tt)) &
    ([], ((λ l. refl), tt)) &
    ([], ((λ l. refl), tt)) &
    ([], ((λ l. refl), tt)) &
    ([], ((λ l. refl), tt)) & tt

lengths-fixed : AllFixed lengths
lengths-fixed =
    ([], ((λ l. refl), tt)) &
    ([], ((λ l. refl), tt)) &
    ([], ((λ l. refl), tt)) &
    ([], ((λ l. refl), tt)) &
    ([], ((λ l. refl), tt)) &
    ([], ((λ l. refl), tt)) &
    ([], ((λ l. refl), tt)) & tt

rules-fixed : (procedures : Procedures) → AllFixed (rules procedures)
rules-fixed procedures =
    ([], ((λ l. refl), tt)) &
    ([], ((λ l. refl), tt)) &
    ([], ((λ l. refl), tt)) &
    ([], ((λ l. refl), tt)) &
    ([], ((λ l. refl), tt)) &
    (free_side ∷ free_side ∷ [], ((λ l. refl), tt)) &
    ([], ((λ l. refl), tt)) &
    (modified_side ∷ [], ((λ l. refl), tt)) &
    ([], ((λ l. refl), tt)) &
    ([], ((λ l. refl), tt)) &
    ([], ((λ l. refl), tt)) &
    ([], ((λ l. refl), tt)) &
    (modified_side ∷ [], ((λ l. refl), tt)) & tt

axioms-fixed : AllFixed axioms
axioms-fixed =
    (assigned_side ∷ [], ((λ l. refl), tt)) &
    (assigned_side ∷ [], ((λ l. refl), tt)) &
    (assigned_side ∷ [], ((λ l. refl), tt)) &
    (assigned_side ∷ [], ((λ l. refl), tt)) &
    (assigned_side ∷ [], ((λ l. refl), tt)) &
    (assigned_side ∷ [], ((λ l. refl), tt)) &
    (assigned_side ∷ [], ((λ l. refl), tt)) &
    ([], ((λ l. refl), ((λ l. refl), tt))) &
    ([], ((λ l. refl), tt)) &
    ([], ((λ l. refl), ((λ l. refl), tt))) &
    ([], ((λ l. refl), ((λ l. refl), tt))) & tt

entailments-fixed : AllFixed entailments
entailments-fixed =
    groups-fixed groups (connectives-fixed & equations-fixed & structure-fixed & monotony-fixed
    & contexts-fixed & variables-fixed & nodes-fixed & lengths-fixed & tt)

table-fixed : (procedures : Procedures) → AllFixed (table procedures)
table-fixed procedures =
    append-fixed entailments (triples procedures) entailments-fixed
    (append-fixed (rules procedures) axioms (rules-fixed procedures) axioms-fixed)

-- of a rule by its name
named-fixed : (entries : List Entry) → AllFixed entries → (name : List ℕ)
    → (names : List SideName) × FixedNames names (readings_in entries name)
named-fixed [] fixed name = ([], tt)
named-fixed (entry ∷ entries) fixed name =
    by_test (bytes_eq name entry.name) (named-fixed entries fixed.1 name)
  where
    by_test : (b : Bool) → (names : List SideName) × FixedNames names (readings_in entries name)
        → (names : List SideName)
        × FixedNames names (cond b entry.readings (readings_in entries name))
    by_test true later = fixed.0
    by_test false later = later

-- ONE VERDICT
pub one-verdict-of : (procedures : Procedures) (name : List ℕ) (w : Written) (v v' : Verdict)
    → IsVerdict (readings_in (table procedures) name) w v
    → IsVerdict (readings_in (table procedures) name) w v' → v ≡ v'
one-verdict-of procedures name w =
    let fixed = named-fixed (table procedures) (table-fixed procedures) name in
    one-verdict fixed.0 (readings_in (table procedures) name) fixed.1 w
