-- Each row of the table of entailments is sound.
use Rattle.std.proofs.Common.{List, [], ◌∷◌}
use Rattle.std.specs.List.{flat_map}
use Rattle.rule_table.specs.Entries.{Entry}
use Rattle.rule_table.specs.Entailments.{groups}
use Rattle.rule_table.specs.Table.{entailments}
use Rattle.entailment_laws.specs.Judgements.{Reading}
use Rattle.rule_table.proofs.SomeLetters.{◌&◌}
use Rattle.entailment_laws.proofs.SoundRows.{SoundEntries, sound-append}
use Rattle.entailment_laws.proofs.LogicRows as Logic
use Rattle.entailment_laws.proofs.EquationRows as Equations
use Rattle.entailment_laws.proofs.StructureRows as Structure
use Rattle.entailment_laws.proofs.MonotonyRows as Monotony
use Rattle.entailment_laws.proofs.ContextRows as Contexts
use Rattle.entailment_laws.proofs.VariableRows as Variables
use Rattle.entailment_laws.proofs.NodeRows as Nodes
use Rattle.entailment_laws.proofs.LengthRows as Lengths

module _ (reading : Reading) where
  -- each group
  abbrev SoundGroups : List (List Entry) → Type 0
  SoundGroups [] = Unit
  SoundGroups (group ∷ more) = SoundEntries reading group × SoundGroups more

  groups_sound : (all : List (List Entry)) → SoundGroups all
      → SoundEntries reading (flat_map (λ entries. entries) all)
  groups_sound [] h = tt
  groups_sound (group ∷ more) h =
      sound-append reading group (flat_map (λ entries. entries) more) h.0 (groups_sound more h.1)

  pub entailments_sound : SoundEntries reading entailments
  entailments_sound =
      groups_sound groups (Logic.sound reading & Equations.sound reading & Structure.sound reading
      & Monotony.sound reading & Contexts.sound reading & Variables.sound reading
      & Nodes.sound reading & Lengths.sound reading & tt)
