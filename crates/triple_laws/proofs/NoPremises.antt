-- An axiom has no premises, so an instance of one cites nothing.
use Rattle.std.proofs.Common.{◌≡◌, ◌∙◌, List, [], ◌∷◌, Some, cond, Bool, true, false, bytes_eq, refl, sym, ap, ⊎_elim}
use Rattle.model_shapes.specs.Values.{Name}
use Rattle.rule_table.specs.Letters.{Letters}
use Rattle.rule_table.specs.Entries.{Row, Entry}
use Rattle.rule_table.specs.Axioms.{axioms}
use Rattle.rule_table.specs.Verdicts.{Written, IsInstance, readings_in}
use Rattle.rule_table.proofs.SomeLetters.{◌&◌}

-- no line of these rows has a premise
abbrev Bare : List Row → Type 0
Bare [] = Unit
Bare (row ∷ rows) = ((l : Letters) → (row l).premises ≡ []) × Bare rows

-- of the rows of these entries
abbrev EachBare : List Entry → Type 0
EachBare [] = Unit
EachBare (entry ∷ entries) = Bare entry.readings × EachBare entries

cites-nothing : (rows : List Row) → Bare rows → (w : Written) → IsInstance rows w
    → w.premises ≡ Some []
cites-nothing [] b w i = absurd i
cites-nothing (row ∷ rows) b w i = ⊎_elim
    (λ x. sym x.1.0.1 ∙ ap Some (b.0 x.0))
    (λ r. cites-nothing rows b.1 w r) i

named-bare : (entries : List Entry) → EachBare entries → (name : Name)
    → Bare (readings_in entries name)
named-bare [] b name = tt
named-bare (entry ∷ entries) b name =
    by_test (bytes_eq name entry.name) (named-bare entries b.1 name)
  where
    by_test : (t : Bool) → Bare (readings_in entries name)
        → Bare (cond t entry.readings (readings_in entries name))
    by_test true later = b.0
    by_test false later = later

axioms-bare : EachBare axioms
axioms-bare =
    ((λ l. refl) & tt) & ((λ l. refl) & tt) & ((λ l. refl) & tt) & ((λ l. refl) & tt)
    & ((λ l. refl) & tt) & ((λ l. refl) & tt) & ((λ l. refl) & tt)
    & ((λ l. refl) & (λ l. refl) & tt) & ((λ l. refl) & tt)
    & ((λ l. refl) & (λ l. refl) & tt) & ((λ l. refl) & (λ l. refl) & tt) & tt

pub axiom-cites-nothing : (name : Name) (w : Written) → IsInstance (readings_in axioms name) w
    → w.premises ≡ Some []
axiom-cites-nothing name w =
    cites-nothing (readings_in axioms name) (named-bare axioms axioms-bare name) w
