-- A step that is an instance of a rule whose rows are sound is sound.
use Rattle.std.proofs.Common.{◌≡◌, ℕ, List, [], ◌∷◌, sym, subst, Option, Some, ⊎_elim, MatchOption}
use Rattle.model_shapes.specs.Values.{Name}
use Rattle.model_terms.specs.Terms.{Term}
use Rattle.model_commands.specs.Theories.{Judgement, entails, triple, Reason, auto, by_rule, Step}
use Rattle.rule_table.specs.Accepted.{written_at}
use Rattle.rule_table.specs.Entries.{Row, Entry}
use Rattle.rule_table.specs.Table.{entailments}
use Rattle.rule_table.specs.Verdicts.{Written, IsInstance, readings_in}
use Rattle.entailment_laws.specs.Judgements.{Reading, Fitting, JudgementHolds, AllProved, entailments_alone}
use Rattle.entailment_laws.specs.Steps.{IsSoundStep}
use Rattle.entailment_laws.proofs.Instances.{named-instance}
use Rattle.entailment_laws.proofs.Sound.{entailments_sound}
use Rattle.entailment_laws.proofs.SoundRows.{SoundEntries}

-- what an instance cites is there
premises-there : (rows : List Row) (w : Written) → IsInstance rows w
    → (js : List Judgement) × (w.premises ≡ Some js)
premises-there [] w i = absurd i
premises-there (row ∷ rows) w i =
    ⊎_elim (λ x. ((row x.0).premises, sym x.1.0.1)) (premises-there rows w) i

-- by any rule of these entries
pub step-sound : (reading : Reading) (entries : List Entry) → SoundEntries reading entries
    → (name : Name) (ns : List ℕ) (es : List Term) (earlier : List Step) (j : Judgement)
    → Fitting reading j → IsInstance (readings_in entries name) (written_at earlier ns es j)
    → IsSoundStep reading earlier (by_rule name ns es) j
step-sound reading entries sound name ns es earlier j fit i =
    let w = written_at earlier ns es j in
    let there = premises-there (readings_in entries name) w i in
    subst
    (λ found. MatchOption found ⊥ (λ js. AllProved reading js → JudgementHolds reading j))
    (sym there.1) (λ h. named-instance reading entries sound name w there.0 fit there.1 h i)

-- nothing is asked of an entailment
pub any-fits : (j : Judgement) → Fitting entailments_alone j
any-fits (entails p q s) = tt
any-fits (triple p c q d) = tt

-- by a rule of entailment
pub entailment-sound : (name : Name) (ns : List ℕ) (es : List Term) (earlier : List Step)
    (j : Judgement) → IsInstance (readings_in entailments name) (written_at earlier ns es j)
    → IsSoundStep entailments_alone earlier (by_rule name ns es) j
entailment-sound name ns es earlier j =
    step-sound entailments_alone entailments (entailments_sound entailments_alone) name ns es
    earlier j (any-fits j)
