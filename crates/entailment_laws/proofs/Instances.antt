-- An instance of a rule whose rows are sound holds where its premises do.
use Rattle.std.proofs.Common.{◌≡◌, ◌∙◌, List, [], ◌∷◌, sym, subst, Some, ⊎_elim, cond, Bool, true, false, bytes_eq}
use Rattle.model_shapes.specs.Values.{Name}
use Rattle.model_commands.specs.Theories.{Judgement}
use Rattle.rule_table.specs.Letters.{Letters}
use Rattle.rule_table.specs.Entries.{Row, Entry}
use Rattle.rule_table.specs.Verdicts.{Written, MeetsAll, IsInstance, readings_in}
use Rattle.entailment_laws.specs.Judgements.{Reading, Fitting, JudgementHolds, AllProved}
use Rattle.entailment_laws.proofs.SoundRows.{SoundRow, SoundRows, SoundEntries}

-- what is there once
pub some-is : {A : Type 0} (x y : A) → Some x ≡ Some y → x ≡ y
some-is x y e = cc

module _ (reading : Reading) where
  line-sound : (row : Row) → SoundRow reading row → (w : Written)
      → Fitting reading w.conclusion
      → ((js : List Judgement) → w.premises ≡ Some js → AllProved reading js) → (l : Letters)
      → MeetsAll w (row l) → JudgementHolds reading w.conclusion
  line-sound row sound w so h l m = subst (JudgementHolds reading) m.0.0.2
      (sound l (subst (Fitting reading) (sym m.0.0.2) so) m.0.0.1 m.1
      (h (row l).premises (sym m.0.1)))

  pub rows-sound : (rows : List Row) → SoundRows reading rows → (w : Written)
      → Fitting reading w.conclusion
      → ((js : List Judgement) → w.premises ≡ Some js → AllProved reading js)
      → IsInstance rows w → JudgementHolds reading w.conclusion
  rows-sound [] s w so h i = absurd i
  rows-sound (row ∷ rows) s w so h i = ⊎_elim
      (λ x. line-sound row s.0 w so h x.0 x.1)
      (λ r. rows-sound rows s.1 w so h r) i

  -- of a rule by its name
  pub named-sound : (entries : List Entry) → SoundEntries reading entries → (name : Name)
      → SoundRows reading (readings_in entries name)
  named-sound [] s name = tt
  named-sound (entry ∷ entries) s name = by_test (bytes_eq name entry.name)
      (named-sound entries s.1 name)
    where
      by_test : (b : Bool) → SoundRows reading (readings_in entries name)
          → SoundRows reading (cond b entry.readings (readings_in entries name))
      by_test true r = s.0
      by_test false r = r

  -- an instance of it, where the cited judgements hold
  pub named-instance : (entries : List Entry) → SoundEntries reading entries → (name : Name)
      (w : Written) (js : List Judgement) → Fitting reading w.conclusion → w.premises ≡ Some js
      → AllProved reading js → IsInstance (readings_in entries name) w
      → JudgementHolds reading w.conclusion
  named-instance entries s name w js so e h =
      rows-sound (readings_in entries name) (named-sound entries s name) w so
      (λ is f. subst (AllProved reading) (some-is js is (sym e ∙ f)) h)
