-- The last judgement of a proof holds, where each step is an instance and the rows are sound.
use Rattle.std.proofs.Common.{◌≡◌, ℕ, List, [], ◌∷◌, ◌++◌, Bool, true, false, cond, ◌==◌, Option, Some, None, subst, refl}
use Rattle.model_commands.specs.Theories.{Judgement, Reason, auto, by_rule, Step, Procedure, Procedures, own_triple}
use Rattle.rule_table.specs.Accepted.{judgement_numbered, InstanceBy, AllInstances, last_judgement, IsProved, cited, in_front, written_at}
use Rattle.rule_table.specs.Table.{table}
use Rattle.rule_table.specs.Verdicts.{readings_in}
use Rattle.entailment_laws.specs.Judgements.{Reading, Fitting, JudgementHolds, Proved, AllProved}
use Rattle.entailment_laws.proofs.Instances.{some-is, rows-sound, named-sound}
use Rattle.entailment_laws.proofs.SoundRows.{SoundEntries}

module _ (reading : Reading) where
  -- the judgements of these steps fit, and hold
  abbrev pub StepsFitting : List Step → Type 0
  StepsFitting [] = Unit
  StepsFitting (step ∷ steps) = Fitting reading step.judgement × StepsFitting steps

  abbrev EarlierProved : List Step → Type 0
  EarlierProved [] = Unit
  EarlierProved (step ∷ steps) = Proved reading step.judgement × EarlierProved steps

  one-more : (steps : List Step) (step : Step) → EarlierProved steps
      → Proved reading step.judgement → EarlierProved (steps ++ step ∷ [])
  one-more [] step h p = (p, tt)
  one-more (first ∷ steps) step h p = (h.0, one-more steps step h.1 p)

  -- what an earlier step says
  numbered-proved : (k : ℕ) (steps : List Step) (j : Judgement)
      → judgement_numbered k steps ≡ Some j → EarlierProved steps → Proved reading j
  numbered-proved k [] j e h = absurd cc
  numbered-proved k (step ∷ steps) j e h =
      by_test (step.number == k) e (λ q. numbered-proved k steps j q h.1)
    where
      by_test : (b : Bool)
          → cond b (Some step.judgement) (judgement_numbered k steps) ≡ Some j
          → (judgement_numbered k steps ≡ Some j → Proved reading j) → Proved reading j
      by_test true e later = subst (Proved reading) (some-is step.judgement j e) h.0
      by_test false e later = later e

  -- what is cited
  cited-proved : (earlier : List Step) (ns : List ℕ) → EarlierProved earlier
      → (js : List Judgement) → cited earlier ns ≡ Some js → AllProved reading js
  cited-proved earlier [] h js e = subst (AllProved reading) (some-is [] js e) tt
  cited-proved earlier (k ∷ ns) h js e =
      by_parts (judgement_numbered k earlier) (cited earlier ns) e
      (λ j q. numbered-proved k earlier j q h) (λ is q. cited-proved earlier ns h is q)
    where
      by_parts : (a : Option Judgement) (b : Option (List Judgement)) → in_front a b ≡ Some js
          → ((j : Judgement) → a ≡ Some j → Proved reading j)
          → ((is : List Judgement) → b ≡ Some is → AllProved reading is) → AllProved reading js
      by_parts (Some j) (Some is) e x y =
          subst (AllProved reading) (some-is (j ∷ is) js e) (x j refl, y is refl)
      by_parts (Some j) None e x y = absurd cc
      by_parts None b e x y = absurd cc

  module _ (ps : Procedures) (sound : SoundEntries reading (table ps)) where
    instance-holds : (reason : Reason) (earlier : List Step) (j : Judgement)
        → InstanceBy ps reason earlier j → Fitting reading j → EarlierProved earlier
        → JudgementHolds reading j
    instance-holds auto earlier j i fit h = absurd i
    instance-holds (by_rule name ns arguments) earlier j i fit h =
        rows-sound reading (readings_in (table ps) name)
        (named-sound reading (table ps) sound name)
        (written_at earlier ns arguments j) fit (cited-proved earlier ns h) i

    -- the last step
    last-holds : (steps earlier : List Step) (j : Judgement) → AllInstances ps earlier steps
        → StepsFitting steps → EarlierProved earlier → last_judgement steps ≡ Some j
        → JudgementHolds reading j
    last-holds [] earlier j i fit h e = absurd cc
    last-holds (step ∷ []) earlier j i fit h e =
        subst (JudgementHolds reading) (some-is step.judgement j e)
        (instance-holds step.reason earlier step.judgement i.0 fit.0 h)
    last-holds (step ∷ next ∷ steps) earlier j i fit h e =
        last-holds (next ∷ steps) (earlier ++ step ∷ []) j i.1 fit.1 (one-more earlier step h
        (fit.0, instance-holds step.reason earlier step.judgement i.0 fit.0 h)) e

    -- the triple of a procedure
    pub procedure-holds : (f : Procedure) → IsProved ps f → StepsFitting f.proof
        → JudgementHolds reading (own_triple f)
    procedure-holds f proved fit =
        last-holds f.proof [] (own_triple f) proved.steps fit tt proved.ends

  -- it fits
  pub procedure-fits : (f : Procedure) → StepsFitting f.proof
      → last_judgement f.proof ≡ Some (own_triple f) → Fitting reading (own_triple f)
  procedure-fits f = at f.proof
    where
      at : (steps : List Step) → StepsFitting steps → last_judgement steps ≡ Some (own_triple f)
          → Fitting reading (own_triple f)
      at [] fit e = absurd cc
      at (step ∷ []) fit e =
          subst (Fitting reading) (some-is step.judgement (own_triple f) e) fit.0
      at (step ∷ next ∷ steps) fit e = at (next ∷ steps) fit.1 e
