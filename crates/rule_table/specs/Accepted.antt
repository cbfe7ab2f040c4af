-- Instances over the earlier steps of a proof, accepted theories, and the first bad place.
use Rattle.std.specs.Prelude.{◌≡◌, ◌≢◌, ◌⊎◌, ℕ, ◌+◌, ◌==◌, cond, List, [], ◌∷◌, ◌++◌, Option, Some, None}
use Rattle.model_terms.specs.Terms.{Term}
pub use Rattle.model_commands.specs.Each.{Each}
use Rattle.model_commands.specs.Theories.{Judgement, Reason, auto, by_rule, Step, Procedure, Procedures, Theory, procedures_of, own_triple}
use Rattle.rule_table.specs.Table.{table}
use Rattle.rule_table.specs.Verdicts.{Written, IsInstance, Verdict, instance_verdict, IsVerdict, readings_in}

-- the judgement of the first step with the number
abbrev pub judgement_numbered : ℕ → List Step → Option Judgement
judgement_numbered n [] = None
judgement_numbered n (step ∷ steps) =
    cond (step.number == n) (Some step.judgement) (judgement_numbered n steps)

-- a judgement in front of others, where all are there
abbrev pub in_front : Option Judgement → Option (List Judgement) → Option (List Judgement)
in_front (Some j) (Some js) = Some (j ∷ js)
in_front j js = None

-- the judgements that are cited, in order, where each citation is the number of an earlier step
abbrev pub cited : List Step → List ℕ → Option (List Judgement)
cited earlier [] = Some []
cited earlier (n ∷ ns) = in_front (judgement_numbered n earlier) (cited earlier ns)

-- what is written at a step behind these earlier ones
abbrev pub written_at : List Step → List ℕ → List Term → Judgement → Written
written_at earlier citations arguments judgement = record {
  arguments = arguments;
  premises = cited earlier citations;
  conclusion = judgement;
}

module _ (procedures : Procedures) where
  -- a judgement is an instance of the rule that its reason names, over the earlier steps; a gap is
  -- an instance of no rule
  abbrev pub InstanceBy : Reason → List Step → Judgement → Type 0
  InstanceBy auto earlier judgement = ⊥
  InstanceBy (by_rule name citations arguments) earlier judgement =
      IsInstance (readings_in (table procedures) name)
      (written_at earlier citations arguments judgement)

  -- the verdict on a judgement that has a reason; there is none on a gap
  abbrev pub VerdictBy : Reason → List Step → Judgement → Verdict → Type 0
  VerdictBy auto earlier judgement verdict = ⊥
  VerdictBy (by_rule name citations arguments) earlier judgement verdict =
      IsVerdict (readings_in (table procedures) name)
      (written_at earlier citations arguments judgement) verdict

  -- each step is an instance over the steps before it; `earlier` are those passed
  abbrev pub AllInstances : List Step → List Step → Type 0
  AllInstances earlier [] = Unit
  AllInstances earlier (step ∷ steps) =
      InstanceBy step.reason earlier step.judgement × AllInstances (earlier ++ step ∷ []) steps

-- the last judgement of a proof
abbrev pub last_judgement : List Step → Option Judgement
last_judgement [] = None
last_judgement (step ∷ []) = Some step.judgement
last_judgement (step ∷ next ∷ steps) = last_judgement (next ∷ steps)

-- a proof ends in its procedure's own triple
abbrev pub EndsWell : Procedure → Type 0
EndsWell f = last_judgement f.proof ≡ Some (own_triple f)

-- a procedure is proved
pub record IsProved (procedures : Procedures) (f : Procedure) : Type 0 where
  pub steps : AllInstances procedures [] f.proof
  pub ends : EndsWell f

-- ACCEPTED: no step is a gap, each is an instance of its named rule, and each proof ends in its
-- procedure's own triple
abbrev pub IsAccepted : Theory → Type 0
IsAccepted theory = Each (IsProved (procedures_of theory)) (procedures_of theory)

-- THE FIRST BAD PLACE. The places are the steps of each procedure, and behind them its end.
-- Why a place is bad: a gap, a step with another verdict than instance, or an end without the
-- procedure's own triple.
pub data Fault : Type 0 where
  gap : Fault
  fails : Verdict → Fault
  no_proof : Fault

-- A bad place: procedures are counted from 1, and so are steps; the end of a proof is the place
-- behind its last step.
pub record BadPlace : Type 0 where
  pub procedure : ℕ
  pub step : ℕ
  pub fault : Fault

module _ (procedures : Procedures) where
  -- why a step with this reason is bad
  abbrev pub IsBadBy : Reason → List Step → Judgement → Fault → Type 0
  IsBadBy reason earlier judgement gap = reason ≡ auto
  IsBadBy reason earlier judgement (fails verdict) =
      VerdictBy procedures reason earlier judgement verdict × (verdict ≢ instance_verdict)
  IsBadBy reason earlier judgement no_proof = ⊥

  -- the first bad place of a proof from this place on, behind these earlier steps: the step
  -- here, or one behind it where that is an instance; and else the end
  abbrev pub FirstBadStep : Procedure → List Step → List Step → ℕ → ℕ → Fault → Type 0
  FirstBadStep f earlier [] place bad fault =
      (bad ≡ place) × (fault ≡ no_proof) × (EndsWell f → ⊥)
  FirstBadStep f earlier (step ∷ steps) place bad fault =
      ((bad ≡ place) × IsBadBy step.reason earlier step.judgement fault)
      ⊎ (InstanceBy procedures step.reason earlier step.judgement
      × FirstBadStep f (earlier ++ step ∷ []) steps (place + 1) bad fault)

  -- of these procedures, of which the first has the number
  abbrev pub FirstBadOf : Procedures → ℕ → BadPlace → Type 0
  FirstBadOf [] number bad = ⊥
  FirstBadOf (f ∷ fs) number bad =
      ((bad.procedure ≡ number) × FirstBadStep f [] f.proof 1 bad.step bad.fault)
      ⊎ (IsProved procedures f × FirstBadOf fs (number + 1) bad)

-- of a theory
abbrev pub IsFirstBad : Theory → BadPlace → Type 0
IsFirstBad theory = FirstBadOf (procedures_of theory) (procedures_of theory) 1
