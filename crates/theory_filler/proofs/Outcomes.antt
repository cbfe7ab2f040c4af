-- A walk through all procedures of a theory, one after another.
use Rattle.std.proofs.Common.{◌≡◌, ℕ, ◌+◌, ◌<◌, ◌≤◌, List, [], ◌∷◌, ◌++◌, length, map, drop, get_or, refl, sym, ap, subst, add-one}
use Rattle.std.proofs.lemmas.List.{drop_all, map-append}
use Rattle.model_formulas.specs.Formulas.{Named}
use Rattle.model_commands.specs.Theories as model
use Rattle.rule_table.specs.Accepted.{BadPlace, Fault}
use Rattle.model_filling.specs.Offers.{Voice}
use Rattle.model_filling.specs.Walk.{Walk, proof_filled}
use Rattle.model_filling.specs.Filled.{Outcome, WalkAll, IsFilled, all_filled, fails_in, in_front, with_proof, all_done, fails_first, fills_first}
use Rattle.theory_syntax.specs.declared.theories.Procedure.{Procedure}
use Rattle.theory_syntax.specs.declared.steps.Step.{Step}
use Rattle.theory_syntax.specs.Judgements.{step_of}
use Rattle.theory_syntax.specs.Theories.{procedure_of}
use Rattle.theory_filler.specs.declared.faults.FillFault.{FillFault}
use Rattle.theory_filler.specs.declared.faults.FillFault.TheVariants as fault
use Rattle.theory_filler.specs.Faults.{Told, FailsAt, PassesLimit, Refuses}
use Rattle.theory_filler.specs.Walks.{WalkFails}
use Rattle.theory_filler.proofs.Places.{drop-at}
use Rattle.theory_filler.proofs.WholeWalks.{told}

-- filled procedures before others
abbrev pub all_in_front : List (model.ProcedureOf Named) → Outcome → Outcome
all_in_front [] rest = rest
all_in_front (f ∷ fs) rest = in_front f (all_in_front fs rest)

front-more : (fs : List (model.ProcedureOf Named)) (f : model.ProcedureOf Named) (rest : Outcome)
    → all_in_front fs (in_front f rest) ≡ all_in_front (fs ++ f ∷ []) rest
front-more [] f rest = refl
front-more (g ∷ fs) f rest = ap (in_front g) (front-more fs f rest)

front-end : (fs : List (model.ProcedureOf Named)) (voices : List Voice)
    → all_in_front fs (all_filled [] voices) ≡ all_filled fs voices
front-end [] voices = refl
front-end (f ∷ fs) voices = ap (in_front f) (front-end fs voices)

front-fails : (fs : List (model.ProcedureOf Named)) (bad : BadPlace)
    → all_in_front fs (fails_in bad) ≡ fails_in bad
front-fails [] bad = refl
front-fails (f ∷ fs) bad = ap (in_front f) (front-fails fs bad)

module _ (theory : model.Theory) (fs : List Procedure) (voices : List Voice) where
  -- before the procedure at this place, counted from 0
  abbrev pub SoFar : ℕ → List Procedure → List Voice → Type 0
  SoFar k filled others =
      (rest : Outcome) → WalkAll theory (k + 1) (map procedure_of (drop k fs)) others rest
      → WalkAll theory 1 (map procedure_of fs) voices (all_in_front (map procedure_of filled) rest)

  pub so-far-first : SoFar 0 [] voices
  so-far-first rest walk = walk

  pub so-far-last : (k : ℕ) (filled : List Procedure) (others : List Voice) → length fs ≤ k
      → SoFar k filled others
      → WalkAll theory 1 (map procedure_of fs) voices (all_filled (map procedure_of filled) others)
  so-far-last k filled others ge so_far =
      subst (WalkAll theory 1 (map procedure_of fs) voices)
      (front-end (map procedure_of filled) others)
      (so_far (all_filled [] others)
      (subst (λ z. WalkAll theory (k + 1) z others (all_filled [] others))
      (sym (ap (map procedure_of) (drop_all k fs ge))) all_done))

  module _ (k : ℕ) (item : Procedure) (lt : k < length fs) (is : item ≡ get_or fs k item)
      (filled : List Procedure) (here : List Voice) (so_far : SoFar k filled here) where
    from-item : (rest : Outcome)
        → WalkAll theory (k + 1) (procedure_of item ∷ map procedure_of (drop (k + 1) fs)) here rest
        → WalkAll theory 1 (map procedure_of fs) voices
        (all_in_front (map procedure_of filled) rest)
    from-item rest walk = so_far rest
        (subst (λ z. WalkAll theory (k + 1) z here rest)
        (sym (ap (map procedure_of) (drop-at fs k item lt is))) walk)

    pub so-far-next : (new : Procedure) (proof : List Step) (others : List Voice)
        (after : List Procedure) → after ≡ filled ++ new ∷ []
        → procedure_of new ≡ with_proof (procedure_of item) (map step_of proof)
        → Walk theory (procedure_of item) [] [] 1 (map step_of item.proof) here
        (proof_filled (map step_of proof) others) → SoFar (k + 1) after others
    so-far-next new proof others after more own walk rest later =
        let own_walk =
        from-item (in_front (with_proof (procedure_of item) (map step_of proof)) rest)
        (fills_first walk (subst (λ (n : ℕ). WalkAll theory n (map procedure_of (drop (k + 1) fs))
        others rest) (add-one (k + 1)) later)) in
        subst (λ (z : List Procedure). WalkAll theory 1 (map procedure_of fs) voices
        (all_in_front (map procedure_of z) rest)) (sym more)
        (subst (λ z. WalkAll theory 1 (map procedure_of fs) voices (all_in_front z rest))
        (sym (map-append procedure_of filled (new ∷ [])))
        (subst (WalkAll theory 1 (map procedure_of fs) voices)
        (front-more (map procedure_of filled) (procedure_of new) rest)
        (subst (λ (z : model.ProcedureOf Named). WalkAll theory 1 (map procedure_of fs) voices
        (all_in_front (map procedure_of filled) (in_front z rest))) (sym own) own_walk)))

    fails-here : (procedure place : ℕ) (x : Fault)
        → WalkFails theory (procedure_of item) item.proof here (k + 1) procedure place x
        → WalkAll theory 1 (map procedure_of fs) voices
        (fails_in (record { procedure = procedure; step = place; fault = x }))
    fails-here procedure place x h =
        subst (λ (n : ℕ). WalkAll theory 1 (map procedure_of fs) voices
        (fails_in (record { procedure = n; step = place; fault = x }))) (sym h.0)
        (subst (WalkAll theory 1 (map procedure_of fs) voices)
        (front-fails (map procedure_of filled)
        (record { procedure = k + 1; step = place; fault = x }))
        (from-item (fails_in (record { procedure = k + 1; step = place; fault = x }))
        (fails_first h.1)))

    -- what is told of the procedure's proof is told of the theory's proofs
    pub refused-here : (e : FillFault)
        → Told (WalkFails theory (procedure_of item) item.proof here (k + 1)) e
        → Told (λ procedure place x. WalkAll theory 1 (map procedure_of fs) voices
        (fails_in (record { procedure = procedure; step = place; fault = x }))) e
    refused-here =
        told (WalkFails theory (procedure_of item) item.proof here (k + 1))
        (λ procedure place x. WalkAll theory 1 (map procedure_of fs) voices
        (fails_in (record { procedure = procedure; step = place; fault = x }))) fails-here

-- WHY A THEORY IS REFUSED
module _ (theory : model.Theory) (voices : List Voice) where
  -- for a place
  pub refused-at : (e : FillFault) → Told (FailsAt theory voices) e → Refuses theory voices e
  refused-at (fault.Fails procedure place verdict) h = h
  refused-at (fault.NoProof procedure) h = h
  refused-at (fault.Gap procedure place) h = h
  refused-at (fault.Limit kind) h = absurd h
  refused-at fault.OutOfMemory h = tt

  -- for a limit
  pub refused-past : (t : model.Theory) → IsFilled theory voices t → (e : FillFault)
      → PassesLimit t e → Refuses theory voices e
  refused-past t is (fault.Fails procedure place verdict) h = absurd h
  refused-past t is (fault.NoProof procedure) h = absurd h
  refused-past t is (fault.Gap procedure place) h = absurd h
  refused-past t is (fault.Limit kind) h = (t, is, h)
  refused-past t is fault.OutOfMemory h = tt
