-- The first bad place of a proof and of a theory, as a walk comes upon it.
use Rattle.std.proofs.Common.{◌≡◌, ◌<◌, ◌∙◌, refl, sym, ap, subst, ℕ, zero, suc, ◌+◌, List, [], ◌∷◌, ◌++◌, map, length, take, drop, get_or, inl, inr, arith, Bool, true, Some, IsTrue, Result, Ok, Err, IfErr, IsErrAnd}
use Rattle.std.specs.Prelude.{◌↔◌, ◌≢◌}
use Rattle.std.proofs.lemmas.List.{append_assoc, append-nil, map_more, drop_more, take-append-drop, map-append, length-map, length-take-le}
use Rattle.model_commands.specs.Theories.{Reason, auto, by_rule, Judgement, Step, Procedure, Procedures, own_triple, procedures_of, nameless_step, nameless_judgement, nameless_procedure}
use Rattle.model_files.specs.Sizes.{JudgementIsSmall, StepsAreSmall}
use Rattle.model_files.specs.FileFaults.{judgement_sorted}
use Rattle.rule_table.specs.Accepted.{InstanceBy, VerdictBy, AllInstances, last_judgement, EndsWell, IsProved, Each, Fault, fails, gap, no_proof, BadPlace, IsBadBy, FirstBadStep, FirstBadOf}
use Rattle.rule_table.specs.Verdicts as table
use Rattle.dom_terms.specs.declared.verdicts.Verdict.{Verdict}
use Rattle.row_patterns.specs.Verdicts.{verdict_in}
use Rattle.theory_syntax.specs.Judgements.{step_of}
use Rattle.theory_syntax.specs.Theories.{procedure_of, theory_of}
use Rattle.theory_syntax.specs.declared.steps.Step as rust_step
use Rattle.theory_syntax.specs.declared.theories.Procedure as rust_procedure
use Rattle.theory_syntax.specs.declared.theories.Theory.{Theory}
use Rattle.cited_steps.specs.Earlier.{steps_in}
use Rattle.hoare_kernel.specs.declared.refusals.Refusal.{Refusal}
use Rattle.hoare_kernel.specs.declared.refusals.Refusal.TheVariants as r
use Rattle.hoare_kernel.specs.Refusals.{Refuses}
use Rattle.hoare_kernel.specs.Walks.{AllSorted, Told, IsThere, IsAmong, IsInside, IsOneOf, StepRefused, StepsRefused, ProcedureRefused, ProceduresRefused}

-- what is told of a place, from what is told of another
pub told : (G H : ℕ → ℕ → Fault → Type 0) → ((p s : ℕ) (x : Fault) → G p s x → H p s x)
    → (e : Refusal) → Told G e → Told H e
told G H f (r.Fails p s v) h = f p s (fails (verdict_in v)) h
told G H f (r.NoProof p) h = (h.0, f p h.0 no_proof h.1)
told G H f (r.Gap p s) h = f p s gap h
told G H f r.OutOfMemory h = tt

-- what a `?` hands out
pub handed_out : {A : Type 0} (P : Refusal → Type 0) (answer : Result A Refusal) (e : Refusal)
    → IsErrAnd answer (λ y. y ≡ e) → P e → IfErr answer P
handed_out P (Ok x) e h p = absurd h
handed_out P (Err y) e h p = subst P (sym h) p

module _ (ps : Procedures) where
  -- THE VERDICT ON A STEP
  module _ (reason : Reason) (earlier : List Step) (judgement : Judgement) (verdict : Verdict)
      (h : VerdictBy ps reason earlier judgement (verdict_in verdict)) where
    -- an instance
    pub instance_by : verdict_in verdict ≡ table.instance_verdict
        → InstanceBy ps reason earlier judgement
    instance_by e = named reason h
      where
        named : (reason : Reason) → VerdictBy ps reason earlier judgement (verdict_in verdict)
            → InstanceBy ps reason earlier judgement
        named auto h = h
        named (by_rule name ns arguments) h =
            subst (VerdictBy ps (by_rule name ns arguments) earlier judgement) e h

    -- and none
    pub refused_by : (number place : ℕ) (e : Refusal) → e ≡ r.Fails number place verdict
        → verdict_in verdict ≢ table.instance_verdict
        → StepRefused ps number place earlier reason judgement e
    refused_by number place e q n =
        subst (StepRefused ps number place earlier reason judgement) (sym q) (refl, refl, (h, n))

  -- STEPS
  -- one instance more
  pub one_more : (earlier front : List Step) (x : Step) → AllInstances ps earlier front
      → InstanceBy ps x.reason (earlier ++ front) x.judgement
      → AllInstances ps earlier (front ++ x ∷ [])
  one_more earlier [] x a i =
      (subst (λ z. InstanceBy ps x.reason z x.judgement) (append-nil earlier) i, tt)
  one_more earlier (y ∷ front) x a i = (
    a.0,
    one_more (earlier ++ y ∷ []) front x a.1
        (subst (λ z. InstanceBy ps x.reason z x.judgement)
        (sym (append_assoc earlier (y ∷ []) front)) i),
  )

  -- a place behind instances
  pub behind : (f : Procedure) (earlier front rest : List Step) (place bad : ℕ) (fault : Fault)
      → AllInstances ps earlier front
      → FirstBadStep ps f (earlier ++ front) rest (place + length front) bad fault
      → FirstBadStep ps f earlier (front ++ rest) place bad fault
  behind f earlier [] rest place bad fault a b =
      subst (λ (n : ℕ). FirstBadStep ps f earlier rest n bad fault) (omega arith)
      (subst (λ z. FirstBadStep ps f z rest (place + 0) bad fault) (append-nil earlier) b)
  behind f earlier (y ∷ front) rest place bad fault a b = inr (
    a.0,
    behind f (earlier ++ y ∷ []) front rest (place + 1) bad fault a.1
        (subst (λ (n : ℕ). FirstBadStep ps f ((earlier ++ y ∷ []) ++ front) rest n bad fault)
        (omega arith)
        (subst (λ z. FirstBadStep ps f z rest (place + suc (length front)) bad fault)
        (sym (append_assoc earlier (y ∷ []) front)) b)),
  )

  -- the steps up to a place and the one at it
  pub passed : (steps : List rust_step.Step) (d : rust_step.Step) (k : ℕ) → k < length steps
      → AllInstances ps [] (steps_in (take k steps))
      → InstanceBy ps (step_of (get_or steps k d)).reason (steps_in (take k steps))
      (nameless_judgement (step_of (get_or steps k d)).judgement)
      → AllInstances ps [] (steps_in (take (k + 1) steps))
  passed steps d k lt a i =
      subst (AllInstances ps []) (sym split)
      (one_more [] (steps_in (take k steps)) (nameless_step (step_of (get_or steps k d))) a i)
    where
      split : steps_in (take (k + 1) steps)
          ≡ steps_in (take k steps) ++ nameless_step (step_of (get_or steps k d)) ∷ []
      split =
          ap (map nameless_step) (map_more step_of steps k d lt)
          ∙ map-append nameless_step (map step_of (take k steps))
          (step_of (get_or steps k d) ∷ [])

  -- the first bad step
  pub refused : (steps : List rust_step.Step) (d : rust_step.Step) (k number place : ℕ)
      (e : Refusal) → k < length steps → place ≡ k + 1
      → AllInstances ps [] (steps_in (take k steps))
      → StepRefused ps number place (steps_in (take k steps)) (step_of (get_or steps k d)).reason
      (nameless_judgement (step_of (get_or steps k d)).judgement) e
      → StepsRefused ps number (steps_in steps) e
  refused steps d k number place e lt at a =
      told (IsThere ps number place (steps_in (take k steps)) x.reason x.judgement)
      (IsAmong ps number (steps_in steps)) (λ p s fault h. (h.0, λ f. there f s fault h.1 h.2)) e
    where
      x : Step
      x = nameless_step (step_of (get_or steps k d))

      rest : List Step
      rest = steps_in (drop (k + 1) steps)

      split : steps_in (take k steps) ++ x ∷ rest ≡ steps_in steps
      split =
          sym (map-append nameless_step (map step_of (take k steps))
          (map step_of (get_or steps k d ∷ drop (k + 1) steps)))
          ∙ ap (map nameless_step) (sym (map-append step_of (take k steps)
          (get_or steps k d ∷ drop (k + 1) steps)))
          ∙ ap (λ (z : List rust_step.Step). steps_in (take k steps ++ z))
          (sym (drop_more steps k d lt))
          ∙ ap steps_in (take-append-drop k steps)

      many : length (steps_in (take k steps)) ≡ k
      many =
          length-map (map step_of (take k steps)) nameless_step
          ∙ length-map (take k steps) step_of ∙ length-take-le k steps (omega (arith, lt))

      there : (f : Procedure) (s : ℕ) (fault : Fault) → s ≡ place
          → IsBadBy ps x.reason (steps_in (take k steps)) x.judgement fault
          → FirstBadStep ps f [] (steps_in steps) 1 s fault
      there f s fault q b =
          subst (λ z. FirstBadStep ps f [] z 1 s fault) split
          (behind f [] (steps_in (take k steps)) (x ∷ rest) 1 s fault a
          (inl (omega (arith, q, at, many), b)))

  -- the same of a step and the steps before it as the program has them
  module _ (steps before : List rust_step.Step) (d x : rust_step.Step) (k : ℕ)
      (lt : k < length steps) (e : before ≡ take k steps) (f : x ≡ get_or steps k d)
      (a : AllInstances ps [] (steps_in (take k steps))) where
    pub passed_step : InstanceBy ps (step_of x).reason (steps_in before)
        (nameless_judgement (step_of x).judgement)
        → AllInstances ps [] (steps_in (take (k + 1) steps))
    passed_step i = passed steps d k lt a
        (subst (λ (z : rust_step.Step). InstanceBy ps (step_of z).reason (steps_in (take k steps))
        (nameless_judgement (step_of z).judgement)) f
        (subst (λ (z : List rust_step.Step). InstanceBy ps (step_of x).reason (steps_in z)
        (nameless_judgement (step_of x).judgement)) e i))

    pub refused_step : (number place : ℕ) (r : Refusal) → place ≡ k + 1
        → StepRefused ps number place (steps_in before) (step_of x).reason
        (nameless_judgement (step_of x).judgement) r → StepsRefused ps number (steps_in steps) r
    refused_step number place r at h = refused steps d k number place r lt at a
        (subst (λ (z : rust_step.Step). StepRefused ps number place (steps_in (take k steps))
        (step_of z).reason (nameless_judgement (step_of z).judgement) r) f
        (subst (λ (z : List rust_step.Step). StepRefused ps number place (steps_in z)
        (step_of x).reason (nameless_judgement (step_of x).judgement) r) e h))

  -- the end of a proof, where each step is an instance
  pub no_end : (f : Procedure) (number : ℕ) → AllInstances ps [] f.proof → (EndsWell f → ⊥)
      → ProcedureRefused ps number f (r.NoProof number)
  no_end f number a n = (
    1 + length f.proof,
    (
      refl,
      subst (λ z. FirstBadStep ps f [] z 1 (1 + length f.proof) no_proof) (append-nil f.proof)
          (behind f [] f.proof [] 1 (1 + length f.proof) no_proof a (refl, refl, n)),
    ),
  )

  -- a bad step
  pub of_steps : (f : Procedure) (number : ℕ) (e : Refusal) → StepsRefused ps number f.proof e
      → ProcedureRefused ps number f e
  of_steps f number =
      told (IsAmong ps number f.proof) (IsInside ps number f) (λ p s fault h. (h.0, h.1 f))

  -- PROCEDURES
  pub each_more : (fs : Procedures) (f : Procedure) → Each (IsProved ps) fs → IsProved ps f
      → Each (IsProved ps) (fs ++ f ∷ [])
  each_more [] f a h = (h, tt)
  each_more (g ∷ fs) f a h = (a.0, each_more fs f a.1 h)

  pub behind_proved : (front rest : Procedures) (number : ℕ) (bad : BadPlace)
      → Each (IsProved ps) front → FirstBadOf ps rest (number + length front) bad
      → FirstBadOf ps (front ++ rest) number bad
  behind_proved [] rest number bad a b =
      subst (λ (n : ℕ). FirstBadOf ps rest n bad) (omega arith) b
  behind_proved (f ∷ front) rest number bad a b = inr (
    a.0,
    behind_proved front rest (number + 1) bad a.1
        (subst (λ (n : ℕ). FirstBadOf ps rest n bad) (omega arith) b),
  )

  pub passed_procedure : (fs : List rust_procedure.Procedure) (d : rust_procedure.Procedure) (k : ℕ)
      → k < length fs → Each (IsProved ps) (map nameless_procedure (map procedure_of (take k fs)))
      → IsProved ps (nameless_procedure (procedure_of (get_or fs k d)))
      → Each (IsProved ps) (map nameless_procedure (map procedure_of (take (k + 1) fs)))
  passed_procedure fs d k lt a h =
      subst (Each (IsProved ps)) (sym split)
      (each_more (map nameless_procedure (map procedure_of (take k fs)))
      (nameless_procedure (procedure_of (get_or fs k d))) a h)
    where
      split : map nameless_procedure (map procedure_of (take (k + 1) fs))
          ≡ map nameless_procedure (map procedure_of (take k fs))
          ++ nameless_procedure (procedure_of (get_or fs k d)) ∷ []
      split =
          ap (map nameless_procedure) (map_more procedure_of fs k d lt)
          ∙ map-append nameless_procedure (map procedure_of (take k fs))
          (procedure_of (get_or fs k d) ∷ [])

  pub refused_procedure : (fs : List rust_procedure.Procedure) (d : rust_procedure.Procedure)
      (k number : ℕ) (e : Refusal) → k < length fs → number ≡ k + 1
      → Each (IsProved ps) (map nameless_procedure (map procedure_of (take k fs)))
      → ProcedureRefused ps number (nameless_procedure (procedure_of (get_or fs k d))) e
      → ProceduresRefused ps (map nameless_procedure (map procedure_of fs)) 1 e
  refused_procedure fs d k number e lt at a =
      told (IsInside ps number f) (IsOneOf ps (map nameless_procedure (map procedure_of fs)) 1)
      (λ p s fault h. there p s fault h.0 h.1) e
    where
      f : Procedure
      f = nameless_procedure (procedure_of (get_or fs k d))

      before : Procedures
      before = map nameless_procedure (map procedure_of (take k fs))

      rest : Procedures
      rest = map nameless_procedure (map procedure_of (drop (k + 1) fs))

      split : before ++ f ∷ rest ≡ map nameless_procedure (map procedure_of fs)
      split =
          sym (map-append nameless_procedure (map procedure_of (take k fs))
          (map procedure_of (get_or fs k d ∷ drop (k + 1) fs)))
          ∙ ap (map nameless_procedure) (sym (map-append procedure_of (take k fs)
          (get_or fs k d ∷ drop (k + 1) fs)))
          ∙ ap (λ (z : List rust_procedure.Procedure).
          map nameless_procedure (map procedure_of (take k fs ++ z)))
          (sym (drop_more fs k d lt))
          ∙ ap (λ (z : List rust_procedure.Procedure).
          map nameless_procedure (map procedure_of z)) (take-append-drop k fs)

      many : length before ≡ k
      many =
          length-map (map procedure_of (take k fs)) nameless_procedure
          ∙ length-map (take k fs) procedure_of ∙ length-take-le k fs (omega (arith, lt))

      there : (p s : ℕ) (x : Fault) → p ≡ number → FirstBadStep ps f [] f.proof 1 s x
          → FirstBadOf ps (map nameless_procedure (map procedure_of fs)) 1
          (record { procedure = p; step = s; fault = x })
      there p s x q h =
          subst (λ z. FirstBadOf ps z 1 (record { procedure = p; step = s; fault = x })) split
          (behind_proved before (f ∷ rest) 1
          (record { procedure = p; step = s; fault = x }) a
          (inl (omega (arith, q, at, many), h)))

-- of a theory
pub refuses : (theory : Theory) (e : Refusal)
    → ProceduresRefused (procedures_of (theory_of theory)) (procedures_of (theory_of theory)) 1 e
    → Refuses theory e
refuses theory (r.Fails p s v) h = h
refuses theory (r.NoProof p) h = h
refuses theory (r.Gap p s) h = h
refuses theory r.OutOfMemory h = tt

-- THE END OF A PROOF
-- the last judgement stands at the last place
pub last_at : (steps : List rust_step.Step) (d : rust_step.Step) (k : ℕ) → suc k ≡ length steps
    → last_judgement (steps_in steps)
    ≡ Some (nameless_judgement (step_of (get_or steps k d)).judgement)
last_at [] d k e = absurd (omega arith)
last_at (s ∷ []) d zero e = refl
last_at (s ∷ []) d (suc k) e = absurd (omega arith)
last_at (s ∷ t ∷ steps) d zero e = absurd (omega arith)
last_at (s ∷ t ∷ steps) d (suc k) e = last_at (t ∷ steps) d k (omega arith)

-- the judgement at a place is small
pub small_at : (steps : List rust_step.Step) (d : rust_step.Step) (k : ℕ) → k < length steps
    → StepsAreSmall (map step_of steps)
    → JudgementIsSmall (step_of (get_or steps k d)).judgement
small_at [] d k lt h = absurd (omega arith)
small_at (s ∷ steps) d zero lt h = h.0
small_at (s ∷ steps) d (suc k) lt h = small_at steps d k (omega arith) h.1

-- each judgement is well sorted
pub sorted_at : (steps : List rust_step.Step) (d : rust_step.Step) (k : ℕ) → k < length steps
    → AllSorted steps → judgement_sorted (step_of (get_or steps k d)).judgement ≡ true
sorted_at [] d k lt h = absurd (omega arith)
sorted_at (s ∷ steps) d zero lt h = h.0
sorted_at (s ∷ steps) d (suc k) lt h = sorted_at steps d k (omega arith) h.1

some_same : {A : Type 0} (a b : A) → Some a ≡ Some b → a ≡ b
some_same a b e = cc

-- a proof ends well where its last judgement is the own triple
pub ends_as : (f : Procedure) (last : Judgement) → last_judgement f.proof ≡ Some last → (b : Bool)
    → (IsTrue b ↔ (last ≡ own_triple f)) → IsTrue b ↔ EndsWell f
ends_as f last e b h =
    (λ t. e ∙ ap Some (h.0 t), λ w. h.1 (some_same last (own_triple f) (sym e ∙ w)))
