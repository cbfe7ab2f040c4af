-- How the steps of a plan are written one after the other.
use Rattle.std.proofs.Common.{◌≡◌, ◌∙◌, ℕ, suc, List, [], ◌∷◌, ◌++◌, length, map, Result, Ok, Err, IfOk, ap, ap₂, sym, subst, arith, append_assoc, append-nil, length-append}
use Rattle.std.proofs.lemmas.List.{length-map}
use Rattle.model_shapes.specs.Values.{Name}
use Rattle.model_formulas.specs.Formulas.{Named}
use Rattle.model_commands.specs.Theories.{JudgementOf, StepOf}
use Rattle.assistant_laws.specs.Plans.{Plan, from_one, from_two, last_number, last_step, steps_of}
use Rattle.assistant_laws.proofs.Steps.{size-last, size-steps}
use Rattle.theory_syntax.specs.declared.steps.Step.{Step}
use Rattle.theory_syntax.specs.Judgements.{step_of}
use Rattle.step_filler.specs.declared.drafts.Draft.{Draft}
use Rattle.step_filler.specs.declared.drafts.Stop.{Stop}
use Rattle.step_filler.specs.declared.drafts.Stop.TheVariants as stop
use Rattle.step_filler.specs.Given.{grown, given_by}
use Rattle.step_filler.specs.Drafts.{drafted, next, Adds, IsKept, Written, step_by, WritesOne, WritesPlan}

-- the next number after a plan
next-after : (plan : Plan) (a b : Draft) → Adds (steps_of (next a) plan) a b
    → next b ≡ suc (last_number (next a) plan)
next-after plan a b adds =
    let more : length (drafted b) ≡ length (drafted a ++ steps_of (next a) plan) =
    ap length adds.2 in
    omega (
      arith,
      adds.0,
      more,
      length-append (drafted a) (steps_of (next a) plan),
      length-map a.steps step_of,
      length-map b.steps step_of,
      size-steps plan (next a),
      size-last plan (next a),
    )

-- WHAT IS WRITTEN FIRST, and then more
module _ (first rest : List (StepOf Named)) (n m : ℕ) where
  -- there was no room for all of the first
  pub stops-first : (a b : Draft) (e : Stop) → Written first n a b (Err e)
      → Written (first ++ rest) m a b (Err e)
  stops-first a b stop.Full x = (
    x.0,
    x.1,
    λ more. ap (grown (drafted a)) (append_assoc first rest more) ∙ x.2 (rest ++ more),
  )
  stops-first a b stop.OutOfMemory x = tt

  -- there was room for the first
  pub then-written : (a b c : Draft) (r : Result ℕ Stop) → Adds first a b → Written rest m b c r
      → Written (first ++ rest) m a c r
  then-written a b c (Ok k) x y = (
    y.0,
    (
      y.1.0 ∙ x.0,
      y.1.1,
      y.1.2 ∙ ap (λ l. l ++ rest) x.2 ∙ append_assoc (drafted a) first rest,
      λ more. ap (grown (drafted a)) (append_assoc first rest more) ∙ x.3 (rest ++ more)
          ∙ y.1.3 more,
    ),
  )
  then-written a b c (Err stop.Full) x y = (
    y.0 ∙ x.0,
    y.1,
    λ more. ap (grown (drafted a)) (append_assoc first rest more) ∙ x.3 (rest ++ more) ∙ y.2 more,
  )
  then-written a b c (Err stop.OutOfMemory) x y = tt

-- A STEP FROM ANOTHER
module _ (rule : Name) (p : Plan) (j : JudgementOf Named) where
  pub one-stops : (a b : Draft) (e : Stop) → WritesPlan p a b (Err e)
      → WritesPlan (from_one rule p j) a b (Err e)
  one-stops a b e x = stops-first (steps_of (next a) p)
      (last_step (next a) (from_one rule p j) ∷ [])
      (last_number (next a) p) (last_number (next a) (from_one rule p j)) a b e x

  pub one-written : (a b c : Draft) (n : ℕ) (r : Result ℕ Stop) → WritesPlan p a b (Ok n)
      → WritesOne rule (n ∷ []) j b c r → WritesPlan (from_one rule p j) a c r
  one-written a b c n r x y =
      then-written (steps_of (next a) p) (last_step (next a) (from_one rule p j) ∷ [])
      (last_number (next a) p) (last_number (next a) (from_one rule p j)) a b c r x.1
      (subst
      (λ (s : StepOf Named). Written (s ∷ []) (last_number (next a) (from_one rule p j)) b c r)
      same (subst (λ (k : ℕ). Written (step_by (next b) rule (n ∷ []) j ∷ []) k b c r) here y))
    where
      here : next b ≡ last_number (next a) (from_one rule p j)
      here = next-after p a b x.1

      same : step_by (next b) rule (n ∷ []) j ≡ last_step (next a) (from_one rule p j)
      same = λ i. step_by (here i) rule (x.0 i ∷ []) j

-- A STEP FROM TWO OTHERS
module _ (rule : Name) (p q : Plan) (j : JudgementOf Named) where
  pub first-stops : (a b : Draft) (e : Stop) → WritesPlan p a b (Err e)
      → WritesPlan (from_two rule p q j) a b (Err e)
  first-stops a b e x = stops-first (steps_of (next a) p)
      (steps_of (suc (last_number (next a) p)) q ++ last_step (next a) (from_two rule p q j) ∷ [])
      (last_number (next a) p) (last_number (next a) (from_two rule p q j)) a b e x

  pub second-stops : (a b c : Draft) (n : ℕ) (e : Stop) → WritesPlan p a b (Ok n)
      → WritesPlan q b c (Err e) → WritesPlan (from_two rule p q j) a c (Err e)
  second-stops a b c n e x y =
      then-written (steps_of (next a) p)
      (steps_of (suc (last_number (next a) p)) q ++ last_step (next a) (from_two rule p q j) ∷ [])
      (last_number (next a) p) (last_number (next a) (from_two rule p q j)) a b c (Err e) x.1
      (subst (λ (m : ℕ). Written (steps_of m q ++ last_step (next a) (from_two rule p q j) ∷ [])
      (last_number (next a) (from_two rule p q j)) b c (Err e)) (next-after p a b x.1)
      (stops-first (steps_of (next b) q) (last_step (next a) (from_two rule p q j) ∷ [])
      (last_number (next b) q) (last_number (next a) (from_two rule p q j)) b c e y))

  pub both-written : (a b c d : Draft) (n m : ℕ) (r : Result ℕ Stop) → WritesPlan p a b (Ok n)
      → WritesPlan q b c (Ok m) → WritesOne rule (n ∷ m ∷ []) j c d r
      → WritesPlan (from_two rule p q j) a d r
  both-written a b c d n m r x y z =
      then-written (steps_of (next a) p)
      (steps_of (suc (last_number (next a) p)) q ++ last_step (next a) (from_two rule p q j) ∷ [])
      (last_number (next a) p) (last_number (next a) (from_two rule p q j)) a b d r x.1
      (subst (λ (k : ℕ). Written (steps_of k q ++ last_step (next a) (from_two rule p q j) ∷ [])
      (last_number (next a) (from_two rule p q j)) b d r) (next-after p a b x.1)
      (then-written (steps_of (next b) q) (last_step (next a) (from_two rule p q j) ∷ [])
      (last_number (next b) q) (last_number (next a) (from_two rule p q j)) b c d r y.1
      (subst
      (λ (s : StepOf Named). Written (s ∷ []) (last_number (next a) (from_two rule p q j)) c d r)
      same
      (subst (λ (k : ℕ). Written (step_by (next c) rule (n ∷ m ∷ []) j ∷ []) k c d r) here z))))
    where
      here : next c ≡ last_number (next a) (from_two rule p q j)
      here = next-after q b c y.1 ∙ ap (λ k. suc (last_number k q)) (next-after p a b x.1)

      same : step_by (next c) rule (n ∷ m ∷ []) j ≡ last_step (next a) (from_two rule p q j)
      same = λ i. step_by (here i) rule
          (x.0 i ∷ (y.0 ∙ ap (λ k. last_number k q) (next-after p a b x.1)) i ∷ []) j

-- THE OFFER of a plan whose steps were written from nothing
kept-is-given : (plan : Plan) (n : ℕ) (a b : Draft) (r : Result ℕ Stop) → drafted a ≡ []
    → next a ≡ n → WritesPlan plan a b r → IsKept r → drafted b ≡ given_by n plan
kept-is-given plan n a b (Ok k) none start x kept =
    sym (x.1.3 []) ∙ ap (grown (drafted a)) (append-nil (steps_of (next a) plan))
    ∙ ap₂ (λ (l : List (StepOf Named)) (m : ℕ). grown l (steps_of m plan)) none start
kept-is-given plan n a b (Err stop.Full) none start x kept =
    sym (x.2 []) ∙ ap (grown (drafted a)) (append-nil (steps_of (next a) plan))
    ∙ ap₂ (λ (l : List (StepOf Named)) (m : ℕ). grown l (steps_of m plan)) none start
kept-is-given plan n a b (Err stop.OutOfMemory) none start x kept = absurd kept

pub finished-is-given : {E : Type 0} (plan : Plan) (n : ℕ) (a b : Draft) (r : Result ℕ Stop)
    (result : Result (List Step) E) → drafted a ≡ [] → next a ≡ n → WritesPlan plan a b r
    → IfOk result (λ steps. (steps ≡ b.steps) × IsKept r)
    → IfOk result (λ steps. map step_of steps ≡ given_by n plan)
finished-is-given plan n a b r (Ok steps) none start x done =
    ap (map step_of) done.0 ∙ kept-is-given plan n a b r none start x done.1
finished-is-given plan n a b r (Err e) none start x done = tt
