-- A step of a proof whose steps are numbered by their places, and what it says.
use Rattle.std.proofs.Common.{◌≡◌, ℕ, zero, suc, ◌+◌, ◌<◌, ◌==◌, Bool, true, false, cond, List, [], ◌∷◌, map, Some, None, refl, sym, ap, ◌∙◌, subst, arith, take}
use Rattle.std.specs.List.{find, slice_get}
use Rattle.std.specs.Option.{option_map}
use Rattle.std.proofs.lemmas.Option.{same_Some}
use Rattle.std.proofs.lemmas.Bool.{and_parts, and_from, cond-true, cond-false, eqb-true, eq-eqb, ne_eqb}
use Rattle.model_formulas.specs.Formulas.{Named}
use Rattle.model_commands.specs.Theories.{StepOf, nameless_judgement, nameless_step}
use Rattle.model_files.specs.Sizes.{StepsAreSmall, JudgementIsSmall}
use Rattle.rule_table.specs.Accepted.{judgement_numbered}
use Rattle.theory_syntax.specs.declared.steps.Step.{Step}
use Rattle.theory_syntax.specs.Judgements.{step_of, judgement_of}
use Rattle.cited_steps.specs.Earlier.{steps_in, written_judgement, are_numbered, AreCitable}

-- THE STEP OF A NUMBER
-- none where the numbers begin above it, and else the one at its place
none_below : (n m : ℕ) (steps : List Step) → n < m → are_numbered m steps ≡ true
    → find (λ s. s.number == n) steps ≡ None
none_below n m [] lt h = refl
none_below n m (s ∷ steps) lt h =
    let parts = and_parts (s.number == m) (are_numbered (m + 1) steps) h in
    let same : s.number ≡ m = eqb-true s.number m parts.0 in
    cond-false (s.number == n) _ _ (ne_eqb s.number n (λ e. omega arith))
    ∙ none_below n (m + 1) steps (omega arith) parts.1

found_at : (n m k : ℕ) (steps : List Step) → n ≡ m + k → are_numbered m steps ≡ true
    → find (λ s. s.number == n) steps ≡ slice_get steps k
found_at n m k [] e h = refl
found_at n m zero (s ∷ steps) e h =
    let parts = and_parts (s.number == m) (are_numbered (m + 1) steps) h in
    let same : s.number ≡ m = eqb-true s.number m parts.0 in
    cond-true (s.number == n) _ _ (eq-eqb s.number n (omega arith))
found_at n m (suc k) (s ∷ steps) e h =
    let parts = and_parts (s.number == m) (are_numbered (m + 1) steps) h in
    let same : s.number ≡ m = eqb-true s.number m parts.0 in
    cond-false (s.number == n) _ _ (ne_eqb s.number n (λ f. omega arith))
    ∙ found_at n (m + 1) k steps (omega arith) parts.1

pub none_is_zero : (steps : List Step) (n : ℕ) → n < 1 → are_numbered 1 steps ≡ true
    → find (λ s. s.number == n) steps ≡ None
none_is_zero steps n lt h = none_below n 1 steps lt h

pub at_its_place : (steps : List Step) (n k : ℕ) → n ≡ k + 1 → are_numbered 1 steps ≡ true
    → find (λ s. s.number == n) steps ≡ slice_get steps k
at_its_place steps n k e h = found_at n 1 k steps (omega arith) h

-- WHAT IT SAYS
-- without the names of bound variables
pub nameless-is : (n : ℕ) (steps : List (StepOf Named))
    → judgement_numbered n (map nameless_step steps)
    ≡ option_map nameless_judgement (written_judgement n steps)
nameless-is n [] = refl
nameless-is n (step ∷ steps) = first_or_later (step.number == n) (nameless-is n steps)
  where
    first_or_later : (b : Bool) → judgement_numbered n (map nameless_step steps)
        ≡ option_map nameless_judgement (written_judgement n steps)
        → cond b (Some (nameless_judgement step.judgement))
        (judgement_numbered n (map nameless_step steps))
        ≡ option_map nameless_judgement (cond b (Some step.judgement) (written_judgement n steps))
    first_or_later true e = refl
    first_or_later false e = e

cited_is_found : (n : ℕ) (steps : List Step) → written_judgement n (map step_of steps)
    ≡ option_map (λ s. judgement_of s.judgement) (find (λ s. s.number == n) steps)
cited_is_found n [] = refl
cited_is_found n (s ∷ steps) = first_or_later (s.number == n) (cited_is_found n steps)
  where
    first_or_later : (b : Bool) → written_judgement n (map step_of steps)
        ≡ option_map (λ s. judgement_of s.judgement) (find (λ s. s.number == n) steps)
        → cond b (Some (judgement_of s.judgement)) (written_judgement n (map step_of steps))
        ≡ option_map (λ s. judgement_of s.judgement)
        (cond b (Some s) (find (λ s. s.number == n) steps))
    first_or_later true e = refl
    first_or_later false e = e

found_is_small : (n : ℕ) (steps : List Step) (found : Step) → StepsAreSmall (map step_of steps)
    → find (λ s. s.number == n) steps ≡ Some found → JudgementIsSmall (judgement_of found.judgement)
found_is_small n [] found h e = absurd cc
found_is_small n (s ∷ steps) found h e = first_or_later (s.number == n) e
    (found_is_small n steps found h.1)
  where
    first_or_later : (b : Bool) → cond b (Some s) (find (λ s. s.number == n) steps) ≡ Some found
        → (find (λ s. s.number == n) steps ≡ Some found
        → JudgementIsSmall (judgement_of found.judgement))
        → JudgementIsSmall (judgement_of found.judgement)
    first_or_later true e later =
        subst (λ (z : Step). JudgementIsSmall (judgement_of z.judgement)) (same_Some s found e) h.0
    first_or_later false e later = later e

pub none_cited : (n : ℕ) (steps : List Step) → None ≡ find (λ s. s.number == n) steps
    → written_judgement n (map step_of steps) ≡ None
none_cited n steps e =
    cited_is_found n steps ∙ ap (option_map (λ (s : Step). judgement_of s.judgement)) (sym e)

pub one_cited : (n : ℕ) (steps : List Step) (found : Step) → StepsAreSmall (map step_of steps)
    → Some found ≡ find (λ s. s.number == n) steps
    → (written_judgement n (map step_of steps) ≡ Some (judgement_of found.judgement))
    × JudgementIsSmall (judgement_of found.judgement)
one_cited n steps found h e = (
  cited_is_found n steps ∙ ap (option_map (λ (s : Step). judgement_of s.judgement)) (sym e),
  found_is_small n steps found h (sym e),
)

-- the same without names
pub none_nameless : (n : ℕ) (steps : List Step) → None ≡ find (λ s. s.number == n) steps
    → judgement_numbered n (steps_in steps) ≡ None
none_nameless n steps e =
    nameless-is n (map step_of steps) ∙ ap (option_map nameless_judgement) (none_cited n steps e)

pub one_nameless : (n : ℕ) (steps : List Step) (found : Step) → StepsAreSmall (map step_of steps)
    → Some found ≡ find (λ s. s.number == n) steps
    → judgement_numbered n (steps_in steps)
    ≡ Some (nameless_judgement (judgement_of found.judgement))
one_nameless n steps found h e =
    nameless-is n (map step_of steps)
    ∙ ap (option_map nameless_judgement) (one_cited n steps found h e).0

-- THE STEPS BEFORE A PLACE
small_before : (steps : List Step) (k : ℕ) → StepsAreSmall (map step_of steps)
    → StepsAreSmall (map step_of (take k steps))
small_before [] zero h = tt
small_before [] (suc k) h = tt
small_before (s ∷ steps) zero h = tt
small_before (s ∷ steps) (suc k) h = (h.0, small_before steps k h.1)

numbered_before : (n : ℕ) (steps : List Step) (k : ℕ) → are_numbered n steps ≡ true
    → are_numbered n (take k steps) ≡ true
numbered_before n [] zero h = refl
numbered_before n [] (suc k) h = refl
numbered_before n (s ∷ steps) zero h = refl
numbered_before n (s ∷ steps) (suc k) h =
    let parts = and_parts (s.number == n) (are_numbered (n + 1) steps) h in
    and_from (s.number == n) _ parts.0 (numbered_before (n + 1) steps k parts.1)

-- they may be cited
pub citable_before : (steps : List Step) (k : ℕ) → AreCitable steps → AreCitable (take k steps)
citable_before steps k h = record {
  small = small_before steps k h.small;
  in_order = numbered_before 1 steps k h.in_order;
}
