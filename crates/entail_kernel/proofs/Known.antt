-- The numbers that are known of the step with a number stand for what it says, and they still do
-- as the table grows.
use Rattle.std.proofs.Common.{◌≡◌, ℕ, zero, suc, ◌+◌, ◌<◌, ◌≤◌, ◌==◌, ◌∙◌, sym, ap, subst, arith, true, List, [], ◌∷◌, ◌++◌, length, take, get_or, Option, Some, None}
use Rattle.std.proofs.lemmas.Option.{same_Some}
use Rattle.std.proofs.lemmas.Bool.{and_parts, cond-true, cond-false, eqb-true, eq-eqb, ne_eqb}
use Rattle.model_commands.specs.Theories.{Judgement, nameless_judgement}
use Rattle.rule_table.specs.Accepted.{judgement_numbered}
use Rattle.theory_syntax.specs.Judgements.{judgement_of}
use Rattle.theory_syntax.specs.declared.steps.Step.{Step}
use Rattle.formula_table.specs.Interning.{KeepsAll}
use Rattle.formula_table.specs.declared.tables.Table.{Table}
use Rattle.row_walks.specs.declared.steps.Numbered.{Numbered}
use Rattle.cited_steps.specs.Earlier.{are_numbered, steps_in}
use Rattle.entail_rules.specs.Numbers.{IsKnown}
use Rattle.entail_rules.proofs.Numbers.{known-kept}
use Rattle.entail_kernel.specs.Known.{AreKnown, known_of}

module _ (t : Table) where
  -- WHAT IS KNOWN of the step at a place
  at-place : (known : List (Option Numbered)) (steps : List Step) (n m k : ℕ) (j : Judgement)
      → n ≡ m + k → are_numbered m steps ≡ true → AreKnown t known steps
      → judgement_numbered n (steps_in steps) ≡ Some j → IsKnown t (get_or known k None) j
  at-place [] steps n m k j e h a f = tt
  at-place (o ∷ known) [] n m k j e h a f = absurd a
  at-place (o ∷ known) (s ∷ steps) n m zero j e h a f =
      let parts = and_parts (s.number == m) (are_numbered (m + 1) steps) h in
      let same : s.number ≡ m = eqb-true s.number m parts.0 in
      let said : Some (nameless_judgement (judgement_of s.judgement)) ≡ Some j =
      sym (cond-true (s.number == n) _ _ (eq-eqb s.number n (omega (arith, same, e)))) ∙ f in
      subst (IsKnown t o) (same_Some (nameless_judgement (judgement_of s.judgement)) j said) a.0
  at-place (o ∷ known) (s ∷ steps) n m (suc k) j e h a f =
      let parts = and_parts (s.number == m) (are_numbered (m + 1) steps) h in
      let same : s.number ≡ m = eqb-true s.number m parts.0 in
      at-place known steps n (m + 1) k j (omega (arith, e)) parts.1 a.1
      (sym (cond-false (s.number == n) _ _
      (ne_eqb s.number n (λ d. omega (arith, same, e, d)))) ∙ f)

  pub of-number : (known : List (Option Numbered)) (steps : List Step) (n : ℕ) (j : Judgement)
      → are_numbered 1 steps ≡ true → AreKnown t known steps
      → judgement_numbered n (steps_in steps) ≡ Some j → IsKnown t (known_of n known) j
  of-number known steps zero j h a f = tt
  of-number known steps (suc k) j h a f =
      at-place known steps (suc k) 1 k j (omega arith) h a f

-- A TABLE THAT GROWS
pub all-kept : (t u : Table) → KeepsAll t u → (known : List (Option Numbered)) (steps : List Step)
    → AreKnown t known steps → AreKnown u known steps
all-kept t u k [] steps a = tt
all-kept t u k (o ∷ known) [] a = absurd a
all-kept t u k (o ∷ known) (s ∷ steps) a = (
  known-kept t u k o (nameless_judgement (judgement_of s.judgement)) a.0,
  all-kept t u k known steps a.1,
)

-- THE STEPS BEFORE A PLACE
pub known-before : (t : Table) (known : List (Option Numbered)) (steps : List Step) (k : ℕ)
    → length known ≤ k → AreKnown t known steps → AreKnown t known (take k steps)
known-before t [] steps k l a = tt
known-before t (o ∷ known) [] k l a = absurd a
known-before t (o ∷ known) (s ∷ steps) zero l a = absurd (omega (arith, l))
known-before t (o ∷ known) (s ∷ steps) (suc k) l a =
    (a.0, known-before t known steps k (omega (arith, l)) a.1)

-- ONE STEP MORE
pub known-more : (t : Table) (known : List (Option Numbered)) (steps : List Step)
    (o : Option Numbered) (d : Step) → length known < length steps → AreKnown t known steps
    → IsKnown t o (nameless_judgement (judgement_of (get_or steps (length known) d).judgement))
    → AreKnown t (known ++ o ∷ []) steps
known-more t known [] o d l a h = absurd (omega (arith, l))
known-more t [] (s ∷ steps) o d l a h = (h, tt)
known-more t (p ∷ known) (s ∷ steps) o d l a h =
    (a.0, known-more t known steps o d (omega (arith, l)) a.1 h)

pub known-next : (t u : Table) → KeepsAll t u → (known : List (Option Numbered))
    (steps : List Step) (o : Option Numbered) (place : ℕ) (step : Step) → length known ≡ place
    → place < length steps → step ≡ get_or steps place step → AreKnown t known steps
    → IsKnown u o (nameless_judgement (judgement_of step.judgement))
    → AreKnown u (known ++ o ∷ []) steps
known-next t u k known steps o place step e l is a h =
    known-more u known steps o step (omega (arith, e, l)) (all-kept t u k known steps a)
    (subst (λ (z : Step). IsKnown u o (nameless_judgement (judgement_of z.judgement)))
    (is ∙ ap (λ i. get_or steps i step) (sym e)) h)
