-- The numbers of the steps of a proof and what they cite, where its steps are numbered from 1 and
-- instances: no number is greater than that of the steps.
use Rattle.std.proofs.Common.{◌≡◌, ℕ, suc, ◌+◌, ◌≤◌, ◌==◌, Bool, true, false, cond, List, [], ◌∷◌, ◌++◌, length, map, Option, Some, None, refl, sym, arith}
use Rattle.model_formulas.specs.Formulas.{Named}
use Rattle.model_commands.specs.Each.{Each}
use Rattle.model_commands.specs.Theories.{Judgement, Reason, auto, by_rule, Step, StepOf, Procedures, nameless_step}
use Rattle.rule_table.specs.Table.{table}
use Rattle.rule_table.specs.Verdicts.{readings_in}
use Rattle.rule_table.specs.Accepted.{AllInstances, InstanceBy, judgement_numbered, cited, in_front, written_at}
use Rattle.model_filling.specs.Offers.{IsNumberedFrom}
use Rattle.model_filling.proofs.Premises.{premises-there}
use Rattle.filled_theory_laws.proofs.Declared.{each-both}

module _ (most : ℕ) where
  -- what the reason cites isn't greater
  abbrev pub CitesLow : Reason → Type 0
  CitesLow auto = Unit
  CitesLow (by_rule name citations arguments) = Each (λ n. n ≤ most) citations

  abbrev AreLow : {F : Type 0} → List (StepOf F) → Type 0
  AreLow = Each (λ step. step.number ≤ most)

  pub numbered-low : {F : Type 0} (n : ℕ) (steps : List (StepOf F)) → IsNumberedFrom n steps
      → n + length steps ≤ suc most → AreLow steps
  numbered-low n [] numbered le = tt
  numbered-low n (step ∷ steps) numbered le =
      (omega (arith, numbered.0, le), numbered-low (suc n) steps numbered.1 (omega (arith, le)))

  -- a number that is found is one of theirs
  found-low : (n : ℕ) (j : Judgement) (steps : List Step) → AreLow steps
      → judgement_numbered n steps ≡ Some j → n ≤ most
  found-low n j [] low found = absurd cc
  found-low n j (x ∷ xs) low found = at (x.number == n) refl (found-low n j xs low.1) found
    where
      at : (b : Bool) → x.number == n ≡ b → (judgement_numbered n xs ≡ Some j → n ≤ most)
          → cond b (Some x.judgement) (judgement_numbered n xs) ≡ Some j → n ≤ most
      at true same rest e = let le : x.number ≤ most = low.0 in grind (arith, same, le)
      at false other rest e = rest e

  cited-low : (earlier : List Step) → AreLow earlier → (ns : List ℕ) (js : List Judgement)
      → cited earlier ns ≡ Some js → Each (λ n. n ≤ most) ns
  cited-low earlier low [] js e = tt
  cited-low earlier low (n ∷ ns) js e =
      first (judgement_numbered n earlier) (cited earlier ns) refl refl
      (λ js. cited-low earlier low ns js) e
    where
      first : (a : Option Judgement) (b : Option (List Judgement))
          → judgement_numbered n earlier ≡ a → cited earlier ns ≡ b
          → ((js : List Judgement) → cited earlier ns ≡ Some js → Each (λ n. n ≤ most) ns)
          → in_front a b ≡ Some js → Each (λ n. n ≤ most) (n ∷ ns)
      first None b p q rest e = absurd cc
      first (Some j) None p q rest e = absurd cc
      first (Some j) (Some js) p q rest e = (found-low n j earlier low p, rest js q)

  instance-low : (procedures : Procedures) (reason : Reason) (earlier : List Step) (j : Judgement)
      → InstanceBy procedures reason earlier j → AreLow earlier → CitesLow reason
  instance-low procedures auto earlier j i low = tt
  instance-low procedures (by_rule name ns arguments) earlier j i low =
      let there = premises-there (readings_in (table procedures) name)
      (written_at earlier ns arguments j) i in
      cited-low earlier low ns there.0 (sym there.1)

  pub steps-low : (procedures : Procedures) (earlier : List Step) (steps : List (StepOf Named))
      → AreLow earlier → AreLow steps
      → AllInstances procedures earlier (map nameless_step steps)
      → Each (λ step. CitesLow step.reason) steps
  steps-low procedures earlier [] low here right = tt
  steps-low procedures earlier (step ∷ steps) low here right = (
    instance-low procedures step.reason earlier (nameless_step step).judgement right.0 low,
    steps-low procedures (earlier ++ nameless_step step ∷ []) steps
        (each-both (λ step. step.number ≤ most) earlier (nameless_step step ∷ []) low (here.0, tt))
        here.1 right.1,
  )
