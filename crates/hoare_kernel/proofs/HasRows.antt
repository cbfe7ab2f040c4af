-- Formulas that have rows: they keep them as the table grows, and those of what is cited have them
-- where those of each number do.
use Rattle.std.proofs.Common.{◌≡◌, ℕ, ◌<◌, suc, refl, sym, subst, arith, inl, inr, List, [], ◌∷◌, length, get_or, Option, Some, None}
use Rattle.model_terms.specs.Terms.{Term}
use Rattle.model_formulas.specs.Formulas.{Formula}
use Rattle.model_commands.specs.Theories.{Judgement, entails, triple, Reason, auto, by_rule, Step}
use Rattle.rule_table.specs.Accepted.{cited, in_front, judgement_numbered}
use Rattle.formula_table.specs.Interning.{KeepsAll}
use Rattle.formula_table.specs.declared.tables.Table.{Table}
use Rattle.formula_table.proofs.KeptNumbers.{formula-kept}
use Rattle.entail_rules.specs.Numbers.{AllHaveRows, HasRow, IsFull, JudgementHasRows}
use Rattle.entail_kernel.specs.Steps.{StepHasRows}
use Rattle.hoare_kernel.specs.Rows.{NumberHasRows, CitedHaveRows}

-- AS THE TABLE GROWS
module _ (t u : Table) (k : KeepsAll t u) where
  pub row-kept : (p : Formula) → HasRow t p → HasRow u p
  row-kept p h = (h.0, formula-kept t u k h.0 p h.1)

  pub judgement-kept : (j : Judgement) → JudgementHasRows t j → JudgementHasRows u j
  judgement-kept (entails p q s) h = (row-kept p h.0, row-kept q h.1)
  judgement-kept (triple p c q d) h = (row-kept p h.0, row-kept q h.1)

  pub number-kept : (earlier : List Step) (n : ℕ) → NumberHasRows t earlier n
      → NumberHasRows u earlier n
  number-kept earlier n h = λ j e. judgement-kept j (h j e)

-- WHAT IS CITED
module _ (t : Table) (earlier : List Step) where
  in-front : (a : Option Judgement) (b : Option (List Judgement)) (js : List Judgement)
      → in_front a b ≡ Some js → ((j : Judgement) → a ≡ Some j → JudgementHasRows t j)
      → ((js : List Judgement) → b ≡ Some js → AllHaveRows t js) → AllHaveRows t js
  in-front None b js e f g = absurd cc
  in-front (Some j) None js e f g = absurd cc
  in-front (Some j) (Some others) js e f g =
      let same : j ∷ others ≡ js = cc in
      subst (λ (z : List Judgement). AllHaveRows t z) same (f j refl, g others refl)

  pub each-cited : (ns : List ℕ)
      → ((i : ℕ) → i < length ns → NumberHasRows t earlier (get_or ns i 0))
      → CitedHaveRows t earlier ns
  each-cited [] h js e =
      let same : [] ≡ js = cc in subst (λ (z : List Judgement). AllHaveRows t z) same tt
  each-cited (n ∷ ns) h js e =
      in-front (judgement_numbered n earlier) (cited earlier ns) js e
      (h 0 (omega arith))
      (each-cited ns (λ i lt. h (suc i) (omega (arith, lt))))

  -- where those of the judgement do too, or the table is full
  pub written : (reason : Reason) (j : Judgement) (name ns : List ℕ) (es : List Term)
      → reason ≡ by_rule name ns es → JudgementHasRows t j → CitedHaveRows t earlier ns
      → StepHasRows t earlier reason j
  written reason j name ns es e h k =
      subst (λ (z : Reason). StepHasRows t earlier z j) (sym e) (λ js q. inl (h, k js q))

  pub when-full : (reason : Reason) (j : Judgement) → (reason ≡ auto → ⊥) → IsFull t
      → StepHasRows t earlier reason j
  when-full auto j n h = absurd (n refl)
  when-full (by_rule name ns es) j n h = λ js q. inr h
