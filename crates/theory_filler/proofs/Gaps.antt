-- The order of gaps counts for nothing where a step is renumbered.
use Rattle.std.proofs.Common.{◌≡◌, ◌∙◌, ℕ, ◌+◌, nat_le, cond, List, [], ◌∷◌, ◌++◌, map, reverse, refl, sym, ap, ap₂, arith}
use Rattle.std.proofs.lemmas.List.{reverse-append, map-append}
use Rattle.model_formulas.specs.Formulas.{Named}
use Rattle.model_commands.specs.Theories.{Reason, auto, by_rule, StepOf}
use Rattle.model_filling.specs.Renumbering.{FilledGap, moved, raised, raised_reason, renumbered}
use Rattle.gap_filling.specs.declared.renumbering.FilledGap as rust
use Rattle.gap_filling.specs.Renumbered.{gap_of}
use Rattle.theory_filler.specs.Walks.{gaps_in}

-- what all of them bring
abbrev total : List FilledGap → ℕ
total [] = 0
total (gap ∷ gaps) = gap.more + total gaps

-- what those bring whose number isn't above this one
abbrev brought : ℕ → List FilledGap → ℕ
brought n [] = 0
brought n (gap ∷ gaps) = cond (nat_le gap.number n) gap.more 0 + brought n gaps

moved-by : (gaps : List FilledGap) (n : ℕ) → moved gaps n ≡ n + total gaps
moved-by [] n = omega arith
moved-by (gap ∷ gaps) n = omega (arith, moved-by gaps n)

raised-by : (gaps : List FilledGap) (n : ℕ) → raised gaps n ≡ n + brought n gaps
raised-by [] n = omega arith
raised-by (gap ∷ gaps) n = omega (arith, raised-by gaps n)

total-append : (gaps more : List FilledGap) → total (gaps ++ more) ≡ total gaps + total more
total-append [] more = omega arith
total-append (gap ∷ gaps) more = omega (arith, total-append gaps more)

brought-append : (n : ℕ) (gaps more : List FilledGap)
    → brought n (gaps ++ more) ≡ brought n gaps + brought n more
brought-append n [] more = omega arith
brought-append n (gap ∷ gaps) more = omega (arith, brought-append n gaps more)

total-reverse : (gaps : List FilledGap) → total (reverse gaps) ≡ total gaps
total-reverse [] = refl
total-reverse (gap ∷ gaps) =
    ap total (reverse-append (gap ∷ []) gaps) ∙ total-append (reverse gaps) (gap ∷ [])
    ∙ omega (arith, total-reverse gaps)

brought-reverse : (n : ℕ) (gaps : List FilledGap) → brought n (reverse gaps) ≡ brought n gaps
brought-reverse n [] = refl
brought-reverse n (gap ∷ gaps) =
    ap (brought n) (reverse-append (gap ∷ []) gaps) ∙ brought-append n (reverse gaps) (gap ∷ [])
    ∙ omega (arith, brought-reverse n gaps)

pub moved-reverse : (gaps : List FilledGap) (n : ℕ) → moved (reverse gaps) n ≡ moved gaps n
moved-reverse gaps n =
    moved-by (reverse gaps) n ∙ ap (λ k. n + k) (total-reverse gaps) ∙ sym (moved-by gaps n)

raised-reverse : (gaps : List FilledGap) (n : ℕ) → raised (reverse gaps) n ≡ raised gaps n
raised-reverse gaps n =
    raised-by (reverse gaps) n ∙ ap (λ k. n + k) (brought-reverse n gaps) ∙ sym (raised-by gaps n)

citations-reverse : (gaps : List FilledGap) (ns : List ℕ)
    → map (raised (reverse gaps)) ns ≡ map (raised gaps) ns
citations-reverse gaps [] = refl
citations-reverse gaps (n ∷ ns) =
    ap₂ (λ (m : ℕ) (ms : List ℕ). m ∷ ms) (raised-reverse gaps n) (citations-reverse gaps ns)

pub reason-reverse : (gaps : List FilledGap) (reason : Reason)
    → raised_reason (reverse gaps) reason ≡ raised_reason gaps reason
reason-reverse gaps auto = refl
reason-reverse gaps (by_rule name ns arguments) =
    ap (λ (ms : List ℕ). by_rule name ms arguments) (citations-reverse gaps ns)

pub step-reverse : (gaps : List FilledGap) (step : StepOf Named)
    → renumbered (reverse gaps) step ≡ renumbered gaps step
step-reverse gaps step =
    ap₂ (λ (n : ℕ) (reason : Reason). renumbered_to n reason) (moved-reverse gaps step.number)
    (reason-reverse gaps step.reason)
  where
    renumbered_to : ℕ → Reason → StepOf Named
    renumbered_to n reason = record {
      number = n;
      line = step.line;
      reason = reason;
      judgement = step.judgement;
    }

-- one gap more
pub gaps-more : (gaps : List rust.FilledGap) (gap : rust.FilledGap)
    → gaps_in (gaps ++ gap ∷ []) ≡ gap_of gap ∷ gaps_in gaps
gaps-more gaps gap =
    ap reverse (map-append gap_of gaps (gap ∷ []))
    ∙ reverse-append (map gap_of gaps) (gap_of gap ∷ [])

-- a number that is greater by one
pub moved-next : (gaps : List FilledGap) (n : ℕ) → moved gaps (n + 1) ≡ moved gaps n + 1
moved-next gaps n = omega (arith, moved-by gaps n, moved-by gaps (n + 1))
