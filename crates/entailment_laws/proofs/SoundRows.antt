-- What it is that a row of the table is sound, and what the sorts of terms give.
use Rattle.std.proofs.Common.{◌≡◌, List, [], ◌∷◌, ◌++◌, sym, subst, true}
use Rattle.model_shapes.specs.Sorts.{Sort, value, shape, context, is_sort}
use Rattle.model_shapes.specs.Things.{Fits}
use Rattle.model_shapes.proofs.Truth.{false≢true}
use Rattle.model_shapes.proofs.Tests.{same_sort-is}
use Rattle.model_terms.specs.Variables.{prog, logic, bound}
use Rattle.model_terms.specs.Terms.{Term, literal, variable, sum, difference, appended}
use Rattle.model_formulas.specs.Satisfaction.{Environment, Proper, meaning_of}
use Rattle.model_formulas.specs.WellSorted.{variable_at}
use Rattle.model_formulas.proofs.SortedTerms.{term-fits}
use Rattle.rule_table.specs.Letters.{Letters}
use Rattle.rule_table.specs.Conditions.{TermAt}
use Rattle.rule_table.specs.Entries.{Row, Entry}
use Rattle.rule_table.specs.Verdicts.{AllMet, AllHold}
use Rattle.entailment_laws.specs.Judgements.{Reading, Fitting, JudgementHolds, AllProved}
use Rattle.entailment_laws.proofs.Quantified.{Stands}

-- a logic variable stands for a thing of its sort
variable-stands : (s : Sort) (t : Term) → variable_at s t ≡ true → is_sort s ≡ true
    → (e : Environment) → Proper e → Fits s (meaning_of e t)
variable-stands s (variable (logic x u)) h is e pr =
    let q : s ≡ u = same_sort-is s u h in
    subst (λ z. Fits z (e (logic x u))) (sym q)
    (pr.logics x u (subst (λ z. is_sort z ≡ true) q is))
variable-stands s (variable (prog x u)) h is e pr = false≢true h
variable-stands s (variable (bound i u)) h is e pr = false≢true h
variable-stands s (literal v) h is e pr = false≢true h
variable-stands s (sum a b) h is e pr = false≢true h
variable-stands s (difference a b) h is e pr = false≢true h
variable-stands s (appended a b) h is e pr = false≢true h

-- a term of a sort stands for a thing of it
pub term-stands : (s : Sort) (t : Term) → TermAt s t → Stands t s
term-stands (value u) t h e pr = term-fits t u e pr h
term-stands (shape k) t h e pr = variable-stands (shape k) t h.0 h.1 e pr
term-stands (context i k) t h e pr = variable-stands (context i k) t h.0 h.1 e pr

module _ (reading : Reading) where
  -- A row is sound.
  abbrev pub SoundRow : Row → Type 0
  SoundRow row = (l : Letters) → Fitting reading (row l).conclusion → AllMet (row l).requirements
      → AllHold (row l).conditions → AllProved reading (row l).premises
      → JudgementHolds reading (row l).conclusion

  -- each row of a list is sound
  abbrev pub SoundRows : List Row → Type 0
  SoundRows [] = Unit
  SoundRows (row ∷ rows) = SoundRow row × SoundRows rows

  -- each row of each entry is
  abbrev pub SoundEntries : List Entry → Type 0
  SoundEntries [] = Unit
  SoundEntries (entry ∷ entries) = SoundRows entry.readings × SoundEntries entries

  -- of two tables, one behind the other
  pub sound-append : (a b : List Entry) → SoundEntries a → SoundEntries b → SoundEntries (a ++ b)
  sound-append [] b h g = g
  sound-append (entry ∷ a) b h g = (h.0, sound-append a b h.1 g)
