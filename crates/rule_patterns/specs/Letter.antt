-- Needn't be believed: the names of the letters, by kind, what a choice gives to each, and whether
-- two are the same.
use Rattle.std.specs.Prelude.{Bool, true, false}
use Rattle.model_shapes.specs.Sorts.{DataSort}
use Rattle.model_terms.specs.Terms.{Term}
use Rattle.model_formulas.specs.Formulas.{Formula}
use Rattle.rule_table.specs.Letters.{Letters}

-- formulas, and formulas at context sorts
pub data FormulaLetter : Type 0 where
  P' Q' R' A' B' K' H' : FormulaLetter

-- terms
pub data TermLetter : Type 0 where
  E' F' S' I' L' T' J' M' G' V' Y' N' : TermLetter

-- data sorts
pub data DataLetter : Type 0 where
  h' k' j' : DataLetter

-- what a choice gives to them
abbrev pub formula_at : Letters → FormulaLetter → Formula
formula_at l P' = l.P
formula_at l Q' = l.Q
formula_at l R' = l.R
formula_at l A' = l.A
formula_at l B' = l.B
formula_at l K' = l.K
formula_at l H' = l.H

abbrev pub term_at : Letters → TermLetter → Term
term_at l E' = l.E
term_at l F' = l.F
term_at l S' = l.S
term_at l I' = l.I
term_at l L' = l.L
term_at l T' = l.T
term_at l J' = l.J
term_at l M' = l.M
term_at l G' = l.G
term_at l V' = l.V
term_at l Y' = l.Y
term_at l N' = l.N

abbrev pub data_at : Letters → DataLetter → DataSort
data_at l h' = l.h
data_at l k' = l.k
data_at l j' = l.j

-- whether they are the same letter
abbrev pub same_formula_letter : FormulaLetter → FormulaLetter → Bool
same_formula_letter P' P' = true
same_formula_letter Q' Q' = true
same_formula_letter R' R' = true
same_formula_letter A' A' = true
same_formula_letter B' B' = true
same_formula_letter K' K' = true
same_formula_letter H' H' = true
same_formula_letter a b = false

abbrev pub same_term_letter : TermLetter → TermLetter → Bool
same_term_letter E' E' = true
same_term_letter F' F' = true
same_term_letter S' S' = true
same_term_letter I' I' = true
same_term_letter L' L' = true
same_term_letter T' T' = true
same_term_letter J' J' = true
same_term_letter M' M' = true
same_term_letter G' G' = true
same_term_letter V' V' = true
same_term_letter Y' Y' = true
same_term_letter N' N' = true
same_term_letter a b = false

abbrev pub same_data_letter : DataLetter → DataLetter → Bool
same_data_letter h' h' = true
same_data_letter k' k' = true
same_data_letter j' j' = true
same_data_letter a b = false
