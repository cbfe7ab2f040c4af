-- Needn't be believed: what a walk over a row knows of the choice of the letters, and what it means
-- that a choice agrees with it.
use Rattle.std.specs.Prelude.{◌≡◌, Option, Some, None, cond}
use Rattle.model_shapes.specs.Sorts.{Sort, DataSort}
use Rattle.model_terms.specs.Terms.{Term}
use Rattle.model_formulas.specs.Formulas.{Formula}
use Rattle.model_formulas.specs.Substitution.{closing, formula_with}
use Rattle.rule_table.specs.Letters.{Letters, LogicVar, as_logic}
use Rattle.rule_table.specs.Notation.{instead}
use Rattle.rule_patterns.specs.Letter.{FormulaLetter, P', Q', R', A', B', K', H', TermLetter, E', F', S', I', L', T', J', M', G', V', Y', N', DataLetter, h', k', j', formula_at, term_at, data_at, same_formula_letter, same_term_letter, same_data_letter}

-- what is known of each letter
pub record FormulaPlaces : Type 0 where
  pub P : Option Formula
  pub Q : Option Formula
  pub R : Option Formula
  pub A : Option Formula
  pub B : Option Formula
  pub K : Option Formula
  pub H : Option Formula

pub record TermPlaces : Type 0 where
  pub E : Option Term
  pub F : Option Term
  pub S : Option Term
  pub I : Option Term
  pub L : Option Term
  pub T : Option Term
  pub J : Option Term
  pub M : Option Term
  pub G : Option Term
  pub V : Option Term
  pub Y : Option Term
  pub N : Option Term

pub record DataPlaces : Type 0 where
  pub h : Option DataSort
  pub k : Option DataSort
  pub j : Option DataSort

abbrev pub place_in : FormulaPlaces → FormulaLetter → Option Formula
place_in ps P' = ps.P
place_in ps Q' = ps.Q
place_in ps R' = ps.R
place_in ps A' = ps.A
place_in ps B' = ps.B
place_in ps K' = ps.K
place_in ps H' = ps.H

abbrev pub term_in : TermPlaces → TermLetter → Option Term
term_in ts E' = ts.E
term_in ts F' = ts.F
term_in ts S' = ts.S
term_in ts I' = ts.I
term_in ts L' = ts.L
term_in ts T' = ts.T
term_in ts J' = ts.J
term_in ts M' = ts.M
term_in ts G' = ts.G
term_in ts V' = ts.V
term_in ts Y' = ts.Y
term_in ts N' = ts.N

abbrev pub data_in : DataPlaces → DataLetter → Option DataSort
data_in ds h' = ds.h
data_in ds k' = ds.k
data_in ds j' = ds.j

-- What is known: what each letter is; what stands for it below a binder of $x, the letter's formula
-- closed over $x; and the formula that P with E for $x is to be.
pub record Known : Type 0 where
  pub formulas : FormulaPlaces
  pub belows : FormulaPlaces
  pub terms : TermPlaces
  pub datas : DataPlaces
  pub sort : Option Sort
  pub hole : Option (Option DataSort)
  pub x : Option LogicVar
  pub x_sort : Option Sort
  pub put : Option Formula

-- letter by letter
abbrev pub places_by : (FormulaLetter → Option Formula) → FormulaPlaces
places_by f = record {
  P = f P';
  Q = f Q';
  R = f R';
  A = f A';
  B = f B';
  K = f K';
  H = f H';
}

abbrev pub terms_by : (TermLetter → Option Term) → TermPlaces
terms_by f = record {
  E = f E';
  F = f F';
  S = f S';
  I = f I';
  L = f L';
  T = f T';
  J = f J';
  M = f M';
  G = f G';
  V = f V';
  Y = f Y';
  N = f N';
}

abbrev pub datas_by : (DataLetter → Option DataSort) → DataPlaces
datas_by f = record {
  h = f h';
  k = f k';
  j = f j';
}

-- at first nothing is known
abbrev pub no_formulas : FormulaPlaces
no_formulas = places_by (λ a. None)

abbrev pub no_terms : TermPlaces
no_terms = terms_by (λ a. None)

abbrev pub nothing : Known
nothing = record {
  formulas = no_formulas;
  belows = no_formulas;
  terms = no_terms;
  datas = record { h = None; k = None; j = None };
  sort = None;
  hole = None;
  x = None;
  x_sort = None;
  put = None;
}

-- WHAT IS LEARNT
abbrev pub put_place : FormulaLetter → Formula → FormulaPlaces → FormulaPlaces
put_place a p ps = places_by (λ b. cond (same_formula_letter b a) (Some p) (place_in ps b))

abbrev pub put_term : TermLetter → Term → TermPlaces → TermPlaces
put_term a t ts = terms_by (λ b. cond (same_term_letter b a) (Some t) (term_in ts b))

abbrev pub put_data : DataLetter → DataSort → DataPlaces → DataPlaces
put_data a d ds = datas_by (λ b. cond (same_data_letter b a) (Some d) (data_in ds b))

abbrev pub with_formula : FormulaLetter → Formula → Known → Known
with_formula a p k = record k { formulas = put_place a p k.formulas }

abbrev pub with_below : FormulaLetter → Formula → Known → Known
with_below a p k = record k { belows = put_place a p k.belows }

abbrev pub with_term : TermLetter → Term → Known → Known
with_term a t k = record k { terms = put_term a t k.terms }

abbrev pub with_data : DataLetter → DataSort → Known → Known
with_data a h k = record k { datas = put_data a h k.datas }

-- AGREEMENT
-- the letter is what is known of it
abbrev pub Says : {A : Type 0} → Option A → A → Type 0
Says None a = Unit {0}
Says (Some b) a = a ≡ b

-- a choice of the letters agrees with what is known
pub record Agrees (l : Letters) (k : Known) : Type 0 where
  pub formulas : (a : FormulaLetter) → Says (place_in k.formulas a) (formula_at l a)
  pub belows : (a : FormulaLetter)
      → Says (place_in k.belows a) (formula_with (closing (as_logic l.x)) (formula_at l a))
  pub terms : (a : TermLetter) → Says (term_in k.terms a) (term_at l a)
  pub datas : (a : DataLetter) → Says (data_in k.datas a) (data_at l a)
  pub sort : Says k.sort l.s
  pub hole : Says k.hole l.o
  pub x : Says k.x l.x
  pub x_sort : Says k.x_sort l.x.sort
  pub put : Says k.put (instead l.E l.x l.P)

-- WHAT A WALK DOES: it refuses what no choice makes that agrees with what is known; or from then on
-- the choices agree that did so before and make what was walked over.
abbrev pub Exact : Known → Option Known → (Letters → Type 0) → Type 0
Exact k None Q = (l : Letters) → Agrees l k → Q l → ⊥
Exact k (Some n) Q =
    (l : Letters) → (Agrees l n → Agrees l k × Q l) × (Agrees l k → Q l → Agrees l n)
