-- Needn't be believed: the choice of the letters that is read off what is known, and what is asked
-- of what is known so that it agrees with it.
use Rattle.std.specs.Prelude.{◌≡◌, zero, List, [], ◌∷◌, Option, Some, None}
use Rattle.std.specs.Option.{unwrap_or}
use Rattle.model_shapes.specs.Sorts.{Sort, shape, tree, grove}
use Rattle.model_shapes.specs.Values.{null}
use Rattle.model_terms.specs.Variables.{bound}
use Rattle.model_terms.specs.Terms.{Term, literal, variable}
use Rattle.model_formulas.specs.Formulas.{Formula, truth}
use Rattle.model_formulas.specs.Substitution.{formula_with, FreeIn}
use Rattle.rule_table.specs.Letters.{Letters, LogicVar, as_logic}
use Rattle.rule_table.proofs.Opening.{opening}
use Rattle.rule_table.proofs.SomeLetters.{plain_letters}
use Rattle.rule_patterns.specs.Letter.{FormulaLetter}
use Rattle.letter_bindings.specs.Known.{place_in, Known}

-- the formula of a letter: what it is, or what it is below a binder with $x for what that binds
abbrev pub formula_in : LogicVar → Option Formula → Option Formula → Formula
formula_in x (Some p) q = p
formula_in x None (Some q) = formula_with (opening (variable (as_logic x))) q
formula_in x None None = truth

-- the choice with $x
abbrev pub choice : Known → LogicVar → Letters
choice k x = record plain_letters {
  P = formula_in x k.formulas.P k.belows.P;
  Q = formula_in x k.formulas.Q k.belows.Q;
  R = formula_in x k.formulas.R k.belows.R;
  A = formula_in x k.formulas.A k.belows.A;
  B = formula_in x k.formulas.B k.belows.B;
  K = formula_in x k.formulas.K k.belows.K;
  H = formula_in x k.formulas.H k.belows.H;
  E = unwrap_or k.terms.E (literal null);
  F = unwrap_or k.terms.F (literal null);
  S = unwrap_or k.terms.S (literal null);
  I = unwrap_or k.terms.I (literal null);
  L = unwrap_or k.terms.L (literal null);
  T = unwrap_or k.terms.T (literal null);
  J = unwrap_or k.terms.J (literal null);
  M = unwrap_or k.terms.M (literal null);
  G = unwrap_or k.terms.G (literal null);
  V = unwrap_or k.terms.V (literal null);
  Y = unwrap_or k.terms.Y (literal null);
  N = unwrap_or k.terms.N (literal null);
  x = x;
  s = unwrap_or k.sort (shape grove);
  o = unwrap_or k.hole None;
  h = unwrap_or k.datas.h tree;
  k = unwrap_or k.datas.k grove;
  j = unwrap_or k.datas.j tree;
}

-- what stands below a binder of the sort: each variable that it binds has the sort
abbrev pub IsBody : Sort → Formula → Type 0
IsBody s q = (u : Sort) → FreeIn (bound zero u) q → u ≡ s

-- what stands for the letters below a binder of $x, whose sort is known there
abbrev pub IsBodyAt : Option Sort → Option Formula → Type 0
IsBodyAt s None = Unit {0}
IsBodyAt None (Some q) = ⊥
IsBodyAt (Some s) (Some q) = IsBody s q

abbrev pub AllBodies : Known → Type 0
AllBodies k = (a : FormulaLetter) → IsBodyAt k.x_sort (place_in k.belows a)

-- the sort of $x is known where something stands below its binder
abbrev pub IsSortedAt : Option Sort → Option Formula → Type 0
IsSortedAt None (Some q) = ⊥
IsSortedAt s q = Unit {0}

abbrev pub SortIsKnown : Known → Type 0
SortIsKnown k = (a : FormulaLetter) → IsSortedAt k.x_sort (place_in k.belows a)

-- what is put has its letters known
abbrev pub IsReady : Option Formula → Option Term → Option Formula → Type 0
IsReady p e None = Unit {0}
IsReady (Some p) (Some e) (Some q) = Unit {0}
IsReady p e (Some q) = ⊥

abbrev pub PutIsReady : Known → Type 0
PutIsReady k = IsReady k.belows.P k.terms.E k.put

-- the variable is free in none of them
abbrev pub IsApart : LogicVar → List Formula → Type 0
IsApart x [] = Unit {0}
IsApart x (p ∷ ps) = (FreeIn (as_logic x) p → ⊥) × IsApart x ps
