-- Each number keeps its meaning, step after step.
use Rattle.std.proofs.Common.{ℕ, ◌<◌, ◌≤◌, ◌∙◌, refl, arith, [], length}
use Rattle.model_shapes.specs.Values.{Name, null}
use Rattle.model_terms.specs.Terms.{Term, literal}
use Rattle.model_formulas.specs.Formulas.{Formula, truth}
use Rattle.formula_table.specs.Forms.{names_at, terms_at, forms_at}
use Rattle.formula_table.specs.Interning.{KeepsAll, TermsGrow, IsName, IsTerm, StandsFor}
use Rattle.formula_table.specs.declared.tables.Table.{Table}
use Rattle.formula_table.proofs.Named.{term_rules}
use Rattle.formula_table.proofs.Growing.{keeps-refl, keeps-trans, keeps-length, keeps-at}

pub keeps_all-refl : (t : Table) → KeepsAll t t
keeps_all-refl t = record {
  most = refl;
  names = keeps-refl (names_at t);
  terms = keeps-refl (terms_at t);
  forms = keeps-refl (forms_at t);
}

pub keeps_all-trans : (a b c : Table) → KeepsAll a b → KeepsAll b c → KeepsAll a c
keeps_all-trans a b c h k = record {
  most = k.most ∙ h.most;
  names = keeps-trans (names_at a) (names_at b) (names_at c) h.names k.names;
  terms = keeps-trans (terms_at a) (terms_at b) (terms_at c) h.terms k.terms;
  forms = keeps-trans (forms_at a) (forms_at b) (forms_at c) h.forms k.forms;
}

pub terms_grow-refl : (t : Table) → TermsGrow t t
terms_grow-refl t = record { keeps = keeps_all-refl t; forms = refl }

pub terms_grow-trans : (a b c : Table) → TermsGrow a b → TermsGrow b c → TermsGrow a c
terms_grow-trans a b c h k = record {
  keeps = keeps_all-trans a b c h.keeps k.keeps;
  forms = k.forms ∙ h.forms;
}

-- what a number stands for it still stands for
module _ (old new : Table) (k : KeepsAll old new) (i : ℕ) where
  pub name-kept : (x : Name) → IsName old i x → IsName new i x
  name-kept x h = let a : i < length (names_at old) = h.there in
      let b : length (names_at old) ≤ length (names_at new) =
      keeps-length (names_at old) (names_at new) k.names in record {
        there = omega (arith, a, b);
        is = keeps-at (names_at old) (names_at new) i [] k.names a ∙ h.is;
      }

  pub term-kept : (x : Term) → IsTerm old i x → IsTerm new i x
  term-kept x h = let a : i < length (terms_at old) = h.there in
      let b : length (terms_at old) ≤ length (terms_at new) =
      keeps-length (terms_at old) (terms_at new) k.terms in record {
        there = omega (arith, a, b);
        is = keeps-at (terms_at old) (terms_at new) i (literal null) k.terms a ∙ h.is;
      }

  pub formula-kept : (p : Formula) → StandsFor old i p → StandsFor new i p
  formula-kept p h = let a : i < length (forms_at old) = h.there in
      let b : length (forms_at old) ≤ length (forms_at new) =
      keeps-length (forms_at old) (forms_at new) k.forms in record {
        there = omega (arith, a, b);
        is = keeps-at (forms_at old) (forms_at new) i truth k.forms a ∙ h.is;
      }

-- while terms alone are added
pub term-grown : (old new : Table) → TermsGrow old new → (i : ℕ) (x : Term) → IsTerm old i x
    → IsTerm new i x
term-grown old new g i x h = term-kept old new g.keeps i x h

-- with what a term is below binders
pub ruleset growing_rules = (terms_grow-refl, terms_grow-trans, term-grown, term_rules)
