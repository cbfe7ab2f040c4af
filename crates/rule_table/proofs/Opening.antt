-- A formula with a term for a variable, from the formula closed over the variable: the term takes
-- the place of the binder that is gone.
use Rattle.std.proofs.Common.{◌≡◌, zero, suc, refl, ap, ◌∙◌}
use mathlib.Core.Path.{fun_ext}
use Rattle.model_terms.specs.Variables.{Var, prog, logic, bound}
use Rattle.model_terms.specs.VariableTests.{var_eq}
use Rattle.model_terms.specs.Terms.{Term, variable, raised, Substitution, term_with}
use Rattle.model_formulas.specs.Formulas.{Formula}
use Rattle.model_formulas.specs.Substitution.{formula_with, closing, replacing}
use Rattle.model_formulas.specs.Deciding.{closing_at, replacing_at}
use Rattle.model_formulas.proofs.Nameless.{formula-then}
use Rattle.rule_table.specs.Letters.{LogicVar, as_logic}
use Rattle.rule_table.specs.Notation.{instead}

-- the term for the variable of the nearest binder, and the others one binder further in
abbrev pub opening : Term → Substitution
opening e (prog name s) = variable (prog name s)
opening e (logic name s) = variable (logic name s)
opening e (bound zero s) = e
opening e (bound (suc i) s) = variable (bound i s)

kept : (e : Term) (y : Var) → term_with (opening e) (raised (variable y)) ≡ variable y
kept e (prog name s) = refl
kept e (logic name s) = refl
kept e (bound i s) = refl

pub opened : (e : Term) (x : LogicVar) (p : Formula)
    → formula_with (opening e) (formula_with (closing (as_logic x)) p) ≡ instead e x p
opened e x p =
    formula-then p (closing (as_logic x)) (opening e) ∙ ap (λ f. formula_with f p) (fun_ext at)
  where
    at : (y : Var) → term_with (opening e) (closing (as_logic x) y) ≡ replacing (as_logic x) e y
    at y = by_case (var_eq y (as_logic x))
      where
        by_case : (d : Dec (y ≡ as_logic x))
            → term_with (opening e) (closing_at d) ≡ replacing_at e d
        by_case (yes same) = refl
        by_case (no other) = kept e y
