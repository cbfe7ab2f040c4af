-- Putting the arguments for the parameters replaces each by the term of its pair.
use Rattle.std.proofs.Common.{◌≡◌, refl, ap, ◌∙◌, List, [], ◌∷◌, ◌++◌}
use mathlib.Core.Path.{fun_ext}
use Rattle.model_terms.specs.Variables.{Var}
use Rattle.model_terms.specs.VariableTests.{var_eq}
use Rattle.model_terms.specs.Terms.{Term}
use Rattle.model_terms.specs.Stores.{ProgVar, as_var}
use Rattle.model_formulas.specs.Formulas.{Formula}
use Rattle.model_formulas.specs.Substitution.{formula_with}
use Rattle.model_formulas.specs.SameFormulas.{same_formula}
use Rattle.rule_table.specs.Rules.{passed_at, passing, itself}
use Rattle.formula_syntax.specs.Substitution.{replaced_or, replacing_each}
use Rattle.triple_rules.specs.CallTests.{put}

put-at : (pairs : List (Var × Term)) (xs : List ProgVar) (ts : List Term) (y : Var)
    → replacing_each (put xs ts ++ pairs) y ≡ passing xs ts (replacing_each pairs) y
put-at pairs [] ts y = refl
put-at pairs (x ∷ xs) [] y = refl
put-at pairs (x ∷ xs) (t ∷ ts) y = by_decision (var_eq y (as_var x)) (put-at pairs xs ts y)
  where
    by_decision : (d : Dec (y ≡ as_var x))
        → replacing_each (put xs ts ++ pairs) y ≡ passing xs ts (replacing_each pairs) y
        → replaced_or t (replacing_each (put xs ts ++ pairs) y) d
        ≡ passed_at t (passing xs ts (replacing_each pairs) y) d
    by_decision (yes e) h = refl
    by_decision (no n) h = h

put-passes : (xs : List ProgVar) (ts : List Term) (pairs : List (Var × Term))
    → replacing_each (put xs ts ++ pairs) ≡ passing xs ts (replacing_each pairs)
put-passes xs ts pairs = fun_ext (put-at pairs xs ts)

alone-at : (xs : List ProgVar) (ts : List Term) (y : Var)
    → replacing_each (put xs ts) y ≡ passing xs ts itself y
alone-at [] ts y = refl
alone-at (x ∷ xs) [] y = refl
alone-at (x ∷ xs) (t ∷ ts) y = by_decision (var_eq y (as_var x)) (alone-at xs ts y)
  where
    by_decision : (d : Dec (y ≡ as_var x))
        → replacing_each (put xs ts) y ≡ passing xs ts itself y
        → replaced_or t (replacing_each (put xs ts) y) d ≡ passed_at t (passing xs ts itself y) d
    by_decision (yes e) h = refl
    by_decision (no n) h = h

put-alone : (xs : List ProgVar) (ts : List Term)
    → replacing_each (put xs ts) ≡ passing xs ts itself
put-alone xs ts = fun_ext (alone-at xs ts)

-- with pairs as they are made
pub before-is : (pairs : List (Var × Term)) (xs : List ProgVar) (ts : List Term) (p q : Formula)
    → pairs ≡ put xs ts
    → same_formula (formula_with (replacing_each pairs) p) q
    ≡ same_formula (formula_with (passing xs ts itself) p) q
before-is pairs xs ts p q e =
    ap (λ f. same_formula (formula_with f p) q) (ap replacing_each e ∙ put-alone xs ts)

pub behind-is : (pairs : List (Var × Term)) (xs ys : List ProgVar) (ts us : List Term)
    (p q : Formula) → pairs ≡ put xs ts ++ put ys us
    → same_formula (formula_with (replacing_each pairs) p) q
    ≡ same_formula (formula_with (passing xs ts (passing ys us itself)) p) q
behind-is pairs xs ys ts us p q e =
    ap (λ f. same_formula (formula_with f p) q)
    (ap replacing_each e ∙ put-passes xs ts (put ys us) ∙ ap (passing xs ts) (put-alone ys us))
