-- A variable below binders is bound by one of them, or its replacement stands there as it is.
use Rattle.std.proofs.Common.{◌≡◌, ℕ, List, [], ◌∷◌, ◌<◌, suc, zero, refl, sym, ap, ◌∙◌, true, false, length, arith, Decides}
use Rattle.model_shapes.specs.Sorts.{ValueSort, Sort}
use Rattle.model_terms.specs.Variables.{Var, bound, logic, prog}
use Rattle.model_terms.specs.Terms.{Term, literal, variable, sum, difference, appended, raised, term_with, Substitution}
use Rattle.model_formulas.specs.Formulas.{Named, Formula}
use Rattle.model_formulas.specs.Substitution.{formula_with}
use Rattle.model_formulas.specs.Deciding.{replacing_at}
use Rattle.model_formulas.specs.Nameless.{names, naming, nameless, walked}
use Rattle.model_formulas.specs.SameFormulas.{same_formula}
use Rattle.model_shapes.proofs.Truth.{false≢true}
use Rattle.model_terms.specs.VariableTests.{same_var-is, same_var-refl, var_eq, same_var}
use Rattle.model_formulas.proofs.Nameless.{formula-variable}
use Rattle.model_formulas.proofs.SameFormulas.{same_formula-both}
use Rattle.dom_terms.specs.declared.terms.Term.TheVariants as t
use Rattle.dom_terms.specs.declared.terms.Term as program
use Rattle.dom_terms.specs.Terms.{term_of}
use Rattle.formula_syntax.specs.declared.replaced.Name.{Name}
use Rattle.formula_syntax.specs.declared.replaced.Name.TheVariants as n
use Rattle.formula_syntax.specs.declared.binders.Binders.{Binders}
use Rattle.formula_syntax.specs.declared.binders.Binders.TheVariants as b
use Rattle.formula_syntax.specs.Binders.{bound_by}
use Rattle.formula_syntax.specs.Substitution.{replaced_or, replacing_each, below, var_named}
use Rattle.formula_syntax.proofs.BoundNames.{prog-logic}

-- a variable that one of the binders binds is left
below-bound : (xs : List Var) (f : Substitution) (i : ℕ) (s : Sort) → i < length xs
    → below xs f (bound i s) ≡ variable (bound i s)
below-bound [] f i s h = absurd (omega arith)
below-bound (x ∷ xs) f zero s h = refl
below-bound (x ∷ xs) f (suc i) s h = ap raised (below-bound xs f i s (omega arith))

pub below-bound-name : (xs : List Var) (f : Substitution) (v : Var) (i : ℕ) (s : Sort)
    → names xs v ≡ bound i s → i < length xs → below xs f (names xs v) ≡ variable (names xs v)
below-bound-name xs f v i s e h =
    ap (below xs f) e ∙ below-bound xs f i s h ∙ sym (ap variable e)

-- terms of the program name their variables
raised-plain : (a : program.Term) → raised (term_of a) ≡ term_of a
raised-plain t.NullNode = refl
raised-plain t.NullList = refl
raised-plain (t.Int a) = refl
raised-plain (t.Str a) = refl
raised-plain (t.Bool a) = refl
raised-plain (t.Prog x) = refl
raised-plain (t.Logic x) = refl
raised-plain (t.Add' p a q b) = λ j. sum (raised-plain a j) (raised-plain b j)
raised-plain (t.Sub' p a q b) = λ j. difference (raised-plain a j) (raised-plain b j)
raised-plain (t.Cat' p a q b) = λ j. appended (raised-plain a j) (raised-plain b j)

-- what takes the place of a named variable stands below binders as it is
below-named : (n : Name) (xs : List Var) (f : Substitution) (a : Term) → raised a ≡ a
    → f (var_named n) ≡ a → below xs f (var_named n) ≡ a
below-named n [] f a r e = e
below-named (n.Prog v) (x ∷ xs) f a r e = ap raised (below-named (n.Prog v) xs f a r e) ∙ r
below-named (n.Logic v) (x ∷ xs) f a r e = ap raised (below-named (n.Logic v) xs f a r e) ∙ r

pub below-replaced : (n : Name) (xs : List Var) (f : Substitution) (a : program.Term)
    → names xs (var_named n) ≡ var_named n → f (var_named n) ≡ term_of a
    → below xs f (names xs (var_named n)) ≡ term_of a
below-replaced n xs f a h e =
    ap (below xs f) h ∙ below-named n xs f (term_of a) (raised-plain a) e

raised-named : (n : Name) → raised (variable (var_named n)) ≡ variable (var_named n)
raised-named (n.Prog v) = refl
raised-named (n.Logic v) = refl

pub below-kept : (n : Name) (xs : List Var) (f : Substitution)
    → names xs (var_named n) ≡ var_named n → f (var_named n) ≡ variable (var_named n)
    → below xs f (names xs (var_named n)) ≡ variable (names xs (var_named n))
below-kept n xs f h e =
    ap (below xs f) h ∙ below-named n xs f (variable (var_named n)) (raised-named n) e
    ∙ sym (ap variable h)

-- the pair has the variable, or it doesn't
pub replaced-here : (x y : Var) (a b : Term) → same_var y x ≡ true
    → replaced_or {x = x} {y = y} a b (var_eq y x) ≡ a
replaced-here x y a b e = by_decision (var_eq y x)
  where
    by_decision : (d : Dec (y ≡ x)) → replaced_or {x = x} {y = y} a b d ≡ a
    by_decision (yes q) = refl
    by_decision (no n) = absurd (n (same_var-is y x e))

pub replaced-there : (x y : Var) (a b : Term) → same_var y x ≡ false
    → replaced_or {x = x} {y = y} a b (var_eq y x) ≡ b
replaced-there x y a b e = by_decision (var_eq y x)
  where
    by_decision : (d : Dec (y ≡ x)) → replaced_or {x = x} {y = y} a b d ≡ b
    by_decision (yes q) = false≢true (sym e ∙ ap (same_var y) (sym q) ∙ same_var-refl y)
    by_decision (no n) = refl

pub one-here : (x y : Var) (a : Term) → same_var y x ≡ true
    → replacing_at {x = x} {y = y} a (var_eq y x) ≡ a
one-here x y a e = by_decision (var_eq y x)
  where
    by_decision : (d : Dec (y ≡ x)) → replacing_at {x = x} {y = y} a d ≡ a
    by_decision (yes q) = refl
    by_decision (no n) = absurd (n (same_var-is y x e))

pub one-there : (x y : Var) (a : Term) → same_var y x ≡ false
    → replacing_at {x = x} {y = y} a (var_eq y x) ≡ variable y
one-there x y a e = by_decision (var_eq y x)
  where
    by_decision : (d : Dec (y ≡ x)) → replacing_at {x = x} {y = y} a d ≡ variable y
    by_decision (yes q) = false≢true (sym e ∙ ap (same_var y) (sym q) ∙ same_var-refl y)
    by_decision (no n) = refl

-- below no binder a term is as it is written
pub term-plain : (a : Term) → term_with (naming []) a ≡ a
term-plain (literal v) = refl
term-plain (variable x) = refl
term-plain (sum a b) = λ j. sum (term-plain a j) (term-plain b j)
term-plain (difference a b) = λ j. difference (term-plain a j) (term-plain b j)
term-plain (appended a b) = λ j. appended (term-plain a j) (term-plain b j)

-- a program variable is no logic variable below binders
pub prog-names : (ys : Binders) (x y : List ℕ) (s : ValueSort) (u : Sort)
    → same_var (prog x s) (names (bound_by ys) (logic y u)) ≡ false
prog-names ys x y s u = prog-logic b.Empty ys x y s u

-- the test of the walked forms decides whether one formula is the substitution of the other
pub replaced-Decides : (p q : Named) (f : Substitution)
    → Decides (same_formula (formula_with f (walked [] p)) (walked [] q))
    (formula_with f (nameless p) ≡ nameless q)
replaced-Decides p q f = same_formula-both (formula_with f (nameless p)) (nameless q)

-- no pairs replace nothing
pub none-replaced : (p : Formula) → formula_with (replacing_each []) p ≡ p
none-replaced p = formula-variable p

pub ruleset bound_rules = (below-bound-name)

pub ruleset place_rules = (below-replaced, below-kept)

pub ruleset pair_rules = (replaced-here, replaced-there)

pub ruleset one_rules = (one-here, one-there)

pub ruleset replaced_rules = (term-plain, prog-names)

pub ruleset formula_rules = (replaced-Decides, none-replaced)
