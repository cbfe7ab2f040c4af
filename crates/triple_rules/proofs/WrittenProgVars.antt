-- Program variables stand in a formula as it is written just where they stand in it without the
-- names of bound variables.
use Rattle.std.proofs.Common.{◌≡◌, ℕ, refl, ap, false, ◌||◌, List, [], ◌∷◌}
use Rattle.model_shapes.specs.Sorts.{ValueSort, Sort}
use Rattle.model_terms.specs.Variables.{Var, prog, logic, bound}
use Rattle.model_terms.specs.VariableTests.{var_eq}
use Rattle.model_terms.specs.Terms.{variable, raised_var, term_with}
use Rattle.model_terms.specs.Stores.{ProgVar}
use Rattle.model_formulas.specs.Nameless.{names, naming, nameless, walked}
use Rattle.model_formulas.specs.Deciding.{name_or}
use Rattle.dom_terms.specs.Sorts.{sort_of}
use Rattle.dom_terms.specs.Terms.{term_of, logic_var_of}
use Rattle.dom_terms.specs.declared.terms.Term as rust_term
use Rattle.dom_terms.specs.declared.terms.Term.TheVariants as t
use Rattle.dom_terms.specs.declared.terms.LogicVar.{LogicVar}
use Rattle.formula_syntax.specs.Formulas.{formula_of}
use Rattle.formula_syntax.specs.declared.formulas.Formula.{Formula}
use Rattle.formula_syntax.specs.declared.formulas.Formula.TheVariants as f
use Rattle.triple_rules.specs.Occurring.{term_mentions, mentions}
use Rattle.triple_rules.specs.FrameTests.{context_in}

-- variables of the logic
abbrev vars_of : List LogicVar → List Var
vars_of [] = []
vars_of (x ∷ xs) = logic_var_of x ∷ vars_of xs

apart : (x y : List ℕ) (s : ValueSort) (u : Sort) → prog x s ≡ logic y u → ⊥
apart x y s u e = cc

step : (x y : List ℕ) (s : ValueSort) (u : Sort) (v : Var) → v ≡ prog x s
    → (d : Dec (prog x s ≡ logic y u)) → name_or v d ≡ prog x s
step x y s u v e (yes q) = absurd (apart x y s u q)
step x y s u v e (no m) = ap raised_var e

prog-stays : (os : List LogicVar) (x : List ℕ) (s : ValueSort)
    → names (vars_of os) (prog x s) ≡ prog x s
prog-stays [] x s = refl
prog-stays (o ∷ os) x s =
    step x (o.name) s _ (names (vars_of os) (prog x s)) (prog-stays os x s)
    (var_eq (prog x s) (logic_var_of o))

module _ (xs : List ProgVar) where
  -- nothing of a logic variable is a program variable
  none-raised : (v : Var) → term_mentions xs (variable v) ≡ false
      → term_mentions xs (variable (raised_var v)) ≡ false
  none-raised (prog x s) e = e
  none-raised (logic x s) e = refl
  none-raised (bound i s) e = refl

  logic-none : (os : List LogicVar) (x : List ℕ) (u : Sort)
      → term_mentions xs (variable (names (vars_of os) (logic x u))) ≡ false
  logic-none [] x u = refl
  logic-none (o ∷ os) x u =
      by_decision (var_eq (logic x u) (logic_var_of o)) (logic-none os x u)
    where
      by_decision : (d : Dec (logic x u ≡ logic_var_of o))
          → term_mentions xs (variable (names (vars_of os) (logic x u))) ≡ false
          → term_mentions xs (variable (name_or (names (vars_of os) (logic x u)) d)) ≡ false
      by_decision (yes e) h = refl
      by_decision (no n) h = none-raised (names (vars_of os) (logic x u)) h

  in-term : (os : List LogicVar) (a : rust_term.Term)
      → term_mentions xs (term_with (naming (vars_of os)) (term_of a))
      ≡ term_mentions xs (term_of a)
  in-term os t.NullNode = refl
  in-term os t.NullList = refl
  in-term os (t.Int n) = refl
  in-term os (t.Str s) = refl
  in-term os (t.Bool b) = refl
  in-term os (t.Prog x) = ap (λ z. term_mentions xs (variable z)) (prog-stays os _ _)
  in-term os (t.Logic x) = logic-none os _ _
  in-term os (t.Add' p a q b) = λ j. in-term os a j || in-term os b j
  in-term os (t.Sub' p a q b) = λ j. in-term os a j || in-term os b j
  in-term os (t.Cat' p a q b) = λ j. in-term os a j || in-term os b j

  in-formula : (os : List LogicVar) (a : Formula)
      → mentions xs (walked (vars_of os) (formula_of a)) ≡ mentions xs (formula_of a)
  in-formula os f.True = refl
  in-formula os f.False = refl
  in-formula os (f.And' p a q b) = λ j. in-formula os a j || in-formula os b j
  in-formula os (f.Or' p a q b) = λ j. in-formula os a j || in-formula os b j
  in-formula os (f.Imp' p a q b) = λ j. in-formula os a j || in-formula os b j
  in-formula os (f.Not' p a) = in-formula os a
  in-formula os (f.Exists' x p a) = in-formula (x ∷ os) a
  in-formula os (f.Forall' x p a) = in-formula (x ∷ os) a
  in-formula os (f.Eq a b) = λ j. in-term os a j || in-term os b j
  in-formula os (f.Le a b) = λ j. in-term os a j || in-term os b j
  in-formula os f.EmptyForest = refl
  in-formula os f.EmptyGrove = refl
  in-formula os (f.Hole k) = refl
  in-formula os (f.Node' a b p c d) =
      λ j. in-term os a j || (in-term os b j || (in-formula os c j || in-term os d j))
  in-formula os (f.One' p a) = in-formula os a
  in-formula os (f.Root' p a) = in-formula os a
  in-formula os (f.Join' side p a q b) = λ j. in-formula os a j || in-formula os b j
  in-formula os (f.Plus' p a q b) = λ j. in-formula os a j || in-formula os b j
  in-formula os (f.PlusHole' p a q b) = λ j. in-formula os a j || in-formula os b j
  in-formula os (f.App' k p a q b) = λ j. in-formula os a j || in-formula os b j
  in-formula os (f.HoleAdj' p a q b) = λ j. in-formula os a j || in-formula os b j
  in-formula os (f.CtxAdj' k p a q b) = λ j. in-formula os a j || in-formula os b j
  in-formula os (f.Var x) = logic-none os _ _
  in-formula os (f.Len a) = in-term os a
  in-formula os (f.Is' x p a) = λ j. logic-none os x.name (sort_of x.sort) j || in-formula os a j

  -- in a formula, and in the context of one
  pub mentions-nameless : (a : Formula)
      → mentions xs (nameless (formula_of a)) ≡ mentions xs (formula_of a)
  mentions-nameless a = in-formula [] a

  pub context-nameless : (a : Formula)
      → mentions xs (context_in (nameless (formula_of a))) ≡ mentions xs (context_in (formula_of a))
  context-nameless (f.App' k p a q b) = in-formula [] a
  context-nameless a = in-formula [] a
