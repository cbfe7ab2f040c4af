-- What is written at a step of the program gives the verdict of its nameless form.
use Rattle.std.proofs.Common.{◌≡◌, ◌∙◌, refl, sym, ap, List, [], ◌∷◌, Option, Some, None, Bool, true, false, ◌&&◌, cond}
use Rattle.std.specs.Prelude.{not}
use Rattle.std.specs.List.{list_all, position_from}
use Rattle.model_shapes.specs.Sorts.{Sort}
use Rattle.model_terms.specs.Terms.{Term}
use Rattle.model_formulas.specs.Formulas.{Named, conjunction, equality, at_most}
use Rattle.model_formulas.specs.Nameless.{nameless}
use Rattle.model_formulas.specs.WellSorted.{first_fault}
use Rattle.rule_table.specs.Verdicts.{shape_verdict}
use Rattle.formula_syntax.proofs.Replacing.{term-plain}
use Rattle.computed_rules.specs.Linear.{Comparison, Reading, and_then, compared, read, is_integral, by_conclusion, by_numbers, by_reading, linear_verdict, orders_integers}
use Rattle.computed_rules.specs.Steps.{judged}
use Rattle.formula_syntax.specs.Formulas.{formula_of}
use Rattle.formula_syntax.specs.declared.entailments.Entailment.{Entailment}

-- terms stand there as they are
pub read-plain : (cs : List Comparison) (p : Named) (ts : List Term)
    → read cs (nameless p) ts ≡ read cs p ts
read-plain cs (conjunction p q) ts =
    λ i. and_then (read-plain cs p ts i) (λ ds us. read-plain ds q us i)
read-plain cs (at_most l r) ts = λ i. compared true cs (term-plain l i) (term-plain r i) ts
read-plain cs (equality l r) ts = λ i. compared false cs (term-plain l i) (term-plain r i) ts
read-plain cs p ts = refl

conclusion-plain : (cs : List Comparison) (q : Named)
    → by_conclusion cs (nameless q) ≡ by_conclusion cs q
conclusion-plain cs (at_most a b) =
    λ i. by_conclusion {Binder = Sort} cs (at_most (term-plain a i) (term-plain b i))
conclusion-plain cs (equality a b) =
    λ i. by_conclusion {Binder = Sort} cs (equality (term-plain a i) (term-plain b i))
conclusion-plain cs q = refl

numbers-plain : (cs : List Comparison) (ts : List Term) (q : Named)
    → by_numbers cs ts (nameless q) ≡ by_numbers cs ts q
numbers-plain cs [] q =
    ap (λ v. cond (list_all is_integral cs) v shape_verdict) (conclusion-plain cs q)
numbers-plain cs (t ∷ ts) q = refl

pub reading-plain : (r : Option Reading) (q : Named) → by_reading r (nameless q) ≡ by_reading r q
reading-plain None q = refl
reading-plain (Some r) q = numbers-plain r.0 r.1 q

-- a formula that is well sorted
no-fault : (x y : Bool) → position_from not 0 ((x && y) ∷ []) ≡ None → y ≡ true
no-fault true true e = refl
no-fault true false e = absurd cc
no-fault false y e = absurd cc

pub sorted-order : (q : Named) (s : Sort) → first_fault q s ≡ None → orders_integers q ≡ true
sorted-order (at_most a b) s e = no-fault _ _ e
sorted-order q s e = refl

-- so a step has the verdict of what is written
pub linear-written : (ts : List Term) (conclusion : Entailment)
    → by_reading (read [] (formula_of conclusion.left) ts) (formula_of conclusion.right)
    ≡ linear_verdict ts (judged conclusion)
linear-written ts conclusion =
    sym ((λ i. by_reading (read-plain [] (formula_of conclusion.left) ts i)
    (nameless (formula_of conclusion.right)))
    ∙ reading-plain (read [] (formula_of conclusion.left) ts) (formula_of conclusion.right))
