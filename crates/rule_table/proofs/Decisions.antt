-- Decisions that compute: of tests, pairs and the sorts of terms; and the forms of formulas.
use Rattle.std.proofs.Common.{◌≡◌, refl, Bool, true, false, List, [], ◌∷◌, map}
use Rattle.model_shapes.proofs.Truth.{false≢true}
use Rattle.model_shapes.specs.Sorts.{ValueSort, value}
use Rattle.model_terms.specs.Terms.{Term}
use Rattle.model_formulas.specs.Formulas.{Formula, at_most, equality, falsity}
use Rattle.model_terms.specs.TermSorts.{has_sort}
use Rattle.rule_table.specs.Conditions.{TermAt, of_sort}
use Rattle.rule_table.specs.Verdicts.{AllMet}

abbrev pub test_holds : (b : Bool) → Dec (b ≡ true)
test_holds true = yes refl
test_holds false = no false≢true

abbrev pub both_hold : {A B : Type 0} → Dec A → Dec B → Dec (A × B)
both_hold (no n) b = no (λ h. n h.0)
both_hold (yes a) (no n) = no (λ h. n h.1)
both_hold (yes a) (yes b) = yes (a, b)

-- the term has the value sort
abbrev pub at_sort : (u : ValueSort) (t : Term) → Dec (TermAt (value u) t)
at_sort u t = test_holds (has_sort u t)

-- and all terms
abbrev pub all_at_sort : (u : ValueSort) (ts : List Term)
    → Dec (AllMet (map (of_sort (value u)) ts))
all_at_sort u [] = yes tt
all_at_sort u (t ∷ ts) = both_hold (at_sort u t) (all_at_sort u ts)

-- orders, equations, false, and the other formulas
pub data Kind : Type 0 where
  order_kind equation_kind false_kind other_kind : Kind

abbrev pub kind_of : Formula → Kind
kind_of (at_most a b) = order_kind
kind_of (equality a b) = equation_kind
kind_of falsity = false_kind
kind_of q = other_kind

-- an order, an equation, false, or another formula
pub data Form (q : Formula) : Type 0 where
  an_order : (a b : Term) → q ≡ at_most a b → Form q
  an_equation : (a b : Term) → q ≡ equality a b → Form q
  just_false : q ≡ falsity → Form q
  another : kind_of q ≡ other_kind → Form q

abbrev pub form_of : (q : Formula) → Form q
form_of (at_most a b) = an_order a b refl
form_of (equality a b) = an_equation a b refl
form_of falsity = just_false refl
form_of q = another refl

-- the kinds are apart
pub equation≢order : equation_kind ≡ order_kind → ⊥
equation≢order e = cc

pub equation≢false : equation_kind ≡ false_kind → ⊥
equation≢false e = cc

pub equation≢other : equation_kind ≡ other_kind → ⊥
equation≢other e = cc

pub false≢order : false_kind ≡ order_kind → ⊥
false≢order e = cc

pub false≢equation : false_kind ≡ equation_kind → ⊥
false≢equation e = cc

pub false≢other : false_kind ≡ other_kind → ⊥
false≢other e = cc
