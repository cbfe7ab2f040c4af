-- Laws of stores and of the values of terms in them.
use Rattle.std.proofs.Common.{◌≡◌, ◌≢◌, Bool, true, false, cond, sym, refl, ap, ◌∙◌, subst}
use Rattle.model_shapes.specs.Sorts.{ValueSort, node_sort, list_sort, int_sort, str_sort, bool_sort}
use Rattle.model_shapes.specs.Values.{Value, FitsValue}
use Rattle.model_terms.specs.Variables.{prog, logic, bound}
use Rattle.model_terms.specs.Terms.{Term, literal, variable, sum, difference, appended}
use Rattle.model_terms.specs.VariableTests.{same_var-is, same_var-refl}
use Rattle.model_terms.specs.Stores.{ProgVar, named, as_var, sort_of, default, Store, unset, holding, same_name, value_in, set, lookup, ProperStore, value_of}
use Rattle.model_terms.specs.Computing.{Computes}

-- the test of program variables says that they are equal
pub same_name-is : (x y : ProgVar) → same_name x y ≡ true → x ≡ y
same_name-is (named x s) (named y u) e = let q : prog x s ≡ prog y u =
    same_var-is (prog x s) (prog y u) e in (cc)

-- and it says so of each and itself
pub same_name-refl : (x : ProgVar) → same_name x x ≡ true
same_name-refl x = same_var-refl (as_var x)

-- and it denies it of different ones
pub same_name-not : (x y : ProgVar) → x ≢ y → same_name x y ≡ false
same_name-not x y n = by_test (same_name x y) refl
  where
    by_test : (b : Bool) → same_name x y ≡ b → same_name x y ≡ false
    by_test true e = absurd (n (same_name-is x y e))
    by_test false e = e

-- what a store gives after one variable is set
pub value_in-set : (x : ProgVar) (v : Value) (st : Store) (y : ProgVar)
    → value_in (set x v st) y ≡ cond (same_name y x) v (value_in st y)
value_in-set x v unset y = refl
value_in-set x v (holding z w st) y = by_test (same_name x z) refl (value_in-set x v st y)
  where
    twice : (b : Bool) (u : Value) → cond b v u ≡ cond b v (cond b w u)
    twice true u = refl
    twice false u = refl

    swap : (a b : Bool) (u : Value) → (a ≡ true → b ≡ true → ⊥)
        → cond a w (cond b v u) ≡ cond b v (cond a w u)
    swap true true u n = absurd (n refl refl)
    swap true false u n = refl
    swap false true u n = refl
    swap false false u n = refl

    by_test : (b : Bool) → same_name x z ≡ b
        → value_in (set x v st) y ≡ cond (same_name y x) v (value_in st y)
        → value_in (cond b (holding z v st) (holding z w (set x v st))) y
        ≡ cond (same_name y x) v (cond (same_name y z) w (value_in st y))
    by_test true e ih =
        subst (λ q. cond (same_name y z) v (value_in st y)
        ≡ cond (same_name y q) v (cond (same_name y z) w (value_in st y)))
        (sym (same_name-is x z e)) (twice (same_name y z) (value_in st y))
    by_test false e ih = ap (λ q. cond (same_name y z) w q) ih
        ∙ swap (same_name y z) (same_name y x) (value_in st y)
        (λ a b. differ (same_name-is y z a) (same_name-is y x b))
      where
        differ : y ≡ z → y ≡ x → ⊥
        differ p q = let h : same_name x z ≡ true =
            subst (λ r. same_name r z ≡ true) q
            (subst (λ r. same_name y r ≡ true) p (same_name-refl y)) in (cc)

-- that variable
pub set-same : (x : ProgVar) (v : Value) (st : Store) → value_in (set x v st) x ≡ v
set-same x v st = value_in-set x v st x ∙ ap (λ b. cond b v (value_in st x)) (same_name-refl x)

-- another variable
pub set-other : (x : ProgVar) (v : Value) (st : Store) (y : ProgVar) → y ≢ x
    → value_in (set x v st) y ≡ value_in st y
set-other x v st y n =
    value_in-set x v st y ∙ ap (λ b. cond b v (value_in st y)) (same_name-not y x n)

-- a default is of its sort
pub default-fits : (s : ValueSort) → FitsValue s (default s)
default-fits node_sort = tt
default-fits list_sort = tt
default-fits int_sort = tt
default-fits str_sort = tt
default-fits bool_sort = tt

-- the empty store is proper
pub unset-proper : ProperStore unset
unset-proper = record { fits = λ x. default-fits (sort_of x) }

-- a store stays proper with a value that fits
pub set-proper : (x : ProgVar) (v : Value) (st : Store) → FitsValue (sort_of x) v → ProperStore st
    → ProperStore (set x v st)
set-proper x v st f p =
    record {
      fits = λ y. subst (FitsValue (sort_of y)) (sym (value_in-set x v st y))
          (by_variable y (same_name y x) refl);
    }
  where
    by_variable : (y : ProgVar) (b : Bool) → same_name y x ≡ b
        → FitsValue (sort_of y) (cond b v (value_in st y))
    by_variable y true e = subst (λ z. FitsValue (sort_of z) v) (sym (same_name-is y x e)) f
    by_variable y false e = p.fits y

-- terms
pub value-fits : (s : ValueSort) (t : Term) (st : Store) → Computes s t → ProperStore st
    → FitsValue s (value_of st t)
value-fits s (literal v) st c p = c
value-fits s (variable (prog x u)) st c p =
    subst (λ z. FitsValue z (lookup st x u)) c (p.fits (named x u))
value-fits s (variable (logic x u)) st c p = absurd c
value-fits s (variable (bound i u)) st c p = absurd c
value-fits s (sum a b) st c p = subst (λ z. FitsValue z (value_of st (sum a b))) (sym c.0) tt
value-fits s (difference a b) st c p =
    subst (λ z. FitsValue z (value_of st (difference a b))) (sym c.0) tt
value-fits s (appended a b) st c p =
    subst (λ z. FitsValue z (value_of st (appended a b))) (sym c.0) tt
