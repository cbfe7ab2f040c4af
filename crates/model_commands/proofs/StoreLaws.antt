-- Laws of stores, terms and conditions.
use Rattle.std.proofs.Common.{◌≡◌, ◌⊎◌, ◌++◌, ◌+ℤ◌, ◌-ℤ◌, int_le, Bool, true, false, not, ◌&&◌, ◌||◌, sym, refl, ap, ◌∙◌, subst, inl, inr, ⊎_elim, IsTrue}
use Rattle.model_shapes.specs.Sorts.{Sort, ValueSort, int_sort, str_sort, bool_sort}
use Rattle.model_shapes.specs.Values.{Value, null, nolist, node_number, list_number, int, str, boolean, FitsValue}
use Rattle.model_shapes.proofs.Truth.{both_true}
use Rattle.model_shapes.specs.Things.{val}
use Rattle.model_shapes.specs.Trees.{Trees}
use Rattle.model_terms.specs.Variables.{prog, logic, bound}
use Rattle.model_terms.specs.Terms.{Term, literal, variable, sum, difference, appended}
use Rattle.model_shapes.specs.Tests.{same_value}
use Rattle.model_shapes.proofs.Tests.{same_value-refl, same_value-is}
use Rattle.model_formulas.specs.Satisfaction.{Environment, Meets, meaning_of, number_of, text_meant, Proper}
use Rattle.model_formulas.specs.Satisfaction.{with_store}
use Rattle.model_terms.specs.Stores.{ProgVar, named, as_var, sort_of, Store, value_in, lookup, ProperStore, int_in, text_in, value_of}
use Rattle.model_terms.specs.Conditions.{Cond, cond_true, cond_false, cond_variable, cond_equal, cond_at_most, cond_not, cond_and, cond_or, truth_in, truth_of}
use Rattle.model_terms.specs.Computing.{Computes, Tests}
use Rattle.model_commands.specs.ConditionFormulas.{formula_of}

-- a proper store and a proper environment are one together
pub joint-proper : (st : Store) (e : Environment) → ProperStore st → Proper e
    → Proper (with_store (lookup st) e)
joint-proper st e p pr = record { programs = λ x s. p.fits (named x s); logics = pr.logics }

-- and the store of one together is proper
pub proper-store : (st : Store) (e : Environment) → Proper (with_store (lookup st) e)
    → ProperStore st
proper-store st e pr = record { fits = λ y. by_variable y }
  where
    by_variable : (y : ProgVar) → FitsValue (sort_of y) (value_in st y)
    by_variable (named x s) = pr.programs x s

-- one proper store may stand for another
pub other-store : (st st' : Store) (e : Environment) → Proper (with_store (lookup st) e)
    → ProperStore st' → Proper (with_store (lookup st') e)
other-store st st' e pr p = record { programs = λ x s. p.fits (named x s); logics = pr.logics }

number-val : (v : Value) → number_of (val v) ≡ int_in v
number-val null = refl
number-val nolist = refl
number-val (node_number n) = refl
number-val (list_number n) = refl
number-val (int z) = refl
number-val (str s) = refl
number-val (boolean b) = refl

text-val : (v : Value) → text_meant (val v) ≡ text_in v
text-val null = refl
text-val nolist = refl
text-val (node_number n) = refl
text-val (list_number n) = refl
text-val (int z) = refl
text-val (str s) = refl
text-val (boolean b) = refl

-- a term stands for its value
pub meaning-value : (s : ValueSort) (t : Term) (st : Store) (e : Environment) → Computes s t
    → meaning_of (with_store (lookup st) e) t ≡ val (value_of st t)
meaning-value s (literal v) st e c = refl
meaning-value s (variable (prog x u)) st e c = refl
meaning-value s (variable (logic x u)) st e c = absurd c
meaning-value s (variable (bound i u)) st e c = absurd c
meaning-value s (sum a b) st e c =
    λ i. val
    (int ((ap number_of (meaning-value int_sort a st e c.1) ∙ number-val (value_of st a)) i +ℤ
    (ap number_of (meaning-value int_sort b st e c.2) ∙ number-val (value_of st b)) i))
meaning-value s (difference a b) st e c =
    λ i. val
    (int ((ap number_of (meaning-value int_sort a st e c.1) ∙ number-val (value_of st a)) i -ℤ
    (ap number_of (meaning-value int_sort b st e c.2) ∙ number-val (value_of st b)) i))
meaning-value s (appended a b) st e c =
    λ i. val
    (str ((ap text_meant (meaning-value str_sort a st e c.1) ∙ text-val (value_of st a)) i ++
    (ap text_meant (meaning-value str_sort b st e c.2) ∙ text-val (value_of st b)) i))

number-value : (t : Term) (st : Store) (e : Environment) → Computes int_sort t
    → number_of (meaning_of (with_store (lookup st) e) t) ≡ int_in (value_of st t)
number-value t st e c = ap number_of (meaning-value int_sort t st e c) ∙ number-val (value_of st t)

-- conditions
wrong : (b : Bool) → b ≡ false → IsTrue b → ⊥
wrong true e t = cc
wrong false e t = cc

truth-in : (v : Value) → FitsValue bool_sort v → truth_in v ≡ true → v ≡ boolean true
truth-in (boolean b) f e = ap boolean e
truth-in null f e = absurd f
truth-in nolist f e = absurd f
truth-in (node_number n) f e = absurd f
truth-in (list_number n) f e = absurd f
truth-in (int z) f e = absurd f
truth-in (str s) f e = absurd f

truth-out : (v : Value) → truth_in v ≡ false → v ≡ boolean true → ⊥
truth-out v e q = let h : truth_in (boolean true) ≡ false = subst (λ z. truth_in z ≡ false) q e in
    (cc)

val-is : (v w : Value) → val v ≡ val w → v ≡ w
val-is v w e = cc

both-false : (a b : Bool) → (a && b) ≡ false → (a ≡ false) ⊎ (b ≡ false)
both-false true b e = inr e
both-false false b e = inl refl

-- a disjunction of tests that is true
pub either-true : (a b : Bool) → (a || b) ≡ true → (a ≡ true) ⊎ (b ≡ true)
either-true true b e = inl refl
either-true false b e = inr e

either-false : (a b : Bool) → (a || b) ≡ false → (a ≡ false) × (b ≡ false)
either-false true b e = absurd (cc)
either-false false b e = (refl, e)

-- a denied test is false
pub not-true : (a : Bool) → not a ≡ true → a ≡ false
not-true true e = absurd (cc)
not-true false e = refl

-- and a test that isn't denied is true
pub not-false : (a : Bool) → not a ≡ false → a ≡ true
not-false true e = refl
not-false false e = absurd (cc)

different : (v w : Value) → same_value v w ≡ false → v ≡ w → ⊥
different v w h e = let z : same_value v w ≡ true =
    subst (λ u. same_value v u ≡ true) e (same_value-refl v) in (cc)

-- a variable stands for its value
pub set-meaning : (x : ProgVar) (st : Store) (e : Environment)
    → meaning_of (with_store (lookup st) e) (variable (as_var x)) ≡ val (value_in st x)
set-meaning (named x s) st e = refl

module _ (st : Store) (e : Environment) (p : ProperStore st) (s : Sort) (r : Trees) where
  mutual
    pub true-meets : (c : Cond) → Tests c → truth_of st c ≡ true
        → Meets (formula_of c) (with_store (lookup st) e) s r
    true-meets cond_true t h = tt
    true-meets cond_false t h = absurd (cc)
    true-meets (cond_variable x) t h =
        set-meaning x st e
        ∙ ap val
        (truth-in (value_in st x) (subst (λ z. FitsValue z (value_in st x)) t (p.fits x)) h)
    true-meets (cond_equal a b) t h =
        meaning-value t.0 a st e t.1 ∙ ap val (same_value-is (value_of st a) (value_of st b) h)
        ∙ sym (meaning-value t.0 b st e t.2)
    true-meets (cond_at_most a b) t h =
        subst (λ z. IsTrue (int_le z (number_of (meaning_of (with_store (lookup st) e) b))))
        (sym (number-value a st e t.0))
        (subst (λ z. IsTrue (int_le (int_in (value_of st a)) z)) (sym (number-value b st e t.1)) h)
    true-meets (cond_not c) t h = λ m. false-fails c t (not-true (truth_of st c) h) m
    true-meets (cond_and c d) t h = (
      true-meets c t.0 (both_true (truth_of st c) (truth_of st d) h).0,
      true-meets d t.1 (both_true (truth_of st c) (truth_of st d) h).1,
    )
    true-meets (cond_or c d) t h =
        λ k. ⊎_elim (λ x. k (inl (true-meets c t.0 x))) (λ x. k (inr (true-meets d t.1 x)))
        (either-true (truth_of st c) (truth_of st d) h)

    -- a condition that is false
    pub false-fails : (c : Cond) → Tests c → truth_of st c ≡ false
        → Meets (formula_of c) (with_store (lookup st) e) s r → ⊥
    false-fails cond_true t h m = cc
    false-fails cond_false t h m = m
    false-fails (cond_variable x) t h m =
        truth-out (value_in st x) h
        (val-is (value_in st x) (boolean true) (sym (set-meaning x st e) ∙ m))
    false-fails (cond_equal a b) t h m =
        different (value_of st a) (value_of st b) h
        (val-is (value_of st a) (value_of st b) (sym (meaning-value t.0 a st e t.1) ∙ m
        ∙ meaning-value t.0 b st e t.2))
    false-fails (cond_at_most a b) t h m =
        wrong (int_le (int_in (value_of st a)) (int_in (value_of st b))) h
        (subst (λ z. IsTrue (int_le (int_in (value_of st a)) z)) (number-value b st e t.1)
        (subst (λ z. IsTrue (int_le z (number_of (meaning_of (with_store (lookup st) e) b))))
        (number-value a st e t.0) m))
    false-fails (cond_not c) t h m = m (true-meets c t (not-false (truth_of st c) h))
    false-fails (cond_and c d) t h m =
        ⊎_elim (λ x. false-fails c t.0 x m.0) (λ x. false-fails d t.1 x m.1)
        (both-false (truth_of st c) (truth_of st d) h)
    false-fails (cond_or c d) t h m =
        m (λ z. ⊎_elim
        (λ x. false-fails c t.0 (either-false (truth_of st c) (truth_of st d) h).0 x)
        (λ x. false-fails d t.1 (either-false (truth_of st c) (truth_of st d) h).1 x) z)

  -- true exactly where the formula is met
  pub condition-both : (c : Cond) → Tests c
      → (truth_of st c ≡ true → Meets (formula_of c) (with_store (lookup st) e) s r)
      × (Meets (formula_of c) (with_store (lookup st) e) s r → truth_of st c ≡ true)
  condition-both c t = (true-meets c t, back (truth_of st c) refl)
    where
      back : (b : Bool) → truth_of st c ≡ b
          → Meets (formula_of c) (with_store (lookup st) e) s r → truth_of st c ≡ true
      back true q m = q
      back false q m = absurd (false-fails c t q m)
