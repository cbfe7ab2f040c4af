-- What the test for program variables in terms and formulas says.
use Rattle.std.proofs.Common.{◌≡◌, ◌⊎◌, refl, sym, ◌∙◌, subst, inl, inr, ⊎_elim, Bool, true, false, ◌||◌, not, List, [], ◌∷◌}
use Rattle.model_shapes.specs.Values.{Name}
use Rattle.model_shapes.specs.Sorts.{ValueSort}
use Rattle.model_shapes.proofs.Truth.{false≢true}
use Rattle.model_terms.specs.Variables.{Var, prog, logic, bound}
use Rattle.model_terms.specs.Terms.{Term, literal, variable, sum, difference, appended, InTerm}
use Rattle.model_terms.specs.Stores.{ProgVar, named, as_var}
use Rattle.model_formulas.specs.Formulas.{Formula, truth, falsity, conjunction, disjunction, implication, negation, existential, universal, equality, at_most, empty, bare_hole, node_formula, one_tree, one_root, concatenation, grove_sum, grove_sum_hole, application, hole_adjoint, context_adjoint, same_as, length_is, value_meets}
use Rattle.model_formulas.specs.Substitution.{FreeIn}
use Rattle.model_commands.specs.Commands.{Command, Among, Modifies}
use Rattle.model_commands.proofs.Sorting.{among-test}
use Rattle.model_files.proofs.Scopes.{test-among}
use Rattle.rule_table.specs.Conditions.{Holds, not_in, unchanged, unchanged_term}
use Rattle.triple_rules.specs.Changed.{AreChanged}
use Rattle.triple_rules.specs.Occurring.{term_mentions, mentions}

either-is : (a b : Bool) → (a || b) ≡ true → (a ≡ true) ⊎ (b ≡ true)
either-is true b e = inl refl
either-is false b e = inr e

left-or : (a b : Bool) → a ≡ true → (a || b) ≡ true
left-or a b e = subst (λ z. (z || b) ≡ true) (sym e) refl

right-or : (a b : Bool) → b ≡ true → (a || b) ≡ true
right-or true b e = refl
right-or false b e = e

module _ (xs : List ProgVar) where
  -- one of the variables is such
  pub record Some_is (P : Var → Type 0) : Type 0 where
    pub name : Name
    pub sort : ValueSort
    pub among : Among xs (named name sort)
    pub such : P (prog name sort)

  -- the test says whether one of them is such
  pub record Tells (b : Bool) (P : Var → Type 0) : Type 0 where
    pub yes_is : b ≡ true → Some_is P
    pub is_yes : Some_is P → b ≡ true

  still : {P Q : Var → Type 0} → ((x : Var) → P x → Q x) → Some_is P → Some_is Q
  still f s = record { name = s.name; sort = s.sort; among = s.among; such = f _ s.such }

  none : {P : Var → Type 0} → ((name : Name) (s : ValueSort) → P (prog name s) → ⊥)
      → Tells false P
  none f = record {
    yes_is = λ e. false≢true e;
    is_yes = λ s. absurd (f s.name s.sort s.such);
  }

  either : {P Q : Var → Type 0} (a b : Bool) → Tells a P → Tells b Q
      → Tells (a || b) (λ x. P x ⊎ Q x)
  either a b t u = record {
    yes_is = λ e. ⊎_elim (λ h. still (λ x m. inl m) (t.yes_is h))
        (λ h. still (λ x m. inr m) (u.yes_is h)) (either-is a b e);
    is_yes = λ s. ⊎_elim
        (λ h. left-or a b (t.is_yes (record {
          name = s.name;
          sort = s.sort;
          among = s.among;
          such = h;
        })))
        (λ h. right-or a b (u.is_yes (record {
          name = s.name;
          sort = s.sort;
          among = s.among;
          such = h;
        }))) s.such;
  }

  in_term : (t : Term) → Tells (term_mentions xs t) (λ x. InTerm x t)
  in_term (literal v) = none (λ n s m. m)
  in_term (variable (prog name s)) = record {
    yes_is = λ e. record {
      name = name;
      sort = s;
      among = test-among xs (named name s) e;
      such = refl;
    };
    is_yes = λ m. among-test xs (named name s) (same m);
  }
    where
      same : Some_is (λ x. x ≡ prog name s) → Among xs (named name s)
      same m =
          let n : m.name ≡ name = let e = m.such in cc in
          let u : m.sort ≡ s = let e = m.such in cc in
          subst (λ z. Among xs (named name z)) u
          (subst (λ z. Among xs (named z m.sort)) n m.among)
  in_term (variable (logic name s)) = none (λ n u m. absurd cc)
  in_term (variable (bound i s)) = none (λ n u m. absurd cc)
  in_term (sum a b) = either (term_mentions xs a) (term_mentions xs b) (in_term a) (in_term b)
  in_term (difference a b) =
      either (term_mentions xs a) (term_mentions xs b) (in_term a) (in_term b)
  in_term (appended a b) =
      either (term_mentions xs a) (term_mentions xs b) (in_term a) (in_term b)

  -- a part in which the same program variables are free
  passed : {b : Bool} {P Q : Var → Type 0} → Tells b P
      → ((name : Name) (s : ValueSort) → P (prog name s) → Q (prog name s))
      → ((name : Name) (s : ValueSort) → Q (prog name s) → P (prog name s)) → Tells b Q
  passed t f g = record {
    yes_is = λ e. let s = t.yes_is e in record {
      name = s.name;
      sort = s.sort;
      among = s.among;
      such = f s.name s.sort s.such;
    };
    is_yes = λ s. t.is_yes (record {
      name = s.name;
      sort = s.sort;
      among = s.among;
      such = g s.name s.sort s.such;
    });
  }

  in_formula : (p : Formula) → Tells (mentions xs p) (λ x. FreeIn x p)
  in_formula truth = none (λ n s m. m)
  in_formula falsity = none (λ n s m. m)
  in_formula (conjunction p q) = either _ _ (in_formula p) (in_formula q)
  in_formula (disjunction p q) = either _ _ (in_formula p) (in_formula q)
  in_formula (implication p q) = either _ _ (in_formula p) (in_formula q)
  in_formula (negation p) = passed (in_formula p) (λ n s m. m) (λ n s m. m)
  in_formula (existential s p) = passed (in_formula p) (λ n s m. m) (λ n s m. m)
  in_formula (universal s p) = passed (in_formula p) (λ n s m. m) (λ n s m. m)
  in_formula (equality a b) = either _ _ (in_term a) (in_term b)
  in_formula (at_most a b) = either _ _ (in_term a) (in_term b)
  in_formula (empty k) = none (λ n s m. m)
  in_formula (bare_hole k) = none (λ n s m. m)
  in_formula (node_formula a b p c) =
      either _ _ (in_term a) (either _ _ (in_term b) (either _ _ (in_formula p) (in_term c)))
  in_formula (one_tree p) = passed (in_formula p) (λ n s m. m) (λ n s m. m)
  in_formula (one_root p) = passed (in_formula p) (λ n s m. m) (λ n s m. m)
  in_formula (concatenation side p q) = either _ _ (in_formula p) (in_formula q)
  in_formula (grove_sum p q) = either _ _ (in_formula p) (in_formula q)
  in_formula (grove_sum_hole p q) = either _ _ (in_formula p) (in_formula q)
  in_formula (application h p q) = either _ _ (in_formula p) (in_formula q)
  in_formula (hole_adjoint p q) = either _ _ (in_formula p) (in_formula q)
  in_formula (context_adjoint h p q) = either _ _ (in_formula p) (in_formula q)
  in_formula (same_as a) = in_term a
  in_formula (length_is a) = in_term a
  in_formula (value_meets s a p) = either _ _ (in_term a) (in_formula p)

-- ONE VARIABLE, AND THOSE THAT A COMMAND CHANGES
only : (v : ProgVar) (p : Formula) → Some_is (v ∷ []) (λ x. FreeIn x p) → FreeIn (as_var v) p
only v p s = ⊎_elim (λ e. subst (λ z. FreeIn (as_var z) p) e s.such) (λ n. absurd n) s.among

just : (v : ProgVar) (p : Formula) → FreeIn (as_var v) p → Some_is (v ∷ []) (λ x. FreeIn x p)
just (named name s) p m = record { name = name; sort = s; among = inl refl; such = m }

no-is : (b : Bool) → not b ≡ true → b ≡ true → ⊥
no-is true e f = false≢true e
no-is false e f = false≢true f

is-no : (b : Bool) → (b ≡ true → ⊥) → not b ≡ true
is-no true n = absurd (n refl)
is-no false n = refl

pub mentions-not : (v : ProgVar) (p : Formula) → not (mentions (v ∷ []) p) ≡ true
    → Holds (not_in v p)
mentions-not v p e m =
    no-is (mentions (v ∷ []) p) e ((in_formula (v ∷ []) p).is_yes (just v p m))

pub not-mentions : (v : ProgVar) (p : Formula) → Holds (not_in v p)
    → not (mentions (v ∷ []) p) ≡ true
not-mentions v p n =
    is-no (mentions (v ∷ []) p) (λ e. n (only v p ((in_formula (v ∷ []) p).yes_is e)))

pub not-in-or-in : (v : ProgVar) (p : Formula) → Dec (Holds (not_in v p))
not-in-or-in v p = by_test (mentions (v ∷ []) p) refl
  where
    by_test : (b : Bool) → mentions (v ∷ []) p ≡ b → Dec (Holds (not_in v p))
    by_test true e = no (λ n. n (only v p ((in_formula (v ∷ []) p).yes_is e)))
    by_test false e = yes (λ m. false≢true (sym e ∙ (in_formula (v ∷ []) p).is_yes (just v p m)))

module _ (xs : List ProgVar) (c : Command) (changed : AreChanged xs c) where
  such-of : (P : Var → Type 0) (v : ProgVar) → Modifies c v → P (as_var v) → Some_is xs P
  such-of P (named name s) m h =
      record { name = name; sort = s; among = changed.all (named name s) m; such = h }

  pub unchanged-is : (p : Formula) → not (mentions xs p) ≡ true → Holds (unchanged c p)
  unchanged-is p e v m h =
      no-is (mentions xs p) e ((in_formula xs p).is_yes (such-of (λ x. FreeIn x p) v m h))

  pub is-unchanged : (p : Formula) → Holds (unchanged c p) → not (mentions xs p) ≡ true
  is-unchanged p h = is-no (mentions xs p) (λ e. let s = (in_formula xs p).yes_is e in
      h (named s.name s.sort) (changed.each (named s.name s.sort) s.among) s.such)

  pub unchanged-term-is : (t : Term) → not (term_mentions xs t) ≡ true
      → Holds (unchanged_term c t)
  unchanged-term-is t e v m h =
      no-is (term_mentions xs t) e ((in_term xs t).is_yes (such-of (λ x. InTerm x t) v m h))

  pub is-unchanged-term : (t : Term) → Holds (unchanged_term c t)
      → not (term_mentions xs t) ≡ true
  is-unchanged-term t h = is-no (term_mentions xs t) (λ e. let s = (in_term xs t).yes_is e in
      h (named s.name s.sort) (changed.each (named s.name s.sort) s.among) s.such)
