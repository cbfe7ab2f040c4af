-- What a row asks of the letters, by what is known of them.
use Rattle.std.proofs.Common.{◌≡◌, refl, sym, subst, ◌∙◌, Bool, true, false, not, Option, Some, None, is_some, List, [], ◌∷◌}
use Rattle.std.specs.List.{list_all}
use Rattle.model_shapes.proofs.Truth.{false≢true, both_true, and_from}
use Rattle.model_shapes.specs.Sorts.{Sort, value, shape, context, is_sort}
use Rattle.model_shapes.proofs.Tests.{same_sort-refl}
use Rattle.model_shapes.specs.Values.{Name}
use Rattle.model_terms.specs.Variables.{logic}
use Rattle.model_terms.specs.Terms.{Term, variable}
use Rattle.model_formulas.specs.Formulas.{Formula, is_pure}
use Rattle.model_formulas.specs.Substitution.{FreeIn}
use Rattle.rule_table.specs.Letters.{Letters, LogicVar, as_logic}
use Rattle.rule_table.specs.Conditions.{TermAt, Holds}
use Rattle.rule_table.specs.Verdicts.{AllMet}
use Rattle.rule_patterns.specs.Letter.{formula_at, term_at}
use Rattle.rule_patterns.specs.Patterns.{RequirementPattern, of_sort_p, x_of_sort_p, ConditionPattern, not_free_p, pure_p, requirements_of, condition_of}
use Rattle.letter_bindings.specs.Known.{place_in, term_in, Known, Says, Agrees}
use Rattle.letter_bindings.specs.Shifts.{is_free}
use Rattle.letter_bindings.specs.Choices.{IsApart}
use Rattle.letter_bindings.specs.Lines.{has_sort_at, argument_fits, sort_fits, requirement_met, is_out_of, all_pure, condition_met}
use Rattle.letter_bindings.proofs.FreeTests.{is_free-is, is-is_free}
use Rattle.letter_bindings.proofs.Learnt.{term_thing, x_sort_thing, knows}

-- REQUIREMENTS
has-at : (s : Sort) (a : Term) → has_sort_at s a ≡ true → TermAt s a
has-at (value u) a e = e
has-at (shape k) a e = both_true _ _ e
has-at (context h k) a e = both_true _ _ e

at-has : (s : Sort) (a : Term) → TermAt s a → has_sort_at s a ≡ true
at-has (value u) a m = m
at-has (shape k) a m = and_from _ _ m.0 m.1
at-has (context h k) a m = and_from _ _ m.0 m.1

own-at : (n : Name) (s : Sort) → is_sort s ≡ true → TermAt s (variable (logic n s))
own-at n (value u) e = same_sort-refl (value u)
own-at n (shape k) e = (same_sort-refl (shape k), e)
own-at n (context h k) e = (same_sort-refl (context h k), e)

at-own : (n : Name) (s : Sort) → TermAt s (variable (logic n s)) → is_sort s ≡ true
at-own n (value u) m = refl
at-own n (shape k) m = m.1
at-own n (context h k) m = m.1

fits-at : (s : Option Sort) (o : Option Term) (u : Sort) (t : Term) → Says s u → Says o t
    → argument_fits s o ≡ true → TermAt u t
fits-at (Some s) (Some a) u t e f h =
    subst (λ v. TermAt v t) (sym e) (subst (λ b. TermAt s b) (sym f) (has-at s a h))
fits-at (Some s) None u t e f h = false≢true h
fits-at None o u t e f h = false≢true h

at-fits : (s : Option Sort) (o : Option Term) (u : Sort) (t : Term) → is_some s ≡ true
    → is_some o ≡ true → Says s u → Says o t → TermAt u t → argument_fits s o ≡ true
at-fits (Some s) (Some a) u t i j e f m =
    at-has s a (subst (λ b. TermAt s b) f (subst (λ v. TermAt v t) e m))
at-fits (Some s) None u t i j e f m = false≢true j
at-fits None o u t i j e f m = false≢true i

sort-at : (s : Option Sort) (n : Name) (u : Sort) → Says s u → sort_fits s ≡ true
    → TermAt u (variable (logic n u))
sort-at (Some s) n u e h =
    subst (λ v. TermAt v (variable (logic n v))) (sym e) (own-at n s h)
sort-at None n u e h = false≢true h

at-sort : (s : Option Sort) (n : Name) (u : Sort) → is_some s ≡ true → Says s u
    → TermAt u (variable (logic n u)) → sort_fits s ≡ true
at-sort (Some s) n u i e m = at-own n s (subst (λ v. TermAt v (variable (logic n v))) e m)
at-sort None n u i e m = false≢true i

-- what they ask for is known
abbrev pub RequirementKnown : Known → RequirementPattern → Type 0
RequirementKnown k (of_sort_p e) = (knows (term_thing e) k ≡ true) × (knows x_sort_thing k ≡ true)
RequirementKnown k x_of_sort_p = knows x_sort_thing k ≡ true

abbrev pub EachKnown : Known → List RequirementPattern → Type 0
EachKnown k [] = Unit {0}
EachKnown k (r ∷ rs) = RequirementKnown k r × EachKnown k rs

module _ (k : Known) (l : Letters) (g : Agrees l k) where
  pub all-met : (rs : List RequirementPattern) → list_all (requirement_met k) rs ≡ true
      → AllMet (requirements_of l rs)
  all-met [] h = tt
  all-met (of_sort_p e ∷ rs) h =
      let b : (argument_fits k.x_sort (term_in k.terms e) ≡ true)
      × (list_all (requirement_met k) rs ≡ true) = both_true _ _ h in (
        fits-at k.x_sort (term_in k.terms e) l.x.sort (term_at l e) g.x_sort (g.terms e) b.0,
        all-met rs b.1,
      )
  all-met (x_of_sort_p ∷ rs) h =
      let b : (sort_fits k.x_sort ≡ true) × (list_all (requirement_met k) rs ≡ true) =
      both_true _ _ h in
      (sort-at k.x_sort l.x.name l.x.sort g.x_sort b.0, all-met rs b.1)

  pub met-all : (rs : List RequirementPattern) → EachKnown k rs → AllMet (requirements_of l rs)
      → list_all (requirement_met k) rs ≡ true
  met-all [] i m = refl
  met-all (of_sort_p e ∷ rs) i m = and_from _ _
      (at-fits k.x_sort (term_in k.terms e) l.x.sort (term_at l e) i.0.1 i.0.0 g.x_sort (g.terms e)
      m.0) (met-all rs i.1 m.1)
  met-all (x_of_sort_p ∷ rs) i m =
      and_from _ _ (at-sort k.x_sort l.x.name l.x.sort i.0 g.x_sort m.0) (met-all rs i.1 m.1)

-- CONDITIONS
-- the letter that the condition speaks of
abbrev pub place_of : Known → ConditionPattern → Option Formula
place_of k (not_free_p a) = place_in k.formulas a
place_of k (pure_p a) = place_in k.formulas a

abbrev pub as_list : Option Formula → List Formula
as_list (Some p) = p ∷ []
as_list None = []

-- $x is this variable, or one that isn't in the letter
abbrev pub XIs : Option LogicVar → LogicVar → Option Formula → Type 0
XIs (Some v) y o = y ≡ v
XIs None y o = IsApart y (as_list o)

out-holds : (x : Option LogicVar) (y : LogicVar) (o : Option Formula) (f : Formula) → XIs x y o
    → is_some o ≡ true → Says o f → is_out_of x o ≡ true → FreeIn (as_logic y) f → ⊥
out-holds x y None f i j e h m = false≢true j
out-holds (Some v) y (Some q) f i j e h m = false≢true
    (subst (λ b. not b ≡ true)
    (is-is_free q (as_logic v)
    (subst (λ z. FreeIn (as_logic z) q) i (subst (λ r. FreeIn (as_logic y) r) e m))) h)
out-holds None y (Some q) f i j e h m = i.0 (subst (λ r. FreeIn (as_logic y) r) e m)

not-true : (b : Bool) → not b ≡ false → b ≡ true
not-true true e = refl
not-true false e = absurd cc

out-fails : (x : Option LogicVar) (y : LogicVar) (o : Option Formula) (f : Formula)
    → ((v : LogicVar) → x ≡ Some v → y ≡ v) → Says o f → is_out_of x o ≡ false
    → (FreeIn (as_logic y) f → ⊥) → ⊥
out-fails None y o f i e h n = false≢true (sym h)
out-fails (Some v) y None f i e h n = false≢true (sym h)
out-fails (Some v) y (Some q) f i e h n = n
    (subst (λ r. FreeIn (as_logic y) r) (sym e)
    (subst (λ z. FreeIn (as_logic z) q) (sym (i v refl))
    (is_free-is q (as_logic v) (not-true (is_free (as_logic v) q) h))))

pure-holds : (o : Option Formula) (f : Formula) → is_some o ≡ true → Says o f
    → all_pure o ≡ true → is_pure f ≡ true
pure-holds None f j e h = false≢true j
pure-holds (Some q) f j e h = subst (λ r. is_pure r ≡ true) (sym e) h

pure-fails : (o : Option Formula) (f : Formula) → Says o f → all_pure o ≡ false
    → is_pure f ≡ true → ⊥
pure-fails None f e h m = false≢true (sym h)
pure-fails (Some q) f e h m = false≢true (sym h ∙ subst (λ r. is_pure r ≡ true) e m)

module _ (n : Known) (x : Option LogicVar) (l : Letters) (g : Agrees l n) where
  pub holds-where : (c : ConditionPattern) → XIs x l.x (place_of n c)
      → is_some (place_of n c) ≡ true → condition_met x n c ≡ true → Holds (condition_of l c)
  holds-where (not_free_p a) i j h =
      out-holds x l.x (place_in n.formulas a) (formula_at l a) i j (g.formulas a) h
  holds-where (pure_p a) i j h =
      pure-holds (place_in n.formulas a) (formula_at l a) j (g.formulas a) h

  pub fails-where : (c : ConditionPattern) → ((v : LogicVar) → x ≡ Some v → l.x ≡ v)
      → condition_met x n c ≡ false → Holds (condition_of l c) → ⊥
  fails-where (not_free_p a) i h =
      out-fails x l.x (place_in n.formulas a) (formula_at l a) i (g.formulas a) h
  fails-where (pure_p a) i h =
      pure-fails (place_in n.formulas a) (formula_at l a) (g.formulas a) h
