-- A substitution with its binders renamed: what each variable becomes.
use Rattle.std.proofs.Common.{◌≡◌, ℕ, ◌<◌, ◌≤◌, max, refl, sym, ap, ◌∙◌, subst, Bool, true, false, cond, List, [], ◌∷◌, ◌++◌, ◌||◌, ◌⊎◌, inl, inr, ⊎_elim, Some, None, map, arith}
use Rattle.std.specs.List.{list_any}
use Rattle.std.proofs.lemmas.List.Folds.{list_any-append}
use Rattle.model_shapes.specs.Sorts.{ValueSort}
use Rattle.model_terms.specs.Variables.{Var, prog, logic, bound, var_sort}
use Rattle.model_shapes.proofs.Truth.{false≢true}
use Rattle.model_terms.specs.VariableTests.{same_var-is, same_var-refl, same_var}
use Rattle.model_terms.specs.Terms.{Term, literal, variable, sum, difference, appended, raised, raised_var, under_binder, Substitution, term_with}
use Rattle.model_formulas.specs.Formulas.{Named}
use Rattle.model_formulas.specs.Substitution.{formula_with}
use Rattle.model_formulas.specs.Nameless.{names, naming, walked, nameless}
use Rattle.dom_terms.specs.declared.terms.Term.TheVariants as t
use Rattle.dom_terms.specs.declared.terms.Term as program
use Rattle.dom_terms.specs.Terms.{term_of, var_of, logic_var_of}
use Rattle.formula_syntax.specs.Formulas.{pair_of}
use Rattle.formula_syntax.specs.declared.variables.Pair.{Pair}
use Rattle.formula_syntax.specs.declared.replaced.Name.{Name}
use Rattle.formula_syntax.specs.declared.replaced.Name.TheVariants as n
use Rattle.formula_syntax.specs.declared.renaming.Scopes.{Scopes}
use Rattle.formula_syntax.specs.declared.renaming.Scopes.TheVariants as s
use Rattle.formula_syntax.specs.FreeVariables.{is_among, variables_of_term}
use Rattle.formula_syntax.specs.Substitution.{below, replacing_each, var_named}
use Rattle.formula_syntax.specs.Renaming.{name_length, longest_in, longest_put, is_put, before, after, became, limit, reach, Apart}
use Rattle.formula_syntax.proofs.Gathering.{any-seen}
use Rattle.formula_syntax.proofs.BoundNames.{names-here, names-there}
use Rattle.formula_syntax.proofs.Replacing.{below-replaced, replaced-here, replaced-there}

-- the limit is within reach
limit-reach : (pairs : List (Var × Term)) (s : Scopes) → Apart pairs s → limit s ≤ reach s
limit-reach pairs (s.Outermost longest) a = omega arith
limit-reach pairs (s.Kept' x p outer) a = limit-reach pairs outer a.2
limit-reach pairs (s.Renamed' x y p outer) a =
    let h : limit outer ≤ reach outer = limit-reach pairs outer a.2 in omega (arith, a.0)

-- different variables fail the test
apart-not : (u v : Var) → (u ≡ v → ⊥) → same_var u v ≡ false
apart-not u v f = by_test (same_var u v) refl
  where
    by_test : (b : Bool) → same_var u v ≡ b → b ≡ false
    by_test true e = absurd (f (same_var-is u v e))
    by_test false e = refl

longer-not : (u v : Var) → name_length u < name_length v → same_var u v ≡ false
longer-not u v h = apart-not u v (λ e. let q : name_length u ≡ name_length v = ap name_length e in
    absurd (omega arith))

shorter-not : (u v : Var) → name_length v < name_length u → same_var u v ≡ false
shorter-not u v h = apart-not u v (λ e. let q : name_length u ≡ name_length v = ap name_length e in
    absurd (omega arith))

some-is : {A : Type 0} (x y : A) → Some x ≡ Some y → x ≡ y
some-is x y e = cc

-- what a variable became is the variable itself, or longer than what was there
abbrev IsKeptOrLonger : Scopes → Var → Var → Type 0
IsKeptOrLonger s z w = (name_length w ≤ reach s) × ((w ≡ z) ⊎ (limit s < name_length w))

became-kept : (pairs : List (Var × Term)) (s : Scopes) → Apart pairs s → (z w : Var)
    → name_length z ≤ limit s → became s z ≡ Some w → IsKeptOrLonger s z w
became-kept pairs (s.Outermost longest) a z w h e = absurd (cc)
became-kept pairs (s.Kept' x p outer) a z w h e =
    by_test (same_var z (logic_var_of x.now)) refl e (became-kept pairs outer a.2 z w h)
  where
    by_test : (b : Bool) → same_var z (logic_var_of x.now) ≡ b
        → cond b (Some (logic_var_of x.now)) (became outer z) ≡ Some w
        → (became outer z ≡ Some w → IsKeptOrLonger outer z w)
        → IsKeptOrLonger (s.Kept' x p outer) z w
    by_test true d e f =
        let q : w ≡ z = sym (some-is (logic_var_of x.now) w e)
        ∙ sym (same_var-is z (logic_var_of x.now) d) in
        let l : name_length w ≡ name_length z = ap name_length q in
        let r : limit outer ≤ reach outer = limit-reach pairs outer a.2 in
        (omega arith, inl q)
    by_test false d e f = f e
became-kept pairs (s.Renamed' x y p outer) a z w h e =
    by_test (same_var z (logic_var_of x.now)) e (became-kept pairs outer a.2 z w h)
  where
    by_test : (b : Bool)
        → cond b (Some (logic_var_of y.now)) (became outer z) ≡ Some w
        → (became outer z ≡ Some w → IsKeptOrLonger outer z w)
        → IsKeptOrLonger (s.Renamed' x y p outer) z w
    by_test true e f =
        let l : name_length (logic_var_of y.now) ≡ name_length w =
        ap name_length (some-is (logic_var_of y.now) w e) in
        let r : limit outer ≤ reach outer = limit-reach pairs outer a.2 in
        (omega arith, inr (omega (arith, a.0)))
    by_test false e f = (omega (arith, a.0, (f e).0), (f e).1)

-- a variable further out, under one more binder
under-raised : (f : Substitution) (z : Var) → under_binder f (raised_var z) ≡ raised (f z)
under-raised f (prog x s) = refl
under-raised f (logic x s) = refl
under-raised f (bound i s) = refl

raised-variable : (z : Var) → raised (variable z) ≡ variable (raised_var z)
raised-variable (prog x s) = refl
raised-variable (logic x s) = refl
raised-variable (bound i s) = refl

-- z stands below the binders xs for what w stands for below the binders ys
abbrev StandsFor : List Var → List Var → Substitution → Var → Var → Type 0
StandsFor xs ys f z w = below xs f (names xs z) ≡ variable (names ys w)

-- the nearest binder binds both
nearest : (xs ys : List Var) (f : Substitution) (x y z : Var) → same_var z x ≡ true
    → var_sort y ≡ var_sort x → StandsFor (x ∷ xs) (y ∷ ys) f z y
nearest xs ys f x y z e s =
    ap (under_binder (below xs f)) (names-here z x xs e)
    ∙ ap (λ u. variable (bound 0 u)) (ap var_sort (same_var-is z x e) ∙ sym s)
    ∙ ap variable (sym (names-here y y ys (same_var-refl y)))

-- it binds neither
further : (xs ys : List Var) (f : Substitution) (x y z w : Var) → same_var z x ≡ false
    → same_var w y ≡ false → StandsFor xs ys f z w → StandsFor (x ∷ xs) (y ∷ ys) f z w
further xs ys f x y z w e d h =
    ap (under_binder (below xs f)) (names-there z x xs e)
    ∙ under-raised (below xs f) (names xs z) ∙ ap raised h ∙ raised-variable (names ys w)
    ∙ ap variable (sym (names-there w y ys d))

became-stands : (pairs : List (Var × Term)) (s : Scopes) → Apart pairs s → (z w : Var)
    → name_length z ≤ limit s → became s z ≡ Some w → (f : Substitution)
    → StandsFor (before s) (after s) f z w
became-stands pairs (s.Outermost longest) a z w h e f = absurd (cc)
became-stands pairs (s.Kept' x p outer) a z w h e f =
    by_test (same_var z (logic_var_of x.now)) refl e
    (λ q. became-stands pairs outer a.2 z w h q f)
  where
    other : same_var z (logic_var_of x.now) ≡ false → became outer z ≡ Some w
        → same_var w (logic_var_of x.now) ≡ false
    other d q = ⊎_elim (λ k. ap (λ u. same_var u (logic_var_of x.now)) k ∙ d)
        (λ k. shorter-not w (logic_var_of x.now) (omega (arith, a.0, k)))
        (became-kept pairs outer a.2 z w h q).1

    by_test : (b : Bool) → same_var z (logic_var_of x.now) ≡ b
        → cond b (Some (logic_var_of x.now)) (became outer z) ≡ Some w
        → (became outer z ≡ Some w → StandsFor (before outer) (after outer) f z w)
        → StandsFor (before (s.Kept' x p outer)) (after (s.Kept' x p outer)) f z w
    by_test true d e g =
        subst (StandsFor (before (s.Kept' x p outer)) (after (s.Kept' x p outer)) f z)
        (some-is (logic_var_of x.now) w e)
        (nearest (before outer) (after outer) f (logic_var_of x.now) (logic_var_of x.now) z d refl)
    by_test false d e g =
        further (before outer) (after outer) f (logic_var_of x.now) (logic_var_of x.now) z w d
        (other d e) (g e)
became-stands pairs (s.Renamed' x y p outer) a z w h e f =
    by_test (same_var z (logic_var_of x.now)) refl e
    (λ q. became-stands pairs outer a.2 z w h q f)
  where
    other : became outer z ≡ Some w → same_var w (logic_var_of y.now) ≡ false
    other q =
        longer-not w (logic_var_of y.now)
        (omega (arith, a.0, (became-kept pairs outer a.2 z w h q).0))

    by_test : (b : Bool) → same_var z (logic_var_of x.now) ≡ b
        → cond b (Some (logic_var_of y.now)) (became outer z) ≡ Some w
        → (became outer z ≡ Some w → StandsFor (before outer) (after outer) f z w)
        → StandsFor (before (s.Renamed' x y p outer)) (after (s.Renamed' x y p outer)) f z w
    by_test true d e g =
        subst (StandsFor (before (s.Renamed' x y p outer)) (after (s.Renamed' x y p outer)) f z)
        (some-is (logic_var_of y.now) w e)
        (nearest (before outer) (after outer) f (logic_var_of x.now) (logic_var_of y.now) z d a.1)
    by_test false d e g =
        further (before outer) (after outer) f (logic_var_of x.now) (logic_var_of y.now) z w d
        (other e) (g e)

-- a variable that one of the binders binds stands for what it became
pub bound-put : (pairs : List (Var × Term)) (s : Scopes) → Apart pairs s → (z w : Var)
    → name_length z ≤ limit s → became s z ≡ Some w → (f : Substitution)
    → below (before s) f (names (before s) z) ≡ variable (names (after s) w)
bound-put = became-stands

-- a variable that none of them binds is named as it was
abbrev Unbound : Scopes → Var → Type 0
Unbound s z = (names (before s) z ≡ z) × (names (after s) z ≡ z)

outside-names : (xs : List Var) (x z : Var) → raised_var z ≡ z → same_var z x ≡ false
    → names xs z ≡ z → names (x ∷ xs) z ≡ z
outside-names xs x z r d e = names-there z x xs d ∙ ap raised_var e ∙ r

not-became : (pairs : List (Var × Term)) (s : Scopes) → Apart pairs s → (z : Var)
    → raised_var z ≡ z → name_length z ≤ limit s → became s z ≡ None → Unbound s z
not-became pairs (s.Outermost longest) a z r h e = (refl, refl)
not-became pairs (s.Kept' x p outer) a z r h e =
    by_test (same_var z (logic_var_of x.now)) refl e (not-became pairs outer a.2 z r h)
  where
    by_test : (b : Bool) → same_var z (logic_var_of x.now) ≡ b
        → cond b (Some (logic_var_of x.now)) (became outer z) ≡ None
        → (became outer z ≡ None → Unbound outer z) → Unbound (s.Kept' x p outer) z
    by_test true d e f = absurd (cc)
    by_test false d e f = (
      outside-names (before outer) (logic_var_of x.now) z r d (f e).0,
      outside-names (after outer) (logic_var_of x.now) z r d (f e).1,
    )
not-became pairs (s.Renamed' x y p outer) a z r h e =
    by_test (same_var z (logic_var_of x.now)) refl e (not-became pairs outer a.2 z r h)
  where
    other : same_var z (logic_var_of y.now) ≡ false
    other =
        let l : limit outer ≤ reach outer = limit-reach pairs outer a.2 in
        longer-not z (logic_var_of y.now) (omega (arith, a.0))

    by_test : (b : Bool) → same_var z (logic_var_of x.now) ≡ b
        → cond b (Some (logic_var_of y.now)) (became outer z) ≡ None
        → (became outer z ≡ None → Unbound outer z) → Unbound (s.Renamed' x y p outer) z
    by_test true d e f = absurd (cc)
    by_test false d e f = (
      outside-names (before outer) (logic_var_of x.now) z r d (f e).0,
      outside-names (after outer) (logic_var_of y.now) z r other (f e).1,
    )

-- the test of the pairs of the program
pub put-seen : (x : Var) (pairs : List Pair) → is_put x (map pair_of pairs)
    ≡ list_any (λ pair. is_among x (variables_of_term (term_of pair.term))) pairs
put-seen x pairs = any-seen pair_of (λ pair. is_among x (variables_of_term pair.1)) pairs

or-either : (b c : Bool) → (b || c) ≡ true → (b ≡ true) ⊎ (c ≡ true)
or-either true c e = inl refl
or-either false c e = inr e

or-left : (b c : Bool) → b ≡ true → (b || c) ≡ true
or-left b c e = ap (λ d. d || c) e

or-right : (b c : Bool) → c ≡ true → (b || c) ≡ true
or-right true c e = refl
or-right false c e = e

two-short : (x : Var) (a b : Term)
    → (is_among x (variables_of_term a) ≡ true → name_length x ≤ longest_in a)
    → (is_among x (variables_of_term b) ≡ true → name_length x ≤ longest_in b)
    → is_among x (variables_of_term a ++ variables_of_term b) ≡ true
    → name_length x ≤ max (longest_in a) (longest_in b)
two-short x a b f g e = ⊎_elim (λ h. omega (arith, f h)) (λ h. omega (arith, g h))
    (or-either (is_among x (variables_of_term a)) (is_among x (variables_of_term b))
    (sym (list_any-append (same_var x) (variables_of_term a) (variables_of_term b)) ∙ e))

-- the names of a term to be put in are among those that were there
among-short : (x : Var) (t : Term) → is_among x (variables_of_term t) ≡ true
    → name_length x ≤ longest_in t
among-short x (literal v) e = false≢true e
among-short x (variable y) e = by_test (same_var x y) refl e
  where
    by_test : (b : Bool) → same_var x y ≡ b → (b || false) ≡ true → name_length x ≤ name_length y
    by_test true d e = let q : name_length x ≡ name_length y = ap name_length (same_var-is x y d) in
        omega arith
    by_test false d e = false≢true e
among-short x (sum a b) e = two-short x a b (among-short x a) (among-short x b) e
among-short x (difference a b) e = two-short x a b (among-short x a) (among-short x b) e
among-short x (appended a b) e = two-short x a b (among-short x a) (among-short x b) e

put-short : (pairs : List (Var × Term)) (x : Var) → is_put x pairs ≡ true
    → name_length x ≤ longest_put pairs
put-short [] x e = false≢true e
put-short (pair ∷ pairs) x e = ⊎_elim (λ h. omega (arith, among-short x pair.1 h))
    (λ h. omega (arith, put-short pairs x h))
    (or-either (is_among x (variables_of_term pair.1)) (is_put x pairs) e)

put-limit : (pairs : List (Var × Term)) (s : Scopes) → Apart pairs s → longest_put pairs ≤ limit s
put-limit pairs (s.Outermost longest) a = a
put-limit pairs (s.Kept' x p outer) a = put-limit pairs outer a.2
put-limit pairs (s.Renamed' x y p outer) a = put-limit pairs outer a.2

-- a variable of a term to be put in is bound by no binder as it is now
put-named : (pairs : List (Var × Term)) (s : Scopes) → Apart pairs s → (u : Var)
    → raised_var u ≡ u → is_put u pairs ≡ true → names (after s) u ≡ u
put-named pairs (s.Outermost longest) a u r e = refl
put-named pairs (s.Kept' x p outer) a u r e =
    outside-names (after outer) (logic_var_of x.now) u r
    (apart-not u (logic_var_of x.now)
    (λ q. false≢true (sym a.1 ∙ ap (λ v. is_put v pairs) (sym q) ∙ e)))
    (put-named pairs outer a.2 u r e)
put-named pairs (s.Renamed' x y p outer) a u r e =
    let l : limit outer ≤ reach outer = limit-reach pairs outer a.2 in
    outside-names (after outer) (logic_var_of y.now) u r
    (longer-not u (logic_var_of y.now)
    (omega (arith, a.0, put-short pairs u e, put-limit pairs outer a.2)))
    (put-named pairs outer a.2 u r e)

-- each variable of the term is named as it is
abbrev AllPlain : List Var → Term → Type 0
AllPlain ys t =
    (u : Var) → raised_var u ≡ u → is_among u (variables_of_term t) ≡ true → names ys u ≡ u

left-plain : (ys : List Var) (a b : program.Term)
    → ((u : Var) → raised_var u ≡ u
    → is_among u (variables_of_term (term_of a) ++ variables_of_term (term_of b)) ≡ true
    → names ys u ≡ u) → AllPlain ys (term_of a)
left-plain ys a b h u r e = h u r
    (list_any-append (same_var u) (variables_of_term (term_of a)) (variables_of_term (term_of b))
    ∙ or-left (is_among u (variables_of_term (term_of a)))
    (is_among u (variables_of_term (term_of b))) e)

right-plain : (ys : List Var) (a b : program.Term)
    → ((u : Var) → raised_var u ≡ u
    → is_among u (variables_of_term (term_of a) ++ variables_of_term (term_of b)) ≡ true
    → names ys u ≡ u) → AllPlain ys (term_of b)
right-plain ys a b h u r e = h u r
    (list_any-append (same_var u) (variables_of_term (term_of a)) (variables_of_term (term_of b))
    ∙ or-right (is_among u (variables_of_term (term_of a)))
    (is_among u (variables_of_term (term_of b)))
    e)

-- a term of the program none of whose variables these binders bind is as it is written
plain-term : (ys : List Var) (a : program.Term)
    → AllPlain ys (term_of a) → term_with (naming ys) (term_of a) ≡ term_of a
plain-term ys t.NullNode h = refl
plain-term ys t.NullList h = refl
plain-term ys (t.Int a) h = refl
plain-term ys (t.Str a) h = refl
plain-term ys (t.Bool a) h = refl
plain-term ys (t.Prog x) h =
    ap variable (h (var_of x) refl (or-left (same_var (var_of x) (var_of x)) false
    (same_var-refl (var_of x))))
plain-term ys (t.Logic x) h =
    ap variable (h (logic_var_of x) refl
    (or-left (same_var (logic_var_of x) (logic_var_of x)) false (same_var-refl (logic_var_of x))))
plain-term ys (t.Add' p a q b) h = λ j. sum (plain-term ys a (left-plain ys a b h) j)
    (plain-term ys b (right-plain ys a b h) j)
plain-term ys (t.Sub' p a q b) h = λ j. difference (plain-term ys a (left-plain ys a b h) j)
    (plain-term ys b (right-plain ys a b h) j)
plain-term ys (t.Cat' p a q b) h = λ j. appended (plain-term ys a (left-plain ys a b h) j)
    (plain-term ys b (right-plain ys a b h) j)

-- what takes the place of a variable is as it is written
put-plain : (ys : List Var) (pairs : List Pair)
    → ((u : Var) → raised_var u ≡ u → is_put u (map pair_of pairs) ≡ true → names ys u ≡ u)
    → (v : Var) → names ys v ≡ v
    → term_with (naming ys) (replacing_each (map pair_of pairs) v)
    ≡ replacing_each (map pair_of pairs) v
put-plain ys [] h v e = ap variable e
put-plain ys (pair ∷ pairs) h v e =
    by_test (same_var v (pair_of pair).0) refl
    (put-plain ys pairs
    (λ u r d. h u r (or-right (is_among u (variables_of_term (term_of pair.term)))
    (is_put u (map pair_of pairs)) d)) v e)
  where
    whole : Substitution
    whole = replacing_each (map pair_of (pair ∷ pairs))

    after_it : Substitution
    after_it = replacing_each (map pair_of pairs)

    by_test : (b : Bool) → same_var v (pair_of pair).0 ≡ b
        → term_with (naming ys) (after_it v) ≡ after_it v
        → term_with (naming ys) (whole v) ≡ whole v
    by_test true d f =
        let q : whole v ≡ term_of pair.term =
        replaced-here (pair_of pair).0 v (term_of pair.term) (after_it v) d in
        ap (term_with (naming ys)) q
        ∙ plain-term ys pair.term (λ u r k. h u r
        (or-left (is_among u (variables_of_term (term_of pair.term)))
        (is_put u (map pair_of pairs)) k)) ∙ sym q
    by_test false d f =
        let q : whole v ≡ after_it v =
        replaced-there (pair_of pair).0 v (term_of pair.term) (after_it v) d in
        ap (term_with (naming ys)) q ∙ f ∙ sym q

raised-name : (n : Name) → raised_var (var_named n) ≡ var_named n
raised-name (n.Prog x) = refl
raised-name (n.Logic x) = refl

-- a variable that no binder binds stands for the term that takes its place
pub free-put : (pairs : List Pair) (s : Scopes) (n : Name) (a : program.Term)
    → Apart (map pair_of pairs) s → name_length (var_named n) ≤ limit s
    → became s (var_named n) ≡ None
    → replacing_each (map pair_of pairs) (var_named n) ≡ term_of a
    → below (before s) (replacing_each (map pair_of pairs)) (names (before s) (var_named n))
    ≡ term_with (naming (after s)) (term_of a)
free-put pairs s n a h l e q =
    below-replaced n (before s) (replacing_each (map pair_of pairs)) a plain.0 q
    ∙ sym q ∙ sym (put-plain (after s) pairs (put-named (map pair_of pairs) s h) (var_named n)
    plain.1) ∙ ap (term_with (naming (after s))) q
  where
    plain : Unbound s (var_named n)
    plain = not-became (map pair_of pairs) s h (var_named n) (raised-name n) l e

-- no binder binds a program variable
pub prog-free : (s : Scopes) (x : List ℕ) (u : ValueSort) → became s (prog x u) ≡ None
prog-free (s.Outermost longest) x u = refl
prog-free (s.Kept' y p outer) x u = prog-free outer x u
prog-free (s.Renamed' y z p outer) x u = prog-free outer x u

-- from the walked forms to the nameless ones
pub substituted-nameless : (p q : Named) (f : Substitution)
    → formula_with f (walked [] p) ≡ walked [] q → formula_with f (nameless p) ≡ nameless q
substituted-nameless p q f e = e

pub ruleset put_rules = (put-seen)

pub ruleset bound_rules = (bound-put)

pub ruleset free_rules = (free-put)

pub ruleset prog_rules = (prog-free)

pub ruleset whole_rules = (substituted-nameless)
