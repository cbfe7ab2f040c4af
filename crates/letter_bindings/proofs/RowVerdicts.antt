-- What the walk over a row says of that row alone.
use Rattle.std.proofs.Common.{◌≡◌, zero, suc, refl, sym, ap, subst, ◌∙◌, Bool, true, false, not, cond, ◌&&◌, ◌||◌, inl, inr, ⊎_elim, Option, Some, None, is_some, List, [], ◌∷◌}
use Rattle.std.specs.Prelude.{◌⊎◌}
use Rattle.std.specs.List.{list_all}
use Rattle.model_shapes.proofs.Truth.{false≢true, both_true}
use Rattle.model_shapes.specs.Sorts.{Sort}
use Rattle.model_terms.specs.Terms.{Term, variable}
use Rattle.model_formulas.specs.Formulas.{Formula}
use Rattle.model_formulas.specs.SameFormulas.{formula_eq}
use Rattle.model_formulas.specs.Substitution.{formula_with, closing}
use Rattle.model_commands.specs.Theories.{Judgement}
use Rattle.rule_table.specs.Letters.{Letters, LogicVar, as_logic}
use Rattle.rule_table.specs.Conditions.{side_of}
use Rattle.rule_table.specs.Entries.{Row}
use Rattle.rule_table.specs.Verdicts.{Written, Concludes, Follows, MeetsFirst, MeetsAll, side_at, Verdict, instance_verdict, shape_verdict, premises_verdict, side_verdict}
use Rattle.rule_table.proofs.Decisions.{both_hold}
use Rattle.rule_table.proofs.NewNames.{new_name, new_name-new}
use Rattle.rule_table.proofs.Opening.{opening}
use Rattle.rule_patterns.specs.Letter.{FormulaLetter, DataLetter, P', Q', R', A', B', K', H', E', h', k', j', data_at}
use Rattle.rule_patterns.specs.Patterns.{RequirementPattern, of_sort_p, x_of_sort_p, ConditionPattern, not_free_p, pure_p, LinePattern, condition_of, conditions_of, terms_of, judgement_of, judgements_of, line_of}
use Rattle.letter_bindings.specs.Known.{place_in, data_in, Known, nothing, Says, Agrees, Exact}
use Rattle.letter_bindings.specs.Matching.{match_terms, match_judgement}
use Rattle.letter_bindings.specs.Settled.{settle}
use Rattle.letter_bindings.specs.Choices.{choice, IsBody, IsBodyAt, AllBodies, IsSortedAt, SortIsKnown, IsReady, PutIsReady, IsApart}
use Rattle.letter_bindings.specs.Bodies.{JudgementSorted}
use Rattle.letter_bindings.specs.Lines.{walk_conclusion, walk_premises, requirement_met, condition_met, first_side, verdict_settled, verdict_followed, verdict_concluded, row_verdict}
use Rattle.letter_bindings.proofs.EachLetter.{each-formula, each-term}
use Rattle.letter_bindings.proofs.Closing.{closed-body}
use Rattle.letter_bindings.proofs.OtherVariables.{body-again}
use Rattle.letter_bindings.proofs.WalkedLines.{conclusion-exact, premises-exact}
use Rattle.letter_bindings.proofs.Settling.{each-test, agrees-bodies, settled-agrees, settled-new, settled-one, unsettled}
use Rattle.letter_bindings.proofs.Learnt.{Thing, formula_thing, below_thing, term_thing, x_sort_thing, put_thing, knows, in_terms, in_judgement, in_judgements, Learns, learns-then, learns-terms, learns-judgement, learns-judgements}
use Rattle.letter_bindings.proofs.RowTests.{in_conclusion, at_most_one, condition_ready, conditions_ready, requirements_ready, below_ready, row_ready, Ready, ready-parts}
use Rattle.letter_bindings.proofs.KeptBodies.{Keeps, keeps-then, keeps-terms, keeps-judgement, keeps-judgements}
use Rattle.letter_bindings.proofs.Asked.{EachKnown, all-met, met-all, place_of, as_list, XIs, holds-where, fails-where}

-- THE VERDICT OF ONE ROW, whose first condition is the only one
abbrev pub RowIs : Row → Written → Verdict → Type 0
RowIs row w instance_verdict = (l : Letters) × MeetsAll w (row l)
RowIs row w shape_verdict = (l : Letters) → Concludes w (row l) → ⊥
RowIs row w premises_verdict =
    ((l : Letters) × Concludes w (row l)) × ((l : Letters) → Follows w (row l) → ⊥)
RowIs row w (side_verdict name) =
    ((l : Letters) × (MeetsFirst zero w (row l) × (side_at zero (row l).conditions ≡ Some name)))
    × ((l : Letters) → MeetsFirst (suc zero) w (row l) → ⊥)

-- NOTHING IS KNOWN AT FIRST
no-formula : (a : FormulaLetter) → place_in nothing.formulas a ≡ None
no-formula = each-formula _ (refl, refl, refl, refl, refl, refl, refl)

says-none : {A : Type 0} (o : Option A) (a : A) → o ≡ None → Says o a
says-none None a e = tt
says-none (Some b) a e = absurd cc

-- each choice agrees with that
pub nothing-agrees : (l : Letters) → Agrees l nothing
nothing-agrees l = record {
  formulas = λ a. says-none _ _ (no-formula a);
  belows = λ a. says-none _ _ (no-formula a);
  terms = each-term _ (tt, tt, tt, tt, tt, tt, tt, tt, tt, tt, tt, tt);
  datas = datas;
  sort = tt;
  hole = tt;
  x = tt;
  x_sort = tt;
  put = tt;
}
  where
    datas : (a : DataLetter) → Says (data_in nothing.datas a) (data_at l a)
    datas h' = tt
    datas k' = tt
    datas j' = tt

nothing-bodies : AllBodies nothing
nothing-bodies a = subst (λ o. IsBodyAt None o) (sym (no-formula a)) tt

-- BODIES
body-decided : (s : Sort) (q : Formula) → Dec (IsBody s q)
body-decided s q = by (formula_eq (formula_with (closing (as_logic x)) opened) q)
  where
    x : LogicVar
    x = record { name = new_name q; sort = s }

    opened : Formula
    opened = formula_with (opening (variable (as_logic x))) q

    by : Dec (formula_with (closing (as_logic x)) opened ≡ q) → Dec (IsBody s q)
    by (yes e) = yes (subst (IsBody s) e (closed-body x opened))
    by (no n) = no (λ b. n (body-again x q b (new_name-new q s)))

body-decided-at : (s : Option Sort) (o : Option Formula) → Dec (IsBodyAt s o)
body-decided-at None None = yes tt
body-decided-at (Some s) None = yes tt
body-decided-at None (Some q) = no (λ h. h)
body-decided-at (Some s) (Some q) = body-decided s q

each-decided : (P : FormulaLetter → Type 0) → ((a : FormulaLetter) → Dec (P a))
    → Dec ((a : FormulaLetter) → P a)
each-decided P d = by (both_hold (d P') (both_hold (d Q') (both_hold (d R') (both_hold (d A')
    (both_hold (d B') (both_hold (d K') (d H')))))))
  where
    by : Dec (P P' × (P Q' × (P R' × (P A' × (P B' × (P K' × P H'))))))
        → Dec ((a : FormulaLetter) → P a)
    by (yes h) = yes (each-formula P (
      h.0,
      h.1.0,
      h.1.1.0,
      h.1.1.1.0,
      h.1.1.1.1.0,
      h.1.1.1.1.1.0,
      h.1.1.1.1.1.1,
    ))
    by (no n) =
        no (λ f. n (f P', (f Q', (f R', (f A', (f B', (f K', f H')))))))

bodies-decided : (k : Known) → Dec (AllBodies k)
bodies-decided k = each-decided (λ a. IsBodyAt k.x_sort (place_in k.belows a))
    (λ a. body-decided-at k.x_sort (place_in k.belows a))

-- TESTS
or-true : (b c : Bool) → b ≡ true → (b || c) ≡ true
or-true true c e = refl
or-true false c e = false≢true e

or-later : (b c : Bool) → c ≡ true → (b || c) ≡ true
or-later true c e = refl
or-later false c e = e

or-false : (b c : Bool) → b ≡ false → c ≡ false → (b || c) ≡ false
or-false true c e f = absurd cc
or-false false c e f = f

not-or : (a b c : Bool) → (not (a || b) || c) ≡ true
    → ((a ≡ false) × (b ≡ false)) ⊎ (c ≡ true)
not-or true b c e = inr e
not-or false true c e = inr e
not-or false false c e = inl (refl, refl)

put-ready : (p : Option Formula) (e : Option Term) (q : Option Formula)
    → (is_some q ≡ false) ⊎ ((is_some e ≡ true) × (is_some p ≡ true)) → IsReady p e q
put-ready p e None h = tt
put-ready (Some p) (Some e) (Some q) h = tt
put-ready (Some p) None (Some q) (inl h) = false≢true (sym h)
put-ready (Some p) None (Some q) (inr h) = false≢true h.0
put-ready None e (Some q) (inl h) = false≢true (sym h)
put-ready None e (Some q) (inr h) = false≢true h.1

module _ (p : LinePattern) (r : Ready p) (w : Written) where
  abbrev row : Row
  row l = line_of l p

  -- the arguments and the conclusion are the written ones
  abbrev Matches : Letters → Type 0
  Matches l =
      (terms_of l p.arguments ≡ w.arguments) × (judgement_of l p.conclusion ≡ w.conclusion)

  -- the premises are
  abbrev Cites : Letters → Type 0
  Cites l = Some (judgements_of l p.premises) ≡ w.premises

  -- WHAT THE WALK KNOWS, after the conclusion
  learns-conclusion : (t : Thing) → Learns t (in_conclusion t p) nothing (walk_conclusion p w)
  learns-conclusion t =
      learns-then t (in_terms t p.arguments) (in_judgement t p.conclusion) nothing
      (match_terms p.arguments w.arguments nothing) (match_judgement p.conclusion w.conclusion)
      (learns-terms t p.arguments w.arguments nothing)
      (learns-judgement t p.conclusion w.conclusion)

  keeps-conclusion : JudgementSorted w.conclusion → Keeps nothing (walk_conclusion p w)
  keeps-conclusion s = keeps-then nothing (match_terms p.arguments w.arguments nothing)
      (match_judgement p.conclusion w.conclusion) (keeps-terms p.arguments w.arguments nothing)
      (keeps-judgement p.conclusion w.conclusion (inr s))

  -- and after the premises
  learns-premises : (t : Thing) (js : Option (List Judgement)) (k : Known)
      → Learns t (in_judgements t p.premises) k (walk_premises p js k)
  learns-premises t None k = tt
  learns-premises t (Some js) k = learns-judgements t p.premises js k

  keeps-premises : (js : Option (List Judgement)) (k : Known) → Keeps k (walk_premises p js k)
  keeps-premises None k = tt
  keeps-premises (Some js) k = keeps-judgements p.premises r.unbound js k

  module _ (k : Known) (e : walk_conclusion p w ≡ Some k) where
    k-known : (t : Thing) → knows t k ≡ (in_conclusion t p || knows t nothing)
    k-known t = subst (λ o. Learns t (in_conclusion t p) nothing o) e (learns-conclusion t)

    k-knows : (t : Thing) → in_conclusion t p ≡ true → knows t k ≡ true
    k-knows t i = k-known t ∙ or-true (in_conclusion t p) (knows t nothing) i

    k-bodies : JudgementSorted w.conclusion → AllBodies k
    k-bodies s =
        let b : Keeps nothing (Some k) = subst (λ o. Keeps nothing o) e (keeps-conclusion s) in
        b nothing-bodies

    k-sorted : SortIsKnown k
    k-sorted a = at k.x_sort (place_in k.belows a) (implied (in_conclusion (below_thing a) p)
        (in_conclusion x_sort_thing p) (each-below a) (below-unknown a) (k-known (below_thing a))
        (k-known x_sort_thing))
      where
        below-unknown : (a : FormulaLetter) → knows (below_thing a) nothing ≡ false
        below-unknown a = ap is_some (no-formula a)

        at : (s : Option Sort) (q : Option Formula)
            → (is_some q ≡ true → is_some s ≡ true) → IsSortedAt s q
        at None (Some q) f = false≢true (f refl)
        at (Some s) (Some q) f = tt
        at None None f = tt
        at (Some s) None f = tt

        implied : (b c : Bool) {d f g : Bool} → (not b || c) ≡ true → f ≡ false → d ≡ (b || f)
            → g ≡ (c || false) → d ≡ true → g ≡ true
        implied true true i j h m n = m
        implied true false i j h m n = false≢true i
        implied false c i j h m n = false≢true (sym (h ∙ j) ∙ n)

        each-below : (a : FormulaLetter) → below_ready p a ≡ true
        each-below = each-test (below_ready p) r.belows

    k-ready : PutIsReady k
    k-ready = put-ready k.belows.P k.terms.E k.put (⊎_elim
        (λ h. inl (k-known put_thing ∙ or-false _ _ h.0 refl))
        (λ h. let b : (in_conclusion (term_thing E') p ≡ true)
        × (in_conclusion (below_thing P') p ≡ true) = both_true _ _ h in
        inr (k-knows (term_thing E') b.0, k-knows (below_thing P') b.1))
        (not-or (in_conclusion put_thing p) (in_judgements put_thing p.premises) _ r.put))

    each-known : (rs : List RequirementPattern) → requirements_ready p rs ≡ true → EachKnown k rs
    each-known [] h = tt
    each-known (of_sort_p a ∷ rs) h =
        let b : ((in_conclusion (term_thing a) p && in_conclusion x_sort_thing p) ≡ true)
        × (requirements_ready p rs ≡ true) = both_true _ _ h in
        let c : (in_conclusion (term_thing a) p ≡ true) × (in_conclusion x_sort_thing p ≡ true) =
        both_true _ _ b.0 in
        ((k-knows (term_thing a) c.0, k-knows x_sort_thing c.1), each-known rs b.1)
    each-known (x_of_sort_p ∷ rs) h =
        let b : (in_conclusion x_sort_thing p ≡ true) × (requirements_ready p rs ≡ true) =
        both_true _ _ h in
        (k-knows x_sort_thing b.0, each-known rs b.1)

    -- CHOICES that agree with it conclude
    k-exact : Exact nothing (Some k) Matches
    k-exact = subst (λ o. Exact nothing o Matches) e (conclusion-exact p r.simple w)

    concludes : (l : Letters) → Agrees l k → list_all (requirement_met k) p.requirements ≡ true
        → Concludes w (row l)
    concludes l g m =
        let b : Agrees l nothing × Matches l = (k-exact l).0 g in
        (b.1.0, all-met k l g p.requirements m, b.1.1)

    concluded : (l : Letters) → Concludes w (row l) → Agrees l k
    concluded l c =
        (k-exact l).1 (nothing-agrees l) (c.0, c.2)

    -- some choice agrees with what is settled
    agreed : (n : Known) → AllBodies n → (x : Option LogicVar) → settle n ≡ Some x
        → (o : Option Formula) → (l : Letters) × (Agrees l n × XIs x l.x o)
    agreed n b (Some v) f o = (choice n v, (settled-agrees n v b f, refl))
    agreed n b None f o =
        let h : (y : LogicVar) × Agrees (choice n y) n × IsApart y (as_list o) =
        settled-new n b f (as_list o) in
        (choice n h.0, (h.1, h.2))

    module _ (b : AllBodies k) (m : list_all (requirement_met k) p.requirements ≡ true)
        (some : (l : Letters) × Concludes w (row l)) where
      module _ (n : Known) (f : walk_premises p w.premises k ≡ Some n) where
        n-known : (t : Thing) → knows t n ≡ (in_judgements t p.premises || knows t k)
        n-known t = subst (λ o. Learns t (in_judgements t p.premises) k o) f
            (learns-premises t w.premises k)

        n-knows : (t : Thing) → in_conclusion t p ≡ true → knows t n ≡ true
        n-knows t i = n-known t ∙ or-later (in_judgements t p.premises) (knows t k) (k-knows t i)

        n-bodies : AllBodies n
        n-bodies =
            let c : Keeps k (Some n) = subst (λ o. Keeps k o) f (keeps-premises w.premises k) in
            c b

        n-ready : PutIsReady n
        n-ready = put-ready n.belows.P n.terms.E n.put (⊎_elim
            (λ h. inl (n-known put_thing
            ∙ or-false _ _ h.1 (k-known put_thing ∙ or-false _ _ h.0 refl)))
            (λ h. let b : (in_conclusion (term_thing E') p ≡ true)
            × (in_conclusion (below_thing P') p ≡ true) = both_true _ _ h in
            inr (n-knows (term_thing E') b.0, n-knows (below_thing P') b.1))
            (not-or (in_conclusion put_thing p) (in_judgements put_thing p.premises) _ r.put))

        n-exact : Exact k (Some n) Cites
        n-exact = subst (λ o. Exact k o Cites) f (premises-exact p r.simple w.premises k)

        follows : (l : Letters) → Agrees l n → Follows w (row l)
        follows l g =
            let b : Agrees l k × Cites l = (n-exact l).0 g in
            (concludes l b.0 m, b.1)

        followed : (l : Letters) → Follows w (row l) → Agrees l n
        followed l h =
            (n-exact l).1 (concluded l h.0) h.1

        known-place : (c : ConditionPattern) → condition_ready p c ≡ true
            → is_some (place_of n c) ≡ true
        known-place (not_free_p a) h = n-knows (formula_thing a) h
        known-place (pure_p a) h = n-knows (formula_thing a) h

        -- the condition, if there is one
        module _ (x : Option LogicVar) (g : settle n ≡ Some x) where
          one-x : (l : Letters) → Agrees l n → (v : LogicVar) → x ≡ Some v → l.x ≡ v
          one-x l a v i = settled-one n v (g ∙ ap Some i) l a

          side-is : (c : ConditionPattern) (l : Letters)
              → Some (side_of (condition_of l c)) ≡ Some (first_side (c ∷ []))
          side-is (not_free_p a) l = refl
          side-is (pure_p a) l = refl

          by-condition : (cs : List ConditionPattern) → at_most_one cs ≡ true
              → conditions_ready p cs ≡ true
              → RowIs (λ l. record (row l) { conditions = conditions_of l cs }) w
              (cond (list_all (condition_met x n) cs) instance_verdict
              (side_verdict (first_side cs)))
          by-condition [] i j =
              let a : (l : Letters) × (Agrees l n × XIs x l.x None) = agreed n n-bodies x g None in
              (a.0, (follows a.0 a.1.0, tt))
          by-condition (c ∷ d ∷ cs) i j = false≢true i
          by-condition (c ∷ []) i j = by (condition_met x n c) refl
            where
              ready : condition_ready p c ≡ true
              ready = (both_true _ _ j).0

              found : (l : Letters) × (Agrees l n × XIs x l.x (place_of n c))
              found = agreed n n-bodies x g (place_of n c)

              by : (b : Bool) → condition_met x n c ≡ b
                  → RowIs (λ l. record (row l) { conditions = conditions_of l (c ∷ []) }) w
                  (cond (b && true) instance_verdict (side_verdict (first_side (c ∷ []))))
              by true h = (
                found.0,
                (
                  follows found.0 found.1.0,
                  (holds-where n x found.0 found.1.0 c found.1.1 (known-place c ready) h, tt),
                ),
              )
              by false h = (
                (found.0, ((follows found.0 found.1.0, tt), side-is c found.0)),
                λ l z. fails-where n x l (followed l z.0) c (one-x l (followed l z.0)) h z.1.0,
              )

        by-settled : (o : Option (Option LogicVar)) → settle n ≡ o
            → RowIs row w (verdict_settled p n o)
        by-settled None g = (some, λ l h. unsettled n g n-ready l (followed l h))
        by-settled (Some x) g = by-condition x g p.conditions r.one r.conditions

      by-premises : (o : Option Known) → walk_premises p w.premises k ≡ o
          → RowIs row w (verdict_followed p o)
      by-premises None f = (
        some,
        λ l h. subst (λ o. Exact k o Cites) f (premises-exact p r.simple w.premises k) l
            (concluded l h.0) h.1,
      )
      by-premises (Some n) f = by-settled n f (settle n) refl

    by-requirements : AllBodies k → (c : Bool) → list_all (requirement_met k) p.requirements ≡ c
        → (o : Option (Option LogicVar)) → settle k ≡ o
        → RowIs row w
        (cond (c && is_some o) (verdict_followed p (walk_premises p w.premises k)) shape_verdict)
    by-requirements b false m o g = λ l c. false≢true
        (sym m ∙ met-all k l (concluded l c) p.requirements
        (each-known p.requirements r.requirements) c.1)
    by-requirements b true m None g = λ l c. unsettled k g k-ready l (concluded l c)
    by-requirements b true m (Some x) g =
        let a : (l : Letters) × (Agrees l k × XIs x l.x None) = agreed k b x g None in
        by-premises b m (a.0, concludes a.0 a.1.0 m) (walk_premises p w.premises k) refl

    by-bodies : AllBodies k → RowIs row w (verdict_concluded p w (Some k))
    by-bodies b =
        by-requirements b (list_all (requirement_met k) p.requirements) refl (settle k) refl

  no-shape : walk_conclusion p w ≡ None → RowIs row w shape_verdict
  no-shape e l c = subst (λ o. Exact nothing o Matches) e (conclusion-exact p r.simple w) l
      (nothing-agrees l) (c.0, c.2)

  by-conclusion : JudgementSorted w.conclusion → (o : Option Known) → walk_conclusion p w ≡ o
      → RowIs row w (verdict_concluded p w o)
  by-conclusion s None e = no-shape e
  by-conclusion s (Some k) e = by-bodies k e (k-bodies k e s)

  -- without that the verdict is found by looking at the bodies too
  looked : (o : Option Known) → walk_conclusion p w ≡ o → (v : Verdict) × RowIs row w v
  looked None e = (shape_verdict, no-shape e)
  looked (Some k) e = by (bodies-decided k)
    where
      by : Dec (AllBodies k) → (v : Verdict) × RowIs row w v
      by (yes b) = (verdict_concluded p w (Some k), by-bodies k e b)
      by (no n) = (
        shape_verdict,
        λ l c. n (agrees-bodies k l (concluded k e l c) (k-sorted k e)),
      )

pub row-verdict-is : (p : LinePattern) → row_ready p ≡ true → (w : Written)
    → JudgementSorted w.conclusion → RowIs (λ l. line_of l p) w (row_verdict p w)
row-verdict-is p e w s = by-conclusion p (ready-parts p e) w s (walk_conclusion p w) refl

pub row-has-verdict : (p : LinePattern) → row_ready p ≡ true → (w : Written)
    → (v : Verdict) × RowIs (λ l. line_of l p) w v
row-has-verdict p e w = looked p (ready-parts p e) w (walk_conclusion p w) refl
