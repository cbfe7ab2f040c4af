-- The verdict by the rows linear is the one that is computed.
use Rattle.std.proofs.Common.{◌≡◌, ◌∙◌, refl, sym, ap, subst, List, [], ◌∷◌, Option, Some, None, Bool, true, false, ◌&&◌, codes, cond, append-nil}
use Rattle.std.specs.List.{list_all}
use Rattle.model_shapes.proofs.Truth.{false≢true}
use Rattle.model_shapes.specs.Sorts.{Sort, value, int_sort}
use Rattle.model_shapes.specs.Values.{null}
use Rattle.model_terms.specs.Terms.{Term, literal}
use Rattle.model_terms.specs.TermSorts.{has_sort}
use Rattle.model_formulas.specs.Formulas.{Formula, equality, at_most, falsity}
use Rattle.model_commands.specs.Theories.{Judgement, entails, triple}
use Rattle.rule_table.specs.Letters.{Letters}
use Rattle.rule_table.specs.Conditions.{TermAt, tested, coefficient_side, sum_side}
use Rattle.rule_table.specs.Entries.{Row}
use Rattle.rule_table.specs.Entailments as Te
use Rattle.rule_table.specs.Linear as model
use Rattle.rule_table.specs.Linear.{Weighed, comparisons, numbers, rest, at_least_zero, is_zero, below_zero}
use Rattle.rule_table.specs.Lines.{Line}
use Rattle.rule_table.specs.Verdicts as model_verdict
use Rattle.rule_table.specs.Verdicts.{Concludes, IsVerdict, shape_verdict, instance_verdict, side_verdict}
use Rattle.rule_table.proofs.Decisions.{test_holds, kind_of}
use Rattle.rule_table.proofs.Determined.{Determined}
use Rattle.rule_table.proofs.LinearVerdicts.{weighed-each, by_order, by_equation, by_false, not_sorted, not_another, no_triple}
use Rattle.rule_table.proofs.SomeLetters.{readings_of, a_step, left_in, plain_letters}
use Rattle.computed_rules.specs.Linear.{Comparison, Reading, read, is_integral, is_equation, total, by_sum, by_conclusion, by_numbers, by_reading, linear_verdict}
use Rattle.computed_rules.proofs.Decided.{no-line, says-test, verdict-two}
use Rattle.computed_rules.proofs.LinearLaws.{listed, Found, Ints, read-all, read-found, fair-listed, equations-listed, total-listed, listed-ints, ints-listed}

abbrev rows : List Row
rows = readings_of (codes "linear")

-- two conditions that are tests
two-tested : (ts : List Term) (j : Judgement) (line : Line) (fair gives : Bool)
    → Determined rows (a_step ts [] j)
    (record line {
      premises = [];
      conditions = tested coefficient_side fair ∷ tested sum_side gives ∷ [];
    })
    → IsVerdict rows (a_step ts [] j)
    (cond fair (cond gives instance_verdict (side_verdict sum_side))
    (side_verdict coefficient_side))
two-tested ts j line fair gives d =
    subst
    (λ (z : Bool × Bool). IsVerdict rows (a_step ts [] j)
    (cond z.0 (cond z.1 instance_verdict (side_verdict sum_side))
    (side_verdict coefficient_side)))
    (λ i. (says-test fair i, says-test gives i))
    (verdict-two rows (a_step ts [] j) line.arguments line.requirements line.conclusion refl
    (tested coefficient_side fair) (tested sum_side gives) d (test_holds fair) (test_holds gives))

module _ (ts : List Term) (p q : Formula) (s : Sort) where
  abbrev Is : model_verdict.Verdict → Type 0
  Is v = IsVerdict rows (a_step ts [] (entails p q s)) v

  -- where no tree of comparisons is read, no choice concludes
  unread : ((w : Weighed) → comparisons w ≡ p → numbers w ≡ ts → Ints (model.sides w) → ⊥)
      → Is shape_verdict
  unread n =
      no-line rows (a_step ts [] (entails p q s)) (
        (λ l c. n l.W (ap left_in c.2) c.0 c.1),
        (
          (λ l c. n l.W (ap left_in c.2) c.0 c.1.1.1),
          ((λ l c. n l.W (ap left_in c.2) c.0 c.1), tt),
        ),
      )

  -- where one is, of comparisons of integers
  module _ (w : Weighed) (e : comparisons w ≡ p) (n : numbers w ≡ ts) (ints : Ints (model.sides w))
    where
      abbrev chosen : Term → Term → Letters
      chosen a b = record plain_letters { W = w; E = a; F = b; s = s }

      sum-is : (gives gives' : Bool) → gives ≡ gives'
          → Is (cond (model.are_fair w) (cond gives instance_verdict (side_verdict sum_side))
          (side_verdict coefficient_side))
          → Is (by_sum (listed w) gives')
      sum-is gives gives' g h =
          subst Is
          (λ i. cond (sym (fair-listed w) i) (cond (g i) instance_verdict (side_verdict sum_side))
          (side_verdict coefficient_side)) h

      rest-is : (a b : Term) → rest a b (model.sum_of w) ≡ rest a b (total (listed w))
      rest-is a b = ap (rest a b) (sym (total-listed w))

      ordered : (a b : Term) → q ≡ at_most a b
          → Is (by_sum (listed w) (at_least_zero (rest a b (total (listed w)))))
      ordered a b h =
          sum-is (at_least_zero (rest a b (model.sum_of w)))
          (at_least_zero (rest a b (total (listed w)))) (ap at_least_zero (rest-is a b))
          (two-tested ts (entails p q s) (Te.linear_order (chosen a b)) (model.are_fair w)
          (at_least_zero (rest a b (model.sum_of w)))
          (by_order ts (Some []) p q s w (weighed-each w p ts e n) ints a b h))

      equated : (a b : Term) → q ≡ equality a b → TermAt (value int_sort) a
          → TermAt (value int_sort) b
          → Is (by_sum (listed w)
          (is_zero (rest a b (total (listed w))) && list_all is_equation (listed w)))
      equated a b h ta tb =
          sum-is (is_zero (rest a b (model.sum_of w)) && model.equations_alone w)
          (is_zero (rest a b (total (listed w))) && list_all is_equation (listed w))
          (λ i. is_zero (rest-is a b i) && sym (equations-listed w) i)
          (two-tested ts (entails p q s) (Te.linear_equation (chosen a b)) (model.are_fair w)
          (is_zero (rest a b (model.sum_of w)) && model.equations_alone w)
          (by_equation ts (Some []) p q s w (weighed-each w p ts e n) ints a b h ta tb))

      refuting : q ≡ falsity → Is (by_sum (listed w) (below_zero (total (listed w))))
      refuting h =
          sum-is (below_zero (model.sum_of w)) (below_zero (total (listed w)))
          (ap below_zero (sym (total-listed w)))
          (two-tested ts (entails p q s) (Te.linear_false (chosen (literal null) (literal null)))
          (model.are_fair w) (below_zero (model.sum_of w))
          (by_false ts (Some []) p q s w (weighed-each w p ts e n) ints h))

      by_sorts : (a b : Term) → q ≡ equality a b → (x y : Bool) → has_sort int_sort a ≡ x
          → has_sort int_sort b ≡ y
          → Is (cond (x && y)
          (by_sum (listed w)
          (is_zero (rest a b (total (listed w))) && list_all is_equation (listed w)))
          shape_verdict)
      by_sorts a b h true true f g = equated a b h f g
      by_sorts a b h false y f g =
          no-line rows (a_step ts [] (entails p q s))
          (not_sorted ts (Some []) p q s w (weighed-each w p ts e n) ints a b h
          (λ ta tb. false≢true (sym f ∙ ta)))
      by_sorts a b h true false f g =
          no-line rows (a_step ts [] (entails p q s))
          (not_sorted ts (Some []) p q s w (weighed-each w p ts e n) ints a b h
          (λ ta tb. false≢true (sym g ∙ tb)))

      concluded : (r : Formula) → q ≡ r → Is (by_conclusion (listed w) r)
      concluded (at_most a b) h = ordered a b h
      concluded (equality a b) h =
          by_sorts a b h (has_sort int_sort a) (has_sort int_sort b) refl refl
      concluded falsity h = refuting h
      concluded r h =
          no-line rows (a_step ts [] (entails p q s))
          (not_another ts (Some []) p q s w (weighed-each w p ts e n) ints (ap kind_of h))

  -- the only tree of them
  same-tree : (cs : List Comparison) (us : List Term) (w : Weighed) → read [] p ts ≡ Some (cs, us)
      → comparisons w ≡ p → numbers w ≡ ts → (listed w ≡ cs) × ([] ≡ us)
  same-tree cs us w h e n =
      let found : ◌≡◌ {A = Option Reading} (Some (listed w, [])) (Some (cs, us)) =
      sym (read-all w [] []) ∙ (λ i. read [] (e i) ((append-nil (numbers w) ∙ n) i)) ∙ h in
      let same : ◌≡◌ {A = Reading} (listed w, []) (cs, us) = cc in
      (ap (λ (z : Reading). z.0) same, ap (λ (z : Reading). z.1) same)

  integral : (cs : List Comparison) → read [] p ts ≡ Some (cs, []) → (b : Bool)
      → list_all is_integral cs ≡ b → Is (cond b (by_conclusion cs q) shape_verdict)
  integral cs h false i =
      unread (λ w e n ints. false≢true
      (sym i ∙ ap (list_all is_integral) (sym (same-tree cs [] w h e n).0) ∙ ints-listed w ints))
  integral cs h true i =
      let f : Found [] p ts (cs, []) = read-found [] p ts (cs, []) h in
      subst (λ ds. Is (by_conclusion ds q)) f.behind
      (concluded f.tree f.formula (sym (append-nil (numbers f.tree)) ∙ f.arguments)
      (listed-ints f.tree (ap (list_all is_integral) f.behind ∙ i)) q refl)

  by_rest : (cs : List Comparison) (us : List Term) → read [] p ts ≡ Some (cs, us)
      → Is (by_numbers cs us q)
  by_rest cs [] h = integral cs h (list_all is_integral cs) refl
  by_rest cs (t ∷ us) h =
      unread (λ w e n ints.
      let k : [] ≡ t ∷ us = (same-tree cs (t ∷ us) w h e n).1 in absurd cc)

  by_read : (o : Option Reading) → read [] p ts ≡ o → Is (by_reading o q)
  by_read None h =
      unread (λ w e n ints.
      let found : ◌≡◌ {A = Option Reading} (Some (listed w, [])) None =
      sym (read-all w [] []) ∙ (λ i. read [] (e i) ((append-nil (numbers w) ∙ n) i)) ∙ h in
      absurd cc)
  by_read (Some r) h = by_rest r.0 r.1 h

pub linear-is : (ts : List Term) (j : Judgement)
    → IsVerdict (readings_of (codes "linear")) (a_step ts [] j) (linear_verdict ts j)
linear-is ts (entails p q s) = by_read ts p q s (read [] p ts) refl
linear-is ts (triple p c q d) =
    no-line rows (a_step ts [] (triple p c q d)) (no_triple p c q d ts (Some []))
