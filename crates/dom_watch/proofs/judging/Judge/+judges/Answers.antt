use Rattle.std.proofs.Common.{◌≡◌, ◌∙◌, rules, arith, inr, ⊎_elim, ap, sym, subst, Ok, true, false, length}
use Rattle.model_formulas.specs.Formulas.{conjunction, disjunction, implication, negation, node_formula, one_tree, one_root, grove_sum}
use Rattle.model_watch.specs.Watchable as model
use Rattle.dom_terms.specs.Terms.{logic_var_of, term_of}
use Rattle.dom_terms.specs.Stores.{store_of}
use Rattle.formula_syntax.specs.Formulas.{formula_of}
use Rattle.dom_watch.specs.Rows.{Shows}
use Rattle.dom_watch.specs.Judged.{Tells, others_at, IsRest}
use Rattle.dom_watch.proofs.Cuts.{front, back, one_at, all_but, shown_front, shown_back, shown_one, shown_others}
use Rattle.dom_watch.proofs.Connected.{and_on, and_off, or_on, or_off, implies_on, implies_off, some_on, some_found, some_none, cut_on, cut_found, cut_none, root_on, root_found, root_none, both_false_first, both_false_second, both_true}
use Rattle.dom_watch.proofs.Single.{denied, node_on, alone, kids_shown, tree_on, root_on as one_root_on, plus_on, plus_off, length_on}
use Rattle.dom_watch.proofs.judging.Judge.+judges.Goals as goal
use Rattle.dom_watch.proofs.judging.Judge.+judges.Goals.{judges_root-then-branch+in_ok-leave_out+in_ok-judges-2+else-branch-2, judges_root-else-branch}

pub judges-returns-in-true : goal.judges-returns-in-true
judges-returns-in-true t c =
    let a = ap formula_of c.in-And.is in
    let is : formula_of c.args.formula.now
    ≡ conjunction (formula_of c.deref.result.now) (formula_of c.deref-in-true.result.now) = cc in
    and_on c.args.self.now.rows.now (store_of c.args.self.now.store.now) c.args.bindings.now
    (formula_of c.deref.result.now) (formula_of c.deref-in-true.result.now)
    (formula_of c.args.formula.now) c.args.trees.now c.in_ok-judges-in-And.field-0
    c.judges-in-true.result is
    c.in-true.is c.in_ok-judges-in-And.ensures c.judges-in-true.ensures

pub judges-returns-in-false : goal.judges-returns-in-false
judges-returns-in-false t c =
    let a = ap formula_of c.in-And.is in
    let is : formula_of c.args.formula.now
    ≡ conjunction (formula_of c.deref.result.now) (formula_of c.in-And.q.value) = cc in
    and_off c.args.self.now.rows.now (store_of c.args.self.now.store.now) c.args.bindings.now
    (formula_of c.deref.result.now) (formula_of c.in-And.q.value)
    (formula_of c.args.formula.now) c.args.trees.now c.in_ok-judges-in-And.field-0 (Ok false) is
    c.in-false.is c.in_ok-judges-in-And.ensures

pub judges-returns-in-true-2 : goal.judges-returns-in-true-2
judges-returns-in-true-2 t c =
    let a = ap formula_of c.in-Or.is in
    let is : formula_of c.args.formula.now
    ≡ disjunction (formula_of c.deref-in-Or.result.now) (formula_of c.in-Or.q.value) = cc in
    or_off c.args.self.now.rows.now (store_of c.args.self.now.store.now) c.args.bindings.now
    (formula_of c.deref-in-Or.result.now) (formula_of c.in-Or.q.value)
    (formula_of c.args.formula.now) c.args.trees.now c.in_ok-judges-in-Or.field-0 (Ok true) is
    c.in-true-2.is c.in_ok-judges-in-Or.ensures

pub judges-returns-in-false-2 : goal.judges-returns-in-false-2
judges-returns-in-false-2 t c =
    let a = ap formula_of c.in-Or.is in
    let is : formula_of c.args.formula.now
    ≡ disjunction (formula_of c.deref-in-Or.result.now)
    (formula_of c.deref-in-false-2.result.now) = cc in
    or_on c.args.self.now.rows.now (store_of c.args.self.now.store.now) c.args.bindings.now
    (formula_of c.deref-in-Or.result.now) (formula_of c.deref-in-false-2.result.now)
    (formula_of c.args.formula.now) c.args.trees.now c.in_ok-judges-in-Or.field-0
    c.judges-in-false-2.result is
    c.in-false-2.is c.in_ok-judges-in-Or.ensures c.judges-in-false-2.ensures

pub judges-returns-in-true-3 : goal.judges-returns-in-true-3
judges-returns-in-true-3 t c =
    let a = ap formula_of c.in-Imp.is in
    let is : formula_of c.args.formula.now
    ≡ implication (formula_of c.deref-in-Imp.result.now)
    (formula_of c.deref-in-true-3.result.now) = cc in
    implies_on c.args.self.now.rows.now (store_of c.args.self.now.store.now) c.args.bindings.now
    (formula_of c.deref-in-Imp.result.now) (formula_of c.deref-in-true-3.result.now)
    (formula_of c.args.formula.now) c.args.trees.now c.in_ok-judges-in-Imp.field-0
    c.judges-in-true-3.result is
    c.in-true-3.is c.in_ok-judges-in-Imp.ensures c.judges-in-true-3.ensures

pub judges-returns-in-false-3 : goal.judges-returns-in-false-3
judges-returns-in-false-3 t c =
    let a = ap formula_of c.in-Imp.is in
    let is : formula_of c.args.formula.now
    ≡ implication (formula_of c.deref-in-Imp.result.now) (formula_of c.in-Imp.q.value) = cc in
    implies_off c.args.self.now.rows.now (store_of c.args.self.now.store.now) c.args.bindings.now
    (formula_of c.deref-in-Imp.result.now) (formula_of c.in-Imp.q.value)
    (formula_of c.args.formula.now) c.args.trees.now c.in_ok-judges-in-Imp.field-0 (Ok true) is
    c.in-false-3.is c.in_ok-judges-in-Imp.ensures

pub judges-judges-requires-in-true-4 : goal.judges-judges-requires-in-true-4
judges-judges-requires-in-true-4 t c =
    let row = alone c.args.trees.now c.row-item.result c.in-len1.len_at_least c.in-len1.len_below
    c.row-item.is in (
      search rules,
      (
        search rules,
        kids_shown c.args.self.now.rows.now c.row-item.result
            c.requires.shown.0 (subst (λ rs. Shows c.args.self.now.rows.now rs c.requires.shown.0)
            row
            c.requires.shown.1),
      ),
    )

pub judges-returns-in_ok-judges-in-Not : goal.judges-returns-in_ok-judges-in-Not
judges-returns-in_ok-judges-in-Not t c =
    let a = ap formula_of c.in-Not.is in
    let is : formula_of c.args.formula.now ≡ negation (formula_of c.deref-in-Not.result.now) = cc in
    denied c.args.self.now.rows.now (store_of c.args.self.now.store.now) c.args.bindings.now
    (formula_of c.deref-in-Not.result.now) (formula_of c.args.formula.now) c.args.trees.now
    c.in_ok-judges-in-Not.field-0 is c.in_ok-judges-in-Not.ensures

pub judges-returns-in-true-4 : goal.judges-returns-in-true-4
judges-returns-in-true-4 t c =
    let row = alone c.args.trees.now c.row-item.result c.in-len1.len_at_least c.in-len1.len_below
    c.row-item.is in
    let a = ap formula_of c.in-Node.is in
    let is : formula_of c.args.formula.now ≡ node_formula (term_of c.in-Node.name)
    (term_of c.in-Node.number) (formula_of c.deref-in-true-4.result.now) (term_of c.in-Node.list) =
    cc in
    subst (λ rs. Tells c.args.self.now.rows.now (store_of c.args.self.now.store.now)
    c.args.bindings.now
    (formula_of c.args.formula.now) rs c.judges-in-true-4.result) (sym row)
    (node_on c.args.self.now.rows.now (store_of c.args.self.now.store.now) c.args.bindings.now
    (term_of c.in-Node.name) (term_of c.in-Node.number) (term_of c.in-Node.list)
    (formula_of c.deref-in-true-4.result.now) (formula_of c.args.formula.now) is
    c.row-item.result c.in_ok-is_called-in-len1.field-0 c.judges-in-true-4.result c.in-true-4.is
    c.in_ok-is_called-in-len1.ensures c.judges-in-true-4.ensures)

pub judges-returns-in-Plus : goal.judges-returns-in-Plus
judges-returns-in-Plus t c =
    let a = ap formula_of c.in-Plus.is in
    let is : formula_of c.args.formula.now ≡ grove_sum (formula_of c.deref-in-Plus.result.now)
    (formula_of c.deref-in-Plus-2.result.now) = cc in
    let r : model.is_root (formula_of c.deref-in-Plus.result.now) ≡ true = cc in
    plus_on c.args.self.now.rows.now (store_of c.args.self.now.store.now) c.args.bindings.now
    c.args.trees.now
    c.judges_root.result (formula_of c.deref-in-Plus.result.now)
    (formula_of c.deref-in-Plus-2.result.now) (formula_of c.args.formula.now) is r
    c.judges_root.ensures

pub judges-returns-in-Plus-2 : goal.judges-returns-in-Plus-2
judges-returns-in-Plus-2 t c =
    let a = ap formula_of c.in-Plus-2.is in
    let is : formula_of c.args.formula.now ≡ grove_sum (formula_of c.deref-in-Plus-2-3.result.now)
    (formula_of c.deref-in-Plus-2-2.result.now) = cc in
    let r : model.is_root (formula_of c.deref-in-Plus-2-3.result.now) ≡ false = cc in
    plus_off c.args.self.now.rows.now (store_of c.args.self.now.store.now) c.args.bindings.now
    c.args.trees.now
    c.judges_root-in-Plus-2.result (formula_of c.deref-in-Plus-2-3.result.now)
    (formula_of c.deref-in-Plus-2-2.result.now) (formula_of c.args.formula.now) is r
    c.judges_root-in-Plus-2.ensures

pub judges-returns-in-Len : goal.judges-returns-in-Len
judges-returns-in-Len t c =
    length_on c.args.self.now.rows.now (store_of c.args.self.now.store.now) c.args.bindings.now
    c.args.trees.now
    c.is_length.result (term_of c.in-Len.length) (formula_of c.args.formula.now)
    (ap formula_of c.in-Len.is) c.is_length.ensures

pub judges-returns-in-len1-trees : goal.judges-returns-in-len1-trees
judges-returns-in-len1-trees t c =
    let one : length c.args.trees.now ≡ 1 = omega arith in
    ⊎_elim
    (λ e. let is : formula_of c.args.formula.now
    ≡ one_tree (formula_of c.deref-in-len1-trees.result.now) = let a = ap formula_of e in cc in
    subst (λ m. Tells c.args.self.now.rows.now (store_of c.args.self.now.store.now)
    c.args.bindings.now m
    c.args.trees.now c.judges-in-len1-trees.result) (sym is)
    (tree_on c.args.self.now.rows.now (store_of c.args.self.now.store.now) c.args.bindings.now
    (formula_of c.deref-in-len1-trees.result.now) c.args.trees.now c.judges-in-len1-trees.result
    one c.judges-in-len1-trees.ensures))
    (λ e. let is : formula_of c.args.formula.now
    ≡ one_root (formula_of c.deref-in-len1-trees.result.now) = let a = ap formula_of e in cc in
    subst (λ m. Tells c.args.self.now.rows.now (store_of c.args.self.now.store.now)
    c.args.bindings.now m
    c.args.trees.now c.judges-in-len1-trees.result) (sym is)
    (one_root_on c.args.self.now.rows.now (store_of c.args.self.now.store.now) c.args.bindings.now
    (formula_of c.deref-in-len1-trees.result.now) c.args.trees.now c.judges-in-len1-trees.result
    one c.judges-in-len1-trees.ensures)) c.in-One.is

pub judges_cut-judges-requires : goal.judges_cut-judges-requires
judges_cut-judges-requires t c = (
  search rules,
  (
    c.requires.ready.0,
    (
      front c.loop-cut.cut c.requires.shown.0,
      subst (λ rs. Shows c.args.self.now.rows.now rs (front c.loop-cut.cut c.requires.shown.0))
          (sym c.split_at.ensures.front) (shown_front c.args.self.now.rows.now c.args.trees.now
          c.requires.shown.0 c.loop-cut.cut c.requires.shown.1),
    ),
  ),
)

pub judges_cut-judges-requires-in-loop-cut : goal.judges_cut-judges-requires-in-loop-cut
judges_cut-judges-requires-in-loop-cut t c = (
  search rules,
  (
    c.requires.ready.1,
    (
      back c.loop-cut.cut c.requires.shown.0,
      subst (λ rs. Shows c.args.self.now.rows.now rs (back c.loop-cut.cut c.requires.shown.0))
          (sym c.split_at.ensures.back) (shown_back c.args.self.now.rows.now c.args.trees.now
          c.requires.shown.0 c.loop-cut.cut c.requires.shown.1),
    ),
  ),
)

pub judges_cut-loop-cut-preserved-then-not-branch :
    goal.judges_cut-loop-cut-preserved-then-not-branch
judges_cut-loop-cut-preserved-then-not-branch t c =
    cut_on c.args.self.now.rows.now (store_of c.args.self.now.store.now) c.args.bindings.now
    (formula_of c.args.left.now) (formula_of c.args.right.now) c.args.trees.now c.loop-cut.cut
    (λ f h. both_false_first _ _ (sym c.if-not-branch.true
    ∙ c.in_ok-judges.ensures (front c.loop-cut.cut f)
    (subst (λ rs. Shows c.args.self.now.rows.now rs (front c.loop-cut.cut f))
    (sym c.split_at.ensures.front) (shown_front c.args.self.now.rows.now c.args.trees.now f
    c.loop-cut.cut h)))) c.loop-cut.invariant

pub judges_cut-returns-then-branch : goal.judges_cut-returns-then-branch
judges_cut-returns-then-branch t c =
    cut_found c.args.self.now.rows.now (store_of c.args.self.now.store.now) c.args.bindings.now
    (formula_of c.args.left.now) (formula_of c.args.right.now) c.args.trees.now c.loop-cut.cut
    (omega arith)
    (λ f h. both_true _ _ (sym c.if-not-branch.false
    ∙ c.in_ok-judges.ensures (front c.loop-cut.cut f)
    (subst (λ rs. Shows c.args.self.now.rows.now rs (front c.loop-cut.cut f))
    (sym c.split_at.ensures.front) (shown_front c.args.self.now.rows.now c.args.trees.now f
    c.loop-cut.cut h)))
    (sym c.if-branch.true ∙ c.in_ok-judges-2.ensures (back c.loop-cut.cut f)
    (subst (λ rs. Shows c.args.self.now.rows.now rs (back c.loop-cut.cut f))
    (sym c.split_at.ensures.back) (shown_back c.args.self.now.rows.now c.args.trees.now f
    c.loop-cut.cut h))))

pub judges_cut-loop-cut-preserved : goal.judges_cut-loop-cut-preserved
judges_cut-loop-cut-preserved t c =
    cut_on c.args.self.now.rows.now (store_of c.args.self.now.store.now) c.args.bindings.now
    (formula_of c.args.left.now) (formula_of c.args.right.now) c.args.trees.now c.loop-cut.cut
    (λ f h. both_false_second _ _ (sym c.if-not-branch.false
    ∙ c.in_ok-judges.ensures (front c.loop-cut.cut f)
    (subst (λ rs. Shows c.args.self.now.rows.now rs (front c.loop-cut.cut f))
    (sym c.split_at.ensures.front) (shown_front c.args.self.now.rows.now c.args.trees.now f
    c.loop-cut.cut h)))
    (sym c.if-branch.false ∙ c.in_ok-judges-2.ensures (back c.loop-cut.cut f)
    (subst (λ rs. Shows c.args.self.now.rows.now rs (back c.loop-cut.cut f))
    (sym c.split_at.ensures.back) (shown_back c.args.self.now.rows.now c.args.trees.now f
    c.loop-cut.cut h)))) c.loop-cut.invariant

pub judges_cut-returns : goal.judges_cut-returns
judges_cut-returns t c =
    cut_none c.args.self.now.rows.now (store_of c.args.self.now.store.now) c.args.bindings.now
    (formula_of c.args.left.now) (formula_of c.args.right.now) c.args.trees.now c.loop-cut.cut
    (omega arith) c.loop-cut.invariant

pub judges_root-judges-requires : goal.judges_root-judges-requires
judges_root-judges-requires t c = (
  search rules,
  (
    c.requires.root,
    (
      one_at c.loop-place.place c.requires.shown.0,
      shown_one c.args.self.now.rows.now c.args.trees.now c.requires.shown.0 c.loop-place.place
          c.loop-place-test.true c.requires.shown.1,
    ),
  ),
)

pub judges_root-judges-requires-then-branch : goal.judges_root-judges-requires-then-branch
judges_root-judges-requires-then-branch t c = (
  search rules,
  (
    c.requires.others,
    (
      all_but c.loop-place.place c.requires.shown.0,
      subst (λ rs. Shows c.args.self.now.rows.now rs
          (all_but c.loop-place.place c.requires.shown.0))
          (sym (c.deref.ensures.value ∙ c.in_ok-leave_out.ensures))
          (shown_others c.args.self.now.rows.now c.args.trees.now c.requires.shown.0
          c.loop-place.place c.loop-place-test.true c.requires.shown.1),
    ),
  ),
)

pub judges_root-returns-then-branch-2 : goal.judges_root-returns-then-branch-2
judges_root-returns-then-branch-2 t c =
    root_found c.args.self.now.rows.now (store_of c.args.self.now.store.now) c.args.bindings.now
    (formula_of c.args.root.now) (formula_of c.args.others.now) c.args.trees.now
    c.loop-place.place c.loop-place-test.true
    (λ f h. both_true _ _ (sym c.if-branch.true ∙ c.in_ok-judges.ensures
    (one_at c.loop-place.place f) (shown_one c.args.self.now.rows.now c.args.trees.now f
    c.loop-place.place c.loop-place-test.true h))
    (sym c.if-branch-2.true ∙ c.in_ok-judges-2.ensures (all_but c.loop-place.place f)
    (subst (λ rs. Shows c.args.self.now.rows.now rs (all_but c.loop-place.place f))
    (sym (c.deref.ensures.value ∙ c.in_ok-leave_out.ensures))
    (shown_others c.args.self.now.rows.now c.args.trees.now f c.loop-place.place
    c.loop-place-test.true h))))

pub judges_root-loop-place-preserved : goal.judges_root-loop-place-preserved
judges_root-loop-place-preserved t c = record {
  none_before =
      root_on c.args.self.now.rows.now (store_of c.args.self.now.store.now) c.args.bindings.now
      (formula_of c.args.root.now) (formula_of c.args.others.now) c.args.trees.now
      c.loop-place.place (λ f h. elim c.if-branch.branch [
        | judges_root-then-branch+in_ok-leave_out+in_ok-judges-2+else-branch-2 w ↦
            both_false_second _ _ (sym w.if-branch.true ∙ c.in_ok-judges.ensures
            (one_at c.loop-place.place f) (shown_one c.args.self.now.rows.now c.args.trees.now f
            c.loop-place.place c.loop-place-test.true h))
            (sym w.if-branch-2.false ∙ w.in_ok-judges-2.ensures (all_but c.loop-place.place f)
            (subst (λ rs. Shows c.args.self.now.rows.now rs (all_but c.loop-place.place f))
            (sym (w.deref.ensures.value ∙ w.in_ok-leave_out.ensures))
            (shown_others c.args.self.now.rows.now c.args.trees.now f c.loop-place.place
            c.loop-place-test.true h)))
        | judges_root-else-branch w ↦
            both_false_first _ _ (sym w.if-branch.false ∙ c.in_ok-judges.ensures
            (one_at c.loop-place.place f) (shown_one c.args.self.now.rows.now c.args.trees.now f
            c.loop-place.place c.loop-place-test.true h))
      ]) c.loop-place.invariant.none_before;
  within = elim c.if-branch.branch [
    | judges_root-then-branch+in_ok-leave_out+in_ok-judges-2+else-branch-2 w ↦
        omega (arith, w.gone-is)
    | judges_root-else-branch w ↦ omega (arith, w.gone-is, c.loop-place.invariant.within)
  ];
  rest_is = elim c.if-branch.branch [
    | judges_root-then-branch+in_ok-leave_out+in_ok-judges-2+else-branch-2 w ↦
        inr ((λ j. (w.rest-is j).items) ∙ w.in_ok-leave_out.ensures
        ∙ ap (others_at c.args.trees.now) (sym w.gone-is))
    | judges_root-else-branch w ↦
        subst (λ n. IsRest c.args.trees.now n c.if-branch.rest.items) (sym w.gone-is)
        (subst (λ rs. IsRest c.args.trees.now c.loop-place.gone rs)
        (λ j. (sym w.rest-is j).items) c.loop-place.invariant.rest_is)
  ];
}

pub judges_root-returns : goal.judges_root-returns
judges_root-returns t c =
    root_none c.args.self.now.rows.now (store_of c.args.self.now.store.now) c.args.bindings.now
    (formula_of c.args.root.now) (formula_of c.args.others.now) c.args.trees.now
    c.loop-place.place c.loop-place-test.false c.loop-place.invariant.none_before

pub judges_some-returns-then-branch : goal.judges_some-returns-then-branch
judges_some-returns-then-branch t c =
    some_found c.args.self.now.rows.now (store_of c.args.self.now.store.now) c.args.bindings.now
    (logic_var_of c.args.variable.now) (formula_of c.args.formula.now) c.args.trees.now
    c.loop-row.row-index c.row-item.result c.loop-row-test.true c.row-item.is
    (λ f h. sym c.if-branch.true ∙ c.in_ok-judges.ensures f h) c.loop-row.invariant

pub judges_some-loop-row-preserved : goal.judges_some-loop-row-preserved
judges_some-loop-row-preserved t c =
    some_on c.args.self.now.rows.now (store_of c.args.self.now.store.now) c.args.bindings.now
    (logic_var_of c.args.variable.now) (formula_of c.args.formula.now) c.args.trees.now
    c.loop-row.row-index c.row-item.result c.loop-row-test.true c.row-item.is
    (λ f h. sym c.if-branch.false ∙ c.in_ok-judges.ensures f h) c.loop-row.invariant

pub judges_some-returns : goal.judges_some-returns
judges_some-returns t c =
    some_none c.args.self.now.rows.now (store_of c.args.self.now.store.now) c.args.bindings.now
    (logic_var_of c.args.variable.now) (formula_of c.args.formula.now) c.args.trees.now
    c.loop-row.row-index c.loop-row-test.false c.loop-row.invariant
