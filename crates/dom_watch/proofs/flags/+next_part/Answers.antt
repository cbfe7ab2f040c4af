use Rattle.std.proofs.Common.{◌≡◌, ◌∙◌, ◌&&◌, ◌||◌, ◌++◌, ◌∷◌, true, Bool, rules, ap, sym, refl, ⊎_elim}
use Rattle.std.proofs.lemmas.Result.{err_from_is_err_and}
use Rattle.model_watch.specs.Watchable as model
use Rattle.dom_terms.specs.Terms.{logic_var_of, term_of}
use Rattle.formula_syntax.specs.declared.formulas.Formula.{Formula}
use Rattle.formula_syntax.specs.Formulas.{formula_of}
use Rattle.formula_syntax.specs.Binders.{bound_by}
use Rattle.dom_watch.proofs.Walking.{walks_then, walks_not, walks_first, walks_on, and_yes, and_no, or_yes, or_no, and_turned}
use Rattle.dom_watch.proofs.flags.+next_part.Goals as goal
use Rattle.dom_watch.proofs.flags.+next_part.Goals.{next_part-then-may_be_sought, next_part-else-may_be_sought, next_part-then-is_given, next_part-else-is_given, next_part-then-is_given-2, next_part-else-is_given-2, next_part-then-is_root, next_part-else-is_root}

pub next_part-returns-in_ok-next-in-Exists : goal.next_part-returns-in_ok-next-in-Exists
next_part-returns-in_ok-next-in-Exists t c =
    let over = bound_by c.args.over.now in
    let x = logic_var_of c.in-Exists.x in
    let p = formula_of c.in-Exists.p.value in
    let own : (model.may_be_sought x && model.is_anchored x p) ≡ c.if-may_be_sought.after =
    elim c.if-may_be_sought.branch [
      | next_part-then-may_be_sought w ↦
          let same : c.if-may_be_sought.after ≡ model.is_anchored x p =
          w.after-is ∙ w.is_anchored.ensures
          ∙ ap (λ f. model.is_anchored x (formula_of f)) w.deref.ensures in
          and_yes (model.may_be_sought x) (model.is_anchored x p) c.may_be_sought.result
          c.if-may_be_sought.after w.if-may_be_sought.true c.may_be_sought.ensures same
      | next_part-else-may_be_sought w ↦
          and_no (model.may_be_sought x) (model.is_anchored x p) c.may_be_sought.result
          c.if-may_be_sought.after w.if-may_be_sought.false c.may_be_sought.ensures
          (w.after-is ∙ w.if-may_be_sought.false)
    ] in
    walks_first c.args.place c.in_ok-next-in-Exists.next c.if-may_be_sought.after
    (model.watch_flags (x ∷ over) (formula_of c.deref-in-Exists.result.now))
    (model.watch_flags over (formula_of c.args.formula.now)) c.next_part.result
    (ap (λ (f : Formula). model.watch_flags over (formula_of f)) c.in-Exists.is
    ∙ ap (λ (b : Bool). b ∷ model.watch_flags (x ∷ over) p) own
    ∙ ap (λ (f : Formula). c.if-may_be_sought.after ∷ model.watch_flags (x ∷ over) (formula_of f))
    (sym c.deref-in-Exists.ensures))
    c.in_ok-next-in-Exists.ensures c.next_part.ensures

pub next_part-returns-in_ok-next-in-Node : goal.next_part-returns-in_ok-next-in-Node
next_part-returns-in_ok-next-in-Node t c =
    let over = bound_by c.args.over.now in
    let name = model.is_given over (term_of c.in-Node.name) in
    let number = model.is_given over (term_of c.in-Node.number) in
    let list = model.is_given over (term_of c.in-Node.list) in
    let two : (name && number) ≡ c.if-is_given.value = elim c.if-is_given.branch [
      | next_part-then-is_given w ↦
          and_yes name number c.is_given-in-Node.result c.if-is_given.value w.if-is_given.true
          c.is_given-in-Node.ensures (w.value-is ∙ w.is_given-then-is_given.ensures)
      | next_part-else-is_given w ↦
          and_no name number c.is_given-in-Node.result c.if-is_given.value w.if-is_given.false
          c.is_given-in-Node.ensures (w.value-is ∙ w.if-is_given.false)
    ] in
    let three : (c.if-is_given.value && list) ≡ c.if-is_given-2.given =
    elim c.if-is_given-2.branch [
      | next_part-then-is_given-2 w ↦
          and_yes c.if-is_given.value list c.if-is_given.value c.if-is_given-2.given
          w.if-is_given-2.true refl (w.given-is ∙ w.is_given-given.ensures)
      | next_part-else-is_given-2 w ↦
          and_no c.if-is_given.value list c.if-is_given.value c.if-is_given-2.given
          w.if-is_given-2.false refl (w.given-is ∙ w.if-is_given-2.false)
    ] in
    walks_first c.args.place c.in_ok-next-in-Node.next c.if-is_given-2.given
    (model.watch_flags over (formula_of c.deref-in-Node.result.now))
    (model.watch_flags over (formula_of c.args.formula.now)) c.next_part-in-Node.result
    (ap (λ (f : Formula). model.watch_flags over (formula_of f)) c.in-Node.is
    ∙ ap (λ (b : Bool). b ∷ model.watch_flags over (formula_of c.in-Node.p.value))
    (and_turned name number list c.if-is_given.value c.if-is_given-2.given two three)
    ∙ ap (λ (f : Formula). c.if-is_given-2.given ∷ model.watch_flags over (formula_of f))
    (sym c.deref-in-Node.ensures))
    c.in_ok-next-in-Node.ensures c.next_part-in-Node.ensures

pub next_part-returns-in-Join-Whole-default-default :
    goal.next_part-returns-in-Join-Whole-default-default
next_part-returns-in-Join-Whole-default-default t c =
    let over = bound_by c.args.over.now in
    let is : model.watch_flags over (formula_of c.args.formula.now)
    ≡ true ∷ (model.watch_flags over (formula_of c.deref-in-Join-Whole-default-default.result.now)
    ++ model.watch_flags over (formula_of c.deref-in-Join-Whole-default-default-2.result.now)) =
    search rules in
    walks_on c.args.place c.saturating_add.result
    (model.watch_flags over (formula_of c.deref-in-Join-Whole-default-default.result.now)
    ++ model.watch_flags over (formula_of c.deref-in-Join-Whole-default-default-2.result.now))
    (model.watch_flags over (formula_of c.args.formula.now)) c.next_two.result is
    c.saturating_add.ensures c.next_two.ensures

pub next_part-returns-in_ok-next-in-Plus : goal.next_part-returns-in_ok-next-in-Plus
next_part-returns-in_ok-next-in-Plus t c =
    let over = bound_by c.args.over.now in
    let p = model.is_root (formula_of c.in-Plus.p.value) in
    let q = model.is_root (formula_of c.in-Plus.q.value) in
    let at : c.is_root.result ≡ p =
    c.is_root.ensures ∙ ap (λ f. model.is_root (formula_of f)) c.deref-in-Plus.ensures in
    let own : (p || q) ≡ c.if-is_root.after = elim c.if-is_root.branch [
      | next_part-then-is_root w ↦
          or_yes p q c.is_root.result c.if-is_root.after w.if-is_root.true at
          (w.after-is ∙ w.if-is_root.true)
      | next_part-else-is_root w ↦
          or_no p q c.is_root.result c.if-is_root.after w.if-is_root.false at
          (w.after-is ∙ w.is_root-else-is_root.ensures
          ∙ ap (λ f. model.is_root (formula_of f)) w.deref-else-is_root.ensures)
    ] in
    walks_first c.args.place c.in_ok-next-in-Plus.next c.if-is_root.after
    (model.watch_flags over (formula_of c.deref-in-Plus-2.result.now)
    ++ model.watch_flags over (formula_of c.deref-in-Plus-3.result.now))
    (model.watch_flags over (formula_of c.args.formula.now)) c.next_two-in-Plus.result
    (ap (λ (f : Formula). model.watch_flags over (formula_of f)) c.in-Plus.is
    ∙ (λ j. own j ∷ (model.watch_flags over (formula_of (sym c.deref-in-Plus-2.ensures j))
    ++ model.watch_flags over (formula_of (sym c.deref-in-Plus-3.ensures j)))))
    c.in_ok-next-in-Plus.ensures c.next_two-in-Plus.ensures

pub next_part-returns-in-And : goal.next_part-returns-in-And
next_part-returns-in-And t c =
    let over = bound_by c.args.over.now in
    let flags = λ (f : Formula). model.watch_flags over (formula_of f) in
    walks_on c.args.place c.saturating_add-in-And.result
    (flags c.deref-in-And.result.now ++ flags c.deref-in-And-2.result.now)
    (flags c.args.formula.now) c.next_two-in-And.result
    (⊎_elim (λ e. ap flags e) (λ h. ⊎_elim (λ e. ap flags e) (λ e. ap flags e) h) c.in-And.is
    ∙ (λ j. true ∷ (flags (sym c.deref-in-And.ensures j)
    ++ flags (sym c.deref-in-And-2.ensures j))))
    c.saturating_add-in-And.ensures c.next_two-in-And.ensures

pub next_part-returns-in-Not : goal.next_part-returns-in-Not
next_part-returns-in-Not t c =
    let over = bound_by c.args.over.now in
    let flags = λ (f : Formula). model.watch_flags over (formula_of f) in
    walks_on c.args.place c.saturating_add-in-Not.result (flags c.deref-in-Not.result.now)
    (flags c.args.formula.now) c.next_part-in-Not.result
    (⊎_elim (λ e. ap flags e) (λ h. ⊎_elim (λ e. ap flags e) (λ e. ap flags e) h) c.in-Not.is
    ∙ (λ j. true ∷ flags (sym c.deref-in-Not.ensures j)))
    c.saturating_add-in-Not.ensures c.next_part-in-Not.ensures

pub next_two-returns-in_err-next : goal.next_two-returns-in_err-next
next_two-returns-in_err-next t c =
    let p = err_from_is_err_and c.from_residual.result c.from_residual.ensures.1 in
    rw (p.1, p.2) (walks_not c.args.place
    (model.watch_flags (bound_by c.args.over.now) (formula_of c.args.left.now))
    (model.watch_flags (bound_by c.args.over.now) (formula_of c.args.right.now))
    c.in_err-next.field-0.0 c.in_err-next.ensures)

pub next_two-returns : goal.next_two-returns
next_two-returns t c =
    walks_then c.args.place
    (model.watch_flags (bound_by c.args.over.now) (formula_of c.args.left.now))
    (model.watch_flags (bound_by c.args.over.now) (formula_of c.args.right.now))
    c.in_ok-next.next c.next_part-2.result c.in_ok-next.ensures c.next_part-2.ensures
