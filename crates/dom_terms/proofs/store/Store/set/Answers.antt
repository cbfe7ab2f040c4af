use Rattle.std.proofs.Common.{ap, ◌∙◌, sym, subst}
use Rattle.std.specs.Prelude.{position}
use Rattle.model_terms.specs.Stores.{ProperStore, set}
use Rattle.model_terms.proofs.StoreLaws.{set-proper}
use Rattle.dom_terms.specs.Values.{value_seen}
use Rattle.dom_terms.specs.Terms.{prog_var_of}
use Rattle.dom_terms.specs.Stores.{store_of, has_variable}
use Rattle.dom_terms.proofs.StoreLaws.{place-set, push-set}
use Rattle.dom_terms.proofs.store.Store.set.Goals as goal
use Rattle.dom_terms.proofs.store.Store.set.Goals.{in-Long-1, in-Short-1}

pub returns-in-Some-clause-ok : goal.returns-in-Some-clause-ok
returns-in-Some-clause-ok c =
    let x = prog_var_of c.args.variable in
    let is = place-set x c.args.value c.self.inside.cells.items c.in-Some.place
    c.index_mut.result.now c.index_mut.ensures.value
    (sym (c.in-Some.ensures ∙ ap (position (has_variable x)) c.deref.ensures.value))
    ∙ ap (λ cells. set x (value_seen c.args.value) (store_of cells)) c.self.view_is in
    elim c.match-variable.branch [
      | in-Long-1 w ↦ ap store_of w.self-is ∙ is
      | in-Short-1 w ↦ ap store_of w.self-is ∙ is
    ]

pub invariant_of-self : goal.invariant_of-self
invariant_of-self c =
    let x = prog_var_of c.args.variable in
    subst ProperStore
    (sym (place-set x c.args.value c.self.inside.cells.items c.in-Some.place
    c.index_mut.result.now c.index_mut.ensures.value
    (sym (c.in-Some.ensures ∙ ap (position (has_variable x)) c.deref.ensures.value))))
    (set-proper x (value_seen c.args.value) (store_of c.self.inside.cells.items) c.requires
    c.self.invariant)

pub invariant_of-self-in-Some-2 : goal.invariant_of-self-in-Some-2
invariant_of-self-in-Some-2 c =
    let x = prog_var_of c.args.variable in
    subst ProperStore
    (sym (place-set x c.args.value c.self.inside.cells.items c.in-Some.place
    c.index_mut.result.now c.index_mut.ensures.value
    (sym (c.in-Some.ensures ∙ ap (position (has_variable x)) c.deref.ensures.value))))
    (set-proper x (value_seen c.args.value) (store_of c.self.inside.cells.items) c.requires
    c.self.invariant)

pub returns-in_ok-push-in-None-clause-ok : goal.returns-in_ok-push-in-None-clause-ok
returns-in_ok-push-in-None-clause-ok c =
    let x = prog_var_of c.args.variable in
    ap store_of c.in_ok-push-in-None.ensures.items
    ∙ push-set (record { variable = c.args.variable; value = c.args.value })
    c.self.inside.cells.items
    (sym (c.in-None.ensures ∙ ap (position (has_variable x)) c.deref.ensures.value))
    ∙ ap (λ cells. set x (value_seen c.args.value) (store_of cells)) c.self.view_is

pub invariant_of-self-in-Continue-1 : goal.invariant_of-self-in-Continue-1
invariant_of-self-in-Continue-1 c =
    let x = prog_var_of c.args.variable in
    subst ProperStore
    (sym (ap store_of c.in_ok-push-in-None.ensures.items
    ∙ push-set (record { variable = c.args.variable; value = c.args.value })
    c.self.inside.cells.items
    (sym (c.in-None.ensures ∙ ap (position (has_variable x)) c.deref.ensures.value))))
    (set-proper x (value_seen c.args.value) (store_of c.self.inside.cells.items) c.requires
    c.self.invariant)
