use Rattle.std.proofs.Common.{◌≡◌, ◌∙◌, sym, ap, length, Some, is_some}
use Rattle.std.specs.Prelude.{slice_get}
use Rattle.model_weakest.specs.Written.{numbered}
use Rattle.declared_sorts.specs.Names.{found}
use Rattle.wp_calc.proofs.SupplyLaws.{all-counted, all-made, all-new, new-next, none-yet, sorted-next, sorted-none}
use Rattle.wp_calc.proofs.names.new_variables.Goals as goal

pub loop-number-init : goal.loop-number-init
loop-number-init c = record {
  new = none-yet c.args.declared.now c.new-variables.result c.new-variables.ensures;
  sorted = sorted-none c.args.sorts.now c.new-variables.result c.new-variables.ensures;
}

pub loop-number-preserved : goal.loop-number-preserved
loop-number-preserved c =
    let there : slice_get c.args.sorts.now (length c.loop-number.variables) ≡ Some c.in-Some.sort
    = ap (slice_get c.args.sorts.now) (sym c.len.ensures) ∙ sym c.sort_at.ensures
    ∙ c.in-Some.is in
    let pushed = c.in_ok-push_new.ensures {u = tt} in
    record {
      new = new-next c.in_ok-names.names c.args.declared.now c.loop-number.variables
          c.push_new.new.variables c.loop-number.number c.in-Some.sort
          (c.in_ok-names.ensures {u = tt}) pushed c.loop-number.invariant.new;
      sorted = sorted-next c.args.sorts.now c.loop-number.variables c.push_new.new.variables
          c.loop-number.number c.in-Some.sort
          (is_some (found c.in_ok-names.names (numbered c.loop-number.number))) there pushed
          c.loop-number.invariant.sorted;
    }

pub returns-in_default-clause-new : goal.returns-in_default-clause-new
returns-in_default-clause-new c =
    all-new c.args.declared.now c.loop-number.variables c.loop-number.number
    c.loop-number.invariant.new

pub returns-in_default-clause-sorts : goal.returns-in_default-clause-sorts
returns-in_default-clause-sorts c =
    all-made c.args.sorts.now c.loop-number.variables
    (ap (slice_get c.args.sorts.now) (sym c.len.ensures) ∙ sym c.sort_at.ensures ∙ c.in_default.is)
    c.loop-number.invariant.sorted

pub returns-in_default-clause-count : goal.returns-in_default-clause-count
returns-in_default-clause-count c =
    all-counted c.args.sorts.now c.loop-number.variables
    (ap (slice_get c.args.sorts.now) (sym c.len.ensures) ∙ sym c.sort_at.ensures ∙ c.in_default.is)
    c.loop-number.invariant.sorted
