use Rattle.std.proofs.Common.{◌+◌, ◌*◌, ◌≤◌}
use Rattle.model_formulas.specs.Parts.{parts}
use Rattle.dom_terms.specs.Terms.{logic_var_of}
use Rattle.dom_terms.specs.Stores.{store_of}
use Rattle.formula_syntax.specs.Formulas.{formula_of}
use Rattle.dom_watch.specs.Judged.{IsRest}
use Rattle.dom_watch.proofs.Connected.{SomeFrom, NoCutTo, NoRootTo}
use Rattle.dom_watch.proofs.judging.Judge.+judges.Given as goal

abbrev pub decreases-judges : goal.decreases-judges
decreases-judges l = 2 * parts (formula_of l.formula.now)

abbrev pub decreases-judges_some : goal.decreases-judges_some
decreases-judges_some l = 2 * parts (formula_of l.formula.now) + 1

abbrev pub decreases-judges_cut : goal.decreases-judges_cut
decreases-judges_cut l =
    2 * (parts (formula_of l.left.now) + parts (formula_of l.right.now)) + 1

abbrev pub decreases-judges_root : goal.decreases-judges_root
decreases-judges_root l =
    2 * (parts (formula_of l.root.now) + parts (formula_of l.others.now)) + 1

abbrev pub invariant-judges_some-loop-row : goal.invariant-judges_some-loop-row
invariant-judges_some-loop-row l =
    SomeFrom l.self.rows.now (store_of l.self.store.now) l.bindings (logic_var_of l.variable)
    (formula_of l.formula) l.trees l.row-index

abbrev pub invariant-judges_cut-loop-cut : goal.invariant-judges_cut-loop-cut
invariant-judges_cut-loop-cut l =
    NoCutTo l.self.rows.now (store_of l.self.store.now) l.bindings (formula_of l.left)
    (formula_of l.right) l.trees l.cut

abbrev pub invariant-judges_root-loop-place : goal.invariant-judges_root-loop-place
invariant-judges_root-loop-place l = record {
  none_before : NoRootTo l.self.rows.now (store_of l.self.store.now) l.bindings
      (formula_of l.root) (formula_of l.others) l.trees l.place;
  within : l.gone ≤ l.place;
  rest_is : IsRest l.trees l.gone l.rest.items;
}
