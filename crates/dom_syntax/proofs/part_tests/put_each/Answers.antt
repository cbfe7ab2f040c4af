-- Over one variable after another, of which none is among those before it.
use Rattle.std.proofs.Common.{◌∙◌, sym, refl, subst, [], ◌∷◌, ◌++◌, map, arith}
use Rattle.model_terms.specs.Stores.{same_name}
use Rattle.model_commands.specs.SortTests.{distinct_by}
use Rattle.dom_terms.specs.Terms.{prog_var_of}
use Rattle.dom_syntax.specs.VariableSets.{Holds}
use Rattle.dom_syntax.proofs.FreshLaws.{fresh-distinct, repeated, passed, passed-list, all-passed, none-left}
use Rattle.dom_syntax.proofs.part_tests.put_each.Goals as goal

pub loop-variable-init : goal.loop-variable-init
loop-variable-init c =
    ([], c.requires, sym (fresh-distinct (map prog_var_of c.args.variables.now)), refl)

pub returns-then-has : goal.returns-then-has
returns-then-has c =
    let inv = c.loop-variable.invariant in (
      sym (repeated (distinct_by same_name (map prog_var_of c.args.variables.now)) inv.0
          c.args.variables.now c.loop-variable.variable-index c.variable-item.result (omega arith)
          c.variable-item.is inv.2 (sym (c.has.ensures inv.0 inv.1) ∙ c.if-has.true)),
      tt,
    )

pub loop-variable-preserved : goal.loop-variable-preserved
loop-variable-preserved c =
    let inv = c.loop-variable.invariant in (
      inv.0 ++ prog_var_of c.variable-item.result ∷ [],
      c.in_ok-insert.ensures inv.0 inv.1,
      passed (distinct_by same_name (map prog_var_of c.args.variables.now)) inv.0
          c.args.variables.now c.loop-variable.variable-index c.variable-item.result (omega arith)
          c.variable-item.is inv.2 (sym (c.has.ensures inv.0 inv.1) ∙ c.if-has.false),
      passed-list inv.0 (map prog_var_of c.args.variables.now) c.args.variables.now
          c.loop-variable.variable-index c.variable-item.result (omega arith) c.variable-item.is
          inv.3,
    )

pub returns : goal.returns
returns c =
    let inv = c.loop-variable.invariant in (
      sym (none-left (distinct_by same_name (map prog_var_of c.args.variables.now)) inv.0
          c.args.variables.now c.loop-variable.variable-index (omega arith) inv.2),
      subst (Holds c.loop-variable.set) (all-passed inv.0 (map prog_var_of c.args.variables.now)
          c.args.variables.now c.loop-variable.variable-index (omega arith) inv.3) inv.1,
    )
