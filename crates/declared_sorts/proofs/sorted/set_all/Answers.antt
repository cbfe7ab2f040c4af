use Rattle.std.proofs.Common.{◌∙◌, arith, map}
use Rattle.std.specs.List.{list_all}
use Rattle.std.proofs.lemmas.Grind.{common_steps}
use Rattle.declared_sorts.specs.Declarations.{declared_of, scope_in}
use Rattle.declared_sorts.specs.Settled.{is_settled}
use Rattle.declared_sorts.proofs.Each.{all_changed}
use Rattle.declared_sorts.proofs.Loops.{one_told, all_told, each_item}
use Rattle.declared_sorts.proofs.sorted.set_all.Goals as goal

pub loop-i-preserved : goal.loop-i-preserved
loop-i-preserved g c =
    let p = is_settled (scope_in c.args.declared.now) in
    record {
      same = grind (arith, common_steps);
      each = grind (arith, common_steps);
      told = one_told g.T.Sorted.seen (λ y. list_all p (g.T.Sorted.variables y))
          c.loop-i.items c.loop-i.i c.set_sorts-is_settled.new.self _ _ (omega arith)
          c.loop-i.invariant.told c.set_sorts-is_settled.ensures.settled;
    }

pub returns-clause-sorted : goal.returns-clause-sorted
returns-clause-sorted g c =
    all_changed g.T.Sorted.seen (g.T.Sorted.sorted (declared_of c.args.declared.now))
    c.loop-i.items c.args.items.now (omega arith)
    λ k d lt. c.loop-i.invariant.each.each k d (omega arith)

pub returns-clause-settled : goal.returns-clause-settled
returns-clause-settled g c =
    let p = is_settled (scope_in c.args.declared.now) in
    all_told g.T.Sorted.seen (λ y. list_all p (g.T.Sorted.variables y)) c.loop-i.items c.loop-i.i _
    (omega arith) c.loop-i.invariant.told
    ∙ each_item p g.T.Sorted.variables (map g.T.Sorted.seen c.loop-i.items)
