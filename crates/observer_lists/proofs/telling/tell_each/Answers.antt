use Rattle.std.proofs.Common.{◌∙◌, refl, sym, arith}
use Rattle.std.proofs.lemmas.List.{length-map, length-set}
use Rattle.run_trace.specs.Changes.{change_of}
use Rattle.run_trace.specs.Listeners.{listener_of, listeners_of}
use Rattle.observer_lists.proofs.Heard.{one_told, one_stays, none_told, all_told, listener_is, on_err}
use Rattle.observer_lists.proofs.telling.tell_each.Goals as goal

pub loop-i-init : goal.loop-i-init
loop-i-init g c = record { size = refl; so_far = none_told _ _ }

pub returns-in_err-tell-clause-some : goal.returns-in_err-tell-clause-some
returns-in_err-tell-clause-some g c =
    on_err c.from_residual.result _ (
      c.loop-i.i,
      one_stays (listener_of g.O.Observer.face g.O.Observer.after g.O.Observer.says)
          c.loop-i.observers.items c.loop-i.i c.index_mut.result.now c.tell.new.self
          (omega (
            arith,
            c.loop-i-test.true,
            c.loop-i.invariant.size,
            c.len-i-end.ensures,
            c.args.observers.now.ok.0,
          ))
          c.index_mut.ensures.value
          (listener_is _ _ c.in_err-tell.ensures.as_before c.in_err-tell.ensures.after
          c.in_err-tell.ensures.says)
          ∙ c.loop-i.invariant.so_far.so_far,
    )

pub loop-i-preserved : goal.loop-i-preserved
loop-i-preserved g c = record {
  size = length-set _ _ _ ∙ c.loop-i.invariant.size;
  so_far = one_told (listener_of g.O.Observer.face g.O.Observer.after g.O.Observer.says)
      c.loop-i.observers.items c.loop-i.i c.index_mut.result.now c.tell.new.self
      (omega (
        arith,
        c.loop-i-test.true,
        c.loop-i.invariant.size,
        c.len-i-end.ensures,
        c.args.observers.now.ok.0,
      ))
      c.index_mut.ensures.value (change_of c.args.change.now) _
      (listener_is _ _ c.in_ok-tell.ensures.told c.in_ok-tell.ensures.after
      c.in_ok-tell.ensures.says)
      (length-map c.args.observers.now.items _ ∙ sym c.loop-i.invariant.size)
      c.loop-i.invariant.so_far;
}
