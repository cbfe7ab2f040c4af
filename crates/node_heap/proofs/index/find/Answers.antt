use Rattle.std.proofs.Common.{◌≡◌, ℕ, ◌+◌, ◌-◌, ◌/◌, ◌<◌, Some, length, get_or, arith, sym, subst}
use Rattle.node_heap.specs.Indexes.{lookup}
use Rattle.node_heap.proofs.Search.{lookup_at, lookup_between, below_middle, above_middle}
use Rattle.node_heap.proofs.index.find.Goals as goal

pub returns-then-pair-number : goal.returns-then-pair-number
returns-then-pair-number c =
    let m : ℕ = c.loop-low.low + (c.loop-low.high - c.loop-low.low) / 2 in
    let w : m < length c.args.index.now = omega arith in
    sym (subst (λ n. lookup n c.args.index.now ≡ Some
    (get_or c.args.index.now m (record { number = 0; key = 0 })).key) c.if-pair-number.true
    (lookup_at c.args.index.now m (record { number = 0; key = 0 }) c.requires w))

pub loop-low-preserved-then-pair-number-2 : goal.loop-low-preserved-then-pair-number-2
loop-low-preserved-then-pair-number-2 c =
    let m : ℕ = c.loop-low.low + (c.loop-low.high - c.loop-low.low) / 2 in
    let w : m < length c.args.index.now = omega arith in
    record {
      order = omega arith;
      within = c.loop-low.invariant.within;
      below = below_middle c.args.index.now c.args.number m (record { number = 0; key = 0 })
          c.requires w c.if-pair-number-2.true;
      above = c.loop-low.invariant.above;
    }

pub loop-low-preserved : goal.loop-low-preserved
loop-low-preserved c =
    let m : ℕ = c.loop-low.low + (c.loop-low.high - c.loop-low.low) / 2 in
    let w : m < length c.args.index.now = omega arith in
    record {
      order = omega arith;
      within = omega arith;
      below = c.loop-low.invariant.below;
      above = above_middle c.args.index.now c.args.number m (record { number = 0; key = 0 })
          c.requires w (omega (arith, c.if-pair-number.false, c.if-pair-number-2.false));
    }

pub returns : goal.returns
returns c = sym (lookup_between c.args.index.now c.args.number c.loop-low.low c.loop-low.high
    c.loop-low-test.false c.loop-low.invariant.below c.loop-low.invariant.above)
