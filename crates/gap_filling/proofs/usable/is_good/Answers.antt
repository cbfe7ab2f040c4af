use Rattle.std.proofs.Common.{◌-◌, map, arith}
use Rattle.std.proofs.lemmas.List.{length-map}
use Rattle.theory_syntax.specs.Judgements.{step_of}
use Rattle.theory_syntax.specs.Theories.{procedure_of, theory_of}
use Rattle.gap_filling.proofs.Formed.{formed-sorted, some-at}
use Rattle.gap_filling.proofs.usable.is_good.Goals as goal

pub is_instance-requires-clause-sorted : goal.is_instance-requires-clause-sorted
is_instance-requires-clause-sorted c =
    let fs = map procedure_of c.args.theory.now.procedures in
    let own = some-at fs (c.args.procedure - 1) (omega (
      arith,
      c.requires.first,
      c.requires.last,
      length-map c.args.theory.now.procedures procedure_of,
    )) in
    formed-sorted (theory_of c.args.theory.now) own.0 (step_of c.args.step.now)
    ((c.in_ok-is_formed.ensures own.0 own.1).0 c.if-branch.true)
