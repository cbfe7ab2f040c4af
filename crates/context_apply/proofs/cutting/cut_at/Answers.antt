use Rattle.std.proofs.Common.{refl}
use Rattle.grove_data.specs.Trees.{forest_of}
use Rattle.context_apply.specs.declared.contexts.Context.TheVariants.{Grove}
use Rattle.context_apply.proofs.PutBack.{put-back-first, cut-proper}
use Rattle.context_apply.proofs.cutting.cut_at.Goals as goal

pub returns-clause-found : goal.returns-clause-found
returns-clause-found c =
    let found = rw c.in-Some.is at c.in_ok-inside.ensures.found in (
      put-back-first _ _ _ _ c.in_ok-as_grove.ensures.same found.0,
      c.in_ok-as_grove.ensures.hole,
      refl,
      found.2,
    )

pub returns-clause-proper : goal.returns-clause-proper
returns-clause-proper c =
    cut-proper (forest_of c.args.grove.now) c.args.id (Grove c.in_ok-as_grove.field-0) c.in-Some.cut
    (returns-clause-found c)
