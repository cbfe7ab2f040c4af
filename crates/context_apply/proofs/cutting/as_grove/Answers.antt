use Rattle.std.proofs.Common.{◌∙◌, sym, ap}
use Rattle.model_shapes.specs.Contexts.{inner_thing}
use Rattle.model_shapes.specs.Trees.{beside, root_uses}
use Rattle.grove_data.specs.Trees.{forest_of}
use Rattle.context_apply.specs.Contexts.{forest_inner_of}
use Rattle.context_apply.proofs.PutBack.{put-first}
use Rattle.context_apply.proofs.cutting.as_grove.Goals as goal

pub returns-clause-same : goal.returns-clause-same
returns-clause-same c t =
    let before = c.args.context.left in
    let after = c.args.context.right in
    put-first before after c.in_ok-rest-in-One.rest _ c.in_ok-rest-in-One.ensures t
    ∙ ap (λ x. root_uses t (beside (forest_of before)
    (beside (inner_thing (forest_inner_of x)) (forest_of after))))
    (sym c.in-One.is)
