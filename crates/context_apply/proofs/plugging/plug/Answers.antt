use Rattle.std.proofs.Common.{ap, ◌∙◌, sym, subst}
use Rattle.model_shapes.specs.Trees.{fill}
use Rattle.dom_terms.specs.Sorts.{data_sort_of}
use Rattle.grove_data.specs.Trees.{forest_of}
use Rattle.context_apply.specs.Contexts.{context_thing, piece_thing}
use Rattle.context_apply.specs.Clashes.{NoZero}
use Rattle.context_apply.proofs.Filled.{zero-filled}
use Rattle.context_apply.proofs.Plain.{whole-width}
use Rattle.context_apply.proofs.plugging.plug.Goals as goal

pub refuse_clash-requires : goal.refuse_clash-requires
refuse_clash-requires c =
    let outside = context_thing c.args.context.now in
    subst NoZero (sym (c.in_ok-whole.ensures ∙ ap (fill outside) c.trees_of.ensures))
    (zero-filled outside (piece_thing c.args.piece.now) c.requires.outside c.requires.inside)

pub as_piece-requires : goal.as_piece-requires
as_piece-requires c =
    whole-width c.args.context.now c.args.piece.now (data_sort_of c.outer_sort.result)
    (forest_of c.in_ok-whole.whole) c.requires.sort c.outer_sort.ensures
    (c.in_ok-whole.ensures ∙ ap (fill (context_thing c.args.context.now)) c.trees_of.ensures)
