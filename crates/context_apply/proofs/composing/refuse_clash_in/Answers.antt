use Rattle.std.proofs.Common.{sym, subst}
use Rattle.context_apply.specs.Contexts.{context_thing}
use Rattle.context_apply.specs.Clashes.{NoZero, Reports}
use Rattle.context_apply.proofs.Emptied.{zero-emptied, reports-emptied}
use Rattle.context_apply.proofs.composing.refuse_clash_in.Goals as goal

pub refuse_clash-requires : goal.refuse_clash-requires
refuse_clash-requires c =
    subst NoZero (sym c.in_ok-trees.ensures)
    (zero-emptied (context_thing c.args.context.now) c.requires)

pub returns : goal.returns
returns c =
    reports-emptied c.refuse_clash.result (context_thing c.args.context.now)
    (subst (Reports c.refuse_clash.result) c.in_ok-trees.ensures c.refuse_clash.ensures)
