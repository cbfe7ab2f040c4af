use Rattle.std.proofs.Common.{sym, subst}
use Rattle.context_apply.specs.Contexts.{context_thing}
use Rattle.context_apply.specs.Clashes.{NoZero}
use Rattle.context_apply.proofs.Filled.{zero-filled}
use Rattle.context_apply.proofs.composing.compose.Goals as goal

pub refuse_clash_in-requires : goal.refuse_clash_in-requires
refuse_clash_in-requires c =
    subst NoZero (sym c.in_ok-composed.ensures.whole)
    (zero-filled (context_thing c.args.outer.now) (context_thing c.args.inner.now)
    c.requires.outside c.requires.inside)
