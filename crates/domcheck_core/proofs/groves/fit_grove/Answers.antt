use Rattle.std.proofs.lemmas.Result.{on_ok_weaker}
use Rattle.domcheck_core.proofs.Bare.{shaped}
use Rattle.domcheck_core.proofs.groves.fit_grove.Goals as goal

pub returns-in-Ok-clause-shaped : goal.returns-in-Ok-clause-shaped
returns-in-Ok-clause-shaped c =
    on_ok_weaker c.without_repeats.result
    (shaped c.in-Ok.grove _ c.in-Ok.ensures.made c.in-Ok.ensures.in_range)
    c.without_repeats.ensures.unique
