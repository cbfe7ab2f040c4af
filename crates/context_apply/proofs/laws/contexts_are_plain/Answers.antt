use Rattle.context_apply.proofs.Plain.{one-hole, context-width}
use Rattle.context_apply.proofs.laws.contexts_are_plain.Goals as goal

pub returns-clause-hole : goal.returns-clause-hole
returns-clause-hole c = one-hole

pub returns-clause-roots : goal.returns-clause-roots
returns-clause-roots c = context-width

pub returns-clause-shaped : goal.returns-clause-shaped
returns-clause-shaped c outside w =
    record { well_formed = w; width_fits = context-width outside; holes_fit = one-hole outside }
