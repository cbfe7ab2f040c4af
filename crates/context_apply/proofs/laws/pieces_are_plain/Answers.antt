use Rattle.context_apply.proofs.Plain.{piece-width, piece-bare}
use Rattle.context_apply.proofs.laws.pieces_are_plain.Goals as goal

pub returns : goal.returns
returns c piece w =
    record { well_formed = w; width_fits = piece-width piece; holes_fit = piece-bare piece }
