use Rattle.model_formulas.proofs.Beside.{beside-entailed}
use Rattle.model_formulas.proofs.a_hole_has_no_place_among_roots.Goals as goal

pub returns : goal.returns
returns c = beside-entailed
