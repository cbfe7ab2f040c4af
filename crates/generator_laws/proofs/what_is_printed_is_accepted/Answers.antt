use Rattle.generator_laws.proofs.File.{printed-is-accepted}
use Rattle.generator_laws.proofs.what_is_printed_is_accepted.Goals as goal

pub returns : goal.returns
returns c = printed-is-accepted
