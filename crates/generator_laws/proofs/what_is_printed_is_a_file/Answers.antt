use Rattle.generator_laws.proofs.File.{printed-is-file}
use Rattle.generator_laws.proofs.what_is_printed_is_a_file.Goals as goal

pub returns : goal.returns
returns c = printed-is-file
