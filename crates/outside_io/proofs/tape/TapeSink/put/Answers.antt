use Rattle.std.proofs.Common.{◌≡◌, Some, ap, arith}
use Rattle.std.proofs.Math.Seq.{take-length}
use Rattle.std.proofs.lemmas.Grind.{common_steps}
use Rattle.outside_io.proofs.tape.TapeSink.put.Goals as goal

pub returns-clause-bytes : goal.returns-clause-bytes
returns-clause-bytes c = λ taken is.
    let told : taken ≡ c.args.self.now.taken = cc in
    rw (told, take-length) (ap Some (grind (arith, common_steps)))
