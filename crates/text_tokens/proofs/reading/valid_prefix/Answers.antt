use Rattle.std.proofs.Math.Seq.{take-length}
use Rattle.std.proofs.lemmas.Str.{utf8_valid_len-IsUtf8}
use Rattle.text_tokens.proofs.reading.valid_prefix.Goals as goal

pub returns-in-Ok : goal.returns-in-Ok
returns-in-Ok c = rw (
  utf8_valid_len-IsUtf8 c.args.bytes.now c.in-Ok.ensures.cases.1,
  take-length,
) c.in-Ok.ensures.cases.0
