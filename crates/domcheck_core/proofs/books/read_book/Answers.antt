use Rattle.std.proofs.Common.{refl}
use Rattle.model_limits.specs.Limits.{standard_limits}
use Rattle.domcheck_core.proofs.Reading.{read_long}
use Rattle.domcheck_core.proofs.books.read_book.Goals as goal

pub returns-in-Ok-clause-read : goal.returns-in-Ok-clause-read
returns-in-Ok-clause-read g c = (c.in-Ok.bytes.items, refl, c.in-Ok.ensures.whole)

pub returns-in-Err-TooLarge-clause-read : goal.returns-in-Err-TooLarge-clause-read
returns-in-Err-TooLarge-clause-read g c =
    read_long standard_limits.file_bytes _
    ((rw c.in-Err-TooLarge.field-0-is at c.in-Err-TooLarge.ensures.too_large) refl)
