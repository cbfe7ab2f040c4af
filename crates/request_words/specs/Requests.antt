-- Needn't be believed: the program's promise doesn't speak of it. The requests of the definitions
-- that those of the program stand for, and what it says of words.
use Rattle.std.specs.Prelude.{◌≡◌, ◌≤◌, Result, Ok, Err, Option, Some, None}
use Rattle.model_answers.specs.Words as model
use Rattle.model_generator.specs.Made.{most_makers}
use Rattle.request_words.specs.declared.requests.Request.{Request}
use Rattle.request_words.specs.declared.requests.Request.TheVariants as r
use Rattle.request_words.specs.declared.faults.WordFault.{WordFault}
use Rattle.request_words.specs.declared.faults.WordFault.TheVariants as f

-- the request
abbrev pub request_of : Request → model.Request
request_of (r.Check file) = model.check file
request_of (r.Run file procedure document fuel arguments) =
    model.run model.only_outcome file procedure document fuel arguments
request_of (r.Trace file procedure document fuel arguments) =
    model.run model.with_changes file procedure document fuel arguments
request_of (r.Watch file procedure document fuel arguments) =
    model.run model.with_verdicts file procedure document fuel arguments
request_of (r.Fill file) = model.fill file
request_of (r.Wp file procedure) = model.wp file procedure
request_of (r.Make count) = model.make count
request_of (r.Trial count) = model.trial count

-- what was answered is the reading; bad words are those without one
abbrev pub Reads : Result Request WordFault → Option model.Request → Type 0
Reads (Ok request) reading = reading ≡ Some (request_of request)
Reads (Err f.BadWords) reading = reading ≡ None
Reads (Err f.OutOfMemory) reading = Unit

-- the number of procedures that it asks for may be asked for
abbrev pub Counts : Request → Type 0
Counts (r.Make count) = (1 ≤ count) × (count ≤ most_makers)
Counts (r.Trial count) = (1 ≤ count) × (count ≤ most_makers)
Counts request = Unit
