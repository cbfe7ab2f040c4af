-- Needn't be believed: the program's promise doesn't speak of it. What the words of a run ask for.
use Rattle.std.specs.Prelude.{◌≡◌, Result, Ok, Err, Option, Some, None}
use Rattle.model_answers.specs.Words.{Request, RunForm, run}
use Rattle.request_words.specs.declared.run_words.RunWords.{RunWords}
use Rattle.request_words.specs.declared.faults.WordFault.{WordFault}
use Rattle.request_words.specs.declared.faults.WordFault.TheVariants as f

-- the run, of which this is shown
abbrev pub asking : RunForm → RunWords → Request
asking form words =
    run form words.file words.procedure words.document words.fuel words.arguments

-- what was answered is the reading; bad words are those without one
abbrev pub ReadsRun : RunForm → Result RunWords WordFault → Option Request → Type 0
ReadsRun form (Ok words) reading = reading ≡ Some (asking form words)
ReadsRun form (Err f.BadWords) reading = reading ≡ None
ReadsRun form (Err f.OutOfMemory) reading = Unit
