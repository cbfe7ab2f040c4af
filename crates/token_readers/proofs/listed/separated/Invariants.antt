use Rattle.std.proofs.Common.{◌≡◌, ◌-◌, map}
use Rattle.token_readers.specs.Reading.{sep_list, with_front}
use Rattle.token_readers.specs.Leaves.{lexemes_in}
use Rattle.token_readers.proofs.listed.separated.Given as goal

abbrev pub invariant-loop : goal.invariant-loop
invariant-loop g l =
    with_front (map g.R.Reader.seen (g.L.Gathers.items l.found))
    (sep_list l.mark (g.R.Reader.reading l.reader) (4294967295 - l.counter) (lexemes_in l.tokens))
    ≡ sep_list l.mark (g.R.Reader.reading l.reader) 4294967295 (lexemes_in l.fn.tokens)
