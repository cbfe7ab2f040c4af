use Rattle.std.proofs.Common.{◌≡◌, ◌-◌, map}
use Rattle.token_readers.specs.Reading.{many, the_terminal, with_front}
use Rattle.token_readers.specs.Leaves.{lexemes_in}
use Rattle.token_readers.proofs.listed.repeated.Given as goal

abbrev pub invariant-loop : goal.invariant-loop
invariant-loop g l =
    with_front (map g.R.Reader.seen (g.L.Gathers.items l.found))
    (many (the_terminal l.word) (λ x. g.R.Reader.reading l.reader) (4294967295 - l.counter)
    (lexemes_in l.tokens))
    ≡ with_front (map g.R.Reader.seen (g.L.Gathers.items l.fn.before))
    (many (the_terminal l.word) (λ x. g.R.Reader.reading l.reader) 4294967295
    (lexemes_in l.fn.tokens))
