use Rattle.std.proofs.Common.{◌≡◌, ◌++◌, ◌∷◌, [], map, sym, Some, None, true, false}
use Rattle.std.proofs.lemmas.Bool.{MatchBool-at_true, MatchBool-at_false}
use Rattle.std.proofs.lemmas.Result.{err_from_is_err_and}
use Rattle.std.proofs.lemmas.List.{map_push}
use Rattle.token_readers.specs.Reading.{the_terminal}
use Rattle.token_readers.specs.Leaves.{lexemes_in}
use Rattle.token_readers.proofs.Lists.{many_goes_on, many_breaks, many_done, first_after}
use Rattle.token_readers.proofs.listed.repeated.Goals as goal

pub returns-in_err-item : goal.returns-in_err-item
returns-in_err-item g c =
    let p = err_from_is_err_and c.from_residual.result c.from_residual.ensures.1 in
    let yes : c.skip.result ≡ true = cc in
    rw (p.1, p.2) (many_breaks (the_terminal c.args.word.now)
    (λ x. g.R.Reader.reading c.args.reader.now) c.in_err-item.field-0.0
    (map g.R.Reader.seen (g.L.Gathers.items c.loop.found)) 4294967295 c.loop.counter _ true _ _
    c.loop-test.true (first_after c.args.word.now (lexemes_in c.loop.tokens) (Some _)
    (sym (MatchBool-at_true _ _ yes c.skip.ensures))) c.in_err-item.ensures c.loop.invariant)

pub returns-then-not-skip : goal.returns-then-not-skip
returns-then-not-skip g c =
    let no : c.skip.result ≡ false = cc in
    let p = MatchBool-at_false _ _ no c.skip.ensures in
    rw p.1 (many_done (the_terminal c.args.word.now) (λ x. g.R.Reader.reading c.args.reader.now)
    (map g.R.Reader.seen (g.L.Gathers.items c.loop.found)) 4294967295 c.loop.counter _ _
    c.loop-test.true (first_after c.args.word.now (lexemes_in c.loop.tokens) None (sym p.0))
    c.loop.invariant)

pub loop-preserved : goal.loop-preserved
loop-preserved g c =
    let e : map g.R.Reader.seen (g.L.Gathers.items c.put.new.self)
    ≡ map g.R.Reader.seen (g.L.Gathers.items c.loop.found)
    ++ g.R.Reader.seen c.in_ok-item.item ∷ [] =
    rw c.in_ok-put.ensures
    (map_push _ (g.L.Gathers.items c.loop.found) c.in_ok-item.item) in
    let yes : c.skip.result ≡ true = cc in
    rw e (many_goes_on (the_terminal c.args.word.now) (λ x. g.R.Reader.reading c.args.reader.now)
    (map g.R.Reader.seen (g.L.Gathers.items c.loop.found)) 4294967295 c.loop.counter _ true _ _ _ _
    c.loop-test.true (first_after c.args.word.now (lexemes_in c.loop.tokens) (Some _)
    (sym (MatchBool-at_true _ _ yes c.skip.ensures))) c.in_ok-item.ensures c.loop.invariant)
