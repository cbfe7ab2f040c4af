use Rattle.std.proofs.Common.{◌≡◌, ◌++◌, ◌∷◌, [], true, false, map}
use Rattle.std.proofs.lemmas.Bool.{MatchBool-at_true, MatchBool-at_false}
use Rattle.std.proofs.lemmas.Result.{err_from_is_err_and}
use Rattle.std.proofs.lemmas.List.{map_push}
use Rattle.token_readers.proofs.Lists.{goes_on, breaks, is_done}
use Rattle.token_readers.proofs.listed.separated.Goals as goal

pub returns-in_err-item : goal.returns-in_err-item
returns-in_err-item g c =
    let p = err_from_is_err_and c.from_residual.result c.from_residual.ensures.1 in
    rw (p.1, p.2) (breaks c.args.mark.now (g.R.Reader.reading c.args.reader.now)
    c.in_err-item.field-0.0 (map g.R.Reader.seen (g.L.Gathers.items c.loop.found)) 4294967295
    c.loop.counter _ _ c.loop-test.true c.in_err-item.ensures c.loop.invariant)

pub returns-then-not-skip : goal.returns-then-not-skip
returns-then-not-skip g c =
    let e : map g.R.Reader.seen (g.L.Gathers.items c.put.new.self)
    ≡ map g.R.Reader.seen (g.L.Gathers.items c.loop.found)
    ++ g.R.Reader.seen c.in_ok-item.item ∷ [] =
    rw c.in_ok-put.ensures (map_push _ (g.L.Gathers.items c.loop.found) c.in_ok-item.item) in
    let no : c.skip.result ≡ false = cc in
    let p = MatchBool-at_false _ _ no c.skip.ensures in
    rw (e, p.1) (is_done c.args.mark.now (g.R.Reader.reading c.args.reader.now)
    (map g.R.Reader.seen (g.L.Gathers.items c.loop.found)) 4294967295 c.loop.counter _ _ _ _
    c.loop-test.true c.in_ok-item.ensures p.0 c.loop.invariant)

pub loop-preserved : goal.loop-preserved
loop-preserved g c =
    let e : map g.R.Reader.seen (g.L.Gathers.items c.put.new.self)
    ≡ map g.R.Reader.seen (g.L.Gathers.items c.loop.found)
    ++ g.R.Reader.seen c.in_ok-item.item ∷ [] =
    rw c.in_ok-put.ensures (map_push _ (g.L.Gathers.items c.loop.found) c.in_ok-item.item) in
    let yes : c.skip.result ≡ true = cc in
    rw e (goes_on c.args.mark.now (g.R.Reader.reading c.args.reader.now)
    (map g.R.Reader.seen (g.L.Gathers.items c.loop.found)) 4294967295 c.loop.counter _ _ _ _ _
    c.loop-test.true c.in_ok-item.ensures
    (MatchBool-at_true _ _ yes c.skip.ensures) c.loop.invariant)
