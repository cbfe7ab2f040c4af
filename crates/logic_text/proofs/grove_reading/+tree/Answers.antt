use Rattle.std.proofs.Common.{◌≡◌, ◌++◌, ◌∷◌, [], true, false, map}
use Rattle.std.proofs.lemmas.Bool.{MatchBool-at_true, MatchBool-at_false}
use Rattle.std.proofs.lemmas.Result.{err_from_is_err_and}
use Rattle.std.proofs.lemmas.List.{map_push}
use Rattle.token_readers.proofs.Lists.{goes_on, breaks, is_done}
use Rattle.logic_text.specs.RawGroves.{raw_tree_of}
use Rattle.logic_text.specs.TreeReaders.{marked_at, tree_at}
use Rattle.logic_text.proofs.grove_reading.+tree.Goals as goal

pub trees-returns-in_err-item : goal.trees-returns-in_err-item
trees-returns-in_err-item t c =
    let p = err_from_is_err_and c.from_residual.result c.from_residual.ensures.1 in
    rw (p.1, p.2) (breaks c.args.between.now
    (marked_at c.args.left.now c.args.right.now (tree_at 4294967295 c.args.depth))
    c.in_err-item.field-0.0 (map raw_tree_of c.loop.found) 4294967295 c.loop.counter _ _
    c.loop-test.true c.in_err-item.ensures c.loop.invariant)

pub trees-returns-then-not-skip : goal.trees-returns-then-not-skip
trees-returns-then-not-skip t c =
    let no : c.skip.result ≡ false = cc in
    let p = MatchBool-at_false _ _ no c.skip.ensures in
    let e : map raw_tree_of c.push.new.self ≡ map raw_tree_of c.loop.found
    ++ raw_tree_of c.in_ok-item.item ∷ [] =
    rw c.in_ok-push.ensures.ok (map_push _ c.loop.found c.in_ok-item.item) in
    rw (e, p.1) (is_done c.args.between.now
    (marked_at c.args.left.now c.args.right.now (tree_at 4294967295 c.args.depth))
    (map raw_tree_of c.loop.found) 4294967295 c.loop.counter _ _ _ _
    c.loop-test.true c.in_ok-item.ensures p.0 c.loop.invariant)

pub trees-loop-preserved : goal.trees-loop-preserved
trees-loop-preserved t c =
    let e : map raw_tree_of c.push.new.self ≡ map raw_tree_of c.loop.found
    ++ raw_tree_of c.in_ok-item.item ∷ [] =
    rw c.in_ok-push.ensures.ok (map_push _ c.loop.found c.in_ok-item.item) in
    let yes : c.skip.result ≡ true = cc in
    rw e (goes_on c.args.between.now
    (marked_at c.args.left.now c.args.right.now (tree_at 4294967295 c.args.depth))
    (map raw_tree_of c.loop.found) 4294967295 c.loop.counter _ _ _ _ _
    c.loop-test.true c.in_ok-item.ensures
    (MatchBool-at_true _ _ yes c.skip.ensures) c.loop.invariant)
