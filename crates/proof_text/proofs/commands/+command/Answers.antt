use Rattle.std.proofs.Common.{◌≡◌, ◌++◌, ◌∷◌, [], true, false, map}
use Rattle.std.proofs.lemmas.Bool.{MatchBool-at_true, MatchBool-at_false}
use Rattle.std.proofs.lemmas.Result.{err_from_is_err_and}
use Rattle.std.proofs.lemmas.List.{map_push}
use Rattle.theory_syntax.specs.Commands.{command_of}
use Rattle.proof_text.specs.Commands.{semicolon, command_at}
use Rattle.token_readers.proofs.Lists.{goes_on, breaks, is_done}
use Rattle.proof_text.proofs.commands.+command.Goals as goal

pub commands-returns-in_err-item : goal.commands-returns-in_err-item
commands-returns-in_err-item t c =
    let p = err_from_is_err_and c.from_residual.result c.from_residual.ensures.1 in
    rw (p.1, p.2) (breaks semicolon (command_at 4294967295 c.args.depth) c.in_err-item.field-0.0
    (map command_of c.loop.found) 4294967295 c.loop.counter _ _
    c.loop-test.true c.in_err-item.ensures c.loop.invariant)

pub commands-returns-then-not-skip : goal.commands-returns-then-not-skip
commands-returns-then-not-skip t c =
    let e : map command_of c.push.new.self ≡ map command_of c.loop.found ++ command_of
    c.in_ok-item.item ∷ [] =
    rw c.in_ok-push.ensures.ok (map_push _ c.loop.found c.in_ok-item.item) in
    let no : c.skip.result ≡ false = cc in
    let p = MatchBool-at_false _ _ no c.skip.ensures in
    rw (e, p.1) (is_done semicolon (command_at 4294967295 c.args.depth)
    (map command_of c.loop.found) 4294967295 c.loop.counter _ _ _ _
    c.loop-test.true c.in_ok-item.ensures p.0 c.loop.invariant)

pub commands-loop-preserved : goal.commands-loop-preserved
commands-loop-preserved t c =
    let e : map command_of c.push.new.self ≡ map command_of c.loop.found ++ command_of
    c.in_ok-item.item ∷ [] =
    rw c.in_ok-push.ensures.ok (map_push _ c.loop.found c.in_ok-item.item) in
    let yes : c.skip.result ≡ true = cc in
    rw e (goes_on semicolon (command_at 4294967295 c.args.depth)
    (map command_of c.loop.found) 4294967295 c.loop.counter _ _ _ _ _
    c.loop-test.true c.in_ok-item.ensures
    (MatchBool-at_true _ _ yes c.skip.ensures) c.loop.invariant)
