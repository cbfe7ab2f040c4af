use Rattle.std.proofs.Common.{sym, ◌∙◌}
use Rattle.text_tokens.specs.Tokens.{kind_of}
use Rattle.text_tokens.proofs.AsciiLemmas.{of_none, of_kind, token_in}
use Rattle.text_tokens.proofs.WithinLemmas.{end_within, token_within, token_stops}
use Rattle.text_tokens.proofs.ascii_watching.watched.Goals as goal

pub returns-in_default : goal.returns-in_default
returns-in_default c =
    let front = c.args.front in
    let is = of_none _ _ _ _ _ front.settled c.in_default.is in
    end_within front.bytes.now front.from front.most front.open is.stands

pub part-own-requires : goal.part-own-requires
part-own-requires c =
    let is = of_kind _ _ _ _ _ _ c.args.front.settled c.in-Some.is in
    let p = token_in _ _ _ (kind_of c.in-Some.kind) is.within is.stands in
    p.1

pub returns : goal.returns
returns c =
    let front = c.args.front in
    let is = of_kind _ _ _ _ _ _ front.settled c.in-Some.is in
    let passes = token_within front.bytes.now c.part-own.result.now front.from front.length
    front.most front.open c.in-Ok.open c.in-Some.kind is.within is.stands c.part-own.ensures
    c.in-Ok.ensures.few c.in-Ok.ensures.ok in
    sym passes.same

pub returns-in-Err : goal.returns-in-Err
returns-in-Err c =
    let front = c.args.front in
    let is = of_kind _ _ _ _ _ _ front.settled c.in-Some.is in
    c.stopped.ensures ∙ sym (token_stops front.bytes.now c.part-own.result.now front.from
    front.length front.most front.open c.in-Some.kind _ is.within is.stands c.part-own.ensures
    c.in-Err.ensures.err)
