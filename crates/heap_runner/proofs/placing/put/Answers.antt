use Rattle.std.proofs.Common.{◌∙◌, map, sym, ap}
use Rattle.std.proofs.lemmas.Result.{on_ok_weaker}
use Rattle.dom_terms.specs.Stores.{store_of}
use Rattle.dom_meaning.specs.declared.configurations.Pending.TheVariants.{Run}
use Rattle.dom_meaning.specs.declared.effects.Effect.{Effect}
use Rattle.dom_meaning.specs.Configs.{piece_of}
use Rattle.dom_meaning.specs.Effects.{pieces_put}
use Rattle.heap_runner.proofs.StackLaws.{commands_seen}
use Rattle.heap_runner.proofs.PlacingLaws.{placed}
use Rattle.heap_runner.proofs.placing.put.Goals as goal

pub returns-in-Commands-clause-pieces : goal.returns-in-Commands-clause-pieces
returns-in-Commands-clause-pieces c =
    let block = c.in-Commands.block.now in
    let store = store_of c.args.store.now in
    on_ok_weaker c.put_commands.result
    (placed c.args.effect store (λ first. map Run block) c.args.stack.now.pieces
    c.put_commands.new.stack.pieces
    (λ first. commands_seen block
    ∙ sym (ap (λ (z : Effect). pieces_put z (piece_of first) store) c.in-Commands.is)))
    c.put_commands.ensures.pieces
