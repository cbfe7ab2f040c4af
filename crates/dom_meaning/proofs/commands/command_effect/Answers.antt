use Rattle.std.proofs.lemmas.Result.{IfOk-weaker}
use Rattle.model_commands.specs.Theories.{procedures_of}
use Rattle.model_files.proofs.WellFormedTheories.{well-formed-bodies}
use Rattle.model_machine.specs.Machine.{run, move}
use Rattle.model_machine.proofs.Fine.{move-fine}
use Rattle.dom_terms.specs.Stores.{store_of}
use Rattle.theory_syntax.specs.Commands.{command_of}
use Rattle.theory_syntax.specs.Theories.{theory_of}
use Rattle.dom_meaning.proofs.EffectLaws.{fits_store}
use Rattle.dom_meaning.proofs.commands.command_effect.Goals as goal

pub returns-clause-store : goal.returns-clause-store
returns-clause-store g c =
    let ps = procedures_of (theory_of c.args.theory.now) in
    let piece = run (command_of c.args.command.now) in
    let store = store_of c.args.store.now in
    let grove = g.D.Document.grove c.args.document.now in
    let pick = g.D.Document.pick c.args.document.now in
    IfOk-weaker c.planned.result _ _
    (λ effect comes. fits_store ps (g.D.Document.StandsFor c.planned.new.document)
    (move ps pick piece store grove) piece (store_of c.planned.new.store) effect
    (move-fine ps (well-formed-bodies (theory_of c.args.theory.now) c.requires.well_formed) pick
    piece store grove c.requires.fits
    (record { proper = c.requires.proper; whole = c.requires.shaped })) comes)
    c.planned.ensures.comes
