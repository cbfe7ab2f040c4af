use Rattle.model_commands.specs.Theories.{procedures_of}
use Rattle.model_files.proofs.WellFormedTheories.{well-formed-bodies}
use Rattle.theory_syntax.specs.Theories.{theory_of}
use Rattle.dom_meaning.specs.Configs.{pick_of}
use Rattle.dom_meaning.proofs.FirstPieces.{stays_fit}
use Rattle.dom_meaning.proofs.steps.step.Goals as goal

pub returns-clause-fits : goal.returns-clause-fits
returns-clause-fits c =
    stays_fit (procedures_of (theory_of c.args.theory.now))
    (well-formed-bodies (theory_of c.args.theory.now) c.requires.well_formed)
    c.args.config.now c.stepped.new.config (pick_of c.args.pick) c.stepped.result
    c.requires.fits c.stepped.ensures.step c.stepped.ensures.unchanged
