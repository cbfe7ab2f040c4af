use Rattle.std.proofs.Common.{sym, subst}
use Rattle.model_limits.specs.Limits.{standard_limits}
use Rattle.model_machine.specs.Outcomes.{step_limit}
use Rattle.dom_terms.specs.Stores.{store_of}
use Rattle.grove_data.specs.Trees.{forest_of}
use Rattle.theory_syntax.specs.Commands.{command_of}
use Rattle.dom_meaning.specs.declared.configurations.Pending.{Pending}
use Rattle.dom_meaning.specs.Configs.{piece_of}
use Rattle.dom_meaning.specs.Effects.{Counted}
use Rattle.dom_meaning.specs.Faults.{TellsLimit}
use Rattle.dom_meaning.proofs.EffectLaws.{without_numbers}
use Rattle.dom_meaning.proofs.plans.piece_effect.Goals as goal

pub returns-in-Run-clause-limit : goal.returns-in-Run-clause-limit
returns-in-Run-clause-limit c = λ rest.
    let store = store_of c.args.store.now in
    let grove = forest_of c.args.document.now.grove in
    subst (λ (z : Pending). Counted (piece_of z) rest c.args.returns
    → TellsLimit c.command_effect.result (step_limit standard_limits (piece_of z) rest store grove))
    (sym c.in-Run.is)
    (λ counted. without_numbers c.command_effect.result (command_of c.in-Run.command) rest store
    grove (c.command_effect.ensures.limit rest counted))
