-- What the machine does with the piece that is kept last.
use Rattle.std.proofs.Common.{◌≡◌, ◌≢◌, List, [], ◌∷◌, ◌++◌, Ok, Err, sym, ap, ◌∙◌, subst}
use Rattle.std.specs.Prelude.{Result, IfOk}
use Rattle.model_shapes.specs.Trees.{Trees}
use Rattle.model_terms.specs.Stores.{Store}
use Rattle.model_commands.specs.Theories.{Procedures}
use Rattle.model_machine.specs.Machine as model
use Rattle.model_groves.specs.Picks.{Pick}
use Rattle.model_machine.specs.Machine.{Piece, Move, becomes, faults, bad_pick, move, configuration, next, at_fault, at_bad_pick, stepped, step}
use Rattle.model_limits.specs.Limits.{standard_limits}
use Rattle.model_machine.specs.Outcomes.{step_limit, limit_ahead}
use Rattle.model_machine.specs.Fitting.{FitsPiece, FitPieces, FitsConfig}
use Rattle.model_machine.proofs.Fine.{step-fits}
use Rattle.model_commands.specs.SortTests.{BodiesSorted}
use Rattle.dom_terms.specs.Stores.{store_of}
use Rattle.grove_data.specs.Trees.{forest_of}
use Rattle.dom_meaning.specs.declared.configurations.Pending.{Pending}
use Rattle.dom_meaning.specs.declared.configurations.Config.{Config}
use Rattle.dom_meaning.specs.declared.faults.StepFault.{StepFault}
use Rattle.dom_meaning.specs.declared.steps.StepOut.{StepOut}
use Rattle.dom_meaning.specs.declared.steps.StepOut.TheVariants as o
use Rattle.dom_meaning.specs.Configs.{piece_of, pieces_in, config_of}
use Rattle.dom_meaning.specs.Steps.{answer_of}
use Rattle.dom_meaning.proofs.PieceLaws.{pieces_in-append}

module _ (ps : Procedures) (config : Config) (piece : Pending) (others : List Pending)
    (last : config.pending ≡ others ++ piece ∷ []) where
  first : (config_of config).pending ≡ piece_of piece ∷ pieces_in others
  first = ap pieces_in last ∙ pieces_in-append others (piece ∷ [])

  pub piece_fits : FitsConfig ps (config_of config) → FitsPiece ps (piece_of piece)
  piece_fits fits = (subst (FitPieces ps) first fits.pieces).0

  pub piece_limit : limit_ahead standard_limits (config_of config)
      ≡ step_limit standard_limits (piece_of piece) (pieces_in others) (store_of config.store)
      (forest_of config.grove)
  piece_limit =
      ap (λ z. limit_ahead standard_limits (configuration z (store_of config.store)
      (forest_of config.grove))) first

  -- the step, by the move of the piece
  step_of : (pick : Pick) (m : Move)
      → m ≡ move ps pick (piece_of piece) (store_of config.store) (forest_of config.grove)
      → stepped (pieces_in others) m ≡ step ps (config_of config) pick
  step_of pick m e =
      ap (stepped (pieces_in others)) e
      ∙ sym (ap (λ z. step ps (configuration z (store_of config.store) (forest_of config.grove))
      pick) first)

  pub it_faults : (pick : Pick) (kind : model.FaultKind)
      → faults kind ≡ move ps pick (piece_of piece) (store_of config.store) (forest_of config.grove)
      → at_fault kind ≡ step ps (config_of config) pick
  it_faults pick kind e = step_of pick (faults kind) e

  pub it_picks : (pick : Pick)
      → bad_pick ≡ move ps pick (piece_of piece) (store_of config.store) (forest_of config.grove)
      → at_bad_pick ≡ step ps (config_of config) pick
  it_picks pick e = step_of pick bad_pick e

  -- the configuration with the pieces in its place is the next one
  pub it_becomes : (pick : Pick) (pieces : List Piece) (store : Store) (grove : Trees)
      → becomes pieces store grove
      ≡ move ps pick (piece_of piece) (store_of config.store) (forest_of config.grove)
      → (after : Config) → pieces_in after.pending ≡ pieces ++ pieces_in others
      → store_of after.store ≡ store → forest_of after.grove ≡ grove
      → next (config_of after) ≡ step ps (config_of config) pick
  it_becomes pick pieces store grove moves after pending same_store same_grove =
      (λ i. next (configuration (pending i) (same_store i) (same_grove i)))
      ∙ step_of pick (becomes pieces store grove) moves

-- a step that answers as the machine does leaves a configuration that fits
pub stays_fit : (ps : Procedures) → BodiesSorted ps → (before after : Config) (pick : Pick)
    (result : Result StepOut StepFault) → FitsConfig ps (config_of before)
    → IfOk result (λ out. answer_of out (config_of after) ≡ step ps (config_of before) pick)
    → (result ≢ Ok o.Next → after ≡ before) → FitsConfig ps (config_of after)
stays_fit ps bodies before after pick (Ok o.Next) fits is same =
    step-fits ps bodies pick (config_of before) (config_of after) fits (sym is)
stays_fit ps bodies before after pick (Ok o.Done) fits is same =
    subst (λ z. FitsConfig ps (config_of z)) (sym (same (λ e. cc))) fits
stays_fit ps bodies before after pick (Ok (o.Fault kind)) fits is same =
    subst (λ z. FitsConfig ps (config_of z)) (sym (same (λ e. cc))) fits
stays_fit ps bodies before after pick (Ok o.BadPick) fits is same =
    subst (λ z. FitsConfig ps (config_of z)) (sym (same (λ e. cc))) fits
stays_fit ps bodies before after pick (Err fault) fits is same =
    subst (λ z. FitsConfig ps (config_of z)) (sym (same (λ e. cc))) fits
