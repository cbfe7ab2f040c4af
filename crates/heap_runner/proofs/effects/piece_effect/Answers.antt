use Rattle.std.proofs.Common.{◌∙◌, [], map, refl, sym, ap}
use Rattle.model_terms.specs.Stores.{set}
use Rattle.model_commands.specs.Theories.{procedures_of}
use Rattle.model_groves.specs.Picks.{next_pick}
use Rattle.model_machine.specs.Machine.{becomes, move, returning}
use Rattle.dom_terms.specs.Stores.{store_of}
use Rattle.dom_terms.specs.Terms.{prog_var_of}
use Rattle.theory_syntax.specs.Theories.{theory_of}
use Rattle.dom_meaning.specs.Configs.{piece_of}
use Rattle.heap_runner.specs.Pieces.{first_seen}
use Rattle.heap_runner.specs.declared.pieces.First.{First}
use Rattle.heap_runner.proofs.StackLaws.{as_command}
use Rattle.heap_runner.proofs.effects.piece_effect.Goals as goal

pub returns-in-Block-clause-comes : goal.returns-in-Block-clause-comes
returns-in-Block-clause-comes c =
    let ps = procedures_of (theory_of c.args.theory.now) in
    let store = store_of c.args.store.now in
    let trees = c.args.heap.now.grove in
    let pick = next_pick trees in (
      trees,
      sym (ap (λ (z : First). move ps pick (piece_of (first_seen z)) store trees) c.in-Block.is
          ∙ ap (λ z. move ps pick z store trees) (as_command c.in-Block.block.now)),
      λ t. refl,
    )

pub returns-in_ok-copy-in-Restore-clause-comes : goal.returns-in_ok-copy-in-Restore-clause-comes
returns-in_ok-copy-in-Restore-clause-comes c =
    let ps = procedures_of (theory_of c.args.theory.now) in
    let store = store_of c.args.store.now in
    let trees = c.args.heap.now.grove in
    let variable = prog_var_of c.in-Restore.variable.now in (
      trees,
      ap (λ z. becomes [] (set variable z store) trees) c.in_ok-copy-in-Restore.ensures
          ∙ sym (ap (λ (z : First). move ps (next_pick trees) (piece_of (first_seen z)) store trees)
          c.in-Restore.is),
      λ t. refl,
    )

pub returns-in_ok-with_results-in-Return-clause-comes :
    goal.returns-in_ok-with_results-in-Return-clause-comes
returns-in_ok-with_results-in-Return-clause-comes c =
    let ps = procedures_of (theory_of c.args.theory.now) in
    let store = store_of c.args.store.now in
    let caller = store_of c.in-Return.caller.now in
    let trees = c.args.heap.now.grove in
    let results = c.as_slice-results.ensures in
    let variables = c.as_slice-variables.ensures in (
      trees,
      ap (λ z. becomes [] z trees) c.in_ok-with_results-in-Return.ensures
          ∙ (λ i. becomes [] (returning (map prog_var_of (results i))
          (map prog_var_of (variables i)) store caller) trees)
          ∙ sym (ap (λ (z : First). move ps (next_pick trees) (piece_of (first_seen z)) store trees)
          c.in-Return.is),
      λ t. refl,
    )
