use Rattle.std.proofs.Common.{◌∙◌, ap, arith, map}
use Rattle.std.specs.List.{list_all}
use Rattle.std.proofs.lemmas.Grind.{common_steps}
use Rattle.model_commands.specs.CommandParts.{variables_of_command}
use Rattle.model_grammar.specs.Sorts.{sorted_command}
use Rattle.theory_syntax.specs.Commands.{block_with, command_of}
use Rattle.declared_sorts.specs.Declarations.{declared_of, scope_in}
use Rattle.declared_sorts.specs.Settled.{is_settled}
use Rattle.declared_sorts.proofs.CommandLaws.{each_command, loop_told, choice_told}
use Rattle.declared_sorts.proofs.Each.{all_changed, block_changed}
use Rattle.declared_sorts.proofs.Loops.{one_told, all_told}
use Rattle.declared_sorts.proofs.commands.+sorting.Goals as goal

pub set_commands-loop-i-preserved : goal.set_commands-loop-i-preserved
set_commands-loop-i-preserved t c =
    let p = is_settled (scope_in c.args.declared.now) in
    record {
      unvisited = grind (arith, common_steps);
      each = grind (arith, common_steps);
      told = one_told command_of (λ d. list_all p (variables_of_command d))
          c.loop-i.commands c.loop-i.i c.set_sorts-is_settled.new.self _ _ (omega arith)
          c.loop-i.invariant.told c.set_sorts-is_settled.ensures.settled;
    }

pub set_commands-returns-clause-sorted : goal.set_commands-returns-clause-sorted
set_commands-returns-clause-sorted t c =
    let declared = declared_of c.args.declared.now in
    ap block_with (all_changed command_of (sorted_command declared) c.loop-i.commands
    c.args.commands.now (omega arith) λ k d lt. c.loop-i.invariant.each.each k d (omega arith))
    ∙ block_changed declared _

pub set_commands-returns-clause-settled : goal.set_commands-returns-clause-settled
set_commands-returns-clause-settled t c =
    let p = is_settled (scope_in c.args.declared.now) in
    all_told command_of (λ d. list_all p (variables_of_command d)) c.loop-i.commands c.loop-i.i _
    (omega arith) c.loop-i.invariant.told
    ∙ each_command p (map command_of c.loop-i.commands)

pub CommandSorted::set_sorts-returns-in-If-clause-settled :
    goal.CommandSorted::set_sorts-returns-in-If-clause-settled
CommandSorted::set_sorts-returns-in-If-clause-settled t c =
    choice_told (is_settled (scope_in c.args.declared.now)) c.set_sorts-is_cond_settled.new.self
    c.set_block-is_first_settled.new.block c.set_block-is_second_settled.new.block _ _ _
    c.set_sorts-is_cond_settled.ensures.settled c.set_block-is_first_settled.ensures.settled
    c.set_block-is_second_settled.ensures.settled

pub CommandSorted::set_sorts-returns-in-While-clause-settled :
    goal.CommandSorted::set_sorts-returns-in-While-clause-settled
CommandSorted::set_sorts-returns-in-While-clause-settled t c =
    loop_told (is_settled (scope_in c.args.declared.now))
    c.set_sorts-is_cond_settled-in-While.new.self c.set_block-is_block_settled-in-While.new.block
    _ _ c.set_sorts-is_cond_settled-in-While.ensures.settled
    c.set_block-is_block_settled-in-While.ensures.settled
