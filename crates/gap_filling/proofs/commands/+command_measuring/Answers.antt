use Rattle.std.proofs.Common.{◌≡◌, ◌∙◌, sym, rules, codes, [], IsTrue, false, refl, arith, length, ◌≤◌}
use Rattle.dom_terms.specs.Terms.{prog_var_of, term_of}
use Rattle.dom_terms.specs.Conditions.{cond_of}
use Rattle.theory_syntax.specs.Commands.{command_of, block_of}
use Rattle.theory_syntax.specs.declared.commands.Command.TheOpen.{Command-F}
use Rattle.theory_syntax.specs.declared.commands.Command.TheVariants.{rolls-Create, rolls-Name, rolls-Parent, rolls-Children, rolls-Append, rolls-Remove, rolls-InsertBefore, rolls-If, rolls-While, rolls-Local}
use Rattle.model_commands.specs.Commands as model
use Rattle.theory_writing.proofs.MarkLemmas.{lexemes_of_command, seen}
use Rattle.gap_filling.proofs.Marks.{goes_on, ends, block_room}
use Rattle.gap_filling.proofs.Measures.{unfit, measured_rules}
use Rattle.model_grammar.specs.Writing.{block_lexemes}
use Rattle.gap_filling.proofs.commands.+command_measuring.Goals as goal

pub measure_block-loop-command-preserved : goal.measure_block-loop-command-preserved
measure_block-loop-command-preserved t c = (
  rw (c.measure_command.ensures, c.token-in-loop-command.ensures)
      (goes_on lexemes_of_command c.loop-command.mark.now (codes ";")
      c.as_slice-command-items.result.now c.loop-command.command-index c.command-item.result
      c.command-item.result
      c.loop-command.meter _
      c.loop-command-test.true c.command-item.is c.loop-command.invariant.0),
  search rules,
)

pub measure_block-returns : goal.measure_block-returns
measure_block-returns t c =
    let some : c.args.block.now ≡ [] → ⊥ =
    λ e. (let h : IsTrue false = c.if-is_empty.ensures.1 e in cc) in
    let le : length c.as_slice-command-items.result.now ≤ c.loop-command.command-index =
    omega (arith, c.loop-command-test.false) in
    rw (
      c.token-2.ensures,
      ends lexemes_of_command c.loop-command.mark.now (codes ";")
          c.as_slice-command-items.result.now c.loop-command.command-index c.loop-command.meter _
          le c.loop-command.invariant.0,
      c.as_slice-command-items.ensures,
    ) (block_room c.args.block.now some c.args.meter.now)

pub measure_command-returns-in-Create : goal.measure_command-returns-in-Create
measure_command-returns-in-Create t c =
    let e : command_of c.args.command.now
    ≡ model.create_node (prog_var_of c.in-Create.x) (term_of c.in-Create.name)
    = seen _ (Command-F.Create c.in-Create.x c.in-Create.name)
    (c.in-Create.is ∙ sym (rolls-Create c.in-Create.x c.in-Create.name)) in
    rw e c.measure_asked.ensures

pub measure_command-returns-in-Name : goal.measure_command-returns-in-Name
measure_command-returns-in-Name t c =
    let e : command_of c.args.command.now
    ≡ model.node_name (prog_var_of c.in-Name.x) (term_of c.in-Name.node)
    = seen _ (Command-F.Name c.in-Name.x c.in-Name.node)
    (c.in-Name.is ∙ sym (rolls-Name c.in-Name.x c.in-Name.node)) in
    rw e c.measure_asked-in-Name.ensures

pub measure_command-returns-in-Parent : goal.measure_command-returns-in-Parent
measure_command-returns-in-Parent t c =
    let e : command_of c.args.command.now
    ≡ model.parent_node (prog_var_of c.in-Parent.x) (term_of c.in-Parent.node)
    = seen _ (Command-F.Parent c.in-Parent.x c.in-Parent.node)
    (c.in-Parent.is ∙ sym (rolls-Parent c.in-Parent.x c.in-Parent.node)) in
    rw e c.measure_asked-in-Parent.ensures

pub measure_command-returns-in-Children : goal.measure_command-returns-in-Children
measure_command-returns-in-Children t c =
    let e : command_of c.args.command.now
    ≡ model.child_nodes (prog_var_of c.in-Children.x) (term_of c.in-Children.node)
    = seen _ (Command-F.Children c.in-Children.x c.in-Children.node)
    (c.in-Children.is ∙ sym (rolls-Children c.in-Children.x c.in-Children.node)) in
    rw e c.measure_asked-in-Children.ensures

pub measure_command-returns-in-Append : goal.measure_command-returns-in-Append
measure_command-returns-in-Append t c =
    let e : command_of c.args.command.now
    ≡ model.append_child (term_of c.in-Append.parent) (term_of c.in-Append.child)
    = seen _ (Command-F.Append c.in-Append.parent c.in-Append.child)
    (c.in-Append.is ∙ sym (rolls-Append c.in-Append.parent c.in-Append.child)) in
    rw e c.measure_on_two.ensures

pub measure_command-returns-in-Remove : goal.measure_command-returns-in-Remove
measure_command-returns-in-Remove t c =
    let e : command_of c.args.command.now
    ≡ model.remove_child (term_of c.in-Remove.parent) (term_of c.in-Remove.child)
    = seen _ (Command-F.Remove c.in-Remove.parent c.in-Remove.child)
    (c.in-Remove.is ∙ sym (rolls-Remove c.in-Remove.parent c.in-Remove.child)) in
    rw e c.measure_on_two-in-Remove.ensures

pub measure_command-returns-in-InsertBefore : goal.measure_command-returns-in-InsertBefore
measure_command-returns-in-InsertBefore t c =
    let e : command_of c.args.command.now
    ≡ model.insert_before (term_of c.in-InsertBefore.parent) (term_of c.in-InsertBefore.child)
    (term_of c.in-InsertBefore.next)
    = seen _ (Command-F.InsertBefore c.in-InsertBefore.parent c.in-InsertBefore.child
    c.in-InsertBefore.next) (c.in-InsertBefore.is ∙ sym (rolls-InsertBefore
    c.in-InsertBefore.parent c.in-InsertBefore.child c.in-InsertBefore.next)) in
    rw e c.measure_on_three.ensures

pub measure_command-returns-in-If :
    goal.measure_command-returns-in-If
measure_command-returns-in-If t c =
    let e : command_of c.args.command.now ≡ model.if_else (cond_of c.in-If.cond)
    (block_of c.in-If.first) (block_of c.in-If.second)
    = seen _ (Command-F.If c.in-If.cond c.in-If.first c.in-If.second)
    (c.in-If.is ∙ sym (rolls-If c.in-If.cond c.in-If.first c.in-If.second)) in
    rw (
      e,
      c.measure_block-in-If-2.ensures,
      c.token-in-If-2.ensures,
      c.measure_block-in-If.ensures,
      c.measure_condition.ensures,
      c.token-in-If.ensures,
    ) (simp measured_rules refl)

pub measure_command-returns-in-While :
    goal.measure_command-returns-in-While
measure_command-returns-in-While t c =
    let e : command_of c.args.command.now
    ≡ model.while_do (cond_of c.in-While.cond) (block_of c.in-While.block)
    = seen _ (Command-F.While c.in-While.cond c.in-While.block)
    (c.in-While.is ∙ sym (rolls-While c.in-While.cond c.in-While.block)) in
    rw (
      e,
      c.measure_block-in-While.ensures,
      c.measure_condition-in-While.ensures,
      c.token-in-While.ensures,
    ) (simp measured_rules refl)

pub measure_command-returns-in-Local :
    goal.measure_command-returns-in-Local
measure_command-returns-in-Local t c =
    let e : command_of c.args.command.now
    ≡ model.local (prog_var_of c.in-Local.x) (block_of c.in-Local.block)
    = seen _ (Command-F.Local c.in-Local.x c.in-Local.block)
    (c.in-Local.is ∙ sym (rolls-Local c.in-Local.x c.in-Local.block)) in
    rw (e, c.measure_block-in-Local.ensures, c.measure_local.ensures)
    (simp measured_rules refl)

pub measure_block-returns-then-not-meter : goal.measure_block-returns-then-not-meter
measure_block-returns-then-not-meter t c =
    sym (unfit c.args.meter.now (block_lexemes (block_of c.args.block.now)) c.if-not-meter.true)
