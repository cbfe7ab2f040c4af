-- The local variables of the two blocks of a choice, and one variable before those of its block.
use Rattle.std.proofs.Common.{◌≡◌, ◌∷◌, [], ◌++◌, ◌∙◌, ap, sym, subst, map}
use Rattle.std.proofs.lemmas.Result.{on_ok_weaker}
use Rattle.model_commands.specs.Commands.{Command, if_else, local}
use Rattle.model_commands.specs.CommandParts.{locals_of}
use Rattle.dom_terms.specs.Conditions.{cond_of}
use Rattle.dom_terms.specs.Sorts.{value_sort_of}
use Rattle.dom_terms.specs.Terms.{prog_var_of}
use Rattle.theory_syntax.specs.Commands.{block_of, command_of, command_step}
use Rattle.theory_syntax.specs.declared.commands.Command.TheOpen.{Command-F}
use Rattle.theory_syntax.specs.declared.commands.Command.TheFolds.{fold-roll-Command}
use Rattle.theory_syntax.specs.declared.commands.Command.TheVariants.{rolls-If, rolls-Local}
use Rattle.dom_syntax.specs.Scopes.{block_locals, variable_entry}
use Rattle.dom_syntax.specs.Tables.{Declares}
use Rattle.dom_syntax.proofs.ScopeLaws.{blocks-behind, entries-behind}
use Rattle.dom_syntax.proofs.scopes.+declare_locals.Goals as goal

pub declare_locals-returns-in_ok-declare_block_locals-in-If :
    goal.declare_locals-returns-in_ok-declare_block_locals-in-If
declare_locals-returns-in_ok-declare_block_locals-in-If t c =
    let a = block_of c.in-If.first in
    let b = block_of c.in-If.second in
    let seen : command_of c.args.command.now ≡ if_else (cond_of c.in-If.field-0) a b =
    ap command_of (c.in-If.is ∙ sym (rolls-If c.in-If.field-0 c.in-If.first c.in-If.second))
    ∙ fold-roll-Command Command command_step
    (Command-F.If c.in-If.field-0 c.in-If.first c.in-If.second) in
    on_ok_weaker c.declare_block_locals-in-If.result
    (λ second ds told. subst (Declares value_sort_of c.declare_block_locals-in-If.new.table)
    (blocks-behind ds a b
    ∙ ap (λ x. ds ++ map variable_entry (locals_of x)) (sym seen))
    (second (ds ++ map variable_entry (block_locals a))
    (c.in_ok-declare_block_locals-in-If.ensures ds told)))
    c.declare_block_locals-in-If.ensures

pub declare_locals-returns-in_ok-declare-in-Local :
    goal.declare_locals-returns-in_ok-declare-in-Local
declare_locals-returns-in_ok-declare-in-Local t c =
    let x = prog_var_of c.in-Local.variable in
    let b = block_of c.in-Local.block in
    let seen : command_of c.args.command.now ≡ local x b =
    ap command_of (c.in-Local.is ∙ sym (rolls-Local c.in-Local.variable c.in-Local.block))
    ∙ fold-roll-Command Command command_step
    (Command-F.Local c.in-Local.variable c.in-Local.block) in
    on_ok_weaker c.declare_block_locals-in-Local.result
    (λ below ds told. subst (Declares value_sort_of c.declare_block_locals-in-Local.new.table)
    (entries-behind ds (x ∷ []) (block_locals b)
    ∙ ap (λ y. ds ++ map variable_entry (locals_of y)) (sym seen))
    (below (ds ++ map variable_entry (x ∷ []))
    (subst (λ t. Declares value_sort_of c.declare.new.self
    (ds ++ (t, value_sort_of c.in-Local.variable.sort) ∷ []))
    c.as_str.ensures (c.in_ok-declare-in-Local.ensures ds told))))
    c.declare_block_locals-in-Local.ensures
