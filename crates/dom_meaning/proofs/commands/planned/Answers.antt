use Rattle.std.proofs.Common.{◌≡◌, ◌∙◌, refl, sym, ap, subst}
use Rattle.std.specs.Prelude.{IfOk}
use Rattle.model_commands.specs.Commands.{Command, create_node, append_child, insert_before, remove_child}
use Rattle.model_commands.specs.Theories.{procedures_of}
use Rattle.model_machine.specs.Machine.{run}
use Rattle.dom_terms.specs.Terms.{prog_var_of, term_of}
use Rattle.dom_terms.specs.Stores.{store_of}
use Rattle.theory_syntax.specs.Commands.{command_of, command_step}
use Rattle.theory_syntax.specs.Theories.{theory_of}
use Rattle.theory_syntax.specs.declared.commands.Command.TheOpen.{Command-F}
use Rattle.theory_syntax.specs.declared.commands.Command.TheFolds.{fold-roll-Command}
use Rattle.theory_syntax.specs.declared.commands.Command.TheVariants.{rolls-Create, rolls-Append, rolls-InsertBefore, rolls-Remove}
use Rattle.dom_meaning.specs.Effects.{TellsChange}
use Rattle.dom_meaning.proofs.EffectLaws.{left_alone, all_kept}
use Rattle.dom_meaning.proofs.commands.planned.Goals as goal

pub returns-in-Create-clause-change : goal.returns-in-Create-clause-change
returns-in-Create-clause-change g c =
    let x = c.in-Create.x in
    let name = c.in-Create.name in
    let is : command_of c.args.command.now ≡ create_node (prog_var_of x) (term_of name) =
    ap command_of (c.in-Create.is ∙ sym (rolls-Create x name))
    ∙ fold-roll-Command Command command_step (Command-F.Create x name) in
    subst (λ (z : Command). IfOk c.created.result (TellsChange
    (g.D.Document.pick c.args.document.now) (run z) (store_of c.args.store.now)
    (g.D.Document.grove c.args.document.now))) (sym is) c.created.ensures.change

pub returns-in-Append-clause-change : goal.returns-in-Append-clause-change
returns-in-Append-clause-change g c =
    let parent = c.in-Append.parent in
    let child = c.in-Append.child in
    let is : command_of c.args.command.now ≡ append_child (term_of parent) (term_of child) =
    ap command_of (c.in-Append.is ∙ sym (rolls-Append parent child))
    ∙ fold-roll-Command Command command_step (Command-F.Append parent child) in
    subst (λ (z : Command). IfOk c.inserted.result (TellsChange
    (g.D.Document.pick c.args.document.now) (run z) (store_of c.args.store.now)
    (g.D.Document.grove c.args.document.now))) (sym is) c.inserted.ensures.change

pub returns-in-InsertBefore-clause-change : goal.returns-in-InsertBefore-clause-change
returns-in-InsertBefore-clause-change g c =
    let parent = c.in-InsertBefore.parent in
    let child = c.in-InsertBefore.child in
    let before = c.in-InsertBefore.next in
    let is : command_of c.args.command.now
    ≡ insert_before (term_of parent) (term_of child) (term_of before) =
    ap command_of (c.in-InsertBefore.is ∙ sym (rolls-InsertBefore parent child before))
    ∙ fold-roll-Command Command command_step (Command-F.InsertBefore parent child before) in
    subst (λ (z : Command). IfOk c.inserted-in-InsertBefore.result (TellsChange
    (g.D.Document.pick c.args.document.now) (run z) (store_of c.args.store.now)
    (g.D.Document.grove c.args.document.now))) (sym is) c.inserted-in-InsertBefore.ensures.change

pub returns-in-Remove-clause-change : goal.returns-in-Remove-clause-change
returns-in-Remove-clause-change g c =
    let parent = c.in-Remove.parent in
    let child = c.in-Remove.child in
    let is : command_of c.args.command.now ≡ remove_child (term_of parent) (term_of child) =
    ap command_of (c.in-Remove.is ∙ sym (rolls-Remove parent child))
    ∙ fold-roll-Command Command command_step (Command-F.Remove parent child) in
    subst (λ (z : Command). IfOk c.removed.result (TellsChange
    (g.D.Document.pick c.args.document.now) (run z) (store_of c.args.store.now)
    (g.D.Document.grove c.args.document.now))) (sym is) c.removed.ensures.change

pub returns-in_default : goal.returns-in_default
returns-in_default g c =
    let document = c.args.document.now in
    record {
      comes = left_alone (g.D.Document.StandsFor document) c.still.result
          (procedures_of (theory_of c.args.theory.now)) (g.D.Document.pick document)
          (command_of c.args.command.now) (store_of c.args.store.now)
          (g.D.Document.grove document) c.still.ensures.moves (g.met.D.Document.stands document);
      kept = all_kept g.D.Document.Keeps c.still.result document _ refl
          (g.met.D.Document.keeps document);
      change = c.still.ensures.change (g.D.Document.pick document);
      limit = λ rest. c.still.ensures.limit rest (g.D.Document.numbers_limit document);
    }
