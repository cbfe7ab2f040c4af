use Rattle.std.proofs.Common.{◌≡◌, ◌∙◌, sym, ap, map}
use Rattle.std.specs.Prelude.{Ok}
use Rattle.model_commands.specs.Commands.{Command, call}
use Rattle.dom_terms.specs.Terms.{prog_var_of, term_of}
use Rattle.dom_terms.specs.Stores.{store_of}
use Rattle.theory_syntax.specs.Commands.{command_of, command_step}
use Rattle.theory_syntax.specs.declared.commands.Command.TheOpen.{Command-F}
use Rattle.theory_syntax.specs.declared.commands.Command.TheFolds.{fold-roll-Command}
use Rattle.theory_syntax.specs.declared.commands.Command.TheVariants.{rolls-Call}
use Rattle.dom_meaning.proofs.EffectLaws.{call_limit, tells_none}
use Rattle.dom_meaning.proofs.commands.still.Goals as goal

pub returns-in-Call-clause-limit : goal.returns-in-Call-clause-limit
returns-in-Call-clause-limit g c = λ rest numbers.
    let is : command_of c.args.command.now ≡ call (map prog_var_of c.in-Call.results)
    c.in-Call.name (map term_of c.in-Call.arguments) =
    ap command_of (c.in-Call.is
    ∙ sym (rolls-Call c.in-Call.results c.in-Call.name c.in-Call.arguments))
    ∙ fold-roll-Command Command command_step
    (Command-F.Call c.in-Call.results c.in-Call.name c.in-Call.arguments) in
    call_limit c.called.result (command_of c.args.command.now) (map prog_var_of c.in-Call.results)
    c.in-Call.name (map term_of c.in-Call.arguments) is c.args.returns
    (store_of c.args.store.now) c.called.ensures.limit rest
    (g.D.Document.grove c.args.document.now) numbers

pub returns-in-Assign-clause-change : goal.returns-in-Assign-clause-change
returns-in-Assign-clause-change g c = λ pick.
    tells_none c.assigned.result (command_of c.args.command.now) c.requires.still
    c.assigned.ensures.change pick (store_of c.args.store.now)
    (g.D.Document.grove c.args.document.now)

pub returns-in-Name-clause-change : goal.returns-in-Name-clause-change
returns-in-Name-clause-change g c = λ pick.
    tells_none c.node_read.result (command_of c.args.command.now) c.requires.still
    c.node_read.ensures.change pick (store_of c.args.store.now)
    (g.D.Document.grove c.args.document.now)

pub returns-in-Parent-clause-change : goal.returns-in-Parent-clause-change
returns-in-Parent-clause-change g c = λ pick.
    tells_none c.node_read-in-Parent.result (command_of c.args.command.now) c.requires.still
    c.node_read-in-Parent.ensures.change pick (store_of c.args.store.now)
    (g.D.Document.grove c.args.document.now)

pub returns-in-Children-clause-change : goal.returns-in-Children-clause-change
returns-in-Children-clause-change g c = λ pick.
    tells_none c.node_read-in-Children.result (command_of c.args.command.now) c.requires.still
    c.node_read-in-Children.ensures.change pick (store_of c.args.store.now)
    (g.D.Document.grove c.args.document.now)

pub returns-in-Item-clause-change : goal.returns-in-Item-clause-change
returns-in-Item-clause-change g c = λ pick.
    tells_none c.item_read.result (command_of c.args.command.now) c.requires.still
    c.item_read.ensures.change pick (store_of c.args.store.now)
    (g.D.Document.grove c.args.document.now)

pub returns-in-If-clause-change : goal.returns-in-If-clause-change
returns-in-If-clause-change g c = λ pick.
    tells_none c.chosen.result (command_of c.args.command.now) c.requires.still
    c.chosen.ensures.change pick (store_of c.args.store.now)
    (g.D.Document.grove c.args.document.now)

pub returns-in-While-clause-change : goal.returns-in-While-clause-change
returns-in-While-clause-change g c = λ pick.
    tells_none c.repeated.result (command_of c.args.command.now) c.requires.still
    c.repeated.ensures.change pick (store_of c.args.store.now)
    (g.D.Document.grove c.args.document.now)

pub returns-in-Call-clause-change : goal.returns-in-Call-clause-change
returns-in-Call-clause-change g c = λ pick.
    tells_none c.called.result (command_of c.args.command.now) c.requires.still
    c.called.ensures.change pick (store_of c.args.store.now)
    (g.D.Document.grove c.args.document.now)

pub returns-in_ok-opened-in-Local-clause-change : goal.returns-in_ok-opened-in-Local-clause-change
returns-in_ok-opened-in-Local-clause-change g c = λ pick.
    tells_none (Ok c.in_ok-opened-in-Local.field-0) (command_of c.args.command.now)
    c.requires.still c.in_ok-opened-in-Local.ensures.change pick (store_of c.args.store.now)
    (g.D.Document.grove c.args.document.now)
