use Rattle.std.proofs.Common.{◌≡◌, ◌∙◌, sym, Bool}
use Rattle.std.specs.List.{list_all}
use Rattle.model_commands.specs.CommandParts.{commands_in, own_variables}
use Rattle.theory_syntax.specs.Commands.{command_of}
use Rattle.dom_syntax.specs.Contents.{variables_of_any}
use Rattle.dom_syntax.proofs.ContentLaws.{each-own, if-ok}
use Rattle.dom_syntax.proofs.contents.all_in_command.Goals as goal

pub returns-in-Some : goal.returns-in-Some
returns-in-Some g c =
    if-ok c.all_commands.result
    (λ (b : Bool). b ≡ list_all
    (λ d. list_all (g.T.VariableTest.test c.args.test.now) (own_variables d))
    (commands_in (command_of c.in-Some.command.now)))
    (λ (b : Bool). b ≡ list_all (g.T.VariableTest.test c.args.test.now)
    (variables_of_any c.args.command))
    (λ b e. e
    ∙ each-own (g.T.VariableTest.test c.args.test.now)
    (commands_in (command_of c.in-Some.command.now))
    ∙ (λ j. list_all (g.T.VariableTest.test c.args.test.now)
    (variables_of_any (sym c.in-Some.is j))))
    c.all_commands.ensures
