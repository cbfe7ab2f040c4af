use Rattle.std.proofs.Common.{◌≡◌, ◌∙◌, sym, refl, List, [], ◌∷◌, arith}
use Rattle.std.proofs.lemmas.List.{at_drop_all}
use Rattle.theory_syntax.specs.Commands.{block_of}
use Rattle.theory_syntax.specs.SameCommands.{same_block}
use Rattle.theory_syntax.specs.declared.commands.Command.{Command}
use Rattle.triple_rules.specs.Tests.{no_items}
use Rattle.triple_rules.proofs.same.are_same_blocks.Goals as goal

-- no commands are left of the one
none-left : (others : List Command)
    → same_block (block_of []) (block_of others) ≡ no_items others
none-left [] = refl
none-left (c ∷ others) = refl

pub returns : goal.returns
returns c =
    c.is_nothing.ensures
    ∙ sym (c.loop-command.invariant
    ∙ at_drop_all (λ z. same_block (block_of z) (block_of c.loop-command.others.now))
    c.as_slice-command-items.result.now
    c.loop-command.command-index (omega (arith, c.loop-command-test.false))
    ∙ none-left c.loop-command.others.now)
