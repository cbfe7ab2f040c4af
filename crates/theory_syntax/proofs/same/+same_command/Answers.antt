use Rattle.std.proofs.Common.{◌≡◌, ◌∙◌, sym, refl, false, List, [], ◌∷◌, ◌≤◌, length, arith}
use Rattle.std.proofs.lemmas.List.{at_drop_all}
use Rattle.theory_syntax.specs.Commands.{block_of}
use Rattle.theory_syntax.specs.SameCommands.{same_block}
use Rattle.theory_syntax.specs.declared.commands.Command.{Command}
use Rattle.theory_syntax.proofs.same.+same_command.Goals as goal

-- no commands are left of the one, and some of the other
some-left : (others : List Command) → 1 ≤ length others
    → same_block (block_of []) (block_of others) ≡ false
some-left [] n = absurd (omega arith)
some-left (c ∷ others) n = refl

pub do_blocks_agree-returns-in_default-matches : goal.do_blocks_agree-returns-in_default-matches
do_blocks_agree-returns-in_default-matches t c =
    sym (c.loop-command.invariant
    ∙ at_drop_all (λ z. same_block (block_of z) (block_of c.loop-command.others.now))
    c.as_slice-command-items.result.now
    c.loop-command.command-index (omega (arith, c.loop-command-test.false))
    ∙ some-left c.loop-command.others.now c.in_default-matches.len_at_least)
