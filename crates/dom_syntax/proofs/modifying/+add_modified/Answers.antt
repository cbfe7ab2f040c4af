-- A local block modifies what its block does, but for its own variable.
use Rattle.std.proofs.Common.{◌≡◌, ◌∷◌, ◌∙◌, ap, sym, subst, false}
use Rattle.std.proofs.lemmas.Result.{on_ok_weaker}
use Rattle.model_commands.specs.Commands.{Command, local, BlockModifies, Modifies}
use Rattle.model_commands.specs.SortTests.{is_among}
use Rattle.dom_terms.specs.Terms.{prog_var_of}
use Rattle.theory_syntax.specs.Commands.{block_of, command_of, command_step}
use Rattle.theory_syntax.specs.declared.commands.Command.TheOpen.{Command-F}
use Rattle.theory_syntax.specs.declared.commands.Command.TheFolds.{fold-roll-Command}
use Rattle.theory_syntax.specs.declared.commands.Command.TheVariants.{rolls-Local}
use Rattle.dom_syntax.specs.Modified.{found_in, shadowed_by}
use Rattle.dom_syntax.proofs.ModifiedLaws.{adds-as, outside-local, local-outside}
use Rattle.dom_syntax.proofs.modifying.+add_modified.Goals as goal

pub add_modified-returns-in-Local-clause-added : goal.add_modified-returns-in-Local-clause-added
add_modified-returns-in-Local-clause-added t c =
    let own = prog_var_of c.in-Local.x in
    let around = shadowed_by c.args.over.now in
    let block = block_of c.in-Local.block in
    let seen : command_of c.args.command.now ≡ local own block =
    ap command_of (c.in-Local.is ∙ sym (rolls-Local c.in-Local.x c.in-Local.block))
    ∙ fold-roll-Command Command command_step (Command-F.Local c.in-Local.x c.in-Local.block) in
    on_ok_weaker c.add_in_block-in-Local.result
    (adds-as (found_in c.args.found.now) (found_in c.add_in_block-in-Local.new.found)
    (λ y. BlockModifies block y × (is_among (own ∷ around) y ≡ false))
    (λ y. Modifies (command_of c.args.command.now) y × (is_among around y ≡ false))
    (λ y h. subst (λ k. Modifies k y × (is_among around y ≡ false)) (sym seen)
    (outside-local own around (BlockModifies block) y h))
    (λ y h. local-outside own around (BlockModifies block) y
    (subst (λ k. Modifies k y × (is_among around y ≡ false)) seen h)))
    c.add_in_block-in-Local.ensures.added
