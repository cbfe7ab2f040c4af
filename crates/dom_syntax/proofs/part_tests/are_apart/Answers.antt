use Rattle.std.proofs.Common.{◌∙◌, sym, ◌&&◌, not, map}
use Rattle.std.specs.List.{flat_map, list_all}
use Rattle.model_commands.specs.CommandParts.{variables_of_term}
use Rattle.model_commands.specs.SortTests.{stands_in}
use Rattle.dom_terms.specs.Terms.{prog_var_of, term_of}
use Rattle.dom_syntax.proofs.PartTestLaws.{results-outside}
use Rattle.dom_syntax.proofs.part_tests.are_apart.Goals as goal

pub returns-then-branch : goal.returns-then-branch
returns-then-branch c =
    c.are_all_outside.ensures
    ∙ results-outside (map prog_var_of c.args.results.now)
    (flat_map variables_of_term (map term_of c.args.arguments.now))
    ∙ (λ j. (sym c.if-branch.true ∙ c.in_ok-put_each.ensures.0) j && list_all (λ x. not (stands_in
    (flat_map variables_of_term (map term_of c.args.arguments.now)) x))
    (map prog_var_of c.args.results.now))
