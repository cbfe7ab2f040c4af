use Rattle.std.proofs.Common.{◌≡◌, drop, map}
use Rattle.model_commands.specs.SortTests.{feeds}
use Rattle.dom_terms.specs.Terms.{prog_var_of, term_of}
use Rattle.dom_syntax.proofs.sort_tests.do_arguments_feed.Given as goal

abbrev pub invariant-loop-param : goal.invariant-loop-param
invariant-loop-param l =
    feeds (map prog_var_of l.params) (map term_of l.arguments)
    ≡ feeds (map prog_var_of (drop l.param-index l.params)) (map term_of l.others)
