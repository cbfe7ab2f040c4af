use Rattle.std.proofs.Common.{◌≡◌, drop, map}
use Rattle.std.specs.List.{list_all, flat_map}
use Rattle.model_commands.specs.CommandParts.{variables_of_term}
use Rattle.dom_terms.specs.Terms.{term_of}
use Rattle.dom_syntax.proofs.variable_tests.all_in_terms.Given as goal

abbrev pub invariant-loop-term : goal.invariant-loop-term
invariant-loop-term g l =
    list_all (g.T.VariableTest.test l.test) (flat_map variables_of_term (map term_of l.terms))
    ≡ list_all (g.T.VariableTest.test l.test)
    (flat_map variables_of_term (map term_of (drop l.term-index l.terms)))
