use Rattle.std.proofs.Common.{◌≡◌, drop, map, not}
use Rattle.std.specs.List.{list_all}
use Rattle.model_commands.specs.SortTests.{is_among}
use Rattle.dom_terms.specs.Terms.{prog_var_of}
use Rattle.dom_syntax.specs.Scopes.{procedure_in}
use Rattle.dom_syntax.proofs.part_tests.are_no_params.Given as goal

abbrev pub invariant-loop-variable : goal.invariant-loop-variable
invariant-loop-variable l =
    list_all (λ x. not (is_among (procedure_in l.scope).params x)) (map prog_var_of l.variables)
    ≡ list_all (λ x. not (is_among (procedure_in l.scope).params x))
    (map prog_var_of (drop l.variable-index l.variables))
