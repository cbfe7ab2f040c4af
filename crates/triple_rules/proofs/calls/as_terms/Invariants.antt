use Rattle.std.proofs.Common.{◌≡◌, map, take}
use Rattle.rule_table.specs.Notation.{prog_term}
use Rattle.dom_terms.specs.Terms.{prog_var_of, term_of}
use Rattle.triple_rules.proofs.calls.as_terms.Given as goal

abbrev pub invariant-loop-variable : goal.invariant-loop-variable
invariant-loop-variable l =
    map term_of l.terms ≡ map prog_term (map prog_var_of (take l.variable-index l.variables))
