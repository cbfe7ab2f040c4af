use Rattle.std.proofs.Common.{◌≡◌, ◌++◌, map, drop}
use Rattle.dom_terms.specs.Terms.{prog_var_of, term_of}
use Rattle.formula_syntax.specs.Formulas.{pair_of}
use Rattle.triple_rules.specs.CallTests.{put}
use Rattle.triple_rules.proofs.calls.with_pairs.Given as goal

abbrev pub invariant-loop-variable : goal.invariant-loop-variable
invariant-loop-variable l =
    map pair_of l.pairs
    ++ put (map prog_var_of (drop l.variable-index l.variables)) (map term_of l.others)
    ≡ map pair_of l.fn.pairs ++ put (map prog_var_of l.variables) (map term_of l.terms)
