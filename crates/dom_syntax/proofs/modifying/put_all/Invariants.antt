use Rattle.std.proofs.Common.{drop, map}
use Rattle.model_commands.specs.Commands.{Among}
use Rattle.dom_terms.specs.Terms.{prog_var_of}
use Rattle.dom_syntax.specs.Modified.{IsFound, IsOutside, found_in}
use Rattle.dom_syntax.proofs.ModifiedLaws.{Leaves}
use Rattle.dom_syntax.proofs.modifying.put_all.Given as goal

abbrev pub invariant-loop-variable : goal.invariant-loop-variable
invariant-loop-variable l = record {
  found : IsFound l.found;
  left : Leaves (found_in l.initial.found) (found_in l.found)
      (λ x. Among (map prog_var_of l.variables) x × IsOutside l.over x)
      (λ x. Among (map prog_var_of (drop l.variable-index l.variables)) x × IsOutside l.over x);
}
