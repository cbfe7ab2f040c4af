-- One variable after another.
use Rattle.std.proofs.Common.{◌≡◌, map, arith}
use Rattle.model_commands.specs.Commands.{Among}
use Rattle.dom_terms.specs.Terms.{prog_var_of}
use Rattle.dom_syntax.specs.Modified.{IsOutside, found_in}
use Rattle.dom_syntax.proofs.ModifiedLaws.{leaves-first, leaves-item, leaves-end}
use Rattle.dom_syntax.proofs.modifying.put_all.Goals as goal

pub loop-variable-init : goal.loop-variable-init
loop-variable-init c = record {
  found = c.requires;
  left = leaves-first (found_in c.args.found.now)
      (λ x. Among (map prog_var_of c.args.variables.now) x × IsOutside c.args.over.now x);
}

pub loop-variable-preserved : goal.loop-variable-preserved
loop-variable-preserved c = record {
  found = c.in_ok-put.ensures.found;
  left = leaves-item (λ vs x. Among (map prog_var_of vs) x) (λ v x. x ≡ prog_var_of v)
      (λ y ys x p. p) (λ y ys x p. p) (λ x p. p) (λ x. IsOutside c.args.over.now x)
      (found_in c.args.found.now) (found_in c.loop-variable.found) (found_in c.put.new.found)
      (λ x. Among (map prog_var_of c.args.variables.now) x × IsOutside c.args.over.now x)
      c.args.variables.now c.loop-variable.variable-index c.variable-item.result (omega arith)
      c.variable-item.is c.loop-variable.invariant.left c.in_ok-put.ensures.added;
}

pub returns-clause-found : goal.returns-clause-found
returns-clause-found c = c.loop-variable.invariant.found

pub returns-clause-added : goal.returns-clause-added
returns-clause-added c =
    leaves-end (λ vs x. Among (map prog_var_of vs) x) (λ v x. x ≡ prog_var_of v)
    (λ y ys x p. p) (λ y ys x p. p) (λ x p. p) (λ x. IsOutside c.args.over.now x)
    (found_in c.args.found.now) (found_in c.loop-variable.found)
    (λ x. Among (map prog_var_of c.args.variables.now) x × IsOutside c.args.over.now x)
    c.args.variables.now c.loop-variable.variable-index (omega arith)
    c.loop-variable.invariant.left
