use Rattle.std.proofs.Common.{subst, [], List, ◌++◌, map}
use Rattle.model_commands.specs.CommandParts.{locals_of}
use Rattle.dom_terms.specs.Sorts.{value_sort_of}
use Rattle.dom_terms.specs.Terms.{prog_var_of}
use Rattle.dom_terms.specs.declared.terms.ProgVar.{ProgVar}
use Rattle.theory_syntax.specs.Commands.{command_of}
use Rattle.dom_syntax.specs.Tables.{Declares}
use Rattle.dom_syntax.specs.Scopes.{variable_entry}
use Rattle.dom_syntax.proofs.ScopeLaws.{entries-joined}
use Rattle.dom_syntax.proofs.scopes.variable_table.Goals as goal

pub returns : goal.returns
returns c =
    let params = subst (λ (xs : List ProgVar). Declares value_sort_of c.declare_all.new.table
    (map variable_entry (map prog_var_of xs))) c.as_slice.ensures
    (c.in_ok-declare_all.ensures [] c.new-table.ensures) in
    let results = subst (λ (xs : List ProgVar). Declares value_sort_of c.declare_all-2.new.table
    (map variable_entry (map prog_var_of c.args.procedure.now.params)
    ++ map variable_entry (map prog_var_of xs))) c.as_slice-2.ensures
    (c.in_ok-declare_all-2.ensures
    (map variable_entry (map prog_var_of c.args.procedure.now.params)) params) in
    subst (Declares value_sort_of c.declare_locals.new.table)
    (entries-joined (map prog_var_of c.args.procedure.now.params)
    (map prog_var_of c.args.procedure.now.results)
    (locals_of (command_of c.args.procedure.now.body)))
    (c.in_ok-declare_locals.ensures
    (map variable_entry (map prog_var_of c.args.procedure.now.params)
    ++ map variable_entry (map prog_var_of c.args.procedure.now.results)) results)
