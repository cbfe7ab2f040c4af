-- The sort that the table has for the name is that of its first declaration.
use Rattle.std.proofs.Common.{◌∙◌, Some, None}
use Rattle.dom_terms.specs.Sorts.{value_sort_of}
use Rattle.declared_sorts.proofs.ScopeLaws.{prog_in_scope}
use Rattle.declared_sorts.proofs.declared.Declared.declares.Goals as goal

pub returns-in-Some : goal.returns-in-Some
returns-in-Some c =
    c.same_value_sort.ensures
    ∙ prog_in_scope c.args.variable.now.name (value_sort_of c.args.variable.now.sort)
    c.args.self.now c.requires (Some c.in-Some.sort) (cc)

pub returns-in-None : goal.returns-in-None
returns-in-None c =
    prog_in_scope c.args.variable.now.name (value_sort_of c.args.variable.now.sort)
    c.args.self.now c.requires None (cc)
