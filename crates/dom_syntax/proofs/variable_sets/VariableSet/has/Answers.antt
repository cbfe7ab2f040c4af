use Rattle.std.proofs.Common.{◌∙◌, ap, is_some}
use Rattle.dom_terms.specs.Sorts.{value_sort_of}
use Rattle.dom_syntax.specs.Tables.{found}
use Rattle.dom_syntax.specs.VariableSets.{table_of}
use Rattle.dom_syntax.proofs.VariableSetLaws.{found-among}
use Rattle.dom_syntax.proofs.variable_sets.VariableSet.has.Goals as goal

pub returns : goal.returns
returns c = λ xs h.
    c.is_some.ensures ∙ ap is_some c.get.ensures
    ∙ (λ j. is_some (found (c.names.ensures j) (c.as_str.ensures j)))
    ∙ found-among (table_of c.args.self.now (value_sort_of c.args.variable.now.sort)) xs
    c.args.variable.now.name (value_sort_of c.args.variable.now.sort)
    (h (value_sort_of c.args.variable.now.sort))
