use Rattle.std.proofs.Common.{ap, ◌∙◌}
use Rattle.std.specs.Prelude.{find, option_map, option_copied}
use Rattle.dom_terms.specs.Values.{value_seen}
use Rattle.dom_terms.specs.Terms.{prog_var_of}
use Rattle.dom_terms.specs.Stores.{has_variable}
use Rattle.dom_terms.proofs.StoreLaws.{value_in_cell, find-found}
use Rattle.dom_terms.proofs.store.Store.get.Goals as goal

pub returns-in_err-cell_of-clause-value : goal.returns-in_err-cell_of-clause-value
returns-in_err-cell_of-clause-value c =
    let x = prog_var_of c.args.variable.now in
    ap (λ found. option_map value_seen (option_copied found)) c.from_residual.ensures
    ∙ ap (option_map value_in_cell) (c.in_err-cell_of.ensures
    ∙ ap (find (has_variable x)) (c.deref.ensures.value ∙ c.self.view_is))
    ∙ find-found x c.args.self.now

pub returns-clause-value : goal.returns-clause-value
returns-clause-value c =
    let x = prog_var_of c.args.variable.now in
    ap (option_map value_in_cell) (c.in_ok-cell_of.ensures
    ∙ ap (find (has_variable x)) (c.deref.ensures.value ∙ c.self.view_is))
    ∙ find-found x c.args.self.now
