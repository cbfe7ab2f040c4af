use Rattle.std.proofs.Common.{◌∙◌, ap, sym, map}
use Rattle.std.specs.List.{list_any}
use Rattle.model_terms.specs.VariableTests.{same_var}
use Rattle.formula_syntax.specs.Formulas.{any_var_of}
use Rattle.formula_syntax.specs.FreeVariables.{is_among}
use Rattle.formula_syntax.specs.Substitution.{var_named}
use Rattle.formula_syntax.proofs.Gathering.{any-seen, not_among}
use Rattle.name_table.specs.Found.{found}
use Rattle.formula_syntax.proofs.gathered.Gathered.has.Goals as goal

pub returns-in-None : goal.returns-in-None
returns-in-None c =
    let x = var_named c.args.name.now in
    sym (ap (is_among x) (sym c.self.view_is)
    ∙ not_among x (map any_var_of c.self.inside.found.items)
    (c.self.invariant _ (ap (found c.self.inside.places) (sym c.text_of.ensures)
    ∙ sym c.get.ensures ∙ c.in-None.is)))

pub returns-then-stands_at : goal.returns-then-stands_at
returns-then-stands_at c =
    let x = var_named c.args.name.now in
    c.if-stands_at.true
    ∙ sym (ap (is_among x) (sym c.self.view_is)
    ∙ (any-seen any_var_of (same_var x) c.self.inside.found.items
    ∙ (ap (list_any (λ v. same_var x (any_var_of v))) (sym c.deref.ensures.value)
    ∙ c.stands_at.ensures c.if-stands_at.true)))

pub returns-else-stands_at : goal.returns-else-stands_at
returns-else-stands_at c =
    let x = var_named c.args.name.now in
    c.is_one_of.ensures
    ∙ (ap (list_any (λ v. same_var x (any_var_of v))) c.deref-else-stands_at.ensures.value
    ∙ (sym (any-seen any_var_of (same_var x) c.self.inside.found.items)
    ∙ ap (is_among x) c.self.view_is))
