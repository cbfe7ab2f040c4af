use Rattle.std.proofs.Common.{◌≡◌, ◌-◌, ◌∙◌, sym, ap, subst, arith, IfOk}
use Rattle.model_terms.specs.Variables.{bound}
use Rattle.model_terms.specs.Terms.{variable}
use Rattle.model_formulas.specs.Nameless.{names}
use Rattle.dom_terms.specs.Sorts.{sort_of}
use Rattle.dom_terms.specs.Terms.{logic_var_of}
use Rattle.formula_syntax.specs.Binders.{bound_by}
use Rattle.formula_table.specs.Interning.{IsTerm}
use Rattle.formula_table.proofs.tables.Table.variable_below.Goals as goal

pub returns-in-Bound-clause-ok : goal.returns-in-Bound-clause-ok
returns-in-Bound-clause-ok c =
    let none_passed : c.in-Bound.place - 0 ≡ c.in-Bound.place = omega arith in
    let found : names (bound_by c.args.over.now) (logic_var_of c.args.var.now)
    ≡ bound c.in-Bound.place (sort_of c.args.var.now.sort) =
    (c.binding_of.ensures.bound c.in-Bound.place c.in-Bound.is).1
    ∙ ap (λ i. bound i (sort_of c.args.var.now.sort)) none_passed in
    subst (λ v. IfOk c.add_term.result (λ number. IsTerm c.add_term.new.self number (variable v)))
    (sym found) c.add_term.ensures.ok
