use Rattle.std.proofs.Common.{◌≡◌, ◌-◌, ◌≤◌, sym, ◌∙◌, subst}
use Rattle.model_terms.specs.Variables.{bound}
use Rattle.model_formulas.specs.Nameless.{names}
use Rattle.dom_terms.specs.Sorts.{sort_of}
use Rattle.dom_terms.specs.Terms.{logic_var_of}
use Rattle.formula_syntax.specs.Binders.{bound_by}
use Rattle.formula_table.proofs.Named.{passed_binder}
use Rattle.formula_table.proofs.interning_terms.+binding_of.Goals as goal

pub returns-in-Some-clause-bound : goal.returns-in-Some-clause-bound
returns-in-Some-clause-bound t c i r =
    subst (λ o. (c.args.passed ≤ i) × (names (bound_by o) (logic_var_of c.args.variable.now)
    ≡ bound (i - c.args.passed) (sort_of c.args.variable.now.sort))) (sym c.in-More.is)
    (passed_binder (logic_var_of c.args.variable.now) (logic_var_of c.in-More.nearest.now)
    (bound_by c.in-More.outer.now) c.args.passed c.in-Some.passed i
    (sort_of c.args.variable.now.sort) (sym c.same_variable.ensures ∙ c.if-same_variable.false)
    c.in-Some.ensures.1 (c.binding_of.ensures.bound i r).0 (c.binding_of.ensures.bound i r).1)
