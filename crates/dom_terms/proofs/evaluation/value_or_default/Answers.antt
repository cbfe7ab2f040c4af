use Rattle.std.proofs.Common.{◌≡◌, ◌∙◌, sym, subst}
use Rattle.std.proofs.lemmas.Result.{IfOk-weaker}
use Rattle.model_shapes.specs.Values.{FitsValue}
use Rattle.model_terms.specs.Stores.{value_in}
use Rattle.dom_terms.specs.Sorts.{value_sort_of}
use Rattle.dom_terms.specs.Values.{value_seen}
use Rattle.dom_terms.specs.Terms.{prog_var_of}
use Rattle.dom_terms.specs.Stores.{store_of}
use Rattle.dom_terms.proofs.StoreLaws.{found-value, absent-default}
use Rattle.dom_terms.proofs.evaluation.value_or_default.Goals as goal

pub returns-in-Some-clause-value : goal.returns-in-Some-clause-value
returns-in-Some-clause-value c =
    let x = prog_var_of c.args.variable.now in
    let store = store_of c.args.store.now in
    IfOk-weaker c.copy.result (λ v. value_seen v ≡ value_seen c.in-Some.value.now)
    (λ v. value_seen v ≡ value_in store x)
    (λ v e. e ∙ found-value x store (value_seen c.in-Some.value.now) c.in-Some.ensures.value)
    c.copy.ensures

pub returns-in-Some-clause-fits : goal.returns-in-Some-clause-fits
returns-in-Some-clause-fits c =
    let x = prog_var_of c.args.variable.now in
    let store = store_of c.args.store.now in
    let fits = FitsValue (value_sort_of c.args.variable.now.sort) in
    IfOk-weaker c.copy.result (λ v. value_seen v ≡ value_seen c.in-Some.value.now)
    (λ v. fits (value_seen v))
    (λ v e. subst fits
    (sym (e ∙ found-value x store (value_seen c.in-Some.value.now) c.in-Some.ensures.value))
    (c.in-Some.ensures.proper.fits x))
    c.copy.ensures

pub returns-in-None-clause-value : goal.returns-in-None-clause-value
returns-in-None-clause-value c =
    c.default_of.ensures.value
    ∙ absent-default (prog_var_of c.args.variable.now) (store_of c.args.store.now)
    c.in-None.ensures.value
