-- The verdict follows from the tests over the lines of the axiom.
use Rattle.std.proofs.Common.{◌≡◌, sym, ap, ◌∙◌, subst, List, [], get_or}
use Rattle.model_formulas.specs.Formulas.{Formula, truth}
use Rattle.model_formulas.specs.Nameless.{nameless}
use Rattle.rule_table.specs.Axioms.{axioms}
use Rattle.rule_table.specs.Verdicts.{IsVerdict, readings_in}
use Rattle.dom_terms.specs.Sorts.{data_sort_of}
use Rattle.formula_syntax.specs.Formulas.{formula_of}
use Rattle.formula_table.specs.Forms.{form_at}
use Rattle.letter_bindings.proofs.KeptBodies.{nameless-sorted}
use Rattle.theory_syntax.specs.Commands.{command_of}
use Rattle.small_axioms.specs.Patterns.{patterns_in}
use Rattle.small_axioms.specs.Steps.{judgement_of}
use Rattle.small_axioms.specs.Tests.{fits_one, is_assigned}
use Rattle.small_axioms.proofs.Exact.{exact}
use Rattle.small_axioms.proofs.verdicts.verdict_over.Goals as goal

pub returns-clause-ok : goal.returns-clause-ok
returns-clause-ok c =
    λ premises cites.
    let triple = c.args.triple.now in
    let rows = readings_in axioms c.args.name.now in
    let patterns = patterns_in c.rows_named.result.now in
    let said = c.in_ok-said.said in
    let told = c.in_ok-said.ensures.ok in
    let known = c.in_ok-known.ensures.ok in
    let command = command_of triple.command in
    let p = nameless (formula_of triple.pre) in
    let q = nameless (formula_of triple.post) in
    let d = data_sort_of triple.sort in
    let new = c.number_command.new.table in
    let forms = c.number_command.ensures.grows.forms in
    let pre : form_at new said.pre ≡ p =
    ap (λ (fs : List Formula). get_or fs said.pre truth) forms ∙ told.pre.is in
    let post : form_at new said.post ≡ q =
    ap (λ (fs : List Formula). get_or fs said.post truth) forms ∙ told.post.is in
    subst (IsVerdict rows (record {
      arguments = [];
      premises = premises;
      conclusion = judgement_of triple;
    })) (sym c.verdict_where.ensures)
    (exact command p q d
    (nameless-sorted (formula_of triple.pre), nameless-sorted (formula_of triple.post)) rows
    patterns c.rows_named.ensures premises c.fits_one-fits.result c.args.cites_nothing
    c.is_assigned-assigned.result
    ((λ i. fits_one patterns command (sym known i) (sym pre i) (sym post i) (sym told.sort i))
    ∙ sym c.fits_one-fits.ensures)
    cites
    ((λ i. is_assigned command (sym known i) (sym pre i) (sym post i))
    ∙ sym c.is_assigned-assigned.ensures))
