-- A rule of entailment has the verdict, and any other name has no row that concludes an entailment.
use Rattle.std.proofs.Common.{◌≡◌, sym, refl, map, true, Option, Some, None, is_none}
use Rattle.std.proofs.lemmas.Bool.{and_parts}
use Rattle.std.proofs.lemmas.Result.{IfOk-weaker}
use Rattle.model_formulas.specs.WellSorted.{first_fault}
use Rattle.model_commands.specs.Theories.{nameless_judgement}
use Rattle.model_files.specs.FileFaults.{is_judged_at}
use Rattle.rule_table.specs.Accepted.{written_at}
use Rattle.dom_terms.specs.Sorts.{sort_of}
use Rattle.dom_terms.specs.Terms.{term_of}
use Rattle.formula_syntax.specs.Entailments.{entailment_of}
use Rattle.formula_syntax.specs.Formulas.{formula_of}
use Rattle.theory_syntax.specs.Judgements.{entails_of}
use Rattle.row_patterns.specs.Verdicts.{verdict_in}
use Rattle.rule_rows.specs.Names.{name_of}
use Rattle.cited_steps.specs.Earlier.{steps_in}
use Rattle.hoare_kernel.proofs.RowsOfNames.{entailment-by, entailment-misshapen}
use Rattle.hoare_kernel.proofs.entailments.entailment_named.Goals as goal

-- a test for none
is_nothing : {A : Type 0} (o : Option A) → is_none o ≡ true → o ≡ None
is_nothing None e = refl
is_nothing (Some x) e = absurd cc

pub entailment_by-requires-clause-sorted : goal.entailment_by-requires-clause-sorted
entailment_by-requires-clause-sorted c =
    let e = c.args.entailment.now in
    let p = formula_of e.left in
    let q = formula_of e.right in
    let s = sort_of e.sort in
    is_nothing (first_fault q s)
    (and_parts (is_judged_at s p) (is_judged_at s q) c.requires.sorted).1

pub returns-in-Some-clause-exact : goal.returns-in-Some-clause-exact
returns-in-Some-clause-exact c =
    IfOk-weaker c.entailment_by.result _ _
    (λ v h procedures. entailment-by procedures c.args.name.now (name_of c.in-Some.rule)
    (written_at (steps_in c.args.earlier.now) c.args.citations.now
    (map term_of c.args.arguments.now)
    (nameless_judgement (entails_of (entailment_of c.args.entailment.now)))) (verdict_in v.verdict)
    (sym c.in-Some.ensures.known) ((c.in-Some.ensures.named c.in-Some.rule).0 refl) h)
    c.entailment_by.ensures.exact

pub returns-in-None-clause-exact : goal.returns-in-None-clause-exact
returns-in-None-clause-exact c = λ procedures.
    entailment-misshapen procedures c.args.name.now
    (written_at (steps_in c.args.earlier.now) c.args.citations.now
    (map term_of c.args.arguments.now)
    (nameless_judgement (entails_of (entailment_of c.args.entailment.now))))
    (sym c.in-None.ensures.known) refl
