-- Each step that is read goes to the steps, and what is told of it to what is told of them.
use Rattle.std.proofs.Common.{◌≡◌, ◌∙◌, ◌++◌, ◌∷◌, ◌&&◌, [], None, map, sym, ap}
use Rattle.std.proofs.Math.Bool.{and-true}
use Rattle.std.proofs.lemmas.Option.{MatchOption-at_none}
use Rattle.std.proofs.lemmas.Result.{err_from_is_err_and}
use Rattle.std.proofs.lemmas.List.{map_push}
use Rattle.std.proofs.lemmas.List.Folds.{list_all-append}
use Rattle.std.specs.List.{list_all}
use Rattle.model_files.specs.FileFaults.{judgement_sorted}
use Rattle.theory_syntax.specs.Judgements.{step_of}
use Rattle.declared_sorts.specs.Declarations.{declared_of, scope_in}
use Rattle.declared_sorts.specs.Settled.{step_settled}
use Rattle.declared_sorts.proofs.Loops.{then_both, else_both}
use Rattle.token_readers.specs.Leaves.{leaf_step}
use Rattle.token_readers.proofs.Lists.{many_goes_on, many_breaks, many_done}
use Rattle.proof_text.proofs.JudgedLoops.{one_judged}
use Rattle.proof_text.specs.SortedTheories.{sorted_step_tail, sorted_steps_at}
use Rattle.proof_text.proofs.steps.steps.Goals as goal
use Rattle.proof_text.proofs.steps.steps.Goals.{then-are_settled, else-are_settled, then-are_judged, else-are_judged}

pub returns-in_err-item-clause-read : goal.returns-in_err-item-clause-read
unfolding sorted_steps_at
returns-in_err-item-clause-read c =
    let p = err_from_is_err_and c.from_residual.result c.from_residual.ensures.1 in
    rw (p.1, p.2) (many_breaks leaf_step
    (sorted_step_tail (declared_of c.args.declared.now) c.args.depth 4294967295)
    c.in_err-item.field-0.0 (map step_of c.loop.steps) 4294967295 c.loop.counter _ _ _ _
    c.loop-test.true c.in-Some.ensures c.in_err-item.ensures.read c.loop.invariant.read)

pub returns-in_default-clause-read : goal.returns-in_default-clause-read
unfolding sorted_steps_at
returns-in_default-clause-read c =
    let none : c.step_line.result ≡ None = cc in
    let p = MatchOption-at_none _ _ none c.step_line.ensures in
    rw p.1 (many_done leaf_step
    (sorted_step_tail (declared_of c.args.declared.now) c.args.depth 4294967295)
    (map step_of c.loop.steps) 4294967295 c.loop.counter _ _ c.loop-test.true p.0
    c.loop.invariant.read)

pub loop-preserved : goal.loop-preserved
loop-preserved c =
    let e : map step_of c.push.new.self ≡ map step_of c.loop.steps ++ step_of
    c.in_ok-item.item.step ∷ [] =
    rw c.in_ok-push.ensures.ok (map_push _ c.loop.steps c.in_ok-item.item.step) in
    let p = step_settled (scope_in c.args.declared.now) in
    let both : c.if-are_settled.are_settled
    ≡ (c.loop.are_settled && c.in_ok-item.item.is_settled) =
    elim c.if-are_settled.branch [
      | then-are_settled w ↦ then_both _ _ _ w.if-are_settled.true w.are_settled-is
      | else-are_settled w ↦ else_both _ _ _ w.if-are_settled.false w.are_settled-is
    ] in
    let judged : c.if-are_judged.are_judged
    ≡ (c.loop.are_judged && c.in_ok-item.item.is_judged) =
    elim c.if-are_judged.branch [
      | then-are_judged w ↦ then_both _ _ _ w.if-are_judged.true w.are_judged-is
      | else-are_judged w ↦ else_both _ _ _ w.if-are_judged.false w.are_judged-is
    ] in
    record {
      read = rw e (many_goes_on leaf_step
          (sorted_step_tail (declared_of c.args.declared.now) c.args.depth 4294967295)
          (map step_of c.loop.steps) 4294967295 c.loop.counter _ _ _ _ _ _
          c.loop-test.true c.in-Some.ensures c.in_ok-item.ensures.read c.loop.invariant.read);
      told = both ∙ (λ j. c.loop.invariant.told j && c.in_ok-item.ensures.settled j)
          ∙ (λ j. list_all p (map step_of c.loop.steps)
          && sym (and-true (p (step_of c.in_ok-item.item.step))) j)
          ∙ sym (list_all-append p (map step_of c.loop.steps)
          (step_of c.in_ok-item.item.step ∷ []))
          ∙ ap (list_all p) (sym e);
      judged = one_judged (λ step. judgement_sorted step.judgement) (map step_of c.loop.steps)
          (step_of c.in_ok-item.item.step) c.loop.are_judged c.in_ok-item.item.is_judged
          c.if-are_judged.are_judged (map step_of c.push.new.self) judged e
          c.loop.invariant.judged c.in_ok-item.ensures.judged;
    }
