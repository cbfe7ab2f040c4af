-- Each procedure that is read goes to the procedures, and what is told of it to what is told of
-- them.
use Rattle.std.proofs.Common.{◌≡◌, ◌∙◌, ◌++◌, ◌∷◌, ◌&&◌, [], codes, map, refl, sym, ap, Some, None, true, false}
use Rattle.std.proofs.Math.Bool.{and-true}
use Rattle.std.proofs.lemmas.Bool.{MatchBool-at_true, MatchBool-at_false}
use Rattle.std.proofs.lemmas.Result.{err_from_is_err_and}
use Rattle.std.proofs.lemmas.List.{map_push}
use Rattle.std.proofs.lemmas.List.Folds.{list_all-append}
use Rattle.std.specs.List.{list_all}
use Rattle.dom_terms.specs.Terms.{logic_var_of}
use Rattle.theory_syntax.specs.Theories.{procedure_of}
use Rattle.declared_sorts.specs.Judged.{procedure_judged}
use Rattle.declared_sorts.specs.Settled.{procedure_settled}
use Rattle.declared_sorts.proofs.Loops.{then_both, else_both}
use Rattle.token_readers.specs.Reading.{the_terminal}
use Rattle.token_readers.specs.Leaves.{lexemes_in}
use Rattle.token_readers.proofs.Lists.{many_goes_on, many_breaks, many_done, first_after}
use Rattle.proof_text.proofs.JudgedLoops.{one_judged}
use Rattle.proof_text.specs.SortedTheories.{sorted_procedure_tail, more_sorted_procedures_at}
use Rattle.proof_text.proofs.procedures.more_procedures.Goals as goal
use Rattle.proof_text.proofs.procedures.more_procedures.Goals.{then-are_settled, else-are_settled, then-are_judged, else-are_judged}

pub loop-init : goal.loop-init
unfolding more_sorted_procedures_at
loop-init c =
    let p = procedure_settled (map logic_var_of c.args.logics.now) in
    let e : c.push.new.self ≡ c.args.first.procedure ∷ [] =
    c.in_ok-push.ensures.ok ∙ ap (λ z. z ++ c.args.first.procedure ∷ []) c.new-procedures.ensures in
    record {
      read = rw e refl;
      told = c.requires.first ∙ sym (and-true (p (procedure_of c.args.first.procedure)))
          ∙ ap (λ z. list_all p (map procedure_of z)) (sym e);
      judged = one_judged procedure_judged [] (procedure_of c.args.first.procedure)
          true c.args.first.is_judged c.args.first.is_judged (map procedure_of c.push.new.self)
          refl (ap (map procedure_of) e) refl c.requires.judged;
    }

pub returns-then-not-skip-clause-read : goal.returns-then-not-skip-clause-read
returns-then-not-skip-clause-read c =
    let no : c.skip.result ≡ false = cc in
    let p = MatchBool-at_false _ _ no c.skip.ensures in
    rw p.1 (many_done (the_terminal (codes "proc"))
    (λ x. sorted_procedure_tail (map logic_var_of c.args.logics.now) c.args.depth 4294967295)
    (map procedure_of c.loop.procedures) 4294967295 c.loop.counter _ _ c.loop-test.true
    (first_after (codes "proc") (lexemes_in c.loop.tokens) None (sym p.0)) c.loop.invariant.read)

pub returns-in_err-item-clause-read : goal.returns-in_err-item-clause-read
returns-in_err-item-clause-read c =
    let p = err_from_is_err_and c.from_residual-in_err-item.result
    c.from_residual-in_err-item.ensures.1 in
    let yes : c.skip.result ≡ true = cc in
    rw (p.1, p.2) (many_breaks (the_terminal (codes "proc"))
    (λ x. sorted_procedure_tail (map logic_var_of c.args.logics.now) c.args.depth 4294967295)
    c.in_err-item.field-0.0 (map procedure_of c.loop.procedures) 4294967295 c.loop.counter _ true
    _ _ c.loop-test.true (first_after (codes "proc") (lexemes_in c.loop.tokens) (Some _)
    (sym (MatchBool-at_true _ _ yes c.skip.ensures))) c.in_err-item.ensures.read
    c.loop.invariant.read)

pub loop-preserved : goal.loop-preserved
loop-preserved c =
    let e : map procedure_of c.push-in-loop.new.self ≡ map procedure_of c.loop.procedures
    ++ procedure_of c.in_ok-item.item.procedure ∷ [] =
    rw c.in_ok-push-2.ensures.ok
    (map_push _ c.loop.procedures c.in_ok-item.item.procedure) in
    let p = procedure_settled (map logic_var_of c.args.logics.now) in
    let yes : c.skip.result ≡ true = cc in
    let both : c.if-are_settled.are_settled
    ≡ (c.loop.are_settled && c.in_ok-item.item.is_settled) =
    elim c.if-are_settled.branch [
      | then-are_settled w ↦ then_both _ _ _ w.if-are_settled.true w.are_settled-is
      | else-are_settled w ↦ else_both _ _ _ w.if-are_settled.false w.are_settled-is
    ] in
    let judged : c.if-are_judged.are_judged
    ≡ (c.loop.are_judged && c.in_ok-item.item.is_judged) =
    elim c.if-are_judged.branch [
      | then-are_judged w ↦ then_both _ _ _ w.if-are_judged.true w.are_judged-is
      | else-are_judged w ↦ else_both _ _ _ w.if-are_judged.false w.are_judged-is
    ] in
    record {
      read = rw e (many_goes_on (the_terminal (codes "proc"))
          (λ x. sorted_procedure_tail (map logic_var_of c.args.logics.now) c.args.depth 4294967295)
          (map procedure_of c.loop.procedures) 4294967295 c.loop.counter _ true _ _ _ _
          c.loop-test.true (first_after (codes "proc") (lexemes_in c.loop.tokens) (Some _)
          (sym (MatchBool-at_true _ _ yes c.skip.ensures))) c.in_ok-item.ensures.read
          c.loop.invariant.read);
      told = both ∙ (λ j. c.loop.invariant.told j && c.in_ok-item.ensures.settled j)
          ∙ (λ j. list_all p (map procedure_of c.loop.procedures)
          && sym (and-true (p (procedure_of c.in_ok-item.item.procedure))) j)
          ∙ sym (list_all-append p (map procedure_of c.loop.procedures)
          (procedure_of c.in_ok-item.item.procedure ∷ []))
          ∙ ap (list_all p) (sym e);
      judged = one_judged procedure_judged (map procedure_of c.loop.procedures)
          (procedure_of c.in_ok-item.item.procedure) c.loop.are_judged
          c.in_ok-item.item.is_judged c.if-are_judged.are_judged
          (map procedure_of c.push-in-loop.new.self) judged e c.loop.invariant.judged
          c.in_ok-item.ensures.judged;
    }
