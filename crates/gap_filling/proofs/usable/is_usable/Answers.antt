use Rattle.std.proofs.Common.{◌≡◌, ◌∙◌, ◌+◌, sym, refl, subst, map, take, drop, true, false, Some, List}
use Rattle.std.proofs.lemmas.Result.{IfOk-weaker}
use Rattle.model_commands.specs.Theories.{nameless_judgement}
use Rattle.model_files.specs.Sizes.{StepsAreSmall}
use Rattle.rule_table.specs.Accepted.{last_judgement}
use Rattle.model_filling.specs.Sizes.{IsSized}
use Rattle.theory_syntax.specs.declared.steps.Step.{Step}
use Rattle.theory_syntax.specs.Judgements.{judgement_of, step_of}
use Rattle.theory_syntax.specs.Theories.{theory_of}
use Rattle.cited_steps.specs.Earlier.{are_numbered, steps_in}
use Rattle.gap_filling.proofs.UsableSteps.{rest-of, any-ok, numbered-from, from-numbered, all-citable, good-formed, good-instances, all-good}
use Rattle.gap_filling.proofs.usable.is_usable.Goals.{then-not-has_sizes-via-then-not-has_sizes, then-not-has_sizes-via-else-not-has_sizes+then-not-are_numbered_after}
use Rattle.gap_filling.proofs.usable.is_usable.Goals as goal

pub returns-then-not-has_sizes-clause-exact : goal.returns-then-not-has_sizes-clause-exact
returns-then-not-has_sizes-clause-exact c = λ f at.
    let e = rest-of c.args.proof.now c.args.kept in
    let version = c.args.theory.now.version in (
      (λ t. cc),
      (λ u. elim c.then-not-has_sizes.branch [
        | then-not-has_sizes-via-then-not-has_sizes w ↦
            (w.if-not-has_sizes.ensures.sized version).1
            (subst (λ (z : List Step). IsSized version (map step_of z)) (sym e) u.sized)
        | then-not-has_sizes-via-else-not-has_sizes+then-not-are_numbered_after w ↦
            subst (λ (z : List Step). false ≡ are_numbered (c.args.kept + 1) z) e
            w.if-not-are_numbered_after.ensures
            ∙ from-numbered (drop c.args.kept c.args.proof.now) (c.args.kept + 1) u.numbered
      ]),
    )

pub are_good-requires-clause-proof : goal.are_good-requires-clause-proof
are_good-requires-clause-proof c =
    let e = rest-of c.args.proof.now c.args.kept in
    all-citable c.args.proof.now c.args.kept c.requires.within c.requires.earlier
    (subst (λ (z : List Step). StepsAreSmall (map step_of z)) e
    (c.if-not-has_sizes.ensures.small refl))
    (sym (subst (λ (z : List Step). true ≡ are_numbered (c.args.kept + 1) z) e
    c.if-not-are_numbered_after.ensures))

pub returns-then-branch-clause-exact : goal.returns-then-branch-clause-exact
returns-then-branch-clause-exact c = λ f at.
    let e = rest-of c.args.proof.now c.args.kept in
    let theory = theory_of c.args.theory.now in
    let earlier = map step_of (take c.args.kept c.args.proof.now) in
    let offer = map step_of (drop c.args.kept c.args.proof.now) in
    IfOk-weaker c.are_good.result _ _
    (λ b h. (
      (λ t. record {
        sized = subst (λ (z : List Step). IsSized theory.version (map step_of z)) e
            ((c.if-not-has_sizes.ensures.sized theory.version).0 refl);
        numbered = numbered-from (drop c.args.kept c.args.proof.now) (c.args.kept + 1)
            (sym (subst (λ (z : List Step). true ≡ are_numbered (c.args.kept + 1) z) e
            c.if-not-are_numbered_after.ensures));
        formed = good-formed theory f offer earlier (h.0 t);
        instances = good-instances theory f offer earlier (h.0 t);
        ends = subst (λ (z : List Step). last_judgement (steps_in z)
            ≡ Some (nameless_judgement (judgement_of c.args.judgement.now))) e
            (c.in_ok-ends_in.ensures.0 c.if-branch.true);
      }),
      (λ u. h.1 (all-good theory f offer earlier u.formed u.instances)),
    ))
    (c.are_good.ensures.exact f at)

pub returns-then-branch-clause-citable : goal.returns-then-branch-clause-citable
returns-then-branch-clause-citable c =
    let e = rest-of c.args.proof.now c.args.kept in
    any-ok c.are_good.result _ (λ b t. all-citable c.args.proof.now c.args.kept c.requires.within
    c.requires.earlier
    (subst (λ (z : List Step). StepsAreSmall (map step_of z)) e
    (c.if-not-has_sizes.ensures.small refl))
    (sym (subst (λ (z : List Step). true ≡ are_numbered (c.args.kept + 1) z) e
    c.if-not-are_numbered_after.ensures)))
