use Rattle.std.proofs.Common.{◌≡◌, ℕ, suc, ◌-◌, List, map, ◌+◌, ◌∙◌, ap, sym, subst, arith}
use Rattle.model_commands.specs.Theories.{procedures_of}
use Rattle.model_machine.specs.Outcomes.{Outcome, outcome}
use Rattle.model_limits.specs.Limits.{standard_limits}
use Rattle.dom_terms.specs.declared.terms.ProgVar.{ProgVar}
use Rattle.dom_terms.specs.Terms.{prog_var_of}
use Rattle.theory_syntax.specs.Theories.{theory_of}
use Rattle.dom_meaning.specs.Configs.{config_of}
use Rattle.dom_meaning.specs.Runs.{IsOutcome}
use Rattle.dom_meaning.proofs.runs.run_plain.Goals as goal

pub returns-in-Err-clause-outcome : goal.returns-in-Err-clause-outcome
returns-in-Err-clause-outcome c =
    let ps = procedures_of (theory_of c.args.theory.now) in
    let rs = map prog_var_of c.args.config.results in
    let config = config_of c.loop-steps.config in
    let left = c.args.fuel - suc c.loop-steps.steps in
    let less : suc left ≡ c.args.fuel - c.loop-steps.steps = omega arith in
    let of_results = subst (λ (z : List ProgVar).
    IsOutcome (map prog_var_of z) c.args.fuel c.in-Err.outcome
    (outcome standard_limits ps (map prog_var_of z) (suc left) c.loop-steps.steps config))
    c.loop-steps.invariant.results
    (c.in-Err.ensures.outcome left c.args.fuel) in
    let of_fuel = subst (λ (n : ℕ). IsOutcome rs c.args.fuel c.in-Err.outcome
    (outcome standard_limits ps rs n c.loop-steps.steps config)) less of_results in
    subst (λ (z : Outcome). IsOutcome rs c.args.fuel c.in-Err.outcome z)
    (sym c.loop-steps.invariant.same) of_fuel

pub loop-steps-preserved : goal.loop-steps-preserved
loop-steps-preserved c =
    let ps = procedures_of (theory_of c.args.theory.now) in
    let rs = map prog_var_of c.args.config.results in
    let config = config_of c.loop-steps.config in
    let after = config_of c.in-Ok.next in
    let steps = c.loop-steps.steps in
    let left = c.args.fuel - (steps + 1) in
    let less : suc left ≡ c.args.fuel - steps = omega arith in
    let more : suc steps ≡ steps + 1 = omega arith in
    let of_results = subst (λ (z : List ProgVar).
    outcome standard_limits ps (map prog_var_of z) (suc left) steps config
    ≡ outcome standard_limits ps (map prog_var_of z) left (suc steps) after)
    c.loop-steps.invariant.results (c.in-Ok.ensures.outcome left) in
    let of_fuel = subst (λ (n : ℕ). outcome standard_limits ps rs n steps config
    ≡ outcome standard_limits ps rs left (suc steps) after) less of_results in
    record {
      fits = c.in-Ok.ensures.next;
      results = c.in-Ok.ensures.results ∙ c.loop-steps.invariant.results;
      same = c.loop-steps.invariant.same ∙ of_fuel
          ∙ ap (λ n. outcome standard_limits ps rs left n after) more;
    }
