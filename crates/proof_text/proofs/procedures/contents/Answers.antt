-- What is told of the header and the body and of the steps is told of the procedure.
use Rattle.std.proofs.Common.{◌≡◌, ◌∙◌, ◌++◌, ◌&&◌, Bool, List, map, ap}
use Rattle.std.specs.List.{list_all}
use Rattle.model_formulas.specs.Formulas.{Named}
use Rattle.model_terms.specs.Stores.{ProgVar, as_var}
use Rattle.model_terms.specs.Variables.{Var}
use Rattle.model_commands.specs.CommandParts.{locals_of}
use Rattle.model_commands.specs.Theories.{ProcedureOf}
use Rattle.dom_terms.specs.Terms.{logic_var_of, prog_var_of}
use Rattle.formula_syntax.specs.Formulas.{formula_of}
use Rattle.theory_syntax.specs.Commands.{command_of}
use Rattle.theory_syntax.specs.Judgements.{step_of}
use Rattle.theory_syntax.specs.Theories.{procedure_of}
use Rattle.declared_sorts.specs.Declarations.{declared_of, scope_in}
use Rattle.declared_sorts.specs.Settled.{head_settled, step_settled, procedure_settled}
use Rattle.declared_sorts.proofs.TheoryLaws.{still_declared, with_parts}
use Rattle.proof_text.specs.SortedTheories.{command_sorted}
use Rattle.proof_text.proofs.JudgedLoops.{both_judged}
use Rattle.proof_text.proofs.procedures.contents.Goals as goal

-- what a procedure declares
abbrev declared_by : ProcedureOf Named → List ProgVar
declared_by f = f.params ++ (f.results ++ locals_of f.body)

-- what is told of the parts in the scope of the procedure
told_in_scope : (logics : List Var) (f : ProcedureOf Named) (scope : List Var)
    → scope ≡ map as_var (declared_by f) ++ logics → (told head proof : Bool)
    → told ≡ (head && proof) → head ≡ head_settled scope f
    → proof ≡ list_all (step_settled scope) f.proof → told ≡ procedure_settled logics f
told_in_scope logics f scope same told head proof both h k =
    both ∙ (λ j. h j && k j)
    ∙ λ j. head_settled (same j) f && list_all (step_settled (same j)) f.proof

pub returns-clause-settled : goal.returns-clause-settled
unfolding scope_in command_sorted
returns-clause-settled c =
    let declared = c.new-declared.result in
    let logics = map logic_var_of c.args.logics.now in
    let sorted = with_parts (procedure_of c.unproved-found.result)
    (formula_of c.set_head-head.new.pre)
    (formula_of c.set_head-head.new.post)
    (command_of c.set_head-head.new.body) (map step_of c.in_ok-proof.proof.steps) in
    let known : map prog_var_of c.as_slice-variables.result.now ≡ declared_by sorted =
    still_declared (declared_of declared) _ _ _ _ _
    (ap (map prog_var_of) c.as_slice-variables.ensures ∙ c.in_ok-listed.ensures)
    c.set_head-head.ensures.body in
    let same : scope_in declared ≡ map as_var (declared_by sorted) ++ logics =
    (λ j. map as_var (map prog_var_of (c.new-declared.ensures.variables j))
    ++ map logic_var_of (c.new-declared.ensures.logics j))
    ∙ ap (λ z. map as_var z ++ logics) known in
    told_in_scope logics sorted (scope_in declared) same _ _ _ c.told_of-told.ensures.settled
    c.set_head-head.ensures.settled c.in_ok-proof.ensures.settled

pub returns-clause-judged : goal.returns-clause-judged
returns-clause-judged c =
    both_judged _ _ c.set_head-head.result.is_judged c.in_ok-proof.proof.are_judged _
    c.told_of-told.ensures.judged c.set_head-head.ensures.judged c.in_ok-proof.ensures.judged
