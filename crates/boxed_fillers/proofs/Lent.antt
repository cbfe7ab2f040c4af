-- A list whose items were lent, as a whole.
use Rattle.std.proofs.Common.{◌≡◌, ◌∙◌, ℕ, Bool, List, ◌++◌, Result, IfOk, length, take, drop, sym, ap, subst, arith, append-nil}
use Rattle.std.proofs.lemmas.List.{drop_all, take_all}
use Rattle.model_formulas.specs.Formulas.{Named}
use Rattle.model_commands.specs.Theories.{JudgementOf, ProcedureOf, Theory}
use Rattle.model_filling.specs.Offers.{Offers}
use Rattle.dom_terms.specs.declared.memory.OutOfMemory.{OutOfMemory}
use Rattle.theory_syntax.specs.declared.steps.Step.{Step}
use Rattle.theory_filler.specs.Answers.{Answered}
use Rattle.boxed_fillers.specs.Voices.{voices_of}

-- what stands in it after that
back : {F : Type 0} (items after : List F) (size : ℕ) → length after ≡ length items
    → size ≡ length items → take size (after ++ drop (length after) items) ≡ after
back items after size same is =
    ap (λ xs. take size (after ++ xs)) (drop_all (length after) items (omega (arith, same)))
    ∙ ap (take size) (append-nil after) ∙ take_all size after (omega (arith, same, is))

-- what is answered for the items is answered for it
pub answered-whole : {F : Type 0} (turn : F → ℕ) (offers : F → Offers) (theory : Theory)
    (f : ProcedureOf Named) (earlier proof : List Step) (judgement : JudgementOf Named)
    (items before after : List F) (size : ℕ) → before ≡ items → length after ≡ length before
    → size ≡ length items → (found : Result Bool OutOfMemory)
    → IfOk found (λ yes. Answered theory f earlier judgement (voices_of turn offers before) yes
    proof (voices_of turn offers after))
    → IfOk found (λ yes. Answered theory f earlier judgement (voices_of turn offers items) yes
    proof (voices_of turn offers (take size (after ++ drop (length after) items))))
answered-whole turn offers theory f earlier proof judgement items before after size lent same is
    found answered =
    subst
    (λ xs. IfOk found (λ yes. Answered theory f earlier judgement (voices_of turn offers items) yes
    proof (voices_of turn offers xs)))
    (sym (back items after size (same ∙ ap length lent) is))
    (subst
    (λ xs. IfOk found (λ yes. Answered theory f earlier judgement (voices_of turn offers xs) yes
    proof (voices_of turn offers after)))
    lent answered)
