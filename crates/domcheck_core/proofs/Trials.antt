-- What `check` answers on the text of `make`.
use Rattle.std.proofs.Common.{◌≡◌, ◌≤◌, ℕ, ◌*◌, List, sym, subst}
use Rattle.model_generator.specs.Made.{most_makers, made_text}
use Rattle.model_answers.specs.Output.{line, accepted_text}
use Rattle.generator_laws.proofs.File.{printed-is-accepted}
use Rattle.domcheck_core.specs.Answers.{CheckAnswer, judged, says_yes}
use Rattle.domcheck_core.specs.declared.status.Status.TheVariants as status

-- THE ANSWER on bytes that are that text
pub generated_is_accepted : (n : ℕ) → 1 ≤ n → n ≤ most_makers → (bytes : List ℕ)
    → bytes ≡ made_text n → CheckAnswer bytes status.Done (line (accepted_text n (8 * n)))
generated_is_accepted n some most bytes same =
    let file = printed-is-accepted n some most in
    subst (λ (z : List ℕ). CheckAnswer z status.Done (line (accepted_text n (8 * n)))) (sym same)
    (subst (CheckAnswer (made_text n) status.Done) file.3
    (judged file.0 file.1 (says_yes file.2)))
