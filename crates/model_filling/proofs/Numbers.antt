-- How the numbers of a filled proof come about: after gaps that are filled, the number of the next
-- step is one more than the steps so far.
use Rattle.std.proofs.Common.{arith, ◌≡◌, ◌∙◌, ℕ, suc, ◌+◌, ◌==◌, List, [], ◌∷◌, ◌++◌, length, Option, Some, None, refl, ap, subst, true, ◌&&◌}
use Rattle.std.specs.List.{list_all, flat_map}
use Rattle.std.proofs.lemmas.Option.{same_Some}
use Rattle.model_formulas.specs.Formulas.{Named}
use Rattle.model_commands.specs.CommandParts.{arguments_of, variables_of_judgement, variables_of_term, commands_of_judgement}
use Rattle.model_commands.specs.Each.{Each}
use Rattle.model_commands.specs.Theories.{JudgementOf, Reason, auto, by_rule, StepOf, ProcedureOf, Theory}
use Rattle.model_files.specs.FileFaults.{FileKind, sort_kind, rule_kind, number_kind, inside, judgement_sorted, is_argument, rule_known, proof_step, step_kind}
use Rattle.model_files.proofs.Places.{passes-each, each-passes}
use Rattle.model_filling.specs.Offers.{Voice, IsNumberedFrom}
use Rattle.model_filling.specs.Renumbering.{FilledGap, moved, raised_reason, renumbered}
use Rattle.model_filling.specs.Usable.{IsUsable}
use Rattle.model_filling.specs.Asking.{Asked, nobody, gives, passes}

pub each-append : {A : Type 0} (P : A → Type 0) (xs ys : List A) → Each P xs → Each P ys
    → Each P (xs ++ ys)
each-append P [] ys a b = b
each-append P (x ∷ xs) ys a b = (a.0, each-append P xs ys a.1 b)

pub numbered-append : {F : Type 0} (n m : ℕ) (xs ys : List (StepOf F)) → IsNumberedFrom n xs
    → IsNumberedFrom m ys → m ≡ n + length xs → IsNumberedFrom n (xs ++ ys)
numbered-append n m [] ys a b e = subst (λ k. IsNumberedFrom k ys) (omega (arith, e)) b
numbered-append n m (x ∷ xs) ys a b e =
    (a.0, numbered-append (suc n) m xs ys a.1 b (omega (arith, e)))

same-number : (n : ℕ) → n == n ≡ true
same-number n = grind arith

number-same : (n m : ℕ) → n == m ≡ true → n ≡ m
number-same n m e = grind arith

pub moved-suc : (gaps : List FilledGap) (n : ℕ) → moved gaps (suc n) ≡ suc (moved gaps n)
moved-suc [] n = refl
moved-suc (gap ∷ gaps) n = omega (arith, moved-suc gaps n)

module _ (theory : Theory) (f : ProcedureOf Named) where
  -- the step is well formed, but for its number
  abbrev pub Formed : StepOf Named → Type 0
  Formed step = step_kind theory f step.number step ≡ None

  -- what is offered and taken is usable
  pub asked-usable : {earlier : List (StepOf Named)} {number : ℕ} {judgement : JudgementOf Named}
      {voices after : List Voice} (steps : List (StepOf Named))
      (answer : Option (List (StepOf Named)))
      → Asked theory f earlier number judgement voices answer after → answer ≡ Some steps
      → IsUsable theory f earlier number judgement steps
  asked-usable steps None nobody e = absurd cc
  asked-usable {earlier = earlier} {number = number} {judgement = judgement} steps (Some offer)
      (gives g) e =
      subst (IsUsable theory f earlier number judgement) (same_Some offer steps e) g.1
  asked-usable steps answer (passes refuses rest) e = asked-usable steps answer rest e

  -- A RENUMBERED STEP is well formed as it was
  arguments-raised : (gaps : List FilledGap) (reason : Reason)
      → arguments_of (raised_reason gaps reason) ≡ arguments_of reason
  arguments-raised gaps auto = refl
  arguments-raised gaps (by_rule name citations arguments) = refl

  rule-raised : (gaps : List FilledGap) (reason : Reason)
      → rule_known theory.version (raised_reason gaps reason) ≡ rule_known theory.version reason
  rule-raised gaps auto = refl
  rule-raised gaps (by_rule name citations arguments) = refl

  pub renumbered-formed : (gaps : List FilledGap) (at : ℕ) (step : StepOf Named)
      → step_kind theory f at step ≡ None → Formed (renumbered gaps step)
  renumbered-formed gaps at step e = each-passes (proof_step theory f _ (renumbered gaps step)) test
    where
      passes : (kind : FileKind) → proof_step theory f at step kind ≡ true
      passes = passes-each (proof_step theory f at step) e

      test : (kind : FileKind)
          → proof_step theory f (moved gaps step.number) (renumbered gaps step) kind ≡ true
      test sort_kind =
          ap (λ arguments. (judgement_sorted step.judgement && list_all is_argument arguments)
          && inside theory f (variables_of_judgement step.judgement
          ++ flat_map variables_of_term arguments)
          (commands_of_judgement step.judgement) sort_kind)
          (arguments-raised gaps step.reason) ∙ passes sort_kind
      test rule_kind = rule-raised gaps step.reason ∙ passes rule_kind
      test number_kind = same-number (moved gaps step.number)
      test kind =
          ap (λ arguments. inside theory f (variables_of_judgement step.judgement
          ++ flat_map variables_of_term arguments)
          (commands_of_judgement step.judgement) kind)
          (arguments-raised gaps step.reason) ∙ passes kind

  pub formed-number : (at : ℕ) (step : StepOf Named) → step_kind theory f at step ≡ None
      → step.number ≡ at
  formed-number at step e =
      number-same step.number at (passes-each (proof_step theory f at step) e number_kind)
