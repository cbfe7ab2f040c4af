-- Usable offers, test by test.
use Rattle.std.proofs.Common.{◌≡◌, sym, refl, subst, ℕ, ◌+◌, ◌-◌, ◌≤◌, ◌==◌, true, List, [], ◌∷◌, ◌++◌, length, map, take, drop, None, Result, Ok, Err, IfOk, add-one, arith}
use Rattle.std.proofs.lemmas.Bool.{and_parts, and_from, eqb-true, eq-eqb}
use Rattle.std.proofs.Math.Seq.{take-length}
use Rattle.std.proofs.lemmas.List.{take-append-drop, length-take-le, length-drop, map-append}
use Rattle.model_formulas.specs.Formulas.{Named}
use Rattle.model_commands.specs.Each.{Each}
use Rattle.model_commands.specs.Theories.{StepOf, ProcedureOf, Theory, procedures_of, nameless_step}
use Rattle.model_files.specs.FileFaults.{step_kind}
use Rattle.model_files.specs.Sizes.{StepsAreSmall}
use Rattle.rule_table.specs.Accepted.{AllInstances}
use Rattle.model_filling.specs.Offers.{IsNumberedFrom}
use Rattle.theory_syntax.specs.declared.steps.Step.{Step}
use Rattle.theory_syntax.specs.Judgements.{step_of}
use Rattle.cited_steps.specs.Earlier.{AreCitable, are_numbered}
use Rattle.gap_filling.specs.Good.{IsFormed, AreGood}

-- what stands after a place
pub rest-of : (xs : List Step) (k : ℕ) → take (length xs - k) (drop k xs) ≡ drop k xs
rest-of xs k =
    subst (λ (n : ℕ). take n (drop k xs) ≡ drop k xs) (length-drop k xs) (take-length (drop k xs))

-- an answer of which nothing is known
pub any-ok : {T E : Type 0} (answer : Result T E) (P : T → Type 0) → ((x : T) → P x)
    → IfOk answer P
any-ok (Ok x) P h = h x
any-ok (Err e) P h = tt

-- NUMBERS
pub numbered-from : (steps : List Step) (n : ℕ) → are_numbered n steps ≡ true
    → IsNumberedFrom n (map step_of steps)
numbered-from [] n e = tt
numbered-from (s ∷ steps) n e =
    let h = and_parts (s.number == n) (are_numbered (n + 1) steps) e in (
      eqb-true s.number n h.0,
      subst (λ (k : ℕ). IsNumberedFrom k (map step_of steps)) (add-one n)
          (numbered-from steps (n + 1) h.1),
    )

pub from-numbered : (steps : List Step) (n : ℕ) → IsNumberedFrom n (map step_of steps)
    → are_numbered n steps ≡ true
from-numbered [] n h = refl
from-numbered (s ∷ steps) n h =
    and_from (s.number == n) (are_numbered (n + 1) steps) (eq-eqb s.number n h.0)
    (from-numbered steps (n + 1)
    (subst (λ (k : ℕ). IsNumberedFrom k (map step_of steps)) (sym (add-one n)) h.1))

-- STEPS THAT MAY BE CITED, and more that are numbered on
numbered-both : (xs ys : List Step) (n : ℕ) → are_numbered n xs ≡ true
    → are_numbered (n + length xs) ys ≡ true → are_numbered n (xs ++ ys) ≡ true
numbered-both [] ys n a b = subst (λ (k : ℕ). are_numbered k ys ≡ true) (omega arith) b
numbered-both (x ∷ xs) ys n a b =
    let h = and_parts (x.number == n) (are_numbered (n + 1) xs) a in
    and_from (x.number == n) (are_numbered (n + 1) (xs ++ ys)) h.0
    (numbered-both xs ys (n + 1) h.1
    (subst (λ (k : ℕ). are_numbered k ys ≡ true) (omega arith) b))

small-both : (xs ys : List Step) → StepsAreSmall (map step_of xs) → StepsAreSmall (map step_of ys)
    → StepsAreSmall (map step_of (xs ++ ys))
small-both [] ys a b = b
small-both (x ∷ xs) ys a b = (a.0, small-both xs ys a.1 b)

pub all-citable : (proof : List Step) (kept : ℕ) → kept ≤ length proof
    → AreCitable (take kept proof) → StepsAreSmall (map step_of (drop kept proof))
    → are_numbered (kept + 1) (drop kept proof) ≡ true → AreCitable proof
all-citable proof kept le earlier small numbered =
    let many = length-take-le kept proof le in
    subst AreCitable (take-append-drop kept proof) (record {
      small = small-both (take kept proof) (drop kept proof) earlier.small small;
      in_order = numbered-both (take kept proof) (drop kept proof) 1 earlier.in_order
          (subst (λ (k : ℕ). are_numbered k (drop kept proof) ≡ true) (omega (arith, many))
          numbered);
    })

-- GOOD STEPS are well formed and instances
module _ (theory : Theory) (f : ProcedureOf Named) where
  pub good-formed : (steps earlier : List (StepOf Named)) → AreGood theory f earlier steps
      → Each (λ step. step_kind theory f step.number step ≡ None) steps
  unfolding IsFormed
  good-formed [] earlier h = tt
  good-formed (s ∷ steps) earlier h = (h.0.0, good-formed steps (earlier ++ s ∷ []) h.1)

  pub good-instances : (steps earlier : List (StepOf Named)) → AreGood theory f earlier steps
      → AllInstances (procedures_of theory) (map nameless_step earlier) (map nameless_step steps)
  good-instances [] earlier h = tt
  good-instances (s ∷ steps) earlier h = (
    h.0.1,
    subst (λ z. AllInstances (procedures_of theory) z (map nameless_step steps))
        (map-append nameless_step earlier (s ∷ [])) (good-instances steps (earlier ++ s ∷ []) h.1),
  )

  pub all-good : (steps earlier : List (StepOf Named))
      → Each (λ step. step_kind theory f step.number step ≡ None) steps
      → AllInstances (procedures_of theory) (map nameless_step earlier) (map nameless_step steps)
      → AreGood theory f earlier steps
  unfolding IsFormed
  all-good [] earlier e i = tt
  all-good (s ∷ steps) earlier e i = (
    (e.0, i.0),
    all-good steps (earlier ++ s ∷ []) e.1
        (subst (λ z. AllInstances (procedures_of theory) z (map nameless_step steps))
        (sym (map-append nameless_step earlier (s ∷ []))) i.1),
  )
