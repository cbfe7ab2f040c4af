-- Steps that are instances over themselves are so after others whose numbers are lower.
use Rattle.std.proofs.Common.{◌≡◌, ℕ, ◌<◌, ◌≤◌, ◌==◌, Bool, true, false, cond, List, [], ◌∷◌, ◌++◌, Option, Some, None, refl, sym, subst, arith, append_assoc, append-nil, ap₂}
use Rattle.model_commands.specs.Each.{Each}
use Rattle.model_commands.specs.Theories.{Judgement, Reason, auto, by_rule, Step, Procedures}
use Rattle.rule_table.specs.Table.{table}
use Rattle.rule_table.specs.Verdicts.{IsInstance, readings_in}
use Rattle.rule_table.specs.Accepted.{AllInstances, InstanceBy, judgement_numbered, cited, in_front, written_at}
use Rattle.model_filling.proofs.Premises.{premises-there}
use Rattle.assistant_laws.proofs.Steps.{Below, below-more, passed, each-append}

-- a number that is found is one of theirs
found-number : (n k : ℕ) (j : Judgement) (steps : List Step) → Each (λ step. n ≤ step.number) steps
    → judgement_numbered k steps ≡ Some j → n ≤ k
found-number n k j [] above found = absurd cc
found-number n k j (x ∷ xs) above found =
    at (x.number == k) refl (found-number n k j xs above.1) found
  where
    at : (b : Bool) → x.number == k ≡ b → (judgement_numbered k xs ≡ Some j → n ≤ k)
        → cond b (Some x.judgement) (judgement_numbered k xs) ≡ Some j → n ≤ k
    at true same rest e = let le : n ≤ x.number = above.0 in grind (arith, same, le)
    at false other rest e = rest e

module _ (n : ℕ) (earlier : List Step) (lower : Below n earlier) where
  cited-after : (before : List Step) → Each (λ step. n ≤ step.number) before → (ks : List ℕ)
      (js : List Judgement) → cited before ks ≡ Some js
      → cited (earlier ++ before) ks ≡ cited before ks
  cited-after before above [] js e = refl
  cited-after before above (k ∷ ks) js e =
      first (judgement_numbered k before) (cited before ks) refl refl
      (cited-after before above ks) e
    where
      first : (a : Option Judgement) (b : Option (List Judgement))
          → judgement_numbered k before ≡ a → cited before ks ≡ b
          → ((is : List Judgement) → cited before ks ≡ Some is
          → cited (earlier ++ before) ks ≡ cited before ks)
          → in_front a b ≡ Some js
          → in_front (judgement_numbered k (earlier ++ before)) (cited (earlier ++ before) ks)
          ≡ in_front (judgement_numbered k before) (cited before ks)
      first None b p q rest e = absurd cc
      first (Some i) None p q rest e = absurd cc
      first (Some i) (Some is) p q rest e =
          ap₂ (λ a b. in_front a b)
          (passed k earlier before
          (below-more n k earlier (found-number n k i before above p) lower))
          (rest is q)

  instances-from : (procedures : Procedures) (before steps : List Step)
      → Each (λ step. n ≤ step.number) before → Each (λ step. n ≤ step.number) steps
      → AllInstances procedures before steps
      → AllInstances procedures (earlier ++ before) steps
  instances-from procedures before [] above here right = tt
  instances-from procedures before (step ∷ steps) above here right = (
    instance step.reason right.0,
    subst (λ e. AllInstances procedures e steps) (sym (append_assoc earlier before (step ∷ [])))
        (instances-from procedures (before ++ step ∷ []) steps
        (each-append _ before _ above (here.0, tt)) here.1 right.1),
  )
    where
      instance : (reason : Reason) → InstanceBy procedures reason before step.judgement
          → InstanceBy procedures reason (earlier ++ before) step.judgement
      instance auto i = i
      instance (by_rule name ks arguments) i =
          let there : (js : List Judgement) × (Some js ≡ cited before ks) = premises-there
          (readings_in (table procedures) name) (written_at before ks arguments step.judgement) i in
          subst (λ (o : Option (List Judgement)). IsInstance (readings_in (table procedures) name)
          (record { arguments = arguments; premises = o; conclusion = step.judgement }))
          (sym (cited-after before above ks there.0 (sym there.1))) i

pub instances-after : (procedures : Procedures) (n : ℕ) (earlier steps : List Step)
    → Each (λ step. step.number < n) earlier → Each (λ step. n ≤ step.number) steps
    → AllInstances procedures [] steps → AllInstances procedures earlier steps
instances-after procedures n earlier steps lower above right =
    subst (λ e. AllInstances procedures e steps) (append-nil earlier)
    (instances-from n earlier lower procedures [] steps tt above right)
