-- The citations of an instance are numbers of 32 bits.
use Rattle.std.proofs.Common.{◌≡◌, ℕ, ◌+◌, ◌<◌, ◌==◌, Bool, true, false, cond, List, [], ◌∷◌, length, map, Option, Some, None, refl, sym, ap, ap₂, arith}
use Rattle.std.proofs.lemmas.Bool.{and_parts, eqb-true}
use Rattle.model_commands.specs.Theories.{Judgement, Reason, auto, by_rule, Procedures, nameless_judgement}
use Rattle.rule_table.specs.Table.{table}
use Rattle.rule_table.specs.Verdicts.{readings_in}
use Rattle.rule_table.specs.Accepted.{judgement_numbered, cited, in_front, written_at, InstanceBy}
use Rattle.model_filling.proofs.Premises.{premises-there}
use Rattle.theory_syntax.specs.declared.steps.Step.{Step}
use Rattle.theory_syntax.specs.Judgements.{judgement_of}
use Rattle.cited_steps.specs.Earlier.{are_numbered, steps_in}
use Rattle.gap_filling.specs.Renumbered.{held, held_reason}

-- a number that some step has isn't above all of theirs
low : (steps : List Step) (n k : ℕ) (j : Judgement) → are_numbered k steps ≡ true
    → judgement_numbered n (steps_in steps) ≡ Some j → n < k + length steps
low [] n k j e q = absurd cc
low (s ∷ steps) n k j e q =
    by_test (and_parts (s.number == k) (are_numbered (k + 1) steps) e) (low steps n (k + 1) j)
    (s.number == n) refl q
  where
    by_test : (s.number == k ≡ true) × (are_numbered (k + 1) steps ≡ true)
        → (are_numbered (k + 1) steps ≡ true → judgement_numbered n (steps_in steps) ≡ Some j
        → n < k + 1 + length steps) → (b : Bool) → s.number == n ≡ b
        → cond b (Some (nameless_judgement (judgement_of s.judgement)))
        (judgement_numbered n (steps_in steps)) ≡ Some j → n < k + length (s ∷ steps)
    by_test h later true t q =
        let at : s.number ≡ k = eqb-true s.number k h.0 in
        let same : s.number ≡ n = eqb-true s.number n t in
        omega (arith, at, same)
    by_test h later false t q = omega (arith, later h.1 q)

both-there : (one : Option Judgement) (more : Option (List Judgement)) (js : List Judgement)
    → in_front one more ≡ Some js
    → ((j : Judgement) × (one ≡ Some j)) × ((ks : List Judgement) × (more ≡ Some ks))
both-there (Some j) (Some ks) js e = ((j, refl), (ks, refl))
both-there (Some j) None js e = absurd cc
both-there None (Some ks) js e = absurd cc
both-there None None js e = absurd cc

module _ (earlier : List Step) (numbered : are_numbered 1 earlier ≡ true)
    (few : length earlier < 4294967295) where
  all-held : (ns : List ℕ) (js : List Judgement) → cited (steps_in earlier) ns ≡ Some js
      → map held ns ≡ ns
  all-held [] js e = refl
  all-held (n ∷ ns) js e =
      let h = both-there (judgement_numbered n (steps_in earlier)) (cited (steps_in earlier) ns) js
      e in
      let small = low earlier n 1 h.0.0 numbered h.0.1 in
      let same : held n ≡ n = omega (arith, small, few) in
      ap₂ (λ (m : ℕ) (ms : List ℕ). m ∷ ms) same (all-held ns h.1.0 h.1.1)

  pub instance-held : (procedures : Procedures) (reason : Reason) (judgement : Judgement)
      → InstanceBy procedures reason (steps_in earlier) judgement → held_reason reason ≡ reason
  instance-held procedures auto judgement i = refl
  instance-held procedures (by_rule name ns arguments) judgement i =
      let there = premises-there (readings_in (table procedures) name)
      (written_at (steps_in earlier) ns arguments judgement) i in
      ap (λ (ms : List ℕ). by_rule name ms arguments) (all-held ns there.0 (sym there.1))
