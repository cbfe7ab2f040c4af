-- What an assistant gives is usable, wherever it isn't too large.
use Rattle.std.proofs.Common.{◌≡◌, ◌∙◌, ℕ, suc, ◌<◌, ◌≤◌, ◌==◌, Bool, true, false, not, cond, ◌&&◌, ◌||◌, List, [], ◌∷◌, ◌++◌, map, Option, Some, None, IfSome, refl, ap, ap₂, arith, is_none}
use Rattle.std.specs.List.{list_all, find, position_from}
use Rattle.model_shapes.specs.Sorts.{Sort, DataSort}
use Rattle.model_terms.specs.Variables.{Var}
use Rattle.model_formulas.specs.Formulas.{Named}
use Rattle.model_formulas.specs.WellSorted.{flags}
use Rattle.model_files.specs.RuleNames.{is_rule_name}
use Rattle.model_files.specs.FileFaults.{FileKind, version_kind, twice_kind, unknown_kind, sort_kind, constant_kind, results_kind, scope_kind, rule_kind, number_kind, kinds, proof_step, step_kind, scope_of, is_known, is_as_declared, judgement_sorted, is_rule_of_version}
use Rattle.model_commands.specs.CommandParts.{variables_of, variables_of_term}
use Rattle.model_commands.specs.Commands.{Command}
use Rattle.model_commands.specs.Each.{Each}
use Rattle.model_commands.specs.Theories.{JudgementOf, entails, triple, Reason, by_rule, StepOf, ProcedureOf, Theory, procedures_of, nameless_step, nameless_judgement}
use Rattle.assistant_laws.specs.Plans.{Plan, alone, from_one, from_two, last_number, last_citations, steps_of}
use Rattle.assistant_laws.specs.Proposals.{Proves}
use Rattle.assistant_laws.proofs.Ways.{both_true}
use Rattle.assistant_laws.proofs.Steps.{each-append}
use Rattle.assistant_laws.proofs.After.{instances-after}
use Rattle.model_filling.specs.Sizes.{IsSized}
use Rattle.model_filling.specs.Usable.{IsUsable}
use Rattle.model_filling.specs.Offers.{IsNumberedFrom}
use Rattle.filling_laws.proofs.Fine.{AllPass, passes-both, passes-parts}
use Rattle.filling_laws.proofs.Kept.{FineJudgement, IsKept}

-- TESTS: none fails where each says yes, and the other way round
none-fails : (passes : FileKind → Bool) → ((kind : FileKind) → passes kind ≡ true)
    → (ks : List FileKind) → find (λ kind. not (passes kind)) ks ≡ None
none-fails passes all [] = refl
none-fails passes all (k ∷ ks) =
    ap (λ b. cond (not b) (Some k) (find (λ kind. not (passes kind)) ks)) (all k)
    ∙ none-fails passes all ks

each-passes : (passes : FileKind → Bool) (ks : List FileKind)
    → find (λ kind. not (passes kind)) ks ≡ None → Each (λ kind. passes kind ≡ true) ks
each-passes passes [] e = tt
each-passes passes (k ∷ ks) e = at (passes k) refl (each-passes passes ks) e
  where
    at : (b : Bool) → passes k ≡ b
        → (find (λ kind. not (passes kind)) ks ≡ None → Each (λ kind. passes kind ≡ true) ks)
        → cond (not b) (Some k) (find (λ kind. not (passes kind)) ks) ≡ None
        → Each (λ kind. passes kind ≡ true) (k ∷ ks)
    at true same rest e = (same, rest e)
    at false same rest e = absurd cc

pub all-flags : (xs : List Bool) (n : ℕ) → is_none (position_from not n xs) ≡ true → AllPass xs
all-flags [] n e = refl
all-flags (true ∷ xs) n e = all-flags xs _ e
all-flags (false ∷ xs) n e = absurd cc

no-fault : (xs : List Bool) (n : ℕ) → AllPass xs → is_none (position_from not n xs) ≡ true
no-fault [] n e = refl
no-fault (true ∷ xs) n e = no-fault xs _ e
no-fault (false ∷ xs) n e = absurd cc

module _ (a b : Var → Bool) where
  both-tests : (xs : List Var) → list_all a xs ≡ true → list_all b xs ≡ true
      → list_all (λ x. a x && b x) xs ≡ true
  both-tests [] x y = refl
  both-tests (v ∷ xs) x y =
      let p = both_true (a v) (list_all a xs) x in
      let q = both_true (b v) (list_all b xs) y in
      ap₂ (λ u w. u && w) (ap₂ (λ u w. u && w) p.0 q.0) (both-tests xs p.1 q.1)

  tests-both : (xs : List Var) → list_all (λ x. a x && b x) xs ≡ true
      → (list_all a xs ≡ true) × (list_all b xs ≡ true)
  tests-both [] x = (refl, refl)
  tests-both (v ∷ xs) x =
      let p = both_true (a v && b v) (list_all (λ x. a x && b x) xs) x in
      let q = both_true (a v) (b v) p.0 in
      let rest = tests-both xs p.1 in
      (ap₂ (λ u w. u && w) q.0 rest.0, ap₂ (λ u w. u && w) q.1 rest.1)

same-number : (n : ℕ) → n == n ≡ true
same-number n = grind arith

-- a rule of the first version is one of each
of-first-version : (version : ℕ) (rule : List ℕ) → is_rule_of_version 1 rule ≡ true
    → is_rule_of_version version rule ≡ true
of-first-version version rule e =
    let both = both_true (is_rule_name rule) _ e in
    ap₂ (λ a b. a && b) both.0 (or-second (version == 2) _ both.1)
  where
    or-second : (a b : Bool) → b ≡ true → (a || b) ≡ true
    or-second true b e = refl
    or-second false b e = e

module _ (theory : Theory) (f : ProcedureOf Named) where
  -- the variable is declared, and with its sort
  abbrev pub T : Var → Bool
  T x = is_known (scope_of theory f) x && is_as_declared (scope_of theory f) x

  -- the asked judgement is fine
  asked-fine : (at n l : ℕ) (r : Reason) (p q : Named) (s : Sort)
      → step_kind theory f at
      (record { number = n; line = l; reason = r; judgement = entails p q s }) ≡ None
      → FineJudgement variables_of_term ◌∷◌ T (entails p q s)
  asked-fine at n l r p q s e =
      let step : StepOf Named = record {
        number = n;
        line = l;
        reason = r;
        judgement = entails p q s;
      } in
      let tests = each-passes (proof_step theory f at step) kinds e in
      let known = passes-parts (is_known (scope_of theory f)) (variables_of p ++ variables_of q) _
      (both_true _ _ tests.1.1.0).0 in
      let sort_test = both_true _ _ tests.1.1.1.0 in
      let declared = passes-parts (is_as_declared (scope_of theory f))
      (variables_of p ++ variables_of q) _
      (both_true _ _ sort_test.1).0 in
      let judged = both_true _ _ (both_true _ _ sort_test.0).0 in
      let seen = passes-parts T (variables_of p) (variables_of q)
      (both-tests (is_known (scope_of theory f)) (is_as_declared (scope_of theory f))
      (variables_of p ++ variables_of q) known.0 declared.0) in (
        record { sorted = all-flags (flags p s) 0 judged.0; variables = seen.0 },
        record { sorted = all-flags (flags q s) 0 judged.1; variables = seen.1 },
      )

  pub asked-sorted : (at : ℕ) (asked : StepOf Named) → step_kind theory f at asked ≡ None
      → judgement_sorted asked.judgement ≡ true
  asked-sorted at asked e =
      let tests = each-passes (proof_step theory f at asked) kinds e in
      (both_true _ _ (both_true _ _ tests.1.1.1.0).0).0

  -- a step of the plan is well formed
  one-formed : (n : ℕ) (rule : List ℕ) (citations : List ℕ) (j : JudgementOf Named)
      → is_rule_of_version 1 rule ≡ true → FineJudgement variables_of_term ◌∷◌ T j
      → step_kind theory f n
      (record { number = n; line = 0; reason = by_rule rule citations []; judgement = j }) ≡ None
  one-formed n rule citations (triple p c q k) r x = absurd x
  one-formed n rule citations (entails p q s) r x = none-fails (proof_step theory f n step) tests
      kinds
    where
      step : StepOf Named
      step = record {
        number = n;
        line = 0;
        reason = by_rule rule citations [];
        judgement = entails
            p q s;
      }

      seen : (list_all (is_known (scope_of theory f)) (variables_of p ++ variables_of q) ≡ true)
          × (list_all (is_as_declared (scope_of theory f)) (variables_of p ++ variables_of q)
          ≡ true)
      seen = tests-both (is_known (scope_of theory f)) (is_as_declared (scope_of theory f))
          (variables_of p ++ variables_of q)
          (passes-both T (variables_of p) (variables_of q) x.0.variables x.1.variables)

      more : (t : Var → Bool) → list_all t (variables_of p ++ variables_of q) ≡ true
          → list_all t ((variables_of p ++ variables_of q) ++ []) ≡ true
      more t e = passes-both t (variables_of p ++ variables_of q) [] e refl

      tests : (kind : FileKind) → proof_step theory f n step kind ≡ true
      tests version_kind = refl
      tests twice_kind = refl
      tests unknown_kind = ap (λ b. b && true) (more (is_known (scope_of theory f)) seen.0)
      tests sort_kind = ap₂ (λ a b. (a && true) && (b && true))
          (ap₂ (λ a b. a && b) (no-fault (flags p s) 0 x.0.sorted)
          (no-fault (flags q s) 0 x.1.sorted))
          (more (is_as_declared (scope_of theory f)) seen.1)
      tests constant_kind = refl
      tests results_kind = refl
      tests scope_kind = refl
      tests rule_kind = of-first-version theory.version rule r
      tests number_kind = same-number n

  abbrev Formed : StepOf Named → Type 0
  Formed step = step_kind theory f step.number step ≡ None

  plan-formed : (plan : Plan) (n : ℕ) → IsKept variables_of_term ◌∷◌ T plan
      → Each Formed (steps_of n plan)
  plan-formed (alone rule j) n k = (one-formed n rule [] j k.0 k.1, tt)
  plan-formed (from_one rule a j) n k =
      each-append Formed (steps_of n a) _ (plan-formed a n k.0) (
        one-formed (last_number n (from_one rule a j)) rule (last_citations n (from_one rule a j)) j
            k.1 k.2,
        tt,
      )
  plan-formed (from_two rule a b j) n k =
      each-append Formed (steps_of n a) _ (plan-formed a n k.0)
      (each-append Formed (steps_of (suc (last_number n a)) b) _ (plan-formed b _ k.1) (
        one-formed (last_number n (from_two rule a b j)) rule
            (last_citations n (from_two rule a b j)) j k.2 k.3,
        tt,
      ))

  -- NUMBERS
  not-lower : (n m : ℕ) (steps : List (StepOf Named)) → m ≤ n → IsNumberedFrom n steps
      → Each (λ step. m ≤ step.number) (map nameless_step steps)
  not-lower n m [] le x = tt
  not-lower n m (step ∷ steps) le x =
      (omega (arith, x.0, le), not-lower (suc n) m steps (omega (arith, le)) x.1)

  lower : (n : ℕ) (steps : List (StepOf Named)) → Each (λ step. step.number < n) steps
      → Each (λ step. step.number < n) (map nameless_step steps)
  lower n [] x = tt
  lower n (step ∷ steps) x = (x.0, lower n steps x.1)

  -- USABLE
  pub plan-usable : (n : ℕ) (earlier : List (StepOf Named)) (j : JudgementOf Named) (plan : Plan)
      → Each (λ step. step.number < n) earlier → IsKept variables_of_term ◌∷◌ T plan
      → Proves (procedures_of theory) n (nameless_judgement j) (steps_of n plan)
      → IsSized theory.version (steps_of n plan) → IsUsable theory f earlier n j (steps_of n plan)
  plan-usable n earlier j plan below kept proves sized = record {
    sized = sized;
    numbered = proves.numbered;
    formed = plan-formed plan n kept;
    instances = instances-after (procedures_of theory) n (map nameless_step earlier)
        (map nameless_step (steps_of n plan)) (lower n earlier below)
        (not-lower n n (steps_of n plan) (omega arith) proves.numbered)
        proves.instances;
    ends = proves.ends;
  }

  -- of an assistant
  pub given-usable : (at n : ℕ) (earlier : List (StepOf Named)) (asked : StepOf Named)
      (o : Option Plan)
      → Each (λ step. step.number < n) earlier
      → (FineJudgement variables_of_term ◌∷◌ T asked.judgement
      → IfSome o (IsKept variables_of_term ◌∷◌ T))
      → IfSome o (λ plan. Proves (procedures_of theory) n (nameless_judgement asked.judgement)
      (steps_of n plan))
      → ((p : Named) (c : Command) (q : Named) (k : DataSort) → asked.judgement ≡ triple p c q k
      → o ≡ None)
      → step_kind theory f at asked ≡ None
      → IfSome o (λ plan. IsSized theory.version (steps_of n plan)
      → IsUsable theory f earlier n asked.judgement (steps_of n plan))
  given-usable at n earlier asked None below kept proves none formed = tt
  given-usable at n earlier asked (Some plan) below kept proves none formed =
      λ sized. plan-usable n earlier asked.judgement plan below
      (kept (fine asked.judgement formed none)) proves sized
    where
      fine : (j : JudgementOf Named)
          → step_kind theory f at (record asked { judgement = j }) ≡ None
          → ((p : Named) (c : Command) (q : Named) (k : DataSort) → j ≡ triple p c q k
          → Some plan ≡ None)
          → FineJudgement variables_of_term ◌∷◌ T j
      fine (entails p q s) formed none = asked-fine at asked.number asked.line asked.reason p q s
          formed
      fine (triple p c q k) formed none = absurd (apart (none p c q k refl))
        where
          apart : Some plan ≡ None → ⊥
          apart e = cc
