-- Whether a theory is accepted has nothing to do with the lines of its steps: no step and no end of
-- a proof sees a line, and a call means the same procedure but for its lines.
use Rattle.std.proofs.Common.{◌≡◌, ◌∙◌, refl, ap, sym, subst, ℕ, ◌==◌, cond, List, [], ◌∷◌, ◌++◌, map, Some}
use Rattle.std.proofs.Math.Path.{transport, transport⁻¹}
use Rattle.std.proofs.lemmas.List.{map-append}
use Rattle.model_commands.specs.Theories.{Judgement, Reason, auto, by_rule, Step, Procedure, Procedures, Theory, procedures_of}
use Rattle.model_round_trip.specs.ReadBack.{without_lines}
use Rattle.rule_table.specs.Table.{table}
use Rattle.rule_table.specs.Verdicts.{IsInstance, readings_in}
use Rattle.rule_table.specs.Accepted.{IsAccepted, IsProved, Each, AllInstances, InstanceBy, judgement_numbered, in_front, cited, last_judgement}
use Rattle.generator_laws.proofs.LinesLeftOut.{unlined, bare, commuting}
use Rattle.generator_laws.proofs.LinesOfCalls.{proved-carried}

-- WITHIN A PROOF
numbered-same : (n : ℕ) (steps : List Step)
    → judgement_numbered n (map unlined steps) ≡ judgement_numbered n steps
numbered-same n [] = refl
numbered-same n (step ∷ steps) =
    ap (λ later. cond (step.number == n) (Some step.judgement) later) (numbered-same n steps)

cited-same : (earlier : List Step) (ns : List ℕ) → cited (map unlined earlier) ns ≡ cited earlier ns
cited-same earlier [] = refl
cited-same earlier (n ∷ ns) =
    ap (λ j. in_front j (cited (map unlined earlier) ns)) (numbered-same n earlier)
    ∙ ap (in_front (judgement_numbered n earlier)) (cited-same earlier ns)

last-same : (steps : List Step) → last_judgement (map unlined steps) ≡ last_judgement steps
last-same [] = refl
last-same (step ∷ []) = refl
last-same (step ∷ next ∷ steps) = last-same (next ∷ steps)

module _ (ps : Procedures) where
  instance-same : (reason : Reason) (earlier : List Step) (j : Judgement)
      → InstanceBy ps reason (map unlined earlier) j ≡ InstanceBy ps reason earlier j
  instance-same auto earlier j = refl
  instance-same (by_rule name citations arguments) earlier j =
      ap (λ premises. IsInstance (readings_in (table ps) name) (record {
        arguments = arguments;
        premises = premises;
        conclusion = j;
      })) (cited-same earlier citations)

  steps-same : (earlier steps : List Step)
      → AllInstances ps (map unlined earlier) (map unlined steps) ≡ AllInstances ps earlier steps
  steps-same earlier [] = refl
  steps-same earlier (step ∷ steps) =
      ap (λ A. A × AllInstances ps (map unlined earlier ++ unlined step ∷ []) (map unlined steps))
      (instance-same step.reason earlier step.judgement)
      ∙ ap (λ passed. InstanceBy ps step.reason earlier step.judgement
      × AllInstances ps passed (map unlined steps)) (sym (map-append unlined earlier (step ∷ [])))
      ∙ ap (λ B. InstanceBy ps step.reason earlier step.judgement × B)
      (steps-same (earlier ++ step ∷ []) steps)

  without : (f : Procedure) → IsProved ps f → IsProved ps (bare f)
  without f h = record {
    steps = transport⁻¹ (steps-same [] f.proof) h.steps;
    ends = last-same f.proof ∙ h.ends;
  }

  within : (f : Procedure) → IsProved ps (bare f) → IsProved ps f
  within f h = record {
    steps = transport (steps-same [] f.proof) h.steps;
    ends = sym (last-same f.proof) ∙ h.ends;
  }

-- OF EACH PROCEDURE
each-map : (P Q : Procedure → Type 0) → ((f : Procedure) → P f → Q f) → (fs : Procedures)
    → Each P fs → Each Q fs
each-map P Q h [] all = tt
each-map P Q h (f ∷ fs) all = (h f all.0, each-map P Q h fs all.1)

each-without : (P : Procedure → Type 0) → ((f : Procedure) → P f → P (bare f)) → (fs : Procedures)
    → Each P fs → Each P (map bare fs)
each-without P h [] all = tt
each-without P h (f ∷ fs) all = (h f all.0, each-without P h fs all.1)

each-within : (P : Procedure → Type 0) → ((f : Procedure) → P (bare f) → P f) → (fs : Procedures)
    → Each P (map bare fs) → Each P fs
each-within P h [] all = tt
each-within P h (f ∷ fs) all = (h f all.0, each-within P h fs all.1)

-- the procedures of two theories that are the same but for the lines
alike-accepted : (ps qs : Procedures) → map bare ps ≡ map bare qs → Each (IsProved ps) ps
    → Each (IsProved qs) qs
alike-accepted ps qs alike all =
    each-map (IsProved ps) (IsProved qs) (proved-carried ps qs alike) qs
    (each-within (IsProved ps) (within ps) qs
    (subst (Each (IsProved ps)) alike (each-without (IsProved ps) (without ps) ps all)))

pub lines-apart : (t u : Theory) → without_lines t ≡ without_lines u → IsAccepted t → IsAccepted u
lines-apart t u same = alike-accepted (procedures_of t) (procedures_of u)
    (sym (commuting t) ∙ ap procedures_of same ∙ commuting u)
