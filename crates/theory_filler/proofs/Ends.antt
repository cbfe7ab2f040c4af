-- The end of a walk.
use Rattle.std.proofs.Common.{◌≡◌, ℕ, ◌+◌, List, [], length, map, Some, refl}
use Rattle.model_formulas.specs.Formulas.{Named}
use Rattle.model_commands.specs.Theories.{ProcedureOf, Theory, nameless_judgement, own_triple}
use Rattle.rule_table.specs.Accepted.{last_judgement, no_proof}
use Rattle.model_filling.specs.Offers.{Voice}
use Rattle.model_filling.specs.Walk.{Walk, proof_filled, fails_at, ends, ends_badly}
use Rattle.theory_syntax.specs.declared.steps.Step.{Step}
use Rattle.theory_syntax.specs.Judgements.{step_of}
use Rattle.cited_steps.specs.Earlier.{steps_in}
use Rattle.theory_filler.specs.declared.faults.FillFault.TheVariants as fault
use Rattle.theory_filler.specs.declared.steps.Walked.{Walked}
use Rattle.theory_filler.specs.Faults.{Told}
use Rattle.theory_filler.specs.Walks.{WalkLeads, WalkFails}

module _ (theory : Theory) (f : ProcedureOf Named) (written : List Step) (voices : List Voice)
    (walked : Walked) (others : List Voice)
    (leads : WalkLeads theory f written voices walked others) where
  pub well : last_judgement (steps_in walked.steps) ≡ Some (nameless_judgement (own_triple f))
      → Walk theory f [] [] 1 (map step_of written) voices
      (proof_filled (map step_of walked.steps) others)
  well e = leads (proof_filled (map step_of walked.steps) others) (ends e)

  pub badly : (last_judgement (steps_in walked.steps) ≡ Some (nameless_judgement (own_triple f))
      → ⊥) → (number : ℕ) → Told (WalkFails theory f written voices number) (fault.NoProof number)
  badly n number =
      (length written + 1, (refl, leads (fails_at (length written + 1) no_proof) (ends_badly n)))
