use Rattle.std.proofs.Common.{◌≡◌, ◌+◌, ◌-◌, length, map, Some, slice_get}
use Rattle.model_formulas.specs.Formulas.{Named}
use Rattle.model_commands.specs.Theories.{ProcedureOf}
use Rattle.theory_syntax.specs.Judgements.{judgement_of, step_of}
use Rattle.theory_syntax.specs.Theories.{theory_of}
use Rattle.theory_filler.specs.Answers.{WereAsked}
use Rattle.boxed_fillers.specs.Voices.{voices_of}
use Rattle.boxed_fillers.proofs.InOrder.{SoFar}
use Rattle.boxed_fillers.proofs.asking.ask_each.Given as goal

-- nobody gave something so far, and the proof is as it was
abbrev pub invariant-loop-filler : goal.invariant-loop-filler
invariant-loop-filler g l = record {
  kept : l.proof ≡ l.initial.proof;
  asked : WereAsked (voices_of g.F.Filler.turn g.F.Filler.offers l.initial.fillers)
      (voices_of g.F.Filler.turn g.F.Filler.offers l.fillers);
  so_far : (f : ProcedureOf Named)
      → slice_get (theory_of l.theory).procedures (l.procedure - 1) ≡ Some f
      → SoFar (theory_of l.theory) f (map step_of l.initial.proof) (length l.initial.proof + 1)
      (judgement_of l.judgement)
      (voices_of g.F.Filler.turn g.F.Filler.offers l.initial.fillers) l.filler-index
      (voices_of g.F.Filler.turn g.F.Filler.offers l.fillers);
}
