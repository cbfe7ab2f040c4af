-- Needn't be believed: accepted theories promise triples, not these. How triples are read in the
-- laws of single rules, in every context, and for the runs of so many steps.
use Rattle.std.specs.Prelude.{◌≡◌, ℕ, ◌≤◌, ◌<◌, List, Some, Bool, true, ◌&&◌}
use Rattle.std.specs.List.{list_all}
use Rattle.model_commands.specs.Commands.{Command}
use Rattle.model_commands.specs.CommandParts.{commands_in}
use Rattle.model_commands.specs.SortTests.{is_sorted, results_apart}
use Rattle.model_commands.specs.Theories.{Procedure, Procedures, procedure_named}
use Rattle.model_machine.specs.LocalTriples.{HoldsLocally}
use Rattle.model_machine.specs.ClassicalTriples.{TripleFor}
use Rattle.entailment_laws.specs.Judgements.{Reading}

-- at most so many steps
abbrev pub UpTo : ℕ → ℕ → Type 0
UpTo n m = m ≤ n

-- fewer
abbrev pub Below : ℕ → ℕ → Type 0
Below n m = m < n

-- what a well-formed theory asks of the command of a step: its parts have the right sorts and
-- number, and the results of a call don't repeat and stand in none of its arguments
abbrev pub step_fits : Procedures → Command → Bool
step_fits procedures command =
    is_sorted procedures command && list_all results_apart (commands_in command)

-- triples of such commands, in every context
abbrev pub locally : Procedures → Reading
locally procedures = record {
  fits = λ command. step_fits procedures command ≡ true;
  holds = HoldsLocally procedures;
}

-- the same for the runs of at most n steps, with "some data" read classically
abbrev pub in_steps : Procedures → ℕ → Reading
in_steps procedures n = record {
  fits = λ command. step_fits procedures command ≡ true;
  holds = TripleFor procedures (UpTo n);
}

-- the triple of each procedure that a call may mean holds for the runs of fewer than n steps
abbrev pub HoldBelow : Procedures → ℕ → Type 0
HoldBelow procedures n =
    (name : List ℕ) (f : Procedure) → procedure_named name procedures ≡ Some f
    → TripleFor procedures (Below n) f.pre f.body f.post f.sort
