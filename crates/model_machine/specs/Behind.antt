-- Needn't be believed: the run behind an outcome. The law `outcomes_are_runs` says that there is
-- one for each.
use Rattle.std.specs.Prelude.{◌≡◌, ℕ, ◌+◌, List, length}
use Rattle.model_terms.specs.Stores.{ProgVar, Store}
use Rattle.model_commands.specs.Theories.{Procedures}
use Rattle.model_groves.specs.Picks.{Pick}
use Rattle.model_machine.specs.Machine.{Config, running, ended, fault, runs}
use Rattle.model_machine.specs.Outcomes.{Outcome, ends, spends, passes_limit, has_fault, no_pick, values_in}

-- some list of picks, as long as the steps taken, with which the run ends, runs on or faults; where
-- a limit is passed, some list with which it runs on
abbrev pub Behind : Procedures → List ProgVar → ℕ → Config → Outcome → Type 0
Behind procedures results taken config (ends n values grove) =
    (picks : List Pick) × (store : Store) × (n ≡ taken + length picks)
    × (runs procedures picks config ≡ ended store grove) × (values ≡ values_in results store)
Behind procedures results taken config (spends n left) =
    (picks : List Pick) × (n ≡ taken + length picks) × (runs procedures picks config ≡ running)
Behind procedures results taken config (has_fault kind n command) =
    (picks : List Pick) × (n + 1 ≡ taken + length picks)
    × (runs procedures picks config ≡ fault kind)
Behind procedures results taken config (passes_limit kind) =
    (picks : List Pick) × (runs procedures picks config ≡ running)
Behind procedures results taken config no_pick = ⊥
