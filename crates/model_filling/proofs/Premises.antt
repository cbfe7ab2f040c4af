-- An instance has its premises.
use Rattle.std.proofs.Common.{◌≡◌, List, [], ◌∷◌, Some, ⊎_elim}
use Rattle.model_commands.specs.Theories.{Judgement}
use Rattle.rule_table.specs.Entries.{Row}
use Rattle.rule_table.specs.Verdicts.{Written, IsInstance}

pub premises-there : (rows : List Row) (w : Written) → IsInstance rows w
    → (js : List Judgement) × (Some js ≡ w.premises)
premises-there [] w m = absurd m
premises-there (row ∷ rows) w m =
    ⊎_elim (λ x. ((row x.0).premises, x.1.0.1)) (λ y. premises-there rows w y) m
