-- Items that are changed one by one.
use Rattle.std.proofs.Common.{◌≡◌, ℕ, suc, ◌<◌, ◌≤◌, List, [], ◌∷◌, length, get_or, map, refl, ap, arith}
use Rattle.model_commands.specs.Commands.{Command, ◌then◌}
use Rattle.theory_syntax.specs.Commands.{block_with}
use Rattle.model_grammar.specs.Sorts.{Declared, sorted_command, sorted_block}

-- of the first i, what each stands for is changed by the function
pub record Each {X Y : Type 0} (view : X → Y) (change : Y → Y) (new old : List X)
    (i : ℕ) : Type 0 where
  pub each : (k : ℕ) (d : X) → k < i → view (get_or new k d) ≡ change (view (get_or old k d))

-- and those from i on are as they were
pub record Same {X : Type 0} (new old : List X) (i : ℕ) : Type 0 where
  pub same : (k : ℕ) (d : X) → i ≤ k → get_or new k d ≡ get_or old k d

two : {Y : Type 0} (a b : Y) (c d : List Y) → a ≡ b → c ≡ d → (a ∷ c) ≡ (b ∷ d)
two a b c d e f = cc

pub all_changed : {X Y : Type 0} (view : X → Y) (change : Y → Y) (new old : List X)
    → length new ≡ length old
    → ((k : ℕ) (d : X) → k < length old → view (get_or new k d) ≡ change (view (get_or old k d)))
    → map view new ≡ map change (map view old)
all_changed view change [] [] l h = refl
all_changed view change (x ∷ new) [] l h = absurd (omega (arith, l))
all_changed view change [] (y ∷ old) l h = absurd (omega (arith, l))
all_changed view change (x ∷ new) (y ∷ old) l h =
    two _ _ _ _ (h 0 x (omega arith)) (all_changed view change new old (omega arith) λ k d lt. h
    (suc k) d (omega arith))

-- a block is changed command by command
pub block_changed : (declared : Declared) (cs : List Command)
    → block_with (map (sorted_command declared) cs) ≡ sorted_block declared (block_with cs)
block_changed declared [] = refl
block_changed declared (c ∷ cs) = ap (λ b. sorted_command declared c then b)
    (block_changed declared cs)
