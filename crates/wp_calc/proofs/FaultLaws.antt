-- Straight-line commands, by the place of the first that isn't.
use Rattle.std.proofs.Common.{◌≡◌, refl, ℕ, ◌+◌, Bool, true, false, not, cond, ◌&&◌, List, [], ◌∷◌, length, map, Some, None, arith}
use Rattle.std.specs.List.{list_all, position_from}
use Rattle.model_commands.specs.Commands.{Command}
use Rattle.model_commands.specs.CommandParts.{commands_in}
use Rattle.model_weakest.specs.Straight.{goes_straight, is_straight}
use Rattle.dom_terms.specs.declared.terms.LogicVar.{LogicVar}
use Rattle.wp_calc.specs.Rows.{names_in}

one-straight : (c : Command) (cs : List Command) (n : ℕ)
    → (position_from not (n + 1) (map goes_straight cs) ≡ None
    → list_all goes_straight cs ≡ true) → (b : Bool) → goes_straight c ≡ b
    → cond (not b) (Some n) (position_from not (n + 1) (map goes_straight cs)) ≡ None
    → (b && list_all goes_straight cs) ≡ true
one-straight c cs n rest true t e = rest e
one-straight c cs n rest false t e = cc

all-straight : (cs : List Command) (n : ℕ)
    → position_from not n (map goes_straight cs) ≡ None → list_all goes_straight cs ≡ true
all-straight [] n e = refl
all-straight (c ∷ cs) n e = one-straight c cs n (all-straight cs (n + 1)) (goes_straight c) refl e

pub straight-there : (c : Command)
    → position_from not 0 (map goes_straight (commands_in c)) ≡ None → is_straight c ≡ true
straight-there c e = all-straight (commands_in c) 0 e

pub count-names : (xs : List LogicVar) → length (names_in xs) ≡ length xs
count-names [] = refl
count-names (x ∷ xs) = let h : length (names_in xs) ≡ length xs = count-names xs in omega arith

pub ruleset fault_rules = (straight-there)

pub ruleset count_rules = (count-names)
