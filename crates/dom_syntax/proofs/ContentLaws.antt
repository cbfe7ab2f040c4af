-- Tests of all variables that stand in a place.
use Rattle.std.proofs.Common.{◌≡◌, ◌∙◌, sym, refl, List, [], ◌∷◌, ◌++◌, Bool, ◌&&◌, append-nil, Result, Ok, Err, IfOk}
use Rattle.std.specs.List.{list_all, flat_map}
use Rattle.std.proofs.lemmas.List.Folds.{list_all-append}
use Rattle.model_terms.specs.Variables.{Var}
use Rattle.model_commands.specs.Commands.{Command}
use Rattle.model_commands.specs.CommandParts.{own_variables}

-- a test of each variable of some commands, command by command
pub each-own : (p : Var → Bool) (cs : List Command)
    → list_all (λ c. list_all p (own_variables c)) cs ≡ list_all p (flat_map own_variables cs)
each-own p [] = refl
each-own p (c ∷ cs) =
    (λ j. list_all p (own_variables c) && each-own p cs j)
    ∙ sym (list_all-append p (own_variables c) (flat_map own_variables cs))

pub nothing-more : (xs : List Var) → xs ++ [] ≡ xs
nothing-more xs = append-nil xs

pub all-append : (p : Var → Bool) (xs ys : List Var)
    → list_all p (xs ++ ys) ≡ (list_all p xs && list_all p ys)
all-append = list_all-append

pub ruleset contents_rules = (nothing-more)

pub ruleset command_rules = (each-own, all-append)

-- what an answer says in other words
pub if-ok : {A E : Type 0} (r : Result A E) (P Q : A → Type 0) → ((a : A) → P a → Q a)
    → IfOk r P → IfOk r Q
if-ok (Ok a) P Q f p = f a p
if-ok (Err e) P Q f p = tt
