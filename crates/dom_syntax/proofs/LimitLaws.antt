-- How many variables a procedure declares.
use Rattle.std.proofs.Common.{◌≡◌, ◌∙◌, ap, ◌+◌, List, ◌++◌, length, length-append}
use Rattle.std.specs.List.{flat_map}
use Rattle.std.proofs.lemmas.Grind.{flat_map-append}
use Rattle.model_terms.specs.Stores.{ProgVar}
use Rattle.model_commands.specs.Commands.{Command}
use Rattle.model_commands.specs.CommandParts.{locals}

-- the local variables of two lists of commands
pub locals-of-two : (xs ys : List Command)
    → length (flat_map locals (xs ++ ys))
    ≡ length (flat_map locals xs) + length (flat_map locals ys)
locals-of-two xs ys =
    ap length (flat_map-append locals xs ys)
    ∙ length-append (flat_map locals xs) (flat_map locals ys)

-- those of three lists of variables
pub three-lengths : (xs ys zs : List ProgVar)
    → length (xs ++ (ys ++ zs)) ≡ length xs + (length ys + length zs)
three-lengths xs ys zs =
    length-append xs (ys ++ zs) ∙ ap (λ n. length xs + n) (length-append ys zs)

pub ruleset room_rules = (locals-of-two)

pub ruleset declared_rules = (three-lengths)
