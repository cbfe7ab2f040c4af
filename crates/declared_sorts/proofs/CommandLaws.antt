-- Tests of all variables of a command and of a block.
use Rattle.std.proofs.Common.{◌≡◌, ◌∙◌, sym, refl, ap, List, [], ◌∷◌, ◌++◌, Bool, ◌&&◌, map}
use Rattle.std.proofs.lemmas.Grind.{flat_map-append}
use Rattle.std.proofs.lemmas.List.Concat.{flat_map_single}
use Rattle.std.proofs.lemmas.List.Folds.{list_all-append}
use Rattle.std.specs.List.{flat_map, list_all}
use Rattle.model_terms.specs.Variables.{Var}
use Rattle.model_terms.specs.Stores.{ProgVar, as_var}
use Rattle.model_commands.specs.Commands as model
use Rattle.model_commands.specs.Commands.{if_else, while_do}
use Rattle.model_commands.specs.CommandParts.{commands_in, commands_of, own_variables, terms_of_cond, variables_of_command, variables_of_term}
use Rattle.dom_terms.specs.declared.conditions.Cond.{Cond}
use Rattle.dom_terms.specs.Conditions.{cond_of}
use Rattle.theory_syntax.specs.declared.commands.Command.{Command}
use Rattle.theory_syntax.specs.declared.commands.Command.TheOpen.{Command-F}
use Rattle.theory_syntax.specs.declared.commands.Command.TheFolds.{fold-roll-Command}
use Rattle.theory_syntax.specs.declared.commands.Command.TheVariants as v
use Rattle.theory_syntax.specs.Commands.{block_of, block_with, command_of, command_step}
use Rattle.declared_sorts.proofs.Loops.{last_behind}

-- of a block, command by command
pub each_command : (p : Var → Bool) (cs : List model.Command)
    → list_all (λ c. list_all p (variables_of_command c)) cs
    ≡ list_all p (flat_map own_variables (commands_of (block_with cs)))
each_command p [] = refl
each_command p (c ∷ cs) =
    (λ j. list_all p (variables_of_command c) && each_command p cs j)
    ∙ sym (list_all-append p (variables_of_command c)
    (flat_map own_variables (commands_of (block_with cs))))
    ∙ ap (list_all p) (sym (flat_map-append own_variables (commands_in c)
    (commands_of (block_with cs))))

pub all-append : (p : Var → Bool) (xs ys : List Var)
    → list_all p (xs ++ ys) ≡ (list_all p xs && list_all p ys)
all-append = list_all-append

pub own-append : (xs ys : List model.Command) → flat_map own_variables (xs ++ ys)
    ≡ flat_map own_variables xs ++ flat_map own_variables ys
own-append = flat_map-append own_variables

pub as-variables : (xs : List ProgVar) → flat_map (λ x. as_var x ∷ []) xs ≡ map as_var xs
as-variables = flat_map_single as_var

-- a loop and a choice of the program are the definitions'
loop_is : (c : Cond) (b : List Command)
    → command_of (v.While c b) ≡ while_do (cond_of c) (block_of b)
loop_is c b =
    ap command_of (sym (v.rolls-While c b)) ∙ fold-roll-Command model.Command command_step
    (Command-F.While c b)

choice_is : (c : Cond) (a b : List Command)
    → command_of (v.If c a b) ≡ if_else (cond_of c) (block_of a) (block_of b)
choice_is c a b =
    ap command_of (sym (v.rolls-If c a b)) ∙ fold-roll-Command model.Command command_step
    (Command-F.If c a b)

-- tests of the condition and of each block of them
pub loop_told : (p : Var → Bool) (c : Cond) (b : List Command) (x y : Bool)
    → x ≡ list_all p (flat_map variables_of_term (terms_of_cond (cond_of c)))
    → y ≡ list_all p (flat_map own_variables (commands_of (block_of b)))
    → (x && y) ≡ list_all p (variables_of_command (command_of (v.While c b)))
loop_told p c b x y e f =
    let tested = flat_map variables_of_term (terms_of_cond (cond_of c)) in
    (λ j. e j && f j)
    ∙ sym (list_all-append p tested (flat_map own_variables (commands_of (block_of b))))
    ∙ ap (λ d. list_all p (variables_of_command d)) (sym (loop_is c b))

pub choice_told : (p : Var → Bool) (c : Cond) (a b : List Command) (x y z : Bool)
    → x ≡ list_all p (flat_map variables_of_term (terms_of_cond (cond_of c)))
    → y ≡ list_all p (flat_map own_variables (commands_of (block_of a)))
    → z ≡ list_all p (flat_map own_variables (commands_of (block_of b)))
    → (x && y && z) ≡ list_all p (variables_of_command (command_of (v.If c a b)))
choice_told p c a b x y z e f g =
    let tested = flat_map variables_of_term (terms_of_cond (cond_of c)) in
    let first = flat_map own_variables (commands_of (block_of a)) in
    let second = flat_map own_variables (commands_of (block_of b)) in
    (λ j. e j && f j && g j)
    ∙ (λ j. sym (list_all-append p tested first) j && list_all p second)
    ∙ sym (last_behind p tested first second)
    ∙ ap (λ vs. list_all p (tested ++ vs))
    (sym (flat_map-append own_variables (commands_of (block_of a)) (commands_of (block_of b))))
    ∙ ap (λ d. list_all p (variables_of_command d)) (sym (choice_is c a b))

pub ruleset command_rules = (all-append, own-append, as-variables)
