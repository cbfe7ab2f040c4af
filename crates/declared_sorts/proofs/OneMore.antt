-- The local variables of a block, command by command.
use Rattle.std.proofs.Common.{◌≡◌, ◌∙◌, ℕ, ◌+◌, ◌<◌, List, [], ◌∷◌, ◌++◌, length, get_or, map, take, sym, ap, append_assoc, append-nil, add-one}
use Rattle.std.proofs.Math.Seq.{take-suc}
use Rattle.std.proofs.lemmas.List.{map-append}
use Rattle.std.proofs.lemmas.Grind.{flat_map-append}
use Rattle.std.specs.List.{flat_map}
use Rattle.model_terms.specs.Stores.{ProgVar}
use Rattle.model_commands.specs.Commands.{Command}
use Rattle.model_commands.specs.CommandParts.{locals, locals_of, commands_in, commands_of}
use Rattle.theory_syntax.specs.Commands.{block_with}

block_more : (cs : List Command) (c : Command) → commands_of (block_with (cs ++ c ∷ []))
    ≡ commands_of (block_with cs) ++ commands_in c
block_more [] c = append-nil (commands_in c)
block_more (d ∷ cs) c = ap (λ z. commands_in d ++ z) (block_more cs c)
    ∙ sym (append_assoc (commands_in d) (commands_of (block_with cs)) (commands_in c))

-- one more command
pub one_more : {X : Type 0} (view : X → Command) (block : List X) (i : ℕ) (d : X) → i < length block
    → flat_map locals (commands_of (block_with (map view (take (i + 1) block))))
    ≡ flat_map locals (commands_of (block_with (map view (take i block)))) ++ locals_of
    (view (get_or block i d))
one_more view block i d h =
    ap (λ z. flat_map locals (commands_of (block_with (map view z))))
    (rw add-one (take-suc block i d h))
    ∙ ap (λ z. flat_map locals (commands_of (block_with z)))
    (map-append view (take i block) (get_or block i d ∷ []))
    ∙ ap (flat_map locals) (block_more (map view (take i block)) (view (get_or block i d)))
    ∙ flat_map-append locals (commands_of (block_with (map view (take i block))))
    (commands_in (view (get_or block i d)))

-- what was added before, and one command more
pub added : {X : Type 0} (view : X → Command) (block : List X) (i : ℕ) (item : X)
    (init before after : List ProgVar)
    → i < length block → item ≡ get_or block i item
    → before ≡ init ++ flat_map locals (commands_of (block_with (map view (take i block))))
    → after ≡ before ++ locals_of (view item)
    → after ≡ init ++ flat_map locals (commands_of (block_with (map view (take (i + 1) block))))
added view block i item init before after h is e f =
    let X = flat_map locals (commands_of (block_with (map view (take i block)))) in
    let same : flat_map locals (commands_of (block_with (map view (take (i + 1) block))))
    ≡ X ++ locals_of (view item) =
    one_more view block i item h ∙ ap (λ z. X ++ locals_of (view z)) (sym is) in
    f ∙ ap (λ z. z ++ locals_of (view item)) e ∙ append_assoc init X (locals_of (view item))
    ∙ ap (λ z. init ++ z) (sym same)
