-- Pieces that are kept with the first one last.
use Rattle.std.proofs.Common.{◌≡◌, ℕ, ◌+◌, Bool, true, false, cond, List, [], ◌∷◌, ◌++◌, map, refl, sym, ap, ◌∙◌, arith, zero-add}
use Rattle.std.specs.Prelude.{reverse}
use Rattle.std.specs.List.{count_by}
use mathlib.Core.List.{map-map}
use Rattle.std.proofs.lemmas.List.{map-append, reverse-append, reverse-reverse}
use Rattle.std.proofs.lemmas.List.Sums.{sum_by-cons}
use Rattle.model_machine.specs.Machine.{Piece, run, restore, return, pieces_of}
use Rattle.model_machine.specs.Outcomes.{returns_in}
use Rattle.theory_syntax.specs.declared.commands.Command.{Command}
use Rattle.theory_syntax.specs.Commands.{command_of, block_of, block_with}
use Rattle.dom_meaning.specs.declared.configurations.Pending.{Pending}
use Rattle.dom_meaning.specs.declared.configurations.Pending.TheVariants as p
use Rattle.dom_meaning.specs.Configs.{piece_of, pieces_in}

-- the items the other way round
map-reverse : {A B : Type 0} (f : A → B) (xs : List A) → map f (reverse xs) ≡ reverse (map f xs)
map-reverse f [] = refl
map-reverse f (x ∷ xs) =
    ap (map f) (reverse-append (x ∷ []) xs)
    ∙ map-append f (reverse xs) (x ∷ [])
    ∙ ap (λ z. z ++ f x ∷ []) (map-reverse f xs)
    ∙ sym (reverse-append (f x ∷ []) (map f xs))

-- pieces at the end come before the others
pub pieces_in-append : (before put : List Pending)
    → pieces_in (before ++ put) ≡ pieces_in put ++ pieces_in before
pieces_in-append before put =
    ap reverse (map-append piece_of before put)
    ∙ reverse-append (map piece_of before) (map piece_of put)

-- a command as a piece
abbrev as_piece : Command → Piece
as_piece command = run (command_of command)

-- the commands of a block
block-pieces : (b : List Command) → map as_piece b ≡ pieces_of (block_of b)
block-pieces [] = refl
block-pieces (c ∷ b) = ap (λ z. as_piece c ∷ z) (block-pieces b)

-- the commands of a block, and those of a copy
pub unfolded : (b copied : List Command) (pieces : List Pending)
    → map command_of copied ≡ map command_of b → pieces ≡ [] ++ map p.Run (reverse copied)
    → pieces_in pieces ≡ pieces_of (block_of b)
unfolded b copied pieces same put =
    ap pieces_in put
    ∙ ap reverse (map-map piece_of p.Run (reverse copied) ∙ map-reverse as_piece copied)
    ∙ reverse-reverse (map as_piece copied) ∙ block-pieces copied
    ∙ ap (λ z. pieces_of (block_with z)) same

-- a return
abbrev pub is_return : Pending → Bool
is_return (p.Run command) = false
is_return (p.Restore variable value) = false
is_return (p.Return caller results variables) = true

-- the returns of two lists of pieces
returns_in-append : (xs ys : List Piece) → returns_in (xs ++ ys) ≡ returns_in xs + returns_in ys
returns_in-append [] ys = sym (zero-add (returns_in ys))
returns_in-append (run c ∷ xs) ys = returns_in-append xs ys
returns_in-append (restore x v ∷ xs) ys = returns_in-append xs ys
returns_in-append (return s rs ws ∷ xs) ys =
    let rest = returns_in-append xs ys in omega (arith, rest)

-- a piece behind the others
counted_last : (x : Pending) (n : ℕ)
    → cond (is_return x) 1 0 + n ≡ n + returns_in (piece_of x ∷ [])
counted_last (p.Run command) n = omega arith
counted_last (p.Restore variable value) n = omega arith
counted_last (p.Return caller results variables) n = omega arith

-- they are as many, whichever comes first
pub returns_counted : (pending : List Pending)
    → count_by is_return pending ≡ returns_in (pieces_in pending)
returns_counted [] = refl
returns_counted (x ∷ pending) =
    sum_by-cons (λ (y : Pending). cond (is_return y) 1 0) x pending
    ∙ counted_last x (count_by is_return pending)
    ∙ ap (λ n. n + returns_in (piece_of x ∷ [])) (returns_counted pending)
    ∙ sym (ap returns_in (pieces_in-append (x ∷ []) pending)
    ∙ returns_in-append (pieces_in pending) (piece_of x ∷ []))
