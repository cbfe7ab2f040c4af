-- Walks over two lists of commands, one behind the other.
use Rattle.std.proofs.Common.{◌≡◌, ◌∙◌, ap, ℕ, ◌+◌, ◌<◌, not, List, [], ◌∷◌, ◌++◌, length, map, drop, get_or, Some, None, refl, sym, arith, length-append}
use Rattle.std.specs.List.{filter, find, position_from}
use Rattle.std.proofs.lemmas.List.Elements.{filter-append}
use Rattle.std.specs.Option.{option_or}
use Rattle.std.proofs.lemmas.List.Folds.{find-append}
use Rattle.model_commands.specs.Commands.{Command}
use Rattle.model_commands.specs.CommandParts.{commands_in, commands_of}
use Rattle.model_formulas.proofs.FaultPlaces.{place-append}
use Rattle.model_weakest.specs.Straight.{acts, first_not_straight, goes_straight}
use Rattle.theory_syntax.specs.declared.commands.Command as program
use Rattle.theory_syntax.specs.Commands.{block_of, command_of}
use Rattle.wp_calc.proofs.SortLaws.{from-place}

pub found-in-two : (xs ys : List Command) → find (λ c. not (goes_straight c)) (xs ++ ys)
    ≡ option_or (find (λ c. not (goes_straight c)) xs) (find (λ c. not (goes_straight c)) ys)
found-in-two = find-append (λ c. not (goes_straight c))

flags-of-two : (xs ys : List Command)
    → map goes_straight (xs ++ ys) ≡ map goes_straight xs ++ map goes_straight ys
flags-of-two [] ys = refl
flags-of-two (x ∷ xs) ys = ap (λ bs. goes_straight x ∷ bs) (flags-of-two xs ys)

flag-each : (xs : List Command) → length (map goes_straight xs) ≡ length xs
flag-each [] = refl
flag-each (x ∷ xs) = let h : length (map goes_straight xs) ≡ length xs = flag-each xs in
    omega arith

pub place-in-two : (n : ℕ) (xs ys : List Command)
    → position_from not n (map goes_straight (xs ++ ys))
    ≡ option_or (position_from not n (map goes_straight xs))
    (position_from not (n + length xs) (map goes_straight ys))
place-in-two n xs ys =
    ap (position_from not n) (flags-of-two xs ys)
    ∙ place-append (map goes_straight xs) (map goes_straight ys) n
    ∙ ap (λ m. option_or (position_from not n (map goes_straight xs))
    (position_from not (n + m) (map goes_straight ys))) (flag-each xs)

pub length-of-two : (xs ys : List Command) → length (xs ++ ys) ≡ length xs + length ys
length-of-two = length-append

pub acting-in-two : (xs ys : List Command) → length (filter acts (xs ++ ys))
    ≡ length (filter acts xs) + length (filter acts ys)
acting-in-two xs ys =
    ap length (filter-append acts xs ys) ∙ length-append (filter acts xs) (filter acts ys)

pub ruleset room_rules = (acting-in-two)

-- THE COMMANDS FROM A PLACE ON: the one there, and those behind it
abbrev pub left : List program.Command → ℕ → List Command
left items i = commands_of (block_of (drop i items))

module _ (items : List program.Command) (i : ℕ) (c : program.Command) (lt : i < length items)
    (is : c ≡ get_or items i c) where
  left-from : left items i ≡ commands_in (command_of c) ++ left items (i + 1)
  left-from = ap commands_of (from-place items i (i + 1) c lt is refl)

  pub found-here : (d : Command) → first_not_straight (command_of c) ≡ Some d
      → find (λ c. not (goes_straight c)) (left items i) ≡ Some d
  found-here d e =
      ap (find (λ c. not (goes_straight c))) left-from
      ∙ found-in-two (commands_in (command_of c)) (left items (i + 1))
      ∙ ap (λ o. option_or o (find (λ c. not (goes_straight c)) (left items (i + 1)))) e

  pub found-later : first_not_straight (command_of c) ≡ None
      → find (λ c. not (goes_straight c)) (left items i)
      ≡ find (λ c. not (goes_straight c)) (left items (i + 1))
  found-later e =
      ap (find (λ c. not (goes_straight c))) left-from
      ∙ found-in-two (commands_in (command_of c)) (left items (i + 1))
      ∙ ap (λ o. option_or o (find (λ c. not (goes_straight c)) (left items (i + 1)))) e

  pub place-here : (n part : ℕ)
      → position_from not n (map goes_straight (commands_in (command_of c))) ≡ Some part
      → position_from not n (map goes_straight (left items i)) ≡ Some part
  place-here n part e =
      ap (λ cs. position_from not n (map goes_straight cs)) left-from
      ∙ place-in-two n (commands_in (command_of c)) (left items (i + 1))
      ∙ ap (λ o. option_or o (position_from not (n + length (commands_in (command_of c)))
      (map goes_straight (left items (i + 1))))) e

  pub place-later : (n next : ℕ)
      → position_from not n (map goes_straight (commands_in (command_of c))) ≡ None
      → next ≡ n + length (commands_in (command_of c))
      → position_from not n (map goes_straight (left items i))
      ≡ position_from not next (map goes_straight (left items (i + 1)))
  place-later n next e after =
      ap (λ cs. position_from not n (map goes_straight cs)) left-from
      ∙ place-in-two n (commands_in (command_of c)) (left items (i + 1))
      ∙ ap (λ o. option_or o (position_from not (n + length (commands_in (command_of c)))
      (map goes_straight (left items (i + 1))))) e
      ∙ ap (λ m. position_from not m (map goes_straight (left items (i + 1)))) (sym after)

  pub all-later : (all n next : ℕ) → all ≡ n + length (left items i)
      → next ≡ n + length (commands_in (command_of c))
      → all ≡ next + length (left items (i + 1))
  all-later all n next before after =
      let both : length (left items i)
      ≡ length (commands_in (command_of c)) + length (left items (i + 1))
      = ap length left-from
      ∙ length-of-two (commands_in (command_of c)) (left items (i + 1)) in
      omega arith
