-- The pieces of a stack, whose first one is kept last.
use Rattle.std.proofs.Common.{◌≡◌, ℕ, ◌+◌, ◌≤◌, ◌-◌, List, [], ◌∷◌, ◌++◌, length, map, Option, Some, None, refl, sym, ap, ◌∙◌, append-nil, append_assoc, zero-add, arith}
use Rattle.std.specs.Option.{option_to_list}
use Rattle.model_commands.specs.Commands.{block}
use Rattle.model_machine.specs.Machine.{run, pieces_of}
use Rattle.theory_syntax.specs.Commands.{command_of, command_step, block_of}
use Rattle.theory_syntax.specs.declared.commands.Command.{Command}
use Rattle.theory_syntax.specs.declared.commands.Command.TheOpen.{Command-F}
use Rattle.theory_syntax.specs.declared.commands.Command.TheFolds.{fold-roll-Command}
use Rattle.theory_syntax.specs.declared.commands.Command.TheVariants.{Block as BlockOf, rolls-Block}
use Rattle.model_commands.specs.Commands as model
use Rattle.dom_meaning.specs.declared.configurations.Pending.{Pending}
use Rattle.dom_meaning.specs.declared.configurations.Pending.TheVariants as p
use Rattle.dom_meaning.specs.Configs.{piece_of}
use Rattle.heap_runner.specs.declared.pieces.Piece.{Piece}
use Rattle.heap_runner.specs.declared.pieces.Piece.TheVariants as q
use Rattle.heap_runner.specs.Pieces.{pieces_seen, later_seen, left_seen, pending_seen, returns_seen}

-- the pieces of two lists
seen-append : (xs ys : List Piece) → pending_seen (xs ++ ys) ≡ pending_seen ys ++ pending_seen xs
seen-append [] ys = sym (append-nil (pending_seen ys))
seen-append (x ∷ xs) ys =
    ap (λ z. z ++ pieces_seen x) (seen-append xs ys)
    ∙ append_assoc (pending_seen ys) (pending_seen xs) (pieces_seen x)

-- what is put last comes first
pub seen-last : (xs : List Piece) (x : Piece)
    → pending_seen (xs ++ x ∷ []) ≡ pieces_seen x ++ pending_seen xs
seen-last xs x = seen-append xs (x ∷ [])

-- the returns of two lists
pub returns_seen-append : (xs ys : List Pending)
    → returns_seen (xs ++ ys) ≡ returns_seen xs + returns_seen ys
returns_seen-append [] ys = sym (zero-add (returns_seen ys))
returns_seen-append (p.Run c ∷ xs) ys = returns_seen-append xs ys
returns_seen-append (p.Restore x v ∷ xs) ys = returns_seen-append xs ys
returns_seen-append (p.Return s rs ws ∷ xs) ys =
    let rest = returns_seen-append xs ys in omega (arith, rest)

-- commands are no returns
pub no_returns : (cs : List Command) → returns_seen (map p.Run cs) ≡ 0
no_returns [] = refl
no_returns (c ∷ cs) = no_returns cs

-- one piece stands for at most one return
pub one_return : (x : Piece) → returns_seen (pieces_seen x) ≤ 1
one_return (q.Commands c cs) = let none = no_returns cs.now in omega (arith, none)
one_return (q.Block b) = omega arith
one_return (q.Restore x v) = omega arith
one_return (q.Return s rs ws) = omega arith

-- what is no return stands for none
pub no_return : (x : Piece) → ((s : _) (rs : _) (ws : _) → x ≡ q.Return s rs ws → ⊥)
    → 0 ≡ returns_seen (pieces_seen x)
no_return (q.Commands c cs) n = sym (no_returns cs.now)
no_return (q.Block b) n = refl
no_return (q.Restore x v) n = refl
no_return (q.Return s rs ws) n = absurd (n s rs ws refl)

-- so there are no more returns than pieces that are kept
pub few_returns : (xs : List Piece) → returns_seen (pending_seen xs) ≤ length xs
few_returns [] = omega arith
few_returns (x ∷ xs) =
    let more = few_returns xs in
    let one = one_return x in
    let both = returns_seen-append (pending_seen xs) (pieces_seen x) in
    omega (arith, more, one, both)

-- the commands of a block
pub commands_seen : (b : List Command) → map piece_of (map p.Run b) ≡ pieces_of (block_of b)
commands_seen [] = refl
commands_seen (c ∷ b) = ap (λ z. run (command_of c) ∷ z) (commands_seen b)

-- a block as a command
pub as_command : (b : List Command) → piece_of (p.Run (BlockOf b)) ≡ run (block (block_of b))
as_command b =
    ap run (ap command_of (sym (rolls-Block b))
    ∙ fold-roll-Command model.Command command_step (Command-F.Block b))

-- no pieces are kept
pub nothing_seen : (xs : List Piece) → length xs ≡ 0 → pending_seen xs ≡ []
nothing_seen [] e = refl
nothing_seen (x ∷ xs) e = absurd (omega arith)

-- what comes first
pub first_among : (items rest : List Piece) (x : Piece) (first : Pending) → items ≡ rest ++ x ∷ []
    → pieces_seen x ≡ first ∷ later_seen x
    → (others : List Pending) × (pending_seen items ≡ first ∷ others)
first_among items rest x first is seen = (
  later_seen x ++ pending_seen rest,
  ap pending_seen is ∙ seen-last rest x ∙ ap (λ z. z ++ pending_seen rest) seen,
)

-- each piece stands for one at least
starts : (x : Piece) → (first : Pending) × (pieces_seen x ≡ first ∷ later_seen x)
starts (q.Commands c cs) = (p.Run c.now, refl)
starts (q.Block b) = (p.Run (BlockOf b.now), refl)
starts (q.Restore x v) = (p.Restore x.now v, refl)
starts (q.Return s rs ws) = (p.Return s rs.now ws.now, refl)

tail-same : (a b : Pending) (xs ys : List Pending) → a ∷ xs ≡ b ∷ ys → xs ≡ ys
tail-same a b xs ys e = cc

no_later_returns : (x : Piece) → returns_seen (later_seen x) ≡ 0
no_later_returns (q.Commands c cs) = no_returns cs.now
no_later_returns (q.Block b) = refl
no_later_returns (q.Restore x v) = refl
no_later_returns (q.Return s rs ws) = refl

-- the last of the pieces that are kept is taken, and what is left of it is put there
module _ (items rest after : List Piece) (x : Piece) (left : Option Piece)
    (is : items ≡ rest ++ x ∷ []) (same : left_seen left ≡ later_seen x)
    (put : after ≡ rest ++ option_to_list left) where
  left-seen : (o : Option Piece) → pending_seen (rest ++ option_to_list o)
      ≡ left_seen o ++ pending_seen rest
  left-seen None = ap pending_seen (append-nil rest)
  left-seen (Some y) = seen-last rest y

  after-seen : pending_seen after ≡ later_seen x ++ pending_seen rest
  after-seen =
      ap pending_seen put ∙ left-seen left ∙ ap (λ z. z ++ pending_seen rest) same

  -- what comes first is gone
  pub first_dropped : (first : Pending) (others : List Pending)
      → pending_seen items ≡ first ∷ others → pending_seen after ≡ others
  first_dropped first others e =
      let s = starts x in
      after-seen
      ∙ tail-same s.0 first (later_seen x ++ pending_seen rest) others
      (sym (ap pending_seen is ∙ seen-last rest x ∙ ap (λ z. z ++ pending_seen rest) s.1) ∙ e)

  -- and the returns are those of the others
  pub returns_dropped : (n : ℕ) → n ≡ returns_seen (pending_seen items)
      → n - returns_seen (pieces_seen x) ≡ returns_seen (pending_seen after)
  returns_dropped n e =
      let before : returns_seen (pending_seen items)
      ≡ returns_seen (pieces_seen x) + returns_seen (pending_seen rest) =
      ap (λ z. returns_seen (pending_seen z)) is ∙ ap returns_seen (seen-last rest x)
      ∙ returns_seen-append (pieces_seen x) (pending_seen rest) in
      let later : returns_seen (pending_seen after)
      ≡ returns_seen (later_seen x) + returns_seen (pending_seen rest) =
      ap returns_seen after-seen ∙ returns_seen-append (later_seen x) (pending_seen rest) in
      let none = no_later_returns x in
      omega (arith, e, before, later, none)

-- there are as many returns as the last piece stands for
pub enough_returns : (items rest : List Piece) (x : Piece) → items ≡ rest ++ x ∷ []
    → returns_seen (pieces_seen x) ≤ returns_seen (pending_seen items)
enough_returns items rest x is =
    let both : returns_seen (pending_seen items)
    ≡ returns_seen (pieces_seen x) + returns_seen (pending_seen rest) =
    ap (λ z. returns_seen (pending_seen z)) is ∙ ap returns_seen (seen-last rest x)
    ∙ returns_seen-append (pieces_seen x) (pending_seen rest) in
    omega (arith, both)

-- one more is put at the end
pub returns_put : (items after : List Piece) (x : Piece) (n : ℕ) → after ≡ items ++ x ∷ []
    → n ≡ returns_seen (pending_seen items)
    → n + returns_seen (pieces_seen x) ≡ returns_seen (pending_seen after)
returns_put items after x n is e =
    let both : returns_seen (pending_seen after)
    ≡ returns_seen (pieces_seen x) + returns_seen (pending_seen items) =
    ap (λ z. returns_seen (pending_seen z)) is ∙ ap returns_seen (seen-last items x)
    ∙ returns_seen-append (pieces_seen x) (pending_seen items) in
    omega (arith, e, both)
