-- Blocks from the last command to the first.
use Rattle.std.proofs.Common.{◌≡◌, ◌∙◌, sym, ap, ℕ, suc, ◌+◌, ◌≤◌, ◌<◌, List, [], ◌++◌, length, get_or, drop, map, add-one, append_assoc, length-append, arith}
use Rattle.std.proofs.Math.Seq.{drop-cons}
use Rattle.std.proofs.lemmas.List.{append-nil, drop-drop, drop_all}
use Rattle.model_shapes.specs.Values.{Name}
use Rattle.model_formulas.specs.Formulas.{Named}
use Rattle.model_commands.specs.Commands.{◌then◌}
use Rattle.model_weakest.specs.Written.{new_sorts, new_sorts_of, written, written_of}
use Rattle.dom_terms.specs.Sorts.{sort_of}
use Rattle.dom_terms.specs.declared.sorts.Sort.{Sort}
use Rattle.theory_syntax.specs.declared.commands.Command.{Command}
use Rattle.theory_syntax.specs.Commands.{block_of, command_of}

-- the commands from a place on: the one there, and those behind it
pub from-place : (commands : List Command) (p q : ℕ) (c : Command) → p < length commands
    → c ≡ get_or commands p c → q ≡ p + 1
    → block_of (drop p commands) ≡ (command_of c then block_of (drop q commands))
from-place commands p q c lt is e =
    ap block_of (drop-cons commands p c lt)
    ∙ ap (λ d. command_of d then block_of (drop (suc p) commands)) (sym is)
    ∙ ap (λ k. command_of c then block_of (drop k commands)) (sym (e ∙ add-one p))

-- their sorts, behind those that are there
pub sorts-from : (commands : List Command) (p q : ℕ) (c : Command) (first now next : List Sort)
    → p < length commands → c ≡ get_or commands p c → q ≡ p + 1
    → map sort_of now ≡ map sort_of first ++ new_sorts_of (block_of (drop q commands))
    → map sort_of next ≡ map sort_of now ++ new_sorts (command_of c)
    → map sort_of next ≡ map sort_of first ++ new_sorts_of (block_of (drop p commands))
sorts-from commands p q c first now next lt is e before more =
    more
    ∙ ap (λ xs. xs ++ new_sorts (command_of c)) before
    ∙ append_assoc (map sort_of first) (new_sorts_of (block_of (drop q commands)))
    (new_sorts (command_of c))
    ∙ ap (λ b. map sort_of first ++ new_sorts_of b) (sym (from-place commands p q c lt is e))

-- the names that are left behind two commands
names-left : (m n : ℕ) (names : List Name) → drop n (drop m names) ≡ drop (m + n) names
names-left m n names = drop-drop n m names

pub left-from : (commands : List Command) (p q : ℕ) (c : Command) (names now next : List Name)
    → p < length commands → c ≡ get_or commands p c → q ≡ p + 1
    → now ≡ drop (length (new_sorts_of (block_of (drop q commands)))) names
    → next ≡ drop (length (new_sorts (command_of c))) now
    → next ≡ drop (length (new_sorts_of (block_of (drop p commands)))) names
left-from commands p q c names now next lt is e before more =
    let later = new_sorts_of (block_of (drop q commands)) in
    let own = new_sorts (command_of c) in
    more
    ∙ ap (λ xs. drop (length own) xs) before
    ∙ names-left (length later) (length own) names
    ∙ ap (λ k. drop k names) (sym (length-append later own))
    ∙ ap (λ b. drop (length (new_sorts_of b)) names) (sym (from-place commands p q c lt is e))

pub written-from : (commands : List Command) (p q : ℕ) (c : Command) (names now : List Name)
    (asked before after : Named)
    → p < length commands → c ≡ get_or commands p c → q ≡ p + 1
    → now ≡ drop (length (new_sorts_of (block_of (drop q commands)))) names
    → before ≡ written_of names (block_of (drop q commands)) asked
    → after ≡ written now (command_of c) before
    → after ≡ written_of names (block_of (drop p commands)) asked
written-from commands p q c names now asked before after lt is e left done more =
    more
    ∙ (λ i. written (left i) (command_of c) (done i))
    ∙ ap (λ b. written_of names b asked) (sym (from-place commands p q c lt is e))

-- at first there is none, and at last there are all
nothing : (commands : List Command) → drop (length commands) commands ≡ []
nothing commands = drop_all (length commands) commands (omega arith)

pub sorts-none : (commands : List Command) (first : List Sort)
    → map sort_of first
    ≡ map sort_of first ++ new_sorts_of (block_of (drop (length commands) commands))
sorts-none commands first =
    sym (ap (λ ds. map sort_of first ++ new_sorts_of (block_of ds)) (nothing commands)
    ∙ append-nil (map sort_of first))

pub left-none : (commands : List Command) (names : List Name)
    → names ≡ drop (length (new_sorts_of (block_of (drop (length commands) commands)))) names
left-none commands names =
    sym (ap (λ ds. drop (length (new_sorts_of (block_of ds))) names) (nothing commands))

pub written-none : (commands : List Command) (names : List Name) (asked : Named)
    → asked ≡ written_of names (block_of (drop (length commands) commands)) asked
written-none commands names asked =
    sym (ap (λ ds. written_of names (block_of ds) asked) (nothing commands))

pub whole-block : (commands block : List Command) (p : ℕ) → p ≤ 0 → commands ≡ block
    → block_of (drop p commands) ≡ block_of block
whole-block commands block p low is =
    let none : p ≡ 0 = omega arith in
    ap (λ k. block_of (drop k commands)) none ∙ ap block_of is
