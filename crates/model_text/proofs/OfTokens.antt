-- The terminals are lexemes of tokens, and so are some names and literals.
use Rattle.std.proofs.Common.{◌≡◌, ◌∙◌, ℕ, zero, suc, Bool, true, false, List, [], ◌∷◌, ◌++◌, length, map, drop, refl, sym, subst, codes, bytes_eq, append_assoc, Some}
use Rattle.std.specs.Prelude.{◌||◌, slice_get}
use Rattle.std.specs.List.{list_any}
use Rattle.std.proofs.lemmas.Slice.Eq.{bytes_eq-Decides}
use Rattle.model_text.proofs.Computing.{lexing}
use Rattle.model_text.specs.Lexemes.{Lexeme, terminal, name_lexeme, logic_lexeme, number_lexeme, literal_lexeme, step_word}
use Rattle.model_text.specs.Tokens.{quote}
use Rattle.model_text.specs.Nesting.{lexemes_of}
use Rattle.model_text.specs.FaultTokens.{IsOfToken, AreOfTokens}

-- the lexeme comes first in the text
first_in : (text : List ℕ) (lexeme : Lexeme)
    → slice_get (lexemes_of text) 0 ≡ Some lexeme → IsOfToken lexeme
first_in text lexeme e = record { bytes = text; place = 0; found = e }

-- the words and the symbols of the grammar, but for `step`
abbrev pub terminals : List (List ℕ)
terminals = codes "domlogic" ∷ codes "logic" ∷ codes "proc" ∷ codes "returns" ∷ codes "sort"
    ∷ codes "requires" ∷ codes "ensures" ∷ codes "body" ∷ codes "proof" ∷ codes "by"
    ∷ codes "with" ∷ codes "auto" ∷ codes "end" ∷ codes "entails" ∷ codes "pre" ∷ codes "do"
    ∷ codes "post" ∷ codes "at" ∷ codes "skip" ∷ codes "if" ∷ codes "else" ∷ codes "while"
    ∷ codes "local" ∷ codes "call" ∷ codes "true" ∷ codes "false" ∷ codes "not" ∷ codes "and"
    ∷ codes "or" ∷ codes "exists" ∷ codes "forall" ∷ codes "is" ∷ codes "len" ∷ codes "null"
    ∷ codes "nolist" ∷ codes "yes" ∷ codes "no" ∷ codes "appendChild" ∷ codes "removeChild"
    ∷ codes "createNode" ∷ codes "nodeName" ∷ codes "parentNode" ∷ codes "childNodes"
    ∷ codes "item" ∷ codes "(" ∷ codes ")" ∷ codes "[" ∷ codes "]" ∷ codes "{" ∷ codes "}"
    ∷ codes "<" ∷ codes ">" ∷ codes "," ∷ codes ";" ∷ codes ":" ∷ codes "." ∷ codes ":="
    ∷ codes "=" ∷ codes "<=" ∷ codes "#" ∷ codes "%" ∷ codes "+" ∷ codes "++" ∷ codes "-"
    ∷ codes "-o" ∷ codes "->" ∷ codes "*" ∷ codes ".*" ∷ codes "*." ∷ codes ".+" ∷ codes "@t"
    ∷ codes "@f" ∷ codes "@g" ∷ codes "o-t" ∷ codes "o-f" ∷ codes "o-g" ∷ codes "?t"
    ∷ codes "?f" ∷ codes "?g" ∷ codes "0f" ∷ codes "0g" ∷ []

-- each comes first in itself
abbrev AreFirst : List (List ℕ) → Type 0
AreFirst texts = map (λ text. slice_get (lexemes_of text) 0) texts
    ≡ map (λ text. Some (terminal text)) texts

terminals_first : AreFirst terminals
unfolding lexing
terminals_first = refl

among : (texts : List (List ℕ)) (text : List ℕ) → AreFirst texts
    → list_any (bytes_eq text) texts ≡ true → IsOfToken (terminal text)
among [] text each e = absurd cc
among (first ∷ texts) text each e = by_test (bytes_eq text first) refl (among texts text cc) e
  where
    by_test : (b : Bool) → bytes_eq text first ≡ b
        → (list_any (bytes_eq text) texts ≡ true → IsOfToken (terminal text))
        → b || list_any (bytes_eq text) texts ≡ true → IsOfToken (terminal text)
    by_test true is rest e = subst (λ (z : List ℕ). IsOfToken (terminal z))
        (sym ((bytes_eq-Decides text first).0 is)) (first_in first (terminal first) cc)
    by_test false is rest e = rest e

-- each of them is the lexeme of a token
pub is_seen : (text : List ℕ) → list_any (bytes_eq text) terminals ≡ true
    → IsOfToken (terminal text)
is_seen text e = among terminals text terminals_first e

-- one name, one logic name, one number, one literal and the word step
pub name_seen : IsOfToken (name_lexeme (codes "x"))
unfolding lexing
name_seen = first_in (codes "x") _ refl

pub logic_seen : IsOfToken (logic_lexeme (codes "$x"))
unfolding lexing
logic_seen = first_in (codes "$x") _ refl

pub number_seen : IsOfToken (number_lexeme 1)
unfolding lexing
number_seen = first_in (codes "1") _ refl

pub literal_seen : IsOfToken (literal_lexeme [])
unfolding lexing
literal_seen = first_in (quote ∷ quote ∷ []) _ refl

pub step_seen : IsOfToken (step_word 1)
unfolding lexing
step_seen = first_in (codes "step") _ refl

-- the words for sorts
pub node_seen : IsOfToken (name_lexeme (codes "node"))
unfolding lexing
node_seen = first_in (codes "node") _ refl

pub g_seen : IsOfToken (name_lexeme (codes "g"))
unfolding lexing
g_seen = first_in (codes "g") _ refl

-- the lexemes of two lists are of tokens
pub seen_both : (front rest : List Lexeme) → AreOfTokens front → AreOfTokens rest
    → AreOfTokens (front ++ rest)
seen_both [] rest each others = others
seen_both (first ∷ front) rest each others = (each.0, seen_both front rest each.1 others)

-- so are those of a rest
pub seen_rest : (count : ℕ) (lexemes : List Lexeme) → AreOfTokens lexemes
    → AreOfTokens (drop count lexemes)
seen_rest zero lexemes each = each
seen_rest (suc count) [] each = tt
seen_rest (suc count) (first ∷ lexemes) each = seen_rest count lexemes each.1

-- and those of a front
pub seen_front : (front rest : List Lexeme) → AreOfTokens (front ++ rest) → AreOfTokens front
seen_front [] rest each = tt
seen_front (first ∷ front) rest each = (each.0, seen_front front rest each.1)

at_end : (front rest : List Lexeme) (next : Lexeme)
    → slice_get (front ++ (next ∷ rest)) (length front) ≡ Some next
at_end [] rest next = refl
at_end (first ∷ front) rest next = at_end front rest next

from_here : (bytes : List ℕ) (front rest : List Lexeme) → lexemes_of bytes ≡ front ++ rest
    → AreOfTokens rest
from_here bytes front [] e = tt
from_here bytes front (next ∷ rest) e = (
  record { bytes = bytes; place = length front; found = rw e (at_end front rest next) },
  from_here bytes (front ++ (next ∷ [])) rest (e ∙ sym (append_assoc front (next ∷ []) rest)),
)

-- the lexemes of a text are of tokens
pub text_seen : (bytes : List ℕ) → AreOfTokens (lexemes_of bytes)
text_seen bytes = from_here bytes [] (lexemes_of bytes) refl
