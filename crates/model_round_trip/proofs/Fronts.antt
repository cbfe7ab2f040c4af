-- Lexemes that are given ones, but for the lines of `step`, part by part.
use Rattle.std.proofs.Common.{ℕ, List, [], ◌∷◌, ◌++◌, ◌≡◌, refl, sym, ◌∙◌, map, append_assoc}
use Rattle.model_text.specs.Lexemes.{Lexeme, step_word}
use Rattle.model_grammar.specs.Writable.{Each}
use Rattle.model_printing.specs.Printable.{HasNoLine, without_line}

-- the second is the first, but for lines
abbrev pub Alike : List Lexeme → List Lexeme → Type 0
Alike lexemes others = map without_line others ≡ map without_line lexemes

-- The lexemes are a front and something behind it that is the rest, but for lines.
pub record Behind (front rest lexemes : List Lexeme) : Type 0 where
  pub behind : List Lexeme
  pub whole : lexemes ≡ front ++ behind
  pub alike : Alike rest behind

-- one front behind another
pub both : {front middle others rest lexemes : List Lexeme} (a : Behind front others lexemes)
    → Behind middle rest a.behind → Behind (front ++ middle) rest lexemes
both {front} {middle} a b = record {
  behind = b.behind;
  whole = a.whole ∙ ((λ j. front ++ b.whole j) ∙ sym (append_assoc front middle b.behind));
  alike = b.alike;
}

pub same_lexeme : (x y : Lexeme) → HasNoLine x → without_line y ≡ without_line x → y ≡ x
same_lexeme (step_word n) y h e = absurd h
same_lexeme x (step_word n) h e = absurd cc
same_lexeme x y h e = e

-- a front with no line stands in the lexemes as it is
pub same_front : (front rest lexemes : List Lexeme) → Each HasNoLine front
    → Alike (front ++ rest) lexemes → Behind front rest lexemes
same_front [] rest lexemes h e = record { behind = lexemes; whole = refl; alike = e }
same_front (x ∷ front) rest [] h e = absurd cc
same_front (x ∷ front) rest (y ∷ lexemes) h e =
    let first : without_line y ≡ without_line x = cc in
    let more = same_front front rest lexemes h.1 cc in record {
      behind = more.behind;
      whole = λ j. same_lexeme x y h.0 first j ∷ more.whole j;
      alike = more.alike;
    }

-- the first of the lexemes is that one, but for its line
pub record First (x : Lexeme) (rest lexemes : List Lexeme) : Type 0 where
  pub first : Lexeme
  pub here : without_line first ≡ without_line x
  pub found : Behind (first ∷ []) rest lexemes

pub first_there : (x : Lexeme) (rest lexemes : List Lexeme) → Alike (x ∷ rest) lexemes
    → First x rest lexemes
first_there x rest [] e = absurd cc
first_there x rest (y ∷ lexemes) e = record {
  first = y;
  here = cc;
  found = record { behind = lexemes; whole = refl; alike = cc };
}

-- a lexeme that is the word `step`, but for its line, is that with some line
pub a_step_word : (y : Lexeme) → without_line y ≡ step_word 0
    → (line : ℕ) × (y ≡ step_word line)
a_step_word (step_word line) e = (line, refl)
a_step_word y e = absurd cc
