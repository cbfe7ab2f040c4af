-- A first lexeme that is no terminal begins a term of one lexeme.
use Rattle.std.proofs.Common.{◌≡◌, ℕ, suc, true, false, List, [], ◌∷◌, Err, refl, codes}
use Rattle.model_formulas.specs.Formulas.{length_is}
use Rattle.model_text.specs.Lexemes.{Lexeme, terminal}
use Rattle.model_grammar.specs.Terms.{Place, in_formula}
use Rattle.token_readers.specs.Reading.{At, is_terminal, leaf, then, ret}
use Rattle.token_readers.proofs.TerminalTests.{text_refl, is_terminal_is}
use Rattle.logic_text.specs.TermReaders.{leaf_term, term_at, word_at}
use Rattle.logic_text.specs.FormulaReaders.{formula_at, compared_at}

-- the lexeme passes no test on a terminal
abbrev pub NoTerminal : Lexeme → Type 0
NoTerminal t = (text : List ℕ) → is_terminal text t ≡ false

-- a terminal passes the test on itself
no_terminal : {A : Type 0} (text : List ℕ) → NoTerminal (terminal text) → A
no_terminal text none =
    let same : is_terminal text (terminal text) ≡ true = text_refl text in
    let other : is_terminal text (terminal text) ≡ false = none text in
    absurd cc

of_term : (place : Place) (n : ℕ) (t : Lexeme) (ts : List Lexeme) → NoTerminal t
    → term_at place (suc n) (t ∷ ts) ≡ leaf (leaf_term place) (t ∷ ts)
unfolding term_at word_at
of_term place n (terminal text) ts none = no_terminal text none
of_term place n _ ts none = refl

pub term_of_leaf : (place : Place) (depth n : ℕ) (ts : List Lexeme) {t : Lexeme}
    {rest : List Lexeme} → depth ≡ suc n → ts ≡ t ∷ rest → NoTerminal t
    → term_at place depth ts ≡ leaf (leaf_term place) ts
term_of_leaf place depth n ts {t} {rest} d e none = rw d (rw e (of_term place n t rest none))

of_formula : (n : ℕ) (t : Lexeme) (ts : List Lexeme) → NoTerminal t
    → formula_at (suc n) (t ∷ ts) ≡ then (leaf (leaf_term in_formula))
    (compared_at (term_at in_formula n) (formula_at n)) (t ∷ ts)
unfolding formula_at term_at word_at
of_formula n (terminal text) ts none = no_terminal text none
of_formula n _ ts none = refl

pub formula_of_leaf : (depth n : ℕ) (ts : List Lexeme) {t : Lexeme} {rest : List Lexeme}
    → depth ≡ suc n → ts ≡ t ∷ rest → NoTerminal t
    → formula_at depth ts ≡ then (leaf (leaf_term in_formula))
    (compared_at (term_at in_formula n) (formula_at n)) ts
formula_of_leaf depth n ts {t} {rest} d e none = rw d (rw e (of_formula n t rest none))

-- where no lexeme is left
pub formula_of_none : (depth n : ℕ) (ts : List Lexeme) → depth ≡ suc n → ts ≡ []
    → formula_at depth ts ≡ Err (At 0)
unfolding formula_at term_at word_at
formula_of_none depth n ts d e = rw d (rw e refl)

-- where the word for a length comes first
pub formula_of_length : (n : ℕ) (t : Lexeme) (ts : List Lexeme) → is_terminal (codes "len") t ≡ true
    → formula_at (suc n) (t ∷ ts) ≡ then (term_at in_formula n) (λ a. ret (length_is a)) ts
unfolding formula_at
formula_of_length n t ts e = rw (is_terminal_is (codes "len") t e) refl
