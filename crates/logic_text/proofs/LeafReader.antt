-- The readers of one lexeme read what the grammar spells, and only that.
use Rattle.std.proofs.Common.{◌≡◌, ℕ, Bool, true, false, cond, List, [], ◌∷◌, ◌++◌, Option, Some, None, refl, sym, subst, codes}
use Rattle.model_text.specs.Lexemes.{Lexeme, terminal, logic_lexeme}
use Rattle.token_readers.specs.Reading.{Answer, leaf, leaf_or, is_terminal}
use Rattle.token_readers.proofs.TerminalTests.{is_terminal_is}
use Rattle.model_grammar.specs.Terms.{SpellsLogicName, a_logic_name}
use Rattle.model_text.proofs.Usual.{logic_seen}
use Rattle.logic_text.specs.FormulaReaders.{where_is, leaf_logic}
use Rattle.token_readers.proofs.Sound.{Sound, s_leaf}
use Rattle.token_readers.proofs.Only.{Only, OrDeep, read, Prefix_free}

-- a choice that gave a value was taken
pub chosen : {A : Type 0} (b : Bool) (x a : A) → cond b (Some x) None ≡ Some a
    → (b ≡ true) × (x ≡ a)
chosen true x a e = (refl, cc)
chosen false x a e = absurd cc

-- a choice whose test holds
pub taken : {A : Type 0} (b : Bool) (x : A) (rest : List Lexeme) (other : Answer A) → b ≡ true
    → OrDeep (leaf_or (cond b (Some x) None) rest other) x rest
taken true x rest other e = read
taken false x rest other e = absurd cc

by_test : {A : Type 0} (L : A → List Lexeme → Type 0) (b : Bool) (text : List ℕ) (lexeme : Lexeme)
    (x a : A) (other : Option A)
    → (b ≡ true → lexeme ≡ terminal text) → L x (terminal text ∷ [])
    → (other ≡ Some a → L a (lexeme ∷ []))
    → cond b (Some x) other ≡ Some a → L a (lexeme ∷ [])
by_test L true text lexeme x a other is l rest e =
    let same : x ≡ a = cc in
    subst (λ z. L z (lexeme ∷ [])) same (subst (λ z. L x (z ∷ [])) (sym (is refl)) l)
by_test L false text lexeme x a other is l rest e = rest e

-- the first terminal that the lexeme is gives the value
pub where_it_is : {A : Type 0} (L : A → List Lexeme → Type 0) (text : List ℕ) (lexeme : Lexeme)
    (x a : A) (other : Option A)
    → L x (terminal text ∷ []) → (other ≡ Some a → L a (lexeme ∷ []))
    → where_is text lexeme x other ≡ Some a → L a (lexeme ∷ [])
where_it_is L text lexeme x a other l rest e =
    by_test L (is_terminal text lexeme) text lexeme x a other (is_terminal_is text lexeme) l rest e

logic_is : (t : Lexeme) (name : List ℕ) → leaf_logic t ≡ Some name → SpellsLogicName name (t ∷ [])
logic_is (logic_lexeme name) a e =
    let same : name ≡ a = cc in
    subst (λ z. SpellsLogicName z (logic_lexeme name ∷ [])) same (a_logic_name name)
logic_is _ a e = absurd cc

pub logic_sound : (n : ℕ) → Sound n (leaf leaf_logic) SpellsLogicName
logic_sound n =
    s_leaf n leaf_logic SpellsLogicName (
      codes "$x",
      logic_lexeme (codes "$x") ∷ [],
      a_logic_name
          (codes "$x"),
      (logic_seen, tt),
    ) logic_is

pub logic_only : Only (leaf leaf_logic) SpellsLogicName Prefix_free
logic_only = record { only = λ a s rest l st. reads a s rest l }
  where
    reads : (a : List ℕ) (s rest : List Lexeme) → SpellsLogicName a s
        → OrDeep (leaf leaf_logic (s ++ rest)) a rest
    reads a s rest (a_logic_name name) = read
