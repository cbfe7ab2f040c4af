-- The name of each rule is a word.
use Rattle.std.proofs.Common.{◌≡◌, ℕ, Bool, true, false, List, [], ◌∷◌, ◌++◌, refl, subst, sym, ap, bytes_eq}
use Rattle.std.specs.List.{list_all, list_any}
use Rattle.model_shapes.proofs.Truth.{both_true, false≢true}
use Rattle.model_shapes.proofs.Tests.{bytes-is}
use Rattle.model_files.specs.RuleNames.{entailment_rule_names, triple_rule_names, is_rule_name}
use Rattle.model_files.specs.FileFaults.{is_rule_of_version}
use Rattle.model_text.specs.Lexemes.{Lexeme, terminal, name_lexeme, word_lexeme}
use Rattle.model_text.specs.Nesting.{lexemes_of}
use Rattle.model_text.proofs.Computing.{lexing}
use Rattle.model_round_trip.specs.Writable.{IsWord}
use Rattle.filled_theory_laws.proofs.Declared.{either_true}

-- the lexemes are this one alone
abbrev is_only : Lexeme → List Lexeme → Bool
is_only (terminal text) (terminal other ∷ []) = bytes_eq other text
is_only (name_lexeme text) (name_lexeme other ∷ []) = bytes_eq other text
is_only lexeme lexemes = false

only-is : (lexeme : Lexeme) (lexemes : List Lexeme) → is_only lexeme lexemes ≡ true
    → lexemes ≡ lexeme ∷ []
only-is (terminal text) (terminal other ∷ []) e =
    ap (λ name. terminal name ∷ []) (bytes-is other text e)
only-is (name_lexeme text) (name_lexeme other ∷ []) e =
    ap (λ name. name_lexeme name ∷ []) (bytes-is other text e)
only-is lexeme lexemes e = false≢true e

abbrev is_word : List ℕ → Bool
is_word name = is_only (word_lexeme name 1) (lexemes_of name)

all-words : list_all is_word (entailment_rule_names ++ triple_rule_names) ≡ true
unfolding lexing
all-words = refl

one-of : (names : List (List ℕ)) → list_all is_word names ≡ true → (name : List ℕ)
    → list_any (bytes_eq name) names ≡ true → is_word name ≡ true
one-of [] all name e = false≢true e
one-of (x ∷ xs) all name e =
    let both = both_true (is_word x) (list_all is_word xs) all in
    either_true (bytes_eq name x) (list_any (bytes_eq name) xs)
    (λ same. subst (λ n. is_word n ≡ true) (sym (bytes-is name x same)) both.0)
    (one-of xs both.1 name) e

pub rule-is-word : (version : ℕ) (name : List ℕ) → is_rule_of_version version name ≡ true
    → IsWord name
rule-is-word version name e =
    only-is (word_lexeme name 1) (lexemes_of name)
    (one-of (entailment_rule_names ++ triple_rule_names) all-words name
    (both_true (is_rule_name name) _ e).0)
