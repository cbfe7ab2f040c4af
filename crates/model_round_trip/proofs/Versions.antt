-- What is seen in a file of a version, and that what is written for it is seen as it is meant.
use Rattle.std.proofs.Common.{◌≡◌, ℕ, Bool, true, false, not, ◌&&◌, cond, ◌==◌, List, [], ◌∷◌, ◌++◌, refl, sym, ap, ◌∙◌, subst, map, codes, bytes_eq, inl, inr}
use Rattle.std.specs.Prelude.{◌⊎◌}
use Rattle.std.proofs.lemmas.Slice.Eq.{bytes_eq-Decides}
use Rattle.model_text.specs.Lexemes.{Lexeme, terminal, step_word, name_lexeme, logic_lexeme, number_lexeme, literal_lexeme, bad_lexeme, reserved_words, is_reserved, word_lexeme}
use Rattle.model_text.specs.Tokens.{newline}
use Rattle.model_text.specs.Nesting.{lexemes_of}
use Rattle.model_text.specs.FaultTokens.{IsOfToken, AreOfTokens}
use Rattle.model_text.specs.Versions.{insert_word, reserving, seen_in, in_its_version, IsOfVersion}
use Rattle.model_text.proofs.Computing.{lexing}
use Rattle.model_text.proofs.Versions.{either_same}
use Rattle.model_grammar.specs.Writing.{printed, spaced, text_of}
use Rattle.model_grammar.specs.TheoryWriting.{text_of_lines}
use Rattle.model_grammar.specs.Writable.{Each, IsName}
use Rattle.model_printing.specs.Printable.{without_line}
use Rattle.model_round_trip.specs.Writable.{IsWord}
use Rattle.model_round_trip.proofs.Tokens.{word_by, printable}

-- ---- one lexeme

-- as it is read where the word isn't reserved
abbrev pub plain : Lexeme → Lexeme
plain (terminal text) = cond (bytes_eq text insert_word) (name_lexeme text) (terminal text)
plain lexeme = lexeme

-- as it is seen in the version
abbrev pub seen : ℕ → Lexeme → Lexeme
seen version lexeme = cond (version == 2) (reserving lexeme) lexeme

-- what may be seen in the version is seen so
kept_name : (is second : Bool) (word : List ℕ) → (is && second) ≡ false
    → cond second (cond is (terminal word) (name_lexeme word)) (name_lexeme word)
    ≡ name_lexeme word
kept_name true true word e = absurd cc
kept_name true false word e = refl
kept_name false true word e = refl
kept_name false false word e = refl

-- cond (reserving (plain (terminal text)))
again_terminal : (is second : Bool) (text : List ℕ) → bytes_eq text insert_word ≡ is
    → (is && not second) ≡ false
    → cond second (reserving (cond is (name_lexeme text) (terminal text)))
    (cond is (name_lexeme text) (terminal text)) ≡ terminal text
again_terminal true true text e h = λ j. cond (e j) (terminal text) (name_lexeme text)
again_terminal true false text e h = absurd cc
again_terminal false true text e h = refl
again_terminal false false text e h = refl

one_kept : (version : ℕ) (lexeme : Lexeme) → IsOfVersion version lexeme
    → seen version lexeme ≡ lexeme
one_kept version (name_lexeme word) h =
    kept_name (bytes_eq word insert_word) (version == 2) word h
one_kept version (terminal text) h = either_same (version == 2) (terminal text)
one_kept version (step_word line) h = either_same (version == 2) (step_word line)
one_kept version (logic_lexeme name) h = either_same (version == 2) (logic_lexeme name)
one_kept version (number_lexeme n) h = either_same (version == 2) (number_lexeme n)
one_kept version (literal_lexeme text) h = either_same (version == 2) (literal_lexeme text)
one_kept version bad_lexeme h = either_same (version == 2) bad_lexeme

one_again : (version : ℕ) (lexeme : Lexeme) → IsOfVersion version lexeme
    → seen version (plain lexeme) ≡ lexeme
one_again version (terminal text) h =
    again_terminal (bytes_eq text insert_word) (version == 2) text refl h
one_again version (name_lexeme word) h = one_kept version (name_lexeme word) h
one_again version (step_word line) h = one_kept version (step_word line) h
one_again version (logic_lexeme name) h = one_kept version (logic_lexeme name) h
one_again version (number_lexeme n) h = one_kept version (number_lexeme n) h
one_again version (literal_lexeme text) h = one_kept version (literal_lexeme text) h
one_again version bad_lexeme h = one_kept version bad_lexeme h

one_line : (lexeme : Lexeme) → without_line (reserving lexeme) ≡ reserving (without_line lexeme)
one_line (name_lexeme word) = by_test (bytes_eq word insert_word)
  where
    by_test : (b : Bool) → without_line (cond b (terminal word) (name_lexeme word))
        ≡ cond b (terminal word) (name_lexeme word)
    by_test true = refl
    by_test false = refl
one_line (terminal text) = refl
one_line (step_word line) = refl
one_line (logic_lexeme name) = refl
one_line (number_lexeme n) = refl
one_line (literal_lexeme text) = refl
one_line bad_lexeme = refl

-- ---- lists of them

pub one_by_one : (version : ℕ) (lexemes : List Lexeme) → seen_in version lexemes
    ≡ map (seen version) lexemes
one_by_one version lexemes = by_test (version == 2)
  where
    same : (xs : List Lexeme) → xs ≡ map (λ x. x) xs
    same [] = refl
    same (x ∷ xs) = ap (λ (z : List Lexeme). x ∷ z) (same xs)

    by_test : (b : Bool) → cond b (map reserving lexemes) lexemes
        ≡ map (λ x. cond b (reserving x) x) lexemes
    by_test true = refl
    by_test false = same lexemes

pub kept_in : (version : ℕ) (lexemes : List Lexeme) → Each (IsOfVersion version) lexemes
    → seen_in version lexemes ≡ lexemes
kept_in version lexemes h = one_by_one version lexemes ∙ each_kept lexemes h
  where
    each_kept : (xs : List Lexeme) → Each (IsOfVersion version) xs → map (seen version) xs ≡ xs
    each_kept [] h = refl
    each_kept (x ∷ xs) h = λ j. one_kept version x h.0 j ∷ each_kept xs h.1 j

pub again_in : (version : ℕ) (lexemes : List Lexeme) → Each (IsOfVersion version) lexemes
    → seen_in version (map plain lexemes) ≡ lexemes
again_in version lexemes h = one_by_one version (map plain lexemes) ∙ each_again lexemes h
  where
    each_again : (xs : List Lexeme) → Each (IsOfVersion version) xs
        → map (seen version) (map plain xs) ≡ xs
    each_again [] h = refl
    each_again (x ∷ xs) h = λ j. one_again version x h.0 j ∷ each_again xs h.1 j

lines_in : (version : ℕ) (lexemes : List Lexeme)
    → map without_line (seen_in version lexemes) ≡ seen_in version (map without_line lexemes)
lines_in version lexemes = by_test (version == 2)
  where
    each_line : (xs : List Lexeme)
        → map without_line (map reserving xs) ≡ map reserving (map without_line xs)
    each_line [] = refl
    each_line (x ∷ xs) = λ j. one_line x j ∷ each_line xs j

    by_test : (b : Bool) → map without_line (cond b (map reserving lexemes) lexemes)
        ≡ cond b (map reserving (map without_line lexemes)) (map without_line lexemes)
    by_test true = each_line lexemes
    by_test false = refl

pub lines_in_version : (lexemes : List Lexeme)
    → map without_line (in_its_version lexemes) ≡ in_its_version (map without_line lexemes)
lines_in_version [] = refl
lines_in_version (x ∷ []) = refl
lines_in_version (x ∷ number_lexeme n ∷ rest) = lines_in n (x ∷ number_lexeme n ∷ rest)
lines_in_version (x ∷ terminal text ∷ rest) = refl
lines_in_version (x ∷ step_word line ∷ rest) = refl
lines_in_version (x ∷ name_lexeme name ∷ rest) = refl
lines_in_version (x ∷ logic_lexeme name ∷ rest) = refl
lines_in_version (x ∷ literal_lexeme text ∷ rest) = refl
lines_in_version (x ∷ bad_lexeme ∷ rest) = refl

-- ---- what is printed

printed_plain : (lexeme : Lexeme) → printed (plain lexeme) ≡ printed lexeme
printed_plain (terminal text) = by_test (bytes_eq text insert_word)
  where
    by_test : (b : Bool) → printed (cond b (name_lexeme text) (terminal text)) ≡ text
    by_test true = refl
    by_test false = refl
printed_plain (step_word line) = refl
printed_plain (name_lexeme name) = refl
printed_plain (logic_lexeme name) = refl
printed_plain (number_lexeme n) = refl
printed_plain (literal_lexeme text) = refl
printed_plain bad_lexeme = refl

spaced_plain : (lexemes : List Lexeme) → spaced (map plain lexemes) ≡ spaced lexemes
spaced_plain [] = refl
spaced_plain (x ∷ xs) = λ j. codes " " ++ (printed_plain x j ++ spaced_plain xs j)

pub text_plain : (lexemes : List Lexeme) → text_of (map plain lexemes) ≡ text_of lexemes
text_plain [] = refl
text_plain (x ∷ xs) = λ j. printed_plain x j ++ spaced_plain xs j

pub lines_plain : (lines : List (List Lexeme))
    → text_of_lines (map (map plain) lines) ≡ text_of_lines lines
lines_plain [] = refl
lines_plain (line ∷ lines) = λ j. text_plain line j ++ (newline ∷ lines_plain lines j)

-- ---- what is read

-- the word is a name to all who don't reserve it
pub insert_is_name : IsName insert_word
unfolding lexing
insert_is_name = refl

pub insert_is_word : IsWord insert_word
unfolding lexing
insert_is_word = refl

-- no token is seen as the reserved word
pub never_reserved : (text : List ℕ) → IsOfToken (terminal text)
    → bytes_eq text insert_word ≡ false
never_reserved text h = by_test (bytes_eq text insert_word) refl
  where
    two_ways : lexemes_of insert_word ≡ terminal insert_word ∷ [] → ⊥
    two_ways e =
        let x : terminal insert_word ∷ [] ≡ name_lexeme insert_word ∷ [] =
        sym e ∙ insert_is_name in cc

    by_test : (b : Bool) → bytes_eq text insert_word ≡ b → b ≡ false
    by_test false e = refl
    by_test true e =
        absurd (two_ways (subst (λ (z : List ℕ). lexemes_of z ≡ terminal z ∷ [])
        ((bytes_eq-Decides text insert_word).0 e) (printable (terminal text) h (λ f. cc))))

-- a lexeme of a token, or the reserved word
abbrev pub IsSeen : Lexeme → Type 0
IsSeen lexeme = IsOfToken lexeme ⊎ (lexeme ≡ terminal insert_word)

abbrev pub AreSeen : List Lexeme → Type 0
AreSeen lexemes = Each IsSeen lexemes

seen_token : (version : ℕ) (lexeme : Lexeme) → IsOfToken lexeme → IsSeen (seen version lexeme)
seen_token version (name_lexeme word) h =
    by_test (bytes_eq word insert_word) (version == 2) refl
  where
    by_test : (is second : Bool) → bytes_eq word insert_word ≡ is
        → IsSeen (cond second (cond is (terminal word) (name_lexeme word)) (name_lexeme word))
    by_test true true e = inr (ap terminal ((bytes_eq-Decides word insert_word).0 e))
    by_test true false e = inl h
    by_test false true e = inl h
    by_test false false e = inl h
seen_token version (terminal text) h =
    subst IsSeen (sym (either_same (version == 2) (terminal text))) (inl h)
seen_token version (step_word line) h =
    subst IsSeen (sym (either_same (version == 2) (step_word line))) (inl h)
seen_token version (logic_lexeme name) h =
    subst IsSeen (sym (either_same (version == 2) (logic_lexeme name))) (inl h)
seen_token version (number_lexeme n) h =
    subst IsSeen (sym (either_same (version == 2) (number_lexeme n))) (inl h)
seen_token version (literal_lexeme text) h =
    subst IsSeen (sym (either_same (version == 2) (literal_lexeme text))) (inl h)
seen_token version bad_lexeme h =
    subst IsSeen (sym (either_same (version == 2) bad_lexeme)) (inl h)

name_of_version : (version : ℕ) (word : List ℕ)
    → IsOfVersion version (seen version (name_lexeme word))
name_of_version version word = by_test (bytes_eq word insert_word) (version == 2) refl refl
  where
    by_test : (is second : Bool) → bytes_eq word insert_word ≡ is → (version == 2) ≡ second
        → IsOfVersion version
        (cond second (cond is (terminal word) (name_lexeme word)) (name_lexeme word))
    by_test true true e f = (λ j. e j && not (f j))
    by_test true false e f = (λ j. e j && f j)
    by_test false true e f = (λ j. e j && f j)
    by_test false false e f = (λ j. e j && f j)

terminal_of_version : (version : ℕ) (text : List ℕ) → bytes_eq text insert_word ≡ false
    → IsOfVersion version (seen version (terminal text))
terminal_of_version version text e =
    subst (IsOfVersion version) (sym (either_same (version == 2) (terminal text)))
    (λ j. e j && not (version == 2))

line_of_version : (version line : ℕ) → IsOfVersion version (seen version (step_word line))
line_of_version version line =
    subst (IsOfVersion version) (sym (either_same (version == 2) (step_word line))) tt

of_version : (version : ℕ) (lexeme : Lexeme) → IsOfToken lexeme
    → IsOfVersion version (seen version lexeme)
of_version version (name_lexeme word) h = name_of_version version word
of_version version (terminal text) h = terminal_of_version version text (never_reserved text h)
of_version version (step_word line) h = line_of_version version line
of_version version (logic_lexeme name) h =
    subst (IsOfVersion version) (sym (either_same (version == 2) (logic_lexeme name))) tt
of_version version (number_lexeme n) h =
    subst (IsOfVersion version) (sym (either_same (version == 2) (number_lexeme n))) tt
of_version version (literal_lexeme text) h =
    subst (IsOfVersion version) (sym (either_same (version == 2) (literal_lexeme text))) tt
of_version version bad_lexeme h =
    subst (IsOfVersion version) (sym (either_same (version == 2) bad_lexeme)) tt

-- a word that every version reserves is another
not_reserved : is_reserved insert_word ≡ true → ⊥
unfolding reserved_words
not_reserved e = cc

pub reserved_other : (name : List ℕ) → is_reserved name ≡ true
    → bytes_eq name insert_word ≡ false
reserved_other name f = by_test (bytes_eq name insert_word) refl
  where
    by_test : (is : Bool) → bytes_eq name insert_word ≡ is → is ≡ false
    by_test false e = refl
    by_test true e =
        absurd (not_reserved (subst (λ (z : List ℕ). is_reserved z ≡ true)
        ((bytes_eq-Decides name insert_word).0 e) f))

-- the word of a rule, whatever it is
pub rule_of_version : (version : ℕ) (name : List ℕ)
    → IsOfVersion version (seen version (word_lexeme name 0))
rule_of_version version name =
    by_tests (bytes_eq name (codes "step")) (is_reserved name) refl
  where
    by_tests : (step reserved : Bool) → is_reserved name ≡ reserved
        → IsOfVersion version (seen version (word_by step reserved name 0))
    by_tests true reserved f = line_of_version version 0
    by_tests false true f =
        terminal_of_version version name (reserved_other name f)
    by_tests false false f = name_of_version version name

module _ (version : ℕ) (Can : Lexeme → Type 0)
    (one : (lexeme : Lexeme) → IsOfToken lexeme → Can (seen version lexeme)) where
  each_seen : (lexemes : List Lexeme) → AreOfTokens lexemes → Each Can (seen_in version lexemes)
  each_seen lexemes h =
      subst (Each Can) (sym (one_by_one version lexemes)) (each_of lexemes h)
    where
      each_of : (xs : List Lexeme) → AreOfTokens xs → Each Can (map (seen version) xs)
      each_of [] h = tt
      each_of (x ∷ xs) h = (one x h.0, each_of xs h.1)

pub tokens_seen : (version : ℕ) (lexemes : List Lexeme) → AreOfTokens lexemes
    → AreSeen (seen_in version lexemes)
tokens_seen version = each_seen version IsSeen (seen_token version)

pub tokens_of_version : (version : ℕ) (lexemes : List Lexeme) → AreOfTokens lexemes
    → Each (IsOfVersion version) (seen_in version lexemes)
tokens_of_version version = each_seen version (IsOfVersion version) (of_version version)

-- tokens alone are seen
pub all_seen : (lexemes : List Lexeme) → AreOfTokens lexemes → AreSeen lexemes
all_seen [] h = tt
all_seen (x ∷ xs) h = (inl h.0, all_seen xs h.1)
