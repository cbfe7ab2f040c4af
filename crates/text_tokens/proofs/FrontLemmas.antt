-- The lexemes that are left, where a word may be reserved.
use Rattle.std.proofs.Common.{◌≡◌, ◌≢◌, ◌==◌, ℕ, Bool, true, false, cond, List, [], ◌∷◌, length, drop, map, refl, sym, ap, ◌∙◌, bytes_eq}
use Rattle.std.proofs.lemmas.List.{length-map}
use Rattle.model_text.specs.Lexemes.{Lexeme, terminal, step_word, name_lexeme, logic_lexeme, number_lexeme, literal_lexeme, bad_lexeme}
use Rattle.model_text.specs.Versions.{insert_word, reserving, in_its_version}
use Rattle.text_tokens.specs.Seconds.{second_is_two}

-- the first of them
pub seen_head : (b : Bool) (xs : List Lexeme) (x : Lexeme) → xs ≡ x ∷ drop 1 xs
    → cond b (map reserving xs) xs
    ≡ cond b (reserving x) x ∷ drop 1 (cond b (map reserving xs) xs)
seen_head b [] x e = absurd cc
seen_head true (y ∷ ys) x e = let same : y ≡ x = cc in λ j. reserving (same j) ∷ map reserving ys
seen_head false (y ∷ ys) x e = e

-- none of them
pub seen_none : (b : Bool) (xs : List Lexeme) → xs ≡ [] → cond b (map reserving xs) xs ≡ []
seen_none true xs e = ap (map reserving) e
seen_none false xs e = e

-- those behind the first
pub seen_drop : (b : Bool) (xs ys : List Lexeme) → ys ≡ drop 1 xs
    → cond b (map reserving ys) ys ≡ drop 1 (cond b (map reserving xs) xs)
seen_drop true [] ys e = ap (map reserving) e
seen_drop true (x ∷ xs) ys e = ap (map reserving) e
seen_drop false xs ys e = e

-- as many
pub seen_count : (b : Bool) (xs : List Lexeme)
    → length (cond b (map reserving xs) xs) ≡ length xs
seen_count true xs = length-map xs reserving
seen_count false xs = refl

-- whether the second is the number 2
pub second_number : (xs : List Lexeme) (y : Lexeme) (n : ℕ) → drop 1 xs ≡ y ∷ drop 1 (drop 1 xs)
    → y ≡ number_lexeme n → (n == 2) ≡ second_is_two xs
second_number [] y n e f = absurd cc
second_number (x ∷ []) y n e f = absurd cc
second_number (x ∷ z ∷ xs) y n e f =
    let same : z ≡ number_lexeme n = (let h : z ≡ y = cc in h ∙ f) in
    sym (λ j. second_is_two (x ∷ same j ∷ xs))

other_kind : (x z : Lexeme) (xs : List Lexeme) → ((n : ℕ) → z ≢ number_lexeme n)
    → false ≡ second_is_two (x ∷ z ∷ xs)
other_kind x (number_lexeme n) xs f = absurd (f n refl)
other_kind x (terminal text) xs f = refl
other_kind x (step_word line) xs f = refl
other_kind x (name_lexeme name) xs f = refl
other_kind x (logic_lexeme name) xs f = refl
other_kind x (literal_lexeme text) xs f = refl
other_kind x bad_lexeme xs f = refl

pub second_other : (xs : List Lexeme) (y : Lexeme) → drop 1 xs ≡ y ∷ drop 1 (drop 1 xs)
    → ((n : ℕ) → y ≢ number_lexeme n) → false ≡ second_is_two xs
second_other [] y e f = refl
second_other (x ∷ []) y e f = refl
second_other (x ∷ z ∷ xs) y e f =
    let same : z ≡ y = cc in other_kind x z xs (λ n g. f n (sym same ∙ g))

pub second_none : (xs : List Lexeme) → drop 1 xs ≡ [] → false ≡ second_is_two xs
second_none [] e = refl
second_none (x ∷ []) e = refl
second_none (x ∷ z ∷ xs) e = absurd cc

-- a word that is reserved stays so
twice : (x : Lexeme) → reserving (reserving x) ≡ reserving x
twice (name_lexeme word) = by_test (bytes_eq word insert_word) refl
  where
    by_test : (b : Bool) → bytes_eq word insert_word ≡ b
        → reserving (cond b (terminal word) (name_lexeme word))
        ≡ cond b (terminal word) (name_lexeme word)
    by_test true e = refl
    by_test false e = λ j. cond (e j) (terminal word) (name_lexeme word)
twice (terminal text) = refl
twice (step_word line) = refl
twice (logic_lexeme name) = refl
twice (number_lexeme n) = refl
twice (literal_lexeme text) = refl
twice bad_lexeme = refl

all_twice : (b : Bool) (xs : List Lexeme)
    → map reserving xs ≡ map reserving (cond b (map reserving xs) xs)
all_twice false xs = refl
all_twice true [] = refl
all_twice true (x ∷ xs) = λ j. sym (twice x) j ∷ all_twice true xs j

in_second : (xs : List Lexeme) → second_is_two xs ≡ true → map reserving xs ≡ in_its_version xs
in_second (x ∷ number_lexeme n ∷ xs) e =
    sym (λ j. cond (e j) (map reserving (x ∷ number_lexeme n ∷ xs)) (x ∷ number_lexeme n ∷ xs))
in_second [] e = absurd cc
in_second (x ∷ []) e = absurd cc
in_second (x ∷ terminal text ∷ xs) e = absurd cc
in_second (x ∷ step_word line ∷ xs) e = absurd cc
in_second (x ∷ name_lexeme name ∷ xs) e = absurd cc
in_second (x ∷ logic_lexeme name ∷ xs) e = absurd cc
in_second (x ∷ literal_lexeme text ∷ xs) e = absurd cc
in_second (x ∷ bad_lexeme ∷ xs) e = absurd cc

pub told_second : (b : Bool) (xs : List Lexeme)
    → second_is_two (cond b (map reserving xs) xs) ≡ true
    → cond true (map reserving xs) xs ≡ in_its_version (cond b (map reserving xs) xs)
told_second b xs e = all_twice b xs ∙ in_second (cond b (map reserving xs) xs) e

pub told_other : (xs : List Lexeme) → second_is_two xs ≡ false → xs ≡ in_its_version xs
told_other (x ∷ number_lexeme n ∷ xs) e =
    sym (λ j. cond (e j) (map reserving (x ∷ number_lexeme n ∷ xs)) (x ∷ number_lexeme n ∷ xs))
told_other [] e = refl
told_other (x ∷ []) e = refl
told_other (x ∷ terminal text ∷ xs) e = refl
told_other (x ∷ step_word line ∷ xs) e = refl
told_other (x ∷ name_lexeme name ∷ xs) e = refl
told_other (x ∷ logic_lexeme name ∷ xs) e = refl
told_other (x ∷ literal_lexeme text ∷ xs) e = refl
told_other (x ∷ bad_lexeme ∷ xs) e = refl
