-- Whether words are those of a version, part by part.
use Rattle.std.proofs.Common.{◌≡◌, ℕ, Bool, true, false, not, ◌&&◌, ◌==◌, List, [], ◌∷◌, ◌++◌, map, refl, ap, ◌∙◌, bytes_eq, codes}
use Rattle.std.specs.List.{list_all}
use Rattle.model_shapes.specs.Sorts.{ValueSort, node_sort, list_sort, int_sort, str_sort, bool_sort, DataSort, tree, forest, grove, Sort, value, shape, context}
use Rattle.model_terms.specs.Stores.{ProgVar}
use Rattle.model_formulas.specs.Formulas.{Side, whole, hole_left, hole_right}
use Rattle.model_commands.specs.Each.{Each}
use Rattle.model_text.specs.Lexemes.{Lexeme, terminal, step_word, name_lexeme, logic_lexeme, number_lexeme, literal_lexeme, bad_lexeme}
use Rattle.model_text.specs.Versions.{insert_word, IsOfVersion}
use Rattle.model_grammar.specs.Words.{the, ◌⌢◌}
use Rattle.model_grammar.specs.Writing.{name_lexemes, braced, bracketed, value_sort_lexemes, behind_commas, listed, in_brackets, set_to}
use Rattle.model_grammar.specs.TheoryWriting.{empty_sign, hole_sign, star_sign, at_sign, into_sign, data_sort_lexemes, sort_lexemes}
use Rattle.model_certificates.specs.Reading.{is_free}

pub and_true : (a : Bool) → (a && true) ≡ a
and_true true = refl
and_true false = refl

-- ---- one lexeme, and a list of them

abbrev pub is_of : ℕ → Lexeme → Bool
is_of version (name_lexeme word) = is_free version word
is_of version (terminal word) = not (bytes_eq word insert_word && not (version == 2))
is_of version lexeme = true

abbrev pub are_of : ℕ → List Lexeme → Bool
are_of version = list_all (is_of version)

split : (a b : Bool) → (a && b) ≡ true → (a ≡ true) × (b ≡ true)
split true b e = (refl, e)
split false b e = absurd cc

not_true : (b : Bool) → not b ≡ true → b ≡ false
not_true true e = absurd cc
not_true false e = refl

one_said : (v : ℕ) (x : Lexeme) → is_of v x ≡ true → IsOfVersion v x
one_said v (name_lexeme word) e = not_true _ e
one_said v (terminal word) e = not_true _ e
one_said v (step_word line) e = tt
one_said v (logic_lexeme name) e = tt
one_said v (number_lexeme n) e = tt
one_said v (literal_lexeme text) e = tt
one_said v bad_lexeme e = tt

one_holds : (v : ℕ) (x : Lexeme) → IsOfVersion v x → is_of v x ≡ true
one_holds v (name_lexeme word) h = ap not h
one_holds v (terminal word) h = ap not h
one_holds v (step_word line) h = refl
one_holds v (logic_lexeme name) h = refl
one_holds v (number_lexeme n) h = refl
one_holds v (literal_lexeme text) h = refl
one_holds v bad_lexeme h = refl

pub are_said : (v : ℕ) (xs : List Lexeme) → are_of v xs ≡ true → Each (IsOfVersion v) xs
are_said v [] e = tt
are_said v (x ∷ xs) e =
    let own = split (is_of v x) (are_of v xs) e in
    (one_said v x own.0, are_said v xs own.1)

pub are_held : (v : ℕ) (xs : List Lexeme) → Each (IsOfVersion v) xs → are_of v xs ≡ true
are_held v [] h = refl
are_held v (x ∷ xs) h = rw (one_holds v x h.0, are_held v xs h.1) refl

-- ---- the parts of what is written

module _ (v : ℕ) where
  pub parted : (xs ys : List Lexeme) → are_of v (xs ++ ys) ≡ (are_of v xs && are_of v ys)
  parted [] ys = refl
  parted (x ∷ xs) ys = ap (λ b. is_of v x && b) (parted xs ys) ∙ by_test (is_of v x)
    where
      by_test : (b : Bool) → (b && (are_of v xs && are_of v ys))
          ≡ ((b && are_of v xs) && are_of v ys)
      by_test true = refl
      by_test false = refl

  -- before a part, and behind it
  pub behind_sign : (s r : List Lexeme) → are_of v s ≡ true → are_of v (s ++ r) ≡ are_of v r
  behind_sign s r e = parted s r ∙ ap (λ b. b && are_of v r) e

  pub before_sign : (l s : List Lexeme) → are_of v s ≡ true → are_of v (l ++ s) ≡ are_of v l
  before_sign l s e = parted l s ∙ ap (λ b. are_of v l && b) e ∙ and_true (are_of v l)

  -- two parts, with a sign between
  pub between : (l s r : List Lexeme) → are_of v s ≡ true
      → are_of v (l ⌢ s ⌢ r) ≡ (are_of v l && are_of v r)
  between l s r e = parted l (s ⌢ r) ∙ ap (λ b. are_of v l && b) (behind_sign s r e)

  pub between_closed : (l s r close : List Lexeme) → are_of v s ≡ true → are_of v close ≡ true
      → are_of v (l ⌢ s ⌢ r ⌢ close) ≡ (are_of v l && are_of v r)
  between_closed l s r close e f =
      between l s (r ⌢ close) e ∙ ap (λ b. are_of v l && b) (before_sign r close f)

  pub in_round : (l s r : List Lexeme) → are_of v s ≡ true
      → are_of v (bracketed l s r) ≡ (are_of v l && are_of v r)
  in_round l s r e = between_closed l s r (the ")") e refl

  pub in_braces : (l s r : List Lexeme) → are_of v s ≡ true
      → are_of v (braced l s r) ≡ (are_of v l && are_of v r)
  in_braces l s r e = between_closed l s r (the "}") e refl

  -- a node's four parts
  pub node_words : (a b p c : List Lexeme)
      → are_of v (a ⌢ the "#" ⌢ b ⌢ the "[" ⌢ p ⌢ the "]" ⌢ the "%" ⌢ c)
      ≡ (are_of v a && (are_of v b && (are_of v p && are_of v c)))
  node_words a b p c =
      between a (the "#") (b ⌢ the "[" ⌢ p ⌢ the "]" ⌢ the "%" ⌢ c) refl
      ∙ ap (λ z. are_of v a && z) (between b (the "[") (p ⌢ the "]" ⌢ the "%" ⌢ c) refl
      ∙ ap (λ z. are_of v b && z) (between p (the "]") (the "%" ⌢ c) refl))

  -- ---- signs

  pub empty_words : (k : DataSort) → are_of v (empty_sign k) ≡ true
  empty_words tree = refl
  empty_words forest = refl
  empty_words grove = refl

  pub hole_words : (k : DataSort) → are_of v (hole_sign k) ≡ true
  hole_words tree = refl
  hole_words forest = refl
  hole_words grove = refl

  pub at_words : (k : DataSort) → are_of v (at_sign k) ≡ true
  at_words tree = refl
  at_words forest = refl
  at_words grove = refl

  pub into_words : (k : DataSort) → are_of v (into_sign k) ≡ true
  into_words tree = refl
  into_words forest = refl
  into_words grove = refl

  pub star_words : (side : Side) → are_of v (star_sign side) ≡ true
  star_words whole = refl
  star_words hole_left = refl
  star_words hole_right = refl

  -- a name that isn't the word
  other_name : (text : List ℕ) → bytes_eq text insert_word ≡ false
      → are_of v (name_lexeme text ∷ []) ≡ true
  other_name text e = λ j. not (e j && (v == 2)) && true

  pub value_sort_words : (s : ValueSort) → are_of v (value_sort_lexemes s) ≡ true
  value_sort_words node_sort = other_name (codes "node") refl
  value_sort_words list_sort = other_name (codes "list") refl
  value_sort_words int_sort = other_name (codes "int") refl
  value_sort_words str_sort = other_name (codes "str") refl
  value_sort_words bool_sort = other_name (codes "bool") refl

  pub data_sort_words : (k : DataSort) → are_of v (data_sort_lexemes k) ≡ true
  data_sort_words tree = other_name (codes "t") refl
  data_sort_words forest = other_name (codes "f") refl
  data_sort_words grove = other_name (codes "g") refl

  pub sort_words : (s : Sort) → are_of v (sort_lexemes s) ≡ true
  sort_words (value s) = value_sort_words s
  sort_words (shape k) = data_sort_words k
  sort_words (context tree tree) = other_name (codes "tt") refl
  sort_words (context tree forest) = other_name (codes "tf") refl
  sort_words (context tree grove) = other_name (codes "tg") refl
  sort_words (context forest tree) = other_name (codes "ft") refl
  sort_words (context forest forest) = other_name (codes "ff") refl
  sort_words (context forest grove) = other_name (codes "fg") refl
  sort_words (context grove grove) = other_name (codes "gg") refl
  sort_words (context grove tree) = refl
  sort_words (context grove forest) = refl

  -- ---- lists

  comma_words : (parts : List (List Lexeme))
      → are_of v (behind_commas parts) ≡ list_all (are_of v) parts
  comma_words [] = refl
  comma_words (first ∷ rest) =
      parted first (behind_commas rest) ∙ ap (λ b. are_of v first && b) (comma_words rest)

  listed_words : (parts : List (List Lexeme)) → are_of v (listed parts) ≡ list_all (are_of v) parts
  listed_words [] = refl
  listed_words (first ∷ rest) =
      parted first (behind_commas rest) ∙ ap (λ b. are_of v first && b) (comma_words rest)

  pub in_bracket_words : (parts : List (List Lexeme))
      → are_of v (in_brackets parts) ≡ list_all (are_of v) parts
  in_bracket_words parts = before_sign (listed parts) (the ")") refl ∙ listed_words parts

  pub mapped : {A : Type 0} (f : A → List Lexeme) (test : A → Bool)
      → ((a : A) → are_of v (f a) ≡ test a) → (xs : List A)
      → are_of v (in_brackets (map f xs)) ≡ list_all test xs
  mapped {A} f test e xs = in_bracket_words (map f xs) ∙ each_of xs
    where
      each_of : (xs : List A) → list_all (are_of v) (map f xs) ≡ list_all test xs
      each_of [] = refl
      each_of (x ∷ xs) = λ j. e x j && each_of xs j

  -- a word before one, two or three parts in brackets
  pub on_one : (s a : List Lexeme) → are_of v s ≡ true
      → are_of v (s ⌢ in_brackets (a ∷ [])) ≡ are_of v a
  on_one s a e =
      behind_sign s (in_brackets (a ∷ [])) e ∙ in_bracket_words (a ∷ []) ∙ and_true (are_of v a)

  pub on_two : (s a b : List Lexeme) → are_of v s ≡ true
      → are_of v (s ⌢ in_brackets (a ∷ b ∷ [])) ≡ (are_of v a && are_of v b)
  on_two s a b e =
      behind_sign s (in_brackets (a ∷ b ∷ [])) e ∙ in_bracket_words (a ∷ b ∷ [])
      ∙ ap (λ z. are_of v a && z) (and_true (are_of v b))

  pub set_words : (x : ProgVar) (right : List Lexeme)
      → are_of v (set_to x right) ≡ (are_of v (name_lexemes x) && are_of v right)
  set_words x right = between (name_lexemes x) (the ":=") right refl

  pub set_on_one : (x : ProgVar) (s a : List Lexeme) → are_of v s ≡ true
      → are_of v (set_to x (s ⌢ in_brackets (a ∷ []))) ≡ (are_of v (name_lexemes x) && are_of v a)
  set_on_one x s a e =
      set_words x (s ⌢ in_brackets (a ∷ []))
      ∙ ap (λ z. are_of v (name_lexemes x) && z) (on_one s a e)

-- ---- each of two lists

pub each_both : {A : Type 0} (P : A → Type 0) (xs ys : List A) → Each P xs → Each P ys
    → Each P (xs ++ ys)
each_both P [] ys a b = b
each_both P (x ∷ xs) ys a b = (a.0, each_both P xs ys a.1 b)

pub each_parts : {A : Type 0} (P : A → Type 0) (xs ys : List A) → Each P (xs ++ ys)
    → Each P xs × Each P ys
each_parts P [] ys a = (tt, a)
each_parts P (x ∷ xs) ys a =
    let b = each_parts P xs ys a.1 in
    ((a.0, b.0), b.1)
