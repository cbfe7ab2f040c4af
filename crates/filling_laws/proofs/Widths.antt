-- How wide lexemes are, each with one byte behind it; and how that goes with the parts of formulas.
use Rattle.std.proofs.Common.{◌≡◌, ℕ, suc, ◌+◌, ◌≤◌, ◌<◌, ◌^◌, List, [], ◌∷◌, ◌++◌, length, pos, negsuc, refl, true, false, arith}
use Rattle.std.proofs.lemmas.Fmt.{decimal_nonempty}
use Rattle.std.proofs.lemmas.List.{length-append}
use Rattle.model_shapes.specs.Sorts.{ValueSort, node_sort, list_sort, int_sort, str_sort, bool_sort, DataSort, tree, forest, grove, Sort, value, shape, context}
use Rattle.model_shapes.specs.Values.{null, nolist, node_number, list_number, int, str, boolean}
use Rattle.model_terms.specs.Variables.{prog, logic, bound}
use Rattle.model_terms.specs.Terms.{Term, literal, variable, sum, difference, appended}
use Rattle.model_formulas.specs.Formulas.{Named, whole, hole_left, hole_right, conjunction, node_formula, one_tree, one_root, concatenation, grove_sum, grove_sum_hole, application}
use Rattle.model_commands.specs.Theories.{entails}
use Rattle.model_text.specs.Lexemes.{Lexeme}
use Rattle.model_text.proofs.Computing.{lexing}
use Rattle.model_grammar.specs.Words.{the, ◌⌢◌}
use Rattle.model_grammar.specs.Terms.{in_formula}
use Rattle.model_grammar.specs.Writing.{printed, spaced, text_of, term_lexemes, bracketed, value_sort_lexemes}
use Rattle.model_grammar.specs.TheoryWriting.{at_sign, formula_lexemes, data_sort_lexemes, sort_lexemes, judgement_lexemes}
use Rattle.model_grammar.specs.Writable.{IsName, IsLogicName, IsWritableTerm}
use Rattle.filling_laws.specs.TextBounds.{judgement_bytes}

-- LEXEMES
abbrev pub width : List Lexeme → ℕ
width [] = 0
width (x ∷ xs) = suc (length (printed x)) + width xs

pub width-append : (xs ys : List Lexeme) → width (xs ++ ys) ≡ width xs + width ys
width-append [] ys = omega arith
width-append (x ∷ xs) ys = omega (arith, width-append xs ys)

spaced-width : (xs : List Lexeme) → length (spaced xs) ≡ width xs
spaced-width [] = refl
spaced-width (x ∷ xs) =
    omega (arith, spaced-width xs, length-append (printed x) (spaced xs))

-- a text is its lexemes, but for one byte
pub text-width : (x : Lexeme) (xs : List Lexeme) → suc (length (text_of (x ∷ xs))) ≡ width (x ∷ xs)
text-width x xs = omega (arith, spaced-width xs, length-append (printed x) (spaced xs))

pub text-within : (xs : List Lexeme) → length (text_of xs) ≤ width xs
text-within [] = omega arith
text-within (x ∷ xs) = omega (arith, text-width x xs)

pub within-text : (xs : List Lexeme) → width xs ≤ suc (length (text_of xs))
within-text [] = omega arith
within-text (x ∷ xs) = omega (arith, text-width x xs)

bracketed-width : (left sign right : List Lexeme)
    → width (bracketed left sign right) ≡ width left + (width sign + (width right + 4))
bracketed-width left sign right =
    omega (
      arith,
      width-append left (sign ++ (right ++ the ")")),
      width-append sign
          (right ++ the ")"),
      width-append right (the ")"),
    )

-- TERMS that can be written have a byte, and another behind it
no-name : IsName [] → ⊥
unfolding lexing
no-name e = cc

no-logic-name : IsLogicName [] → ⊥
unfolding lexing
no-logic-name e = cc

some-name : (name : List ℕ) → IsName name → 1 ≤ length name
some-name [] h = absurd (no-name h)
some-name (x ∷ xs) h = omega arith

some-logic : (name : List ℕ) → IsLogicName name → 1 ≤ length name
some-logic [] h = absurd (no-logic-name h)
some-logic (x ∷ xs) h = omega arith

pub term-width : (a : Term) → IsWritableTerm in_formula a → 2 ≤ width (term_lexemes a)
term-width (literal null) h = omega arith
term-width (literal nolist) h = omega arith
term-width (literal (node_number n)) h = absurd h
term-width (literal (list_number n)) h = absurd h
term-width (literal (int (pos n))) h =
    let below : n < 2 ^ 64 = omega (arith, h) in omega (arith, decimal_nonempty n below)
term-width (literal (int (negsuc n))) h = omega arith
term-width (literal (str text)) h = omega arith
term-width (literal (boolean true)) h = omega arith
term-width (literal (boolean false)) h = omega arith
term-width (variable (prog name s)) h = omega (arith, some-name name h)
term-width (variable (logic name s)) h = omega (arith, some-logic name h)
term-width (variable (bound i s)) h = absurd h
term-width (sum a b) h = omega arith
term-width (difference a b) h = omega arith
term-width (appended a b) h = omega arith

-- FORMULAS
abbrev pub wide : Named → ℕ
wide p = width (formula_lexemes p)

pub and-wide : (p q : Named) → wide (conjunction p q) ≡ wide p + (wide q + 8)
and-wide p q = omega (arith, bracketed-width (formula_lexemes p) (the "and") (formula_lexemes q))

pub star-wide : (p q : Named) → wide (concatenation whole p q) ≡ wide p + (wide q + 6)
star-wide p q = omega (arith, bracketed-width (formula_lexemes p) (the "*") (formula_lexemes q))

pub left-wide : (p q : Named) → wide (concatenation hole_left p q) ≡ wide p + (wide q + 7)
left-wide p q = omega (arith, bracketed-width (formula_lexemes p) (the ".*") (formula_lexemes q))

pub right-wide : (p q : Named) → wide (concatenation hole_right p q) ≡ wide p + (wide q + 7)
right-wide p q = omega (arith, bracketed-width (formula_lexemes p) (the "*.") (formula_lexemes q))

pub plus-wide : (p q : Named) → wide (grove_sum p q) ≡ wide p + (wide q + 6)
plus-wide p q = omega (arith, bracketed-width (formula_lexemes p) (the "+") (formula_lexemes q))

pub plus_hole-wide : (p q : Named) → wide (grove_sum_hole p q) ≡ wide p + (wide q + 7)
plus_hole-wide p q = omega (
  arith,
  bracketed-width (formula_lexemes p) (the ".+")
      (formula_lexemes q),
)

at-width : (k : DataSort) → width (at_sign k) ≡ 3
at-width tree = refl
at-width forest = refl
at-width grove = refl

pub application-wide : (k : DataSort) (p q : Named)
    → wide (application k p q) ≡ wide p + (wide q + 7)
application-wide k p q =
    omega (arith, bracketed-width (formula_lexemes p) (at_sign k) (formula_lexemes q), at-width k)

pub tree-wide : (p : Named) → wide (one_tree p) ≡ wide p + 4
tree-wide p = omega (arith, width-append (formula_lexemes p) (the ">"))

pub root-wide : (p : Named) → wide (one_root p) ≡ wide p + 4
root-wide p = omega (arith, width-append (formula_lexemes p) (the "]"))

-- a node: what it has beside what is in it
abbrev pub around : Term → Term → Term → ℕ
around name number list =
    width (term_lexemes name) + (width (term_lexemes number) + (width (term_lexemes list) + 8))

pub node-wide : (name number : Term) (p : Named) (list : Term)
    → wide (node_formula name number p list) ≡ wide p + around name number list
node-wide name number p list =
    let rest = formula_lexemes p ⌢ the "]" ⌢ the "%" ⌢ term_lexemes list in
    omega (
      arith,
      width-append (term_lexemes name) (the "#" ⌢ term_lexemes number ⌢ the "[" ⌢ rest),
      width-append (term_lexemes number) (the "[" ⌢ rest),
      width-append (formula_lexemes p) (the "]" ⌢ the "%" ⌢ term_lexemes list),
    )

-- JUDGEMENTS
value-width : (s : ValueSort) → width (value_sort_lexemes s) ≤ 5
value-width node_sort = omega arith
value-width list_sort = omega arith
value-width int_sort = omega arith
value-width str_sort = omega arith
value-width bool_sort = omega arith

data-width : (k : DataSort) → width (data_sort_lexemes k) ≤ 5
data-width tree = omega arith
data-width forest = omega arith
data-width grove = omega arith

sort-width : (s : Sort) → width (sort_lexemes s) ≤ 5
sort-width (value s) = value-width s
sort-width (shape k) = data-width k
sort-width (context tree tree) = omega arith
sort-width (context tree forest) = omega arith
sort-width (context tree grove) = omega arith
sort-width (context forest tree) = omega arith
sort-width (context forest forest) = omega arith
sort-width (context forest grove) = omega arith
sort-width (context grove tree) = omega arith
sort-width (context grove forest) = omega arith
sort-width (context grove grove) = omega arith

entails-width : (p q : Named) (s : Sort)
    → width (judgement_lexemes (entails p q s)) ≡ wide p + (wide q + (width (sort_lexemes s) + 11))
entails-width p q s =
    let rest = formula_lexemes q ⌢ the "at" ⌢ sort_lexemes s in
    omega (
      arith,
      width-append (formula_lexemes p) (the "entails" ⌢ rest),
      width-append (formula_lexemes q) (the "at" ⌢ sort_lexemes s),
    )

pub entails-short : (p q : Named) (s : Sort)
    → judgement_bytes (entails p q s) ≤ wide p + (wide q + 16)
entails-short p q s =
    omega (
      arith,
      entails-width p q s,
      text-within (judgement_lexemes (entails p q s)),
      sort-width
          s,
    )

pub short-entails : (p q : Named) (s : Sort)
    → wide p + wide q ≤ judgement_bytes (entails p q s)
short-entails p q s =
    omega (arith, entails-width p q s, within-text (judgement_lexemes (entails p q s)))
