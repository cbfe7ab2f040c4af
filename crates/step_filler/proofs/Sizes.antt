-- What is given is whole wherever it has the sizes of an offer.
use Rattle.std.proofs.Common.{◌≡◌, ◌∙◌, ℕ, suc, ◌+◌, ◌≤◌, Bool, true, false, cond, ◌==◌, List, [], ◌∷◌, ◌++◌, length, sum_by, codes, Option, Some, None, IfSome, is_some, refl, ap, sym, subst, arith, append_assoc, append-nil, length-append}
use Rattle.std.proofs.lemmas.Bool.Decides.{nat_tests}
use Rattle.std.proofs.lemmas.List.Sums.{sum_by-append, sum_by-cons}
use Rattle.model_shapes.specs.Sorts.{tree, forest, grove}
use Rattle.model_shapes.specs.Values.{null, nolist, node_number, list_number, int, str, boolean}
use Rattle.model_terms.specs.Variables.{Var, prog, logic, bound}
use Rattle.model_terms.specs.Terms.{Term, literal, variable, sum, difference, appended}
use Rattle.model_formulas.specs.Formulas.{Named, truth, falsity, conjunction, disjunction, implication, negation, existential, universal, equality, at_most, empty, bare_hole, node_formula, one_tree, one_root, concatenation, grove_sum, grove_sum_hole, application, hole_adjoint, context_adjoint, same_as, length_is, value_meets}
use Rattle.model_commands.specs.Theories.{JudgementOf, Judgement, entails, triple, StepOf, Procedures}
use Rattle.model_text.specs.Lexemes.{Lexeme}
use Rattle.model_text.specs.Tokens.{newline, quote, backslash}
use Rattle.model_documents.specs.Printed.{escaped_byte, escaped, quoted}
use Rattle.model_grammar.specs.Words.{the, ◌⌢◌}
use Rattle.model_grammar.specs.Writing.{printed, spaced, text_of, var_lexemes, term_lexemes, braced, bracketed, command_lexemes}
use Rattle.model_grammar.specs.TheoryWriting.{star_sign, at_sign, into_sign, quantified, formula_lexemes, sort_lexemes, data_sort_lexemes, reason_lexemes, judgement_lexemes, step_line}
use Rattle.model_limits.specs.Limits.{standard_limits}
use Rattle.model_filling.specs.Sizes.{offer_lexemes, IsSized}
use Rattle.assistant_laws.specs.Plans.{Plan, steps_of}
use Rattle.assistant_laws.specs.Proposals.{Proves}
use Rattle.step_filler.specs.Weights.{weight_of_variable, weight_of_term, weight_of_formula, weight_of_judgement, weight_of}
use Rattle.step_filler.specs.Given.{are_too_many, grown, offer_of}

-- THE BYTES of what is printed, without those between
bytes : List Lexeme → ℕ
bytes [] = 0
bytes (first ∷ rest) = length (printed first) + bytes rest

bytes-append : (a b : List Lexeme) → bytes (a ++ b) ≡ bytes a + bytes b
unfolding bytes
bytes-append [] b = omega arith
bytes-append (x ∷ a) b = omega (arith, bytes-append a b)

bytes-spaced : (a : List Lexeme) → bytes a ≤ length (spaced a)
unfolding bytes
bytes-spaced [] = omega arith
bytes-spaced (x ∷ a) = omega (
  arith,
  length-append (codes " ") (printed x ++ spaced a),
  length-append (printed x) (spaced a),
  bytes-spaced a,
)

bytes-text : (a : List Lexeme) → bytes a ≤ length (text_of a)
unfolding bytes
bytes-text [] = omega arith
bytes-text (x ∷ a) = omega (arith, length-append (printed x) (spaced a), bytes-spaced a)

-- texts are printed with no fewer bytes
escaped-one : (byte : ℕ) → 1 ≤ length (escaped_byte byte)
escaped-one byte = cases (byte == quote) (byte == backslash) (byte == newline)
  where
    cases : (a b c : Bool) → 1 ≤ length (cond a (backslash ∷ quote ∷ [])
        (cond b (backslash ∷ backslash ∷ []) (cond c (backslash ∷ 110 ∷ []) (byte ∷ []))))
    cases true b c = omega arith
    cases false true c = omega arith
    cases false false true = omega arith
    cases false false false = omega arith

escaped-all : (text : List ℕ) → length text ≤ length (escaped text)
escaped-all [] = omega arith
escaped-all (byte ∷ text) = omega (
  arith,
  length-append (escaped_byte byte) (escaped text),
  escaped-one byte,
  escaped-all text,
)

-- a sign of one byte or more, and what is beside it
module _ (left sign right : List Lexeme) (x y : ℕ) (l : x ≤ bytes left) (r : y ≤ bytes right) where
  braced-bytes : 1 + (x + y) ≤ bytes (braced left sign right)
  unfolding bytes
  braced-bytes = omega (
    arith,
    l,
    r,
    bytes-append left (sign ⌢ right ⌢ the "}"),
    bytes-append sign (right ⌢ the "}"),
    bytes-append right (the "}"),
  )

  bracketed-bytes : 1 + (x + y) ≤ bytes (bracketed left sign right)
  unfolding bytes
  bracketed-bytes = omega (
    arith,
    l,
    r,
    bytes-append left (sign ⌢ right ⌢ the ")"),
    bytes-append sign (right ⌢ the ")"),
    bytes-append right (the ")"),
  )

  quantified-bytes : 1 + (x + y) ≤ bytes (quantified sign left right)
  unfolding bytes
  quantified-bytes = omega (
    arith,
    l,
    r,
    bytes-append sign (left ⌢ the "." ⌢ right ⌢ the ")"),
    bytes-append left (the "." ⌢ right ⌢ the ")"),
    bytes-append right (the ")"),
  )

  between-bytes : 1 ≤ bytes sign → 1 + (x + y) ≤ bytes (left ⌢ sign ⌢ right)
  unfolding bytes
  between-bytes some = omega (
    arith,
    l,
    r,
    some,
    bytes-append left (sign ⌢ right),
    bytes-append sign right,
  )

-- a part in brackets of its own
module _ (p end : List Lexeme) (x : ℕ) (l : x ≤ bytes p) where
  before-bytes : x ≤ bytes (p ⌢ end)
  before-bytes = omega (arith, l, bytes-append p end)

-- TERMS
variable-bytes : (x : Var) → weight_of_variable x ≤ bytes (var_lexemes x)
unfolding bytes
variable-bytes (prog name s) = omega arith
variable-bytes (logic name s) = omega arith
variable-bytes (bound i s) = omega arith

text-bytes : (text : List ℕ) → length text ≤ length (quoted text)
text-bytes text = omega (arith, escaped-all text, length-append (escaped text) (quote ∷ []))

term-bytes : (a : Term) → weight_of_term a ≤ bytes (term_lexemes a)
unfolding bytes
term-bytes (literal null) = omega arith
term-bytes (literal nolist) = omega arith
term-bytes (literal (node_number n)) = omega arith
term-bytes (literal (list_number n)) = omega arith
term-bytes (literal (int z)) = omega arith
term-bytes (literal (str text)) = omega (arith, text-bytes text)
term-bytes (literal (boolean b)) = omega arith
term-bytes (variable x) = variable-bytes x
term-bytes (sum a b) =
    braced-bytes (term_lexemes a) (the "+") (term_lexemes b) _ _ (term-bytes a) (term-bytes b)
term-bytes (difference a b) =
    braced-bytes (term_lexemes a) (the "-") (term_lexemes b) _ _ (term-bytes a) (term-bytes b)
term-bytes (appended a b) =
    braced-bytes (term_lexemes a) (the "++") (term_lexemes b) _ _ (term-bytes a) (term-bytes b)

-- FORMULAS
node-bytes : (a b p c : List Lexeme) (i j k m : ℕ) → i ≤ bytes a → j ≤ bytes b → k ≤ bytes p
    → m ≤ bytes c
    → 1 + ((i + j) + (k + m)) ≤ bytes (a ⌢ the "#" ⌢ b ⌢ the "[" ⌢ p ⌢ the "]" ⌢ the "%" ⌢ c)
unfolding bytes
node-bytes a b p c i j k m u v w x = omega (
  arith,
  u,
  v,
  w,
  x,
  bytes-append a (the "#" ⌢ b ⌢ the "[" ⌢ p ⌢ the "]" ⌢ the "%" ⌢ c),
  bytes-append b (the "[" ⌢ p ⌢ the "]" ⌢ the "%" ⌢ c),
  bytes-append p (the "]" ⌢ the "%" ⌢ c),
)

formula-bytes : (p : Named) → weight_of_formula p ≤ bytes (formula_lexemes p)
unfolding bytes
formula-bytes truth = omega arith
formula-bytes falsity = omega arith
formula-bytes (conjunction p q) =
    bracketed-bytes (formula_lexemes p) (the "and") (formula_lexemes q) _ _ (formula-bytes p)
    (formula-bytes q)
formula-bytes (disjunction p q) =
    bracketed-bytes (formula_lexemes p) (the "or") (formula_lexemes q) _ _ (formula-bytes p)
    (formula-bytes q)
formula-bytes (implication p q) =
    bracketed-bytes (formula_lexemes p) (the "->") (formula_lexemes q) _ _ (formula-bytes p)
    (formula-bytes q)
formula-bytes (negation p) =
    omega (arith, before-bytes (formula_lexemes p) (the ")") _ (formula-bytes p))
formula-bytes (existential x p) =
    quantified-bytes (var_lexemes x) (the "exists") (formula_lexemes p) _ _ (variable-bytes x)
    (formula-bytes p)
formula-bytes (universal x p) =
    quantified-bytes (var_lexemes x) (the "forall") (formula_lexemes p) _ _ (variable-bytes x)
    (formula-bytes p)
formula-bytes (equality a b) =
    between-bytes (term_lexemes a) (the "=") (term_lexemes b) _ _ (term-bytes a) (term-bytes b)
    (omega arith)
formula-bytes (at_most a b) =
    between-bytes (term_lexemes a) (the "<=") (term_lexemes b) _ _ (term-bytes a) (term-bytes b)
    (omega arith)
formula-bytes (empty k) = omega arith
formula-bytes (bare_hole tree) = omega arith
formula-bytes (bare_hole forest) = omega arith
formula-bytes (bare_hole grove) = omega arith
formula-bytes (node_formula a b p c) =
    node-bytes (term_lexemes a) (term_lexemes b) (formula_lexemes p) (term_lexemes c) _ _ _ _
    (term-bytes a) (term-bytes b) (formula-bytes p) (term-bytes c)
formula-bytes (one_tree p) =
    omega (arith, before-bytes (formula_lexemes p) (the ">") _ (formula-bytes p))
formula-bytes (one_root p) =
    omega (arith, before-bytes (formula_lexemes p) (the "]") _ (formula-bytes p))
formula-bytes (concatenation side p q) =
    bracketed-bytes (formula_lexemes p) (star_sign side) (formula_lexemes q) _ _ (formula-bytes p)
    (formula-bytes q)
formula-bytes (grove_sum p q) =
    bracketed-bytes (formula_lexemes p) (the "+") (formula_lexemes q) _ _ (formula-bytes p)
    (formula-bytes q)
formula-bytes (grove_sum_hole p q) =
    bracketed-bytes (formula_lexemes p) (the ".+") (formula_lexemes q) _ _ (formula-bytes p)
    (formula-bytes q)
formula-bytes (application h p q) =
    bracketed-bytes (formula_lexemes p) (at_sign h) (formula_lexemes q) _ _ (formula-bytes p)
    (formula-bytes q)
formula-bytes (hole_adjoint p q) =
    bracketed-bytes (formula_lexemes p) (the "-o") (formula_lexemes q) _ _ (formula-bytes p)
    (formula-bytes q)
formula-bytes (context_adjoint k p q) =
    bracketed-bytes (formula_lexemes p) (into_sign k) (formula_lexemes q) _ _ (formula-bytes p)
    (formula-bytes q)
formula-bytes (same_as a) = term-bytes a
formula-bytes (length_is a) = omega (arith, term-bytes a)
formula-bytes (value_meets s a p) =
    bracketed-bytes (term_lexemes a) (the "is") (formula_lexemes p) _ _ (term-bytes a)
    (formula-bytes p)

-- STEPS
judgement-bytes : (j : JudgementOf Named) → weight_of_judgement j ≤ bytes (judgement_lexemes j)
unfolding bytes
judgement-bytes (entails p q s) = omega (
  arith,
  formula-bytes p,
  formula-bytes q,
  bytes-append (formula_lexemes p) (the "entails" ⌢ formula_lexemes q ⌢ the "at" ⌢ sort_lexemes s),
  bytes-append (formula_lexemes q) (the "at" ⌢ sort_lexemes s),
)
judgement-bytes (triple p c q k) =
    let end = formula_lexemes q ⌢ the "at" ⌢ data_sort_lexemes k in
    omega (
      arith,
      formula-bytes p,
      formula-bytes q,
      bytes-append (formula_lexemes p) (the "do" ⌢ command_lexemes c ⌢ the "post" ⌢ end),
      bytes-append (command_lexemes c) (the "post" ⌢ end),
      bytes-append (formula_lexemes q) (the "at" ⌢ data_sort_lexemes k),
    )

step-bytes : (version : ℕ) (step : StepOf Named) → weight_of step ≤ bytes (step_line version step)
unfolding bytes
step-bytes version step =
    let end = judgement_lexemes step.judgement ⌢ the ";" in
    omega (
      arith,
      judgement-bytes step.judgement,
      bytes-append (reason_lexemes version step.reason) (the ":" ⌢ end),
      bytes-append (judgement_lexemes step.judgement) (the ";"),
    )

steps-bytes : (version : ℕ) (steps : List (StepOf Named))
    → sum_by weight_of steps ≤ bytes (offer_lexemes version steps)
unfolding bytes
steps-bytes version [] = omega arith
steps-bytes version (step ∷ steps) = omega (
  arith,
  sum_by-cons weight_of step steps,
  step-bytes version step,
  steps-bytes version steps,
  bytes-append (step_line version step) (offer_lexemes version steps),
)

-- WHAT IS GIVEN
not-too-many : (steps : List (StepOf Named)) → length steps ≤ standard_limits.offer_steps
    → sum_by weight_of steps ≤ standard_limits.offer_bytes → are_too_many steps ≡ false
not-too-many steps few short = grind (arith, nat_tests, few, short)

pub room-for : (version : ℕ) (steps : List (StepOf Named)) → IsSized version steps
    → are_too_many steps ≡ false
room-for version steps sized = not-too-many steps sized.few (omega (
  arith,
  sized.short,
  steps-bytes version steps,
  bytes-text (offer_lexemes version steps),
))

-- where the steps have room, all are given
grown-whole : (xs ys : List (StepOf Named)) → length (xs ++ ys) ≤ standard_limits.offer_steps
    → sum_by weight_of (xs ++ ys) ≤ standard_limits.offer_bytes → grown xs ys ≡ xs ++ ys
grown-whole xs [] few short = sym (append-nil xs)
grown-whole xs (y ∷ ys) few short =
    ap (λ (b : Bool). cond b xs (grown (xs ++ y ∷ []) ys)) (not-too-many xs
    (omega (arith, few, length-append xs (y ∷ ys)))
    (omega (arith, short, sum_by-append weight_of xs (y ∷ ys))))
    ∙ grown-whole (xs ++ y ∷ []) ys (omega (arith, few, ap length (append_assoc xs (y ∷ []) ys)))
    (omega (arith, short, ap (sum_by weight_of) (append_assoc xs (y ∷ []) ys)))
    ∙ append_assoc xs (y ∷ []) ys

pub sized-is-given : (version : ℕ) (steps : List (StepOf Named)) → IsSized version steps
    → grown [] steps ≡ steps
sized-is-given version steps sized = grown-whole [] steps sized.few
    (omega (
      arith,
      sized.short,
      steps-bytes version steps,
      bytes-text (offer_lexemes version steps),
    ))

-- where what is given has room, it is all
grown-all : (xs ys : List (StepOf Named)) → are_too_many (grown xs ys) ≡ false
    → grown xs ys ≡ xs ++ ys
grown-all xs [] room = sym (append-nil xs)
grown-all xs (y ∷ ys) room =
    cases (are_too_many xs) refl (grown-all (xs ++ y ∷ []) ys) room
  where
    cases : (b : Bool) → are_too_many xs ≡ b
        → (are_too_many (grown (xs ++ y ∷ []) ys) ≡ false
        → grown (xs ++ y ∷ []) ys ≡ (xs ++ y ∷ []) ++ ys)
        → are_too_many (cond b xs (grown (xs ++ y ∷ []) ys)) ≡ false
        → cond b xs (grown (xs ++ y ∷ []) ys) ≡ xs ++ y ∷ ys
    cases true full more left = absurd (cc)
    cases false full more left = more left ∙ append_assoc xs (y ∷ []) ys

pub given-sized-is-all : (version : ℕ) (steps : List (StepOf Named))
    → IsSized version (grown [] steps) → grown [] steps ≡ steps
given-sized-is-all version steps sized =
    grown-all [] steps (room-for version (grown [] steps) sized)

-- how many there are at most
within : (steps : List (StepOf Named)) → are_too_many steps ≡ false
    → length steps ≤ standard_limits.offer_steps
within steps room = grind (arith, nat_tests, room)

grown-few : (xs ys : List (StepOf Named)) → length xs ≤ suc standard_limits.offer_steps
    → length (grown xs ys) ≤ suc standard_limits.offer_steps
grown-few xs [] few = few
grown-few xs (y ∷ ys) few = cases (are_too_many xs) refl (grown-few (xs ++ y ∷ []) ys)
  where
    cases : (b : Bool) → are_too_many xs ≡ b
        → (length (xs ++ y ∷ []) ≤ suc standard_limits.offer_steps
        → length (grown (xs ++ y ∷ []) ys) ≤ suc standard_limits.offer_steps)
        → length (cond b xs (grown (xs ++ y ∷ []) ys)) ≤ suc standard_limits.offer_steps
    cases true full more = few
    cases false room more = more (omega (arith, length-append xs (y ∷ []), within xs room))

pub given-few : (steps : List (StepOf Named)) → length (grown [] steps) ≤ 10001
given-few steps = grown-few [] steps (omega arith)

-- it begins them
grown-begins : (xs ys : List (StepOf Named))
    → (rest : List (StepOf Named)) × (grown xs ys ++ rest ≡ xs ++ ys)
grown-begins xs [] = ([], refl)
grown-begins xs (y ∷ ys) = cases (are_too_many xs) (grown-begins (xs ++ y ∷ []) ys)
  where
    cases : (b : Bool)
        → (rest : List (StepOf Named)) × (grown (xs ++ y ∷ []) ys ++ rest ≡ (xs ++ y ∷ []) ++ ys)
        → (rest : List (StepOf Named))
        × (cond b xs (grown (xs ++ y ∷ []) ys) ++ rest ≡ xs ++ y ∷ ys)
    cases true more = (y ∷ ys, refl)
    cases false more = (more.0, more.1 ∙ append_assoc xs (y ∷ []) ys)

pub given-begins : (steps : List (StepOf Named))
    → (rest : List (StepOf Named)) × (grown [] steps ++ rest ≡ steps)
given-begins steps = grown-begins [] steps

-- IN A PROPOSAL that has the sizes are the steps that prove the judgement
pub given-proves : (procedures : Procedures) (version number : ℕ) (j : Judgement) (o : Option Plan)
    → IfSome o (λ plan. Proves procedures number j (steps_of number plan))
    → IfSome (offer_of o number) (λ steps. IsSized version steps → Proves procedures number j steps)
given-proves procedures version number j None proves = tt
given-proves procedures version number j (Some plan) proves = λ sized.
    subst (Proves procedures number j)
    (sym (given-sized-is-all version (steps_of number plan) sized))
    proves

pub offered-where-planned : (o : Option Plan) (number : ℕ) → is_some (offer_of o number) ≡ is_some o
offered-where-planned None number = refl
offered-where-planned (Some plan) number = refl
