-- A formula has no more parts than tokens are written for it, and one more; so those of a text that
-- isn't too long are small.
use Rattle.std.proofs.Common.{◌≡◌, ℕ, ◌+◌, ◌≤◌, List, [], ◌∷◌, ◌++◌, codes, length, length-append, refl, arith}
use Rattle.model_shapes.specs.Sorts.{DataSort, tree, forest, grove}
use Rattle.model_formulas.specs.Formulas.{Named, Side, whole, hole_left, hole_right, truth, falsity, conjunction, disjunction, implication, negation, existential, universal, equality, at_most, empty, bare_hole, node_formula, one_tree, one_root, concatenation, grove_sum, grove_sum_hole, application, hole_adjoint, context_adjoint, same_as, length_is, value_meets}
use Rattle.model_formulas.specs.Parts.{parts}
use Rattle.model_commands.specs.Theories.{JudgementOf, entails, triple, StepOf}
use Rattle.model_files.specs.Sizes.{JudgementIsSmall, StepsAreSmall}
use Rattle.model_text.specs.Lexemes.{Lexeme, terminal}
use Rattle.model_grammar.specs.Words.{the, ◌⌢◌}
use Rattle.model_grammar.specs.Writing.{printed, spaced, term_lexemes, var_lexemes, command_lexemes, bracketed}
use Rattle.model_grammar.specs.TheoryWriting.{formula_lexemes, star_sign, at_sign, into_sign, judgement_lexemes, reason_lexemes, step_line, sort_lexemes, data_sort_lexemes}
use Rattle.model_filling.specs.Sizes.{offer_lexemes}

abbrev size : List Lexeme → ℕ
size = length

-- lexemes around one part and around two
one : (a : List Lexeme) (rest : List Lexeme) → size a ≤ size (a ++ rest)
one a rest = omega (arith, length-append a rest)

last-one : (a : List Lexeme) (v : List ℕ) → size a + 1 ≤ size (a ++ terminal v ∷ [])
last-one a v = omega (arith, length-append a (terminal v ∷ []))

two : (a s b : List Lexeme) → size s ≡ 1
    → size a + size b + 3 ≤ size (bracketed a s b)
two a s b e =
    omega (
      arith,
      e,
      length-append a (s ++ (b ++ terminal (codes ")") ∷ [])),
      length-append s (b ++ terminal (codes ")") ∷ []),
      length-append b (terminal (codes ")") ∷ []),
    )

later : (a b : List Lexeme) → size b ≤ size (a ++ b)
later a b = omega (arith, length-append a b)

sign-star : (side : Side) → size (star_sign side) ≡ 1
sign-star whole = refl
sign-star hole_left = refl
sign-star hole_right = refl

sign-at : (k : DataSort) → size (at_sign k) ≡ 1
sign-at tree = refl
sign-at forest = refl
sign-at grove = refl

sign-into : (k : DataSort) → size (into_sign k) ≡ 1
sign-into tree = refl
sign-into forest = refl
sign-into grove = refl

-- two formulas with a sign between them
joined : (p q : Named) (s : List Lexeme) → size s ≡ 1
    → parts p ≤ size (formula_lexemes p) + 1 → parts q ≤ size (formula_lexemes q) + 1
    → 1 + (parts p + parts q) ≤ size (bracketed (formula_lexemes p) s (formula_lexemes q)) + 1
joined p q s e h k = omega (arith, h, k, two (formula_lexemes p) s (formula_lexemes q) e)

pub written-parts : (p : Named) → parts p ≤ size (formula_lexemes p) + 1
written-parts truth = omega arith
written-parts falsity = omega arith
written-parts (conjunction p q) =
    joined p q (the "and") refl (written-parts p) (written-parts q)
written-parts (disjunction p q) =
    joined p q (the "or") refl (written-parts p) (written-parts q)
written-parts (implication p q) =
    joined p q (the "->") refl (written-parts p) (written-parts q)
written-parts (negation p) =
    omega (arith, written-parts p, last-one (formula_lexemes p) (codes ")"))
written-parts (existential x p) =
    omega (
      arith,
      written-parts p,
      last-one (formula_lexemes p) (codes ")"),
      later (var_lexemes x) (the "." ⌢ formula_lexemes p ⌢ the ")"),
    )
written-parts (universal x p) =
    omega (
      arith,
      written-parts p,
      last-one (formula_lexemes p) (codes ")"),
      later (var_lexemes x) (the "." ⌢ formula_lexemes p ⌢ the ")"),
    )
written-parts (equality a b) = omega arith
written-parts (at_most a b) = omega arith
written-parts (empty k) = omega arith
written-parts (bare_hole k) = omega arith
written-parts (node_formula a b p c) =
    omega (
      arith,
      written-parts p,
      one (formula_lexemes p) (the "]" ⌢ the "%" ⌢ term_lexemes c),
      later (term_lexemes b) (the "[" ⌢ formula_lexemes p ⌢ the "]" ⌢ the "%" ⌢ term_lexemes c),
      later (term_lexemes a) (the "#" ⌢ term_lexemes b ⌢ the "[" ⌢ formula_lexemes p ⌢ the "]"
          ⌢ the "%" ⌢ term_lexemes c),
    )
written-parts (one_tree p) =
    omega (arith, written-parts p, last-one (formula_lexemes p) (codes ">"))
written-parts (one_root p) =
    omega (arith, written-parts p, last-one (formula_lexemes p) (codes "]"))
written-parts (concatenation side p q) =
    joined p q (star_sign side) (sign-star side) (written-parts p) (written-parts q)
written-parts (grove_sum p q) = joined p q (the "+") refl (written-parts p) (written-parts q)
written-parts (grove_sum_hole p q) =
    joined p q (the ".+") refl (written-parts p) (written-parts q)
written-parts (application k p q) =
    joined p q (at_sign k) (sign-at k) (written-parts p) (written-parts q)
written-parts (hole_adjoint p q) = joined p q (the "-o") refl (written-parts p) (written-parts q)
written-parts (context_adjoint k p q) =
    joined p q (into_sign k) (sign-into k) (written-parts p) (written-parts q)
written-parts (same_as a) = omega arith
written-parts (length_is a) = omega arith
written-parts (value_meets s a p) =
    omega (arith, written-parts p, two (term_lexemes a) (the "is") (formula_lexemes p) refl)

-- the formulas of a judgement of which few lexemes are written
small-judgement : (j : JudgementOf Named) → size (judgement_lexemes j) ≤ 4294967290
    → JudgementIsSmall j
small-judgement (entails p q s) h = (
  omega (
    arith,
    h,
    written-parts p,
    one (formula_lexemes p) (the "entails" ⌢ formula_lexemes q ⌢ the "at" ⌢ sort_lexemes s),
  ),
  omega (
    arith,
    h,
    written-parts q,
    one (formula_lexemes q) (the "at" ⌢ sort_lexemes s),
    later (formula_lexemes p) (the "entails" ⌢ formula_lexemes q ⌢ the "at" ⌢ sort_lexemes s),
  ),
)
small-judgement (triple p c q k) h = (
  omega (
    arith,
    h,
    written-parts p,
    one (formula_lexemes p) (the "do" ⌢ command_lexemes c
        ⌢ the "post" ⌢ formula_lexemes q ⌢ the "at" ⌢ data_sort_lexemes k),
  ),
  omega (
    arith,
    h,
    written-parts q,
    one (formula_lexemes q) (the "at" ⌢ data_sort_lexemes k),
    later (command_lexemes c) (the "post" ⌢ formula_lexemes q ⌢ the "at" ⌢ data_sort_lexemes k),
    later (formula_lexemes p) (the "do" ⌢ command_lexemes c ⌢ the "post" ⌢ formula_lexemes q
        ⌢ the "at" ⌢ data_sort_lexemes k),
  ),
)

small-step : (version : ℕ) (step : StepOf Named) → size (step_line version step) ≤ 4294967290
    → JudgementIsSmall step.judgement
small-step version step h =
    small-judgement step.judgement (omega (
      arith,
      h,
      one (judgement_lexemes step.judgement) (the ";"),
      later (reason_lexemes version step.reason) (the ":" ⌢ judgement_lexemes step.judgement
          ⌢ the ";"),
    ))

small-steps : (version : ℕ) (steps : List (StepOf Named))
    → size (offer_lexemes version steps) ≤ 4294967290 → StepsAreSmall steps
small-steps version [] h = tt
small-steps version (step ∷ steps) h = (
  small-step version step (omega (
    arith,
    h,
    one (step_line version step) (offer_lexemes version steps),
  )),
  small-steps version steps (omega (
    arith,
    h,
    later (step_line version step) (offer_lexemes version steps),
  )),
)

-- no fewer bytes are written for them
fewer : (ls : List Lexeme) → size ls ≤ length (spaced ls)
fewer [] = omega arith
fewer (l ∷ ls) = omega (arith, fewer ls, length-append (printed l) (spaced ls))

pub small-offer : (version : ℕ) (steps : List (StepOf Named))
    → length (spaced (offer_lexemes version steps)) ≤ 1048577 → StepsAreSmall steps
small-offer version steps h =
    small-steps version steps (omega (arith, h, fewer (offer_lexemes version steps)))
