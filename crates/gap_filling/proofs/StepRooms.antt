-- The room for steps.
use Rattle.std.proofs.Common.{◌≡◌, ◌∙◌, ℕ, suc, ◌+◌, ◌<◌, Bool, true, nat_le, List, [], ◌∷◌, length, get_or, drop, map, refl, sym, ap, arith, Fits, w32}
use Rattle.std.specs.List.{list_all}
use Rattle.model_terms.specs.Terms as terms
use Rattle.model_commands.specs.Theories as theories
use Rattle.model_text.specs.Lexemes.{Lexeme, step_word, number_lexeme}
use Rattle.model_grammar.specs.Words.{the, ◌⌢◌}
use Rattle.model_grammar.specs.Writing.{in_brackets, term_lexemes}
use Rattle.model_grammar.specs.TheoryWriting.{number_lexemes, argument_lexemes, reason_lexemes, word_lexemes, judgement_lexemes, step_line}
use Rattle.model_filling.specs.Sizes.{offer_lexemes}
use Rattle.dom_terms.specs.declared.terms.Term.{Term}
use Rattle.dom_terms.specs.Terms.{term_of}
use Rattle.theory_syntax.specs.declared.steps.Step.{Step}
use Rattle.theory_syntax.specs.Judgements.{step_of, reason_of, judgement_of}
use Rattle.theory_writing.proofs.MarkLemmas.{fused}
use Rattle.gap_filling.specs.declared.meters.Meter.{Meter}
use Rattle.gap_filling.specs.Measured.{measured}
use Rattle.gap_filling.specs.Numbers.{citations_fit, numbers_fit}
use Rattle.gap_filling.proofs.Marks.{drop_at}
use Rattle.gap_filling.proofs.Measures.{measured-append, measured_rules}

-- numbers of 32 bits are in the range of literals
pub words_fit : (numbers : List ℕ) → ((i : ℕ) → Fits w32 (get_or numbers i 0))
    → citations_fit numbers ≡ true
words_fit [] fit = refl
words_fit (n ∷ numbers) fit =
    let here : n < 4294967296 = omega (arith, fit 0) in
    let fits : nat_le n 9223372036854775807 ≡ true = grind (arith, here) in
    rw (fits, words_fit numbers (λ i. fit (suc i))) refl

pub arguments_room : (arguments : List Term) → (arguments ≡ [] → ⊥) → (meter : Meter)
    → measured (measured meter (the "with"))
    (in_brackets (map (λ a. term_lexemes (term_of a)) arguments))
    ≡ measured meter (argument_lexemes (map term_of arguments))
arguments_room [] some meter = absurd (some refl)
arguments_room (a ∷ rest) some meter = rw (fused term_lexemes term_of rest) refl

pub reason_room : (version : ℕ) (name : List ℕ) (premises : List ℕ)
    (arguments : List terms.Term) (meter : Meter)
    → measured (measured (measured (measured meter (the "by")) (word_lexemes version name))
    (in_brackets (map number_lexemes premises))) (argument_lexemes arguments)
    ≡ measured meter (reason_lexemes version (theories.by_rule name premises arguments))
reason_room version name premises arguments meter =
    regroup (word_lexemes version name) (in_brackets (map number_lexemes premises))
    (argument_lexemes arguments)
  where
    regroup : (a b c : List Lexeme)
        → measured (measured (measured (measured meter (the "by")) a) b) c
        ≡ measured meter (the "by" ⌢ a ⌢ b ⌢ c)
    regroup a b c = simp measured_rules refl

pub step_room : (version : ℕ) (step : Step) (meter : Meter)
    → measured (measured (measured (measured
    (measured (measured meter (step_word step.line ∷ [])) (number_lexeme step.number ∷ []))
    (reason_lexemes version (reason_of step.reason))) (the ":"))
    (judgement_lexemes (judgement_of step.judgement))) (the ";")
    ≡ measured meter (step_line version (step_of step))
step_room version step meter =
    regroup (reason_lexemes version (reason_of step.reason))
    (judgement_lexemes (judgement_of step.judgement))
  where
    regroup : (a b : List Lexeme)
        → measured (measured (measured (measured
        (measured (measured meter (step_word step.line ∷ [])) (number_lexeme step.number ∷ []))
        a) (the ":")) b) (the ";")
        ≡ measured meter (step_word step.line ∷ [] ⌢ number_lexemes step.number ⌢ a
        ⌢ the ":" ⌢ b ⌢ the ";")
    regroup a b = simp measured_rules refl

-- a turn of the loop over steps
pub steps_go_on : (version : ℕ) (steps : List Step) (i : ℕ) (step : Step) (meter whole : Meter)
    → i < length steps → step ≡ get_or steps i step
    → measured meter (offer_lexemes version (map step_of (drop i steps))) ≡ whole
    → measured (measured meter (step_line version (step_of step)))
    (offer_lexemes version (map step_of (drop (i + 1) steps))) ≡ whole
steps_go_on version steps i step meter whole lt is so_far =
    sym (measured-append meter (step_line version (step_of step))
    (offer_lexemes version (map step_of (drop (i + 1) steps))))
    ∙ (sym (ap (λ (z : List Step). measured meter (offer_lexemes version (map step_of z)))
    (drop_at steps i step step lt is)) ∙ so_far)

-- and whether their numbers are in the range
pub numbers_go_on : (steps : List Step) (i : ℕ) (step : Step) (whole : Bool)
    → i < length steps → step ≡ get_or steps i step → numbers_fit (step_of step) ≡ true
    → whole ≡ list_all numbers_fit (map step_of (drop i steps))
    → whole ≡ list_all numbers_fit (map step_of (drop (i + 1) steps))
numbers_go_on steps i step whole lt is fits so_far =
    so_far
    ∙ (ap (λ (z : List Step). list_all numbers_fit (map step_of z))
    (drop_at steps i step step lt is) ∙ rw fits refl)
