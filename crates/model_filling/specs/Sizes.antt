-- How large an offer may be.
use Rattle.std.specs.Prelude.{◌≡◌, ◌≤◌, ℕ, suc, Bool, true, ◌&&◌, nat_le, List, length, map, pos, negsuc, None}
use Rattle.std.specs.List.{list_all}
use Rattle.model_limits.specs.Limits.{standard_limits}
use Rattle.model_shapes.specs.Values.{int}
use Rattle.model_terms.specs.Terms.{Term, literal, sum, difference, appended}
use Rattle.model_formulas.specs.Formulas.{Named}
use Rattle.model_formulas.specs.Substitution.{gathered}
use Rattle.model_commands.specs.CommandParts.{arguments_of, terms_of, commands_in}
use Rattle.model_commands.specs.Theories.{JudgementOf, entails, triple, StepOf}
use Rattle.model_text.specs.Lexemes.{Lexeme}
use Rattle.model_text.specs.Nesting.{token_limit}
use Rattle.model_grammar.specs.Writing.{text_of}
use Rattle.model_grammar.specs.TheoryWriting.{step_line, all_lexemes}

-- each integer of the term is in the range of a literal
abbrev pub integers_fit : Term → Bool
integers_fit (literal (int (pos n))) = nat_le n standard_limits.integer
integers_fit (literal (int (negsuc n))) = nat_le (suc n) standard_limits.integer
integers_fit (sum a b) = integers_fit a && integers_fit b
integers_fit (difference a b) = integers_fit a && integers_fit b
integers_fit (appended a b) = integers_fit a && integers_fit b
integers_fit e = true

-- of the formula
abbrev pub formula_integers_fit : Named → Bool
formula_integers_fit = gathered true ◌&&◌ integers_fit (λ x inside. inside)

-- of the judgement, with all that stands in its command
abbrev pub judgement_integers_fit : JudgementOf Named → Bool
judgement_integers_fit (entails p q s) = formula_integers_fit p && formula_integers_fit q
judgement_integers_fit (triple p c q k) =
    (formula_integers_fit p && formula_integers_fit q)
    && list_all (λ command. list_all integers_fit (terms_of command)) (commands_in c)

-- of the step, with its arguments
abbrev pub step_integers_fit : StepOf Named → Bool
step_integers_fit step =
    judgement_integers_fit step.judgement && list_all integers_fit (arguments_of step.reason)

-- what is written for the steps in a theory of this version
abbrev pub offer_lexemes : ℕ → List (StepOf Named) → List Lexeme
offer_lexemes version steps = all_lexemes (map (step_line version) steps)

-- THE SIZES: one step or more, and not too many; a text, with one byte between each two tokens,
-- that isn't too long, in which no token passes the limits of nesting and of texts; and integers
-- that have literals
pub record IsSized (version : ℕ) (steps : List (StepOf Named)) : Type 0 where
  pub some : 1 ≤ length steps
  pub few : length steps ≤ standard_limits.offer_steps
  pub short : length (text_of (offer_lexemes version steps)) ≤ standard_limits.offer_bytes
  pub shallow : token_limit standard_limits.file_nesting 0 (offer_lexemes version steps) ≡ None
  pub integers : list_all step_integers_fit steps ≡ true
