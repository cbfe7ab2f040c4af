-- The printed text of the generated theory passes no limit: besides its bytes, which are few
-- enough, its brackets don't nest deep, and its literals are short.
use Rattle.std.proofs.Common.{◌≡◌, ◌∙◌, ℕ, zero, suc, ◌+◌, ◌≤◌, true, List, [], ◌∷◌, ◌++◌, map, codes, None, refl, sym, ap, subst, arith}
use Rattle.std.specs.Fmt.{decimal}
use Rattle.std.proofs.lemmas.Bool.Decides.{nat_tests}
use Rattle.model_limits.specs.Limits.{standard_limits, file_limit}
use Rattle.model_limits.specs.FirstOf.{or_else, unless}
use Rattle.model_text.specs.Lexemes.{Lexeme, terminal, step_word, name_lexeme, logic_lexeme, number_lexeme, literal_lexeme, bad_lexeme, reserved_words}
use Rattle.model_text.specs.Nesting.{lexemes_of, open_behind, text_within, lexeme_limit, token_limit}
use Rattle.model_grammar.specs.TheoryWriting.{all_lexemes, procedure_lines, procedures_lines, theory_lines, theory_text}
use Rattle.model_grammar.specs.Writable.{Each}
use Rattle.model_printing.specs.Printable.{ArePrintable, without_line}
use Rattle.model_printing.proofs.Lines.{lines_read_back}
use Rattle.model_round_trip.proofs.Printed.{theory_ready, lines_printable}
use Rattle.model_answers.specs.Texts.{limit_passed}
use Rattle.model_generator.specs.Made.{most_makers}
use Rattle.model_generator.specs.Generated.{maker, makers, generated_theory}
use Rattle.generator_laws.proofs.FileNames.{few_digits}
use Rattle.generator_laws.proofs.FileWritable.{theory_writable, theory_literals, file_plain}
use Rattle.generator_laws.proofs.FileText.{few_bytes}

-- THE LINES of steps don't count
same_limit : (most before : ℕ) (lexeme : Lexeme) (rest : List Lexeme)
    → token_limit most before (without_line lexeme ∷ rest) ≡ token_limit most before (lexeme ∷ rest)
same_limit most before (terminal text) rest = refl
same_limit most before (step_word line) rest = refl
same_limit most before (name_lexeme name) rest = refl
same_limit most before (logic_lexeme name) rest = refl
same_limit most before (number_lexeme n) rest = refl
same_limit most before (literal_lexeme text) rest = refl
same_limit most before bad_lexeme rest = refl

limit_same : (most before : ℕ) (lexemes : List Lexeme)
    → token_limit most before (map without_line lexemes) ≡ token_limit most before lexemes
limit_same most before [] = refl
limit_same most before (lexeme ∷ rest) =
    same_limit most before lexeme (map without_line rest)
    ∙ ap (or_else (lexeme_limit most before lexeme))
    (limit_same most (open_behind before lexeme) rest)

-- A PROCEDURE closes the brackets that it opens, and nests few
module _ (k : ℕ) (small : k ≤ most_makers) where
  short_text : text_within (literal_lexeme (codes "t" ++ decimal k)) ≡ true
  short_text = let few = few_digits k small in grind (arith, nat_tests)

  maker_limit : (rest : List (List Lexeme))
      → token_limit standard_limits.file_nesting 0
      (all_lexemes (procedure_lines 1 (maker k) ++ rest))
      ≡ token_limit standard_limits.file_nesting 0 (all_lexemes rest)
  unfolding reserved_words
  maker_limit rest = rw short_text refl

makers_limit : (first n : ℕ) → first + n ≤ suc most_makers
    → token_limit standard_limits.file_nesting 0 (all_lexemes (procedures_lines 1 (makers first n)))
    ≡ None
makers_limit first zero small = refl
makers_limit first (suc n) small =
    maker_limit first (omega arith) (procedures_lines 1 (makers (first + 1) n))
    ∙ makers_limit (first + 1) n (omega arith)

-- THE TEXT of the theory
tokens_within : (n : ℕ) → 1 ≤ n → n ≤ most_makers → token_limit standard_limits.file_nesting 0
    (lexemes_of (theory_text (generated_theory n))) ≡ None
tokens_within n some small =
    let lines : List (List Lexeme) = theory_lines (generated_theory n) in
    let read : map without_line (lexemes_of (theory_text (generated_theory n)))
    ≡ map without_line (all_lexemes lines) =
    lines_read_back lines (subst (Each ArePrintable) (file_plain n)
    (lines_printable lines (theory_ready (generated_theory n) (theory_writable n some small))
    (theory_literals n small))) in
    sym (limit_same standard_limits.file_nesting 0
    (lexemes_of (theory_text (generated_theory n))))
    ∙ ap (token_limit standard_limits.file_nesting 0) read
    ∙ limit_same standard_limits.file_nesting 0 (all_lexemes lines)
    ∙ makers_limit 1 n (omega arith)

pub text_within_limits : (n : ℕ) → 1 ≤ n → n ≤ most_makers
    → limit_passed standard_limits.file_nesting (theory_text (generated_theory n)) ≡ None
text_within_limits n some small =
    λ i. or_else (unless (few_bytes n small i) file_limit) (tokens_within n some small i)
