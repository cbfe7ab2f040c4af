-- What is printed of steps and of procedures is the same in every version.
use Rattle.std.proofs.Common.{◌≡◌, ℕ, Bool, true, false, cond, ◌==◌, List, [], ◌∷◌, ◌++◌, refl, sym, ap, ◌∙◌, map, codes, bytes_eq, append_assoc}
use Rattle.std.specs.Fmt.{decimal}
use Rattle.model_formulas.specs.Formulas.{Named}
use Rattle.model_commands.specs.Theories.{Reason, auto, by_rule, StepOf, ProcedureOf}
use Rattle.model_text.specs.Tokens.{newline}
use Rattle.model_text.specs.Lexemes.{Lexeme, terminal, step_word, name_lexeme, logic_lexeme, number_lexeme, literal_lexeme, bad_lexeme, word_lexeme}
use Rattle.model_text.specs.Versions.{insert_word, reserving, seen_in}
use Rattle.model_grammar.specs.Words.{the, ◌⌢◌}
use Rattle.model_grammar.specs.Writing.{printed, spaced, text_of, in_brackets, command_lexemes}
use Rattle.model_grammar.specs.TheoryWriting.{text_of_lines, number_lexemes, word_lexemes, argument_lexemes, declaration_lexemes, data_sort_lexemes, formula_lexemes, reason_lexemes, judgement_lexemes, step_line, procedure_lines, procedures_lines}
use Rattle.model_grammar.proofs.Spaced.{spaced_append}

-- of one word
spaced_seen : (version : ℕ) (x : Lexeme) → spaced (seen_in version (x ∷ [])) ≡ spaced (x ∷ [])
spaced_seen version x = by_test (version == 2) x
  where
    by_word : (b : Bool) (word : List ℕ)
        → printed (cond b (terminal word) (name_lexeme word)) ≡ word
    by_word true word = refl
    by_word false word = refl

    by_test : (b : Bool) (x : Lexeme)
        → spaced (cond b (map reserving (x ∷ [])) (x ∷ [])) ≡ spaced (x ∷ [])
    by_test false x = refl
    by_test true (name_lexeme word) =
        ap (λ (z : List ℕ). codes " " ++ (z ++ [])) (by_word (bytes_eq word insert_word) word)
    by_test true (terminal text) = refl
    by_test true (step_word line) = refl
    by_test true (logic_lexeme name) = refl
    by_test true (number_lexeme n) = refl
    by_test true (literal_lexeme text) = refl
    by_test true bad_lexeme = refl

-- of a reason
pub reason_same : (version : ℕ) (reason : Reason)
    → spaced (reason_lexemes version reason) ≡ spaced (reason_lexemes 1 reason)
reason_same version auto = refl
reason_same version (by_rule name premises arguments) =
    let rest : List Lexeme =
    in_brackets (map number_lexemes premises) ⌢ argument_lexemes arguments in
    ap (λ (z : List ℕ). codes " " ++ (codes "by" ++ z))
    (spaced_append (word_lexemes version name) rest
    ∙ ap (λ (z : List ℕ). z ++ spaced rest)
    (spaced_seen version (word_lexeme name 0) ∙ sym (spaced_seen 1 (word_lexeme name 0)))
    ∙ sym (spaced_append (word_lexemes 1 name) rest))

-- of a step
pub step_same : (version : ℕ) (step : StepOf Named)
    → text_of (step_line version step) ≡ text_of (step_line 1 step)
step_same version step =
    let rest : List Lexeme = the ":" ⌢ judgement_lexemes step.judgement ⌢ the ";" in
    ap (λ (z : List ℕ). codes "step" ++ (codes " " ++ (decimal step.number ++ z)))
    (spaced_append (reason_lexemes version step.reason) rest
    ∙ ap (λ (z : List ℕ). z ++ spaced rest) (reason_same version step.reason)
    ∙ sym (spaced_append (reason_lexemes 1 step.reason) rest))

steps_same : (version : ℕ) (steps : List (StepOf Named)) (behind : List (List Lexeme))
    → text_of_lines (map (step_line version) steps ++ behind)
    ≡ text_of_lines (map (step_line 1) steps ++ behind)
steps_same version [] behind = refl
steps_same version (step ∷ steps) behind =
    λ j. step_same version step j ++ (newline ∷ steps_same version steps behind j)

-- of a procedure
five_lines : (a b c d e : List Lexeme) (x y : List (List Lexeme))
    → text_of_lines x ≡ text_of_lines y
    → text_of_lines (a ∷ b ∷ c ∷ d ∷ e ∷ x) ≡ text_of_lines (a ∷ b ∷ c ∷ d ∷ e ∷ y)
five_lines a b c d e x y h =
    ap (λ (z : List ℕ). text_of a ++ (newline ∷ (text_of b ++ (newline ∷ (text_of c ++ (newline
    ∷ (text_of d ++ (newline ∷ (text_of e ++ (newline ∷ z)))))))))) h

pub procedure_same : (version : ℕ) (f : ProcedureOf Named)
    → text_of_lines (procedure_lines version f) ≡ text_of_lines (procedure_lines 1 f)
procedure_same version f =
    five_lines
    (the "proc" ⌢ name_lexeme f.name ∷ [] ⌢ in_brackets (map declaration_lexemes f.params)
    ⌢ the "returns" ⌢ in_brackets (map declaration_lexemes f.results) ⌢ the "sort"
    ⌢ data_sort_lexemes f.sort) (the "requires" ⌢ formula_lexemes f.pre)
    (the "ensures" ⌢ formula_lexemes f.post) (the "body" ⌢ command_lexemes f.body) (the "proof")
    (map (step_line version) f.proof ++ the "end" ∷ [])
    (map (step_line 1) f.proof ++ the "end" ∷ [])
    (steps_same version f.proof (the "end" ∷ []))

lines_append : (a b : List (List Lexeme))
    → text_of_lines (a ++ b) ≡ text_of_lines a ++ text_of_lines b
lines_append [] b = refl
lines_append (line ∷ a) b =
    ap (λ (z : List ℕ). text_of line ++ (newline ∷ z)) (lines_append a b)
    ∙ sym (append_assoc (text_of line) (newline ∷ text_of_lines a) (text_of_lines b))

-- of all of them
pub procedures_same : (version : ℕ) (fs : List (ProcedureOf Named))
    → text_of_lines (procedures_lines version fs) ≡ text_of_lines (procedures_lines 1 fs)
procedures_same version [] = refl
procedures_same version (f ∷ fs) =
    lines_append (procedure_lines version f) (procedures_lines version fs)
    ∙ (λ j. procedure_same version f j ++ procedures_same version fs j)
    ∙ sym (lines_append (procedure_lines 1 f) (procedures_lines 1 fs))
