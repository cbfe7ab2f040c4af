-- Parts of lists and of what is written of a theory.
use Rattle.std.proofs.Common.{ℕ, List, [], ◌∷◌, ◌++◌, ◌≡◌, refl, sym, ap, ◌∙◌, map, append_assoc}
use Rattle.model_formulas.specs.Formulas.{Named}
use Rattle.model_commands.specs.Theories.{ProcedureOf}
use Rattle.model_text.specs.Lexemes.{Lexeme, name_lexeme}
use Rattle.model_grammar.specs.Words.{the, ◌⌢◌}
use Rattle.model_grammar.specs.Writing.{in_brackets, command_lexemes}
use Rattle.model_grammar.specs.TheoryWriting.{data_sort_lexemes, declaration_lexemes, formula_lexemes, step_line, procedure_lines, all_lexemes}
use Rattle.model_grammar.specs.Writable.{Each}

-- what holds of each part of two lists
pub each_append : {A : Type 0} (Can : A → Type 0) (xs ys : List A) → Each Can xs → Each Can ys
    → Each Can (xs ++ ys)
each_append Can [] ys h k = k
each_append Can (x ∷ xs) ys h k = (h.0, each_append Can xs ys h.1 k)

-- and of two lists together
pub each_split : {A : Type 0} (Can : A → Type 0) (xs ys : List A) → Each Can (xs ++ ys)
    → Each Can xs × Each Can ys
each_split Can [] ys h = (tt, h)
each_split Can (x ∷ xs) ys h =
    let more = each_split Can xs ys h.1 in ((h.0, more.0), more.1)

-- the lexemes of the lines of two lists
pub all_append : (lines others : List (List Lexeme))
    → all_lexemes (lines ++ others) ≡ all_lexemes lines ⌢ all_lexemes others
all_append [] others = refl
all_append (line ∷ lines) others =
    ap (λ (z : List Lexeme). line ⌢ z) (all_append lines others)
    ∙ sym (append_assoc line (all_lexemes lines) (all_lexemes others))

-- the lines of a procedure before its steps
abbrev pub header_lines : ProcedureOf Named → List (List Lexeme)
header_lines f =
    (the "proc" ⌢ name_lexeme f.name ∷ [] ⌢ in_brackets (map declaration_lexemes f.params)
    ⌢ the "returns" ⌢ in_brackets (map declaration_lexemes f.results) ⌢ the "sort"
    ⌢ data_sort_lexemes f.sort)
    ∷ (the "requires" ⌢ formula_lexemes f.pre) ∷ (the "ensures" ⌢ formula_lexemes f.post)
    ∷ (the "body" ⌢ command_lexemes f.body) ∷ the "proof" ∷ []

-- the lexemes of a procedure: of these lines, of its steps, and the last word
pub in_a_row : (v : ℕ) (f : ProcedureOf Named) → all_lexemes (procedure_lines v f)
    ≡ all_lexemes (header_lines f) ⌢ all_lexemes (map (step_line v) f.proof) ⌢ the "end"
in_a_row v f =
    all_append (header_lines f) (map (step_line v) f.proof ++ the "end" ∷ [])
    ∙ (λ j. all_lexemes (header_lines f)
    ⌢ all_append (map (step_line v) f.proof) (the "end" ∷ []) j)
