-- The text of a theory has nothing of the lines of its steps.
use Rattle.std.proofs.Common.{List, [], ◌∷◌, ◌++◌, ◌≡◌, ℕ, refl, sym, ap, ◌∙◌, map}
use Rattle.std.proofs.lemmas.List.{map-append}
use Rattle.model_formulas.specs.Formulas.{Named}
use Rattle.model_commands.specs.Theories.{StepOf, ProcedureOf, Theory}
use Rattle.model_text.specs.Lexemes.{Lexeme}
use Rattle.model_text.specs.Tokens.{newline}
use Rattle.model_grammar.specs.Words.{the, ◌⌢◌}
use Rattle.model_grammar.specs.Writing.{text_of}
use Rattle.model_grammar.specs.TheoryWriting.{text_of_lines, number_lexemes, logic_line, step_line, procedure_lines, procedures_lines, theory_lines, theory_text}
use Rattle.model_round_trip.specs.ReadBack.{step_without_line, procedure_without_lines, without_lines}
use Rattle.model_round_trip.proofs.Parts.{header_lines}

-- each with a newline behind it
ended : List (List ℕ) → List ℕ
ended [] = []
ended (text ∷ texts) = text ++ (newline ∷ ended texts)

by_texts : (lines : List (List Lexeme)) → text_of_lines lines ≡ ended (map text_of lines)
unfolding ended
by_texts [] = refl
by_texts (line ∷ lines) = λ j. text_of line ++ (newline ∷ by_texts lines j)

-- the texts of the lines of two lists
abbrev texts : List (List Lexeme) → List (List ℕ)
texts = map text_of

same_steps : (v : ℕ) (steps : List (StepOf Named))
    → texts (map (step_line v) (map step_without_line steps)) ≡ texts (map (step_line v) steps)
same_steps v [] = refl
same_steps v (step ∷ steps) = λ j. text_of (step_line v step) ∷ same_steps v steps j

same_procedure : (v : ℕ) (f : ProcedureOf Named)
    → texts (procedure_lines v (procedure_without_lines f)) ≡ texts (procedure_lines v f)
same_procedure v f =
    λ j. texts (header_lines f)
    ++ (map-append text_of (map (step_line v) (map step_without_line f.proof)) (the "end" ∷ [])
    ∙ ((λ i. same_steps v f.proof i ++ texts (the "end" ∷ []))
    ∙ sym (map-append text_of (map (step_line v) f.proof) (the "end" ∷ [])))) j

same_procedures : (v : ℕ) (fs : List (ProcedureOf Named))
    → texts (procedures_lines v (map procedure_without_lines fs)) ≡ texts (procedures_lines v fs)
same_procedures v [] = refl
same_procedures v (f ∷ fs) =
    map-append text_of (procedure_lines v (procedure_without_lines f))
    (procedures_lines v (map procedure_without_lines fs))
    ∙ ((λ j. same_procedure v f j ++ same_procedures v fs j)
    ∙ sym (map-append text_of (procedure_lines v f) (procedures_lines v fs)))

lines_unseen : (t : Theory) → theory_text (without_lines t) ≡ theory_text t
lines_unseen t =
    let logics : List (List Lexeme) = map logic_line t.logic in
    by_texts (theory_lines (without_lines t))
    ∙ (ap ended (λ j. text_of (the "domlogic" ⌢ number_lexemes t.version)
    ∷ (map-append text_of logics
    (procedures_lines t.version (map procedure_without_lines t.procedures))
    ∙ ((λ i. texts logics ++ same_procedures t.version t.procedures i)
    ∙ sym (map-append text_of logics (procedures_lines t.version t.procedures)))) j)
    ∙ sym (by_texts (theory_lines t)))

pub same_text : (t u : Theory) → without_lines t ≡ without_lines u → theory_text t ≡ theory_text u
same_text t u e = sym (lines_unseen t) ∙ (ap theory_text e ∙ lines_unseen u)
