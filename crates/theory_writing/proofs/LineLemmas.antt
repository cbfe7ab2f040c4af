-- Lines and words of theories.
use Rattle.std.proofs.Common.{◌≡◌, ℕ, ◌+◌, ◌<◌, Bool, true, false, List, [], ◌∷◌, ◌++◌, length, get_or, drop, map, codes, refl, sym, ap, ◌∙◌, append_assoc}
use Rattle.std.specs.Prelude.{bytes_eq, if◌then◌else◌}
use Rattle.model_terms.specs.Terms as terms
use Rattle.model_commands.specs.Theories as theories
use Rattle.model_text.specs.Tokens.{newline}
use Rattle.model_text.specs.Lexemes.{Lexeme, terminal, step_word, name_lexeme, word_lexeme, is_reserved}
use Rattle.model_grammar.specs.Words.{the, ◌⌢◌}
use Rattle.model_grammar.specs.Writing.{printed, spaced, text_of, in_brackets, term_lexemes}
use Rattle.model_grammar.specs.TheoryWriting.{text_of_lines, number_lexemes, argument_lexemes, reason_lexemes, procedure_lines, procedures_lines, step_line, logic_line, theory_text}
use Rattle.model_grammar.proofs.Spaced.{spaced_rules}
use Rattle.model_grammar.proofs.VersionTexts.{procedures_same}
use Rattle.logic_text.proofs.ListLemmas.{drop_item}
use Rattle.dom_terms.specs.declared.terms.LogicVar.{LogicVar}
use Rattle.dom_terms.specs.declared.terms.Term.{Term}
use Rattle.dom_terms.specs.Terms.{term_of, logic_var_of}
use Rattle.model_shapes.proofs.Tests.{bytes-is}
use Rattle.theory_syntax.specs.declared.steps.Step.{Step}
use Rattle.theory_syntax.specs.declared.theories.Procedure.{Procedure}
use Rattle.theory_syntax.specs.declared.theories.Theory.{Theory}
use Rattle.theory_syntax.specs.Judgements.{step_of}
use Rattle.theory_syntax.specs.Theories.{procedure_of, theory_of}
use Rattle.theory_writing.specs.Marked.{joined_texts, line_text}
use Rattle.theory_writing.proofs.MarkLemmas.{fused}

-- a turn of a loop
pub goes_on : {T : Type 0} (f : T → List ℕ) (items : List T) (i : ℕ) (item : T)
    (text whole : List ℕ) → i < length items → item ≡ get_or items i item
    → text ++ joined_texts (map f (drop i items)) ≡ whole
    → (text ++ f item) ++ joined_texts (map f (drop (i + 1) items)) ≡ whole
goes_on {T} f items i item text whole lt is so_far =
    append_assoc text (f item) _
    ∙ ap (λ (z : List ℕ). text ++ z)
    (sym (ap (λ (z : List T). joined_texts (map f z)) (drop_item items i item lt is)))
    ∙ so_far

-- ---- reasons

-- any word is printed as it is
word_printed : (word : List ℕ) → printed (word_lexeme word 0) ≡ word
word_printed word = by_test (bytes_eq word (codes "step")) refl (is_reserved word)
  where
    by_test : (b : Bool) → bytes_eq word (codes "step") ≡ b → (r : Bool)
        → printed (if b then step_word 0 else (if r then terminal word else name_lexeme word))
        ≡ word
    by_test true e r = sym (bytes-is word (codes "step") e)
    by_test false e true = refl
    by_test false e false = refl

pub arguments_text : (arguments : List Term) → (arguments ≡ [] → ⊥) → (text : List ℕ)
    → (text ++ spaced (the "with"))
    ++ spaced (in_brackets (map (λ a. term_lexemes (term_of a)) arguments))
    ≡ text ++ spaced (argument_lexemes (map term_of arguments))
arguments_text [] some text = absurd (some refl)
arguments_text (a ∷ rest) some text =
    rw (fused term_lexemes term_of rest)
    (regroup (in_brackets (map term_lexemes (map term_of (a ∷ rest)))))
  where
    regroup : (parts : List Lexeme)
        → (text ++ spaced (the "with")) ++ spaced parts ≡ text ++ spaced (the "with" ⌢ parts)
    regroup parts = simp spaced_rules refl

pub reason_text : (name : List ℕ) (premises : List ℕ) (arguments : List terms.Term)
    (text : List ℕ)
    → (((text ++ spaced (the "by")) ++ spaced (terminal name ∷ []))
    ++ spaced (in_brackets (map number_lexemes premises))) ++ spaced (argument_lexemes arguments)
    ≡ text ++ spaced (reason_lexemes 1 (theories.by_rule name premises arguments))
reason_text name premises arguments text =
    regroup (in_brackets (map number_lexemes premises)) (argument_lexemes arguments)
    ∙ ap (λ (w : List ℕ). text ++ (spaced (the "by") ++ (codes " " ++ (w
    ++ spaced (in_brackets (map number_lexemes premises) ⌢ argument_lexemes arguments)))))
    (sym (word_printed name))
  where
    regroup : (a b : List Lexeme)
        → (((text ++ spaced (the "by")) ++ spaced (terminal name ∷ [])) ++ spaced a) ++ spaced b
        ≡ text ++ (spaced (the "by") ++ (codes " " ++ (name ++ spaced (a ⌢ b))))
    regroup a b = simp spaced_rules refl

-- ---- lines

-- a line before others
line_first : (line : List Lexeme) (rest : List (List Lexeme))
    → text_of_lines (line ∷ rest) ≡ line_text line ++ text_of_lines rest
line_first line rest = sym (append_assoc (text_of line) (newline ∷ []) (text_of_lines rest))

lines_append : (a b : List (List Lexeme))
    → text_of_lines (a ++ b) ≡ text_of_lines a ++ text_of_lines b
lines_append [] b = refl
lines_append (line ∷ a) b =
    ap (λ (z : List ℕ). text_of line ++ (newline ∷ z)) (lines_append a b)
    ∙ sym (append_assoc (text_of line) (newline ∷ text_of_lines a) (text_of_lines b))

-- a line for each item
each_line : {A T : Type 0} (line : A → List Lexeme) (made : T → A) (items : List T)
    → text_of_lines (map line (map made items))
    ≡ joined_texts (map (λ x. line_text (line (made x))) items)
each_line line made [] = refl
each_line line made (x ∷ items) =
    line_first (line (made x)) (map line (map made items))
    ∙ ap (λ (z : List ℕ). line_text (line (made x)) ++ z) (each_line line made items)

procedures_text : (procedures : List Procedure)
    → text_of_lines (procedures_lines 1 (map procedure_of procedures))
    ≡ joined_texts (map (λ f. text_of_lines (procedure_lines 1 (procedure_of f))) procedures)
procedures_text [] = refl
procedures_text (f ∷ procedures) =
    lines_append (procedure_lines 1 (procedure_of f))
    (procedures_lines 1 (map procedure_of procedures))
    ∙ ap (λ (z : List ℕ). text_of_lines (procedure_lines 1 (procedure_of f)) ++ z)
    (procedures_text procedures)

-- the lines of declared variables, and that of a formula
pub precondition_text : (variables : List LogicVar) (formula : List Lexeme)
    → (joined_texts (map (λ x. line_text (logic_line (logic_var_of x))) variables)
    ++ text_of formula) ++ newline ∷ []
    ≡ text_of_lines (map logic_line (map logic_var_of variables) ++ formula ∷ [])
precondition_text variables formula =
    append_assoc (joined_texts (map (λ x. line_text (logic_line (logic_var_of x))) variables))
    (text_of formula) (newline ∷ [])
    ∙ ap (λ (z : List ℕ). z ++ text_of_lines (formula ∷ []))
    (sym (each_line logic_line logic_var_of variables))
    ∙ sym (lines_append (map logic_line (map logic_var_of variables)) (formula ∷ []))

-- the parts of the first line
pub header_text : (name : List ℕ) (params results sort : List Lexeme) (text : List ℕ)
    → (((((((text ++ codes "proc") ++ spaced (name_lexeme name ∷ [])) ++ spaced params)
    ++ spaced (the "returns")) ++ spaced results) ++ spaced (the "sort")) ++ spaced sort)
    ++ codes "\n"
    ≡ text ++ line_text (the "proc" ⌢ name_lexeme name ∷ [] ⌢ params ⌢ the "returns" ⌢ results
    ⌢ the "sort" ⌢ sort)
header_text name params results sort text = simp spaced_rules refl

-- five lines, those of the steps and the last
pub procedure_text : (a b c d : List Lexeme) (steps : List Step) (text : List ℕ)
    → ((((((text ++ line_text a) ++ line_text b) ++ line_text c) ++ line_text d)
    ++ codes "proof\n") ++ joined_texts (map (λ s. line_text (step_line 1 (step_of s))) steps))
    ++ codes "end\n"
    ≡ text ++ text_of_lines (a ∷ b ∷ c ∷ d ∷ the "proof"
    ∷ (map (step_line 1) (map step_of steps) ++ the "end" ∷ []))
procedure_text a b c d steps text =
    rw (
      lines_append (map (step_line 1) (map step_of steps)) (the "end" ∷ []),
      each_line (step_line 1) step_of steps,
    ) (regroup (text_of a) (text_of b) (text_of c) (text_of d)
    (joined_texts (map (λ s. line_text (step_line 1 (step_of s))) steps)))
  where
    regroup : (a b c d e : List ℕ)
        → ((((((text ++ (a ++ newline ∷ [])) ++ (b ++ newline ∷ [])) ++ (c ++ newline ∷ []))
        ++ (d ++ newline ∷ [])) ++ codes "proof\n") ++ e) ++ codes "end\n"
        ≡ text ++ (a ++ (newline ∷ (b ++ (newline ∷ (c ++ (newline ∷ (d ++ (newline
        ∷ (codes "proof\n" ++ (e ++ codes "end\n"))))))))))
    regroup a b c d e = simp append_assoc refl

pub whole_text : (theory : Theory)
    → ((line_text (the "domlogic" ⌢ number_lexemes theory.version))
    ++ joined_texts (map (λ x. line_text (logic_line (logic_var_of x))) theory.logic))
    ++ joined_texts
    (map (λ f. text_of_lines (procedure_lines 1 (procedure_of f))) theory.procedures)
    ≡ theory_text (theory_of theory)
whole_text theory =
    append_assoc (line_text (the "domlogic" ⌢ number_lexemes theory.version)) _ _
    ∙ ap (λ (z : List ℕ). line_text (the "domlogic" ⌢ number_lexemes theory.version) ++ z)
    (ap (λ (z : List ℕ). z ++ joined_texts
    (map (λ f. text_of_lines (procedure_lines 1 (procedure_of f))) theory.procedures))
    (sym (each_line logic_line logic_var_of theory.logic))
    ∙ ap (λ (z : List ℕ). text_of_lines (map logic_line (map logic_var_of theory.logic)) ++ z)
    (sym (procedures_text theory.procedures))
    ∙ sym (lines_append (map logic_line (map logic_var_of theory.logic))
    (procedures_lines 1 (map procedure_of theory.procedures))))
    ∙ sym (line_first (the "domlogic" ⌢ number_lexemes theory.version)
    (map logic_line (map logic_var_of theory.logic)
    ++ procedures_lines 1 (map procedure_of theory.procedures)))
    ∙ ap (λ (z : List ℕ). text_of (the "domlogic" ⌢ number_lexemes theory.version)
    ++ (newline ∷ z))
    (lines_append (map logic_line (map logic_var_of theory.logic))
    (procedures_lines 1 (map procedure_of theory.procedures))
    ∙ ap (λ (z : List ℕ). text_of_lines (map logic_line (map logic_var_of theory.logic)) ++ z)
    (sym (procedures_same theory.version (map procedure_of theory.procedures)))
    ∙ sym (lines_append (map logic_line (map logic_var_of theory.logic))
    (procedures_lines theory.version (map procedure_of theory.procedures))))
