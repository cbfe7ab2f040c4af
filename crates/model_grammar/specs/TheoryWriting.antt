-- The text of formulas and theories, byte by byte, and line by line.
use Rattle.std.specs.Prelude.{ℕ, List, [], ◌∷◌, ◌++◌, codes, map}
use Rattle.model_shapes.specs.Sorts.{DataSort, tree, forest, grove, Sort, value, shape, context}
use Rattle.model_terms.specs.Variables.{Var, logic, var_sort}
use Rattle.model_terms.specs.Terms.{Term}
use Rattle.model_terms.specs.Stores.{ProgVar, named}
use Rattle.model_formulas.specs.Formulas.{Named, Side, whole, hole_left, hole_right, truth, falsity, conjunction, disjunction, implication, negation, existential, universal, equality, at_most, empty, bare_hole, node_formula, one_tree, one_root, concatenation, grove_sum, grove_sum_hole, application, hole_adjoint, context_adjoint, same_as, length_is, value_meets}
use Rattle.model_commands.specs.Theories.{JudgementOf, entails, triple, Reason, auto, by_rule, StepOf, ProcedureOf, Theory}
use Rattle.model_text.specs.Tokens.{newline}
use Rattle.model_text.specs.Lexemes.{Lexeme, step_word, name_lexeme, number_lexeme, word_lexeme}
use Rattle.model_text.specs.Versions.{seen_in}
use Rattle.model_grammar.specs.Words.{the, ◌⌢◌}
use Rattle.model_grammar.specs.Writing.{text_of, var_lexemes, term_lexemes, bracketed, value_sort_lexemes, in_brackets, command_lexemes}

-- ---- formulas

-- the sign of the shape that has no tree
abbrev pub empty_sign : DataSort → List Lexeme
empty_sign tree = []
empty_sign forest = the "0f"
empty_sign grove = the "0g"

-- of a hole
abbrev pub hole_sign : DataSort → List Lexeme
hole_sign tree = the "?t"
hole_sign forest = the "?f"
hole_sign grove = the "?g"

-- of an application
abbrev pub at_sign : DataSort → List Lexeme
at_sign tree = the "@t"
at_sign forest = the "@f"
at_sign grove = the "@g"

-- of an adjoint
abbrev pub into_sign : DataSort → List Lexeme
into_sign tree = the "o-t"
into_sign forest = the "o-f"
into_sign grove = the "o-g"

-- the star of a concatenation
abbrev pub star_sign : Side → List Lexeme
star_sign whole = the "*"
star_sign hole_left = the ".*"
star_sign hole_right = the "*."

-- a variable and the formula that it is bound in
abbrev pub quantified : List Lexeme → List Lexeme → List Lexeme → List Lexeme
quantified kind bound_one inner = the "(" ⌢ kind ⌢ bound_one ⌢ the "." ⌢ inner ⌢ the ")"

-- a formula
abbrev pub formula_lexemes : Named → List Lexeme
formula_lexemes truth = the "true"
formula_lexemes falsity = the "false"
formula_lexemes (conjunction p q) = bracketed (formula_lexemes p) (the "and") (formula_lexemes q)
formula_lexemes (disjunction p q) = bracketed (formula_lexemes p) (the "or") (formula_lexemes q)
formula_lexemes (implication p q) = bracketed (formula_lexemes p) (the "->") (formula_lexemes q)
formula_lexemes (negation p) = the "(" ⌢ the "not" ⌢ formula_lexemes p ⌢ the ")"
formula_lexemes (existential x p) = quantified (the "exists") (var_lexemes x) (formula_lexemes p)
formula_lexemes (universal x p) = quantified (the "forall") (var_lexemes x) (formula_lexemes p)
formula_lexemes (equality a b) = term_lexemes a ⌢ the "=" ⌢ term_lexemes b
formula_lexemes (at_most a b) = term_lexemes a ⌢ the "<=" ⌢ term_lexemes b
formula_lexemes (empty k) = empty_sign k
formula_lexemes (bare_hole k) = hole_sign k
formula_lexemes (node_formula a b p c) =
    term_lexemes a ⌢ the "#" ⌢ term_lexemes b ⌢ the "[" ⌢ formula_lexemes p ⌢ the "]" ⌢ the "%"
    ⌢ term_lexemes c
formula_lexemes (one_tree p) = the "<" ⌢ formula_lexemes p ⌢ the ">"
formula_lexemes (one_root p) = the "[" ⌢ formula_lexemes p ⌢ the "]"
formula_lexemes (concatenation side p q) =
    bracketed (formula_lexemes p) (star_sign side) (formula_lexemes q)
formula_lexemes (grove_sum p q) = bracketed (formula_lexemes p) (the "+") (formula_lexemes q)
formula_lexemes (grove_sum_hole p q) = bracketed (formula_lexemes p) (the ".+") (formula_lexemes q)
formula_lexemes (application k p q) = bracketed (formula_lexemes p) (at_sign k) (formula_lexemes q)
formula_lexemes (hole_adjoint p q) = bracketed (formula_lexemes p) (the "-o") (formula_lexemes q)
formula_lexemes (context_adjoint k p q) =
    bracketed (formula_lexemes p) (into_sign k) (formula_lexemes q)
formula_lexemes (same_as a) = term_lexemes a
formula_lexemes (length_is a) = the "len" ⌢ term_lexemes a
formula_lexemes (value_meets s a p) = bracketed (term_lexemes a) (the "is") (formula_lexemes p)

-- ---- theories

-- a word for the sort of a shape; there is none for a context that no shape fits
abbrev pub data_sort_lexemes : DataSort → List Lexeme
data_sort_lexemes tree = name_lexeme (codes "t") ∷ []
data_sort_lexemes forest = name_lexeme (codes "f") ∷ []
data_sort_lexemes grove = name_lexeme (codes "g") ∷ []

-- a word for a sort; there is none for a context of trees or forests with a hole for a grove
abbrev pub sort_lexemes : Sort → List Lexeme
sort_lexemes (value s) = value_sort_lexemes s
sort_lexemes (shape k) = data_sort_lexemes k
sort_lexemes (context tree tree) = name_lexeme (codes "tt") ∷ []
sort_lexemes (context tree forest) = name_lexeme (codes "tf") ∷ []
sort_lexemes (context tree grove) = name_lexeme (codes "tg") ∷ []
sort_lexemes (context forest tree) = name_lexeme (codes "ft") ∷ []
sort_lexemes (context forest forest) = name_lexeme (codes "ff") ∷ []
sort_lexemes (context forest grove) = name_lexeme (codes "fg") ∷ []
sort_lexemes (context grove grove) = name_lexeme (codes "gg") ∷ []
sort_lexemes (context grove tree) = []
sort_lexemes (context grove forest) = []

-- a variable and its sort, as they are declared
abbrev pub declaration_lexemes : ProgVar → List Lexeme
declaration_lexemes (named name s) = name_lexeme name ∷ [] ⌢ the ":" ⌢ value_sort_lexemes s

-- the number of a step
abbrev pub number_lexemes : ℕ → List Lexeme
number_lexemes n = number_lexeme n ∷ []

-- any word, as the name of a rule in a file of the version
abbrev pub word_lexemes : ℕ → List ℕ → List Lexeme
word_lexemes version word = seen_in version (word_lexeme word 0 ∷ [])

-- the arguments of a rule
abbrev pub argument_lexemes : List Term → List Lexeme
argument_lexemes [] = []
argument_lexemes (a ∷ rest) = the "with" ⌢ in_brackets (map term_lexemes (a ∷ rest))

-- why a step holds
abbrev pub reason_lexemes : ℕ → Reason → List Lexeme
reason_lexemes version auto = the "auto"
reason_lexemes version (by_rule name premises arguments) =
    the "by" ⌢ word_lexemes version name ⌢ in_brackets (map number_lexemes premises)
    ⌢ argument_lexemes arguments

-- what it says
abbrev pub judgement_lexemes : JudgementOf Named → List Lexeme
judgement_lexemes (entails p q s) =
    formula_lexemes p ⌢ the "entails" ⌢ formula_lexemes q ⌢ the "at" ⌢ sort_lexemes s
judgement_lexemes (triple p c q k) =
    the "pre" ⌢ formula_lexemes p ⌢ the "do" ⌢ command_lexemes c ⌢ the "post"
    ⌢ formula_lexemes q ⌢ the "at" ⌢ data_sort_lexemes k

-- The text of a theory, line by line: a newline stands in place of the space before each of the
-- words `logic`, `proc`, `requires`, `ensures`, `body`, `proof`, `step` and `end` of the grammar.

-- the line of a declared logic variable
abbrev pub logic_line : Var → List Lexeme
logic_line x = the "logic" ⌢ sort_lexemes (var_sort x) ⌢ var_lexemes x ⌢ the ";"

-- of a step
abbrev pub step_line : ℕ → StepOf Named → List Lexeme
step_line version step = step_word step.line ∷ [] ⌢ number_lexemes step.number
    ⌢ reason_lexemes version step.reason ⌢ the ":" ⌢ judgement_lexemes step.judgement ⌢ the ";"

-- the lines of a procedure
abbrev pub procedure_lines : ℕ → ProcedureOf Named → List (List Lexeme)
procedure_lines version f =
    (the "proc" ⌢ name_lexeme f.name ∷ [] ⌢ in_brackets (map declaration_lexemes f.params)
    ⌢ the "returns" ⌢ in_brackets (map declaration_lexemes f.results) ⌢ the "sort"
    ⌢ data_sort_lexemes f.sort)
    ∷ (the "requires" ⌢ formula_lexemes f.pre) ∷ (the "ensures" ⌢ formula_lexemes f.post)
    ∷ (the "body" ⌢ command_lexemes f.body) ∷ the "proof"
    ∷ (map (step_line version) f.proof ++ the "end" ∷ [])

-- of the procedures
abbrev pub procedures_lines : ℕ → List (ProcedureOf Named) → List (List Lexeme)
procedures_lines version [] = []
procedures_lines version (f ∷ fs) = procedure_lines version f ++ procedures_lines version fs

-- of a theory
abbrev pub theory_lines : Theory → List (List Lexeme)
theory_lines theory =
    (the "domlogic" ⌢ number_lexemes theory.version)
    ∷ (map logic_line theory.logic ++ procedures_lines theory.version theory.procedures)

-- the lexemes of the lines
abbrev pub all_lexemes : List (List Lexeme) → List Lexeme
all_lexemes [] = []
all_lexemes (line ∷ rest) = line ⌢ all_lexemes rest

-- each line with a newline behind it
abbrev pub text_of_lines : List (List Lexeme) → List ℕ
text_of_lines [] = []
text_of_lines (line ∷ rest) = text_of line ++ (newline ∷ text_of_lines rest)

-- the text of a theory
abbrev pub theory_text : Theory → List ℕ
theory_text theory = text_of_lines (theory_lines theory)
