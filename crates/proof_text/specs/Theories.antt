-- Needn't be believed: the readers of theories on lists of lexemes, each with one lexeme of
-- look-ahead. The proofs tie them to the grammar, which says what they read. Depth bounds the
-- nesting and `most` the length of lists.
use Rattle.std.specs.Prelude.{ℕ, List, [], ◌∷◌, ◌++◌, Option, None, map, codes}
use Rattle.model_shapes.specs.Sorts.{node_sort, list_sort, int_sort, str_sort, bool_sort, DataSort, tree, forest, grove, Sort, value, shape, context}
use Rattle.model_terms.specs.Variables.{Var, logic}
use Rattle.model_terms.specs.Terms.{Term}
use Rattle.model_formulas.specs.Formulas.{Named}
use Rattle.model_terms.specs.Stores.{ProgVar, named}
use Rattle.model_commands.specs.Theories.{JudgementOf, entails, triple, Reason, auto, by_rule, StepOf, ProcedureOf, Theory}
use Rattle.model_text.specs.Lexemes.{Lexeme, name_lexeme}
use Rattle.model_grammar.specs.Terms.{in_formula}
use Rattle.token_readers.specs.Leaves.{leaf_name, leaf_word, leaf_number, leaf_step}
use Rattle.token_readers.specs.Reading.{Read, ret, then, when, expect, leaf, sep_list, many, the_terminal}
use Rattle.logic_text.specs.TermReaders.{term_at}
use Rattle.logic_text.specs.FormulaReaders.{leaf_logic, formula_at}
use Rattle.proof_text.specs.Lists.{comma, called, leaf_value_sort, leaf_data_sort, bracketed_at}
use Rattle.proof_text.specs.Commands.{command_at}

-- the sort of shapes or contexts of the name
abbrev pub shape_sort_called : List ℕ → Option Sort
shape_sort_called word =
    called (codes "t") word (shape tree) (called (codes "f") word (shape forest)
    (called (codes "g") word (shape grove) (called (codes "tt") word (context tree tree)
    (called (codes "tf") word (context tree forest) (called (codes "tg") word (context tree grove)
    (called (codes "ft") word (context forest tree) (called (codes "ff") word
    (context forest forest)
    (called (codes "fg") word (context forest grove) (called (codes "gg") word (context grove grove)
    None)))))))))

abbrev pub leaf_shape_sort : Lexeme → Option Sort
leaf_shape_sort (name_lexeme word) = shape_sort_called word
leaf_shape_sort lexeme = None

-- the sort of the name
abbrev pub sort_called : List ℕ → Option Sort
sort_called word =
    called (codes "node") word (value node_sort) (called (codes "list") word (value list_sort)
    (called (codes "int") word (value int_sort) (called (codes "str") word (value str_sort)
    (called (codes "bool") word (value bool_sort) (shape_sort_called word)))))

abbrev pub leaf_sort : Lexeme → Option Sort
leaf_sort (name_lexeme word) = sort_called word
leaf_sort lexeme = None

unfoldable pub declaration_at : Read ProgVar
declaration_at =
    then (leaf leaf_name) λ name. expect (codes ":") (then (leaf leaf_value_sort) λ s.
    ret (named name s))

unfoldable pub arguments_at : ℕ → ℕ → Read (List Term)
arguments_at depth most =
    when (codes "with") (expect (codes "(") (then (sep_list comma (term_at in_formula depth) most) λ
    es.
    expect (codes ")") (ret es)))
    (ret [])

unfoldable pub reason_at : ℕ → ℕ → Read Reason
reason_at depth most =
    when (codes "auto") (ret auto) (expect (codes "by") (then (leaf leaf_word) λ name.
    then (bracketed_at (leaf leaf_number) most) λ ns. then (arguments_at depth most) λ es.
    ret (by_rule name ns es)))

-- behind the word `pre`
unfoldable pub triple_at : ℕ → ℕ → Read (JudgementOf Named)
triple_at depth most =
    then (formula_at depth) λ p. expect (codes "do") (then (command_at most depth) λ c.
    expect (codes "post") (then (formula_at depth) λ q.
    expect (codes "at") (then (leaf leaf_data_sort) λ k. ret (triple p c q k))))

unfoldable pub entailment_at : ℕ → Read (JudgementOf Named)
entailment_at depth =
    then (formula_at depth) λ p. expect (codes "entails") (then (formula_at depth) λ q.
    expect (codes "at") (then (leaf leaf_shape_sort) λ s. ret (entails p q s)))

unfoldable pub judgement_at : ℕ → ℕ → Read (JudgementOf Named)
judgement_at depth most = when (codes "pre") (triple_at depth most) (entailment_at depth)

-- behind the word `step`
unfoldable pub step_tail : ℕ → ℕ → ℕ → Read (StepOf Named)
step_tail depth most line =
    then (leaf leaf_number) λ n. then (reason_at depth most) λ r. expect (codes ":")
    (then (judgement_at depth most) λ j. expect (codes ";")
    (ret (record { number = n; line = line; reason = r; judgement = j })))

-- what stands behind a procedure's sort
unfoldable pub contents_at : ℕ → ℕ → List ℕ → List ProgVar → List ProgVar → DataSort
    → Read (ProcedureOf Named)
contents_at depth most f xs ys k =
    expect (codes "requires") (then (formula_at depth) λ p.
    expect (codes "ensures") (then (formula_at depth) λ q.
    expect (codes "body") (then (command_at most depth) λ c.
    expect (codes "proof") (then (many leaf_step (step_tail depth most) most) λ steps.
    expect (codes "end") (ret (record {
      name = f;
      params = xs;
      results = ys;
      sort = k;
      pre = p;
      post = q;
      body = c;
      proof = steps;
    }))))))

-- behind the word `proc`
unfoldable pub procedure_tail : ℕ → ℕ → Read (ProcedureOf Named)
procedure_tail depth most =
    then (leaf leaf_name) λ f. then (bracketed_at declaration_at most) λ xs.
    expect (codes "returns") (then (bracketed_at declaration_at most) λ ys.
    expect (codes "sort") (then (leaf leaf_data_sort) λ k. contents_at depth most f xs ys k))

-- more procedures, each behind the word `proc`
unfoldable pub more_procedures_at : ℕ → ℕ → Read (List (ProcedureOf Named))
more_procedures_at depth most = many (the_terminal (codes "proc"))
    (λ x. procedure_tail depth most) most

unfoldable pub procedures_at : ℕ → ℕ → Read (List (ProcedureOf Named))
procedures_at depth most =
    expect (codes "proc") (then (procedure_tail depth most) λ f.
    then (more_procedures_at depth most) λ fs. ret (f ∷ fs))

-- behind the word `logic`
unfoldable pub logic_tail : ℕ → Read (List Var)
logic_tail most =
    then (leaf leaf_sort) λ s. then (sep_list comma (leaf leaf_logic) most) λ names.
    expect (codes ";") (ret (map (λ name. logic name s) names))

-- the variables of all lines
abbrev pub joined_lines : List (List Var) → List Var
joined_lines [] = []
joined_lines (xs ∷ lines) = xs ++ joined_lines lines

unfoldable pub logic_lines_at : ℕ → Read (List (List Var))
logic_lines_at most = many (the_terminal (codes "logic")) (λ x. logic_tail most) most

unfoldable pub theory_at : ℕ → ℕ → Read Theory
theory_at depth most =
    expect (codes "domlogic") (then (leaf leaf_number) λ n. then (logic_lines_at most) λ lines.
    then (procedures_at depth most) λ fs.
    ret (record { version = n; logic = joined_lines lines; procedures = fs }))
