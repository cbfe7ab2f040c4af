-- Needn't be believed: readers of theories whose variables get their sorts as they are read, so
-- that each part is changed while it is at hand. A law says that they read what the readers of
-- theories read, with its sorts.
use Rattle.std.specs.Prelude.{ℕ, List, ◌∷◌, ◌++◌, codes, Ok}
use Rattle.model_shapes.specs.Sorts.{DataSort}
use Rattle.model_terms.specs.Variables.{Var}
use Rattle.model_terms.specs.Stores.{ProgVar}
use Rattle.model_formulas.specs.Formulas.{Named}
use Rattle.model_commands.specs.Commands.{Command}
use Rattle.model_commands.specs.CommandParts.{locals_of}
use Rattle.model_commands.specs.Theories.{StepOf, ProcedureOf, Theory}
use Rattle.model_grammar.specs.Sorts.{Declared, sorted_formula, sorted_command, sorted_step}
use Rattle.token_readers.specs.Leaves.{leaf_name, leaf_number, leaf_step}
use Rattle.token_readers.specs.Reading.{Read, ◌>>=◌, ret, then, expect, leaf, many, the_terminal}
use Rattle.logic_text.specs.FormulaReaders.{formula_at}
use Rattle.proof_text.specs.Lists.{leaf_data_sort, bracketed_at}
use Rattle.proof_text.specs.Commands.{command_at}
use Rattle.proof_text.specs.Theories.{declaration_at, step_tail, logic_lines_at, joined_lines}

-- what is read, changed by the function
abbrev pub mapped : {A B : Type 0} → (A → B) → Read A → Read B
mapped f r ts = r ts >>= λ x. Ok (f x.0, x.1)

-- behind the word `step`
unfoldable pub sorted_step_tail : Declared → ℕ → ℕ → ℕ → Read (StepOf Named)
sorted_step_tail declared depth most line =
    mapped (sorted_step declared) (step_tail depth most line)

-- the steps of a proof
unfoldable pub sorted_steps_at : Declared → ℕ → ℕ → Read (List (StepOf Named))
sorted_steps_at declared depth most = many leaf_step (sorted_step_tail declared depth most) most

-- what these parameters, these results and this body declare
abbrev pub declared_with : List Var → List ProgVar → List ProgVar → Command → Declared
declared_with logics xs ys c = record { variables = xs ++ (ys ++ locals_of c); logics = logics }

-- a formula, and a command, with the sorts of what is declared: proofs see each as one word
unfoldable pub formula_sorted : Declared → Named → Named
formula_sorted declared p = sorted_formula declared p

unfoldable pub command_sorted : Declared → Command → Command
command_sorted declared c = sorted_command declared c

-- what stands behind a procedure's sort
unfoldable pub sorted_contents_at : List Var → ℕ → ℕ → List ℕ → List ProgVar → List ProgVar
    → DataSort → Read (ProcedureOf Named)
sorted_contents_at logics depth most f xs ys k =
    expect (codes "requires") (then (formula_at depth) λ p.
    expect (codes "ensures") (then (formula_at depth) λ q.
    expect (codes "body") (then (command_at most depth) λ c.
    expect (codes "proof") (then (sorted_steps_at (declared_with logics xs ys c) depth most) λ
    steps.
    expect (codes "end") (ret (record {
      name = f;
      params = xs;
      results = ys;
      sort = k;
      pre = formula_sorted (declared_with logics xs ys c) p;
      post = formula_sorted (declared_with logics xs ys c) q;
      body = command_sorted (declared_with logics xs ys c) c;
      proof = steps;
    }))))))

-- behind the word `proc`
unfoldable pub sorted_procedure_tail : List Var → ℕ → ℕ → Read (ProcedureOf Named)
sorted_procedure_tail logics depth most =
    then (leaf leaf_name) λ f. then (bracketed_at declaration_at most) λ xs.
    expect (codes "returns") (then (bracketed_at declaration_at most) λ ys.
    expect (codes "sort") (then (leaf leaf_data_sort) λ k.
    sorted_contents_at logics depth most f xs ys k))

-- more procedures, each behind the word `proc`
unfoldable pub more_sorted_procedures_at : List Var → ℕ → ℕ → Read (List (ProcedureOf Named))
more_sorted_procedures_at logics depth most = many (the_terminal (codes "proc"))
    (λ x. sorted_procedure_tail logics depth most) most

unfoldable pub sorted_procedures_at : List Var → ℕ → ℕ → Read (List (ProcedureOf Named))
sorted_procedures_at logics depth most =
    expect (codes "proc") (then (sorted_procedure_tail logics depth most) λ f.
    then (more_sorted_procedures_at logics depth most) λ fs. ret (f ∷ fs))

unfoldable pub sorted_theory_at : ℕ → ℕ → Read Theory
sorted_theory_at depth most =
    expect (codes "domlogic") (then (leaf leaf_number) λ n. then (logic_lines_at most) λ lines.
    then (sorted_procedures_at (joined_lines lines) depth most) λ fs.
    ret (record { version = n; logic = joined_lines lines; procedures = fs }))
