-- Needn't be believed: a law says that the text of `make N` is what is printed for it. The
-- generated theory as a value: N procedures, each of which makes one node, with their proofs.
use Rattle.std.specs.Prelude.{ℕ, zero, suc, ◌+◌, List, [], ◌∷◌, ◌++◌, codes}
use Rattle.std.specs.Fmt.{decimal}
use Rattle.model_shapes.specs.Sorts.{forest, grove, shape, value, node_sort, list_sort}
use Rattle.model_shapes.specs.Values.{Name, null, str}
use Rattle.model_terms.specs.Variables.{Var, prog, logic}
use Rattle.model_terms.specs.Terms.{Term, literal, variable}
use Rattle.model_terms.specs.Stores.{ProgVar, named}
use Rattle.model_formulas.specs.Formulas.{Named, conjunction, existential, equality, empty, node_formula, one_root}
use Rattle.model_commands.specs.Commands.{Command, block, create_node, local, stop, ◌then◌}
use Rattle.model_commands.specs.Theories.{JudgementOf, entails, triple, by_rule, StepOf, ProcedureOf, Theory}

-- the local variable, and the two logic variables
abbrev pub x : ProgVar
x = named (codes "x") node_sort

abbrev pub x_term : Term
x_term = variable (prog (codes "x") node_sort)

abbrev pub some_node : Var
some_node = logic (codes "$n") (value node_sort)

abbrev pub some_list : Var
some_list = logic (codes "$m") (value list_sort)

-- (0g and x = null), where the body begins
abbrev pub beginning : Named
beginning = conjunction (empty grove) (equality x_term (literal null))

-- an entailment and a triple about groves
abbrev pub about : Named → Named → JudgementOf Named
about p q = entails p q (shape grove)

abbrev pub hoare : Named → Command → Named → JudgementOf Named
hoare p c q = triple p c q grove

-- a step: its number, its rule, what it cites, its arguments and what it says; no line is given
abbrev pub step_by : ℕ → Name → List ℕ → List Term → JudgementOf Named → StepOf Named
step_by number rule citations arguments judgement = record {
  number = number;
  line = 0;
  reason = by_rule rule citations arguments;
  judgement = judgement;
}

-- The procedure for a number K.
module _ (k : ℕ) where
  -- "tK"
  abbrev pub tag : Term
  tag = literal (str (codes "t" ++ decimal k))

  -- (exists $m . ["tK"#E[0f]%$m])
  abbrev pub new_root : Term → Named
  new_root number =
      existential some_list (one_root (node_formula tag number (empty forest) (variable some_list)))

  -- (exists $n . (exists $m . ["tK"#$n[0f]%$m]))
  abbrev pub some_root : Named
  some_root = existential some_node (new_root (variable some_node))

  -- "tK" = "tK", and (0g and "tK" = "tK")
  abbrev pub same_tag : Named
  same_tag = equality tag tag

  abbrev pub nothing_yet : Named
  nothing_yet = conjunction (empty grove) same_tag

  -- x := createNode("tK"), and the body round it: local x : node { x := createNode("tK") }
  abbrev pub creation : Command
  creation = create_node x tag

  abbrev pub body : Command
  body = local x (creation then stop)

  -- the proof: the axiom, its requires from the beginning, its ensures with the number hidden
  abbrev pub proof : List (StepOf Named)
  proof =
      step_by 1 (codes "create") [] [] (hoare nothing_yet creation (new_root x_term)) ∷
      step_by 2 (codes "and_left") [] [] (about beginning (empty grove)) ∷
      step_by 3 (codes "eq_refl") [] [] (about beginning same_tag) ∷
      step_by 4 (codes "and_in") (2 ∷ 3 ∷ []) [] (about beginning nothing_yet) ∷
      step_by 5 (codes "exists_in") [] (x_term ∷ []) (about (new_root x_term) some_root) ∷
      step_by 6 (codes "consequence") (4 ∷ 1 ∷ 5 ∷ []) [] (hoare beginning creation some_root) ∷
      step_by 7 (codes "seq") (6 ∷ []) []
      (hoare beginning (block (creation then stop)) some_root) ∷
      step_by 8 (codes "local") (7 ∷ []) [] (hoare (empty grove) body some_root) ∷ []

  -- pK: from nothing to one new root
  abbrev pub maker : ProcedureOf Named
  maker = record {
    name = codes "p" ++ decimal k;
    params = [];
    results = [];
    sort = grove;
    pre = empty grove;
    post = some_root;
    body = body;
    proof = proof;
  }

-- so many of them, of which the first has this number
abbrev pub makers : ℕ → ℕ → List (ProcedureOf Named)
makers first zero = []
makers first (suc n) = maker first ∷ makers (first + 1) n

-- THE GENERATED THEORY for N
abbrev pub generated_theory : ℕ → Theory
generated_theory n = record {
  version = 1;
  logic = some_list ∷ some_node ∷ [];
  procedures = makers 1 n;
}
