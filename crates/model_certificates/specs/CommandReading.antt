-- Needn't be believed: the program's promise doesn't speak of it. Needn't be believed, as
-- `Reading`: readers of commands, steps, procedures and heads.
use Rattle.std.specs.Prelude.{ℕ, zero, suc, Bool, true, false, ◌==◌, List, [], ◌∷◌}
use Rattle.model_shapes.specs.Sorts.{Sort, value, is_sort}
use Rattle.model_terms.specs.Variables.{Var, var_sort}
use Rattle.model_formulas.specs.Formulas.{Named}
use Rattle.model_commands.specs.Commands.{Command, skip, block, assign, create_node, node_name, child_nodes, parent_node, list_item, append_child, remove_child, insert_before, if_else, while_do, local, call, Block, stop, ◌then◌}
use Rattle.model_commands.specs.Theories.{JudgementOf, entails, triple, Reason, auto, by_rule, StepOf, ProcedureOf, Theory}
use Rattle.model_grammar.specs.Terms.{in_formula, in_command}
use Rattle.model_certificates.specs.Bounds.{levels}
use Rattle.model_certificates.specs.Reading.{Read, never, made, is, linked, both, kept, tagged, number_at, listed, name_at, word_at, data_sort_at, sort_at, prog_var_at, logic_var_at, term_at, cond_at, formula_at}

-- the commands of a list, one after another
abbrev pub in_block : List Command → Block
in_block [] = stop
in_block (c ∷ cs) = c then in_block cs

-- there is one or more
abbrev pub has_one : {A : Type 0} → List A → Bool
has_one [] = false
has_one (x ∷ xs) = true

unfoldable pub block_at : Read Command → Read Block
block_at r = made in_block (kept has_one (listed r))

-- where the word is a command
abbrev pub inserting : {A : Type 0} → ℕ → Read A → Read A
inserting version r = kept (λ a. version == 2) r

unfoldable pub command_at : ℕ → ℕ → Read Command
command_at version zero = never
command_at version (suc n) =
    let block_of = block_at (command_at version n) in
    let term = term_at version in_command n in
    let variable = prog_var_at version in
    tagged (is skip
    ∷ made block block_of
    ∷ made (λ x. assign x.0 x.1) (both variable term)
    ∷ made (λ x. create_node x.0 x.1) (both variable term)
    ∷ made (λ x. node_name x.0 x.1) (both variable term)
    ∷ made (λ x. parent_node x.0 x.1) (both variable term)
    ∷ made (λ x. child_nodes x.0 x.1) (both variable term)
    ∷ made (λ x. list_item x.0 x.1.0 x.1.1) (both variable (both term term))
    ∷ made (λ x. append_child x.0 x.1) (both term term)
    ∷ made (λ x. remove_child x.0 x.1) (both term term)
    ∷ made (λ x. if_else x.0 x.1.0 x.1.1) (both (cond_at version n) (both block_of block_of))
    ∷ made (λ x. while_do x.0 x.1) (both (cond_at version n) block_of)
    ∷ made (λ x. local x.0 x.1) (both variable block_of)
    ∷ made (λ x. call x.0 x.1.0 x.1.1)
    (both (listed variable) (both (name_at version) (listed term)))
    ∷ made (λ x. insert_before x.0 x.1.0 x.1.1) (inserting version (both term (both term term)))
    ∷ [])

unfoldable pub reason_at : ℕ → Read Reason
reason_at version =
    tagged (is auto
    ∷ made (λ x. by_rule x.0 x.1.0 x.1.1)
    (both word_at (both (listed number_at) (listed (term_at version in_formula levels))))
    ∷ [])

-- the sort is one of shapes or contexts
abbrev pub is_shape_sort : Sort → Bool
is_shape_sort (value s) = false
is_shape_sort s = is_sort s

unfoldable pub judgement_at : ℕ → Read (JudgementOf Named)
judgement_at version =
    let formula = formula_at version levels in
    let command = command_at version levels in
    tagged (made (λ x. entails x.0 x.1.0 x.1.1)
    (both formula (both formula (kept is_shape_sort sort_at)))
    ∷ made (λ x. triple x.0 x.1.0 x.1.1.0 x.1.1.1)
    (both formula (both command (both formula data_sort_at)))
    ∷ [])

unfoldable pub step_at : ℕ → Read (StepOf Named)
step_at version =
    made (λ x. record {
      number = x.0;
      line = x.1.0;
      reason = x.1.1.0;
      judgement = x.1.1.1;
    }) (both number_at (both number_at (both (reason_at version) (judgement_at version))))

unfoldable pub procedure_at : ℕ → Read (ProcedureOf Named)
procedure_at version =
    let variables = listed (prog_var_at version) in
    let formula = formula_at version levels in
    made (λ x. record {
      name = x.0;
      params = x.1.0;
      results = x.1.1.0;
      sort = x.1.1.1.0;
      pre = x.1.1.1.1.0;
      post = x.1.1.1.1.1.0;
      body = x.1.1.1.1.1.1;
      proof = [];
    }) (both (name_at version) (both variables (both variables (both data_sort_at
    (both formula (both formula (command_at version levels)))))))

-- a variable of the logic at one of the fifteen sorts
unfoldable pub declared_at : Read Var
declared_at = kept (λ x. is_sort (var_sort x)) logic_var_at

unfoldable pub head_at : Read Theory
head_at =
    made (λ x. record { version = x.0; logic = x.1.0; procedures = x.1.1 })
    (linked number_at (λ version. both (listed declared_at)
    (kept has_one (listed (procedure_at version)))))
