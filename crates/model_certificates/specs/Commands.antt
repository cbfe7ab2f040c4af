-- Needn't be believed: the program's promise doesn't speak of it. How commands, judgements, steps,
-- procedures and theories are spelled in bytes. The command that version 2 adds is the last one.
use Rattle.std.specs.Prelude.{ℕ, suc, List, [], ◌∷◌, ◌++◌}
use Rattle.model_formulas.specs.Formulas.{Named}
use Rattle.model_commands.specs.Commands.{Command, skip, block, assign, create_node, node_name, child_nodes, parent_node, list_item, append_child, remove_child, insert_before, if_else, while_do, local, call, Block, stop, ◌then◌}
use Rattle.model_commands.specs.Theories.{JudgementOf, entails, triple, Reason, auto, by_rule, StepOf, ProcedureOf, Theory}
use Rattle.model_certificates.specs.Numbers.{number_bytes, text_bytes, list_bytes}
use Rattle.model_certificates.specs.Terms.{data_sort_bytes, sort_bytes, var_bytes, prog_var_bytes, term_bytes, cond_bytes}
use Rattle.model_certificates.specs.Formulas.{formula_bytes}

-- how many commands a block has
abbrev pub count : Block → ℕ
count stop = 0
count (c then b) = suc (count b)

abbrev mutual
  pub command_bytes : Command → List ℕ
  command_bytes skip = 0 ∷ []
  command_bytes (block b) = 1 ∷ (number_bytes (count b) ++ commands_bytes b)
  command_bytes (assign x a) = 2 ∷ (prog_var_bytes x ++ term_bytes a)
  command_bytes (create_node x a) = 3 ∷ (prog_var_bytes x ++ term_bytes a)
  command_bytes (node_name x a) = 4 ∷ (prog_var_bytes x ++ term_bytes a)
  command_bytes (parent_node x a) = 5 ∷ (prog_var_bytes x ++ term_bytes a)
  command_bytes (child_nodes x a) = 6 ∷ (prog_var_bytes x ++ term_bytes a)
  command_bytes (list_item x a b) = 7 ∷ (prog_var_bytes x ++ (term_bytes a ++ term_bytes b))
  command_bytes (append_child a b) = 8 ∷ (term_bytes a ++ term_bytes b)
  command_bytes (remove_child a b) = 9 ∷ (term_bytes a ++ term_bytes b)
  command_bytes (if_else c a b) =
      10 ∷ (cond_bytes c ++ ((number_bytes (count a) ++ commands_bytes a)
      ++ (number_bytes (count b) ++ commands_bytes b)))
  command_bytes (while_do c b) = 11 ∷ (cond_bytes c ++ (number_bytes (count b) ++ commands_bytes b))
  command_bytes (local x b) =
      12 ∷ (prog_var_bytes x ++ (number_bytes (count b) ++ commands_bytes b))
  command_bytes (call results name arguments) =
      13 ∷ (list_bytes prog_var_bytes results
      ++ (text_bytes name ++ list_bytes term_bytes arguments))
  command_bytes (insert_before a b c) = 14 ∷ (term_bytes a ++ (term_bytes b ++ term_bytes c))

  -- the commands of a block, which is a list
  pub commands_bytes : Block → List ℕ
  commands_bytes stop = []
  commands_bytes (c then b) = command_bytes c ++ commands_bytes b

abbrev pub judgement_bytes : JudgementOf Named → List ℕ
judgement_bytes (entails p q s) = 0 ∷ (formula_bytes p ++ (formula_bytes q ++ sort_bytes s))
judgement_bytes (triple p c q k) =
    1 ∷ (formula_bytes p ++ (command_bytes c ++ (formula_bytes q ++ data_sort_bytes k)))

abbrev pub reason_bytes : Reason → List ℕ
reason_bytes auto = 0 ∷ []
reason_bytes (by_rule name premises arguments) =
    1 ∷ (text_bytes name ++ (list_bytes number_bytes premises ++ list_bytes term_bytes arguments))

abbrev pub step_bytes : StepOf Named → List ℕ
step_bytes step =
    number_bytes step.number ++ (number_bytes step.line
    ++ (reason_bytes step.reason ++ judgement_bytes step.judgement))

-- a procedure without its proof
abbrev pub procedure_bytes : ProcedureOf Named → List ℕ
procedure_bytes procedure =
    text_bytes procedure.name ++ (list_bytes prog_var_bytes procedure.params
    ++ (list_bytes prog_var_bytes procedure.results ++ (data_sort_bytes procedure.sort
    ++ (formula_bytes procedure.pre ++ (formula_bytes procedure.post
    ++ command_bytes procedure.body)))))

-- a theory without its proofs
abbrev pub head_bytes : Theory → List ℕ
head_bytes theory =
    number_bytes theory.version ++ (list_bytes var_bytes theory.logic
    ++ list_bytes procedure_bytes theory.procedures)
