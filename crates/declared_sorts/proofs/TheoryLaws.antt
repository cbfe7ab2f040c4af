-- What a procedure declares is what it declared before its body got its sorts.
use Rattle.std.proofs.Common.{◌≡◌, ◌∙◌, sym, refl, ap, List, ◌∷◌, ◌++◌}
use Rattle.std.proofs.lemmas.Grind.{flat_map-append}
use Rattle.std.specs.List.{flat_map}
use Rattle.model_formulas.specs.Formulas.{Named}
use Rattle.model_terms.specs.Stores.{ProgVar}
use Rattle.model_commands.specs.Commands.{Command, skip, block, assign, create_node, node_name, child_nodes, parent_node, list_item, append_child, remove_child, insert_before, if_else, while_do, local, call, Block, stop, ◌then◌}
use Rattle.model_commands.specs.CommandParts.{commands_in, commands_of, locals, locals_of}
use Rattle.model_commands.specs.Theories.{ProcedureOf, StepOf}
use Rattle.model_grammar.specs.Sorts.{Declared, sorted_block, sorted_command}

-- a command with its sorts has the local variables that it had
module _ (d : Declared) where
  mutual
    pub locals_stay : (c : Command) → locals_of (sorted_command d c) ≡ locals_of c
    locals_stay skip = refl
    locals_stay (block b) = block_locals_stay b
    locals_stay (assign x e) = refl
    locals_stay (create_node x e) = refl
    locals_stay (node_name x e) = refl
    locals_stay (child_nodes x e) = refl
    locals_stay (parent_node x e) = refl
    locals_stay (list_item x e f) = refl
    locals_stay (append_child e f) = refl
    locals_stay (remove_child e f) = refl
    locals_stay (insert_before e f g) = refl
    locals_stay (if_else c a b) =
        flat_map-append locals (commands_of (sorted_block d a)) (commands_of (sorted_block d b))
        ∙ (λ j. block_locals_stay a j ++ block_locals_stay b j)
        ∙ sym (flat_map-append locals (commands_of a) (commands_of b))
    locals_stay (while_do c b) = block_locals_stay b
    locals_stay (local x b) = λ j. x ∷ block_locals_stay b j
    locals_stay (call results name arguments) = refl

    block_locals_stay : (b : Block)
        → flat_map locals (commands_of (sorted_block d b)) ≡ flat_map locals (commands_of b)
    block_locals_stay stop = refl
    block_locals_stay (c then b) =
        flat_map-append locals (commands_in (sorted_command d c)) (commands_of (sorted_block d b))
        ∙ (λ j. locals_stay c j ++ block_locals_stay b j)
        ∙ sym (flat_map-append locals (commands_in c) (commands_of b))

-- a procedure declares what it did before its body got its sorts
pub still_declared : (d : Declared) (params results vars : List ProgVar) (old new : Command)
    → vars ≡ params ++ (results ++ locals_of old) → new ≡ sorted_command d old
    → vars ≡ params ++ (results ++ locals_of new)
still_declared d params results vars old new known sorted =
    known ∙ ap (λ z. params ++ (results ++ z)) (sym (locals_stay d old))
    ∙ ap (λ z. params ++ (results ++ locals_of z)) (sym sorted)

-- a procedure with other formulas, another body and other steps
abbrev pub with_parts : ProcedureOf Named → Named → Named → Command → List (StepOf Named)
    → ProcedureOf Named
with_parts f pre post body proof = record {
  name = f.name;
  params = f.params;
  results = f.results;
  sort = f.sort;
  pre = pre;
  post = post;
  body = body;
  proof = proof;
}
