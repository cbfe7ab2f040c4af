-- Worked texts of a formula and of commands, by computing.
use Rattle.std.proofs.Common.{◌≡◌, ℕ, List, [], ◌∷◌, ◌++◌, refl, pos, negsuc}
use Rattle.std.specs.Prelude.{codes}
use Rattle.std.specs.Fmt.{digits}
use Rattle.model_shapes.specs.Sorts.{node_sort, int_sort, tree, grove, shape}
use Rattle.model_shapes.specs.Values.{int, str}
use Rattle.model_terms.specs.Variables.{prog, logic}
use Rattle.model_terms.specs.Terms.{Term, variable, literal, sum}
use Rattle.model_terms.specs.Stores.{named}
use Rattle.model_formulas.specs.Formulas.{grove_sum, empty, one_root, same_as}
use Rattle.model_commands.specs.Commands.{append_child, remove_child, insert_before, assign, local, create_node, stop, ◌then◌}
use Rattle.model_commands.specs.Commands.{skip}
use Rattle.model_commands.specs.Theories.{triple, by_rule}
use Rattle.model_text.specs.Lexemes.{reserved_words}
use Rattle.model_grammar.specs.Writing.{text_of, command_lexemes}
use Rattle.model_grammar.specs.TheoryWriting.{formula_lexemes, theory_text}

abbrev node : List ℕ → Term
node name = variable (prog name node_sort)

-- a variable of the logic in a root, behind the empty grove
formula-text : text_of (formula_lexemes (grove_sum (empty grove)
    (one_root (same_as (variable (logic (codes "$x") (shape tree)))))))
    ≡ codes "( 0g + [ $x ] )"
formula-text = refl

-- the three changes of a document
append-text : text_of (command_lexemes (append_child (node (codes "p")) (node (codes "n"))))
    ≡ codes "appendChild ( p , n )"
append-text = refl

remove-text : text_of (command_lexemes (remove_child (node (codes "p")) (node (codes "n"))))
    ≡ codes "removeChild ( p , n )"
remove-text = refl

insert-text : text_of (command_lexemes
    (insert_before (node (codes "p")) (node (codes "n")) (node (codes "q"))))
    ≡ codes "insertBefore ( p , n , q )"
insert-text = refl

-- a block, a literal and a negative number
block-text : text_of (command_lexemes (local (named (codes "x") node_sort)
    (create_node (named (codes "x") node_sort) (literal (str (codes "a\"b")))
    then assign (named (codes "r") int_sort)
    (sum (literal (int (negsuc 4))) (literal (int (pos 7)))) then stop)))
    ≡ codes "local x : node { x := createNode ( \"a\\\"b\" ) ; r := { - 5 + 7 } }"
unfolding digits
block-text = refl

-- a theory with one procedure, whose proof is one step
theory-text : theory_text (record {
  version = 1;
  logic = logic (codes "$n") (shape grove) ∷ [];
  procedures = record {
    name = codes "main";
    params = named (codes "p") node_sort ∷ [];
    results = [];
    sort = grove;
    pre = empty grove;
    post = empty grove;
    body = skip;
    proof = record {
      number = 1;
      line = 7;
      reason = by_rule (codes "skip") [] [];
      judgement = triple (empty grove) skip (empty grove) grove;
    } ∷ [];
  } ∷ [];
})
    ≡ codes "domlogic 1\nlogic g $n ;\nproc main ( p : node ) returns ( ) sort g\n"
    ++ codes "requires 0g\nensures 0g\nbody skip\nproof\n"
    ++ codes "step 1 by skip ( ) : pre 0g do skip post 0g at g ;\nend\n"
unfolding digits reserved_words
theory-text = refl
