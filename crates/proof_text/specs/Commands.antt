-- Needn't be believed: the readers of conditions and commands on lists of lexemes, each with one
-- lexeme of look-ahead. The proofs tie them to the grammar. Depth bounds the nesting and `most` the
-- length of blocks and lists.
use Rattle.std.specs.Prelude.{ℕ, zero, suc, Bool, true, not, ◌||◌, List, [], ◌∷◌, Err, codes}
use Rattle.model_terms.specs.Variables.{prog}
use Rattle.model_terms.specs.Terms.{Term, variable}
use Rattle.model_terms.specs.Stores.{ProgVar, named}
use Rattle.model_terms.specs.Conditions.{Cond, cond_true, cond_false, cond_variable, cond_equal, cond_at_most, cond_not, cond_and, cond_or}
use Rattle.model_commands.specs.Commands.{Command, skip, block, assign, create_node, node_name, child_nodes, parent_node, list_item, append_child, remove_child, insert_before, if_else, while_do, local, call, Block}
use Rattle.theory_syntax.specs.Commands.{block_with}
use Rattle.model_text.specs.Lexemes.{Lexeme}
use Rattle.model_grammar.specs.Terms.{in_command}
use Rattle.token_readers.specs.Leaves.{leaf_name}
use Rattle.token_readers.specs.Reading.{Read, Deep, ret, fail, then, when, expect, leaf, sep_list, is_terminal}
use Rattle.logic_text.specs.TermReaders.{term_at}
use Rattle.proof_text.specs.Lists.{leaf_value_sort, leaf_variable, bracketed_at}

-- behind a bracket and a condition
unfoldable pub cond_joined_at : Read Cond → Cond → Read Cond
cond_joined_at condition c =
    when (codes "and") (then condition λ d. expect (codes ")") (ret (cond_and c d)))
    (when (codes "or") (then condition λ d. expect (codes ")") (ret (cond_or c d))) fail)

-- behind a bracket
unfoldable pub cond_bracket_at : Read Cond → Read Cond
cond_bracket_at condition =
    when (codes "not") (then condition λ c. expect (codes ")") (ret (cond_not c)))
    (then condition λ c. cond_joined_at condition c)

-- a term that is a variable, as a condition
abbrev pub lone_name : Term → Read Cond
lone_name (variable (prog name s)) = ret (cond_variable (named name s))
lone_name a = fail

-- behind a term
unfoldable pub cond_compared_at : Read Term → Term → Read Cond
cond_compared_at term a =
    when (codes "=") (then term λ b. ret (cond_equal a b))
    (when (codes "<=") (then term λ b. ret (cond_at_most a b)) (lone_name a))

unfoldable pub cond_at : ℕ → Read Cond
cond_at zero ts = Err Deep
cond_at (suc n) ts =
    when (codes "(") (cond_bracket_at (cond_at n))
    (when (codes "true") (ret cond_true) (when (codes "false") (ret cond_false)
    (then (term_at in_command (suc n)) λ a. cond_compared_at (term_at in_command n) a))) ts

-- a condition ends here: what comes next doesn't make a term of its variable
abbrev pub ends_cond : List Lexeme → Bool
ends_cond [] = true
ends_cond (t ∷ ts) = not (is_terminal (codes "=") t || is_terminal (codes "<=") t)

-- the semicolon between commands
abbrev pub semicolon : List ℕ
semicolon = codes ";"

-- behind the brace of a block
unfoldable pub block_rest : ℕ → Read Command → Read Block
block_rest most command =
    then (sep_list semicolon command most) λ cs. expect (codes "}") (ret (block_with cs))

unfoldable pub block_at : ℕ → Read Command → Read Block
block_at most command = expect (codes "{") (block_rest most command)

-- a term in brackets, two terms in brackets
unfoldable pub one_at : Read Term → (Term → Command) → Read Command
one_at term make = expect (codes "(") (then term λ a. expect (codes ")") (ret (make a)))

unfoldable pub two_at : Read Term → (Term → Term → Command) → Read Command
two_at term make =
    expect (codes "(") (then term λ a. expect (codes ",") (then term λ b. expect (codes ")")
    (ret (make a b))))

-- three terms in brackets
unfoldable pub three_at : Read Term → (Term → Term → Term → Command) → Read Command
three_at term make =
    expect (codes "(") (then term λ a. expect (codes ",") (then term λ b. expect (codes ",")
    (then term λ c. expect (codes ")") (ret (make a b c)))))

-- what a variable is set to
unfoldable pub setting_at : Read Term → ProgVar → Read Command
setting_at term x =
    when (codes "createNode") (one_at term (create_node x))
    (when (codes "nodeName") (one_at term (node_name x))
    (when (codes "parentNode") (one_at term (parent_node x))
    (when (codes "childNodes") (one_at term (child_nodes x))
    (when (codes "item") (two_at term (list_item x)) (then term λ a. ret (assign x a))))))

-- behind the words if, while, local and call
unfoldable pub choice_at : Read Cond → Read Block → Read Command
choice_at condition body =
    then condition λ c. then body λ a. expect (codes "else") (then body λ b. ret (if_else c a b))

unfoldable pub loop_at : Read Cond → Read Block → Read Command
loop_at condition body = then condition λ c. then body λ b. ret (while_do c b)

unfoldable pub local_at : Read Block → Read Command
local_at body =
    then (leaf leaf_name) λ name. expect (codes ":") (then (leaf leaf_value_sort) λ s.
    then body λ b. ret (local (named name s) b))

unfoldable pub call_at : ℕ → Read Term → Read Command
call_at most term =
    then (bracketed_at (leaf leaf_variable) most) λ xs. expect (codes ":=")
    (then (leaf leaf_name) λ name.
    then (bracketed_at term most) λ es. ret (call xs name es))

-- a command that begins with a name or a word for a change of the document
unfoldable pub change_at : Read Term → Read Command
change_at term =
    when (codes "appendChild") (two_at term append_child)
    (when (codes "removeChild") (two_at term remove_child)
    (when (codes "insertBefore") (three_at term insert_before)
    (then (leaf leaf_variable) λ x. expect (codes ":=") (setting_at term x))))

unfoldable pub command_at : ℕ → ℕ → Read Command
command_at most zero ts = Err Deep
command_at most (suc n) ts =
    when (codes "skip") (ret skip)
    (when (codes "{") (then (block_rest most (command_at most n)) λ b. ret (block b))
    (when (codes "if") (choice_at (cond_at n) (block_at most (command_at most n)))
    (when (codes "while") (loop_at (cond_at n) (block_at most (command_at most n)))
    (when (codes "local") (local_at (block_at most (command_at most n)))
    (when (codes "call") (call_at most (term_at in_command n))
    (change_at (term_at in_command n))))))) ts
