-- Needn't be believed: the reader of formulas on lists of lexemes, with one lexeme of look-ahead. A
-- term at the head is read first and the next lexeme decides; behind a bracket a formula is read
-- first, and `is` stands only behind a lone logic variable. The proofs tie it to the grammar.
use Rattle.std.specs.Prelude.{ℕ, zero, suc, Bool, true, not, ◌||◌, cond, List, [], ◌∷◌, Option, Some, None, Err, codes}
use Rattle.model_shapes.specs.Sorts.{tree, forest, grove}
use Rattle.model_terms.specs.Variables.{Var, logic}
use Rattle.model_terms.specs.Terms.{Term, variable}
use Rattle.model_formulas.specs.Formulas.{Named, whole, hole_left, hole_right, truth, falsity, conjunction, disjunction, implication, negation, existential, universal, equality, at_most, empty, bare_hole, node_formula, one_tree, one_root, concatenation, grove_sum, grove_sum_hole, application, hole_adjoint, context_adjoint, same_as, length_is, value_meets}
use Rattle.model_text.specs.Lexemes.{Lexeme, logic_lexeme}
use Rattle.model_grammar.specs.Terms.{used_logic, in_formula}
use Rattle.token_readers.specs.Reading.{Read, Deep, ret, fail, then, when, expect, leaf, begins, is_terminal}
use Rattle.logic_text.specs.TermReaders.{term_at}

-- the value where the lexeme is the terminal, and else the other
abbrev pub where_is : {A : Type 0} → List ℕ → Lexeme → A → Option A → Option A
where_is text lexeme a other = cond (is_terminal text lexeme) (Some a) other

-- a formula of one terminal
abbrev pub leaf_word : Lexeme → Option Named
leaf_word lexeme =
    where_is (codes "true") lexeme truth (where_is (codes "false") lexeme falsity
    (where_is (codes "0f") lexeme (empty forest) (where_is (codes "0g") lexeme (empty grove)
    (where_is (codes "?t") lexeme (bare_hole tree) (where_is (codes "?f") lexeme (bare_hole forest)
    (where_is (codes "?g") lexeme (bare_hole grove) None))))))

-- the connectives that begin with a star, a plus or a sign of an application
abbrev pub leaf_joining : Lexeme → Option (Named → Named → Named)
leaf_joining lexeme =
    where_is (codes "*") lexeme (concatenation whole)
    (where_is (codes ".*") lexeme (concatenation hole_left)
    (where_is (codes "*.") lexeme (concatenation hole_right)
    (where_is (codes "+") lexeme grove_sum (where_is (codes ".+") lexeme grove_sum_hole
    (where_is (codes "@t") lexeme (application tree)
    (where_is (codes "@f") lexeme (application forest)
    (where_is (codes "@g") lexeme (application grove) None)))))))

-- the connectives
abbrev pub leaf_connective : Lexeme → Option (Named → Named → Named)
leaf_connective lexeme =
    where_is (codes "and") lexeme conjunction (where_is (codes "or") lexeme disjunction
    (where_is (codes "->") lexeme implication (where_is (codes "-o") lexeme hole_adjoint
    (where_is (codes "o-t") lexeme (context_adjoint tree)
    (where_is (codes "o-f") lexeme (context_adjoint forest)
    (where_is (codes "o-g") lexeme (context_adjoint grove) (leaf_joining lexeme)))))))

-- a logic name
abbrev pub leaf_logic : Lexeme → Option (List ℕ)
leaf_logic (logic_lexeme name) = Some name
leaf_logic lexeme = None

-- behind the quantifier
unfoldable pub quantified_at : Read Named → (Var → Named → Named) → Read Named
quantified_at formula quantifier =
    then (leaf leaf_logic) λ name. expect (codes ".") (then formula λ p. expect (codes ")")
    (ret (quantifier (used_logic name) p)))

-- behind a bracket and a formula
unfoldable pub joined_at : Read Named → Named → Read Named
joined_at formula p =
    then (leaf leaf_connective) λ connective. then formula λ q. expect (codes ")")
    (ret (connective p q))

abbrev pub joined_or_is : Read Named → Named → Read Named
joined_or_is formula (same_as (variable (logic name s))) =
    when (codes "is") (then formula λ p. expect (codes ")")
    (ret (value_meets s (variable (logic name s)) p)))
    (joined_at formula (same_as (variable (logic name s))))
joined_or_is formula p = joined_at formula p

-- behind a bracket
unfoldable pub bracket_at : Read Named → Read Named
bracket_at formula =
    when (codes "not") (then formula λ p. expect (codes ")") (ret (negation p)))
    (when (codes "exists") (quantified_at formula existential)
    (when (codes "forall") (quantified_at formula universal)
    (then formula λ p. joined_or_is formula p)))

-- a term that is a logic variable, as a formula
abbrev pub lone_variable : Term → Read Named
lone_variable (variable (logic name s)) = ret (same_as (variable (logic name s)))
lone_variable a = fail

-- behind the name of a node and the sign
unfoldable pub node_at : Read Term → Read Named → Term → Read Named
node_at term formula a =
    then term λ b. expect (codes "[") (then formula λ p. expect (codes "]") (expect (codes "%")
    (then term λ c. ret (node_formula a b p c))))

-- behind a term
unfoldable pub compared_at : Read Term → Read Named → Term → Read Named
compared_at term formula a =
    when (codes "=") (then term λ b. ret (equality a b))
    (when (codes "<=") (then term λ b. ret (at_most a b))
    (when (codes "#") (node_at term formula a) (lone_variable a)))

unfoldable pub formula_at : ℕ → Read Named
formula_at zero ts = Err Deep
formula_at (suc n) ts =
    begins leaf_word ret
    (when (codes "(") (bracket_at (formula_at n))
    (when (codes "len") (then (term_at in_formula n) λ a. ret (length_is a))
    (when (codes "<") (then (formula_at n) λ p. expect (codes ">") (ret (one_tree p)))
    (when (codes "[") (then (formula_at n) λ p. expect (codes "]") (ret (one_root p)))
    (then (term_at in_formula (suc n)) λ a. compared_at (term_at in_formula n) (formula_at n) a)))))
    ts

-- a formula ends here: what comes next doesn't make a term of its variable
abbrev pub ends_formula : List Lexeme → Bool
ends_formula [] = true
ends_formula (t ∷ ts) =
    not (is_terminal (codes "=") t || (is_terminal (codes "<=") t || is_terminal (codes "#") t))
