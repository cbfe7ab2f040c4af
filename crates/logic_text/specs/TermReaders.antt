-- Needn't be believed: the reader of terms on lists of lexemes, with one lexeme of look-ahead. The
-- proofs tie it to the grammar, which says what it reads. Depth bounds the nesting.
use Rattle.model_limits.specs.Limits.{standard_limits}
use Rattle.std.specs.Prelude.{ℕ, zero, suc, nat_le, true, false, cond, List, Option, Some, None, Err, codes, pos, negsuc}
use Rattle.model_shapes.specs.Sorts.{node_sort}
use Rattle.model_shapes.specs.Values.{null, nolist, int, str, boolean}
use Rattle.model_terms.specs.Variables.{prog}
use Rattle.model_terms.specs.Terms.{Term, literal, variable, sum, difference, appended}
use Rattle.model_text.specs.Lexemes.{Lexeme, name_lexeme, logic_lexeme, number_lexeme, literal_lexeme}
use Rattle.model_grammar.specs.Terms.{used_logic, Place, in_formula, in_command}
use Rattle.token_readers.specs.Reading.{Read, Deep, ret, fail, then, when, expect, leaf}

-- a logic variable, which stands in formulas alone
abbrev pub logic_at : Place → List ℕ → Option Term
logic_at in_formula name = Some (variable (used_logic name))
logic_at in_command name = None

-- a term of one lexeme that is no terminal
abbrev pub leaf_term : Place → Lexeme → Option Term
leaf_term place (name_lexeme name) = Some (variable (prog name node_sort))
leaf_term place (logic_lexeme name) = logic_at place name
leaf_term place (literal_lexeme text) = Some (literal (str text))
leaf_term place (number_lexeme n) =
    cond (nat_le n standard_limits.integer) (Some (literal (int (pos n)))) None
leaf_term place lexeme = None

-- the number behind a sign
abbrev pub negated : ℕ → Option Term
negated zero = None
negated (suc n) = cond (nat_le (suc n) standard_limits.integer)
    (Some (literal (int (negsuc n)))) None

-- the literal behind its sign
abbrev pub leaf_negative : Lexeme → Option Term
leaf_negative (number_lexeme n) = negated n
leaf_negative lexeme = None

unfoldable pub operator_at : Read (Term → Term → Term)
operator_at =
    when (codes "+") (ret sum) (when (codes "-") (ret difference)
    (when (codes "++") (ret appended) fail))

-- behind the brace
unfoldable pub operation_at : Read Term → Read Term
operation_at term =
    then term λ a. then operator_at λ o. then term λ b. expect (codes "}") (ret (o a b))

-- a term that begins with a terminal but a brace
unfoldable pub word_at : Read Term → Read Term
word_at other =
    when (codes "-") (leaf leaf_negative) (when (codes "null") (ret (literal null))
    (when (codes "nolist") (ret (literal nolist)) (when (codes "yes") (ret (literal (boolean true)))
    (when (codes "no") (ret (literal (boolean false))) other))))

unfoldable pub term_at : Place → ℕ → Read Term
term_at place zero ts = Err Deep
term_at place (suc n) ts =
    when (codes "{") (operation_at (term_at place n)) (word_at (leaf (leaf_term place))) ts
