-- The values that the words of a run stand for as arguments, and the procedure that it runs.
use Rattle.std.specs.Prelude.{ℕ, zero, suc, nat_le, ◌==◌, List, [], ◌∷◌, length, Option, Some, None, cond, option_map, bytes_eq, codes, pos, negsuc, true, false}
use Rattle.model_shapes.specs.Sorts.{ValueSort, node_sort, list_sort, int_sort, str_sort, bool_sort}
use Rattle.model_shapes.specs.Values.{Name, Text, Value, null, nolist, node_number, list_number, int, str, boolean}
use Rattle.model_formulas.specs.Formulas.{Named}
use Rattle.model_terms.specs.Stores.{ProgVar, sort_of}
use Rattle.model_commands.specs.Theories.{ProcedureOf, Theory, procedure_named}
use Rattle.model_limits.specs.Limits.{standard_limits}
use Rattle.model_answers.specs.Words.{decimal_of}

-- the codes of characters that the rules name: of `#`, `%` and `-`
abbrev pub number_sign : ℕ
number_sign = 35

abbrev pub percent : ℕ
percent = 37

abbrev pub minus : ℕ
minus = 45

-- a positive number of a node or a list
abbrev pub positive_of : (ℕ → Value) → Option ℕ → Option Value
positive_of named None = None
positive_of named (Some zero) = None
positive_of named (Some (suc n)) = Some (named (suc n))

-- such a number behind its mark
abbrev pub marked : ℕ → (ℕ → Value) → Text → Option Value
marked mark named [] = None
marked mark named (first ∷ digits) =
    cond (first == mark) (positive_of named (decimal_of standard_limits.identifier digits)) None

-- an integer below 0, from the digits behind its sign
abbrev pub negative_of : Option ℕ → Option Value
negative_of None = None
negative_of (Some zero) = None
negative_of (Some (suc n)) = Some (int (negsuc n))

-- an integer: a decimal, or `-` and a decimal that isn't 0
abbrev pub integer_of : Text → Option Value
integer_of [] = None
integer_of (first ∷ rest) =
    cond (first == minus) (negative_of (decimal_of standard_limits.integer rest))
    (option_map (λ n. int (pos n)) (decimal_of standard_limits.integer (first ∷ rest)))

-- AN ARGUMENT: the value that a word reads as at a sort
abbrev pub argument_of : ValueSort → Text → Option Value
argument_of node_sort word =
    cond (bytes_eq word (codes "null")) (Some null) (marked number_sign node_number word)
argument_of list_sort word =
    cond (bytes_eq word (codes "nolist")) (Some nolist) (marked percent list_number word)
argument_of int_sort word = integer_of word
argument_of str_sort word =
    cond (nat_le (length word) standard_limits.text_bytes) (Some (str word)) None
argument_of bool_sort word = cond (bytes_eq word (codes "yes")) (Some (boolean true))
    (cond (bytes_eq word (codes "no")) (Some (boolean false)) None)

-- a value before others
abbrev pub value_before : Option Value → Option (List Value) → Option (List Value)
value_before (Some v) (Some vs) = Some (v ∷ vs)
value_before v vs = None

-- the values for these parameters: as many words, each of which reads
abbrev pub arguments_of : List ProgVar → List (List ℕ) → Option (List Value)
arguments_of [] [] = Some []
arguments_of (x ∷ xs) (word ∷ words) =
    value_before (argument_of (sort_of x) word) (arguments_of xs words)
arguments_of xs words = None

-- a procedure with values for its parameters
abbrev pub with_arguments : Option (ProcedureOf Named) → List (List ℕ)
    → Option (ProcedureOf Named × List Value)
with_arguments None words = None
with_arguments (Some f) words = option_map (λ values. (f, values)) (arguments_of f.params words)

-- WHAT IS RUN: a procedure of the theory, with the values of the arguments; nothing where it isn't
-- in the file, where the number of arguments differs, or where one doesn't read at its sort
abbrev pub called : Theory → Name → List (List ℕ) → Option (ProcedureOf Named × List Value)
called theory name words = with_arguments (procedure_named name theory.procedures) words
