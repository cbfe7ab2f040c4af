-- Needn't be believed: the program's promise doesn't speak of it. How sorts, variables, terms and
-- conditions are spelled in bytes: a struct is its fields in order, an enum one byte, the place of
-- its variant counted from 0, and then the fields of that.
use Rattle.std.specs.Prelude.{ℕ, List, [], ◌∷◌, ◌++◌}
use Rattle.model_shapes.specs.Sorts.{ValueSort, node_sort, list_sort, int_sort, str_sort, bool_sort, DataSort, tree, forest, grove, Sort, value, shape, context}
use Rattle.model_shapes.specs.Values.{null, nolist, node_number, list_number, int, str, boolean}
use Rattle.model_terms.specs.Variables.{Var, prog, logic, bound}
use Rattle.model_terms.specs.Terms.{Term, literal, variable, sum, difference, appended}
use Rattle.model_terms.specs.Stores.{ProgVar, as_var}
use Rattle.model_terms.specs.Conditions.{Cond, cond_true, cond_false, cond_variable, cond_equal, cond_at_most, cond_not, cond_and, cond_or}
use Rattle.model_certificates.specs.Numbers.{integer_bytes, truth_bytes, text_bytes}

abbrev pub value_sort_bytes : ValueSort → List ℕ
value_sort_bytes node_sort = 0 ∷ []
value_sort_bytes list_sort = 1 ∷ []
value_sort_bytes int_sort = 2 ∷ []
value_sort_bytes str_sort = 3 ∷ []
value_sort_bytes bool_sort = 4 ∷ []

abbrev pub data_sort_bytes : DataSort → List ℕ
data_sort_bytes tree = 0 ∷ []
data_sort_bytes forest = 1 ∷ []
data_sort_bytes grove = 2 ∷ []

abbrev pub sort_bytes : Sort → List ℕ
sort_bytes (value s) = 0 ∷ value_sort_bytes s
sort_bytes (shape k) = 1 ∷ data_sort_bytes k
sort_bytes (context h k) = 2 ∷ (data_sort_bytes h ++ data_sort_bytes k)

-- a variable: its name and its sort; a bound one without a name isn't spelled
abbrev pub var_bytes : Var → List ℕ
var_bytes (prog name s) = text_bytes name ++ value_sort_bytes s
var_bytes (logic name s) = text_bytes name ++ sort_bytes s
var_bytes (bound i s) = []

-- a variable of a program
abbrev pub prog_var_bytes : ProgVar → List ℕ
prog_var_bytes x = var_bytes (as_var x)

-- a variable as a term: first, whether it is one of a program or of the logic
abbrev pub variable_bytes : Var → List ℕ
variable_bytes (prog name s) = 5 ∷ var_bytes (prog name s)
variable_bytes (logic name s) = 6 ∷ var_bytes (logic name s)
variable_bytes (bound i s) = []

-- a term; a number of a node or a list isn't spelled
abbrev pub term_bytes : Term → List ℕ
term_bytes (literal null) = 0 ∷ []
term_bytes (literal nolist) = 1 ∷ []
term_bytes (literal (int z)) = 2 ∷ integer_bytes z
term_bytes (literal (str text)) = 3 ∷ text_bytes text
term_bytes (literal (boolean b)) = 4 ∷ truth_bytes b
term_bytes (literal (node_number n)) = []
term_bytes (literal (list_number n)) = []
term_bytes (variable x) = variable_bytes x
term_bytes (sum a b) = 7 ∷ (term_bytes a ++ term_bytes b)
term_bytes (difference a b) = 8 ∷ (term_bytes a ++ term_bytes b)
term_bytes (appended a b) = 9 ∷ (term_bytes a ++ term_bytes b)

abbrev pub cond_bytes : Cond → List ℕ
cond_bytes cond_true = 0 ∷ []
cond_bytes cond_false = 1 ∷ []
cond_bytes (cond_variable x) = 2 ∷ prog_var_bytes x
cond_bytes (cond_equal a b) = 3 ∷ (term_bytes a ++ term_bytes b)
cond_bytes (cond_at_most a b) = 4 ∷ (term_bytes a ++ term_bytes b)
cond_bytes (cond_not c) = 5 ∷ cond_bytes c
cond_bytes (cond_and c d) = 6 ∷ (cond_bytes c ++ cond_bytes d)
cond_bytes (cond_or c d) = 7 ∷ (cond_bytes c ++ cond_bytes d)
