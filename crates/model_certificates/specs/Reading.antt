-- Needn't be believed: laws say that these read what is spelled, and nothing else. Readers of a
-- list of bytes: each gives a value and the rest, or nothing. What the program reads is compared
-- with them.
use Rattle.model_limits.specs.Limits.{standard_limits}
use Rattle.std.specs.Prelude.{ℕ, zero, suc, ℤ, pos, negsuc, Bool, true, false, not, ◌&&◌, ◌==◌, cond, List, [], ◌∷◌, length, take, drop, nat_le, bytes_eq, Option, Some, None}
use Rattle.std.specs.Int.{w32, w64, from_be_bytes, cast_signed}
use Rattle.std.specs.Str.{is_utf8}
use Rattle.model_shapes.specs.Sorts.{ValueSort, node_sort, list_sort, int_sort, str_sort, bool_sort, DataSort, tree, forest, grove, Sort, value, shape, context}
use Rattle.model_shapes.specs.Values.{null, nolist, int, str, boolean}
use Rattle.model_terms.specs.Variables.{Var, prog, logic, var_sort}
use Rattle.model_terms.specs.Terms.{Term, literal, variable, sum, difference, appended}
use Rattle.model_terms.specs.Stores.{ProgVar, named}
use Rattle.model_terms.specs.Conditions.{Cond, cond_true, cond_false, cond_variable, cond_equal, cond_at_most, cond_not, cond_and, cond_or}
use Rattle.model_formulas.specs.Formulas.{Named, Side, whole, hole_left, hole_right, truth, falsity, conjunction, disjunction, implication, negation, existential, universal, equality, at_most, empty, bare_hole, node_formula, one_tree, one_root, concatenation, grove_sum, grove_sum_hole, application, hole_adjoint, context_adjoint, same_as, length_is, value_meets}
use Rattle.model_text.specs.Lexemes.{Lexeme, terminal, step_word, name_lexeme, logic_lexeme, word_lexeme}
use Rattle.model_text.specs.Versions.{insert_word}
use Rattle.model_text.specs.Nesting.{lexemes_of}
use Rattle.model_grammar.specs.Terms.{Place, in_formula, in_command}
use Rattle.model_certificates.specs.Numbers.{number_bytes, integer_bytes}

abbrev pub Read : Type 0 → Type 0
Read A = List ℕ → Option (A × List ℕ)

infixl 10 ◌>>=◌
abbrev pub ◌>>=◌ : {A B : Type 0} → Option A → (A → Option B) → Option B
(Some x) >>= f = f x
None >>= f = None

-- ---- how readers are put together

-- reads nothing; never reads
abbrev pub nothing : Read (Unit {0})
nothing bs = Some (tt, bs)

abbrev pub never : {A : Type 0} → Read A
never bs = None

-- a value made of what is read
abbrev pub made : {X A : Type 0} → (X → A) → Read X → Read A
made f r bs = r bs >>= λ x. Some (f x.0, x.1)

-- one value, always the same, of no bytes
abbrev pub is : {A : Type 0} → A → Read A
is a = made (λ x. a) nothing

-- one after the other, which may go by the first
abbrev pub linked : {A B : Type 0} → Read A → (A → Read B) → Read (A × B)
linked r q bs = r bs >>= λ x. q x.0 x.1 >>= λ y. Some ((x.0, y.0), y.1)

abbrev pub both : {A B : Type 0} → Read A → Read B → Read (A × B)
both r q = linked r (λ x. q)

-- what passes a test
abbrev pub kept : {A : Type 0} → (A → Bool) → Read A → Read A
kept test r bs = r bs >>= λ x. cond (test x.0) (Some x) None

-- so many bytes, where they are those that are written for what they stand for
abbrev pub fixed : {A : Type 0} → ℕ → (List ℕ → A) → (A → List ℕ) → (A → Bool) → Read A
fixed k decoded spelled test bs =
    cond (bytes_eq (spelled (decoded (take k bs))) (take k bs) && test (decoded (take k bs)))
    (Some (decoded (take k bs), drop k bs)) None

-- the reader at a place of a list
abbrev pub chosen : {A : Type 0} → List (Read A) → ℕ → Read A
chosen [] k bs = None
chosen (r ∷ rs) zero bs = r bs
chosen (r ∷ rs) (suc k) bs = chosen rs k bs

-- a byte says which of these reads on
abbrev pub tagged : {A : Type 0} → List (Read A) → Read A
tagged rs [] = None
tagged rs (k ∷ bs) = chosen rs k bs

-- so many, one after another
unfoldable pub counted : {A : Type 0} → Read A → ℕ → Read (List A)
counted r zero bs = Some ([], bs)
counted r (suc n) bs = r bs >>= λ x. counted r n x.1 >>= λ y. Some (x.0 ∷ y.0, y.1)

-- ---- numbers, texts and lists

unfoldable pub number_at : Read ℕ
number_at = fixed 4 (from_be_bytes w32) number_bytes (λ n. nat_le n standard_limits.numeral)

-- the integer can be written
abbrev pub is_written : ℤ → Bool
is_written (pos n) = nat_le n standard_limits.integer
is_written (negsuc n) = nat_le (suc n) standard_limits.integer

unfoldable pub integer_at : Read ℤ
integer_at = fixed 8 (λ bs. cast_signed w64 (from_be_bytes w64 bs)) integer_bytes is_written

abbrev pub truth_at : Read Bool
truth_at = tagged (is false ∷ is true ∷ [])

-- so many bytes of UTF-8
abbrev pub letters : ℕ → ℕ → Read (List ℕ)
letters most n bs =
    cond (nat_le n (length bs) && (nat_le n most && is_utf8 (take n bs)))
    (Some (take n bs, drop n bs)) None

unfoldable pub text_at : ℕ → Read (List ℕ)
text_at most bs = number_at bs >>= λ n. letters most n.0 n.1

unfoldable pub listed : {A : Type 0} → Read A → Read (List A)
listed r bs = number_at bs >>= λ n. counted r n.0 n.1

-- ---- names

-- the lexemes are a name alone, and this one
abbrev pub is_name_of : List ℕ → List Lexeme → Bool
is_name_of name (name_lexeme w ∷ []) = bytes_eq w name
is_name_of name lexemes = false

-- so for a name of the logic
abbrev pub is_logic_of : List ℕ → List Lexeme → Bool
is_logic_of name (logic_lexeme w ∷ []) = bytes_eq w name
is_logic_of name lexemes = false

-- and for a word, reserved or not
abbrev pub same_word : Lexeme → Lexeme → Bool
same_word (terminal v) (terminal w) = bytes_eq v w
same_word (step_word m) (step_word n) = nat_le m n && nat_le n m
same_word (name_lexeme v) (name_lexeme w) = bytes_eq v w
same_word x y = false

abbrev pub is_word_of : List ℕ → List Lexeme → Bool
is_word_of name (x ∷ []) = same_word x (word_lexeme name 1)
is_word_of name lexemes = false

-- the word that only one version reserves is a name in the others
abbrev pub is_free : ℕ → List ℕ → Bool
is_free version name = not (bytes_eq name insert_word && (version == 2))

unfoldable pub name_at : ℕ → Read (List ℕ)
name_at version =
    kept (is_free version) (kept (λ name. is_name_of name (lexemes_of name))
    (text_at standard_limits.file_bytes))

unfoldable pub logic_name_at : Read (List ℕ)
logic_name_at =
    kept (λ name. is_logic_of name (lexemes_of name)) (text_at standard_limits.file_bytes)

unfoldable pub word_at : Read (List ℕ)
word_at = kept (λ name. is_word_of name (lexemes_of name)) (text_at standard_limits.file_bytes)

-- ---- sorts and variables

abbrev pub value_sort_at : Read ValueSort
value_sort_at =
    tagged (is node_sort ∷ is list_sort ∷ is int_sort ∷ is str_sort ∷ is bool_sort ∷ [])

abbrev pub data_sort_at : Read DataSort
data_sort_at = tagged (is tree ∷ is forest ∷ is grove ∷ [])

unfoldable pub sort_at : Read Sort
sort_at =
    tagged (made value value_sort_at ∷ made shape data_sort_at
    ∷ made (λ x. context x.0 x.1) (both data_sort_at data_sort_at) ∷ [])

unfoldable pub prog_var_at : ℕ → Read ProgVar
prog_var_at version = made (λ x. named x.0 x.1) (both (name_at version) value_sort_at)

unfoldable pub logic_var_at : Read Var
logic_var_at = made (λ x. logic x.0 x.1) (both logic_name_at sort_at)

-- a variable of the logic, where one may stand
abbrev pub logic_at : Place → Read Var
logic_at in_formula = logic_var_at
logic_at in_command = never

-- ---- terms and conditions, of no more levels

abbrev pub as_term : ProgVar → Term
as_term (named name s) = variable (prog name s)

unfoldable pub term_at : ℕ → Place → ℕ → Read Term
term_at version place zero = never
term_at version place (suc n) =
    tagged (is (literal null)
    ∷ is (literal nolist)
    ∷ made (λ z. literal (int z)) integer_at
    ∷ made (λ t. literal (str t)) (text_at standard_limits.text_bytes)
    ∷ made (λ b. literal (boolean b)) truth_at
    ∷ made as_term (prog_var_at version)
    ∷ made variable (logic_at place)
    ∷ made (λ x. sum x.0 x.1) (both (term_at version place n) (term_at version place n))
    ∷ made (λ x. difference x.0 x.1) (both (term_at version place n) (term_at version place n))
    ∷ made (λ x. appended x.0 x.1) (both (term_at version place n) (term_at version place n))
    ∷ [])

unfoldable pub cond_at : ℕ → ℕ → Read Cond
cond_at version zero = never
cond_at version (suc n) =
    let term = term_at version in_command n in
    tagged (is cond_true
    ∷ is cond_false
    ∷ made cond_variable (prog_var_at version)
    ∷ made (λ x. cond_equal x.0 x.1) (both term term)
    ∷ made (λ x. cond_at_most x.0 x.1) (both term term)
    ∷ made cond_not (cond_at version n)
    ∷ made (λ x. cond_and x.0 x.1) (both (cond_at version n) (cond_at version n))
    ∷ made (λ x. cond_or x.0 x.1) (both (cond_at version n) (cond_at version n))
    ∷ [])

-- ---- formulas

abbrev pub side_at : Read Side
side_at = tagged (is whole ∷ is hole_left ∷ is hole_right ∷ [])

unfoldable pub formula_at : ℕ → ℕ → Read Named
formula_at version zero = never
formula_at version (suc n) =
    let formula = formula_at version n in
    let term = term_at version in_formula n in
    tagged (is truth
    ∷ is falsity
    ∷ made (λ x. conjunction x.0 x.1) (both formula formula)
    ∷ made (λ x. disjunction x.0 x.1) (both formula formula)
    ∷ made (λ x. implication x.0 x.1) (both formula formula)
    ∷ made negation formula
    ∷ made (λ x. existential x.0 x.1) (both logic_var_at formula)
    ∷ made (λ x. universal x.0 x.1) (both logic_var_at formula)
    ∷ made (λ x. equality x.0 x.1) (both term term)
    ∷ made (λ x. at_most x.0 x.1) (both term term)
    ∷ is (empty forest)
    ∷ is (empty grove)
    ∷ made bare_hole data_sort_at
    ∷ made (λ x. node_formula x.0 x.1.0 x.1.1.0 x.1.1.1) (both term (both term (both formula term)))
    ∷ made one_tree formula
    ∷ made one_root formula
    ∷ made (λ x. concatenation x.0 x.1.0 x.1.1) (both side_at (both formula formula))
    ∷ made (λ x. grove_sum x.0 x.1) (both formula formula)
    ∷ made (λ x. grove_sum_hole x.0 x.1) (both formula formula)
    ∷ made (λ x. application x.0 x.1.0 x.1.1) (both data_sort_at (both formula formula))
    ∷ made (λ x. hole_adjoint x.0 x.1) (both formula formula)
    ∷ made (λ x. context_adjoint x.0 x.1.0 x.1.1) (both data_sort_at (both formula formula))
    ∷ made (λ x. same_as (variable x)) logic_var_at
    ∷ made length_is term
    ∷ made (λ x. value_meets (var_sort x.0) (variable x.0) x.1) (both logic_var_at formula)
    ∷ [])
