-- How many brackets are open at once in formulas, and that this is what their lexemes say.
use Rattle.std.proofs.Common.{◌≡◌, ◌∙◌, ℕ, suc, ◌+◌, ◌-◌, ◌≤◌, true, false, List, [], ◌∷◌, ◌++◌, pos, negsuc, refl, sym, subst, codes, append_assoc, append-nil, arith}
use Rattle.std.specs.Prelude.{max}
use Rattle.model_shapes.specs.Sorts.{node_sort, list_sort, int_sort, str_sort, bool_sort, DataSort, tree, forest, grove, Sort, value, shape, context}
use Rattle.model_shapes.specs.Values.{null, nolist, node_number, list_number, int, str, boolean}
use Rattle.model_terms.specs.Variables.{Var, prog, logic, bound}
use Rattle.model_terms.specs.Terms.{Term, literal, variable, sum, difference, appended}
use Rattle.model_formulas.specs.Formulas.{Named, Side, whole, hole_left, hole_right, truth, falsity, conjunction, disjunction, implication, negation, existential, universal, equality, at_most, empty, bare_hole, node_formula, one_tree, one_root, concatenation, grove_sum, grove_sum_hole, application, hole_adjoint, context_adjoint, same_as, length_is, value_meets}
use Rattle.model_commands.specs.Theories.{entails}
use Rattle.model_text.specs.Lexemes.{Lexeme, terminal, name_lexeme, logic_lexeme, number_lexeme, literal_lexeme}
use Rattle.model_text.specs.Nesting.{open_behind}
use Rattle.model_grammar.specs.Words.{the, ◌⌢◌}
use Rattle.model_grammar.specs.Writing.{var_lexemes, term_lexemes, bracketed}
use Rattle.model_grammar.specs.TheoryWriting.{empty_sign, hole_sign, star_sign, at_sign, into_sign, formula_lexemes, sort_lexemes, judgement_lexemes}
use Rattle.model_filling.specs.Nested.{IsNested, Nests}

abbrev pub term_depth : Term → ℕ
term_depth (sum a b) = suc (max (term_depth a) (term_depth b))
term_depth (difference a b) = suc (max (term_depth a) (term_depth b))
term_depth (appended a b) = suc (max (term_depth a) (term_depth b))
term_depth a = 0

abbrev pub depth : Named → ℕ
depth truth = 0
depth falsity = 0
depth (conjunction p q) = suc (max (depth p) (depth q))
depth (disjunction p q) = suc (max (depth p) (depth q))
depth (implication p q) = suc (max (depth p) (depth q))
depth (negation p) = suc (depth p)
depth (existential x p) = suc (depth p)
depth (universal x p) = suc (depth p)
depth (equality a b) = max (term_depth a) (term_depth b)
depth (at_most a b) = max (term_depth a) (term_depth b)
depth (empty k) = 0
depth (bare_hole k) = 0
depth (node_formula a b p c) =
    max (term_depth a) (max (term_depth b) (max (suc (depth p)) (term_depth c)))
depth (one_tree p) = suc (depth p)
depth (one_root p) = suc (depth p)
depth (concatenation side p q) = suc (max (depth p) (depth q))
depth (grove_sum p q) = suc (max (depth p) (depth q))
depth (grove_sum_hole p q) = suc (max (depth p) (depth q))
depth (application k p q) = suc (max (depth p) (depth q))
depth (hole_adjoint p q) = suc (max (depth p) (depth q))
depth (context_adjoint k p q) = suc (max (depth p) (depth q))
depth (same_as a) = term_depth a
depth (length_is a) = term_depth a
depth (value_meets s a p) = suc (max (term_depth a) (depth p))

-- The lexemes close what they open, and so many brackets are open in them at once.
pub record HasDepth (d : ℕ) (xs : List Lexeme) : Type 0 where
  pub nests : (most before : ℕ) (rest : List Lexeme) → before + d ≤ most → IsNested most before rest
      → IsNested most before (xs ++ rest)
  pub tells : (most before : ℕ) (rest : List Lexeme) → before ≤ most
      → IsNested most before (xs ++ rest) → (before + d ≤ most) × IsNested most before rest

pub no-lexeme : HasDepth 0 []
no-lexeme = record {
  nests = λ most before rest le h. h;
  tells = λ most before rest le h. (omega (arith, le), h);
}

-- one that is no bracket
pub one-lexeme : (x : Lexeme) → ((before : ℕ) → open_behind before x ≡ before) → HasDepth 0 (x ∷ [])
one-lexeme x same = record {
  nests = λ most before rest le h. (
    omega (arith, same before, le),
    subst (λ n. IsNested most n rest) (sym (same before)) h,
  );
  tells = λ most before rest le h.
      (omega (arith, le), subst (λ n. IsNested most n rest) (same before) h.1);
}

pub word : (text : List ℕ) → ((before : ℕ) → open_behind before (terminal text) ≡ before)
    → HasDepth 0 (terminal text ∷ [])
word text = one-lexeme (terminal text)

-- two lists
pub two : (a b : ℕ) (xs ys : List Lexeme) → HasDepth a xs → HasDepth b ys
    → HasDepth (max a b) (xs ++ ys)
two a b xs ys h k = record {
  nests = λ most before rest le n. subst (IsNested most before) (sym (append_assoc xs ys rest))
      (h.nests most before (ys ++ rest) (omega (arith, le))
      (k.nests most before rest (omega (arith, le)) n));
  tells = λ most before rest le n.
      let first = h.tells most before (ys ++ rest) le
      (subst (IsNested most before) (append_assoc xs ys rest) n) in
      let second = k.tells most before rest le first.1 in
      (omega (arith, first.0, second.0), second.1);
}

-- one after another that has no bracket
pub then-one : (a : ℕ) (x : Lexeme) (xs : List Lexeme) → HasDepth 0 (x ∷ []) → HasDepth a xs
    → HasDepth a (x ∷ xs)
then-one a x xs h k =
    subst (λ d. HasDepth d (x ∷ xs)) (omega arith) (two 0 a (x ∷ []) xs h k)

-- brackets round a list, and what comes after them
pub in-brackets : (a b : ℕ) (opening closing : Lexeme) (xs ys : List Lexeme)
    → ((before : ℕ) → open_behind before opening ≡ before + 1)
    → ((before : ℕ) → open_behind before closing ≡ before - 1) → HasDepth a xs → HasDepth b ys
    → HasDepth (max (suc a) b) (opening ∷ (xs ++ (closing ∷ ys)))
in-brackets a b opening closing xs ys up down h k = record {
  nests = λ most before rest le n. (
    omega (arith, up before, le),
    subst (λ m. IsNested most m ((xs ++ (closing ∷ ys)) ++ rest)) (sym (up before))
        (subst (IsNested most (before + 1)) (sym (append_assoc xs (closing ∷ ys) rest))
        (h.nests most (before + 1) (closing ∷ (ys ++ rest)) (omega (arith, le)) (
          omega (arith, down (before + 1), le),
          subst (λ m. IsNested most m (ys ++ rest)) (omega (arith, down (before + 1)))
              (k.nests most before rest (omega (arith, le)) n),
        ))),
  );
  tells = λ most before rest le n.
      let inside : IsNested most (before + 1) ((xs ++ (closing ∷ ys)) ++ rest) =
      subst (λ m. IsNested most m ((xs ++ (closing ∷ ys)) ++ rest)) (up before) n.1 in
      let first = h.tells most (before + 1) (closing ∷ (ys ++ rest)) (omega (arith, up before, n.0))
      (subst (IsNested most (before + 1)) (append_assoc xs (closing ∷ ys) rest) inside) in
      let second = k.tells most before rest le
      (subst (λ m. IsNested most m (ys ++ rest)) (omega (arith, down (before + 1))) first.1.1) in
      (omega (arith, first.0, second.0), second.1);
}

-- one list alone in brackets
pub bracketed-depth : (a : ℕ) (opening closing : Lexeme) (xs : List Lexeme)
    → ((before : ℕ) → open_behind before opening ≡ before + 1)
    → ((before : ℕ) → open_behind before closing ≡ before - 1) → HasDepth a xs
    → HasDepth (suc a) (opening ∷ (xs ++ (closing ∷ [])))
bracketed-depth a opening closing xs up down h =
    subst (λ d. HasDepth d (opening ∷ (xs ++ (closing ∷ [])))) (omega arith)
    (in-brackets a 0 opening closing xs [] up down h no-lexeme)

-- two with a sign between them
pub signed : (a b : ℕ) (left sign right : List Lexeme) → HasDepth a left → HasDepth 0 sign
    → HasDepth b right → HasDepth (max a b) (left ++ (sign ++ right))
signed a b left sign right h s k =
    subst (λ d. HasDepth d (left ++ (sign ++ right))) (omega arith)
    (two a (max 0 b) left (sign ++ right) h (two 0 b sign right s k))

-- and both in round brackets
pub round : (a b : ℕ) (left sign right : List Lexeme) → HasDepth a left → HasDepth 0 sign
    → HasDepth b right → HasDepth (suc (max a b)) (bracketed left sign right)
round a b left sign right h s k =
    subst (λ (l : List Lexeme). HasDepth (suc (max a b)) (terminal (codes "(") ∷ l))
    (append_assoc left (sign ++ right) (the ")")
    ∙ (λ j. left ++ append_assoc sign right (the ")") j))
    (bracketed-depth (max a b) (terminal (codes "(")) (terminal (codes ")"))
    (left ++ (sign ++ right)) (λ before. refl) (λ before. refl) (signed a b left sign right h s k))

-- TERMS
pub var-depth : (x : Var) → HasDepth 0 (var_lexemes x)
var-depth (prog name s) = one-lexeme (name_lexeme name) (λ before. refl)
var-depth (logic name s) = one-lexeme (logic_lexeme name) (λ before. refl)
var-depth (bound i s) = no-lexeme

braces : (a b : ℕ) (left sign right : List Lexeme) → HasDepth a left → HasDepth 0 sign
    → HasDepth b right
    → HasDepth (suc (max a b)) (the "{" ⌢ left ⌢ sign ⌢ right ⌢ the "}")
braces a b left sign right h s k =
    subst (λ (l : List Lexeme). HasDepth (suc (max a b)) (terminal (codes "{") ∷ l))
    (append_assoc left (sign ++ right) (the "}")
    ∙ (λ j. left ++ append_assoc sign right (the "}") j))
    (bracketed-depth (max a b) (terminal (codes "{")) (terminal (codes "}"))
    (left ++ (sign ++ right)) (λ before. refl) (λ before. refl) (signed a b left sign right h s k))

pub term-depth : (a : Term) → HasDepth (term_depth a) (term_lexemes a)
term-depth (literal null) = word (codes "null") (λ before. refl)
term-depth (literal nolist) = word (codes "nolist") (λ before. refl)
term-depth (literal (node_number n)) = no-lexeme
term-depth (literal (list_number n)) = no-lexeme
term-depth (literal (int (pos n))) = one-lexeme (number_lexeme n) (λ before. refl)
term-depth (literal (int (negsuc n))) =
    then-one 0 (terminal (codes "-")) (number_lexeme (suc n) ∷ [])
    (word (codes "-") (λ before. refl)) (one-lexeme (number_lexeme (suc n)) (λ before. refl))
term-depth (literal (str text)) = one-lexeme (literal_lexeme text) (λ before. refl)
term-depth (literal (boolean true)) = word (codes "yes") (λ before. refl)
term-depth (literal (boolean false)) = word (codes "no") (λ before. refl)
term-depth (variable x) = var-depth x
term-depth (sum a b) =
    braces (term_depth a) (term_depth b) (term_lexemes a) (the "+") (term_lexemes b) (term-depth a)
    (word (codes "+") (λ before. refl)) (term-depth b)
term-depth (difference a b) =
    braces (term_depth a) (term_depth b) (term_lexemes a) (the "-") (term_lexemes b) (term-depth a)
    (word (codes "-") (λ before. refl)) (term-depth b)
term-depth (appended a b) =
    braces (term_depth a) (term_depth b) (term_lexemes a) (the "++") (term_lexemes b) (term-depth a)
    (word (codes "++") (λ before. refl)) (term-depth b)

-- FORMULAS
empty-depth : (k : DataSort) → HasDepth 0 (empty_sign k)
empty-depth tree = no-lexeme
empty-depth forest = word (codes "0f") (λ before. refl)
empty-depth grove = word (codes "0g") (λ before. refl)

hole-depth : (k : DataSort) → HasDepth 0 (hole_sign k)
hole-depth tree = word (codes "?t") (λ before. refl)
hole-depth forest = word (codes "?f") (λ before. refl)
hole-depth grove = word (codes "?g") (λ before. refl)

at-depth : (k : DataSort) → HasDepth 0 (at_sign k)
at-depth tree = word (codes "@t") (λ before. refl)
at-depth forest = word (codes "@f") (λ before. refl)
at-depth grove = word (codes "@g") (λ before. refl)

into-depth : (k : DataSort) → HasDepth 0 (into_sign k)
into-depth tree = word (codes "o-t") (λ before. refl)
into-depth forest = word (codes "o-f") (λ before. refl)
into-depth grove = word (codes "o-g") (λ before. refl)

star-depth : (side : Side) → HasDepth 0 (star_sign side)
star-depth whole = word (codes "*") (λ before. refl)
star-depth hole_left = word (codes ".*") (λ before. refl)
star-depth hole_right = word (codes "*.") (λ before. refl)

-- a word, a variable and a point before a formula, in round brackets
binder-depth : (kind : List ℕ) → ((before : ℕ) → open_behind before (terminal kind) ≡ before)
    → (x : Var) (a : ℕ) (inner : List Lexeme) → HasDepth a inner
    → HasDepth (suc a)
    (the "(" ⌢ (terminal kind ∷ []) ⌢ var_lexemes x ⌢ the "." ⌢ inner ⌢ the ")")
binder-depth kind plain x a inner h =
    subst (λ (l : List Lexeme). HasDepth (suc a) (terminal (codes "(") ∷ (terminal kind ∷ l)))
    (append_assoc (var_lexemes x) (the "." ++ inner) (the ")"))
    (bracketed-depth a (terminal (codes "(")) (terminal (codes ")"))
    (terminal kind ∷ (var_lexemes x ++ (terminal (codes ".") ∷ inner))) (λ before. refl)
    (λ before. refl)
    (then-one a (terminal kind) (var_lexemes x ++ (terminal (codes ".") ∷ inner))
    (word kind plain)
    (subst (λ d. HasDepth d (var_lexemes x ++ (terminal (codes ".") ∷ inner))) (omega arith)
    (two 0 a (var_lexemes x) (terminal (codes ".") ∷ inner) (var-depth x)
    (then-one a (terminal (codes ".")) inner (word (codes ".") (λ before. refl)) h)))))

pub formula-depth : (p : Named) → HasDepth (depth p) (formula_lexemes p)
formula-depth truth = word (codes "true") (λ before. refl)
formula-depth falsity = word (codes "false") (λ before. refl)
formula-depth (conjunction p q) =
    round (depth p) (depth q) (formula_lexemes p) (the "and") (formula_lexemes q) (formula-depth p)
    (word (codes "and") (λ before. refl)) (formula-depth q)
formula-depth (disjunction p q) =
    round (depth p) (depth q) (formula_lexemes p) (the "or") (formula_lexemes q) (formula-depth p)
    (word (codes "or") (λ before. refl)) (formula-depth q)
formula-depth (implication p q) =
    round (depth p) (depth q) (formula_lexemes p) (the "->") (formula_lexemes q) (formula-depth p)
    (word (codes "->") (λ before. refl)) (formula-depth q)
formula-depth (negation p) =
    bracketed-depth (depth p) (terminal (codes "(")) (terminal (codes ")"))
    (terminal (codes "not") ∷ formula_lexemes p) (λ before. refl) (λ before. refl)
    (then-one (depth p) (terminal (codes "not")) (formula_lexemes p)
    (word (codes "not") (λ before. refl)) (formula-depth p))
formula-depth (existential x p) =
    binder-depth (codes "exists") (λ before. refl) x (depth p) (formula_lexemes p) (formula-depth p)
formula-depth (universal x p) =
    binder-depth (codes "forall") (λ before. refl) x (depth p) (formula_lexemes p) (formula-depth p)
formula-depth (equality a b) =
    signed (term_depth a) (term_depth b) (term_lexemes a) (the "=") (term_lexemes b) (term-depth a)
    (word (codes "=") (λ before. refl)) (term-depth b)
formula-depth (at_most a b) =
    signed (term_depth a) (term_depth b) (term_lexemes a) (the "<=") (term_lexemes b) (term-depth a)
    (word (codes "<=") (λ before. refl)) (term-depth b)
formula-depth (empty k) = empty-depth k
formula-depth (bare_hole k) = hole-depth k
formula-depth (node_formula a b p c) =
    two (term_depth a) _ (term_lexemes a) _ (term-depth a)
    (then-one _ (terminal (codes "#")) _ (word (codes "#") (λ before. refl))
    (two (term_depth b) _ (term_lexemes b) _ (term-depth b)
    (in-brackets (depth p) (term_depth c) (terminal (codes "[")) (terminal (codes "]"))
    (formula_lexemes p) (terminal (codes "%") ∷ term_lexemes c) (λ before. refl) (λ before. refl)
    (formula-depth p)
    (then-one (term_depth c) (terminal (codes "%")) (term_lexemes c)
    (word (codes "%") (λ before. refl)) (term-depth c)))))
formula-depth (one_tree p) =
    bracketed-depth (depth p) (terminal (codes "<")) (terminal (codes ">")) (formula_lexemes p)
    (λ before. refl) (λ before. refl) (formula-depth p)
formula-depth (one_root p) =
    bracketed-depth (depth p) (terminal (codes "[")) (terminal (codes "]")) (formula_lexemes p)
    (λ before. refl) (λ before. refl) (formula-depth p)
formula-depth (concatenation side p q) =
    round (depth p) (depth q) (formula_lexemes p) (star_sign side) (formula_lexemes q)
    (formula-depth p) (star-depth side) (formula-depth q)
formula-depth (grove_sum p q) =
    round (depth p) (depth q) (formula_lexemes p) (the "+") (formula_lexemes q) (formula-depth p)
    (word (codes "+") (λ before. refl)) (formula-depth q)
formula-depth (grove_sum_hole p q) =
    round (depth p) (depth q) (formula_lexemes p) (the ".+") (formula_lexemes q) (formula-depth p)
    (word (codes ".+") (λ before. refl)) (formula-depth q)
formula-depth (application k p q) =
    round (depth p) (depth q) (formula_lexemes p) (at_sign k) (formula_lexemes q)
    (formula-depth p) (at-depth k) (formula-depth q)
formula-depth (hole_adjoint p q) =
    round (depth p) (depth q) (formula_lexemes p) (the "-o") (formula_lexemes q) (formula-depth p)
    (word (codes "-o") (λ before. refl)) (formula-depth q)
formula-depth (context_adjoint k p q) =
    round (depth p) (depth q) (formula_lexemes p) (into_sign k) (formula_lexemes q)
    (formula-depth p) (into-depth k) (formula-depth q)
formula-depth (same_as a) = term-depth a
formula-depth (length_is a) =
    then-one (term_depth a) (terminal (codes "len")) (term_lexemes a)
    (word (codes "len") (λ before. refl)) (term-depth a)
formula-depth (value_meets s a p) =
    round (term_depth a) (depth p) (term_lexemes a) (the "is") (formula_lexemes p) (term-depth a)
    (word (codes "is") (λ before. refl)) (formula-depth p)

-- JUDGEMENTS
pub name-depth : (name : List ℕ) → HasDepth 0 (name_lexeme name ∷ [])
name-depth name = one-lexeme (name_lexeme name) (λ before. refl)

pub sort-depth : (s : Sort) → HasDepth 0 (sort_lexemes s)
sort-depth (value node_sort) = name-depth (codes "node")
sort-depth (value list_sort) = name-depth (codes "list")
sort-depth (value int_sort) = name-depth (codes "int")
sort-depth (value str_sort) = name-depth (codes "str")
sort-depth (value bool_sort) = name-depth (codes "bool")
sort-depth (shape tree) = name-depth (codes "t")
sort-depth (shape forest) = name-depth (codes "f")
sort-depth (shape grove) = name-depth (codes "g")
sort-depth (context tree tree) = name-depth (codes "tt")
sort-depth (context tree forest) = name-depth (codes "tf")
sort-depth (context tree grove) = name-depth (codes "tg")
sort-depth (context forest tree) = name-depth (codes "ft")
sort-depth (context forest forest) = name-depth (codes "ff")
sort-depth (context forest grove) = name-depth (codes "fg")
sort-depth (context grove tree) = no-lexeme
sort-depth (context grove forest) = no-lexeme
sort-depth (context grove grove) = name-depth (codes "gg")

entails-depth : (p q : Named) (s : Sort)
    → HasDepth (max (depth p) (max (depth q) 0)) (judgement_lexemes (entails p q s))
entails-depth p q s =
    two (depth p) (max (depth q) 0) (formula_lexemes p) _ (formula-depth p)
    (then-one (max (depth q) 0) (terminal (codes "entails")) _
    (word (codes "entails") (λ before. refl))
    (two (depth q) 0 (formula_lexemes q) _ (formula-depth q)
    (then-one 0 (terminal (codes "at")) (sort_lexemes s) (word (codes "at") (λ before. refl))
    (sort-depth s))))

pub entails-nests : (most : ℕ) (p q : Named) (s : Sort) → depth p ≤ most → depth q ≤ most
    → Nests most (entails p q s)
entails-nests most p q s h k =
    subst (IsNested most 0) (append-nil (judgement_lexemes (entails p q s)))
    ((entails-depth p q s).nests most 0 [] (omega (arith, h, k)) tt)

pub nests-entails : (most : ℕ) (p q : Named) (s : Sort) → Nests most (entails p q s)
    → (depth p ≤ most) × (depth q ≤ most)
nests-entails most p q s h =
    let told = (entails-depth p q s).tells most 0 [] (omega arith)
    (subst (IsNested most 0) (sym (append-nil (judgement_lexemes (entails p q s)))) h) in
    (omega (arith, told.0), omega (arith, told.0))
