-- The reader of formulas reads what the grammar spells, and only that.
use Rattle.std.proofs.Common.{◌≡◌, ℕ, zero, suc, Bool, true, false, ◌||◌, List, [], ◌∷◌, ◌++◌, Some, refl, sym, subst, append_assoc, append-nil, codes, arith}
use Rattle.std.specs.Prelude as std
use Rattle.model_shapes.specs.Sorts.{tree, forest, grove, Sort, value, node_sort}
use Rattle.model_shapes.specs.Values.{null}
use Rattle.model_terms.specs.Variables.{Var, logic}
use Rattle.model_terms.specs.Terms.{Term, literal, variable}
use Rattle.model_formulas.specs.Formulas.{Named, whole, hole_left, hole_right, truth, falsity, conjunction, disjunction, implication, negation, existential, universal, equality, at_most, empty, bare_hole, node_formula, one_tree, one_root, concatenation, grove_sum, grove_sum_hole, application, hole_adjoint, context_adjoint, same_as, length_is, value_meets}
use Rattle.model_text.specs.Lexemes.{Lexeme, terminal, logic_lexeme}
use Rattle.model_grammar.specs.Words.{the}
use Rattle.model_grammar.specs.Terms.{used_logic, in_formula, SpellsLogicName, a_logic_name, SpellsTerm, program_variable, logic_variable, text_literal, number_literal, negative_literal, constant, operation, null_word, nolist_word, yes_word, no_word, plus_sign, minus_sign, append_sign}
use Rattle.model_grammar.specs.Formulas as g
use Rattle.model_grammar.specs.Formulas.{SpellsWord, true_word, false_word, empty_forest, empty_grove, tree_hole, forest_hole, grove_hole, SpellsComparison, equal_sign, at_most_sign, SpellsQuantifier, exists_word, forall_word, SpellsConnective, SpellsFormula, a_word, shape_variable, comparison, node, a_tree, a_root, quantified, is, joined}
use Rattle.model_text.proofs.Usual.{AreUsual, is_seen}
use Rattle.token_readers.specs.Reading.{Read, ret, then, leaf, is_terminal}
use Rattle.logic_text.specs.TermReaders.{term_at}
use Rattle.logic_text.specs.FormulaReaders.{leaf_word, leaf_joining, leaf_connective, quantified_at, joined_at, joined_or_is, bracket_at, lone_variable, node_at, compared_at, formula_at, ends_formula}
use Rattle.token_readers.proofs.Sound.{Sound, Behind, After, s_ret, s_fail, s_then, s_when, s_case, s_leaf, s_begins, s_deep, s_expect, s_close}
use Rattle.token_readers.proofs.Only.{Only, OrDeep, deep, read, Prefix_free, o_last, o_then}
use Rattle.logic_text.proofs.LeafReader.{where_it_is, logic_sound}
use Rattle.logic_text.proofs.TermReader.{term_sound, term_only}

-- THE WORDS AND SIGNS
word_is : (t : Lexeme) (p : Named) → leaf_word t ≡ Some p → SpellsWord p (t ∷ [])
word_is t p e =
    where_it_is SpellsWord (codes "true") t truth p _ true_word
    (where_it_is SpellsWord (codes "false") t falsity p _ false_word
    (where_it_is SpellsWord (codes "0f") t (empty forest) p _ empty_forest
    (where_it_is SpellsWord (codes "0g") t (empty grove) p _ empty_grove
    (where_it_is SpellsWord (codes "?t") t (bare_hole tree) p _ tree_hole
    (where_it_is SpellsWord (codes "?f") t (bare_hole forest) p _ forest_hole
    (where_it_is SpellsWord (codes "?g") t (bare_hole grove) p _ grove_hole (λ h. absurd cc))))))) e

joining_is : (t : Lexeme) (o : Named → Named → Named) → leaf_joining t ≡ Some o
    → SpellsConnective o (t ∷ [])
joining_is t o e =
    where_it_is SpellsConnective (codes "*") t (concatenation whole) o _ g.star
    (where_it_is SpellsConnective (codes ".*") t (concatenation hole_left) o _ g.left_star
    (where_it_is SpellsConnective (codes "*.") t (concatenation hole_right) o _ g.right_star
    (where_it_is SpellsConnective (codes "+") t grove_sum o _ g.plus
    (where_it_is SpellsConnective (codes ".+") t grove_sum_hole o _ g.left_plus
    (where_it_is SpellsConnective (codes "@t") t (application tree) o _ g.at_tree
    (where_it_is SpellsConnective (codes "@f") t (application forest) o _ g.at_forest
    (where_it_is SpellsConnective (codes "@g") t (application grove) o _ g.at_grove
    (λ h. absurd cc)))))))) e

connective_is : (t : Lexeme) (o : Named → Named → Named) → leaf_connective t ≡ Some o
    → SpellsConnective o (t ∷ [])
connective_is t o e =
    where_it_is SpellsConnective (codes "and") t conjunction o _ g.and_word
    (where_it_is SpellsConnective (codes "or") t disjunction o _ g.or_word
    (where_it_is SpellsConnective (codes "->") t implication o _ g.arrow
    (where_it_is SpellsConnective (codes "-o") t hole_adjoint o _ g.lollipop
    (where_it_is SpellsConnective (codes "o-t") t (context_adjoint tree) o _ g.into_tree
    (where_it_is SpellsConnective (codes "o-f") t (context_adjoint forest) o _ g.into_forest
    (where_it_is SpellsConnective (codes "o-g") t (context_adjoint grove) o _ g.into_grove
    (joining_is t o))))))) e

connective_sound : (n : ℕ) → Sound n (leaf leaf_connective) SpellsConnective
connective_sound n =
    s_leaf n leaf_connective SpellsConnective (
      conjunction,
      the "and",
      g.and_word,
      (is_seen (codes "and") refl, tt),
    ) connective_is

-- a last part
pub ends_with : {A : Type 0} (L : A → List Lexeme → Type 0) {a : A} {s : List Lexeme} → L a s
    → L a (s ++ [])
ends_with L {a} {s} l = subst (λ z. L a z) (sym (append-nil s)) l

-- WHAT IS READ IS SPELLED
quantified_sound : (n : ℕ) (formula : Read Named) → Sound n formula SpellsFormula
    → (q : Var → Named → Named) (word : List ℕ) → SpellsQuantifier q (terminal word ∷ [])
    → Sound n (quantified_at formula q) (After (terminal word)
    (After (terminal (codes "(")) SpellsFormula))
unfolding quantified_at
quantified_sound n formula S q word lq =
    s_then _ (logic_sound n) λ name s ls. s_expect (codes ".") refl _ (s_then _ S λ p t lp.
    s_close n (codes ")") refl (q (used_logic name) p) _ (quantified lq ls lp))

joined_sound : (n : ℕ) (formula : Read Named) → Sound n formula SpellsFormula
    → (p : Named) (s : List Lexeme) → SpellsFormula p s
    → Sound n (joined_at formula p) (Behind s (After (terminal (codes "(")) SpellsFormula))
unfolding joined_at
joined_sound n formula S p s lp =
    s_then _ (connective_sound n) λ o t lo. s_then _ S λ q u lq. s_close n (codes ")") refl
    (o p q) _ (joined lp lo lq)

-- a formula that is a logic variable has one spelling
alone : (p : Named) (s : List Lexeme) → SpellsFormula p s → (name : List ℕ) (x : Sort)
    → p ≡ same_as (variable (logic name x))
    → (x ≡ value node_sort) × SpellsLogicName name s
alone p s (shape_variable {name = word} ls) name x e =
    let same : word ≡ name = cc in
    let sort : x ≡ value node_sort = cc in
    (sort, subst (λ z. SpellsLogicName z s) same ls)
alone p s (a_word true_word) name x e = absurd cc
alone p s (a_word false_word) name x e = absurd cc
alone p s (a_word empty_forest) name x e = absurd cc
alone p s (a_word empty_grove) name x e = absurd cc
alone p s (a_word tree_hole) name x e = absurd cc
alone p s (a_word forest_hole) name x e = absurd cc
alone p s (a_word grove_hole) name x e = absurd cc
alone p s (comparison la equal_sign lb) name x e = absurd cc
alone p s (comparison la at_most_sign lb) name x e = absurd cc
alone p s (node la lb lp lc) name x e = absurd cc
alone p s (g.length la) name x e = absurd cc
alone p s (a_tree lp) name x e = absurd cc
alone p s (a_root lp) name x e = absurd cc
alone p s (g.not lp) name x e = absurd cc
alone p s (quantified exists_word ls lp) name x e = absurd cc
alone p s (quantified forall_word ls lp) name x e = absurd cc
alone p s (is ls lp) name x e = absurd cc
alone p s (joined lp g.and_word lq) name x e = absurd cc
alone p s (joined lp g.or_word lq) name x e = absurd cc
alone p s (joined lp g.arrow lq) name x e = absurd cc
alone p s (joined lp g.star lq) name x e = absurd cc
alone p s (joined lp g.left_star lq) name x e = absurd cc
alone p s (joined lp g.right_star lq) name x e = absurd cc
alone p s (joined lp g.plus lq) name x e = absurd cc
alone p s (joined lp g.left_plus lq) name x e = absurd cc
alone p s (joined lp g.at_tree lq) name x e = absurd cc
alone p s (joined lp g.at_forest lq) name x e = absurd cc
alone p s (joined lp g.at_grove lq) name x e = absurd cc
alone p s (joined lp g.lollipop lq) name x e = absurd cc
alone p s (joined lp g.into_tree lq) name x e = absurd cc
alone p s (joined lp g.into_forest lq) name x e = absurd cc
alone p s (joined lp g.into_grove lq) name x e = absurd cc

-- the formula with `is` behind the variable
is_spelled : (x : Sort) (name : List ℕ) (q : Named) (s t : List Lexeme)
    → SpellsFormula (same_as (variable (logic name x))) s → SpellsFormula q t
    → SpellsFormula (value_meets x (variable (logic name x)) q)
    (terminal (codes "(") ∷ (s ++ (terminal (codes "is") ∷ (t ++ the ")"))))
is_spelled x name q s t lp lq =
    let h = alone _ s lp name x refl in
    subst (λ z. SpellsFormula (value_meets z (variable (logic name z)) q)
    (terminal (codes "(") ∷ (s ++ (terminal (codes "is") ∷ (t ++ the ")")))))
    (sym h.0) (is h.1 lq)

joined_or_is_sound : (n : ℕ) (formula : Read Named) → Sound n formula SpellsFormula
    → (p : Named) (s : List Lexeme) → SpellsFormula p s
    → Sound n (joined_or_is formula p) (Behind s (After (terminal (codes "(")) SpellsFormula))
joined_or_is_sound n formula S (same_as (variable (logic name x))) s lp =
    s_case (codes "is") (s_then _ S λ q t lq. s_close n (codes ")") refl
    (value_meets x (variable (logic name x)) q) _ (is_spelled x name q s t lp lq))
    (joined_sound n formula S (same_as (variable (logic name x))) s lp)
joined_or_is_sound n formula S p s lp = joined_sound n formula S p s lp

bracket_sound : (n : ℕ) (formula : Read Named) → Sound n formula SpellsFormula
    → Sound n (bracket_at formula) (After (terminal (codes "(")) SpellsFormula)
unfolding bracket_at
bracket_sound n formula S =
    s_case (codes "not") (s_then _ S λ p s lp. s_close n (codes ")") refl (negation p) _ (g.not lp))
    (s_case (codes "exists") (quantified_sound n formula S existential (codes "exists") exists_word)
    (s_case (codes "forall") (quantified_sound n formula S universal (codes "forall") forall_word)
    (s_then _ S λ p s lp. joined_or_is_sound n formula S p s lp)))

lone_sound : (n : ℕ) (a : Term) (s : List Lexeme) → SpellsTerm in_formula a s
    → (p : Named) (t : List Lexeme) → SpellsFormula p (s ++ t) → AreUsual t
    → Sound n (lone_variable a) (Behind s SpellsFormula)
lone_sound n a s (logic_variable name) p t lp seen = s_ret n
    (same_as (variable (used_logic name))) _ (shape_variable (a_logic_name name))
lone_sound n a s (program_variable name) p t lp seen = s_fail n p t _ lp seen
lone_sound n a s (text_literal text) p t lp seen = s_fail n p t _ lp seen
lone_sound n a s (number_literal m h) p t lp seen = s_fail n p t _ lp seen
lone_sound n a s (negative_literal m h) p t lp seen = s_fail n p t _ lp seen
lone_sound n a s (constant null_word) p t lp seen = s_fail n p t _ lp seen
lone_sound n a s (constant nolist_word) p t lp seen = s_fail n p t _ lp seen
lone_sound n a s (constant yes_word) p t lp seen = s_fail n p t _ lp seen
lone_sound n a s (constant no_word) p t lp seen = s_fail n p t _ lp seen
lone_sound n a s (operation la plus_sign lb) p t lp seen = s_fail n p t _ lp seen
lone_sound n a s (operation la minus_sign lb) p t lp seen = s_fail n p t _ lp seen
lone_sound n a s (operation la append_sign lb) p t lp seen = s_fail n p t _ lp seen

node_sound : (n : ℕ) (term : Read Term) (formula : Read Named)
    → Sound n term (SpellsTerm in_formula) → Sound n formula SpellsFormula
    → (a : Term) (s : List Lexeme) → SpellsTerm in_formula a s
    → Sound n (node_at term formula a) (After (terminal (codes "#")) (Behind s SpellsFormula))
unfolding node_at
node_sound n term formula T S a s la =
    s_then _ T λ b t lb. s_expect (codes "[") refl _ (s_then _ S λ p u lp. s_expect
    (codes "]") refl _ (s_expect (codes "%") refl _
    (s_then _ T λ c v lc. s_ret n (node_formula a b p c) _
    (node la lb lp (ends_with (SpellsTerm in_formula) lc)))))

compared_sound : (n : ℕ) (term : Read Term) (formula : Read Named)
    → Sound n term (SpellsTerm in_formula) → Sound n formula SpellsFormula
    → (a : Term) (s : List Lexeme) → SpellsTerm in_formula a s
    → Sound (suc n) (compared_at term formula a) (Behind s SpellsFormula)
unfolding compared_at
compared_sound n term formula T S a s la =
    s_when n (codes "=") (s_then _ T λ b t lb. s_ret n (equality a b) _
    (comparison la equal_sign (ends_with (SpellsTerm in_formula) lb)))
    (s_when n (codes "<=") (s_then _ T λ b t lb. s_ret n (at_most a b) _
    (comparison la at_most_sign (ends_with (SpellsTerm in_formula) lb)))
    (s_when n (codes "#") (node_sound n term formula T S a s la)
    (lone_sound (suc n) a s la (equality a (literal null)) (terminal (codes "=") ∷ the "null")
    (comparison la equal_sign (constant null_word))
    (is_seen (codes "=") refl, (is_seen (codes "null") refl, tt)))))

pub formula_sound : (n : ℕ) → Sound n (formula_at n) SpellsFormula
unfolding formula_at
formula_sound zero = s_deep _ _ (λ ts. refl) truth (the "true") (a_word true_word)
    (is_seen (codes "true") refl, tt)
formula_sound (suc n) =
    let S = formula_sound n in
    s_begins n (suc n) (omega arith) leaf_word ret _ SpellsFormula
    (λ t p e. s_ret n p _ (a_word (word_is t p e)))
    (s_when n (codes "(") (bracket_sound n (formula_at n) S)
    (s_when n (codes "len") (s_then _ (term_sound in_formula n) λ a s la. s_ret n (length_is a) _
    (g.length (ends_with (SpellsTerm in_formula) la)))
    (s_when n (codes "<") (s_then _ S λ p s lp. s_close n (codes ">") refl (one_tree p) _
    (a_tree lp))
    (s_when n (codes "[") (s_then _ S λ p s lp. s_close n (codes "]") refl (one_root p) _
    (a_root lp))
    (s_then _ (term_sound in_formula (suc n)) λ a s la.
    compared_sound n (term_at in_formula n) (formula_at n) (term_sound in_formula n) S a s la)))))

-- WHAT IS SPELLED IS READ
connective_only : Only (leaf leaf_connective) SpellsConnective Prefix_free
connective_only = record { only = λ o s rest l st. reads o s rest l }
  where
    reads : (o : Named → Named → Named) (s rest : List Lexeme) → SpellsConnective o s
        → OrDeep (leaf leaf_connective (s ++ rest)) o rest
    reads o s rest g.and_word = read
    reads o s rest g.or_word = read
    reads o s rest g.arrow = read
    reads o s rest g.star = read
    reads o s rest g.left_star = read
    reads o s rest g.right_star = read
    reads o s rest g.plus = read
    reads o s rest g.left_plus = read
    reads o s rest g.at_tree = read
    reads o s rest g.at_forest = read
    reads o s rest g.at_grove = read
    reads o s rest g.lollipop = read
    reads o s rest g.into_tree = read
    reads o s rest g.into_forest = read
    reads o s rest g.into_grove = read

-- a connective ends a formula
connective_ends : (o : Named → Named → Named) (t x rest : List Lexeme) → SpellsConnective o t
    → ends_formula ((t ++ x) ++ rest) ≡ true
connective_ends o t x rest g.and_word = refl
connective_ends o t x rest g.or_word = refl
connective_ends o t x rest g.arrow = refl
connective_ends o t x rest g.star = refl
connective_ends o t x rest g.left_star = refl
connective_ends o t x rest g.right_star = refl
connective_ends o t x rest g.plus = refl
connective_ends o t x rest g.left_plus = refl
connective_ends o t x rest g.at_tree = refl
connective_ends o t x rest g.at_forest = refl
connective_ends o t x rest g.at_grove = refl
connective_ends o t x rest g.lollipop = refl
connective_ends o t x rest g.into_tree = refl
connective_ends o t x rest g.into_forest = refl
connective_ends o t x rest g.into_grove = refl

-- and isn't `is`
not_is : (F : Read Named) (p : Named) (o : Named → Named → Named) (t x rest : List Lexeme)
    → SpellsConnective o t
    → joined_or_is F p ((t ++ x) ++ rest) ≡ joined_at F p ((t ++ x) ++ rest)
not_is F (same_as (variable (logic name s))) o t x rest g.and_word = refl
not_is F (same_as (variable (logic name s))) o t x rest g.or_word = refl
not_is F (same_as (variable (logic name s))) o t x rest g.arrow = refl
not_is F (same_as (variable (logic name s))) o t x rest g.star = refl
not_is F (same_as (variable (logic name s))) o t x rest g.left_star = refl
not_is F (same_as (variable (logic name s))) o t x rest g.right_star = refl
not_is F (same_as (variable (logic name s))) o t x rest g.plus = refl
not_is F (same_as (variable (logic name s))) o t x rest g.left_plus = refl
not_is F (same_as (variable (logic name s))) o t x rest g.at_tree = refl
not_is F (same_as (variable (logic name s))) o t x rest g.at_forest = refl
not_is F (same_as (variable (logic name s))) o t x rest g.at_grove = refl
not_is F (same_as (variable (logic name s))) o t x rest g.lollipop = refl
not_is F (same_as (variable (logic name s))) o t x rest g.into_tree = refl
not_is F (same_as (variable (logic name s))) o t x rest g.into_forest = refl
not_is F (same_as (variable (logic name s))) o t x rest g.into_grove = refl
not_is F p o t x rest l = refl

-- a formula that begins with a term
term_first : (n : ℕ) (a : Term) (s x : List Lexeme) → SpellsTerm in_formula a s
    → formula_at (suc n) (s ++ x) ≡ then (term_at in_formula (suc n))
    (λ a. compared_at (term_at in_formula n) (formula_at n) a) (s ++ x)
unfolding formula_at
term_first n a s x (program_variable name) = refl
term_first n a s x (logic_variable name) = refl
term_first n a s x (text_literal text) = refl
term_first n a s x (number_literal m h) = refl
term_first n a s x (negative_literal m h) = refl
term_first n a s x (constant null_word) = refl
term_first n a s x (constant nolist_word) = refl
term_first n a s x (constant yes_word) = refl
term_first n a s x (constant no_word) = refl
term_first n a s x (operation la lo lb) = refl

term_then : (n : ℕ) (a : Term) (s t rest : List Lexeme) (p : Named) (after : List Lexeme)
    → SpellsTerm in_formula a s
    → OrDeep (compared_at (term_at in_formula n) (formula_at n) a (t ++ rest)) p after
    → OrDeep (formula_at (suc n) ((s ++ t) ++ rest)) p after
term_then n a s t rest p after la h =
    subst (λ z. OrDeep (formula_at (suc n) z) p after) (sym (append_assoc s t rest))
    (subst (λ z. OrDeep z p after) (sym (term_first n a s (t ++ rest) la))
    (o_last _ (t ++ rest) (term_only in_formula (suc n)) la refl h))

-- a formula behind an open bracket begins with none of the three words
bracket_term : (F : Read Named) (a : Term) (s x y z : List Lexeme) → SpellsTerm in_formula a s
    → bracket_at F (((s ++ x) ++ y) ++ z) ≡ then F (λ p. joined_or_is F p) (((s ++ x) ++ y) ++ z)
unfolding bracket_at
bracket_term F a s x y z (program_variable name) = refl
bracket_term F a s x y z (logic_variable name) = refl
bracket_term F a s x y z (text_literal text) = refl
bracket_term F a s x y z (number_literal m h) = refl
bracket_term F a s x y z (negative_literal m h) = refl
bracket_term F a s x y z (constant null_word) = refl
bracket_term F a s x y z (constant nolist_word) = refl
bracket_term F a s x y z (constant yes_word) = refl
bracket_term F a s x y z (constant no_word) = refl
bracket_term F a s x y z (operation la lo lb) = refl

bracket_first : (F : Read Named) (p : Named) (s y z : List Lexeme) → SpellsFormula p s
    → bracket_at F ((s ++ y) ++ z) ≡ then F (λ p. joined_or_is F p) ((s ++ y) ++ z)
unfolding bracket_at
bracket_first F p s y z (a_word true_word) = refl
bracket_first F p s y z (a_word false_word) = refl
bracket_first F p s y z (a_word empty_forest) = refl
bracket_first F p s y z (a_word empty_grove) = refl
bracket_first F p s y z (a_word tree_hole) = refl
bracket_first F p s y z (a_word forest_hole) = refl
bracket_first F p s y z (a_word grove_hole) = refl
bracket_first F p s y z (shape_variable (a_logic_name name)) = refl
bracket_first F p s y z (comparison la lo lb) = bracket_term F _ _ _ y z la
bracket_first F p s y z (node la lb lp lc) = bracket_term F _ _ _ y z la
bracket_first F p s y z (g.length la) = refl
bracket_first F p s y z (a_tree lp) = refl
bracket_first F p s y z (a_root lp) = refl
bracket_first F p s y z (g.not lp) = refl
bracket_first F p s y z (quantified lq ls lp) = refl
bracket_first F p s y z (is ls lp) = refl
bracket_first F p s y z (joined lp lo lq) = refl

none_of : (a b c : Bool) → std.not (a || (b || c)) ≡ true → (a ≡ false) × (b ≡ false) × (c ≡ false)
none_of false false false e = (refl, refl, refl)
none_of false false true e = absurd cc
none_of false true c e = absurd cc
none_of true b c e = absurd cc

variable_ends : (name : List ℕ) (T : Read Term) (F : Read Named) (rest : List Lexeme)
    → ends_formula rest ≡ true
    → OrDeep (compared_at T F (variable (used_logic name)) rest)
    (same_as (variable (used_logic name))) rest
unfolding compared_at
variable_ends name T F [] st = read
variable_ends name T F (t ∷ ts) st =
    let h = none_of (is_terminal (codes "=") t) (is_terminal (codes "<=") t)
    (is_terminal (codes "#") t) st in
    let a : is_terminal (codes "=") t ≡ false = h.0 in
    let b : is_terminal (codes "<=") t ≡ false = h.1 in
    let c : is_terminal (codes "#") t ≡ false = h.2 in
    rw (a, b, c) read

formula_reads : (n : ℕ) (p : Named) (s rest : List Lexeme) → SpellsFormula p s
    → ends_formula rest ≡ true → OrDeep (formula_at n (s ++ rest)) p rest
unfolding formula_at bracket_at quantified_at joined_at compared_at node_at
formula_reads zero p s rest l st = deep
formula_reads (suc n) p s rest (a_word true_word) st = read
formula_reads (suc n) p s rest (a_word false_word) st = read
formula_reads (suc n) p s rest (a_word empty_forest) st = read
formula_reads (suc n) p s rest (a_word empty_grove) st = read
formula_reads (suc n) p s rest (a_word tree_hole) st = read
formula_reads (suc n) p s rest (a_word forest_hole) st = read
formula_reads (suc n) p s rest (a_word grove_hole) st = read
formula_reads (suc n) p s rest (shape_variable (a_logic_name name)) st =
    term_then n (variable (used_logic name)) (logic_lexeme name ∷ []) [] rest _ _
    (logic_variable name)
    (variable_ends name (term_at in_formula n) (formula_at n) rest st)
formula_reads (suc n) p s rest (comparison la equal_sign lb) st = term_then n _ _ _ rest _ _ la
    (o_last _ rest (term_only in_formula n) lb refl read)
formula_reads (suc n) p s rest (comparison la at_most_sign lb) st = term_then n _ _ _ rest _ _ la
    (o_last _ rest (term_only in_formula n) lb refl read)
formula_reads (suc n) p s rest (node la lb lp lc) st =
    let S : Only (formula_at n) SpellsFormula ends_formula = record
    { only = λ p s rest l st. formula_reads n p s rest l st } in
    let T = term_only in_formula n in
    term_then n _ _ _ rest _ _ la (o_then _ _ rest T lb refl
    (o_then _ _ rest S lp refl (o_last _ rest T lc refl read)))
formula_reads (suc n) p s rest (g.length la) st = o_last _ rest
    (term_only in_formula n) la refl read
formula_reads (suc n) p s rest (a_tree lp) st =
    let S : Only (formula_at n) SpellsFormula ends_formula = record
    { only = λ p s rest l st. formula_reads n p s rest l st } in
    o_then _ _ rest S lp refl read
formula_reads (suc n) p s rest (a_root lp) st =
    let S : Only (formula_at n) SpellsFormula ends_formula = record
    { only = λ p s rest l st. formula_reads n p s rest l st } in
    o_then _ _ rest S lp refl read
formula_reads (suc n) p s rest (g.not lp) st =
    let S : Only (formula_at n) SpellsFormula ends_formula = record
    { only = λ p s rest l st. formula_reads n p s rest l st } in
    o_then _ _ rest S lp refl read
formula_reads (suc n) p s rest (quantified exists_word (a_logic_name name) lp) st =
    let S : Only (formula_at n) SpellsFormula ends_formula = record
    { only = λ p s rest l st. formula_reads n p s rest l st } in
    o_then _ _ rest S lp refl read
formula_reads (suc n) p s rest (quantified forall_word (a_logic_name name) lp) st =
    let S : Only (formula_at n) SpellsFormula ends_formula = record
    { only = λ p s rest l st. formula_reads n p s rest l st } in
    o_then _ _ rest S lp refl read
formula_reads (suc n) p s rest (is (a_logic_name name) lp) st =
    let S : Only (formula_at n) SpellsFormula ends_formula = record
    { only = λ p s rest l st. formula_reads n p s rest l st } in
    o_last _ _ S (shape_variable (a_logic_name name)) refl (o_then _ _ rest S lp refl read)
formula_reads (suc n) p s rest (joined lp lo lq) st =
    let S : Only (formula_at n) SpellsFormula ends_formula = record
    { only = λ p s rest l st. formula_reads n p s rest l st } in
    subst (λ z. OrDeep z p rest) (sym (bracket_first (formula_at n) _ _ _ rest lp))
    (o_then _ _ rest S lp (connective_ends _ _ _ rest lo)
    (subst (λ z. OrDeep z p rest) (sym (not_is (formula_at n) _ _ _ _ rest lo))
    (o_then _ _ rest connective_only lo refl (o_then _ _ rest S lq refl read))))

pub formula_only : (n : ℕ) → Only (formula_at n) SpellsFormula ends_formula
formula_only n = record { only = λ p s rest l st. formula_reads n p s rest l st }
