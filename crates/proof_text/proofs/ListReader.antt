-- The readers of names, sorts and items in brackets read what the grammar spells, and only that.
use Rattle.std.proofs.Common.{◌≡◌, ℕ, ◌≤◌, Bool, true, false, cond, List, [], ◌∷◌, ◌++◌, Option, Some, refl, sym, subst, append_assoc, codes, bytes_eq}
use Rattle.std.proofs.lemmas.Slice.Eq.{bytes_eq-Decides}
use Rattle.model_shapes.specs.Sorts.{ValueSort, node_sort, list_sort, int_sort, str_sort, bool_sort, DataSort, tree, forest, grove}
use Rattle.model_terms.specs.Stores.{ProgVar}
use Rattle.model_text.specs.Lexemes.{Lexeme, terminal, name_lexeme}
use Rattle.model_grammar.specs.Words.{the}
use Rattle.model_grammar.specs.Terms.{used_name, SpellsName, a_name, SpellsValueSort, node_word, list_word, int_word, str_word, bool_word, SpellsDataSort, tree_word, forest_word, grove_word}
use Rattle.model_grammar.specs.Commands.{Listed, last_item, more_items, Bracketed, no_item, some_items, SpellsVariable, a_variable}
use Rattle.model_text.proofs.Usual.{name_seen, node_seen, g_seen}
use Rattle.token_readers.specs.Reading.{Read, ret, then, when, expect, leaf, sep_list}
use Rattle.token_readers.specs.Leaves.{leaf_name}
use Rattle.proof_text.specs.Lists.{comma, called, leaf_value_sort, leaf_data_sort, leaf_variable, bracketed_at}
use Rattle.token_readers.proofs.Sound.{Sound, s_ret, s_then, s_case, s_leaf, s_expect, s_close}
use Rattle.token_readers.proofs.Only.{Only, OrDeep, read, Prefix_free, o_then}
use Rattle.token_readers.proofs.Lists.{SpellsList, last, more, s_list, list_only}

name_is : (t : Lexeme) (a : List ℕ) → leaf_name t ≡ Some a → SpellsName a (t ∷ [])
name_is (name_lexeme word) a e = let h : word ≡ a = cc in subst
    (λ z. SpellsName z (name_lexeme word ∷ [])) h (a_name word)
name_is _ a e = absurd cc

variable_is : (t : Lexeme) (x : ProgVar) → leaf_variable t ≡ Some x → SpellsVariable x (t ∷ [])
variable_is (name_lexeme word) x e = let h : used_name word
    ≡ x = cc in subst (λ z. SpellsVariable z (name_lexeme word ∷ [])) h (a_variable (a_name word))
variable_is _ x e = absurd cc

by_test : {A : Type 0} (L : A → List Lexeme → Type 0) (b : Bool) (text word : List ℕ) (x a : A)
    (other : Option A)
    → bytes_eq word text ≡ b → L x (name_lexeme text ∷ [])
    → (other ≡ Some a → L a (name_lexeme word ∷ []))
    → cond b (Some x) other ≡ Some a → L a (name_lexeme word ∷ [])
by_test L true text word x a other is l rest e =
    let same : x ≡ a = cc in
    let word_is : text ≡ word = sym ((bytes_eq-Decides word text).0 is) in
    subst (λ z. L z (name_lexeme word ∷ [])) same (subst (λ z. L x (name_lexeme z ∷ [])) word_is l)
by_test L false text word x a other is l rest e = rest e

-- the first word that it is gives the value
pub called_it : {A : Type 0} (L : A → List Lexeme → Type 0) (text word : List ℕ) (x a : A)
    (other : Option A)
    → L x (name_lexeme text ∷ []) → (other ≡ Some a → L a (name_lexeme word ∷ []))
    → called text word x other ≡ Some a → L a (name_lexeme word ∷ [])
called_it L text word x a other l rest e = by_test L (bytes_eq word text) text word x a other refl l
    rest e

value_sort_is : (t : Lexeme) (s : ValueSort) → leaf_value_sort t ≡ Some s
    → SpellsValueSort s (t ∷ [])
value_sort_is (name_lexeme word) s e =
    called_it SpellsValueSort (codes "node") word node_sort s _ node_word
    (called_it SpellsValueSort (codes "list") word list_sort s _ list_word
    (called_it SpellsValueSort (codes "int") word int_sort s _ int_word
    (called_it SpellsValueSort (codes "str") word str_sort s _ str_word
    (called_it SpellsValueSort (codes "bool") word bool_sort s _ bool_word (λ h. absurd cc))))) e
value_sort_is _ s e = absurd cc

pub data_sort_is : (t : Lexeme) (s : DataSort) → leaf_data_sort t ≡ Some s
    → SpellsDataSort s (t ∷ [])
data_sort_is (name_lexeme word) s e =
    called_it SpellsDataSort (codes "t") word tree s _ tree_word
    (called_it SpellsDataSort (codes "f") word forest s _ forest_word
    (called_it SpellsDataSort (codes "g") word grove s _ grove_word (λ h. absurd cc))) e
data_sort_is _ s e = absurd cc

pub name_sound : (n : ℕ) → Sound n (leaf leaf_name) SpellsName
name_sound n = s_leaf n leaf_name SpellsName (
  codes "x",
  name_lexeme (codes "x") ∷ [],
  a_name
      (codes "x"),
  (name_seen, tt),
) name_is

pub variable_sound : (n : ℕ) → Sound n (leaf leaf_variable) SpellsVariable
variable_sound n = s_leaf n leaf_variable SpellsVariable (
  used_name (codes "x"),
  name_lexeme (codes "x") ∷ [],
  a_variable (a_name (codes "x")),
  (name_seen, tt),
) variable_is

pub value_sort_sound : (n : ℕ) → Sound n (leaf leaf_value_sort) SpellsValueSort
value_sort_sound n = s_leaf n leaf_value_sort SpellsValueSort
    (node_sort, name_lexeme (codes "node") ∷ [], node_word, (node_seen, tt)) value_sort_is

pub data_sort_sound : (n : ℕ) → Sound n (leaf leaf_data_sort) SpellsDataSort
data_sort_sound n = s_leaf n leaf_data_sort SpellsDataSort
    (grove, name_lexeme (codes "g") ∷ [], grove_word, (g_seen, tt)) data_sort_is

-- what is spelled is read
pub name_only : Only (leaf leaf_name) SpellsName Prefix_free
name_only = record { only = λ a s rest l st. reads a s rest l }
  where
    reads : (a : List ℕ) (s rest : List Lexeme) → SpellsName a s
        → OrDeep (leaf leaf_name (s ++ rest)) a rest
    reads a s rest (a_name word) = read

pub variable_only : Only (leaf leaf_variable) SpellsVariable Prefix_free
variable_only = record { only = λ a s rest l st. reads a s rest l }
  where
    reads : (a : ProgVar) (s rest : List Lexeme) → SpellsVariable a s
        → OrDeep (leaf leaf_variable (s ++ rest)) a rest
    reads a s rest (a_variable (a_name word)) = read

pub value_sort_only : Only (leaf leaf_value_sort) SpellsValueSort Prefix_free
value_sort_only = record { only = λ a s rest l st. reads a s rest l }
  where
    reads : (a : ValueSort) (s rest : List Lexeme) → SpellsValueSort a s
        → OrDeep (leaf leaf_value_sort (s ++ rest)) a rest
    reads a s rest node_word = read
    reads a s rest list_word = read
    reads a s rest int_word = read
    reads a s rest str_word = read
    reads a s rest bool_word = read

pub data_sort_only : Only (leaf leaf_data_sort) SpellsDataSort Prefix_free
data_sort_only = record { only = λ a s rest l st. reads a s rest l }
  where
    reads : (a : DataSort) (s rest : List Lexeme) → SpellsDataSort a s
        → OrDeep (leaf leaf_data_sort (s ++ rest)) a rest
    reads a s rest tree_word = read
    reads a s rest forest_word = read
    reads a s rest grove_word = read

-- a list of items with commas between them, as the grammar has it
pub items_of : {A : Type 0} {L : A → List Lexeme → Type 0} {xs : List A} {s : List Lexeme}
    → SpellsList comma L xs s → Listed L xs s
items_of (last l) = last_item l
items_of (more l ls) = more_items l (items_of ls)

pub listed : {A : Type 0} {L : A → List Lexeme → Type 0} {xs : List A} {s : List Lexeme}
    → Listed L xs s → SpellsList comma L xs s
listed (last_item l) = last l
listed (more_items l ls) = more l (listed ls)

module _ {A : Type 0} (item : Read A) (L : A → List Lexeme → Type 0) where
  pub bracketed_sound : (most n : ℕ) → n ≤ most → Sound n item L
      → Sound n (bracketed_at item most) (Bracketed L)
  unfolding bracketed_at
  bracketed_sound most n h S =
      s_expect (codes "(") refl _ (s_case (codes ")") (s_ret n [] _ no_item)
      (s_then _ (s_list comma most n h S) λ xs s ls. s_close n (codes ")") refl xs _
      (some_items (items_of ls))))

  module _ (O : Only item L Prefix_free)
      -- no item begins with a closing bracket
      (opens : (a : A) (s rest : List Lexeme) (r other : Read (List A)) → L a s
      → when (codes ")") r other (s ++ rest) ≡ other (s ++ rest)) where
    not_closed : {xs : List A} {s : List Lexeme} (rest : List Lexeme) (r other : Read (List A))
        → Listed L xs s → when (codes ")") r other (s ++ rest) ≡ other (s ++ rest)
    not_closed rest r other (last_item {x = x} {item = s} l) = opens x s rest r other l
    not_closed rest r other (more_items {x = x} {item = s} {others = t} l ls) =
        subst (λ z. when (codes ")") r other z ≡ other z)
        (sym (append_assoc s (terminal comma ∷ t) rest))
        (opens x s ((terminal comma ∷ t) ++ rest) r other l)

    bracketed_read : (most : ℕ) (xs : List A) (s rest : List Lexeme) → Bracketed L xs s
        → OrDeep (bracketed_at item most (s ++ rest)) xs rest
    unfolding bracketed_at
    bracketed_read most xs s rest no_item = read
    bracketed_read most xs s rest (some_items {items = u} ls) =
        let inside : Read (List A) = then (sep_list comma item most) λ xs. expect (codes ")")
        (ret xs) in
        let skips : when (codes ")") (ret []) inside ((u ++ the ")") ++ rest)
        ≡ inside ((u ++ the ")") ++ rest) =
        subst (λ z. when (codes ")") (ret []) inside z ≡ inside z)
        (sym (append_assoc u (the ")") rest)) (not_closed (the ")" ++ rest) (ret []) inside ls)
        in
        subst (λ z. OrDeep z xs rest) (sym skips)
        (o_then _ (the ")") rest (list_only comma item L O most) (listed ls) refl read)

    pub bracketed_only : (most : ℕ) → Only (bracketed_at item most) (Bracketed L) Prefix_free
    bracketed_only most = record { only = λ a s rest l st. bracketed_read most a s rest l }
