-- The readers of the words of theories read what the grammar spells, and only that.
use Rattle.model_limits.specs.Limits.{standard_limits}
use Rattle.std.proofs.Common.{◌≡◌, ℕ, Bool, true, false, List, [], ◌∷◌, ◌++◌, Some, refl, sym, ap, ◌∙◌, subst, bytes_eq, codes, arith}
use Rattle.std.specs.Prelude.{◌||◌, nat_le}
use Rattle.std.proofs.Math.Bool.{or-true}
use Rattle.std.proofs.lemmas.Bool.{leb-true, le-leb}
use Rattle.std.proofs.lemmas.Slice.Eq.{bytes_eq-Decides}
use Rattle.model_shapes.specs.Sorts.{node_sort, list_sort, int_sort, str_sort, bool_sort, tree, forest, grove, Sort, value, shape, context}
use Rattle.model_text.specs.Lexemes.{Lexeme, terminal, name_lexeme, step_word, number_lexeme, is_reserved}
use Rattle.model_text.specs.Versions.{insert_word}
use Rattle.model_grammar.specs.Terms as g
use Rattle.model_grammar.specs.Terms.{SpellsShapeSort, data_sort, SpellsSort, value_sort_word, shape_sort_word}
use Rattle.model_grammar.specs.Theories.{SpellsAnyWord, plain_word, reserved_word, step_itself, insert_itself, SpellsNumber, small_number}
use Rattle.model_text.proofs.Usual.{name_seen, number_seen, node_seen, g_seen}
use Rattle.token_readers.specs.Leaves.{leaf_word, leaf_number}
use Rattle.token_readers.specs.Reading.{leaf}
use Rattle.token_readers.proofs.TerminalTests.{text_refl}
use Rattle.logic_text.proofs.LeafReader.{chosen, taken}
use Rattle.proof_text.specs.Theories.{leaf_shape_sort, shape_sort_called, leaf_sort}
use Rattle.token_readers.proofs.Sound.{Sound, s_leaf}
use Rattle.token_readers.proofs.Only.{Only, OrDeep, read, Prefix_free}
use Rattle.proof_text.proofs.ListReader.{called_it}

-- a terminal that some version reserves is a word
reserved_is : (w : List ℕ) → (is_reserved w || bytes_eq w insert_word) ≡ true
    → SpellsAnyWord w (terminal w ∷ [])
reserved_is w e = by_test (is_reserved w) refl e
  where
    by_test : (b : Bool) → is_reserved w ≡ b → (b || bytes_eq w insert_word) ≡ true
        → SpellsAnyWord w (terminal w ∷ [])
    by_test true is h = reserved_word w is
    by_test false is h =
        subst (λ z. SpellsAnyWord z (terminal z ∷ [])) (sym ((bytes_eq-Decides w insert_word).0 h))
        insert_itself

word_is : (t : Lexeme) (a : List ℕ) → leaf_word t ≡ Some a → SpellsAnyWord a (t ∷ [])
word_is (name_lexeme w) a e = let h : w ≡ a = cc in subst
    (λ z. SpellsAnyWord z (name_lexeme w ∷ [])) h (plain_word w)
word_is (step_word line) a e = let h : codes "step" ≡ a = cc in subst
    (λ z. SpellsAnyWord z (step_word line ∷ [])) h (step_itself line)
word_is (terminal w) a e =
    let h = chosen (is_reserved w || bytes_eq w insert_word) w a e in
    subst (λ z. SpellsAnyWord z (terminal w ∷ [])) h.1 (reserved_is w h.0)
word_is _ a e = absurd cc

number_is : (t : Lexeme) (a : ℕ) → leaf_number t ≡ Some a → SpellsNumber a (t ∷ [])
number_is (number_lexeme n) a e =
    let h = chosen (nat_le n standard_limits.numeral) n a e in
    subst (λ z. SpellsNumber z (number_lexeme n ∷ [])) h.1
    (small_number n (leb-true n standard_limits.numeral h.0))
number_is _ a e = absurd cc

shape_called_is : (word : List ℕ) (s : Sort) → shape_sort_called word ≡ Some s
    → SpellsShapeSort s (name_lexeme word ∷ [])
shape_called_is word s e =
    called_it SpellsShapeSort (codes "t") word (shape tree) s _ (data_sort g.tree_word)
    (called_it SpellsShapeSort (codes "f") word (shape forest) s _ (data_sort g.forest_word)
    (called_it SpellsShapeSort (codes "g") word (shape grove) s _ (data_sort g.grove_word)
    (called_it SpellsShapeSort (codes "tt") word (context tree tree) s _ g.tree_in_tree
    (called_it SpellsShapeSort (codes "tf") word (context tree forest) s _ g.tree_in_forest
    (called_it SpellsShapeSort (codes "tg") word (context tree grove) s _ g.tree_in_grove
    (called_it SpellsShapeSort (codes "ft") word (context forest tree) s _ g.forest_in_tree
    (called_it SpellsShapeSort (codes "ff") word (context forest forest) s _ g.forest_in_forest
    (called_it SpellsShapeSort (codes "fg") word (context forest grove) s _ g.forest_in_grove
    (called_it SpellsShapeSort (codes "gg") word (context grove grove) s _ g.grove_in_grove
    (λ h. absurd cc)))))))))) e

shape_sort_is : (t : Lexeme) (s : Sort) → leaf_shape_sort t ≡ Some s → SpellsShapeSort s (t ∷ [])
shape_sort_is (name_lexeme word) s e = shape_called_is word s e
shape_sort_is _ s e = absurd cc

sort_is : (t : Lexeme) (s : Sort) → leaf_sort t ≡ Some s → SpellsSort s (t ∷ [])
sort_is (name_lexeme word) s e =
    called_it SpellsSort (codes "node") word (value node_sort) s _ (value_sort_word g.node_word)
    (called_it SpellsSort (codes "list") word (value list_sort) s _
    (value_sort_word g.list_word)
    (called_it SpellsSort (codes "int") word (value int_sort) s _ (value_sort_word g.int_word)
    (called_it SpellsSort (codes "str") word (value str_sort) s _ (value_sort_word g.str_word)
    (called_it SpellsSort (codes "bool") word (value bool_sort) s _ (value_sort_word g.bool_word)
    (λ h. shape_sort_word (shape_called_is word s h)))))) e
sort_is _ s e = absurd cc

pub word_sound : (n : ℕ) → Sound n (leaf leaf_word) SpellsAnyWord
word_sound n = s_leaf n leaf_word SpellsAnyWord (
  codes "x",
  name_lexeme (codes "x") ∷ [],
  plain_word
      (codes "x"),
  (name_seen, tt),
) word_is

pub number_sound : (n : ℕ) → Sound n (leaf leaf_number) SpellsNumber
number_sound n = s_leaf n leaf_number SpellsNumber (
  1,
  number_lexeme 1 ∷ [],
  small_number 1
      (omega arith),
  (number_seen, tt),
) number_is

pub shape_sort_sound : (n : ℕ) → Sound n (leaf leaf_shape_sort) SpellsShapeSort
shape_sort_sound n = s_leaf n leaf_shape_sort SpellsShapeSort
    (shape grove, name_lexeme (codes "g") ∷ [], data_sort g.grove_word, (g_seen, tt)) shape_sort_is

pub sort_sound : (n : ℕ) → Sound n (leaf leaf_sort) SpellsSort
sort_sound n = s_leaf n leaf_sort SpellsSort (
  value node_sort,
  name_lexeme
      (codes "node") ∷ [],
  value_sort_word g.node_word,
  (node_seen, tt),
) sort_is

-- what is spelled is read
pub word_only : Only (leaf leaf_word) SpellsAnyWord Prefix_free
word_only = record { only = λ a s rest l st. reads a s rest l }
  where
    reads : (a : List ℕ) (s rest : List Lexeme) → SpellsAnyWord a s
        → OrDeep (leaf leaf_word (s ++ rest)) a rest
    reads a s rest (plain_word w) = read
    reads a s rest (reserved_word w e) =
        taken (is_reserved w || bytes_eq w insert_word) w rest _
        (ap (λ b. b || bytes_eq w insert_word) e)
    reads a s rest (step_itself line) = read
    reads a s rest insert_itself =
        taken (is_reserved insert_word || bytes_eq insert_word insert_word) insert_word rest _
        (ap (λ b. is_reserved insert_word || b) (text_refl insert_word)
        ∙ or-true (is_reserved insert_word))

pub number_only : Only (leaf leaf_number) SpellsNumber Prefix_free
number_only = record { only = λ a s rest l st. reads a s rest l }
  where
    reads : (a : ℕ) (s rest : List Lexeme) → SpellsNumber a s
        → OrDeep (leaf leaf_number (s ++ rest)) a rest
    reads a s rest (small_number n h) =
        taken (nat_le n standard_limits.numeral) n rest _ (le-leb n standard_limits.numeral h)

pub shape_sort_only : Only (leaf leaf_shape_sort) SpellsShapeSort Prefix_free
shape_sort_only = record { only = λ a s rest l st. reads a s rest l }
  where
    reads : (a : Sort) (s rest : List Lexeme) → SpellsShapeSort a s
        → OrDeep (leaf leaf_shape_sort (s ++ rest)) a rest
    reads a s rest (data_sort g.tree_word) = read
    reads a s rest (data_sort g.forest_word) = read
    reads a s rest (data_sort g.grove_word) = read
    reads a s rest g.tree_in_tree = read
    reads a s rest g.tree_in_forest = read
    reads a s rest g.tree_in_grove = read
    reads a s rest g.forest_in_tree = read
    reads a s rest g.forest_in_forest = read
    reads a s rest g.forest_in_grove = read
    reads a s rest g.grove_in_grove = read

pub sort_only : Only (leaf leaf_sort) SpellsSort Prefix_free
sort_only = record { only = λ a s rest l st. reads a s rest l }
  where
    reads : (a : Sort) (s rest : List Lexeme) → SpellsSort a s
        → OrDeep (leaf leaf_sort (s ++ rest)) a rest
    reads a s rest (value_sort_word g.node_word) = read
    reads a s rest (value_sort_word g.list_word) = read
    reads a s rest (value_sort_word g.int_word) = read
    reads a s rest (value_sort_word g.str_word) = read
    reads a s rest (value_sort_word g.bool_word) = read
    reads a s rest (shape_sort_word (data_sort g.tree_word)) = read
    reads a s rest (shape_sort_word (data_sort g.forest_word)) = read
    reads a s rest (shape_sort_word (data_sort g.grove_word)) = read
    reads a s rest (shape_sort_word g.tree_in_tree) = read
    reads a s rest (shape_sort_word g.tree_in_forest) = read
    reads a s rest (shape_sort_word g.tree_in_grove) = read
    reads a s rest (shape_sort_word g.forest_in_tree) = read
    reads a s rest (shape_sort_word g.forest_in_forest) = read
    reads a s rest (shape_sort_word g.forest_in_grove) = read
    reads a s rest (shape_sort_word g.grove_in_grove) = read
