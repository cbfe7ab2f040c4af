-- The reader of groves reads what the grammar spells, and only that.
use Rattle.std.proofs.Common.{◌≡◌, ℕ, zero, suc, ◌≤◌, true, List, [], ◌∷◌, ◌++◌, Some, refl, sym, ap, subst, append_assoc, append-nil, codes, arith, bytes_eq}
use Rattle.std.specs.List.{list_any}
use Rattle.model_shapes.specs.Trees.{Trees, none, node, hole, beside}
use Rattle.model_text.specs.Lexemes.{Lexeme, terminal, number_lexeme, literal_lexeme}
use Rattle.model_text.proofs.OfTokens.{terminals}
use Rattle.model_text.proofs.Usual.{is_seen, literal_seen, number_seen}
use Rattle.model_documents.specs.Grammar.{one, SpellsTree, tree, SpellsForest, empty_forest, some_trees, SpellsTrees, last_tree, more_trees, SpellsRoots, last_root, more_roots, SpellsGrove, empty_grove, some_roots}
use Rattle.grove_data.specs.Trees.{trees_with}
use Rattle.token_readers.specs.Reading.{Read, ret, when, expect, leaf, not_next}
use Rattle.token_readers.proofs.TerminalTests.{text_refl}
use Rattle.token_readers.proofs.Sound.{Sound, s_ret, s_then, s_case, s_leaf, s_deep, s_expect, s_expect_up, s_close}
use Rattle.token_readers.proofs.Only.{Only, OrDeep, deep, read, Prefix_free, o_last, o_then}
use Rattle.token_readers.proofs.Lists.{SpellsList, last, more, s_list, list_only}
use Rattle.logic_text.specs.TreeReaders.{leaf_literal, leaf_number, marked_at, some_at, forest_at, node_at, tree_at, grove_at}

-- ---- one lexeme

data Literal : List ℕ → List Lexeme → Type 0 where
  literal : (w : List ℕ) → Literal w (literal_lexeme w ∷ [])

data Number : ℕ → List Lexeme → Type 0 where
  numeral : (n : ℕ) → Number n (number_lexeme n ∷ [])

literal_is : (t : Lexeme) (a : List ℕ) → leaf_literal t ≡ Some a → Literal a (t ∷ [])
literal_is (literal_lexeme w) a e = let h : w ≡ a = cc in
    subst (λ (z : List ℕ). Literal z (literal_lexeme w ∷ [])) h (literal w)
literal_is _ a e = absurd cc

number_is : (t : Lexeme) (a : ℕ) → leaf_number t ≡ Some a → Number a (t ∷ [])
number_is (number_lexeme n) a e = let h : n ≡ a = cc in
    subst (λ (z : ℕ). Number z (number_lexeme n ∷ [])) h (numeral n)
number_is _ a e = absurd cc

literal_sound : (n : ℕ) → Sound n (leaf leaf_literal) Literal
literal_sound n = s_leaf n leaf_literal Literal
    ([], literal_lexeme [] ∷ [], literal [], (literal_seen, tt)) literal_is

number_sound : (n : ℕ) → Sound n (leaf leaf_number) Number
number_sound n = s_leaf n leaf_number Number
    (1, number_lexeme 1 ∷ [], numeral 1, (number_seen, tt)) number_is

-- ---- a tree between two marks

pub data Marked (left right : List ℕ) : Trees → List Lexeme → Type 0 where
  marked : {a : Trees} {s : List Lexeme} → SpellsTree a s
      → Marked left right a (terminal left ∷ (s ++ one right))

-- the mark is one of the terminals
abbrev IsMark : List ℕ → Type 0
IsMark mark = list_any (bytes_eq mark) terminals ≡ true

marked_sound : (left right : List ℕ) → IsMark left → IsMark right → (n : ℕ) (reader : Read Trees)
    → Sound n reader SpellsTree → Sound n (marked_at left right reader) (Marked left right)
unfolding marked_at
marked_sound left right l r n reader S =
    s_expect left l _ (s_then _ S λ a s la. s_close n right r a _ (marked la))

-- a mark that comes is read
expected : {A : Type 0} (mark : List ℕ) (r : Read A) (ts : List Lexeme) {a : A}
    {rest : List Lexeme} → OrDeep (r ts) a rest → OrDeep (expect mark r (terminal mark ∷ ts)) a rest
expected mark r ts {a} {rest} h =
    let e : expect mark r (terminal mark ∷ ts) ≡ r ts = rw (text_refl mark) refl in
    subst (λ (z : _). OrDeep z a rest) (sym e) h

marked_only : (left right : List ℕ) (reader : Read Trees) → Only reader SpellsTree Prefix_free
    → Only (marked_at left right reader) (Marked left right) Prefix_free
unfolding marked_at
marked_only left right reader O = record { only = λ a s rest l st. reads a s rest l }
  where
    reads : (a : Trees) (s rest : List Lexeme) → Marked left right a s
        → OrDeep (marked_at left right reader (s ++ rest)) a rest
    reads a s rest (marked {s = t} la) =
        expected left _ ((t ++ one right) ++ rest)
        (o_then _ (one right) rest O la refl (expected right (ret a) rest read))

-- ---- one or more trees

beside_none : (a : Trees) → beside a none ≡ a
beside_none none = refl
beside_none (node name number kids list rest) = ap (node name number kids list) (beside_none rest)
beside_none (hole rest) = ap hole (beside_none rest)

-- a forest as a list of trees
record Listed (left right between : List ℕ) (forest : Trees) (s : List Lexeme) : Type 0 where
  trees : List Trees
  same : trees_with trees ≡ forest
  spelled : SpellsList between (Marked left right) trees s

-- with the marks round a tree and between two, what the grammar spells of one tree and of more
module _ (left right between : List ℕ) where
  one_listed : {a : Trees} {s : List Lexeme} → SpellsTree a s
      → Listed left right between a (terminal left ∷ (s ++ one right))
  one_listed {a} l = record { trees = a ∷ []; same = beside_none a; spelled = last (marked l) }

  more_listed : {a b : Trees} {s t : List Lexeme} → SpellsTree a s → Listed left right between b t
      → Listed left right between (beside a b)
      (terminal left ∷ (s ++ (terminal right ∷ (terminal between ∷ t))))
  more_listed {a} {b} {s} {t} l x = record {
    trees = a ∷ x.trees;
    same = ap (beside a) x.same;
    spelled = subst (λ (z : List Lexeme). SpellsList between (Marked left right) (a ∷ x.trees)
        (terminal left ∷ z)) (append_assoc s (one right) (terminal between ∷ t))
        (more (marked l) x.spelled);
  }

  module _ (L M : Trees → List Lexeme → Type 0) (is : (a : Trees) (s : List Lexeme) → L a s → M a s)
      (last_one : (a : Trees) (s : List Lexeme) → SpellsTree a s
      → L a (terminal left ∷ (s ++ one right)))
      (one_more : (a b : Trees) (s t : List Lexeme) → SpellsTree a s → L b t
      → L (beside a b) (terminal left ∷ (s ++ (terminal right ∷ (terminal between ∷ t))))) where
    ended : {a : Trees} {s : List Lexeme} → Marked left right a s → L (beside a none) s
    ended {s = s} (marked {a = a} l) =
        subst (λ (z : Trees). L z s) (sym (beside_none a)) (last_one a _ l)

    gone_on : {a b : Trees} {s t : List Lexeme} → Marked left right a s → L b t
        → L (beside a b) (s ++ (terminal between ∷ t))
    gone_on {b = b} {t = t} (marked {a = a} {s = s} l) lb =
        subst (λ (z : List Lexeme). L (beside a b) (terminal left ∷ z))
        (sym (append_assoc s (one right) (terminal between ∷ t))) (one_more a b s t l lb)

    forest_of_list : {trees : List Trees} {s : List Lexeme}
        → SpellsList between (Marked left right) trees s → L (trees_with trees) s
    forest_of_list (last l) = ended l
    forest_of_list (more l ls) = gone_on l (forest_of_list ls)

    some_sound : IsMark left → IsMark right → (most n : ℕ) → n ≤ most → (reader : Read Trees)
        → Sound n reader SpellsTree → Sound n (some_at left right between most reader) M
    unfolding some_at
    some_sound l r most n h reader S =
        s_then M (s_list between most n h (marked_sound left right l r n reader S)) λ trees s ls.
        s_ret n (trees_with trees) _ (subst (λ (z : List Lexeme). M (trees_with trees) z)
        (sym (append-nil s)) (is _ _ (forest_of_list ls)))

  some_read : (most : ℕ) (reader : Read Trees) → Only reader SpellsTree Prefix_free
      → (a : Trees) (s rest : List Lexeme) → Listed left right between a s
      → not_next between rest ≡ true
      → OrDeep (some_at left right between most reader (s ++ rest)) a rest
  unfolding some_at
  some_read most reader O a s rest x st =
      subst (λ (z : Trees). OrDeep (some_at left right between most reader (s ++ rest)) z rest)
      x.same
      (o_last _ rest (list_only between (marked_at left right reader) (Marked left right)
      (marked_only left right reader O) most) x.spelled st read)

-- ---- forests

listed_trees : {a : Trees} {s : List Lexeme} → SpellsTrees a s
    → Listed (codes "<") (codes ">") (codes "*") a s
listed_trees (last_tree l) = one_listed (codes "<") (codes ">") (codes "*") l
listed_trees (more_trees l ls) = more_listed (codes "<") (codes ">") (codes "*") l (listed_trees ls)

forest_sound : (most n : ℕ) → n ≤ most → (reader : Read Trees) → Sound n reader SpellsTree
    → Sound n (forest_at most reader) SpellsForest
unfolding forest_at
forest_sound most n h reader S =
    s_case (codes "0f") (s_ret n none _ empty_forest)
    (some_sound (codes "<") (codes ">") (codes "*") SpellsTrees SpellsForest (λ a s l. some_trees l)
    (λ a s l. last_tree l) (λ a b s t l ls. more_trees l ls) refl refl most n h reader S)

-- trees begin with a mark
no_empty_forest : {a : Trees} {s : List Lexeme} (rest : List Lexeme) (r other : Read Trees)
    → SpellsTrees a s → when (codes "0f") r other (s ++ rest) ≡ other (s ++ rest)
no_empty_forest rest r other (last_tree l) = refl
no_empty_forest rest r other (more_trees l ls) = refl

forest_read : (most : ℕ) (reader : Read Trees) → Only reader SpellsTree Prefix_free
    → (a : Trees) (s rest : List Lexeme) → SpellsForest a s → not_next (codes "*") rest ≡ true
    → OrDeep (forest_at most reader (s ++ rest)) a rest
unfolding forest_at
forest_read most reader O a s rest empty_forest st = read
forest_read most reader O a s rest (some_trees l) st =
    subst (λ (z : _). OrDeep z a rest)
    (sym (no_empty_forest rest (ret none)
    (some_at (codes "<") (codes ">") (codes "*") most reader) l))
    (some_read (codes "<") (codes ">") (codes "*") most reader O a s rest (listed_trees l) st)

forest_only : (most : ℕ) (reader : Read Trees) → Only reader SpellsTree Prefix_free
    → Only (forest_at most reader) SpellsForest (not_next (codes "*"))
forest_only most reader O = record
    { only = λ a s rest l st. forest_read most reader O a s rest l st }

-- ---- trees

a_tree : {name : List ℕ} {id list : ℕ} {kids : Trees} {l m s n : List Lexeme} → Literal name l
    → Number id m → SpellsForest kids s → Number list n
    → SpellsTree (node name id kids list none)
    (l ++ (terminal (codes "#") ∷ (m
    ++ (terminal (codes "[") ∷ (s ++ (terminal (codes "]")
    ∷ (terminal (codes "%") ∷ (n ++ []))))))))
a_tree (literal name) (numeral id) lk (numeral list) = tree name id list lk

node_sound : (n : ℕ) (forest : Read Trees) → Sound n forest SpellsForest
    → Sound (suc n) (node_at forest) SpellsTree
unfolding node_at
node_sound n forest S =
    s_then _ (literal_sound (suc n)) λ name l ll. s_expect_up n (codes "#") refl _
    (s_then _ (number_sound n) λ id m lm.
    s_expect (codes "[") refl _ (s_then _ S λ kids s ls. s_expect (codes "]") refl _
    (s_expect (codes "%") refl _ (s_then _ (number_sound n) λ list u lu.
    s_ret n (node name id kids list none) _ (a_tree ll lm ls lu)))))

tree_sound : (most n : ℕ) → n ≤ most → Sound n (tree_at most n) SpellsTree
unfolding tree_at
tree_sound most zero h = s_deep _ _ (λ ts. refl) (node [] 1 none 1 none) _
    (tree [] 1 1 empty_forest) (
      literal_seen,
      (
        is_seen (codes "#") refl,
        (
          number_seen,
          (
            is_seen (codes "[") refl,
            (
              is_seen (codes "0f") refl,
              (
                is_seen (codes "]") refl,
                (is_seen (codes "%") refl, (number_seen, tt)),
              ),
            ),
          ),
        ),
      ),
    )
tree_sound most (suc n) h = node_sound n (forest_at most (tree_at most n))
    (forest_sound most n (omega arith) (tree_at most n) (tree_sound most n (omega arith)))

tree_read : (most n : ℕ) (a : Trees) (s rest : List Lexeme) → SpellsTree a s
    → OrDeep (tree_at most n (s ++ rest)) a rest
unfolding tree_at node_at
tree_read most zero a s rest l = deep
tree_read most (suc n) a s rest (tree name id list lk) =
    let O : Only (tree_at most n) SpellsTree Prefix_free =
    record { only = λ a s rest l st. tree_read most n a s rest l } in
    o_then _ _ rest (forest_only most (tree_at most n) O) lk refl read

tree_only : (most n : ℕ) → Only (tree_at most n) SpellsTree Prefix_free
tree_only most n = record { only = λ a s rest l st. tree_read most n a s rest l }

-- ---- groves

listed_roots : {a : Trees} {s : List Lexeme} → SpellsRoots a s
    → Listed (codes "[") (codes "]") (codes "+") a s
listed_roots (last_root l) = one_listed (codes "[") (codes "]") (codes "+") l
listed_roots (more_roots l ls) = more_listed (codes "[") (codes "]") (codes "+") l (listed_roots ls)

pub grove_sound : (most n : ℕ) → n ≤ most → Sound n (grove_at most n) SpellsGrove
unfolding grove_at
grove_sound most n h =
    s_case (codes "0g") (s_ret n none _ empty_grove)
    (some_sound (codes "[") (codes "]") (codes "+") SpellsRoots SpellsGrove (λ a s l. some_roots l)
    (λ a s l. last_root l) (λ a b s t l ls. more_roots l ls) refl refl most n h (tree_at most n)
    (tree_sound most n h))

-- roots begin with a mark
no_empty_grove : {a : Trees} {s : List Lexeme} (rest : List Lexeme) (r other : Read Trees)
    → SpellsRoots a s → when (codes "0g") r other (s ++ rest) ≡ other (s ++ rest)
no_empty_grove rest r other (last_root l) = refl
no_empty_grove rest r other (more_roots l ls) = refl

grove_read : (most n : ℕ) (a : Trees) (s rest : List Lexeme) → SpellsGrove a s
    → not_next (codes "+") rest ≡ true → OrDeep (grove_at most n (s ++ rest)) a rest
unfolding grove_at
grove_read most n a s rest empty_grove st = read
grove_read most n a s rest (some_roots l) st =
    subst (λ (z : _). OrDeep z a rest)
    (sym (no_empty_grove rest (ret none)
    (some_at (codes "[") (codes "]") (codes "+") most (tree_at most n)) l))
    (some_read (codes "[") (codes "]") (codes "+") most (tree_at most n) (tree_only most n) a s
    rest (listed_roots l) st)

pub grove_only : (most n : ℕ) → Only (grove_at most n) SpellsGrove (not_next (codes "+"))
grove_only most n = record { only = λ a s rest l st. grove_read most n a s rest l st }
