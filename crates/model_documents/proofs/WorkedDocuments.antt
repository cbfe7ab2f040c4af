-- Worked documents, by computing: their text byte by byte, the first repeat in document order, the
-- first number out of range in the order of the text, and the order of the roots.
use Rattle.std.proofs.Common.{◌≡◌, ℕ, List, refl, Some, None}
use Rattle.std.specs.Prelude.{codes}
use Rattle.std.specs.Fmt.{digits}
use Rattle.model_shapes.specs.Trees.{Trees, none, node}
use Rattle.model_documents.specs.Numbers.{node_numbered, list_numbered, first_repeat, first_out_of_range}
use Rattle.model_documents.specs.Roots.{sorted_roots}
use Rattle.model_documents.specs.Printed.{grove_text}

-- a leaf before others
abbrev leaf : List ℕ → ℕ → ℕ → Trees → Trees
leaf name number list rest = node name number none list rest

-- a root with two children
abbrev page : Trees
page = node (codes "html") 1 (leaf (codes "a") 2 2 (leaf (codes "b") 3 3 none)) 1 none

page-text : grove_text page ≡ codes "[\"html\"#1[<\"a\"#2[0f]%2> * <\"b\"#3[0f]%3>]%1]"
unfolding digits
page-text = refl

empty-text : grove_text none ≡ codes "0g"
empty-text = refl

-- two roots, with a name that is escaped
pair-text : grove_text (leaf (codes "\"\\\n") 2 4294967295 (leaf (codes "") 1 1 none))
    ≡ codes "[\"\\\"\\\\\\n\"#2[0f]%4294967295] + [\"\"#1[0f]%1]"
unfolding digits
pair-text = refl

-- no number repeats, and each is in range
page-unique : first_repeat page ≡ None
page-unique = refl

page-in-range : first_out_of_range page ≡ None
page-in-range = refl

-- a node and a list may have one number, two lists may not
repeated-list : first_repeat (leaf (codes "a") 1 5 (leaf (codes "b") 2 5 none))
    ≡ Some (list_numbered 5)
repeated-list = refl

-- in document order the list of a node stands before its children: 5 is repeated before 2
list-first : first_repeat (node (codes "a") 1 (leaf (codes "b") 2 5 (leaf (codes "c") 2 6 none)) 5
    none)
    ≡ Some (list_numbered 5)
list-first = refl

-- in the order of the text it stands behind them: the node is told
node-first : first_out_of_range (node (codes "a") 1 (leaf (codes "b") 0 2 none) 0 none)
    ≡ Some (node_numbered 0)
node-first = refl

list-last : first_out_of_range (node (codes "a") 1 (leaf (codes "b") 2 2 none) 4294967296 none)
    ≡ Some (list_numbered 4294967296)
list-last = refl

-- the roots by rising number, with their children as they stood
sorted-pair : sorted_roots (node (codes "b") 7 (leaf (codes "d") 9 9 (leaf (codes "c") 8 8 none)) 7
    (leaf (codes "a") 2 2 none))
    ≡ leaf (codes "a") 2 2
    (node (codes "b") 7 (leaf (codes "d") 9 9 (leaf (codes "c") 8 8 none)) 7 none)
sorted-pair = refl
