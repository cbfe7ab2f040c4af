-- The closed formulas of the rules. Their variables have names of one letter here; without the
-- names of bound variables, each reads as it would with any others.
use Rattle.std.specs.Prelude.{ℕ, pos, codes}
use Rattle.model_shapes.specs.Values.{Name, int}
use Rattle.model_shapes.specs.Sorts.{Sort, value, shape, node_sort, list_sort, int_sort, str_sort, tree, forest, grove}
use Rattle.model_terms.specs.Terms.{Term, literal}
use Rattle.model_formulas.specs.Formulas.{Formula, at_most, node_formula, one_tree, one_root, same_as, length_is}
use Rattle.rule_table.specs.Letters.{LogicVar, as_term}
use Rattle.rule_table.specs.Notation.{◌and◌, ◌∗◌, ◌⊹◌, for_some}

-- a number as a term
abbrev pub number : ℕ → Term
number n = literal (int (pos n))

-- the logic variable of the name and the sort
abbrev pub ◌of◌ : Name → Sort → LogicVar
name of sort = record { name = name; sort = sort }

infix 30 ◌of◌
-- $s, $i and $l for the name and the numbers of a node, $n for an integer
abbrev $s : LogicVar
$s = codes "s" of value str_sort

abbrev $i : LogicVar
$i = codes "i" of value node_sort

abbrev $l : LogicVar
$l = codes "l" of value list_sort

abbrev $n : LogicVar
$n = codes "n" of value int_sort

-- $t, $f and $g for a tree, a forest and a grove
abbrev $t : LogicVar
$t = codes "t" of shape tree

abbrev $f : LogicVar
$f = codes "f" of shape forest

abbrev $g : LogicVar
$g = codes "g" of shape grove

-- the variable as a formula
abbrev like : LogicVar → Formula
like x = same_as (as_term x)

-- (exists $s . (exists $i . (exists $f . (exists $l . $s#$i[$f]%$l))))
abbrev pub some_node : Formula
some_node =
    for_some $s (for_some $i (for_some $f (for_some $l
    (node_formula (as_term $s) (as_term $i) (like $f) (as_term $l)))))

-- (exists $t . (exists $f . (<$t> * $f)))
abbrev pub first_and_rest : Formula
first_and_rest = for_some $t (for_some $f (one_tree (like $t) ∗ like $f))

-- (exists $t . (exists $g . ([$t] + $g)))
abbrev pub root_and_rest : Formula
root_and_rest = for_some $t (for_some $g (one_root (like $t) ⊹ like $g))

-- (exists $n . (len $n and 0 <= $n))
abbrev pub some_length : Formula
some_length = for_some $n (length_is (as_term $n) and at_most (number 0) (as_term $n))
