-- Needn't be believed: the promises speak of the table of rules. The parts of written formulas of
-- which side conditions speak, and the formula after a command that creates a node.
use Rattle.std.specs.Prelude.{zero, Option, Some, None}
use Rattle.model_shapes.specs.Sorts.{value, forest, list_sort}
use Rattle.model_terms.specs.Variables.{bound}
use Rattle.model_terms.specs.Terms.{Term, variable, raised}
use Rattle.model_formulas.specs.Formulas.{Formula, conjunction, equality, existential, empty, node_formula, one_root}

-- N in (N and P) and in ([N] and P)
abbrev pub held : Formula → Formula
held (conjunction (one_root p) q) = p
held (conjunction p q) = p
held p = p

-- T in (P and E = T)
abbrev pub name_in : Formula → Option Term
name_in (conjunction p (equality a b)) = Some b
name_in p = None

-- (exists $m . [T#x[0f]%$m]), from T and x
abbrev pub new_node : Term → Term → Formula
new_node t x =
    node_formula (raised t) x (empty forest) (variable (bound zero (value list_sort)))

abbrev pub new_root : Term → Term → Formula
new_root t x = existential (value list_sort) (one_root (new_node t x))
