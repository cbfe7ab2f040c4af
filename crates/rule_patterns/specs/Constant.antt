-- Needn't be believed: the closed formulas of the table, by name.
use Rattle.model_formulas.specs.Formulas.{Formula}
use Rattle.rule_table.specs.Closed.{some_node, first_and_rest, root_and_rest, some_length}

-- a node; a first tree or root and the rest; a length
pub data Constant : Type 0 where
  node_constant forest_constant grove_constant length_constant : Constant

abbrev pub constant_formula : Constant → Formula
constant_formula node_constant = some_node
constant_formula forest_constant = first_and_rest
constant_formula grove_constant = root_and_rest
constant_formula length_constant = some_length
