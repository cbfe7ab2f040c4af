-- A formula with one part left out.
use Rattle.model_formulas.specs.Formulas.{Formula, Side, application, concatenation, grove_sum, grove_sum_hole, node_formula, one_root, one_tree}
use Rattle.model_terms.specs.Terms.{Term}
use Rattle.model_shapes.specs.Sorts.{DataSort}

pub data Frame : Type 0 where
  joined_first joined_last : Side → Formula → Frame
  plus_first plus_last plus_hole_first plus_hole_last : Formula → Frame
  in_node : Term → Term → Term → Frame
  in_tree in_root : Frame
  as_context as_part : DataSort → Formula → Frame

abbrev pub with_part : Frame → Formula → Formula
with_part (joined_first side b) p = concatenation side p b
with_part (joined_last side b) p = concatenation side b p
with_part (plus_first b) p = grove_sum p b
with_part (plus_last b) p = grove_sum b p
with_part (plus_hole_first b) p = grove_sum_hole p b
with_part (plus_hole_last b) p = grove_sum_hole b p
with_part (in_node n i l) p = node_formula n i p l
with_part in_tree p = one_tree p
with_part in_root p = one_root p
with_part (as_context h b) p = application h p b
with_part (as_part h b) p = application h b p
