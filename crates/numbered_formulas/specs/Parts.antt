-- Needn't be believed: a contract says that they are the closed formulas of the table. The formulas
-- that the parts stand for.
use Rattle.std.specs.Prelude.{pos}
use Rattle.model_shapes.specs.Values.{int}
use Rattle.model_terms.specs.Variables.{bound}
use Rattle.model_terms.specs.Terms.{Term, literal, variable}
use Rattle.model_formulas.specs.Formulas.{Formula, whole, existential, conjunction, concatenation, grove_sum, one_tree, one_root, node_formula, at_most, length_is, same_as}
use Rattle.dom_terms.specs.Sorts.{sort_of}
use Rattle.numbered_formulas.specs.declared.parts.Place.{Place}
use Rattle.numbered_formulas.specs.declared.parts.Place.TheVariants as pl
use Rattle.numbered_formulas.specs.declared.parts.Part as pa

abbrev pub place_in : Place → Term
place_in pl.Zero = literal (int (pos 0))
place_in (pl.Bound number sort) = variable (bound number (sort_of sort))

abbrev pub part_in : pa.Part → Formula
part_in (pa.Exists' sort p a) = existential (sort_of sort) (part_in a)
part_in (pa.And' p a q b) = conjunction (part_in a) (part_in b)
part_in (pa.Join' p a q b) = concatenation whole (part_in a) (part_in b)
part_in (pa.Plus' p a q b) = grove_sum (part_in a) (part_in b)
part_in (pa.One' p a) = one_tree (part_in a)
part_in (pa.Root' p a) = one_root (part_in a)
part_in (pa.Node' a b p c d) = node_formula (place_in a) (place_in b) (part_in c) (place_in d)
part_in (pa.Le a b) = at_most (place_in a) (place_in b)
part_in (pa.Len a) = length_is (place_in a)
part_in (pa.Var number sort) = same_as (variable (bound number (sort_of sort)))
