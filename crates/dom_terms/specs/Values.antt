-- Needn't be believed: the program's promise doesn't speak of it. The values of the definitions
-- that the program's values stand for. Node numbers and list numbers are the identifiers of PODS
-- 2008.
use Rattle.model_shapes.specs.Values as model
use Rattle.dom_terms.specs.declared.values.Value.{Value}
use Rattle.dom_terms.specs.declared.values.Value.TheVariants as v

-- the value
abbrev pub value_seen : Value → model.Value
value_seen v.NullNode = model.null
value_seen (v.Node number) = model.node_number number
value_seen v.NullList = model.nolist
value_seen (v.List number) = model.list_number number
value_seen (v.Int number) = model.int number
value_seen (v.Str text) = model.str text
value_seen (v.Bool truth) = model.boolean truth
