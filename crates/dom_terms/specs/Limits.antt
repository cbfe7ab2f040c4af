-- Needn't be believed: the program's promise doesn't speak of it. The counted quantities of the
-- definitions that those of the program stand for. They are the language's own.
use Rattle.std.specs.Prelude.{◌≡◌, Option, Some, None}
use Rattle.model_limits.specs.Limits as limits
use Rattle.dom_terms.specs.declared.limits.LimitKind.{LimitKind}
use Rattle.dom_terms.specs.declared.limits.LimitKind.TheVariants as l

-- the counted quantity
abbrev pub limit_kind_of : LimitKind → limits.LimitKind
limit_kind_of l.File = limits.file_limit
limit_kind_of l.Nesting = limits.nesting_limit
limit_kind_of l.Text = limits.text_limit
limit_kind_of l.Variables = limits.variables_limit
limit_kind_of l.Steps = limits.steps_limit
limit_kind_of l.Nodes = limits.nodes_limit
limit_kind_of l.Identifier = limits.identifier_limit
limit_kind_of l.Number = limits.number_limit
limit_kind_of l.Depth = limits.depth_limit
limit_kind_of l.Straight = limits.straight_limit
limit_kind_of l.Watch = limits.watch_limit

-- the limit that is named, if one is
abbrev pub NamesLimit : Option LimitKind → Option limits.LimitKind → Type 0
NamesLimit None limit = limit ≡ None
NamesLimit (Some kind) limit = limit ≡ Some (limit_kind_of kind)
