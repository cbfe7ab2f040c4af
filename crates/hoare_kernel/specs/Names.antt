-- Needn't be believed: the program's promise doesn't speak of it. The names of the rules for
-- triples.
use Rattle.std.specs.Prelude.{codes}
use Rattle.model_shapes.specs.Values.{Name}
use Rattle.hoare_kernel.specs.declared.names.TripleRule.{TripleRule}
use Rattle.hoare_kernel.specs.declared.names.TripleRule.TheVariants as t

abbrev pub name_of : TripleRule → Name
name_of t.Skip = codes "skip"
name_of t.Assign = codes "assign"
name_of t.Seq = codes "seq"
name_of t.If = codes "if"
name_of t.While = codes "while"
name_of t.Local = codes "local"
name_of t.Call = codes "call"
name_of t.Frame = codes "frame"
name_of t.Consequence = codes "consequence"
name_of t.Eliminate = codes "eliminate"
name_of t.Disjunction = codes "disjunction"
name_of t.Absurd = codes "absurd"
name_of t.Instance = codes "instance"
