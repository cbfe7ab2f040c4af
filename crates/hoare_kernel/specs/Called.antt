-- Needn't be believed: the rule for triples of a name, as a search.
use Rattle.std.specs.Prelude.{cond, Option, Some, None, bytes_eq}
use Rattle.model_shapes.specs.Values.{Name}
use Rattle.hoare_kernel.specs.declared.names.TripleRule.{TripleRule}
use Rattle.hoare_kernel.specs.declared.names.TripleRule.TheVariants as t
use Rattle.hoare_kernel.specs.Names.{name_of}

-- the rule, if it has the name, and else the other
abbrev pub called : Name → TripleRule → Option TripleRule → Option TripleRule
called name rule other = cond (bytes_eq name (name_of rule)) (Some rule) other

-- the rule of the name
abbrev pub rule_called : Name → Option TripleRule
rule_called name =
    called name t.Skip (called name t.Assign (called name t.Seq (called name t.If
    (called name t.While (called name t.Local (called name t.Call (called name t.Frame
    (called name t.Consequence (called name t.Eliminate (called name t.Disjunction
    (called name t.Absurd (called name t.Instance None))))))))))))
