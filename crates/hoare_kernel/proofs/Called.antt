-- The rule of a name, and the rows under the name.
use Rattle.std.proofs.Common.{◌≡◌, refl, Bool, true, false, cond, bytes_eq, List, Option, Some, None, MatchOption}
use Rattle.std.proofs.lemmas.Slice.Eq.{bytes_eq-Decides}
use Rattle.model_shapes.specs.Values.{Name}
use Rattle.model_commands.specs.Theories.{Procedures}
use Rattle.rule_table.specs.Axioms.{axioms}
use Rattle.rule_table.specs.Entries.{Row}
use Rattle.rule_table.specs.Table.{triples}
use Rattle.rule_table.specs.Verdicts.{readings_in}
use Rattle.hoare_kernel.specs.declared.names.TripleRule.{TripleRule}
use Rattle.hoare_kernel.specs.declared.names.TripleRule.TheVariants as t
use Rattle.hoare_kernel.specs.Called.{called, rule_called}
use Rattle.hoare_kernel.specs.Names.{name_of}

module _ (name : Name) where
  -- the rule has the name, and where there is none the rows are those of the axioms
  abbrev pub Fits : Option TripleRule → List Row → Type 0
  Fits found rows = MatchOption found (rows ≡ readings_in axioms name) (λ rule. name ≡ name_of rule)

  one-more : (rule : TripleRule) (rows : List Row) (other : Option TripleRule) (others : List Row)
      → Fits other others
      → Fits (called name rule other) (cond (bytes_eq name (name_of rule)) rows others)
  one-more rule rows other others h = by_test (bytes_eq name (name_of rule)) refl
    where
      by_test : (b : Bool) → bytes_eq name (name_of rule) ≡ b
          → Fits (cond b (Some rule) other) (cond b rows others)
      by_test true e = (bytes_eq-Decides name (name_of rule)).0 e
      by_test false e = h

  -- THE RULE OF THE NAME
  pub called-fits : (procedures : Procedures)
      → Fits (rule_called name) (readings_in (triples procedures) name)
  called-fits procedures =
      one-more t.Skip _ _ _ (one-more t.Assign _ _ _ (one-more t.Seq _ _ _ (one-more t.If _ _ _
      (one-more t.While _ _ _ (one-more t.Local _ _ _ (one-more t.Call _ _ _
      (one-more t.Frame _ _ _ (one-more t.Consequence _ _ _ (one-more t.Eliminate _ _ _
      (one-more t.Disjunction _ _ _ (one-more t.Absurd _ _ _
      (one-more t.Instance _ None (readings_in axioms name) refl))))))))))))
