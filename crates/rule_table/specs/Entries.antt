-- The entries of the tables of rules.
use Rattle.std.specs.Prelude.{List, [], ◌∷◌, ◌++◌, map, codes}
use Rattle.model_shapes.specs.Values.{Name}
use Rattle.model_commands.specs.Theories.{Judgement}
use Rattle.rule_table.specs.Letters.{Letters}
use Rattle.rule_table.specs.Lines.{Line, always}

-- a row: a line for each choice of the letters
abbrev pub Row : Type 0
Row = Letters → Line

-- the rows of a rule, one for each of its readings
pub record Entry : Type 0 where
  pub name : Name
  pub readings : List Row

-- an entry
abbrev pub ◌is◌ : Name → List Row → Entry
name is readings = record { name = name; readings = readings }

infix 30 ◌is◌
-- a rule with one reading; one without premises, too
abbrev pub rule : Name → Row → Entry
rule name row = name is row ∷ []

abbrev pub says : Name → (Letters → Judgement) → Entry
says name conclusion = rule name (λ l. always (conclusion l))

-- both ways: the rule reads from left to right, and that with `_back` from right to left
abbrev pub both_ways : Name → List (Letters → Line × Line) → List Entry
both_ways name rows =
    (name is map (λ row l. (row l).0) rows)
    ∷ (name ++ codes "_back" is map (λ row l. (row l).1) rows) ∷ []

abbrev pub both : Name → (Letters → Line × Line) → List Entry
both name row = both_ways name (row ∷ [])
