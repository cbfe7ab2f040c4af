-- The patterns are the table: for each row, what a choice makes of the pattern is the row's line.
use Rattle.std.proofs.Common.{◌≡◌, refl, sym, ap, ◌∙◌, Bool, true, false, cond, bytes_eq, List, [], ◌∷◌}
use Rattle.model_shapes.specs.Values.{Name}
use Rattle.rule_table.specs.Entries.{Row, Entry}
use Rattle.rule_table.specs.Table.{entailments}
use Rattle.rule_table.specs.Verdicts.{readings_in}
use Rattle.rule_patterns.specs.Patterns.{LinePattern, rows_of}
use Rattle.rule_patterns.specs.Ways.{Way, matched, computed, ways, way_in, way_of}

-- the rows of the patterns, in the place of these
abbrev rows_by : Way → List Row → List Row
rows_by (matched ps) rows = rows_of ps
rows_by computed rows = rows

abbrev readings : List Entry → List (List Row)
readings [] = []
readings (entry ∷ entries) = entry.readings ∷ readings entries

abbrev readings_by : List Way → List Entry → List (List Row)
readings_by [] entries = []
readings_by (way ∷ ws) [] = []
readings_by (way ∷ ws) (entry ∷ entries) = rows_by way entry.readings ∷ readings_by ws entries

-- EVALUATED, ROW BY ROW
all_tied : readings_by ways entailments ≡ readings entailments
all_tied = refl

-- OF THE RULE OF A NAME
abbrev head_or : {A : Type 0} → A → List A → A
head_or a [] = a
head_or a (b ∷ bs) = b

abbrev tail : {A : Type 0} → List A → List A
tail [] = []
tail (a ∷ rest) = rest

way-named : (entries : List Entry) (ws : List Way) → readings_by ws entries ≡ readings entries
    → (name : Name)
    → rows_by (way_in entries ws name) (readings_in entries name) ≡ readings_in entries name
way-named [] ws e name = refl
way-named (entry ∷ entries) [] e name = absurd cc
way-named (entry ∷ entries) (way ∷ ws) e name =
    by_test (bytes_eq name entry.name) (way-named entries ws (ap tail e) name)
  where
    by_test : (b : Bool)
        → rows_by (way_in entries ws name) (readings_in entries name) ≡ readings_in entries name
        → rows_by (cond b way (way_in entries ws name))
        (cond b entry.readings (readings_in entries name))
        ≡ cond b entry.readings (readings_in entries name)
    by_test true r = ap (head_or []) e
    by_test false r = r

-- the patterns of a rule give its rows
pub tied : (name : Name) (ps : List LinePattern) → way_of name ≡ matched ps
    → rows_of ps ≡ readings_in entailments name
tied name ps matches = sym (ap (λ way. rows_by way (readings_in entailments name)) matches)
    ∙ way-named entailments ways all_tied name
