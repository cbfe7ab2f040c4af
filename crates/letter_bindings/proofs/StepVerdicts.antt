-- The verdict on a step by the rows of its rule: of two rows the one that goes farther says it.
use Rattle.std.proofs.Common.{◌≡◌, zero, suc, subst, true, inl, inr, ⊎_elim, Some, List, [], ◌∷◌}
use Rattle.model_shapes.specs.Values.{Name}
use Rattle.model_shapes.proofs.Truth.{both_true}
use Rattle.rule_table.specs.Letters.{Letters}
use Rattle.rule_table.specs.Entries.{Row}
use Rattle.rule_table.specs.Lines.{Line}
use Rattle.rule_table.specs.Table.{entailments}
use Rattle.rule_table.specs.Verdicts.{Written, Concludes, Follows, MeetsFirst, MeetsAll, SomeLine, side_at, Verdict, instance_verdict, shape_verdict, premises_verdict, side_verdict, IsVerdict, readings_in}
use Rattle.rule_patterns.specs.Patterns.{LinePattern, line_of, rows_of}
use Rattle.rule_patterns.specs.Ways.{matched, way_of}
use Rattle.rule_patterns.proofs.Ties.{tied}
use Rattle.letter_bindings.specs.Bodies.{JudgementSorted}
use Rattle.letter_bindings.specs.Lines.{row_verdict, farther, verdict_by}
use Rattle.letter_bindings.proofs.RowTests.{row_ready, all_ready, ready-of}
use Rattle.letter_bindings.proofs.RowVerdicts.{RowIs, row-verdict-is, row-has-verdict}

-- a verdict that names a condition names the first one
abbrev pub RowsAre : List Row → Written → Verdict → Type 0
RowsAre rows w instance_verdict = SomeLine rows (MeetsAll w)
RowsAre rows w shape_verdict = SomeLine rows (Concludes w) → ⊥
RowsAre rows w premises_verdict =
    SomeLine rows (Concludes w) × (SomeLine rows (Follows w) → ⊥)
RowsAre rows w (side_verdict name) =
    SomeLine rows (λ line. MeetsFirst zero w line × (side_at zero line.conditions ≡ Some name))
    × (SomeLine rows (MeetsFirst (suc zero) w) → ⊥)

pub rows-verdict : (rows : List Row) (w : Written) (v : Verdict) → RowsAre rows w v
    → IsVerdict rows w v
rows-verdict rows w instance_verdict h = h
rows-verdict rows w shape_verdict h = h
rows-verdict rows w premises_verdict h = h
rows-verdict rows w (side_verdict name) h = (zero, h.0, h.1)

-- less is no more
some-less : (rows : List Row) (P Q : Line → Type 0) → ((line : Line) → P line → Q line)
    → SomeLine rows P → SomeLine rows Q
some-less [] P Q f m = m
some-less (row ∷ rows) P Q f m =
    ⊎_elim (λ x. inl (x.0, f (row x.0) x.1)) (λ h. inr (some-less rows P Q f h)) m

module _ (row : Row) (rows : List Row) (w : Written) where
  follows-concludes : SomeLine rows (Follows w) → SomeLine rows (Concludes w)
  follows-concludes = some-less rows (Follows w) (Concludes w) (λ line h. h.0)

  meets-follows : SomeLine rows (MeetsFirst (suc zero) w) → SomeLine rows (Follows w)
  meets-follows = some-less rows (MeetsFirst (suc zero) w) (Follows w) (λ line h. h.0)

  -- none of the row, and none of the others
  none : (P : Line → Type 0) → ((l : Letters) → P (row l) → ⊥) → (SomeLine rows P → ⊥)
      → SomeLine (row ∷ rows) P → ⊥
  none P f g m = ⊎_elim (λ x. f x.0 x.1) g m

  farther-is : (v u : Verdict) → RowIs row w v → RowsAre rows w u
      → RowsAre (row ∷ rows) w (farther v u)
  farther-is instance_verdict u h i = inl h
  farther-is shape_verdict instance_verdict h i = inr i
  farther-is premises_verdict instance_verdict h i = inr i
  farther-is (side_verdict name) instance_verdict h i = inr i
  farther-is (side_verdict name) shape_verdict h i = (
    inl h.0,
    none (MeetsFirst (suc zero) w) h.1 (λ m. i (follows-concludes (meets-follows m))),
  )
  farther-is (side_verdict name) premises_verdict h i =
      (inl h.0, none (MeetsFirst (suc zero) w) h.1 (λ m. i.1 (meets-follows m)))
  farther-is (side_verdict name) (side_verdict other) h i =
      (inl h.0, none (MeetsFirst (suc zero) w) h.1 i.1)
  farther-is shape_verdict (side_verdict name) h i =
      (inr i.0, none (MeetsFirst (suc zero) w) (λ l m. h l m.0.0) i.1)
  farther-is premises_verdict (side_verdict name) h i =
      (inr i.0, none (MeetsFirst (suc zero) w) (λ l m. h.1 l m.0) i.1)
  farther-is premises_verdict shape_verdict h i =
      (inl h.0, none (Follows w) h.1 (λ m. i (follows-concludes m)))
  farther-is premises_verdict premises_verdict h i = (inl h.0, none (Follows w) h.1 i.1)
  farther-is shape_verdict premises_verdict h i =
      (inr i.0, none (Follows w) (λ l m. h l m.0) i.1)
  farther-is shape_verdict shape_verdict h i = none (Concludes w) h i

rows-are : (ps : List LinePattern) → all_ready ps ≡ true → (w : Written)
    → JudgementSorted w.conclusion → RowsAre (rows_of ps) w (verdict_by ps w)
rows-are [] e w s = λ m. m
rows-are (p ∷ ps) e w s =
    let a : (row_ready p ≡ true) × (all_ready ps ≡ true) = both_true _ _ e in
    farther-is (λ l. line_of l p) (rows_of ps) w (row_verdict p w) (verdict_by ps w)
    (row-verdict-is p a.0 w s) (rows-are ps a.1 w s)

-- THE VERDICT OF WALKS
pub verdict-by : (ps : List LinePattern) → all_ready ps ≡ true → (w : Written)
    → JudgementSorted w.conclusion → IsVerdict (rows_of ps) w (verdict_by ps w)
verdict-by ps e w s = rows-verdict (rows_of ps) w (verdict_by ps w) (rows-are ps e w s)

pub verdict-named : (name : Name) (ps : List LinePattern) → way_of name ≡ matched ps
    → (w : Written) → JudgementSorted w.conclusion
    → IsVerdict (readings_in entailments name) w (verdict_by ps w)
verdict-named name ps m w s = subst (λ rows. IsVerdict rows w (verdict_by ps w))
    (tied name ps m) (verdict-by ps (ready-of name ps m) w s)

-- THERE IS ONE, also where binders bind variables of other sorts
rows-have : (ps : List LinePattern) → all_ready ps ≡ true → (w : Written)
    → (v : Verdict) × RowsAre (rows_of ps) w v
rows-have [] e w = (shape_verdict, λ m. m)
rows-have (p ∷ ps) e w =
    let a : (row_ready p ≡ true) × (all_ready ps ≡ true) = both_true _ _ e in
    let b : (v : Verdict) × RowIs (λ l. line_of l p) w v = row-has-verdict p a.0 w in
    let c : (v : Verdict) × RowsAre (rows_of ps) w v = rows-have ps a.1 w in (
      farther b.0 c.0,
      farther-is (λ l. line_of l p) (rows_of ps) w b.0 c.0 b.1 c.1,
    )

pub has-verdict : (name : Name) (ps : List LinePattern) → way_of name ≡ matched ps
    → (w : Written) → (v : Verdict) × IsVerdict (readings_in entailments name) w v
has-verdict name ps m w =
    let a : (v : Verdict) × RowsAre (rows_of ps) w v = rows-have ps (ready-of name ps m) w in (
      a.0,
      subst (λ rows. IsVerdict rows w a.0) (tied name ps m)
          (rows-verdict (rows_of ps) w a.0 a.1),
    )
