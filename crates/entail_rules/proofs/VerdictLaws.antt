-- Verdicts, from how far some lines go.
use Rattle.std.proofs.Common.{◌≡◌, inl, inr, ⊎_elim, List, [], ◌∷◌, Option, Some}
use Rattle.model_commands.specs.Theories.{Judgement}
use Rattle.rule_table.specs.Lines.{Line}
use Rattle.rule_table.specs.Entries.{Row}
use Rattle.rule_table.specs.Verdicts.{Written, Concludes, Follows, MeetsAll, SomeLine, Verdict, instance_verdict, shape_verdict, premises_verdict, side_verdict, IsVerdict}
use Rattle.entail_rules.specs.Premises.{unfollowed}

-- SOME LINE
pub some-map : (rows : List Row) (P Q : Line → Type 0) → ((line : Line) → P line → Q line)
    → SomeLine rows P → SomeLine rows Q
some-map [] P Q f m = m
some-map (r ∷ rows) P Q f m =
    ⊎_elim (λ x. inl (x.0, f (r x.0) x.1)) (λ y. inr (some-map rows P Q f y)) m

-- WHERE NO LINE FOLLOWS
module _ (rows : List Row) (w : Written) (o : Option (List Judgement))
    (none : SomeLine rows (λ line. Some line.premises ≡ o) → ⊥) where
  abbrev other : Written
  other = record { arguments = w.arguments; premises = o; conclusion = w.conclusion }

  concludes : SomeLine rows (Concludes w) → IsVerdict rows other premises_verdict
  concludes m = (m, λ n. none (some-map rows (Follows other) _ (λ line h. h.1) n))

  pub unfollowed-verdict : (v : Verdict) → IsVerdict rows w v
      → IsVerdict rows other (unfollowed v)
  unfollowed-verdict instance_verdict h =
      concludes (some-map rows (MeetsAll w) (Concludes w) (λ line m. m.0.0) h)
  unfollowed-verdict shape_verdict h = h
  unfollowed-verdict premises_verdict h = concludes h.0
  unfollowed-verdict (side_verdict name) h =
      concludes (some-map rows _ (Concludes w) (λ line m. m.0.0.0) h.1)
