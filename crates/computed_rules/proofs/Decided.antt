-- Where what is written determines the line, its conditions give the verdict.
use Rattle.std.proofs.Common.{◌≡◌, refl, sym, subst, List, [], ◌∷◌, Some, Bool, true, false, cond, Result, Ok, Err, IfOk}
use Rattle.model_terms.specs.Terms.{Term}
use Rattle.model_commands.specs.Theories.{Judgement}
use Rattle.model_terms.specs.VariableTests.{decided_by}
use Rattle.rule_table.specs.Lines.{Line}
use Rattle.rule_table.specs.Entries.{Row}
use Rattle.rule_table.specs.Conditions.{Requirement, Condition, Holds, side_of}
use Rattle.rule_table.specs.Verdicts.{Written, Concludes, Verdict, IsVerdict, instance_verdict, shape_verdict, side_verdict}
use Rattle.rule_table.proofs.Decisions.{test_holds}
use Rattle.rule_table.proofs.Determined.{Each_line, each-some, Determined, verdict_on}
use Rattle.dom_terms.specs.declared.verdicts.Verdict as program
use Rattle.row_patterns.specs.Verdicts.{verdict_in}

-- no choice has the written conclusion
pub no-line : (rows : List Row) (w : Written) → Each_line rows (λ line. Concludes w line → ⊥)
    → IsVerdict rows w shape_verdict
no-line rows w e = each-some rows e (λ line p q. p q)

-- a decision, as a truth value
abbrev pub says : {A : Type 0} → Dec A → Bool
says (yes a) = true
says (no n) = false

pub says-test : (b : Bool) → says (test_holds b) ≡ b
says-test true = refl
says-test false = refl

pub says-decided : {A : Type 0} (b : Bool) (f : b ≡ true → A) (g : b ≡ false → A → ⊥)
    → says (decided_by b f g) ≡ b
says-decided true f g = refl
says-decided false f g = refl

-- the verdict by a condition, and what is behind it
abbrev pub verdict_by : Condition → Bool → Verdict → Verdict
verdict_by c holds next = cond holds next (side_verdict (side_of c))

module _ (rows : List Row) (w : Written) (ts : List Term) (rs : List Requirement) (j : Judgement)
    (e : Some [] ≡ w.premises) where
  -- a line with these conditions
  abbrev line_with : List Condition → Line
  line_with cs = record {
    arguments = ts;
    requirements = rs;
    premises = [];
    conclusion = j;
    conditions = cs;
  }

  -- without conditions
  pub verdict-none : Determined rows w (line_with []) → IsVerdict rows w instance_verdict
  verdict-none d = (verdict_on rows w (line_with []) d (yes e) tt).1

  -- with one
  pub verdict-one : (c : Condition) → Determined rows w (line_with (c ∷ [])) → (h : Dec (Holds c))
      → IsVerdict rows w (verdict_by c (says h) instance_verdict)
  verdict-one c d (yes h) = (verdict_on rows w (line_with (c ∷ [])) d (yes e) (yes h, tt)).1
  verdict-one c d (no n) = (verdict_on rows w (line_with (c ∷ [])) d (yes e) (no n, tt)).1

  -- with two
  pub verdict-two : (a b : Condition) → Determined rows w (line_with (a ∷ b ∷ []))
      → (h : Dec (Holds a)) (g : Dec (Holds b))
      → IsVerdict rows w (verdict_by a (says h) (verdict_by b (says g) instance_verdict))
  verdict-two a b d (yes h) (yes g) =
      (verdict_on rows w (line_with (a ∷ b ∷ [])) d (yes e) (yes h, (yes g, tt))).1
  verdict-two a b d (yes h) (no n) =
      (verdict_on rows w (line_with (a ∷ b ∷ [])) d (yes e) (yes h, (no n, tt))).1
  verdict-two a b d (no n) g =
      (verdict_on rows w (line_with (a ∷ b ∷ [])) d (yes e) (no n, (g, tt))).1

-- a verdict that is computed
pub computed : {E : Type 0} (rows : List Row) (w : Written) (v : Verdict)
    (r : Result program.Verdict E)
    → IsVerdict rows w v → IfOk r (λ verdict. verdict_in verdict ≡ v)
    → IfOk r (λ verdict. IsVerdict rows w (verdict_in verdict))
computed rows w v (Ok verdict) is e = subst (IsVerdict rows w) (sym e) is
computed rows w v (Err error) is e = tt
