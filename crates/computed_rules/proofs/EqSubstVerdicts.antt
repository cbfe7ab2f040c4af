-- The verdict by the row eq_subst is the one that is computed.
use Rattle.std.proofs.Common.{◌≡◌, ◌∙◌, refl, sym, List, [], ◌∷◌, Some, Bool, true, false, codes, cond}
use Rattle.model_shapes.proofs.Truth.{false≢true}
use Rattle.model_shapes.specs.Sorts.{Sort}
use Rattle.model_terms.specs.Terms.{Term}
use Rattle.model_formulas.specs.Formulas.{Formula, conjunction, equality}
use Rattle.model_commands.specs.Theories.{Judgement, entails}
use Rattle.rule_table.specs.Letters.{Letters}
use Rattle.rule_table.specs.Entailments as Te
use Rattle.rule_table.specs.Verdicts.{Concludes, IsVerdict, instance_verdict, shape_verdict}
use Rattle.rule_table.proofs.Replaced.{replaced}
use Rattle.rule_table.proofs.SomeLetters.{readings_of, a_step}
use Rattle.rule_table.proofs.EquationVerdicts.{not_replaced, subst_tested}
use Rattle.computed_rules.specs.Equations.{subst_verdict}
use Rattle.computed_rules.proofs.Decided.{no-line}

-- the arguments and the conclusion of the row
abbrev fits_subst : List Term → Judgement → Bool
fits_subst [] (entails (conjunction (equality a b) p) q s) = true
fits_subst ts j = false

apart : (ts : List Term) (j : Judgement) → fits_subst ts j ≡ false → (l : Letters)
    → Concludes (a_step ts [] j) (Te.eq_subst l) → ⊥
apart ts j h l c = false≢true (sym h ∙ sym (λ i. fits_subst (c.0 i) (c.2 i)))

-- where the row fits, by the test
by_test : (a b : Term) (p q : Formula) (s : Sort) (holds : Bool) → replaced a b p q ≡ holds
    → IsVerdict (readings_of (codes "eq_subst"))
    (a_step [] [] (entails (conjunction (equality a b) p) q s))
    (cond holds instance_verdict shape_verdict)
by_test a b p q s true e =
    (subst_tested (Some []) (conjunction (equality a b) p) q s a b p refl (yes e)).1
by_test a b p q s false e =
    no-line (Te.eq_subst ∷ []) (a_step [] [] (entails (conjunction (equality a b) p) q s)) (
      (λ l c. not_replaced (Some []) (conjunction (equality a b) p) q s a b p refl
          (λ h. false≢true (sym e ∙ h)) l c),
      tt,
    )

pub subst-is : (ts : List Term) (j : Judgement)
    → IsVerdict (readings_of (codes "eq_subst")) (a_step ts [] j) (subst_verdict ts j)
subst-is [] (entails (conjunction (equality a b) p) q s) =
    by_test a b p q s (replaced a b p q) refl
subst-is ts j =
    no-line (Te.eq_subst ∷ []) (a_step ts [] j) ((λ l c. apart ts j refl l c), tt)
