-- The verdict by the row distinct is the one that is computed.
use Rattle.std.proofs.Common.{◌≡◌, ◌∙◌, refl, sym, subst, List, [], ◌∷◌, Some, Bool, true, false, codes, cond}
use Rattle.model_shapes.proofs.Truth.{false≢true}
use Rattle.model_terms.specs.Terms.{Term}
use Rattle.model_formulas.specs.Formulas.{equality, falsity}
use Rattle.model_commands.specs.Theories.{Judgement, entails}
use Rattle.rule_table.specs.Letters.{Letters}
use Rattle.rule_table.specs.Conditions.{tested, literal_side}
use Rattle.rule_table.specs.Entailments as Te
use Rattle.rule_table.specs.Entailments.{different_literals}
use Rattle.rule_table.specs.Verdicts.{Concludes, IsVerdict, instance_verdict, side_verdict}
use Rattle.rule_table.proofs.SomeLetters.{readings_of, a_step}
use Rattle.rule_table.proofs.Decisions.{test_holds}
use Rattle.rule_table.proofs.EquationVerdicts.{distinct_line}
use Rattle.computed_rules.specs.Equations.{distinct_verdict}
use Rattle.computed_rules.proofs.Decided.{no-line, says-test, verdict-one}

-- the arguments and the conclusion of the row
abbrev fits_distinct : List Term → Judgement → Bool
fits_distinct [] (entails (equality a b) falsity s) = true
fits_distinct ts j = false

apart : (ts : List Term) (j : Judgement) → fits_distinct ts j ≡ false → (l : Letters)
    → Concludes (a_step ts [] j) (Te.distinct l) → ⊥
apart ts j h l c = false≢true (sym h ∙ sym (λ i. fits_distinct (c.0 i) (c.2 i)))

pub distinct-is : (ts : List Term) (j : Judgement)
    → IsVerdict (readings_of (codes "distinct")) (a_step ts [] j) (distinct_verdict ts j)
distinct-is [] (entails (equality a b) falsity s) =
    subst
    (λ (holds : Bool). IsVerdict (readings_of (codes "distinct"))
    (a_step [] [] (entails (equality a b) falsity s))
    (cond holds instance_verdict (side_verdict literal_side)))
    (says-test (different_literals a b))
    (verdict-one (Te.distinct ∷ []) (a_step [] [] (entails (equality a b) falsity s)) [] []
    (entails (equality a b) falsity s) refl (tested literal_side (different_literals a b))
    (distinct_line (Some []) (equality a b) falsity s a b refl refl)
    (test_holds (different_literals a b)))
distinct-is ts j =
    no-line (Te.distinct ∷ []) (a_step ts [] j) ((λ l c. apart ts j refl l c), tt)
