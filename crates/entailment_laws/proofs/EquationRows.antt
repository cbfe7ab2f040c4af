-- The rows of equations, orders and texts are sound.
use Rattle.std.proofs.Common.{◌≡◌, sym, ap, ◌∙◌, subst, true, false, cond}
use Rattle.model_shapes.proofs.Truth.{false≢true}
use Rattle.model_shapes.specs.Sorts.{Sort, value, int_sort, str_sort}
use Rattle.model_shapes.specs.Values.{Value}
use Rattle.model_terms.specs.Terms.{Term, literal}
use Rattle.model_formulas.specs.Formulas.{falsity, equality}
use Rattle.model_shapes.specs.Tests.{same_value}
use Rattle.model_formulas.specs.Satisfaction.{Entails}
use Rattle.model_shapes.proofs.Tests.{same_value-refl}
use Rattle.entailment_laws.specs.Judgements.{Reading}
use Rattle.rule_table.specs.Letters.{as_logic}
use Rattle.rule_table.specs.Entailments.{different_literals, equations}
use Rattle.rule_table.proofs.SomeLetters.{◌&◌}
use Rattle.entailment_laws.proofs.SoundRows.{SoundEntries, term-stands}
use Rattle.entailment_laws.proofs.Plain as Pl
use Rattle.entailment_laws.proofs.Quantified as Qu
use Rattle.entailment_laws.proofs.Linear as Li
use Rattle.entailment_laws.proofs.Texts as Tx

-- two literals that fail the test of sameness
literals-differ : (v w : Value) → cond (same_value v w) false true ≡ true → v ≡ w → ⊥
literals-differ v w h e =
    false≢true
    (sym (ap (λ b. cond b false true) (subst (λ z. same_value v z ≡ true) e (same_value-refl v)))
    ∙ h)

different : (a b : Term) (s : Sort) → different_literals a b ≡ true
    → Entails (equality a b) falsity s
different (literal v) (literal w) s h = Pl.distinct v w s (literals-differ v w h)
different a b s h = absurd (false≢true {P = ⊥} h)

module _ (reading : Reading) where
  pub sound : SoundEntries reading equations
  sound =
      ((λ l so w c h. Pl.eq_refl l.P l.E l.s) & tt)
      & ((λ l so w c h. Qu.eq_subst (as_logic l.x) l.P l.E l.F l.s) & tt)
      & ((λ l so w c h. different l.E l.F l.s c.0) & tt)
      & ((λ l so w c h. Pl.int_total l.P l.E l.F l.s) & tt)
      & ((λ l so w c h. Li.linear_order l.W l.s c.0 l.E l.F c.1.0)
      & (λ l so w c h. Li.linear_equation l.W l.s c.0 l.E l.F
      (term-stands (value int_sort) l.E w.0) (term-stands (value int_sort) l.F w.1.0) c.1.0)
      & (λ l so w c h. Li.linear_false l.W l.s c.0 c.1.0) & tt)
      & ((λ l so w c h. Tx.concat l.P l.E l.F l.s (term-stands (value str_sort) l.E w.0)
      (term-stands (value str_sort) l.F w.1.0) c.0) & tt) & tt
