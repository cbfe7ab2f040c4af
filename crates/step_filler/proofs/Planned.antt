-- How the steps of a plan are written whose last step cites those of other plans: what is known of
-- a draft when the writing of a part was cut short, and when all was written.
use Rattle.std.proofs.Common.{◌≡◌, ◌∙◌, ℕ, [], ◌∷◌, Result, Ok, Err, IsErrAnd, ap, sym, subst}
use Rattle.std.proofs.lemmas.Result.{err_from_is_err_and}
use Rattle.model_shapes.specs.Values.{Name}
use Rattle.model_formulas.specs.Formulas.{Named}
use Rattle.model_commands.specs.Theories.{JudgementOf}
use Rattle.assistant_laws.specs.Plans.{Plan, from_one, from_two}
use Rattle.step_filler.specs.declared.drafts.Draft.{Draft}
use Rattle.step_filler.specs.declared.drafts.Stop.{Stop}
use Rattle.step_filler.specs.Drafts.{WritesOne, WritesPlan}
use Rattle.step_filler.proofs.Drafting.{one-stops, one-written, first-stops, second-stops, both-written}

-- the same stop, handed on
pub handed-on : (plan : Plan) (a b : Draft) (e : Stop) (r : Result ℕ Stop)
    → IsErrAnd r (λ x. x ≡ e) → WritesPlan plan a b (Err e) → WritesPlan plan a b r
handed-on plan a b e r same x =
    let p = err_from_is_err_and r same in
    subst (WritesPlan plan a b) (sym (p.1 ∙ ap (λ (y : Stop). Err y) p.2)) x

-- FROM ONE other plan
module _ {rule : Name} {p : Plan} {j : JudgementOf Named} {plan : Plan}
    (is : from_one rule p j ≡ plan) where
  pub one-first : (a b : Draft) (e : Stop) (r : Result ℕ Stop) → IsErrAnd r (λ x. x ≡ e)
      → WritesPlan p a b (Err e) → WritesPlan plan a b r
  one-first a b e r same x = subst (λ (k : Plan). WritesPlan k a b r) is
      (handed-on (from_one rule p j) a b e r same (one-stops rule p j a b e x))

  pub one-all : (a b c : Draft) (n : ℕ) (r : Result ℕ Stop) → WritesPlan p a b (Ok n)
      → WritesOne rule (n ∷ []) j b c r → WritesPlan plan a c r
  one-all a b c n r x y = subst (λ (k : Plan). WritesPlan k a c r) is
      (one-written rule p j a b c n r x y)

-- FROM TWO other plans
module _ {rule : Name} {p q : Plan} {j : JudgementOf Named} {plan : Plan}
    (is : from_two rule p q j ≡ plan) where
  pub two-first : (a b : Draft) (e : Stop) (r : Result ℕ Stop) → IsErrAnd r (λ x. x ≡ e)
      → WritesPlan p a b (Err e) → WritesPlan plan a b r
  two-first a b e r same x = subst (λ (k : Plan). WritesPlan k a b r) is
      (handed-on (from_two rule p q j) a b e r same (first-stops rule p q j a b e x))

  pub two-second : (a b c : Draft) (n : ℕ) (e : Stop) (r : Result ℕ Stop)
      → IsErrAnd r (λ x. x ≡ e) → WritesPlan p a b (Ok n) → WritesPlan q b c (Err e)
      → WritesPlan plan a c r
  two-second a b c n e r same x y = subst (λ (k : Plan). WritesPlan k a c r) is
      (handed-on (from_two rule p q j) a c e r same (second-stops rule p q j a b c n e x y))

  pub two-all : (a b c d : Draft) (n m : ℕ) (r : Result ℕ Stop) → WritesPlan p a b (Ok n)
      → WritesPlan q b c (Ok m) → WritesOne rule (n ∷ m ∷ []) j c d r → WritesPlan plan a d r
  two-all a b c d n m r x y z = subst (λ (k : Plan). WritesPlan k a d r) is
      (both-written rule p q j a b c d n m r x y z)
