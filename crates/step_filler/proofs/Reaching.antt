-- The plans by conjuncts, as they are written.
use Rattle.std.proofs.Common.{◌≡◌, Bool, true, false, cond, codes, refl, ap, sym, subst}
use Rattle.model_shapes.specs.Sorts.{Sort}
use Rattle.model_formulas.specs.Formulas.{Named, conjunction}
use Rattle.model_commands.specs.Theories.{entails}
use Rattle.assistant_laws.specs.Plans.{alone, from_two}
use Rattle.assistant_laws.specs.ConjunctPlans.{has_conjunct, reach, gather}

module _ (s : Sort) where
  -- from a conjunction to the target, by the side that has it
  by-side : (p q target : Named) (b : Bool) → has_conjunct p target ≡ b → cond b
      (from_two (codes "cut") (alone (codes "and_left") (entails (conjunction p q) p s))
      (reach s p target) (entails (conjunction p q) target s))
      (from_two (codes "cut") (alone (codes "and_right") (entails (conjunction p q) q s))
      (reach s q target) (entails (conjunction p q) target s))
      ≡ reach s (conjunction p q) target
  by-side p q target b has = sym (ap (λ (a : Bool). cond a
      (from_two (codes "cut") (alone (codes "and_left") (entails (conjunction p q) p s))
      (reach s p target) (entails (conjunction p q) target s))
      (from_two (codes "cut") (alone (codes "and_right") (entails (conjunction p q) q s))
      (reach s q target) (entails (conjunction p q) target s))) has)

  pub by-left : (formula p q target : Named) → formula ≡ conjunction p q
      → has_conjunct p target ≡ true
      → from_two (codes "cut") (alone (codes "and_left") (entails formula p s)) (reach s p target)
      (entails formula target s) ≡ reach s formula target
  by-left formula p q target is has = subst (λ (f : Named).
      from_two (codes "cut") (alone (codes "and_left") (entails f p s)) (reach s p target)
      (entails f target s) ≡ reach s f target) (sym is) (by-side p q target true has)

  pub by-right : (formula p q target : Named) → formula ≡ conjunction p q
      → has_conjunct p target ≡ false
      → from_two (codes "cut") (alone (codes "and_right") (entails formula q s)) (reach s q target)
      (entails formula target s) ≡ reach s formula target
  by-right formula p q target is has = subst (λ (f : Named).
      from_two (codes "cut") (alone (codes "and_right") (entails f q s)) (reach s q target)
      (entails f target s) ≡ reach s f target) (sym is) (by-side p q target false has)

  -- from a formula to both sides of a conjunction
  pub by-both : (left right p q : Named) → right ≡ conjunction p q
      → from_two (codes "and_in") (gather s left p) (gather s left q) (entails left right s)
      ≡ gather s left right
  by-both left right p q is = subst (λ (f : Named).
      from_two (codes "and_in") (gather s left p) (gather s left q) (entails left f s)
      ≡ gather s left f) (sym is) refl
