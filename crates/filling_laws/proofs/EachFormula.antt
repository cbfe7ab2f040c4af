-- Plans in which each formula is as asked: how that goes through the ways and the conjuncts, and
-- what it says of the steps that are written.
use Rattle.std.proofs.Common.{ℕ, suc, Bool, true, false, cond, [], ◌∷◌, Option, Some, None, IfSome, codes}
use Rattle.model_shapes.specs.Sorts.{Sort}
use Rattle.model_formulas.specs.Formulas.{Named, truth, conjunction}
use Rattle.model_formulas.specs.Nameless.{nameless}
use Rattle.model_commands.specs.Each.{Each}
use Rattle.model_commands.specs.Theories.{JudgementOf, entails, triple, StepOf}
use Rattle.assistant_laws.specs.Conjuncts.{has_conjuncts_of}
use Rattle.assistant_laws.specs.Plans.{Plan, alone, from_one, from_two, last_number, last_step, steps_of}
use Rattle.assistant_laws.specs.ConjunctPlans.{has_conjunct, reach, gather, plan_by_conjuncts}
use Rattle.assistant_laws.specs.Ways.{Way, onward, backward, turned, by_way_of}
use Rattle.assistant_laws.proofs.Steps.{each-append}

module _ (Good : Named → Type 0) where
  abbrev pub GoodSides : JudgementOf Named → Type 0
  GoodSides (entails p q s) = Good p × Good q
  GoodSides (triple p c q k) = ⊥

  abbrev pub IsGood : Plan → Type 0
  IsGood (alone rule j) = GoodSides j
  IsGood (from_one rule a j) = IsGood a × GoodSides j
  IsGood (from_two rule a b j) = IsGood a × IsGood b × GoodSides j

  -- EITHER WAY
  pub turned-good : (way : Way) (p q : Named) (s : Sort) → Good p → Good q
      → GoodSides (turned way p q s)
  turned-good onward p q s h k = (h, k)
  turned-good backward p q s h k = (k, h)

  pub by_way_of-good : (way : Way) (a b : Plan) (p r : Named) (s : Sort) → IsGood a → IsGood b
      → Good p → Good r → IsGood (by_way_of way a b p r s)
  by_way_of-good onward a b p r s x y h k = (x, y, (h, k))
  by_way_of-good backward a b p r s x y h k = (y, x, (k, h))

  -- CONJUNCTS, where what is good has good conjuncts
  module _ (sides : (p q : Named) → Good (conjunction p q) → Good p × Good q) where
    reach-good : (s : Sort) (p target : Named) → Good p → Good target → IsGood (reach s p target)
    reach-good s (conjunction p q) target h k =
        let both = sides p q h in
        by_test (has_conjunct p target) both (reach-good s p target both.0 k)
        (reach-good s q target both.1 k)
      where
        by_test : (b : Bool) → Good p × Good q → IsGood (reach s p target)
            → IsGood (reach s q target)
            → IsGood (cond b
            (from_two (codes "cut") (alone (codes "and_left") (entails (conjunction p q) p s))
            (reach s p target) (entails (conjunction p q) target s))
            (from_two (codes "cut") (alone (codes "and_right") (entails (conjunction p q) q s))
            (reach s q target) (entails (conjunction p q) target s)))
        by_test true both x y = ((h, both.0), x, (h, k))
        by_test false both x y = ((h, both.1), y, (h, k))
    reach-good s p target h k = (h, k)

    gather-good : (s : Sort) (left p : Named) → Good left → Good p → IsGood (gather s left p)
    gather-good s left (conjunction p q) h k =
        let both = sides p q k in
        (gather-good s left p h both.0, gather-good s left q h both.1, (h, k))
    gather-good s left truth h k = (h, k)
    gather-good s left p h k = reach-good s left p h k

    pub conjuncts-good : (p q : Named) (s : Sort) → Good p → Good q
        → IfSome (plan_by_conjuncts (entails p q s)) IsGood
    conjuncts-good p q s h k = by_test (has_conjuncts_of (nameless p) (nameless q))
      where
        by_test : (b : Bool) → IfSome (cond b (Some (gather s p q)) None) IsGood
        by_test true = gather-good s p q h k
        by_test false = tt

  -- THE STEPS
  module _ (Asked : JudgementOf Named → Type 0)
      (one : (p q : Named) (s : Sort) → Good p → Good q → Asked (entails p q s)) where
    abbrev IsAsked : StepOf Named → Type 0
    IsAsked step = Asked step.judgement

    judgement-good : (j : JudgementOf Named) → GoodSides j → Asked j
    judgement-good (entails p q s) h = one p q s h.0 h.1
    judgement-good (triple p c q k) h = absurd h

    steps-good : (n : ℕ) (plan : Plan) → IsGood plan → Each IsAsked (steps_of n plan)
    steps-good n (alone rule j) h = (judgement-good j h, tt)
    steps-good n (from_one rule a j) h =
        each-append IsAsked (steps_of n a) (last_step n (from_one rule a j) ∷ [])
        (steps-good n a h.0) (judgement-good j h.1, tt)
    steps-good n (from_two rule a b j) h =
        each-append IsAsked (steps_of n a) _ (steps-good n a h.0)
        (each-append IsAsked (steps_of (suc (last_number n a)) b)
        (last_step n (from_two rule a b j) ∷ []) (steps-good (suc (last_number n a)) b h.1)
        (judgement-good j h.2, tt))

    pub some-good : (n : ℕ) (o : Option Plan) → IfSome o IsGood
        → IfSome o (λ plan. Each IsAsked (steps_of n plan))
    some-good n None h = tt
    some-good n (Some plan) h = steps-good n plan h
