-- Good steps, one after another.
use Rattle.std.proofs.Common.{◌≡◌, ◌∙◌, sym, ap, subst, ℕ, suc, zero, ◌+◌, ◌<◌, ◌≤◌, ◌==◌, Bool, true, List, [], ◌∷◌, ◌++◌, length, map, take, drop, get_or, Option, Some, IsTrue, arith}
use Rattle.std.specs.Prelude.{◌↔◌}
use Rattle.std.proofs.lemmas.Bool.{and_parts, eqb-true}
use Rattle.std.proofs.lemmas.List.{drop_all, map_more}
use Rattle.model_formulas.specs.Formulas.{Named}
use Rattle.model_commands.specs.Theories.{Judgement, ProcedureOf, Theory}
use Rattle.theory_syntax.specs.declared.steps.Step.{Step}
use Rattle.theory_syntax.specs.Judgements.{step_of}
use Rattle.cited_steps.specs.Earlier.{are_numbered}
use Rattle.gap_filling.specs.Good.{IsGood, AreGood}
use Rattle.gap_filling.proofs.Marks.{drop_at}

some_same : {A : Type 0} (x y : A) → Some x ≡ Some y → x ≡ y
some_same x y e = cc

-- a last judgement is the one that is asked for exactly where it is the same
pub ends_as : (found : Option Judgement) (last asked : Judgement) → found ≡ Some last → (b : Bool)
    → (IsTrue b ↔ (last ≡ asked)) → IsTrue b ↔ (found ≡ Some asked)
ends_as found last asked e b h =
    (λ t. e ∙ ap Some (h.0 t), λ w. h.1 (some_same last asked (sym e ∙ w)))

-- the numbers of steps that are numbered one by one
pub numbered-at : (steps : List Step) (d : Step) (k n : ℕ) → k < length steps
    → are_numbered n steps ≡ true → (get_or steps k d).number ≡ n + k
numbered-at [] d k n lt e = absurd (omega arith)
numbered-at (s ∷ steps) d zero n lt e =
    let h = and_parts (s.number == n) (are_numbered (n + 1) steps) e in
    eqb-true s.number n h.0 ∙ omega arith
numbered-at (s ∷ steps) d (suc k) n lt e =
    let h = and_parts (s.number == n) (are_numbered (n + 1) steps) e in
    numbered-at steps d k (n + 1) (omega arith) h.1 ∙ omega arith

module _ (theory : Theory) (f : ProcedureOf Named) (proof : List Step) where
  -- the steps from a place on are good after those before it
  abbrev pub GoodAt : ℕ → Type 0
  GoodAt k = AreGood theory f (map step_of (take k proof)) (map step_of (drop k proof))

  module _ (k : ℕ) (item : Step) (lt : k < length proof) (is : item ≡ get_or proof k item) where
    later : map step_of (drop k proof) ≡ step_of item ∷ map step_of (drop (k + 1) proof)
    later = ap (map step_of) (drop_at proof k item item lt is)

    earlier : map step_of (take (k + 1) proof) ≡ map step_of (take k proof) ++ step_of item ∷ []
    earlier = map_more step_of proof k item lt
        ∙ ap (λ (z : Step). map step_of (take k proof) ++ step_of z ∷ []) (sym is)

    -- the one at the place, and those after it
    pub good-parts : GoodAt k
        → IsGood theory f (map step_of (take k proof)) (step_of item) × GoodAt (k + 1)
    good-parts h =
        let p = subst (AreGood theory f (map step_of (take k proof))) later h in
        (p.0, subst (λ z. AreGood theory f z (map step_of (drop (k + 1) proof))) (sym earlier) p.1)

    pub good-from : IsGood theory f (map step_of (take k proof)) (step_of item) → GoodAt (k + 1)
        → GoodAt k
    good-from g h =
        subst (AreGood theory f (map step_of (take k proof))) (sym later)
        (g, subst (λ z. AreGood theory f z (map step_of (drop (k + 1) proof))) earlier h)

  -- no step is left
  pub good-end : (k : ℕ) → length proof ≤ k → GoodAt k
  good-end k le =
      subst (λ (z : List Step). AreGood theory f (map step_of (take k proof)) (map step_of z))
      (sym (drop_all k proof le)) tt
