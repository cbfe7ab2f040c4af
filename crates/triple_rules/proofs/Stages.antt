-- The verdict by its stages, where a rule has one row.
use Rattle.std.proofs.Common.{◌≡◌, refl, sym, ap, ◌∙◌, subst, inl, ⊎_elim, Bool, true, false, ◌&&◌, cond, List, [], ◌∷◌, Option, Some, None}
use Rattle.std.proofs.lemmas.Bool.{and_parts, and_from}
use Rattle.model_shapes.proofs.Truth.{false≢true}
use Rattle.model_shapes.proofs.Tests.{same_data_sort-is, same_data_sort-refl, same_sort-is, same_sort-refl}
use Rattle.model_shapes.specs.Tests.{same_data_sort, same_sort}
use Rattle.model_formulas.proofs.SameFormulas.{same_formula-is, same_formula-refl}
use Rattle.model_formulas.specs.SameFormulas.{same_formula}
use Rattle.model_commands.specs.Theories.{Judgement, entails, triple}
use Rattle.theory_syntax.specs.SameCommands.{same_command}
use Rattle.theory_syntax.proofs.SameCommands.{same_command-is, same_command-refl}
use Rattle.rule_table.specs.Letters.{Letters}
use Rattle.rule_table.specs.Entries.{Row}
use Rattle.rule_table.specs.Conditions.{Condition, Holds, side_of}
use Rattle.rule_table.specs.Verdicts.{Written, Concludes, Follows, MeetsAll, AllHold, first, side_at, Verdict, instance_verdict, premises_verdict, shape_verdict, side_verdict, IsVerdict}
use Rattle.triple_rules.specs.Tests.{same_judgement, same_judgements, cites}

-- EQUAL JUDGEMENTS
pub judgement-is : (i j : Judgement) → same_judgement i j ≡ true → i ≡ j
judgement-is (entails p q s) (entails p' q' s') e =
    let h = and_parts (same_formula p p') (same_formula q q' && same_sort s s') e in
    let g = and_parts (same_formula q q') (same_sort s s') h.1 in
    rw (same_formula-is p p' h.0, same_formula-is q q' g.0, same_sort-is s s' g.1) refl
judgement-is (triple p c q d) (triple p' c' q' d') e =
    let h = and_parts (same_formula p p' && same_formula q q')
    (same_command c c' && same_data_sort d d') e in
    let f = and_parts (same_formula p p') (same_formula q q') h.0 in
    let g = and_parts (same_command c c') (same_data_sort d d') h.1 in
    rw (
      same_formula-is p p' f.0,
      same_formula-is q q' f.1,
      same_command-is c c' g.0,
      same_data_sort-is d d' g.1,
    ) refl
judgement-is i j e = false≢true e

pub judgement-refl : (j : Judgement) → same_judgement j j ≡ true
judgement-refl (entails p q s) =
    and_from (same_formula p p) (same_formula q q && same_sort s s) (same_formula-refl p)
    (and_from (same_formula q q) (same_sort s s) (same_formula-refl q) (same_sort-refl s))
judgement-refl (triple p c q d) =
    and_from (same_formula p p && same_formula q q) (same_command c c && same_data_sort d d)
    (and_from (same_formula p p) (same_formula q q) (same_formula-refl p) (same_formula-refl q))
    (and_from (same_command c c) (same_data_sort d d) (same_command-refl c)
    (same_data_sort-refl d))

judgements-are : (is js : List Judgement) → same_judgements is js ≡ true → is ≡ js
judgements-are [] [] e = refl
judgements-are (i ∷ is) (j ∷ js) e =
    let h = and_parts (same_judgement i j) (same_judgements is js) e in
    rw (judgement-is i j h.0, judgements-are is js h.1) refl
judgements-are is js e = false≢true e

judgements-refl : (js : List Judgement) → same_judgements js js ≡ true
judgements-refl [] = refl
judgements-refl (j ∷ js) =
    and_from (same_judgement j j) (same_judgements js js) (judgement-refl j) (judgements-refl js)

-- what is cited
pub cites-is : (premises : Option (List Judgement)) (js : List Judgement)
    → cites premises js ≡ true → Some js ≡ premises
cites-is None js e = false≢true e
cites-is (Some ks) js e = ap Some (sym (judgements-are ks js e))

pub cites-refl : (premises : Option (List Judgement)) (js : List Judgement)
    → Some js ≡ premises → cites premises js ≡ true
cites-refl premises js e = subst (λ o. cites o js ≡ true) e (judgements-refl js)

-- STAGES
module _ (row : Row) (w : Written) where
  -- a step with no choice that concludes
  pub misshapen : ((l : Letters) → Concludes w (row l) → ⊥) → IsVerdict (row ∷ []) w shape_verdict
  misshapen f m = ⊎_elim (λ x. f x.0 x.1) (λ z. z) m

  -- with one that concludes, and none that follows
  pub unfounded : (l : Letters) → Concludes w (row l) → ((m : Letters) → Follows w (row m) → ⊥)
      → IsVerdict (row ∷ []) w premises_verdict
  unfounded l c f = (inl (l, c), λ m. ⊎_elim (λ x. f x.0 x.1) (λ z. z) m)

  -- with one that meets all
  pub founded : (l : Letters) → MeetsAll w (row l) → IsVerdict (row ∷ []) w instance_verdict
  founded l h = inl (l, h)

  -- the verdict from a test that finds whether some choice concludes, and what is then
  pub by_shape : (b : Bool) (v : Verdict) → (b ≡ true → IsVerdict (row ∷ []) w v)
      → ((l : Letters) → Concludes w (row l) → b ≡ true)
      → IsVerdict (row ∷ []) w (cond b v shape_verdict)
  by_shape true v f g = f refl
  by_shape false v f g = misshapen (λ l c. false≢true (g l c))

  -- from a test that finds whether some choice follows, where one concludes
  pub by_premises : (b : Bool) (v : Verdict) → (l : Letters) → Concludes w (row l)
      → (b ≡ true → IsVerdict (row ∷ []) w v) → ((m : Letters) → Follows w (row m) → b ≡ true)
      → IsVerdict (row ∷ []) w (cond b v premises_verdict)
  by_premises true v l c f g = f refl
  by_premises false v l c f g = unfounded l c (λ m h. false≢true (g m h))

  -- the same, where the premises are the same for all choices that conclude
  pub by_citations : (v : Verdict) (l : Letters) → Concludes w (row l)
      → ((m : Letters) → Concludes w (row m) → (row m).premises ≡ (row l).premises)
      → (Follows w (row l) → IsVerdict (row ∷ []) w v)
      → IsVerdict (row ∷ []) w (cond (cites w.premises (row l).premises) v premises_verdict)
  by_citations v l c alone f =
      by_premises (cites w.premises (row l).premises) v l c
      (λ e. f (c, cites-is w.premises (row l).premises e))
      (λ m h. cites-refl w.premises (row l).premises (ap Some (sym (alone m h.0)) ∙ h.1))

  -- with one that follows, and a condition that is the same for all choices that conclude
  pub by_condition : (b : Bool) (condition : Condition) (l : Letters) → Follows w (row l)
      → ((m : Letters) → Concludes w (row m) → (row m).conditions ≡ condition ∷ [])
      → (b ≡ true → Holds condition) → (Holds condition → b ≡ true)
      → IsVerdict (row ∷ []) w (cond b instance_verdict (side_verdict (side_of condition)))
  by_condition true condition l f fixed holds tests =
      founded l (f, subst AllHold (sym (fixed l f.0)) (holds refl, tt))
  by_condition false condition l f fixed holds tests = (
    0,
    inl (l, ((f, tt), ap (side_at 0) (fixed l f.0))),
    λ m. ⊎_elim (λ x. fails x.0 x.1.0 x.1.1) (λ z. z) m,
  )
    where
      fails : (m : Letters) → Follows w (row m) → AllHold (first 1 (row m).conditions) → ⊥
      fails m g h =
          false≢true (tests (subst (λ cs. AllHold (first 1 cs)) (fixed m g.0) h).0)

  -- and two conditions of one name
  pub by_two_conditions : (b : Bool) (condition other : Condition) (l : Letters)
      → Follows w (row l)
      → ((m : Letters) → Concludes w (row m) → (row m).conditions ≡ condition ∷ other ∷ [])
      → side_of other ≡ side_of condition → Dec (Holds condition)
      → (b ≡ true → Holds condition × Holds other) → (Holds condition × Holds other → b ≡ true)
      → IsVerdict (row ∷ []) w (cond b instance_verdict (side_verdict (side_of condition)))
  by_two_conditions true condition other l f fixed same d holds tests =
      founded l (f, subst AllHold (sym (fixed l f.0)) ((holds refl).0, ((holds refl).1, tt)))
  by_two_conditions false condition other l f fixed same (no n) holds tests = (
    0,
    inl (l, ((f, tt), ap (side_at 0) (fixed l f.0))),
    λ m. ⊎_elim (λ x. fails x.0 x.1.0 x.1.1) (λ z. z) m,
  )
    where
      fails : (m : Letters) → Follows w (row m) → AllHold (first 1 (row m).conditions) → ⊥
      fails m g h = n (subst (λ cs. AllHold (first 1 cs)) (fixed m g.0) h).0
  by_two_conditions false condition other l f fixed same (yes y) holds tests = (
    1,
    inl (
      l,
      (
        (f, subst (λ cs. AllHold (first 1 cs)) (sym (fixed l f.0)) (y, tt)),
        ap (side_at 1) (fixed l f.0) ∙ ap Some same,
      ),
    ),
    λ m. ⊎_elim (λ x. fails x.0 x.1.0 x.1.1) (λ z. z) m,
  )
    where
      fails : (m : Letters) → Follows w (row m) → AllHold (first 2 (row m).conditions) → ⊥
      fails m g h =
          let both = subst (λ cs. AllHold (first 2 cs)) (fixed m g.0) h in
          false≢true (tests (both.0, both.1.0))
