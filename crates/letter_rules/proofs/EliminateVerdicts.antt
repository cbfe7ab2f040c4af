-- The verdict of the rule that binds a variable of both formulas.
use Rattle.std.proofs.Common.{◌≡◌, ℕ, sym, subst, ◌∙◌, Bool, true, false, ◌&&◌, cond, List, [], ◌∷◌, Option, Some, None, refl}
use Rattle.model_shapes.specs.Sorts.{Sort, DataSort}
use Rattle.model_shapes.specs.Tests.{same_sort, same_data_sort}
use Rattle.model_shapes.proofs.Tests.{same_sort-is, same_sort-refl, same_data_sort-is, same_data_sort-refl}
use Rattle.model_shapes.proofs.Truth.{false≢true, both_true, and_from}
use Rattle.model_terms.specs.Terms.{Term}
use Rattle.model_formulas.specs.Formulas.{Formula, existential}
use Rattle.model_commands.specs.Commands.{Command}
use Rattle.model_commands.specs.Theories.{Judgement, Step, entails, triple}
use Rattle.theory_syntax.specs.SameCommands.{same_command}
use Rattle.theory_syntax.proofs.SameCommands.{same_command-is, same_command-refl}
use Rattle.rule_table.specs.Accepted.{judgement_numbered, in_front, cited}
use Rattle.rule_table.specs.Letters.{Letters, LogicVar}
use Rattle.rule_table.specs.Notation.{for_some, hoare}
use Rattle.rule_table.specs.Rules.{eliminate_rule}
use Rattle.rule_table.specs.Verdicts.{Written, Concludes, Follows, Verdict, instance_verdict, premises_verdict, IsVerdict}
use Rattle.rule_table.proofs.SomeLetters.{plain_letters}
use Rattle.letter_bindings.specs.Bodies.{BindsSorted}
use Rattle.letter_bindings.specs.Choices.{IsBody}
use Rattle.triple_rules.specs.Tests.{no_items}
use Rattle.triple_rules.proofs.Stages.{by_shape, by_premises, founded}
use Rattle.triple_rules.proofs.SimpleVerdicts.{step_of, no-items, items-none, parts-of}
use Rattle.letter_rules.specs.EliminateTests.{lifts, lifts_some, follows, eliminate_test}
use Rattle.letter_rules.proofs.Binding.{Bound, SomeBound, some-bound, settled-bound, bound-settles}

-- THE ONE PREMISE
-- it is cited: a triple whose formulas both existentials bind
pub record Lifted (premises : Option (List Judgement)) (pre : Formula) (c : Command)
    (post : Formula) (k : DataSort) : Type 0 where
  pub p : Formula
  pub q : Formula
  pub cited : Some (hoare p c q k ∷ []) ≡ premises
  pub bound : Bound pre post p q

two-apart : (i j : Option Judgement) (o : Option (List Judgement)) (one : Judgement)
    → Some (one ∷ []) ≡ in_front i (in_front j o) → ⊥
two-apart None j o one e = absurd cc
two-apart (Some i) None o one e = absurd cc
two-apart (Some i) (Some j) None one e = absurd cc
two-apart (Some i) (Some j) (Some js) one e = absurd cc

-- of two existentials
one-sort : (s t : Sort) (before behind p q : Formula)
    → Bound (existential s before) (existential t behind) p q → s ≡ t
one-sort s t before behind p q b =
    let first : b.x.sort ≡ s = let e = b.before in cc in
    let other : b.x.sort ≡ t = let e = b.behind in cc in
    sym first ∙ other

-- of one sort, over bodies
module _ (s : Sort) (before behind : Formula) (before-body : IsBody s before)
    (behind-body : IsBody s behind) (c : Command) (k : DataSort) where
  abbrev pre : Formula
  pre = existential s before

  abbrev post : Formula
  post = existential s behind

  abbrev said : Judgement
  said = triple pre c post k

  -- of a premise
  lifts-as : (p q : Formula) (c' : Command) (k' : DataSort) → lifts (triple p c' q k') said ≡ true
      → (c' ≡ c) × (k' ≡ k) × Bound pre post p q
  lifts-as p q c' k' e =
      let h = both_true (same_command c' c && same_data_sort k' k) _ e in
      let g = both_true (same_command c' c) (same_data_sort k' k) h.0 in (
        same_command-is c' c g.0,
        same_data_sort-is k' k g.1,
        settled-bound s before behind before-body behind-body p q h.1,
      )

  as-lifts : (p q : Formula) (c' : Command) (k' : DataSort) → c' ≡ c → k' ≡ k
      → Bound pre post p q → lifts (triple p c' q k') said ≡ true
  as-lifts p q c' k' e f b =
      and_from (same_command c' c && same_data_sort k' k) _
      (and_from (same_command c' c) (same_data_sort k' k)
      (subst (λ z. same_command c' z ≡ true) e (same_command-refl c'))
      (subst (λ z. same_data_sort k' z ≡ true) f (same_data_sort-refl k')))
      (bound-settles s before behind p q b)

  module _ (steps : List Step) where
    abbrev CitesLifted : List ℕ → Type 0
    CitesLifted ns = Lifted (cited steps ns) pre c post k

    follows-is : (ns : List ℕ) → follows steps ns said ≡ true → CitesLifted ns
    follows-is [] e = false≢true e
    follows-is (a ∷ b ∷ ns) e = false≢true e
    follows-is (a ∷ []) e = by_judgement (judgement_numbered a steps) refl e
      where
        by_judgement : (j : Option Judgement) → judgement_numbered a steps ≡ j
            → lifts_some j said ≡ true → CitesLifted (a ∷ [])
        by_judgement None f e = false≢true e
        by_judgement (Some (entails p q s)) f e = false≢true e
        by_judgement (Some (triple p d q h)) f e =
            let same = lifts-as p q d h e in
            record {
              p = p;
              q = q;
              cited = (λ i. Some (hoare p (sym same.0 i) q (sym same.1 i) ∷ []))
                  ∙ (λ i. in_front (sym f i) (Some []));
              bound = same.2;
            }

    is-follows : (ns : List ℕ) → CitesLifted ns → follows steps ns said ≡ true
    is-follows [] l = let e = l.cited in absurd cc
    is-follows (a ∷ b ∷ ns) l =
        absurd (two-apart (judgement_numbered a steps) (judgement_numbered b steps)
        (cited steps ns) _ l.cited)
    is-follows (a ∷ []) l = by_judgement (judgement_numbered a steps) refl
      where
        by_judgement : (j : Option Judgement) → judgement_numbered a steps ≡ j
            → lifts_some j said ≡ true
        by_judgement None f =
            let e = l.cited ∙ (λ i. in_front (f i) (Some [])) in absurd cc
        by_judgement (Some (entails p q s)) f =
            let e = l.cited ∙ (λ i. in_front (f i) (Some [])) in absurd cc
        by_judgement (Some (triple p d q h)) f =
            let e = l.cited ∙ (λ i. in_front (f i) (Some [])) in
            let first : l.p ≡ p = cc in
            let command : d ≡ c = cc in
            let last : l.q ≡ q = cc in
            let sort : h ≡ k = cc in
            as-lifts p q d h command sort
            (subst (λ r. Bound pre post p r) last (subst (λ r. Bound pre post r l.q) first l.bound))

    -- THE VERDICT on them
    module _ (ns : List ℕ) (arguments : List Term) where
      abbrev w : Written
      w = step_of arguments (cited steps ns) pre c post k

      abbrev binding : LogicVar → Formula → Formula → Letters
      binding x p q = record plain_letters { x = x; P = p; C = c; Q = q; k = k }

      concluded : [] ≡ arguments → (p q : Formula) → (b : Bound pre post p q)
          → Concludes w (eliminate_rule (binding b.x p q))
      concluded e p q b = (e, tt, (λ i. triple (b.before i) c (b.behind i) k))

      lifted-of : (l : Letters) → Follows w (eliminate_rule l) → CitesLifted ns
      lifted-of l h =
          let same = parts-of h.0.2 in
          record {
            p = l.P;
            q = l.Q;
            cited =
                (λ i. Some (hoare l.P (sym same.command i) l.Q (sym same.sort i) ∷ [])) ∙ h.1;
            bound = record { x = l.x; before = same.pre; behind = same.post };
          }

      pub both-exact : no_items arguments ≡ true → IsVerdict (eliminate_rule ∷ []) w
          (cond (follows steps ns said) instance_verdict premises_verdict)
      both-exact e =
          let none : [] ≡ arguments = no-items arguments e in
          let some : SomeBound pre post = some-bound s before behind before-body behind-body in
          by_premises eliminate_rule w (follows steps ns said) instance_verdict
          (binding (some.bound).x some.p some.q) (concluded none some.p some.q some.bound)
          (λ t. let l = follows-is ns t in
          founded eliminate_rule w (binding (l.bound).x l.p l.q)
          ((concluded none l.p l.q l.bound, l.cited), tt))
          (λ l f. is-follows ns (lifted-of l f))

-- on any two formulas
module _ (steps : List Step) (ns : List ℕ) (arguments : List Term) (c : Command)
    (k : DataSort) where
  abbrev on : Formula → Formula → Written
  on p q = step_of arguments (cited steps ns) p c q k

  abbrev verdict_on : Formula → Formula → Verdict
  verdict_on p q = eliminate_test steps ns arguments (triple p c q k)

  no-binders : (x : Bool) {A : Type 0} → (x && false) ≡ true → A
  no-binders true e = false≢true e
  no-binders false e = false≢true e

  abbrev Found : Sort → Formula → Formula → Sort → Type 0
  Found s before behind u = IsBody u behind → no_items arguments ≡ true
      → IsVerdict (eliminate_rule ∷ []) (on (existential s before) (existential u behind))
      (cond (follows steps ns (triple (existential s before) c (existential u behind) k))
      instance_verdict premises_verdict)

  two-exact : (s t : Sort) (before behind : Formula) → IsBody s before → IsBody t behind
      → IsVerdict (eliminate_rule ∷ []) (on (existential s before) (existential t behind))
      (verdict_on (existential s before) (existential t behind))
  two-exact s t before behind f g =
      by_shape eliminate_rule (on (existential s before) (existential t behind))
      (no_items arguments && same_sort s t) _
      (λ e. let h = both_true (no_items arguments) (same_sort s t) e in
      found t (same_sort-is s t h.1) g h.0)
      (λ l h. let same = parts-of h.2 in
      let sort : s ≡ t = one-sort s t before behind l.P l.Q
      (record { x = l.x; before = same.pre; behind = same.post }) in
      and_from (no_items arguments) (same_sort s t) (items-none arguments h.0)
      (subst (λ u. same_sort s u ≡ true) sort (same_sort-refl s)))
    where
      found : (u : Sort) → s ≡ u → Found s before behind u
      found u e = subst (Found s before behind) e
          (λ g h. both-exact s before behind f g c k steps ns arguments h)

  pub eliminate-exact : (p q : Formula) → BindsSorted p → BindsSorted q
      → IsVerdict (eliminate_rule ∷ []) (on p q) (verdict_on p q)
  eliminate-exact (existential s p) (existential t q) f g = two-exact s t p q f g
  eliminate-exact (existential s p) q f g =
      by_shape eliminate_rule (on (existential s p) q) (no_items arguments && false) _
      (λ e. no-binders (no_items arguments) e)
      (λ l h. let e : for_some l.x l.Q ≡ q = (parts-of h.2).post in absurd cc)
  eliminate-exact p q f g =
      by_shape eliminate_rule (on p q) (no_items arguments && false) _
      (λ e. no-binders (no_items arguments) e)
      (λ l h. let e : for_some l.x l.P ≡ p = (parts-of h.2).pre in absurd cc)
