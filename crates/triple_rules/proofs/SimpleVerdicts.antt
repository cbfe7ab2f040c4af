-- The verdicts of the rules without conditions whose premises speak of the written formulas.
use Rattle.std.proofs.Common.{◌≡◌, refl, sym, ◌∙◌, subst, true, ◌&&◌, cond, List, [], ◌∷◌, Option, Some}
use Rattle.std.proofs.lemmas.Bool.{and_parts, and_from}
use Rattle.model_shapes.proofs.Truth.{false≢true}
use Rattle.model_shapes.proofs.Tests.{same_data_sort-is, same_data_sort-refl}
use Rattle.model_shapes.specs.Sorts.{DataSort, shape}
use Rattle.model_shapes.specs.Tests.{same_data_sort}
use Rattle.model_terms.specs.Terms.{Term}
use Rattle.model_formulas.proofs.SameFormulas.{same_formula-is, same_formula-refl}
use Rattle.model_formulas.specs.SameFormulas.{same_formula}
use Rattle.model_formulas.specs.Formulas.{Formula, falsity, disjunction}
use Rattle.model_commands.specs.Commands.{Command, skip}
use Rattle.model_commands.specs.Theories.{Judgement, entails, triple}
use Rattle.theory_syntax.specs.SameCommands.{same_command}
use Rattle.theory_syntax.proofs.SameCommands.{same_command-is, same_command-refl}
use Rattle.rule_table.specs.Letters.{Letters}
use Rattle.rule_table.specs.Rules.{skip_rule, absurd_rule, consequence_rule, disjunction_rule}
use Rattle.rule_table.specs.Verdicts.{Written, Concludes, Follows, instance_verdict, premises_verdict, shape_verdict, IsVerdict}
use Rattle.rule_table.specs.Notation.{◌⊢◌, ◌at◌, hoare}
use Rattle.rule_table.proofs.SomeLetters.{plain_letters}
use Rattle.triple_rules.specs.Tests.{no_items, same_judgement, cites, is_skip, is_falsity, weaken, skip_test, absurd_test, disjunction_test}
use Rattle.triple_rules.proofs.Stages.{by_shape, by_premises, by_citations, founded, misshapen, judgement-is, judgement-refl}

-- what is written at a step for a triple
abbrev pub step_of : List Term → Option (List Judgement) → Formula → Command → Formula → DataSort
    → Written
step_of arguments premises p c q k = record {
  arguments = arguments;
  premises = premises;
  conclusion = triple p c q k;
}

-- there are no arguments
pub no-items : {A : Type 0} (xs : List A) → no_items xs ≡ true → [] ≡ xs
no-items [] e = refl
no-items (x ∷ xs) e = false≢true e

pub items-none : {A : Type 0} (xs : List A) → [] ≡ xs → no_items xs ≡ true
items-none xs e = subst (λ z. no_items z ≡ true) e refl

-- the parts of equal triples
pub record SameParts (p : Formula) (c : Command) (q : Formula) (k : DataSort) (p' : Formula)
    (c' : Command) (q' : Formula) (k' : DataSort) : Type 0 where
  pub pre : p ≡ p'
  pub command : c ≡ c'
  pub post : q ≡ q'
  pub sort : k ≡ k'

pub parts-of : {p p' q q' : Formula} {c c' : Command} {k k' : DataSort}
    → ◌≡◌ {A = Judgement} (triple p c q k) (triple p' c' q' k') → SameParts p c q k p' c' q' k'
parts-of e = record { pre = cc; command = cc; post = cc; sort = cc }

skip-is : (c : Command) → is_skip c ≡ true → c ≡ skip
skip-is skip e = refl
skip-is c e = false≢true e

falsity-is : (p : Formula) → is_falsity p ≡ true → p ≡ falsity
falsity-is falsity e = refl
falsity-is p e = false≢true e

-- equal formulas pass the test
pub formula-same : (p q : Formula) → p ≡ q → same_formula p q ≡ true
formula-same p q e = subst (λ z. same_formula p z ≡ true) e (same_formula-refl p)

-- THE PREMISES OF CONSEQUENCE
pub record Weakened (premises : Option (List Judgement)) (p : Formula) (c : Command) (q : Formula)
    (k : DataSort) : Type 0 where
  pub before : Formula
  pub behind : Formula
  pub cited : Some ((p ⊢ before at shape k) ∷ hoare before c behind k
      ∷ (behind ⊢ q at shape k) ∷ []) ≡ premises

weaken-is : (premises : Option (List Judgement)) (p : Formula) (c : Command) (q : Formula)
    (k : DataSort) → weaken premises p c q k ≡ true → Weakened premises p c q k
weaken-is (Some (i ∷ triple a c' b k' ∷ j ∷ [])) p c q k e =
    let h = and_parts (same_command c' c && same_data_sort k' k)
    (same_judgement i (entails p a (shape k)) && same_judgement j (entails b q (shape k))) e in
    let f = and_parts (same_command c' c) (same_data_sort k' k) h.0 in
    let g = and_parts (same_judgement i (entails p a (shape k)))
    (same_judgement j (entails b q (shape k))) h.1 in
    record {
      before = a;
      behind = b;
      cited = rw (
        judgement-is i (entails p a (shape k)) g.0,
        judgement-is j (entails b q (shape k)) g.1,
        same_command-is c' c f.0,
        same_data_sort-is k' k f.1,
      ) refl;
    }
weaken-is premises p c q k e = false≢true e

weaken-from : (premises : Option (List Judgement)) (p a b : Formula) (c : Command) (q : Formula)
    (k : DataSort)
    → Some ((p ⊢ a at shape k) ∷ hoare a c b k ∷ (b ⊢ q at shape k) ∷ []) ≡ premises
    → weaken premises p c q k ≡ true
weaken-from premises p a b c q k e =
    subst (λ o. weaken o p c q k ≡ true) e
    (and_from (same_command c c && same_data_sort k k) _
    (and_from (same_command c c) (same_data_sort k k) (same_command-refl c) (same_data_sort-refl k))
    (and_from (same_judgement (entails p a (shape k)) (entails p a (shape k))) _
    (judgement-refl (entails p a (shape k))) (judgement-refl (entails b q (shape k)))))

-- a choice of the letters P, A, B, C, Q and k
abbrev pub the_letters : Formula → Formula → Formula → Command → Formula → DataSort → Letters
the_letters p a b c q k = record plain_letters { P = p; A = a; B = b; C = c; Q = q; k = k }

module _ (arguments : List Term) (premises : Option (List Judgement)) where
  module _ (p : Formula) (c : Command) (q : Formula) (k : DataSort) where
    abbrev w : Written
    w = step_of arguments premises p c q k

    pub skip-exact : IsVerdict (skip_rule ∷ []) w (skip_test arguments (cites premises) p c q k)
    skip-exact =
        by_shape skip_rule w (no_items arguments && (is_skip c && same_formula p q))
        (cond (cites premises []) instance_verdict premises_verdict) found exact
      where
        found : (no_items arguments && (is_skip c && same_formula p q)) ≡ true
            → IsVerdict (skip_rule ∷ []) w
            (cond (cites premises []) instance_verdict premises_verdict)
        found e =
            let h = and_parts (no_items arguments) (is_skip c && same_formula p q) e in
            let g = and_parts (is_skip c) (same_formula p q) h.1 in
            let command : c ≡ skip = skip-is c g.0 in
            let post : p ≡ q = same_formula-is p q g.1 in
            by_citations skip_rule w instance_verdict (the_letters p p p c q k)
            (no-items arguments h.0, tt, cc) (λ m a. refl)
            (λ f. founded skip_rule w (the_letters p p p c q k) (f, tt))

        exact : (m : Letters) → Concludes w (skip_rule m)
            → (no_items arguments && (is_skip c && same_formula p q)) ≡ true
        exact m h =
            let same = parts-of h.2 in
            and_from (no_items arguments) _ (items-none arguments h.0)
            (and_from (is_skip c) _ (subst (λ z. is_skip z ≡ true) same.command refl)
            (formula-same p q (sym same.pre ∙ same.post)))

    pub absurd-exact : IsVerdict (absurd_rule ∷ []) w
        (absurd_test arguments (cites premises) p c q k)
    absurd-exact =
        by_shape absurd_rule w (no_items arguments && is_falsity p)
        (cond (cites premises []) instance_verdict premises_verdict) found exact
      where
        found : (no_items arguments && is_falsity p) ≡ true → IsVerdict (absurd_rule ∷ []) w
            (cond (cites premises []) instance_verdict premises_verdict)
        found e =
            let h = and_parts (no_items arguments) (is_falsity p) e in
            let pre : p ≡ falsity = falsity-is p h.1 in
            by_citations absurd_rule w instance_verdict (the_letters p p p c q k)
            (no-items arguments h.0, tt, cc) (λ m a. refl)
            (λ f. founded absurd_rule w (the_letters p p p c q k) (f, tt))

        exact : (m : Letters) → Concludes w (absurd_rule m)
            → (no_items arguments && is_falsity p) ≡ true
        exact m h =
            and_from (no_items arguments) _ (items-none arguments h.0)
            (subst (λ z. is_falsity z ≡ true) (parts-of h.2).pre refl)

    pub consequence-exact : IsVerdict (consequence_rule ∷ []) w
        (cond (no_items arguments)
        (cond (weaken premises p c q k) instance_verdict premises_verdict) shape_verdict)
    consequence-exact =
        by_shape consequence_rule w (no_items arguments)
        (cond (weaken premises p c q k) instance_verdict premises_verdict) found
        (λ m h. items-none arguments h.0)
      where
        follows : (m : Letters) → Follows w (consequence_rule m) → weaken premises p c q k ≡ true
        follows m h =
            let same = parts-of h.0.2 in
            let pre : m.P ≡ p = same.pre in
            let command : m.C ≡ c = same.command in
            let post : m.Q ≡ q = same.post in
            let sort : m.k ≡ k = same.sort in
            let cited = h.1 in
            weaken-from premises p m.A m.B c q k
            (rw (sym pre, sym command, sym post, sym sort) cited)

        found : no_items arguments ≡ true → IsVerdict (consequence_rule ∷ []) w
            (cond (weaken premises p c q k) instance_verdict premises_verdict)
        found e =
            by_premises consequence_rule w (weaken premises p c q k) instance_verdict
            (the_letters p p q c q k) (no-items arguments e, tt, refl)
            (λ t. let x = weaken-is premises p c q k t in
            founded consequence_rule w (the_letters p x.before x.behind c q k)
            (((no-items arguments e, tt, refl), x.cited), tt)) follows

  module _ (c : Command) (q : Formula) (k : DataSort) where
    pub disjunction-exact : (p : Formula) → IsVerdict (disjunction_rule ∷ [])
        (step_of arguments premises p c q k) (disjunction_test arguments (cites premises) p c q k)
    disjunction-exact (disjunction a b) =
        by_shape disjunction_rule (step_of arguments premises (disjunction a b) c q k)
        (no_items arguments)
        (cond (cites premises (triple a c q k ∷ triple b c q k ∷ [])) instance_verdict
        premises_verdict) found (λ m h. items-none arguments h.0)
      where
        alone : (m : Letters)
            → Concludes (step_of arguments premises (disjunction a b) c q k) (disjunction_rule m)
            → (disjunction_rule m).premises ≡ (triple a c q k ∷ triple b c q k ∷ [])
        alone m h =
            let same = parts-of h.2 in
            let first : m.P ≡ a = let e = same.pre in cc in
            let second : m.A ≡ b = let e = same.pre in cc in
            rw (first, second, same.command, same.post, same.sort) refl

        found : no_items arguments ≡ true → IsVerdict (disjunction_rule ∷ [])
            (step_of arguments premises (disjunction a b) c q k)
            (cond (cites premises (triple a c q k ∷ triple b c q k ∷ [])) instance_verdict
            premises_verdict)
        found e =
            by_citations disjunction_rule (step_of arguments premises (disjunction a b) c q k)
            instance_verdict (the_letters a b b c q k)
            (no-items arguments e, tt, refl) alone
            (λ f. founded disjunction_rule (step_of arguments premises (disjunction a b) c q k)
            (the_letters a b b c q k) (f, tt))
    disjunction-exact p =
        misshapen disjunction_rule (step_of arguments premises p c q k)
        (λ m h. let e : disjunction m.P m.A ≡ p = (parts-of h.2).pre in absurd cc)
