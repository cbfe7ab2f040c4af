-- The verdicts of the rules for choice, loops and local variables.
use Rattle.std.proofs.Common.{◌≡◌, refl, sym, ap, ◌∙◌, Bool, true, false, ◌&&◌, not, cond, List, [], ◌∷◌, Option}
use Rattle.std.proofs.lemmas.Bool.{and_parts, and_from}
use Rattle.model_shapes.specs.Sorts.{DataSort}
use Rattle.model_terms.specs.Terms.{Term}
use Rattle.model_terms.specs.Conditions.{Cond}
use Rattle.model_terms.specs.Stores.{ProgVar}
use Rattle.model_formulas.proofs.SameFormulas.{same_formula-is}
use Rattle.model_formulas.specs.SameFormulas.{same_formula}
use Rattle.model_formulas.specs.Formulas.{Formula, conjunction}
use Rattle.model_commands.specs.Commands.{Command, Block, block, while_do, if_else, local}
use Rattle.model_commands.specs.Theories.{Judgement, triple}
use Rattle.rule_table.specs.Letters.{Letters}
use Rattle.rule_table.specs.Rules.{while_rule, if_rule, local_rule}
use Rattle.rule_table.specs.Conditions.{not_in, free_side}
use Rattle.triple_rules.proofs.Mentions.{mentions-not, not-mentions, not-in-or-in}
use Rattle.rule_table.specs.Verdicts.{Written, Concludes, Follows, Verdict, instance_verdict, premises_verdict, side_verdict, IsVerdict}
use Rattle.rule_table.proofs.SomeLetters.{plain_letters}
use Rattle.triple_rules.specs.Tests.{no_items, cites}
use Rattle.triple_rules.specs.Occurring.{mentions}
use Rattle.triple_rules.specs.BlockTests.{guard, branch, is_default, while_test, if_test, local_test}
use Rattle.triple_rules.proofs.Stages.{by_shape, by_citations, by_two_conditions, founded, misshapen}
use Rattle.triple_rules.proofs.SimpleVerdicts.{step_of, no-items, items-none, parts-of, formula-same}

-- a choice of the letters P, Q, c, b, b', v and k
abbrev pub block_letters : Formula → Formula → Cond → Block → Block → ProgVar → DataSort → Letters
block_letters p q c b b' v k =
    record plain_letters { P = p; Q = q; c = c; b = b; b' = b'; v = v; k = k }

module _ (arguments : List Term) (premises : Option (List Judgement)) (p q : Formula)
    (k : DataSort) where
  -- LOOPS
  module _ (c : Cond) (b : Block) where
    abbrev looping : Letters
    looping = block_letters p q c b b plain_letters.v k

    abbrev loop : Written
    loop = step_of arguments premises p (while_do c b) q k

    abbrev loop_test : Bool
    loop_test = no_items arguments && same_formula q (conjunction p (guard false c))

    abbrev loop_verdict : Verdict
    loop_verdict =
        cond (cites premises (branch p true c b p k ∷ [])) instance_verdict premises_verdict

    loop-alone : (m : Letters) → Concludes loop (while_rule m)
        → (while_rule m).premises ≡ branch p true c b p k ∷ []
    loop-alone m h =
        let same = parts-of h.2 in
        let condition : m.c ≡ c = let e = same.command in cc in
        let body : m.b ≡ b = let e = same.command in cc in
        rw (same.pre, condition, body, same.sort) refl

    loop-found : loop_test ≡ true → IsVerdict (while_rule ∷ []) loop loop_verdict
    loop-found e =
        let h = and_parts (no_items arguments) _ e in
        let post : q ≡ conjunction p (guard false c) =
        same_formula-is q (conjunction p (guard false c)) h.1 in
        by_citations while_rule loop instance_verdict looping
        (no-items arguments h.0, tt, ap (λ z. triple p (while_do c b) z k) (sym post)) loop-alone
        (λ f. founded while_rule loop looping (f, tt))

    loop-tests : (m : Letters) → Concludes loop (while_rule m) → loop_test ≡ true
    loop-tests m h =
        let same = parts-of h.2 in
        let condition : m.c ≡ c = let e = same.command in cc in
        and_from (no_items arguments) _ (items-none arguments h.0)
        (formula-same q _ (sym same.post ∙ rw (same.pre, condition) refl))

    while-loop : IsVerdict (while_rule ∷ []) loop
        (while_test arguments (cites premises) p (while_do c b) q k)
    while-loop = by_shape while_rule loop loop_test loop_verdict loop-found loop-tests

  pub while-exact : (c : Command) → IsVerdict (while_rule ∷ [])
      (step_of arguments premises p c q k) (while_test arguments (cites premises) p c q k)
  while-exact (while_do c b) = while-loop c b
  while-exact c =
      misshapen while_rule (step_of arguments premises p c q k)
      (λ m h. let e : while_do m.c m.b ≡ c = (parts-of h.2).command in absurd cc)

  -- CHOICE
  module _ (c : Cond) (b b' : Block) where
    abbrev choosing : Letters
    choosing = block_letters p q c b b' plain_letters.v k

    abbrev choice : Written
    choice = step_of arguments premises p (if_else c b b') q k

    abbrev branches : List Judgement
    branches = branch p true c b q k ∷ branch p false c b' q k ∷ []

    choice-alone : (m : Letters) → Concludes choice (if_rule m) → (if_rule m).premises ≡ branches
    choice-alone m h =
        let same = parts-of h.2 in
        let condition : m.c ≡ c = let e = same.command in cc in
        let first : m.b ≡ b = let e = same.command in cc in
        let second : m.b' ≡ b' = let e = same.command in cc in
        rw (same.pre, condition, first, second, same.post, same.sort) refl

    if-choice : IsVerdict (if_rule ∷ []) choice
        (if_test arguments (cites premises) p (if_else c b b') q k)
    if-choice =
        by_shape if_rule choice (no_items arguments)
        (cond (cites premises branches) instance_verdict premises_verdict)
        (λ e. by_citations if_rule choice instance_verdict choosing
        (no-items arguments e, tt, refl) choice-alone
        (λ f. founded if_rule choice choosing (f, tt))) (λ m h. items-none arguments h.0)

  pub if-exact : (c : Command) → IsVerdict (if_rule ∷ []) (step_of arguments premises p c q k)
      (if_test arguments (cites premises) p c q k)
  if-exact (if_else c b b') = if-choice c b b'
  if-exact c =
      misshapen if_rule (step_of arguments premises p c q k)
      (λ m h. let e : if_else m.c m.b m.b' ≡ c = (parts-of h.2).command in absurd cc)

  -- LOCAL VARIABLES
  module _ (v : ProgVar) (b : Block) where
    abbrev hiding : Letters
    hiding = block_letters p q plain_letters.c b b v k

    abbrev hidden : Written
    hidden = step_of arguments premises p (local v b) q k

    abbrev inner : Judgement
    inner = triple (conjunction p (is_default v)) (block b) q k

    hidden-alone : (m : Letters) → Concludes hidden (local_rule m)
        → (local_rule m).premises ≡ inner ∷ []
    hidden-alone m h =
        let same = parts-of h.2 in
        let name : m.v ≡ v = let e = same.command in cc in
        let body : m.b ≡ b = let e = same.command in cc in
        rw (same.pre, name, body, same.post, same.sort) refl

    hidden-fixed : (m : Letters) → Concludes hidden (local_rule m)
        → (local_rule m).conditions ≡ not_in v p ∷ not_in v q ∷ []
    hidden-fixed m h =
        let same = parts-of h.2 in
        let name : m.v ≡ v = let e = same.command in cc in
        rw (same.pre, name, same.post) refl

    abbrev free : Bool
    free = not (mentions (v ∷ []) p) && not (mentions (v ∷ []) q)

    abbrev hidden_verdict : Verdict
    hidden_verdict = cond free instance_verdict (side_verdict free_side)

    hidden-last : Follows hidden (local_rule hiding)
        → IsVerdict (local_rule ∷ []) hidden hidden_verdict
    hidden-last f =
        by_two_conditions local_rule hidden free (not_in v p) (not_in v q) hiding f hidden-fixed
        refl (not-in-or-in v p)
        (λ e. let h = and_parts (not (mentions (v ∷ []) p)) (not (mentions (v ∷ []) q)) e in
        (mentions-not v p h.0, mentions-not v q h.1))
        (λ h. and_from (not (mentions (v ∷ []) p)) (not (mentions (v ∷ []) q))
        (not-mentions v p h.0) (not-mentions v q h.1))

    hidden-exact : IsVerdict (local_rule ∷ []) hidden
        (local_test arguments (cites premises) p (local v b) q k)
    hidden-exact =
        by_shape local_rule hidden (no_items arguments)
        (cond (cites premises (inner ∷ [])) hidden_verdict premises_verdict)
        (λ e. by_citations local_rule hidden hidden_verdict hiding
        (no-items arguments e, tt, refl) hidden-alone hidden-last)
        (λ m h. items-none arguments h.0)

  pub local-exact : (c : Command) → IsVerdict (local_rule ∷ [])
      (step_of arguments premises p c q k) (local_test arguments (cites premises) p c q k)
  local-exact (local v b) = hidden-exact v b
  local-exact c =
      misshapen local_rule (step_of arguments premises p c q k)
      (λ m h. let e : local m.v m.b ≡ c = (parts-of h.2).command in absurd cc)
