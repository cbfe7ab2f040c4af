-- The verdict of the frame rule.
use Rattle.std.proofs.Common.{◌≡◌, refl, subst, Bool, true, ◌&&◌, cond, List, [], ◌∷◌, Option}
use Rattle.std.specs.Prelude.{◌↔◌, IsTrue}
use Rattle.std.proofs.lemmas.Bool.{and_parts, and_from}
use Rattle.model_shapes.specs.Sorts.{DataSort}
use Rattle.model_shapes.specs.Tests.{same_data_sort}
use Rattle.model_shapes.proofs.Tests.{same_data_sort-is, same_data_sort-refl}
use Rattle.model_terms.specs.Terms.{Term}
use Rattle.model_formulas.proofs.SameFormulas.{same_formula-is}
use Rattle.model_formulas.specs.SameFormulas.{same_formula}
use Rattle.model_formulas.specs.Formulas.{Formula, application}
use Rattle.model_commands.specs.Commands.{Command}
use Rattle.model_commands.specs.Theories.{Judgement, triple}
use Rattle.rule_table.specs.Letters.{Letters}
use Rattle.rule_table.specs.Rules.{frame_rule}
use Rattle.rule_table.specs.Conditions.{Holds, unchanged, modified_side}
use Rattle.rule_table.specs.Verdicts.{Written, Concludes, Verdict, instance_verdict, premises_verdict, side_verdict, IsVerdict}
use Rattle.rule_table.proofs.SomeLetters.{plain_letters}
use Rattle.triple_rules.specs.Tests.{no_items, cites}
use Rattle.triple_rules.specs.FrameTests.{context_in, frame_test}
use Rattle.triple_rules.proofs.Stages.{by_shape, by_citations, by_condition, misshapen}
use Rattle.triple_rules.proofs.SimpleVerdicts.{step_of, no-items, items-none, parts-of, formula-same}

module _ (arguments : List Term) (premises : Option (List Judgement)) (c : Command)
    (k : DataSort) (kept : Bool) where
  module _ (h h' : DataSort) (a p a' q : Formula) (tells : IsTrue kept ↔ Holds (unchanged c a))
    where
      abbrev framing : Letters
      framing = record plain_letters { P = p; Q = q; K = a; h = h; C = c; k = k }

      abbrev framed : Written
      framed = step_of arguments premises (application h a p) c (application h' a' q) k

      abbrev fits : Bool
      fits = no_items arguments && (same_data_sort h' h && same_formula a' a)

      abbrev last_verdict : Verdict
      last_verdict = cond kept instance_verdict (side_verdict modified_side)

      abbrev frame_verdict : Verdict
      frame_verdict = cond (cites premises (triple p c q h ∷ [])) last_verdict premises_verdict

      frame-alone : (m : Letters) → Concludes framed (frame_rule m)
          → (frame_rule m).premises ≡ triple p c q h ∷ []
      frame-alone m e =
          let same = parts-of e.2 in
          let part : m.P ≡ p = let f = same.pre in cc in
          let behind : m.Q ≡ q = let f = same.post in cc in
          let hole : m.h ≡ h = let f = same.pre in cc in
          rw (part, same.command, behind, hole) refl

      frame-fixed : (m : Letters) → Concludes framed (frame_rule m)
          → (frame_rule m).conditions ≡ unchanged c a ∷ []
      frame-fixed m e =
          let same = parts-of e.2 in
          let context : m.K ≡ a = let f = same.pre in cc in
          rw (same.command, context) refl

      frame-tests : (m : Letters) → Concludes framed (frame_rule m) → fits ≡ true
      frame-tests m e =
          let same = parts-of e.2 in
          let context : a' ≡ a = let f = same.pre in let g = same.post in cc in
          let hole : h ≡ h' = let f = same.pre in let g = same.post in cc in
          and_from (no_items arguments) _ (items-none arguments e.0)
          (and_from (same_data_sort h' h) _
          (subst (λ z. same_data_sort z h ≡ true) hole (same_data_sort-refl h))
          (formula-same a' a context))

      frame-found : fits ≡ true → IsVerdict (frame_rule ∷ []) framed frame_verdict
      frame-found e =
          let f = and_parts (no_items arguments) _ e in
          let g = and_parts (same_data_sort h' h) (same_formula a' a) f.1 in
          let hole : h' ≡ h = same_data_sort-is h' h g.0 in
          let context : a' ≡ a = same_formula-is a' a g.1 in
          by_citations frame_rule framed last_verdict framing
          (no-items arguments f.0, tt, rw (hole, context) refl) frame-alone
          (λ f. by_condition frame_rule framed kept (unchanged c a) framing f frame-fixed
          tells.0 tells.1)

      pub frame-applied : IsVerdict (frame_rule ∷ []) framed
          (frame_test arguments (cites premises) kept (application h a p) c (application h' a' q) k)
      frame-applied = by_shape frame_rule framed fits frame_verdict frame-found frame-tests

  -- the ensures is no application
  module _ (h : DataSort) (a p : Formula) (tells : IsTrue kept ↔ Holds (unchanged c a)) where
    frame-behind : (q : Formula) → IsVerdict (frame_rule ∷ [])
        (step_of arguments premises (application h a p) c q k)
        (frame_test arguments (cites premises) kept (application h a p) c q k)
    frame-behind (application h' a' q) = frame-applied h h' a p a' q tells
    frame-behind q =
        misshapen frame_rule (step_of arguments premises (application h a p) c q k)
        (λ m e. let f : application m.h m.K m.Q ≡ q = (parts-of e.2).post in absurd cc)

  pub frame-exact : (p q : Formula) → (IsTrue kept ↔ Holds (unchanged c (context_in p)))
      → IsVerdict (frame_rule ∷ []) (step_of arguments premises p c q k)
      (frame_test arguments (cites premises) kept p c q k)
  frame-exact (application h a p) q tells = frame-behind h a p tells q
  frame-exact p q tells =
      misshapen frame_rule (step_of arguments premises p c q k)
      (λ m e. let f : application m.h m.K m.P ≡ p = (parts-of e.2).pre in absurd cc)
