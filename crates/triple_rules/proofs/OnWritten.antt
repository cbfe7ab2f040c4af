-- The verdicts of the rules on what is written at a step.
use Rattle.std.proofs.Common.{◌≡◌, sym, ap, ◌∙◌, subst, Bool, not, map, List, [], ◌∷◌}
use Rattle.model_formulas.specs.Nameless.{nameless}
use Rattle.dom_terms.specs.Sorts.{data_sort_of}
use Rattle.dom_terms.specs.Terms.{term_of}
use Rattle.formula_syntax.specs.Formulas.{formula_of}
use Rattle.theory_syntax.specs.Commands.{command_of}
use Rattle.model_terms.specs.Stores.{ProgVar}
use Rattle.cited_steps.specs.Earlier.{steps_in}
use Rattle.rule_table.specs.Accepted.{cited}
use Rattle.rule_table.specs.Rules.{skip_rule, assign_rule, seq_rule, if_rule, while_rule, local_rule, call_rule, frame_rule, consequence_rule, disjunction_rule, absurd_rule, instance_rule}
use Rattle.rule_table.specs.Verdicts.{Verdict, instance_verdict, IsVerdict}
use Rattle.triple_rules.specs.declared.written.Written.{Written}
use Rattle.triple_rules.specs.Changed.{AreChanged}
use Rattle.triple_rules.specs.Written.{written_in}
use Rattle.triple_rules.specs.Tested.{tested}
use Rattle.triple_rules.specs.Tests.{no_items, staged, weaken_by, skip_test, assign_test, disjunction_test, absurd_test}
use Rattle.triple_rules.specs.SequenceTests.{reached, ends, block_in, seq_test}
use Rattle.triple_rules.specs.Occurring.{mentions, term_mentions}
use Rattle.triple_rules.specs.FrameTests.{context_in, frame_test}
use Rattle.triple_rules.specs.InstanceTests.{gives_by, instance_test}
use Rattle.triple_rules.specs.BlockTests.{while_test, if_test, local_test}
use Rattle.triple_rules.proofs.Cited.{exact-as, weaken-by}
use Rattle.triple_rules.proofs.SimpleVerdicts.{skip-exact, absurd-exact, consequence-exact, disjunction-exact}
use Rattle.triple_rules.proofs.AssignVerdicts.{assign-exact}
use Rattle.triple_rules.proofs.Mentions.{unchanged-is, is-unchanged, unchanged-term-is, is-unchanged-term}
use Rattle.triple_rules.proofs.WrittenProgVars.{context-nameless}
use Rattle.triple_rules.proofs.FrameVerdicts.{frame-exact}
use Rattle.triple_rules.proofs.InstanceVerdicts.{instance-exact, gives-as}
use Rattle.triple_rules.proofs.SequenceVerdicts.{seq-exact, by-numbers}
use Rattle.triple_rules.proofs.BlockVerdicts.{while-exact, if-exact, local-exact}
use Rattle.model_commands.specs.Theories.{Procedures}
use Rattle.triple_rules.specs.CallTests.{call_test}
use Rattle.triple_rules.proofs.CallVerdicts.{call-exact}

module _ (w : Written) (v : Verdict) where
  pub skip-on : v ≡ tested skip_test w → IsVerdict (skip_rule ∷ []) (written_in w) v
  skip-on e =
      exact-as (skip_rule ∷ []) w skip_test v e
      (skip-exact (map term_of w.arguments.now)
      (cited (steps_in w.earlier.now) w.citations.now) (nameless (formula_of w.triple.now.pre))
      (command_of w.triple.now.command) (nameless (formula_of w.triple.now.post))
      (data_sort_of w.triple.now.sort))

  pub absurd-on : v ≡ tested absurd_test w → IsVerdict (absurd_rule ∷ []) (written_in w) v
  absurd-on e =
      exact-as (absurd_rule ∷ []) w absurd_test v e
      (absurd-exact (map term_of w.arguments.now)
      (cited (steps_in w.earlier.now) w.citations.now) (nameless (formula_of w.triple.now.pre))
      (command_of w.triple.now.command) (nameless (formula_of w.triple.now.post))
      (data_sort_of w.triple.now.sort))

  pub disjunction-on : v ≡ tested disjunction_test w
      → IsVerdict (disjunction_rule ∷ []) (written_in w) v
  disjunction-on e =
      exact-as (disjunction_rule ∷ []) w disjunction_test v e
      (disjunction-exact (map term_of w.arguments.now)
      (cited (steps_in w.earlier.now) w.citations.now) (command_of w.triple.now.command)
      (nameless (formula_of w.triple.now.post)) (data_sort_of w.triple.now.sort)
      (nameless (formula_of w.triple.now.pre)))

  pub assign-on : v ≡ tested assign_test w → IsVerdict (assign_rule ∷ []) (written_in w) v
  assign-on e =
      exact-as (assign_rule ∷ []) w assign_test v e
      (assign-exact (map term_of w.arguments.now)
      (cited (steps_in w.earlier.now) w.citations.now) (nameless (formula_of w.triple.now.pre))
      (nameless (formula_of w.triple.now.post)) (data_sort_of w.triple.now.sort)
      (command_of w.triple.now.command))

  pub consequence-on : v ≡ tested (λ arguments are_cited p c q k. staged (no_items arguments)
      (weaken_by (steps_in w.earlier.now) w.citations.now p c q k) instance_verdict) w
      → IsVerdict (consequence_rule ∷ []) (written_in w) v
  consequence-on e =
      let p = nameless (formula_of w.triple.now.pre) in
      let c = command_of w.triple.now.command in
      let q = nameless (formula_of w.triple.now.post) in
      let k = data_sort_of w.triple.now.sort in
      subst (λ z. IsVerdict (consequence_rule ∷ []) (written_in w) z)
      (sym (e ∙ ap (λ f. staged (no_items (map term_of w.arguments.now)) f instance_verdict)
      (weaken-by p c q k (steps_in w.earlier.now) w.citations.now)))
      (consequence-exact (map term_of w.arguments.now)
      (cited (steps_in w.earlier.now) w.citations.now) p c q k)

  pub seq-on : v ≡ seq_test (map term_of w.arguments.now)
      (ends (reached (steps_in w.earlier.now) w.citations.now
      (nameless (formula_of w.triple.now.pre)) (block_in (command_of w.triple.now.command))
      (data_sort_of w.triple.now.sort)) (nameless (formula_of w.triple.now.post)))
      (command_of w.triple.now.command) → IsVerdict (seq_rule ∷ []) (written_in w) v
  seq-on e =
      let p = nameless (formula_of w.triple.now.pre) in
      let c = command_of w.triple.now.command in
      let q = nameless (formula_of w.triple.now.post) in
      let k = data_sort_of w.triple.now.sort in
      subst (λ z. IsVerdict (seq_rule ∷ []) (written_in w) z)
      (sym (e ∙ ap (λ f. seq_test (map term_of w.arguments.now) f c)
      (by-numbers (steps_in w.earlier.now) w.citations.now p (block_in c) q k)))
      (seq-exact (map term_of w.arguments.now)
      (cited (steps_in w.earlier.now) w.citations.now) p q k c)

  pub frame-on : (kept : Bool) (changed : List ProgVar)
      → AreChanged changed (command_of w.triple.now.command)
      → kept ≡ not (mentions changed (context_in (formula_of w.triple.now.pre)))
      → v ≡ tested (λ arguments are_cited. frame_test arguments are_cited kept) w
      → IsVerdict (frame_rule ∷ []) (written_in w) v
  frame-on kept changed are f e =
      let c = command_of w.triple.now.command in
      let p = nameless (formula_of w.triple.now.pre) in
      let same : kept ≡ not (mentions changed (context_in p)) =
      f ∙ ap not (sym (context-nameless changed w.triple.now.pre)) in
      exact-as (frame_rule ∷ []) w (λ arguments are_cited. frame_test arguments are_cited kept) v e
      (frame-exact (map term_of w.arguments.now)
      (cited (steps_in w.earlier.now) w.citations.now) c (data_sort_of w.triple.now.sort) kept p
      (nameless (formula_of w.triple.now.post)) (
        (λ t. unchanged-is changed c are (context_in p) (sym same ∙ t)),
        (λ h. same ∙ is-unchanged changed c are (context_in p) h),
      ))

  pub while-on : v ≡ tested while_test w → IsVerdict (while_rule ∷ []) (written_in w) v
  while-on e =
      exact-as (while_rule ∷ []) w while_test v e
      (while-exact (map term_of w.arguments.now)
      (cited (steps_in w.earlier.now) w.citations.now) (nameless (formula_of w.triple.now.pre))
      (nameless (formula_of w.triple.now.post)) (data_sort_of w.triple.now.sort)
      (command_of w.triple.now.command))

  pub if-on : v ≡ tested if_test w → IsVerdict (if_rule ∷ []) (written_in w) v
  if-on e =
      exact-as (if_rule ∷ []) w if_test v e
      (if-exact (map term_of w.arguments.now)
      (cited (steps_in w.earlier.now) w.citations.now) (nameless (formula_of w.triple.now.pre))
      (nameless (formula_of w.triple.now.post)) (data_sort_of w.triple.now.sort)
      (command_of w.triple.now.command))

  pub local-on : v ≡ tested local_test w → IsVerdict (local_rule ∷ []) (written_in w) v
  local-on e =
      exact-as (local_rule ∷ []) w local_test v e
      (local-exact (map term_of w.arguments.now)
      (cited (steps_in w.earlier.now) w.citations.now) (nameless (formula_of w.triple.now.pre))
      (nameless (formula_of w.triple.now.post)) (data_sort_of w.triple.now.sort)
      (command_of w.triple.now.command))

  pub call-on : (procedures : Procedures)
      → v ≡ tested (λ arguments are_cited. call_test arguments are_cited procedures) w
      → IsVerdict ((λ letters. call_rule letters procedures) ∷ []) (written_in w) v
  call-on procedures e =
      exact-as ((λ letters. call_rule letters procedures) ∷ []) w
      (λ arguments are_cited. call_test arguments are_cited procedures) v e
      (call-exact (map term_of w.arguments.now)
      (cited (steps_in w.earlier.now) w.citations.now) (nameless (formula_of w.triple.now.pre))
      (nameless (formula_of w.triple.now.post)) (data_sort_of w.triple.now.sort) procedures
      (command_of w.triple.now.command))

  pub instance-on : (changed : List ProgVar)
      → AreChanged changed (command_of w.triple.now.command)
      → v ≡ instance_test (gives_by (steps_in w.earlier.now) w.citations.now
      (nameless (formula_of w.triple.now.pre)) (command_of w.triple.now.command)
      (nameless (formula_of w.triple.now.post)) (data_sort_of w.triple.now.sort))
      (λ t. not (term_mentions changed t)) (map term_of w.arguments.now)
      (nameless (formula_of w.triple.now.pre)) (nameless (formula_of w.triple.now.post))
      → IsVerdict (instance_rule ∷ []) (written_in w) v
  instance-on changed are e =
      let p = nameless (formula_of w.triple.now.pre) in
      let c = command_of w.triple.now.command in
      let q = nameless (formula_of w.triple.now.post) in
      let k = data_sort_of w.triple.now.sort in
      subst (λ z. IsVerdict (instance_rule ∷ []) (written_in w) z)
      (sym (e ∙ ap (λ g. instance_test g (λ t. not (term_mentions changed t))
      (map term_of w.arguments.now) p q)
      (gives-as p c q k (steps_in w.earlier.now) w.citations.now)))
      (instance-exact (cited (steps_in w.earlier.now) w.citations.now) p c q k
      (λ t. not (term_mentions changed t))
      (λ t. (unchanged-term-is changed c are t, is-unchanged-term changed c are t))
      w.arguments.now)
