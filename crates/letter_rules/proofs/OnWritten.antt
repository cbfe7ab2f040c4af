-- The verdict of the rule on what is written at a step.
use Rattle.std.proofs.Common.{◌≡◌, sym, subst, map, [], ◌∷◌}
use Rattle.model_commands.specs.Theories.{nameless_judgement}
use Rattle.model_formulas.specs.Nameless.{nameless}
use Rattle.dom_terms.specs.Sorts.{data_sort_of}
use Rattle.dom_terms.specs.Terms.{term_of}
use Rattle.formula_syntax.specs.Formulas.{formula_of}
use Rattle.theory_syntax.specs.Commands.{command_of}
use Rattle.theory_syntax.specs.Judgements.{triple_of}
use Rattle.cited_steps.specs.Earlier.{steps_in}
use Rattle.letter_bindings.proofs.KeptBodies.{nameless-sorted}
use Rattle.rule_table.specs.Rules.{eliminate_rule}
use Rattle.rule_table.specs.Verdicts.{Verdict, IsVerdict}
use Rattle.triple_rules.specs.declared.written.Written.{Written}
use Rattle.triple_rules.specs.Written.{written_in}
use Rattle.letter_rules.specs.EliminateTests.{eliminate_test}
use Rattle.letter_rules.proofs.EliminateVerdicts.{eliminate-exact}

module _ (w : Written) (v : Verdict) where
  pub eliminate-on : v ≡ eliminate_test (steps_in w.earlier.now) w.citations.now
      (map term_of w.arguments.now) (nameless_judgement (triple_of w.triple.now))
      → IsVerdict (eliminate_rule ∷ []) (written_in w) v
  eliminate-on e =
      subst (λ z. IsVerdict (eliminate_rule ∷ []) (written_in w) z) (sym e)
      (eliminate-exact (steps_in w.earlier.now) w.citations.now (map term_of w.arguments.now)
      (command_of w.triple.now.command) (data_sort_of w.triple.now.sort)
      (nameless (formula_of w.triple.now.pre)) (nameless (formula_of w.triple.now.post))
      (nameless-sorted (formula_of w.triple.now.pre))
      (nameless-sorted (formula_of w.triple.now.post)))
