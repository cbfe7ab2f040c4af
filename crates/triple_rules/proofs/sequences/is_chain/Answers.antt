use Rattle.std.proofs.Common.{◌≡◌, ◌∙◌, sym, ap, refl, ℕ, ◌≤◌, ◌<◌, false, List, [], ◌∷◌, length, drop, arith, length-drop}
use Rattle.model_shapes.specs.Sorts.{DataSort}
use Rattle.model_formulas.specs.Formulas.{Formula}
use Rattle.model_formulas.specs.Nameless.{nameless}
use Rattle.model_commands.specs.Theories.{Step}
use Rattle.dom_terms.specs.Sorts.{data_sort_of}
use Rattle.formula_syntax.specs.Formulas.{formula_of}
use Rattle.theory_syntax.specs.Commands.{block_of}
use Rattle.theory_syntax.specs.declared.commands.Command.{Command}
use Rattle.cited_steps.specs.Earlier.{steps_in}
use Rattle.triple_rules.specs.SequenceTests.{ends, reached}
use Rattle.triple_rules.proofs.sequences.is_chain.Goals as goal

-- citations are left, and no command
few : (earlier : List Step) (ns : List ℕ) (p : Formula) (commands : List Command) (k : DataSort)
    (q : Formula) → length commands < 1 → 0 < length ns
    → ends (reached earlier ns p (block_of commands) k) q ≡ false
few earlier [] p commands k q l n = absurd (omega arith)
few earlier (n ∷ ns) p [] k q l m = refl
few earlier (n ∷ ns) p (c ∷ commands) k q l m = absurd (omega arith)

-- commands are left, and no citation
many : (earlier : List Step) (ns : List ℕ) (p : Formula) (commands : List Command) (k : DataSort)
    (q : Formula) → 1 ≤ length commands → length ns ≤ 0
    → ends (reached earlier ns p (block_of commands) k) q ≡ false
many earlier [] p [] k q l n = absurd (omega arith)
many earlier [] p (c ∷ commands) k q l n = refl
many earlier (n ∷ ns) p commands k q l m = absurd (omega arith)

pub returns-in_default : goal.returns-in_default
returns-in_default c =
    let w = c.args.written.now in
    sym (ap (λ z. ends z (nameless (formula_of w.triple.now.post))) c.loop-number.invariant.same
    ∙ few (steps_in w.earlier.now) (drop c.loop-number.number-index w.citations.now)
    (nameless (formula_of c.loop-number.at.now)) c.loop-number.commands.now
    (data_sort_of w.triple.now.sort) (nameless (formula_of w.triple.now.post))
    c.in_default.len_below
    (omega (
      arith,
      length-drop c.loop-number.number-index w.citations.now,
      c.loop-number-test.true,
    )))

pub returns-in_default-commands : goal.returns-in_default-commands
returns-in_default-commands c =
    let w = c.args.written.now in
    sym (ap (λ z. ends z (nameless (formula_of w.triple.now.post))) c.loop-number.invariant.same
    ∙ many (steps_in w.earlier.now) (drop c.loop-number.number-index w.citations.now)
    (nameless (formula_of c.loop-number.at.now)) c.loop-number.commands.now
    (data_sort_of w.triple.now.sort) (nameless (formula_of w.triple.now.post))
    c.in_default-commands.len_at_least
    (omega (
      arith,
      length-drop c.loop-number.number-index w.citations.now,
      c.loop-number-test.false,
    )))
