-- One more argument has its number.
use Rattle.std.proofs.Common.{map, sym, subst, take, ◌+◌}
use Rattle.dom_terms.specs.Terms.{term_of}
use Rattle.formula_table.specs.Interning.{IsTerm}
use Rattle.formula_table.proofs.KeptNumbers.{keeps_all-trans}
use Rattle.entail_rules.specs.Numbers.{AllStandFor}
use Rattle.entail_rules.proofs.Numbers.{terms-next}
use Rattle.entail_rules.proofs.numbering.number_terms.Goals as goal

pub loop-term-preserved : goal.loop-term-preserved
loop-term-preserved c = record {
  kept = keeps_all-trans _ _ _ c.loop-term.invariant.kept c.intern_term.ensures.grows.keeps;
  numbers = subst (λ ns. AllStandFor c.intern_term.new.self ns
      (map term_of (take (c.loop-term.term-index + 1) c.args.terms.now)))
      (sym c.in_ok-push.ensures.items)
      (terms-next c.loop-term.table c.intern_term.new.self c.intern_term.ensures.grows.keeps
      c.loop-term.numbers.items c.args.terms.now c.loop-term.term-index c.in_ok-number.number
      c.term-item.result c.loop-term-test.true c.loop-term.invariant.numbers
      (subst (λ x. IsTerm c.intern_term.new.self c.in_ok-number.number (term_of x))
      c.term-item.is c.in_ok-number.ensures.ok));
}
