use Rattle.std.proofs.Common.{map, take}
use Rattle.dom_terms.specs.Terms.{term_of}
use Rattle.formula_table.specs.Interning.{KeepsAll}
use Rattle.entail_rules.specs.Numbers.{AllStandFor}
use Rattle.entail_rules.proofs.numbering.number_terms.Given as goal

abbrev pub invariant-loop-term : goal.invariant-loop-term
invariant-loop-term l = record {
  kept : KeepsAll l.fn.table l.table;
  numbers : AllStandFor l.table l.numbers.items (map term_of (take l.term-index l.terms));
}
