-- The numbers that were found first keep their meaning.
use Rattle.formula_table.proofs.KeptNumbers.{keeps_all-trans}
use Rattle.entail_rules.proofs.Numbers.{cited-kept, entailment-kept}
use Rattle.entail_rules.proofs.numbering.number_step.Goals as goal

pub returns-clause-numbers : goal.returns-clause-numbers
returns-clause-numbers c = record {
  arguments = c.in_ok-arguments.ensures.numbers;
  cited = cited-kept _ _ c.number_terms.ensures.kept _ _ c.in_ok-cited.ensures.numbers;
  conclusion = entailment-kept _ _
      (keeps_all-trans _ _ _ c.number_cited.ensures.kept c.number_terms.ensures.kept) _ _
      c.in_ok-conclusion.ensures.numbers;
}
