use Rattle.std.proofs.Common.{map, pos}
use Rattle.model_terms.specs.Terms.{difference}
use Rattle.rule_table.specs.Linear.{multiple}
use Rattle.dom_terms.specs.Terms.{term_of}
use Rattle.computed_rules.specs.Linear.{total}
use Rattle.computed_rules.specs.Sums.{comparison_of}
use Rattle.computed_rules.proofs.SumLaws.{stands-more}
use Rattle.computed_rules.proofs.sums.shortfall.Goals as goal

pub returns : goal.returns
returns c =
    stands-more c.in_ok-form.form c.add_difference.new.self
    (total (map comparison_of c.args.comparisons.now))
    (multiple (pos 1) (difference (term_of c.args.left.now) (term_of c.args.right.now)))
    c.in_ok-form.ensures c.in_ok-add_difference.ensures
