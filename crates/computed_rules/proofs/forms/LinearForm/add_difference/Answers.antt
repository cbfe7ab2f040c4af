use Rattle.std.proofs.Common.{◌∙◌, ap, subst, neg_ℤ, rules}
use Rattle.std.specs.Int.{w128}
use Rattle.std.proofs.lemmas.Int.{to_z-of_z}
use Rattle.rule_table.specs.Linear.{multiple}
use Rattle.dom_terms.specs.Terms.{term_of}
use Rattle.computed_rules.specs.Forms.{Adds}
use Rattle.computed_rules.proofs.SumLaws.{on-ok, adds-both}
use Rattle.computed_rules.proofs.forms.LinearForm.add_difference.Goals as goal
use mir.Val.{SFits}

pub returns : goal.returns
returns c =
    let n = c.args.number in
    let less = c.in_ok-negative.field-0 in
    let fits : SFits w128 less = search rules in
    on-ok c.add-2.result
    (λ k. adds-both c.args.self.now c.add.new.self c.add-2.new.self
    (multiple n (term_of c.args.left.now)) (multiple (neg_ℤ n) (term_of c.args.right.now))
    (subst (λ z. Adds c.args.self.now c.add.new.self (multiple z (term_of c.args.left.now)))
    (to_z-of_z w128 n c.ranges.number) c.in_ok-add.ensures)
    (subst (λ z. Adds c.add.new.self c.add-2.new.self (multiple z (term_of c.args.right.now)))
    (to_z-of_z w128 less fits ∙ c.in_ok-negative.ensures
    ∙ ap neg_ℤ (to_z-of_z w128 n c.ranges.number)) k)) c.add-2.ensures
