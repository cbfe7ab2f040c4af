use Rattle.std.proofs.Common.{◌∙◌, ap, ◌+ℤ◌, Some, bytes_eq, rules, to_z, of_z}
use Rattle.std.specs.Int.{w128}
use Rattle.std.proofs.lemmas.Int.{to_z-of_z}
use Rattle.std.proofs.lemmas.Map.Text.{hash_map_updates_str}
use Rattle.indexmap.specs.IndexMap.{get_by}
use Rattle.computed_rules.proofs.SumLaws.{count-more}
use Rattle.computed_rules.proofs.forms.Counts.add.Goals as goal
use mir.Val.{SFits}

-- a number is the one that its bits say
pub returns : goal.returns
returns c =
    let found_fits : SFits w128 c.get.result = search rules in
    let count_fits : SFits w128 c.in_ok-count.count = search rules in
    let count = to_z w128 (of_z w128 c.in_ok-count.count) in
    count-more (λ name. get_by (λ k. bytes_eq name k.now) c.args.self.now.counts)
    (λ name. get_by (λ k. bytes_eq name k.now) c.insert.new.self) c.args.name.now
    count c.args.number
    (to_z-of_z w128 c.in_ok-count.count count_fits
    ∙ c.in_ok-count.ensures
    ∙ (λ i. to_z-of_z w128 c.get.result found_fits i
    +ℤ to_z-of_z w128 c.args.number c.ranges.number i)
    ∙ ap (λ z. z +ℤ c.args.number) c.get.ensures)
    (hash_map_updates_str c.args.name.now c.args.self.now.counts c.insert.new.self (Some count)
    c.in_ok-insert.ensures.updates)
