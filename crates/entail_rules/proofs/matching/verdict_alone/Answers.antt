-- No numbers are known in the table of its own.
use Rattle.entail_rules.proofs.matching.verdict_alone.Goals as goal

pub verdict_within-requires-clause-known : goal.verdict_within-requires-clause-known
verdict_within-requires-clause-known c =
    c.all_unnumbered-cited.ensures.unknown c.with_most-table.result
