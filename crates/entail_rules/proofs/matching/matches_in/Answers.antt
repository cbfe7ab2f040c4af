-- No numbers are known of the premises.
use Rattle.entail_rules.proofs.matching.matches_in.Goals as goal

pub verdict_on-requires-clause-known : goal.verdict_on-requires-clause-known
verdict_on-requires-clause-known c = c.cited_in-cited.ensures.unknown c.args.table.now
