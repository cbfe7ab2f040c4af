-- What is found has the name.
use Rattle.std.proofs.Common.{sym, subst}
use Rattle.rule_table.specs.Table.{triples}
use Rattle.rule_table.specs.Verdicts.{readings_in}
use Rattle.hoare_kernel.proofs.Called.{Fits, called-fits}
use Rattle.hoare_kernel.proofs.names.triple_rule_of.Goals as goal

pub returns : goal.returns
returns c = λ procedures.
    subst
    (λ found. Fits c.args.name.now found (readings_in (triples procedures) c.args.name.now))
    (sym c.find_rule.ensures) (called-fits c.args.name.now procedures)
