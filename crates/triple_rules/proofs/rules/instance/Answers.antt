use Rattle.std.proofs.Common.{map}
use Rattle.std.proofs.lemmas.Result.{IfOk-weaker}
use Rattle.row_patterns.specs.Verdicts.{verdict_in}
use Rattle.dom_terms.specs.Terms.{prog_var_of}
use Rattle.triple_rules.proofs.OnWritten.{instance-on}
use Rattle.triple_rules.proofs.rules.instance.Goals as goal

pub returns : goal.returns
returns c =
    IfOk-weaker c.instance.result _ _
    (λ v. instance-on c.args.written.now (verdict_in v) (map prog_var_of c.args.changed.now)
    c.requires.changed)
    c.instance.ensures
