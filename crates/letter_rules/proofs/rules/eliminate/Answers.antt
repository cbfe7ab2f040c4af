use Rattle.std.proofs.lemmas.Result.{IfOk-weaker}
use Rattle.row_patterns.specs.Verdicts.{verdict_in}
use Rattle.letter_rules.proofs.OnWritten.{eliminate-on}
use Rattle.letter_rules.proofs.rules.eliminate.Goals as goal

pub returns-clause-exact : goal.returns-clause-exact
returns-clause-exact c =
    IfOk-weaker c.eliminate.result _ _
    (λ verdict e. eliminate-on c.args.written.now (verdict_in verdict) e) c.eliminate.ensures.ok
