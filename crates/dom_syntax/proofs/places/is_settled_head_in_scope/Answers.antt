-- Where nothing but parameters is declared, settled variables are parameters.
use Rattle.std.proofs.lemmas.Bool.{OnTrue_at}
use Rattle.dom_syntax.proofs.AloneLaws.{alone-in-scope}
use Rattle.dom_syntax.proofs.places.is_settled_head_in_scope.Goals as goal

pub returns-then-has_params_alone : goal.returns-then-has_params_alone
returns-then-has_params_alone c =
    alone-in-scope c.args.scope.now c.if-has_params_alone.ensures
    (OnTrue_at c.if-are_settled.true c.requires.settled)
