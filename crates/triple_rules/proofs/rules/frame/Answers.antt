use Rattle.std.proofs.Common.{map}
use Rattle.dom_terms.specs.Terms.{prog_var_of}
use Rattle.triple_rules.proofs.OnWritten.{frame-on}
use Rattle.triple_rules.proofs.rules.frame.Goals as goal

pub returns : goal.returns
returns c =
    frame-on c.args.written.now _ _ (map prog_var_of c.args.changed.now) c.requires.changed
    c.is_kept-kept.ensures c.frame.ensures
