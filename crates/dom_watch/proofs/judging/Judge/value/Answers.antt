use Rattle.std.proofs.Common.{sym, ap, ◌∙◌}
use Rattle.model_shapes.specs.Things.{val}
use Rattle.dom_terms.specs.Stores.{store_of}
use Rattle.dom_watch.proofs.Meanings.{told_meaning}
use Rattle.dom_watch.proofs.judging.Judge.value.Goals as goal

pub returns-in-Ok : goal.returns-in-Ok
returns-in-Ok c =
    ap val c.in-Ok.ensures.value
    ∙ sym (told_meaning c.args.bindings.now (store_of c.args.self.now.store.now) c.args.term.now
    c.in_default.not-Logic c.requires)
