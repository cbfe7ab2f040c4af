-- A name that is new, with names of variables that differ.
use Rattle.std.proofs.Common.{◌∙◌, sym, ◌&&◌, not}
use Rattle.model_files.specs.FileFaults as model
use Rattle.dom_syntax.specs.Faults.{kind_of}
use Rattle.dom_syntax.specs.Heads.{earlier_for}
use Rattle.dom_syntax.specs.Scopes.{procedure_in, theory_in}
use Rattle.dom_syntax.proofs.PlaceLaws.{head-distinct}
use Rattle.dom_syntax.proofs.places.HeaderPlaceScope.passes.Goals as goal

pub returns-then-self : goal.returns-then-self
returns-then-self c =
    let scope = c.args.there.now in
    (λ j. sym c.if-self.true j && not scope.variables.repeats)
    ∙ head-distinct scope c.requires.0 c.args.self.now.is_new
    ∙ (λ j. model.header (theory_in scope.names.now)
    (earlier_for c.args.self.now.is_new (procedure_in scope)) (procedure_in scope)
    (kind_of (sym c.in-Twice.is j)))
