use Rattle.std.proofs.Common.{◌∙◌, ap, bytes_eq}
use Rattle.std.specs.Prelude.{find}
use Rattle.std.specs.Option.{option_map}
use Rattle.theory_syntax.specs.declared.theories.Procedure.{Procedure}
use Rattle.dom_meaning.specs.Effects.{nameless_of}
use Rattle.dom_meaning.proofs.Calls.{found_by_name}
use Rattle.dom_meaning.proofs.flow.procedure_with.Goals as goal

pub returns : goal.returns
returns c =
    ap (option_map nameless_of) (c.first_named.ensures
    ∙ ap (find (λ (p : Procedure). bytes_eq c.args.name.now p.name)) c.as_slice.ensures)
    ∙ found_by_name c.args.name.now c.args.theory.now.procedures
