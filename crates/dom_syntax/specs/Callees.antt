-- Needn't be believed: the promises speak of theories themselves. A procedure as calls take it.
use Rattle.std.specs.Borrow.{Bor}
use Rattle.model_commands.specs.Theories as model
use Rattle.theory_syntax.specs.declared.theories.Procedure.{Procedure}
use Rattle.theory_syntax.specs.Theories.{procedure_of}
use Rattle.dom_syntax.specs.Tables.{Declaration}

-- a procedure declares its name
abbrev pub procedure_entry : model.Procedure → Declaration model.Procedure
procedure_entry f = (f.name, f)

-- the procedure that a reference is to
abbrev pub callee_of : Bor Procedure → model.Procedure
callee_of f = model.nameless_procedure (procedure_of f.now)
