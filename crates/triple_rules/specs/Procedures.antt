-- Needn't be believed: the program's promise doesn't speak of it. The procedures of a theory, as
-- the definitions have them.
use Rattle.std.specs.Prelude.{List, map}
use Rattle.model_commands.specs.Theories as model
use Rattle.theory_syntax.specs.declared.theories.Procedure.{Procedure}
use Rattle.theory_syntax.specs.Theories.{procedure_of}

-- without the names of bound variables
abbrev pub procedures_in : List Procedure → model.Procedures
procedures_in procedures = map model.nameless_procedure (map procedure_of procedures)
