-- Needn't be believed: the program's promise doesn't speak of it. A triple that is written at a
-- step which cites nothing and has no argument.
use Rattle.std.specs.Prelude.{[], Some}
use Rattle.model_commands.specs.Theories.{Judgement, nameless_judgement}
use Rattle.rule_table.specs.Verdicts.{Written}
use Rattle.theory_syntax.specs.Judgements.{triple_of}
use Rattle.theory_syntax.specs.declared.judgements.Triple.{Triple}

-- the judgement alone
abbrev pub step_of : Judgement → Written
step_of judgement = record { arguments = []; premises = Some []; conclusion = judgement }

-- the triple, without the names of bound variables
abbrev pub judgement_of : Triple → Judgement
judgement_of triple = nameless_judgement (triple_of triple)

-- the triple alone
abbrev pub written : Triple → Written
written triple = step_of (judgement_of triple)
