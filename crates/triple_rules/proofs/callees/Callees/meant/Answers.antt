use Rattle.std.proofs.Common.{◌∙◌, ap, subst, MatchOption, Option, Bor}
use Rattle.std.specs.Option.{option_map}
use Rattle.name_table.specs.Found.{found}
use Rattle.name_table.specs.declared.tables.NameTable.{NameTable}
use Rattle.theory_syntax.specs.declared.theories.Procedure.{Procedure}
use Rattle.triple_rules.specs.Callees.{procedure_at, Tells}
use Rattle.triple_rules.proofs.Naming.{found-is}
use Rattle.triple_rules.proofs.callees.Callees.meant.Goals as goal

pub returns-in-Some : goal.returns-in-Some
returns-in-Some c =
    let fs = c.args.self.procedures.now in
    let name = c.args.name.now in
    let told : Tells c.in-Some.names.now fs =
    subst (λ (o : Option (Bor (NameTable (Bor Procedure)))).
    MatchOption o Unit (λ table. Tells table.now fs)) c.in-Some.is c.requires.told in
    found-is name fs c.get.result c.requires.small
    (ap (option_map procedure_at) (c.get.ensures ∙ ap (found c.in-Some.names.now) c.as_str.ensures)
    ∙ told name)
