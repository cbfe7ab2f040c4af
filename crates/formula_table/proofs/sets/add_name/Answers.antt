use Rattle.std.proofs.Common.{◌∙◌, sym, map}
use Rattle.std.specs.String.{string_bytes}
use Rattle.formula_table.specs.Sets.{Finds}
use Rattle.formula_table.proofs.FoundRows.{name_there, name_behind}
use Rattle.formula_table.proofs.Results.{if_ok_same}
use Rattle.formula_table.proofs.sets.add_name.Goals as goal

pub returns-in-Some-clause-ok : goal.returns-in-Some-clause-ok
returns-in-Some-clause-ok c =
    if_ok_same c.number_of.result c.in-Some.place c.number_of.ensures
    (Finds c.args.name.now (map string_bytes c.args.names.now.keys)
    (map string_bytes c.args.names.now.keys))
    (name_there c.args.name.now c.args.names.now.keys c.in-Some.place
    (sym c.in-Some.ensures.index))

pub returns-clause-ok : goal.returns-clause-ok
returns-clause-ok c = name_behind c.args.name.now c.args.names.now.keys c.in_ok-copy.copy
    c.in_ok-copy.ensures.ok c.insert_full.new.self.keys c.in_ok-place.place
    (c.in_ok-place.ensures ∙ c.len.ensures.len) (sym c.in_default.ensures.found)
    c.in_ok-insert_full.ensures.keys
