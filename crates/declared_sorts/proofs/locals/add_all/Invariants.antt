use Rattle.std.proofs.Common.{◌≡◌, ◌++◌, map, take}
use Rattle.dom_terms.specs.Terms.{prog_var_of}
use Rattle.declared_sorts.proofs.locals.add_all.Given as goal

abbrev pub invariant-loop-item : goal.invariant-loop-item
invariant-loop-item l =
    map prog_var_of l.found ≡ map prog_var_of l.initial.found ++ map prog_var_of
    (take l.item-index l.more)
