use Rattle.std.proofs.Common.{◌≡◌, map, take}
use Rattle.model_terms.specs.Variables.{logic}
use Rattle.dom_terms.specs.Sorts.{sort_of}
use Rattle.dom_terms.specs.Terms.{logic_var_of}
use Rattle.proof_text.proofs.logics.of_sort.Given as goal

abbrev pub invariant-loop-item : goal.invariant-loop-item
invariant-loop-item l =
    map logic_var_of l.all ≡ map (λ name. logic name (sort_of l.sort)) (take l.item-index l.names)
