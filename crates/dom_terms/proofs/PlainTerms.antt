-- Terms without logic variables.
use Rattle.std.proofs.Common.{◌≡◌, List, ◌++◌, ◌&&◌}
use Rattle.std.specs.List.{list_all}
use Rattle.std.proofs.lemmas.List.Folds.{list_all-append}
use Rattle.model_terms.specs.Variables.{Var}
use Rattle.model_terms.specs.TermSorts.{is_program}

-- the parts of a term have a logic variable where the term has
pub plain_parts : (xs ys : List Var)
    → list_all is_program (xs ++ ys) ≡ (list_all is_program xs && list_all is_program ys)
plain_parts xs ys = list_all-append is_program xs ys
