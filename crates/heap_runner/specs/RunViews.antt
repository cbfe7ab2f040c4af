-- Needn't be believed: the program's promise doesn't speak of it. What contracts see of a run on a
-- heap, and the configuration of the machine of the definitions that it is on a grove.
use Rattle.std.specs.Prelude.{◌≡◌, ℕ, zero, suc, List, map, refl}
use Rattle.std.specs.Coded.{Coded, code_by, coded×, coded_list, coded_ℕ}
use Rattle.model_shapes.specs.Sorts.{ValueSort, node_sort, list_sort, int_sort, str_sort, bool_sort}
use Rattle.model_shapes.specs.Trees.{Trees}
use Rattle.model_terms.specs.Stores.{ProgVar, named}
use Rattle.model_machine.specs.Machine.{Config, configuration}
use Rattle.dom_terms.specs.declared.store.Cell.{Cell}
use Rattle.dom_terms.specs.contracts.store.Cell as cell
use Rattle.dom_terms.specs.Stores.{store_of}
use Rattle.dom_meaning.specs.declared.configurations.Pending.{Pending}
use Rattle.dom_meaning.specs.contracts.configurations.Pending as pending
use Rattle.dom_meaning.specs.Configs.{piece_of}

-- the pieces that are pending, the first one first; the store; the result variables; and the steps
-- taken
pub record RunView : Type 0 where
  pub pending : List Pending
  pub store : List Cell
  pub results : List ProgVar
  pub steps : ℕ

-- the configuration with this grove
abbrev pub config_on : RunView → Trees → Config
config_on run grove = configuration (map piece_of run.pending) (store_of run.store) grove

-- a number for each sort
abbrev pub sort_number : ValueSort → ℕ
sort_number node_sort = 0
sort_number list_sort = 1
sort_number int_sort = 2
sort_number str_sort = 3
sort_number bool_sort = 4

-- and the sort with the number
abbrev pub sort_numbered : ℕ → ValueSort
sort_numbered zero = node_sort
sort_numbered (suc zero) = list_sort
sort_numbered (suc (suc zero)) = int_sort
sort_numbered (suc (suc (suc zero))) = str_sort
sort_numbered (suc (suc (suc (suc n)))) = bool_sort

-- a variable as its name and the number of its sort
abbrev pub variable_parts : ProgVar → List ℕ × ℕ
variable_parts (named name sort) = (name, sort_number sort)

abbrev pub variable_from : List ℕ × ℕ → ProgVar
variable_from parts = named parts.0 (sort_numbered parts.1)

pub variable-from_parts : (x : ProgVar) → variable_from (variable_parts x) ≡ x
variable-from_parts (named name node_sort) = refl
variable-from_parts (named name list_sort) = refl
variable-from_parts (named name int_sort) = refl
variable-from_parts (named name str_sort) = refl
variable-from_parts (named name bool_sort) = refl

-- how a run is kept
abbrev pub run_code : Coded RunView
run_code =
    code_by (List Pending × (List Cell × (List ProgVar × ℕ)))
    (coded× (coded_list pending.the_row.coded) (coded× (coded_list cell.the_row.coded)
    (coded× (coded_list (code_by (List ℕ × ℕ) (coded× (coded_list coded_ℕ) coded_ℕ)
    variable_parts variable_from variable-from_parts)) coded_ℕ)))
    (λ run. (run.pending, (run.store, (run.results, run.steps))))
    (λ parts. record {
      pending = parts.0;
      store = parts.1.0;
      results = parts.1.1.0;
      steps = parts.1.1.1;
    })
    (λ _. refl)
