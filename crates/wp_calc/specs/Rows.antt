-- Needn't be believed: it serves the contracts of private functions. The formulas that rows of the
-- table stand for, with names for their places and terms for those of the command.
use Rattle.std.specs.Prelude.{ℕ, List, [], Bool, true, false, map}
use Rattle.model_shapes.specs.Sorts.{ValueSort, node_sort, value, forest, grove}
use Rattle.model_shapes.specs.Values.{Name, null, int}
use Rattle.model_terms.specs.Variables.{logic}
use Rattle.model_terms.specs.Terms.{Term, literal, variable}
use Rattle.model_terms.specs.Stores.{ProgVar, named}
use Rattle.model_formulas.specs.Formulas as model
use Rattle.model_commands.specs.Commands.{Command, block}
use Rattle.model_weakest.specs.Rows.{node_of, list_of, written_moving, written_taking}
use Rattle.model_weakest.specs.Written.{at, put}
use Rattle.dom_terms.specs.declared.terms.LogicVar.{LogicVar}
use Rattle.dom_terms.specs.Sorts.{value_sort_of, data_sort_of, sort_of}
use Rattle.dom_terms.specs.Terms.{prog_var_of, term_of}
use Rattle.wp_calc.specs.declared.entries.Entry.{Entry}
use Rattle.wp_calc.specs.declared.entries.Kind.{Kind}
use Rattle.wp_calc.specs.declared.entries.Kind.TheVariants as k
use Rattle.wp_calc.specs.declared.rows.RowTerm.{RowTerm}
use Rattle.wp_calc.specs.declared.rows.RowTerm.TheVariants as t
use Rattle.wp_calc.specs.declared.rows.Row as r
use Rattle.wp_calc.specs.declared.rows.Filling.{Filling}

-- the names of the new variables
abbrev pub names_in : List LogicVar → List Name
names_in = map (λ x. x.name)

-- what stands for the places of a row: the names of the new variables, the sort of the command's
-- variable, and the terms of the command
pub record Places : Type 0 where
  pub names : List Name
  pub sort : ValueSort
  pub first : Term
  pub second : Term
  pub third : Term

abbrev pub places_of : Filling → Places
places_of filling = record {
  names = names_in filling.names.now;
  sort = value_sort_of filling.sort;
  first = term_of filling.first.now;
  second = term_of filling.second.now;
  third = term_of filling.third.now;
}

-- the name at a place
abbrev pub name_at : Places → ℕ → Name
name_at places n = at places.names n

-- the term
abbrev pub term_in : Places → RowTerm → Term
term_in places t.First = places.first
term_in places t.Second = places.second
term_in places t.Third = places.third
term_in places (t.New place sort) =
    variable (logic (name_at places place) (value (value_sort_of sort)))
term_in places t.Value = variable (logic (name_at places 0) (value places.sort))
term_in places t.NullNode = literal null
term_in places (t.Int number) = literal (int number)

-- the formula
abbrev pub row_in : Places → r.Row → model.Named
row_in places r.True = model.truth
row_in places (r.And' p a q b) = model.conjunction (row_in places a) (row_in places b)
row_in places (r.Or' p a q b) = model.disjunction (row_in places a) (row_in places b)
row_in places (r.Exists' place sort p a) =
    model.existential (logic (name_at places place) (sort_of sort)) (row_in places a)
row_in places (r.Eq a b) = model.equality (term_in places a) (term_in places b)
row_in places (r.Le a b) = model.at_most (term_in places a) (term_in places b)
row_in places r.EmptyForest = model.empty forest
row_in places r.EmptyGrove = model.empty grove
row_in places (r.Hole sort) = model.bare_hole (data_sort_of sort)
row_in places (r.Node' name number p a list) =
    model.node_formula (term_in places name) (term_in places number) (row_in places a)
    (term_in places list)
row_in places (r.One' p a) = model.one_tree (row_in places a)
row_in places (r.Root' p a) = model.one_root (row_in places a)
row_in places (r.Join' p a q b) =
    model.concatenation model.whole (row_in places a) (row_in places b)
row_in places (r.Plus' p a q b) = model.grove_sum (row_in places a) (row_in places b)
row_in places (r.PlusHole' p a q b) = model.grove_sum_hole (row_in places a) (row_in places b)
row_in places (r.App' sort p a q b) =
    model.application (data_sort_of sort) (row_in places a) (row_in places b)
row_in places (r.HoleAdj' p a q b) = model.hole_adjoint (row_in places a) (row_in places b)
row_in places (r.Var place sort) =
    model.same_as (variable (logic (name_at places place) (sort_of sort)))
row_in places (r.Len a) = model.length_is (term_in places a)
row_in places (r.Is' place sort p a) =
    model.value_meets (sort_of sort) (variable (logic (name_at places place) (sort_of sort)))
    (row_in places a)

-- it has two parts
abbrev pub has_two_parts : r.Row → Bool
has_two_parts (r.And' p a q b) = true
has_two_parts (r.Or' p a q b) = true
has_two_parts (r.Join' p a q b) = true
has_two_parts (r.Plus' p a q b) = true
has_two_parts (r.PlusHole' p a q b) = true
has_two_parts (r.App' sort p a q b) = true
has_two_parts (r.HoleAdj' p a q b) = true
has_two_parts row = false

-- it has terms
abbrev pub has_terms : r.Row → Bool
has_terms (r.Eq a b) = true
has_terms (r.Le a b) = true
has_terms (r.Node' name number p a list) = true
has_terms (r.Len a) = true
has_terms row = false

-- a variable of the sort of the command's, by whatever name
abbrev pub variable_of : Places → ProgVar
variable_of places = named [] places.sort

-- ENTRIES: the sort of the command's variable; a move has none, and its row doesn't ask for it
abbrev pub sort_for : Kind → ValueSort
sort_for (k.Value x) = value_sort_of x.now.sort
sort_for (k.Root x) = value_sort_of x.now.sort
sort_for k.Move = node_sort

-- what stands for the places of the row, with these names
abbrev pub places_for : Entry → List Name → Places
places_for entry names = record {
  names = names;
  sort = sort_for entry.kind;
  first = term_of entry.first.now;
  second = term_of entry.second.now;
  third = term_of entry.third.now;
}

-- what the row makes of the formula that is asked for, with what stands for its places
abbrev pub made_as : Kind → Places → model.Named → model.Named → model.Named
made_as (k.Value x) places p q =
    written_taking (variable_of places) (name_at places 0) p
    (put (prog_var_of x.now) (name_at places 0) q)
made_as (k.Root x) places p q =
    model.universal (node_of (name_at places 0)) (model.universal (list_of (name_at places 1))
    (model.context_adjoint grove p (put (prog_var_of x.now) (name_at places 0) q)))
made_as k.Move places p q = written_moving (name_at places 0) p q

-- what is asked for before a command with the entry
abbrev pub made : Entry → List Name → model.Named → model.Named
made entry names q =
    let places = places_for entry names in made_as entry.kind places (row_in places entry.row) q

-- a block
abbrev pub is_block : Command → Bool
is_block (block b) = true
is_block command = false
