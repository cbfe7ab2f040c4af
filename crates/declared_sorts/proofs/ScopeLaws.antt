-- What the tables of names tell of the names that may be used.
use Rattle.std.proofs.Common.{◌≡◌, ◌∙◌, sym, refl, ap, ℕ, List, [], ◌∷◌, ◌++◌, Bool, true, false, ◌&&◌, ◌||◌, cond, Option, Some, None, is_some, map}
use Rattle.std.specs.Prelude.{unwrap_or, bytes_eq}
use Rattle.model_shapes.specs.Sorts as sorts
use Rattle.model_shapes.specs.Tests.{same_value_sort, same_data_sort, same_sort}
use Rattle.model_terms.specs.Variables.{prog, logic}
use Rattle.model_terms.specs.Stores.{as_var}
use Rattle.model_files.specs.FileFaults.{is_known, is_as_declared}
use Rattle.dom_terms.specs.Sorts.{value_sort_of, data_sort_of, sort_of}
use Rattle.dom_terms.specs.Terms.{prog_var_of, logic_var_of}
use Rattle.dom_terms.specs.declared.sorts.DataSort.{DataSort}
use Rattle.dom_terms.specs.declared.sorts.DataSort.TheVariants as d
use Rattle.dom_terms.specs.declared.sorts.Sort.{Sort}
use Rattle.dom_terms.specs.declared.sorts.Sort.TheVariants.{Value, Shape, Context}
use Rattle.dom_terms.specs.declared.sorts.ValueSort.{ValueSort}
use Rattle.dom_terms.specs.declared.sorts.ValueSort.TheVariants as v
use Rattle.dom_terms.specs.declared.terms.LogicVar.{LogicVar}
use Rattle.dom_terms.specs.declared.terms.ProgVar.{ProgVar}
use Rattle.name_table.specs.Found.{first_of}
use Rattle.declared_sorts.specs.declared.declared.Declared.{Declared}
use Rattle.declared_sorts.specs.Declarations.{scope_in}
use Rattle.declared_sorts.specs.Known.{Knows}
use Rattle.declared_sorts.specs.Names.{of_variable, of_logic, found}
use Rattle.declared_sorts.specs.Settled.{is_settled}
use Rattle.declared_sorts.proofs.NameLaws.{variable_sort, logic_sort}

same-value-self : (u : ValueSort) → same_value_sort (value_sort_of u) (value_sort_of u) ≡ true
same-value-self v.Node = refl
same-value-self v.List = refl
same-value-self v.Int = refl
same-value-self v.Str = refl
same-value-self v.Bool = refl

same-data-self : (k : DataSort) → same_data_sort (data_sort_of k) (data_sort_of k) ≡ true
same-data-self d.Tree = refl
same-data-self d.Forest = refl
same-data-self d.Grove = refl

same-self : (u : Sort) → same_sort (sort_of u) (sort_of u) ≡ true
same-self (Value u) = same-value-self u
same-self (Shape k) = same-data-self k
same-self (Context h k) =
    (λ j. same-data-self h j && same_data_sort (data_sort_of k) (data_sort_of k))
    ∙ same-data-self k

-- there is a sort, and it is this one
abbrev pub settled_by : {S T : Type 0} → (S → T → Bool) → Option S → T → Bool
settled_by same None s = false
settled_by same (Some u) s = same u s

-- a choice between the first declaration and the others
chosen : {S T : Type 0} (same : S → T → Bool) (b : Bool) (u : S) (o : Option S) (s : T)
    (known fits : Bool) → (known && fits) ≡ settled_by same o s
    → ((b || known) && cond b (same u s) fits) ≡ settled_by same (cond b (Some u) o) s
chosen same true u o s known fits e = refl
chosen same false u o s known fits e = e

abbrev pub same_value : ValueSort → sorts.ValueSort → Bool
same_value u s = same_value_sort (value_sort_of u) s

abbrev pub same_logic : Sort → sorts.Sort → Bool
same_logic u s = same_sort (sort_of u) s

-- PROGRAM VARIABLES
module _ (name : List ℕ) (s : sorts.ValueSort) where
  no-logic : (ls : List LogicVar) → is_known (map logic_var_of ls) (prog name s) ≡ false
  no-logic [] = refl
  no-logic (x ∷ ls) = no-logic ls

  prog-settled : (all : List ProgVar) (ls : List LogicVar)
      → is_settled (map as_var (map prog_var_of all) ++ map logic_var_of ls) (prog name s)
      ≡ settled_by same_value (first_of (map of_variable all) name) s
  prog-settled [] ls = λ j. no-logic ls j && is_as_declared (map logic_var_of ls) (prog name s)
  prog-settled (x ∷ all) ls =
      chosen same_value (bytes_eq name x.name) x.sort (first_of (map of_variable all) name) s
      (is_known (map as_var (map prog_var_of all) ++ map logic_var_of ls) (prog name s))
      (is_as_declared (map as_var (map prog_var_of all) ++ map logic_var_of ls) (prog name s))
      (prog-settled all ls)

  pub prog_in_scope : (declared : Declared) → Knows declared → (o : Option ValueSort)
      → o ≡ found declared.variable_names.now name
      → settled_by same_value o s ≡ is_settled (scope_in declared) (prog name s)
  unfolding scope_in
  prog_in_scope declared knows o e =
      ap (λ z. settled_by same_value z s) (e ∙ knows.variables name)
      ∙ sym (prog-settled declared.variables.now declared.logics.now)

-- LOGIC VARIABLES
module _ (name : List ℕ) (s : sorts.Sort) where
  logic-settled : (all : List ProgVar) (ls : List LogicVar)
      → is_settled (map as_var (map prog_var_of all) ++ map logic_var_of ls) (logic name s)
      ≡ settled_by same_logic (first_of (map of_logic ls) name) s
  logic-settled [] [] = refl
  logic-settled [] (x ∷ ls) =
      chosen same_logic (bytes_eq name x.name) x.sort (first_of (map of_logic ls) name) s
      (is_known (map logic_var_of ls) (logic name s))
      (is_as_declared (map logic_var_of ls) (logic name s))
      (logic-settled [] ls)
  logic-settled (x ∷ all) ls = logic-settled all ls

  pub logic_in_scope : (declared : Declared) → Knows declared → (o : Option Sort)
      → o ≡ found declared.logic_names.now name
      → settled_by same_logic o s ≡ is_settled (scope_in declared) (logic name s)
  unfolding scope_in
  logic_in_scope declared knows o e =
      ap (λ z. settled_by same_logic z s) (e ∙ knows.logics name)
      ∙ sym (logic-settled declared.variables.now declared.logics.now)

-- a variable with the sort that was found for it
value-found : (o : Option ValueSort)
    → is_some o ≡ settled_by same_value o (value_sort_of (unwrap_or o v.Node))
value-found None = refl
value-found (Some u) = sym (same-value-self u)

logic-found : (o : Option Sort)
    → is_some o ≡ settled_by same_logic o (sort_of (unwrap_or o (Value v.Node)))
logic-found None = refl
logic-found (Some u) = sym (same-self u)

pub prog_found : (name : List ℕ) (declared : Declared) → Knows declared → (o : Option ValueSort)
    → o ≡ found declared.variable_names.now name → is_some o
    ≡ is_settled (scope_in declared) (prog name (value_sort_of (unwrap_or o v.Node)))
prog_found name declared knows o e =
    value-found o ∙ prog_in_scope name (value_sort_of (unwrap_or o v.Node)) declared knows o e

pub logic_found : (name : List ℕ) (declared : Declared) → Knows declared → (o : Option Sort)
    → o ≡ found declared.logic_names.now name → is_some o
    ≡ is_settled (scope_in declared) (logic name (sort_of (unwrap_or o (Value v.Node))))
logic_found name declared knows o e =
    logic-found o ∙ logic_in_scope name (sort_of (unwrap_or o (Value v.Node))) declared knows o e

pub ruleset prog_rules = (variable_sort, prog_found)

pub ruleset logic_rules = (logic_sort, logic_found)
