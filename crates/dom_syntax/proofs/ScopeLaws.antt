-- What the tables of a scope say of the names that may be used there.
use Rattle.std.proofs.Common.{◌≡◌, ◌∙◌, sym, refl, ap, ℕ, List, [], ◌∷◌, ◌++◌, Bool, true, false, not, ◌&&◌, ◌||◌, cond, Option, Some, is_some, bytes_eq, map, append_assoc}
use Rattle.std.specs.List.{flat_map, list_any, list_all}
use Rattle.std.proofs.lemmas.Grind.{flat_map-append}
use Rattle.std.proofs.lemmas.List.{map-append}
use Rattle.std.proofs.lemmas.List.Folds.{list_any-append}
use Rattle.model_shapes.specs.Sorts.{ValueSort, Sort}
use Rattle.model_shapes.specs.Tests.{same_value_sort, same_sort}
use Rattle.model_terms.specs.Variables.{Var, prog, logic, bound}
use Rattle.model_terms.specs.Stores.{ProgVar, named, as_var, same_name}
use Rattle.model_commands.specs.Commands.{Block}
use Rattle.model_commands.specs.CommandParts.{commands_of, locals}
use Rattle.model_commands.specs.SortTests.{distinct_by, is_among}
use Rattle.model_commands.specs.Theories.{Procedure, procedure_named}
use Rattle.model_files.specs.FileFaults.{share_name, is_known, is_as_declared, only_among}
use Rattle.dom_terms.specs.Sorts.{sort_of}
use Rattle.dom_terms.specs.Terms.{logic_var_of}
use Rattle.dom_terms.specs.declared.terms.LogicVar.{LogicVar}
use Rattle.dom_syntax.specs.Callees.{procedure_entry}
use Rattle.dom_syntax.specs.Scopes.{block_locals, variable_entry, logic_entry}
use Rattle.dom_syntax.specs.ScopeTests.{may_stand, sort_fits, logic_sort_fits}
use Rattle.dom_syntax.specs.Tables.{Declaration, first_of, share}

-- three lists of variables, one behind another
pub entries-joined : (ps rs ls : List ProgVar)
    → (([] ++ map variable_entry ps) ++ map variable_entry rs) ++ map variable_entry ls
    ≡ map variable_entry (ps ++ (rs ++ ls))
entries-joined ps rs ls =
    append_assoc (map variable_entry ps) (map variable_entry rs) (map variable_entry ls)
    ∙ ap (λ es. map variable_entry ps ++ es) (sym (map-append variable_entry rs ls))
    ∙ sym (map-append variable_entry ps (rs ++ ls))

-- a list of variables behind another, both behind what is declared
pub entries-behind : (ds : List (Declaration ValueSort)) (ps rs : List ProgVar)
    → (ds ++ map variable_entry ps) ++ map variable_entry rs
    ≡ ds ++ map variable_entry (ps ++ rs)
entries-behind ds ps rs =
    append_assoc ds (map variable_entry ps) (map variable_entry rs)
    ∙ ap (λ es. ds ++ es) (sym (map-append variable_entry ps rs))

-- the local variables of two blocks
pub blocks-behind : (ds : List (Declaration ValueSort)) (a b : Block)
    → (ds ++ map variable_entry (block_locals a)) ++ map variable_entry (block_locals b)
    ≡ ds ++ map variable_entry (flat_map locals (commands_of a ++ commands_of b))
blocks-behind ds a b =
    entries-behind ds (block_locals a) (block_locals b)
    ∙ ap (λ xs. ds ++ map variable_entry xs)
    (sym (flat_map-append locals (commands_of a) (commands_of b)))

-- KNOWN NAMES: of program variables
module _ (name : List ℕ) (s : ValueSort) where
  no-logic : (ls : List LogicVar) → is_known (map logic_var_of ls) (prog name s) ≡ false
  no-logic [] = refl
  no-logic (x ∷ ls) = no-logic ls

  some-or : (b : Bool) (u : ValueSort) (o : Option ValueSort) (k : Bool) → k ≡ is_some o
      → (b || k) ≡ is_some (cond b (Some u) o)
  some-or true u o k e = refl
  some-or false u o k e = e

  pub known-prog : (ds : List ProgVar) (ls : List LogicVar)
      → is_known (map as_var ds ++ map logic_var_of ls) (prog name s)
      ≡ is_some (first_of (map variable_entry ds) name)
  known-prog [] ls = no-logic ls
  known-prog (named other u ∷ ds) ls =
      some-or (bytes_eq name other) u (first_of (map variable_entry ds) name)
      (is_known (map as_var ds ++ map logic_var_of ls) (prog name s)) (known-prog ds ls)

  declared-no-logic : (ls : List LogicVar)
      → is_as_declared (map logic_var_of ls) (prog name s) ≡ true
  declared-no-logic [] = refl
  declared-no-logic (x ∷ ls) = declared-no-logic ls

  fits-or : (b : Bool) (u : ValueSort) (o : Option ValueSort) (k : Bool) → k ≡ sort_fits o s
      → cond b (same_value_sort u s) k ≡ sort_fits (cond b (Some u) o) s
  fits-or true u o k e = refl
  fits-or false u o k e = e

  pub as-declared-prog : (ds : List ProgVar) (ls : List LogicVar)
      → is_as_declared (map as_var ds ++ map logic_var_of ls) (prog name s)
      ≡ sort_fits (first_of (map variable_entry ds) name) s
  as-declared-prog [] ls = declared-no-logic ls
  as-declared-prog (named other u ∷ ds) ls =
      fits-or (bytes_eq name other) u (first_of (map variable_entry ds) name)
      (is_as_declared (map as_var ds ++ map logic_var_of ls) (prog name s))
      (as-declared-prog ds ls)

-- of logic variables
module _ (name : List ℕ) (s : Sort) where
  some-or-logic : (b : Bool) (u : Sort) (o : Option Sort) (k : Bool) → k ≡ is_some o
      → (b || k) ≡ is_some (cond b (Some u) o)
  some-or-logic true u o k e = refl
  some-or-logic false u o k e = e

  pub known-logic : (ds : List ProgVar) (ls : List LogicVar)
      → is_known (map as_var ds ++ map logic_var_of ls) (logic name s)
      ≡ is_some (first_of (map logic_entry ls) name)
  known-logic [] [] = refl
  known-logic [] (x ∷ ls) =
      some-or-logic (bytes_eq name x.name) (sort_of x.sort) (first_of (map logic_entry ls) name)
      (is_known (map logic_var_of ls) (logic name s)) (known-logic [] ls)
  known-logic (named other u ∷ ds) ls = known-logic ds ls

  fits-or-logic : (b : Bool) (u : Sort) (o : Option Sort) (k : Bool) → k ≡ logic_sort_fits o s
      → cond b (same_sort u s) k ≡ logic_sort_fits (cond b (Some u) o) s
  fits-or-logic true u o k e = refl
  fits-or-logic false u o k e = e

  pub as-declared-logic : (ds : List ProgVar) (ls : List LogicVar)
      → is_as_declared (map as_var ds ++ map logic_var_of ls) (logic name s)
      ≡ logic_sort_fits (first_of (map logic_entry ls) name) s
  as-declared-logic [] [] = refl
  as-declared-logic [] (x ∷ ls) =
      fits-or-logic (bytes_eq name x.name) (sort_of x.sort) (first_of (map logic_entry ls) name)
      (is_as_declared (map logic_var_of ls) (logic name s)) (as-declared-logic [] ls)
  as-declared-logic (named other u ∷ ds) ls = as-declared-logic ds ls

-- PROCEDURES: the first of a name
pub first-procedure : (fs : List Procedure) (name : List ℕ)
    → first_of (map procedure_entry fs) name ≡ procedure_named name fs
first-procedure [] name = refl
first-procedure (f ∷ fs) name =
    λ j. cond (bytes_eq name f.name) (Some f) (first-procedure fs name j)

-- VARIABLES THAT MAY STAND
pub only-among-all : (allowed : List ProgVar) (xs : List Var)
    → list_all (may_stand allowed) xs ≡ only_among allowed xs
only-among-all allowed [] = refl
only-among-all allowed (prog name s ∷ xs) =
    λ j. is_among allowed (named name s) && only-among-all allowed xs j
only-among-all allowed (logic name s ∷ xs) = only-among-all allowed xs
only-among-all allowed (bound i s ∷ xs) = only-among-all allowed xs

-- one of two lists
pub among-either : (xs ys : List ProgVar) (x : ProgVar)
    → (is_among xs x || is_among ys x) ≡ is_among (xs ++ ys) x
among-either xs ys x = sym (list_any-append (same_name x) xs ys)

-- REPEATED NAMES
share-entries : (x : ProgVar) (xs : List ProgVar)
    → list_any (share (variable_entry x)) (map variable_entry xs)
    ≡ list_any (share_name (as_var x)) (map as_var xs)
share-entries (named name s) [] = refl
share-entries (named name s) (named other u ∷ xs) =
    λ j. bytes_eq name other || share-entries (named name s) xs j

pub distinct-entries : (xs : List ProgVar)
    → distinct_by share (map variable_entry xs) ≡ distinct_by share_name (map as_var xs)
distinct-entries [] = refl
distinct-entries (x ∷ xs) = λ j. not (share-entries x xs j) && distinct-entries xs j

share-logic : (x : LogicVar) (xs : List LogicVar)
    → list_any (share (logic_entry x)) (map logic_entry xs)
    ≡ list_any (share_name (logic_var_of x)) (map logic_var_of xs)
share-logic x [] = refl
share-logic x (y ∷ xs) = λ j. bytes_eq x.name y.name || share-logic x xs j

pub distinct-logic : (xs : List LogicVar)
    → distinct_by share (map logic_entry xs) ≡ distinct_by share_name (map logic_var_of xs)
distinct-logic [] = refl
distinct-logic (x ∷ xs) = λ j. not (share-logic x xs j) && distinct-logic xs j
