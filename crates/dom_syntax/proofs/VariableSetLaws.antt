-- The names of the variables of each sort, and whether a variable is among them.
use Rattle.std.proofs.Common.{◌≡◌, ◌∙◌, sym, refl, ap, ℕ, List, [], ◌∷◌, ◌++◌, Bool, true, false, ◌&&◌, ◌||◌, cond, Option, Some, None, is_some, bytes_eq, subst, append-nil}
use Rattle.std.specs.Option.{option_map}
use Rattle.model_shapes.specs.Sorts.{ValueSort}
use Rattle.model_shapes.specs.Tests.{same_value_sort}
use Rattle.model_terms.specs.Stores.{ProgVar, named}
use Rattle.model_commands.specs.SortTests.{is_among}
use Rattle.dom_syntax.specs.declared.tables.Table.{Table}
use Rattle.dom_syntax.specs.Tables.{Declaration, Declares, first_of, found}
use Rattle.std.specs.Result.{OnOk}
use Rattle.std.proofs.Common.{Result, Ok, Err}
use Rattle.model_shapes.proofs.Tests.{same_value_sort-is, same_value_sort-refl}
use Rattle.dom_terms.specs.declared.terms.ProgVar as program
use Rattle.dom_terms.specs.Sorts.{value_sort_of}
use Rattle.dom_terms.specs.Terms.{prog_var_of}
use Rattle.dom_syntax.specs.declared.variable_sets.VariableSet.{VariableSet}
use Rattle.dom_syntax.specs.VariableSets.{names_of, table_of, Holds}

-- those of one list behind another
pub names-append : (s : ValueSort) (xs ys : List ProgVar)
    → names_of s (xs ++ ys) ≡ names_of s xs ++ names_of s ys
names-append s [] ys = refl
names-append s (named name u ∷ xs) ys = more (same_value_sort s u) (names-append s xs ys)
  where
    more : (b : Bool) → names_of s (xs ++ ys) ≡ names_of s xs ++ names_of s ys
        → cond b ((name, tt) ∷ names_of s (xs ++ ys)) (names_of s (xs ++ ys))
        ≡ cond b ((name, tt) ∷ names_of s xs) (names_of s xs) ++ names_of s ys
    more true e = λ j. (name, tt) ∷ e j
    more false e = e

-- a variable is among those of its sort
pub among-names : (xs : List ProgVar) (name : List ℕ) (s : ValueSort)
    → is_among xs (named name s) ≡ is_some (first_of (names_of s xs) name)
among-names [] name s = refl
among-names (named other u ∷ xs) name s =
    by_sort (bytes_eq name other) (same_value_sort s u) (is_among xs (named name s)) refl
    (among-names xs name s)
  where
    by_sort : (a b c : Bool) → a ≡ bytes_eq name other
        → c ≡ is_some (first_of (names_of s xs) name)
        → ((a && b) || c)
        ≡ is_some (first_of (cond b ((other, tt) ∷ names_of s xs) (names_of s xs)) name)
    by_sort true true c e f = λ j. is_some (cond (e j) (Some tt) (first_of (names_of s xs) name))
    by_sort false true c e f =
        f ∙ (λ j. is_some (cond (e j) (Some tt) (first_of (names_of s xs) name)))
    by_sort true false c e f = f
    by_sort false false c e f = f

-- what a table of names answers
seen-some : (o : Option Unit) → is_some o ≡ is_some (option_map (λ u. u) o)
seen-some None = refl
seen-some (Some u) = refl

pub found-among : (table : Table Unit) (xs : List ProgVar) (name : List ℕ) (s : ValueSort)
    → Declares (λ u. u) table (names_of s xs)
    → is_some (found table name) ≡ is_among xs (named name s)
found-among table xs name s h =
    seen-some (found table name) ∙ ap is_some (h.first name) ∙ sym (among-names xs name s)

-- ONE MORE
-- a table of the names of a sort, over one more variable of it, and of another
pub more-names : (table new : Table Unit) (s : ValueSort) (xs : List ProgVar) (name : List ℕ)
    → ((ds : List (Declaration Unit)) → Declares (λ u. u) table ds
    → Declares (λ u. u) new (ds ++ (name, tt) ∷ []))
    → same_value_sort s s ≡ true → Declares (λ u. u) table (names_of s xs)
    → Declares (λ u. u) new (names_of s (xs ++ named name s ∷ []))
more-names table new s xs name more e h =
    subst (Declares (λ u. u) new)
    ((λ j. names_of s xs ++ cond (sym e j) ((name, tt) ∷ []) [])
    ∙ sym (names-append s xs (named name s ∷ [])))
    (more (names_of s xs) h)

pub same-names : (table : Table Unit) (s u : ValueSort) (xs : List ProgVar) (name : List ℕ)
    → same_value_sort s u ≡ false → Declares (λ u. u) table (names_of s xs)
    → Declares (λ u. u) table (names_of s (xs ++ named name u ∷ []))
same-names table s u xs name e h =
    subst (Declares (λ u. u) table)
    (sym (append-nil (names_of s xs)) ∙ (λ j. names_of s xs ++ cond (sym e j) ((name, tt) ∷ []) [])
    ∙ sym (names-append s xs (named name u ∷ []))) h

-- what an answer gives of success
pub on-ok : {A E P Q : Type 0} (r : Result A E) → (P → Q) → OnOk r P → OnOk r Q
on-ok (Ok a) f p = f p
on-ok (Err e) f p = tt

-- the set over one more variable
module _ (set new : VariableSet) (u : ValueSort)
    (others : (s : ValueSort) → same_value_sort s u ≡ false → table_of new s ≡ table_of set s)
    (name : List ℕ)
    (more : (ds : List (Declaration Unit)) → Declares (λ v. v) (table_of set u) ds
    → Declares (λ v. v) (table_of new u) (ds ++ (name, tt) ∷ [])) where
  at-sort : (xs : List ProgVar) → Holds set xs → (s : ValueSort) (b : Bool)
      → same_value_sort s u ≡ b
      → Declares (λ v. v) (table_of new s) (names_of s (xs ++ named name u ∷ []))
  at-sort xs h s true e =
      subst (λ z. Declares (λ v. v) (table_of new z) (names_of z (xs ++ named name u ∷ [])))
      (sym (same_value_sort-is s u e))
      (more-names (table_of set u) (table_of new u) u xs name more (same_value_sort-refl u) (h u))
  at-sort xs h s false e =
      subst (λ t. Declares (λ v. v) t (names_of s (xs ++ named name u ∷ []))) (sym (others s e))
      (same-names (table_of set s) s u xs name e (h s))

  pub holds-more : (xs : List ProgVar) → Holds set xs → Holds new (xs ++ named name u ∷ [])
  holds-more xs h = λ s. at-sort xs h s (same_value_sort s u) refl

-- the same of an answer, for a variable of the program
pub inserted : {A E : Type 0} (r : Result A E) (set new : VariableSet) (u : ValueSort)
    → ((s : ValueSort) → same_value_sort s u ≡ false → table_of new s ≡ table_of set s)
    → (x : program.ProgVar) → value_sort_of x.sort ≡ u → (name : List ℕ) → name ≡ x.name
    → OnOk r ((ds : List (Declaration Unit)) → Declares (λ v. v) (table_of set u) ds
    → Declares (λ v. v) (table_of new u) (ds ++ (name, tt) ∷ []))
    → OnOk r ((xs : List ProgVar) → Holds set xs → Holds new (xs ++ prog_var_of x ∷ []))
inserted r set new u others x e name n =
    on-ok r (λ more xs h. subst (λ z. Holds new (xs ++ z ∷ []))
    (λ j. named (n j) (sym e j)) (holds-more set new u others name more xs h))
