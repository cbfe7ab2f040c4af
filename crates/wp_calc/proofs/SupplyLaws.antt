-- The names of new variables, number by number.
use Rattle.std.proofs.Common.{◌≡◌, ◌∙◌, refl, sym, ap, subst, ℕ, zero, suc, ◌+◌, ◌≤◌, ◌<◌, Bool, true, false, ◌||◌, cond, List, [], ◌∷◌, ◌++◌, Option, Some, None, bytes_eq, length, map, take, add-one, length-append, arith}
use Rattle.std.specs.Prelude.{slice_get, is_some}
use Rattle.std.proofs.lemmas.List.{append-nil}
use Rattle.std.proofs.lemmas.Option.{same_Some, slice_get_within}
use Rattle.model_shapes.specs.Values.{Name}
use Rattle.model_weakest.specs.Written.{AreNew, no_more, passed, next, is_declared, new_variables, numbered}
use Rattle.dom_terms.specs.Sorts.{sort_of}
use Rattle.dom_terms.specs.Terms.{logic_var_of}
use Rattle.dom_terms.specs.declared.sorts.Sort.{Sort}
use Rattle.dom_terms.specs.declared.terms.LogicVar.{LogicVar}
use Rattle.name_table.specs.Found.{first_of}
use Rattle.declared_sorts.specs.declared.names.Names.{Names}
use Rattle.declared_sorts.specs.Names.{of_logic, found, Tells}
use Rattle.wp_calc.specs.NewNames.{pushed}
use Rattle.wp_calc.specs.Rows.{names_in}

-- a name is in the table where it is declared
told_or : (b c : Bool) (s : Sort) (o : Option Sort) → is_some o ≡ c
    → is_some (cond b (Some s) o) ≡ cond b true c
told_or true c s o e = refl
told_or false c s o e = e

any_or : (b c : Bool) → cond b true c ≡ (b || c)
any_or true c = refl
any_or false c = refl

told : (xs : List LogicVar) (name : Name)
    → is_some (first_of (map of_logic xs) name) ≡ is_declared (map logic_var_of xs) name
told [] name = refl
told (x ∷ xs) name =
    told_or (bytes_eq name x.name) (is_declared (map logic_var_of xs) name) x.sort
    (first_of (map of_logic xs) name) (told xs name)
    ∙ any_or (bytes_eq name x.name) (is_declared (map logic_var_of xs) name)

is_there : (names : Names Sort) (xs : List LogicVar) (name : Name) → Tells names (map of_logic xs)
    → is_declared (map logic_var_of xs) name ≡ is_some (found names name)
is_there names xs name t = sym (ap is_some (t name) ∙ told xs name)

-- the names so far, and any that are new from a number on behind them, are new
abbrev pub NewSoFar : List LogicVar → ℕ → List LogicVar → Type 0
NewSoFar declared number variables =
    (more : List Name) → AreNew (map logic_var_of declared) number more
    → AreNew (map logic_var_of declared) 1 (names_in variables ++ more)

names-behind : (variables : List LogicVar) (x : LogicVar) (more : List Name)
    → names_in (variables ++ x ∷ []) ++ more ≡ names_in variables ++ (x.name ∷ more)
names-behind [] x more = refl
names-behind (y ∷ variables) x more = ap (λ xs. y.name ∷ xs) (names-behind variables x more)

-- a number whose name is declared is passed over, and the name of another is taken
new-pushed : (declared variables : List LogicVar) (number : ℕ) (sort : Sort) (b : Bool)
    → is_declared (map logic_var_of declared) (numbered number) ≡ b
    → NewSoFar declared number variables
    → NewSoFar declared (number + 1) (pushed b variables number sort)
new-pushed declared variables number sort true e new more later =
    new more (passed number more e
    (subst (λ n. AreNew (map logic_var_of declared) n more) (add-one number) later))
new-pushed declared variables number sort false e new more later =
    let x : LogicVar = record { name = numbered number; sort = sort } in
    subst (λ xs. AreNew (map logic_var_of declared) 1 xs) (sym (names-behind variables x more))
    (new (numbered number ∷ more) (next number more e
    (subst (λ n. AreNew (map logic_var_of declared) n more) (add-one number) later)))

pub new-next : (names : Names Sort) (declared variables after : List LogicVar) (number : ℕ)
    (sort : Sort) → Tells names (map of_logic declared)
    → after ≡ pushed (is_some (found names (numbered number))) variables number sort
    → NewSoFar declared number variables → NewSoFar declared (number + 1) after
new-next names declared variables after number sort t e new =
    subst (λ vs. NewSoFar declared (number + 1) vs) (sym e)
    (new-pushed declared variables number sort (is_some (found names (numbered number)))
    (is_there names declared (numbered number) t) new)

-- at first there is none
pub none-yet : (declared variables : List LogicVar) → variables ≡ []
    → NewSoFar declared 1 variables
none-yet declared variables e =
    subst (λ vs. NewSoFar declared 1 vs) (sym e) (λ more new. new)

pub all-new : (declared variables : List LogicVar) (number : ℕ)
    → NewSoFar declared number variables
    → AreNew (map logic_var_of declared) 1 (names_in variables)
all-new declared variables number new =
    subst (λ xs. AreNew (map logic_var_of declared) 1 xs) (append-nil (names_in variables))
    (new [] (no_more number))

-- THE SORTS: those of the variables
abbrev pub sorts_in : List LogicVar → List Sort
sorts_in = map (λ x. x.sort)

made : (variables : List LogicVar) → map logic_var_of variables
    ≡ new_variables (names_in variables) (map sort_of (sorts_in variables))
made [] = refl
made (x ∷ variables) = ap (λ xs. logic_var_of x ∷ xs) (made variables)

past : (sorts : List Sort) (n : ℕ) → slice_get sorts n ≡ None → length sorts ≤ n
past [] n e = omega arith
past (s ∷ sorts) zero e = cc
past (s ∷ sorts) (suc n) e = let h : length sorts ≤ n = past sorts n e in omega arith

whole : (sorts : List Sort) (n : ℕ) → length sorts ≤ n → take n sorts ≡ sorts
whole [] zero h = refl
whole [] (suc n) h = refl
whole (s ∷ sorts) zero h = absurd (omega arith)
whole (s ∷ sorts) (suc n) h = ap (λ ss. s ∷ ss) (whole sorts n (omega arith))

one-more : (sorts : List Sort) (n : ℕ) (s : Sort) → slice_get sorts n ≡ Some s
    → take (suc n) sorts ≡ take n sorts ++ s ∷ []
one-more [] zero s e = cc
one-more [] (suc n) s e = cc
one-more (x ∷ sorts) zero s e = ap (λ z. z ∷ []) (same_Some x s e)
one-more (x ∷ sorts) (suc n) s e = ap (λ ss. x ∷ ss) (one-more sorts n s e)

sorts-behind : (variables : List LogicVar) (x : LogicVar)
    → sorts_in (variables ++ x ∷ []) ≡ sorts_in variables ++ x.sort ∷ []
sorts-behind [] x = refl
sorts-behind (y ∷ variables) x = ap (λ ss. y.sort ∷ ss) (sorts-behind variables x)

longer : (variables : List LogicVar) (x : LogicVar)
    → length (variables ++ x ∷ []) ≡ suc (length variables)
longer variables x = omega (arith, length-append variables (x ∷ []))

-- as many of the sorts are done as there are variables
pub record Sorted (sorts : List Sort) (variables : List LogicVar) : Type 0 where
  pub within : length variables ≤ length sorts
  pub same : sorts_in variables ≡ take (length variables) sorts

none-sorted : (sorts : List Sort) → Sorted sorts []
none-sorted sorts = record { within = omega arith; same = refl }

pub sorted-none : (sorts : List Sort) (variables : List LogicVar) → variables ≡ []
    → Sorted sorts variables
sorted-none sorts variables e = subst (λ vs. Sorted sorts vs) (sym e) (none-sorted sorts)

pub sorted-next : (sorts : List Sort) (variables after : List LogicVar) (number : ℕ) (sort : Sort)
    (b : Bool) → slice_get sorts (length variables) ≡ Some sort
    → after ≡ pushed b variables number sort → Sorted sorts variables → Sorted sorts after
sorted-next sorts variables after number sort b there e h =
    subst (λ vs. Sorted sorts vs) (sym e) (by_test b)
  where
    by_test : (t : Bool) → Sorted sorts (pushed t variables number sort)
    by_test true = h
    by_test false =
        let x : LogicVar = record { name = numbered number; sort = sort } in
        let low : length variables < length sorts = slice_get_within sorts _ sort there in
        let more = longer variables x in
        record {
          within = omega arith;
          same = sorts-behind variables x ∙ ap (λ ss. ss ++ sort ∷ []) h.same
              ∙ sym (one-more sorts (length variables) sort there)
              ∙ ap (λ n. take n sorts) (sym more);
        }

pub all-counted : (sorts : List Sort) (variables : List LogicVar)
    → slice_get sorts (length variables) ≡ None → Sorted sorts variables
    → length variables ≡ length sorts
all-counted sorts variables none h =
    let high : length sorts ≤ length variables = past sorts (length variables) none in
    omega (arith, h.within)

pub all-made : (sorts : List Sort) (variables : List LogicVar)
    → slice_get sorts (length variables) ≡ None → Sorted sorts variables
    → map logic_var_of variables ≡ new_variables (names_in variables) (map sort_of sorts)
all-made sorts variables none h =
    made variables
    ∙ ap (λ ss. new_variables (names_in variables) (map sort_of ss))
    (h.same ∙ whole sorts (length variables) (past sorts (length variables) none))
