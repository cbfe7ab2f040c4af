-- Needn't be believed: the binders that a substitution has passed, with what they became, and how
-- long names are. The substitution itself is stated without them.
use Rattle.std.specs.Prelude.{◌≡◌, ℕ, ◌<◌, ◌≤◌, max, length, Bool, false, cond, List, [], ◌∷◌, Option, Some, None}
use Rattle.std.specs.List.{list_any}
use Rattle.model_terms.specs.VariableTests.{same_var}
use Rattle.model_terms.specs.Variables.{Var, prog, logic, bound, var_sort}
use Rattle.model_terms.specs.Terms.{Term, gathered_in}
use Rattle.model_formulas.specs.Formulas.{Named}
use Rattle.model_formulas.specs.Substitution.{gathered}
use Rattle.dom_terms.specs.Terms.{logic_var_of}
use Rattle.formula_syntax.specs.declared.renaming.Scopes.{Scopes}
use Rattle.formula_syntax.specs.declared.renaming.Scopes.TheVariants as s
use Rattle.formula_syntax.specs.FreeVariables.{is_among, variables_of_term}

-- how long a variable's name is
abbrev pub name_length : Var → ℕ
name_length (prog name s) = length name
name_length (logic name s) = length name
name_length (bound i s) = 0

-- the length of the longest name in a term
abbrev pub longest_in : Term → ℕ
longest_in = gathered_in 0 max name_length

-- of the longest one in the terms to be put in
abbrev pub longest_put : List (Var × Term) → ℕ
longest_put [] = 0
longest_put (pair ∷ pairs) = max (longest_in pair.1) (longest_put pairs)

-- of the longest one in a formula, those of its binders included
abbrev pub longest_name : Named → ℕ
longest_name = gathered 0 max longest_in (λ x. max (name_length x))

-- the variable stands in a term to be put in
abbrev pub is_put : Var → List (Var × Term) → Bool
is_put x pairs = list_any (λ pair. is_among x (variables_of_term pair.1)) pairs

-- the variables that the binders had
abbrev pub before : Scopes → List Var
before (s.Outermost longest) = []
before (s.Kept' x p outer) = logic_var_of x.now ∷ before outer
before (s.Renamed' x y p outer) = logic_var_of x.now ∷ before outer

-- the variables that they have now
abbrev pub after : Scopes → List Var
after (s.Outermost longest) = []
after (s.Kept' x p outer) = logic_var_of x.now ∷ after outer
after (s.Renamed' x y p outer) = logic_var_of y.now ∷ after outer

-- what a variable became that one of them binds
abbrev pub became : Scopes → Var → Option Var
became (s.Outermost longest) z = None
became (s.Kept' x p outer) z =
    cond (same_var z (logic_var_of x.now)) (Some (logic_var_of x.now)) (became outer z)
became (s.Renamed' x y p outer) z =
    cond (same_var z (logic_var_of x.now)) (Some (logic_var_of y.now)) (became outer z)

-- the length that no name passes that was there before
abbrev pub limit : Scopes → ℕ
limit (s.Outermost longest) = longest
limit (s.Kept' x p outer) = limit outer
limit (s.Renamed' x y p outer) = limit outer

-- the length that no name passes that is there now
abbrev pub reach : Scopes → ℕ
reach (s.Outermost longest) = longest
reach (s.Kept' x p outer) = reach outer
reach (s.Renamed' x y p outer) = length y.now.name

-- A variable that is kept stands in no term to be put in, and a new one has a longer name than all
-- that were there.
abbrev pub Apart : List (Var × Term) → Scopes → Type 0
Apart pairs (s.Outermost longest) = longest_put pairs ≤ longest
Apart pairs (s.Kept' x p outer) =
    (length x.now.name ≤ limit outer) × (is_put (logic_var_of x.now) pairs ≡ false)
    × Apart pairs outer
Apart pairs (s.Renamed' x y p outer) =
    (reach outer < length y.now.name)
    × (var_sort (logic_var_of y.now) ≡ var_sort (logic_var_of x.now)) × Apart pairs outer
