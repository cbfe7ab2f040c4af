-- Terms over variables and literals, and substitution in them.
-- Node and list numbers are those of PODS 2008; integers, texts and truth values our own.
use Rattle.std.specs.Prelude.{◌≡◌, ◌⊎◌, zero, suc}
use Rattle.model_shapes.specs.Values.{Value}
use Rattle.model_terms.specs.Variables.{Var, bound}

-- a literal, a variable, a sum or difference of integers, or one text behind another
pub data Term : Type 0 where
  literal : Value → Term
  variable : Var → Term
  sum difference appended : Term → Term → Term
  deriving Discrete as Term-discrete

-- what is gathered from the variables of a term, from left to right
module _ {ℓ} {Result : Type ℓ} (nothing : Result) (both : Result → Result → Result)
    (from : Var → Result) where
  abbrev pub gathered_in : Term → Result
  gathered_in (literal v) = nothing
  gathered_in (variable x) = from x
  gathered_in (sum a b) = both (gathered_in a) (gathered_in b)
  gathered_in (difference a b) = both (gathered_in a) (gathered_in b)
  gathered_in (appended a b) = both (gathered_in a) (gathered_in b)

-- the variable stands in the term
abbrev pub InTerm : Var → Term → Type 0
InTerm x = gathered_in ⊥ ◌⊎◌ (λ y. x ≡ y)

-- the variable as it is named under one more binder
abbrev pub raised_var : Var → Var
raised_var (bound i s) = bound (suc i) s
raised_var x = x

-- a term for each variable
abbrev pub Substitution : Type 0
Substitution = Var → Term

-- the term with a term for each variable
abbrev pub term_with : Substitution → Term → Term
term_with f (literal v) = literal v
term_with f (variable x) = f x
term_with f (sum a b) = sum (term_with f a) (term_with f b)
term_with f (difference a b) = difference (term_with f a) (term_with f b)
term_with f (appended a b) = appended (term_with f a) (term_with f b)

-- the term as it is written under one more binder
abbrev pub raised : Term → Term
raised = term_with (λ x. variable (raised_var x))

-- the substitution under one more binder, whose own variable it leaves
abbrev pub under_binder : Substitution → Substitution
under_binder f (bound zero s) = variable (bound zero s)
under_binder f (bound (suc i) s) = raised (f (bound i s))
under_binder f x = raised (f x)
