-- The first limit of the terms of several parts.
use Rattle.std.proofs.Common.{◌≡◌, ◌∙◌, Bool, true, false, Option, Some, None, List, [], ◌∷◌, ◌++◌, cond, refl, ap, sym, subst}
use Rattle.std.specs.List.{filter}
use Rattle.model_limits.specs.Limits.{LimitKind, Limits}
use Rattle.model_limits.specs.FirstOf.{or_else}
use Rattle.model_terms.specs.Terms.{Term}
use Rattle.model_terms.specs.TermSorts.{is_plain}
use Rattle.model_terms.specs.Stores.{Store}
use Rattle.model_terms.specs.TermLimits.{term_limit, terms_limit}
use Rattle.dom_terms.specs.declared.verdicts.EvalFault.{EvalFault}
use Rattle.dom_terms.specs.declared.verdicts.EvalFault.TheVariants as f
use Rattle.dom_terms.specs.Evaluation.{FaultReports}

first_of_three : (a b c : Option LimitKind) → or_else a (or_else b c) ≡ or_else (or_else a b) c
first_of_three None b c = refl
first_of_three (Some x) b c = refl

-- of two lists of terms
pub limit_of_two : (limits : Limits) (store : Store) (xs ys : List Term)
    → terms_limit limits store (filter is_plain (xs ++ ys))
    ≡ or_else (terms_limit limits store (filter is_plain xs))
    (terms_limit limits store (filter is_plain ys))
limit_of_two limits store [] ys = refl
limit_of_two limits store (x ∷ xs) ys = by_test (is_plain x) (limit_of_two limits store xs ys)
  where
    by_test : (b : Bool)
        → terms_limit limits store (filter is_plain (xs ++ ys))
        ≡ or_else (terms_limit limits store (filter is_plain xs))
        (terms_limit limits store (filter is_plain ys))
        → terms_limit limits store (cond b (x ∷ filter is_plain (xs ++ ys))
        (filter is_plain (xs ++ ys)))
        ≡ or_else (terms_limit limits store (cond b (x ∷ filter is_plain xs) (filter is_plain xs)))
        (terms_limit limits store (filter is_plain ys))
    by_test true h =
        ap (or_else (term_limit limits store x)) h
        ∙ first_of_three (term_limit limits store x) (terms_limit limits store (filter is_plain xs))
        (terms_limit limits store (filter is_plain ys))
    by_test false h = h

-- of a term and others
pub limit_of_more : (limits : Limits) (store : Store) (x : Term) (ys : List Term)
    → terms_limit limits store (filter is_plain (x ∷ ys))
    ≡ or_else (terms_limit limits store (filter is_plain (x ∷ [])))
    (terms_limit limits store (filter is_plain ys))
limit_of_more limits store x ys = limit_of_two limits store (x ∷ []) ys

-- a fault that reports the first limit reports it of all
pub first_reported : (fault : EvalFault) (a b : Option LimitKind) → FaultReports fault a
    → FaultReports fault (or_else a b)
first_reported f.NumberRange a b h = ap (λ o. or_else o b) h
first_reported f.TextLimit a b h = ap (λ o. or_else o b) h
first_reported f.OutOfMemory a b h = tt

-- and where the first passes none it reports that of the others
pub then_reported : (fault : EvalFault) (a b : Option LimitKind) → a ≡ None → FaultReports fault b
    → FaultReports fault (or_else a b)
then_reported fault a b e h = subst (λ o. FaultReports fault (or_else o b)) (sym e) h

pub none_passed : (a b : Option LimitKind) → a ≡ None → b ≡ None → or_else a b ≡ None
none_passed a b e h = ap (λ o. or_else o b) e ∙ h

pub ruleset limit_rules = (limit_of_two, limit_of_more, first_reported, then_reported, none_passed)
