-- The first term of two lists that passes a limit.
use Rattle.std.proofs.Common.{◌≡◌, List, [], ◌∷◌, ◌++◌, Option, Some, None, refl, ap, ◌∙◌}
use Rattle.model_limits.specs.Limits.{Limits}
use Rattle.model_terms.specs.Terms.{Term}
use Rattle.model_terms.specs.Stores.{Store}
use Rattle.model_terms.specs.TermLimits.{or_else, term_limit, terms_limit}

-- the first of three
or_else_assoc : {A : Type 0} (a b c : Option A) → or_else a (or_else b c) ≡ or_else (or_else a b) c
or_else_assoc None b c = refl
or_else_assoc (Some x) b c = refl

-- it is that of the first list, or else that of the second
pub terms_limit_append : (limits : Limits) (store : Store) (xs ys : List Term)
    → terms_limit limits store (xs ++ ys)
    ≡ or_else (terms_limit limits store xs) (terms_limit limits store ys)
terms_limit_append limits store [] ys = refl
terms_limit_append limits store (x ∷ xs) ys =
    ap (or_else (term_limit limits store x)) (terms_limit_append limits store xs ys)
    ∙ or_else_assoc (term_limit limits store x) (terms_limit limits store xs)
    (terms_limit limits store ys)
