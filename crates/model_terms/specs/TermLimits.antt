-- The limits of values: which subterm of a term is the first whose value passes one.
-- All are the language's own: values have no limits in the meaning.
use Rattle.std.specs.Prelude.{int_le, List, [], ◌∷◌, length, nat_le, ◌&&◌, Option, None}
pub use Rattle.model_limits.specs.FirstOf.{or_else, unless}
use Rattle.model_limits.specs.Limits.{LimitKind, number_limit, text_limit, Limits, greatest, least}
use Rattle.model_shapes.specs.Values.{Value, int, str}
use Rattle.model_terms.specs.Terms.{Term, literal, variable, sum, difference, appended}
use Rattle.model_terms.specs.Stores.{Store, value_of}

-- a value past its limit
abbrev pub value_limit : Limits → Value → Option LimitKind
value_limit limits (int z) =
    unless (int_le (least limits) z && int_le z (greatest limits)) number_limit
value_limit limits (str text) = unless (nat_le (length text) limits.text_bytes) text_limit
value_limit limits value = None

-- the first subterm whose value is past its limit: from left to right, inner ones first
abbrev pub term_limit : Limits → Store → Term → Option LimitKind
term_limit limits store (literal v) = value_limit limits v
term_limit limits store (variable x) = value_limit limits (value_of store (variable x))
term_limit limits store (sum a b) =
    or_else (term_limit limits store a)
    (or_else (term_limit limits store b) (value_limit limits (value_of store (sum a b))))
term_limit limits store (difference a b) =
    or_else (term_limit limits store a)
    (or_else (term_limit limits store b)
    (value_limit limits (value_of store (difference a b))))
term_limit limits store (appended a b) =
    or_else (term_limit limits store a)
    (or_else (term_limit limits store b)
    (value_limit limits (value_of store (appended a b))))

-- the same of several terms
abbrev pub terms_limit : Limits → Store → List Term → Option LimitKind
terms_limit limits store [] = None
terms_limit limits store (term ∷ terms) =
    or_else (term_limit limits store term) (terms_limit limits store terms)
