-- The limits that a formula passes when it is watched: first those of the values of its terms, in
-- the order of its parts, and then that of its weight. They are the language's own.
use Rattle.std.specs.Prelude.{ℕ, nat_le, List, [], ◌∷◌, ◌++◌, Option}
use Rattle.std.specs.List.{filter}
use Rattle.model_limits.specs.FirstOf.{or_else, unless}
use Rattle.model_limits.specs.Limits.{LimitKind, watch_limit, Limits}
use Rattle.model_terms.specs.Terms.{Term}
use Rattle.model_terms.specs.TermSorts.{is_plain}
use Rattle.model_terms.specs.Stores.{Store}
use Rattle.model_terms.specs.TermLimits.{terms_limit}
use Rattle.model_formulas.specs.Formulas.{Named, conjunction, disjunction, implication, negation, existential, equality, at_most, node_formula, one_tree, one_root, concatenation, grove_sum, length_is}
use Rattle.model_watch.specs.Watchable.{weight}

-- The terms of a formula that can be watched, part by part: those of a node stand together, before
-- those of its inside.
abbrev pub terms_by_parts : Named → List Term
terms_by_parts (conjunction p q) = terms_by_parts p ++ terms_by_parts q
terms_by_parts (disjunction p q) = terms_by_parts p ++ terms_by_parts q
terms_by_parts (implication p q) = terms_by_parts p ++ terms_by_parts q
terms_by_parts (negation p) = terms_by_parts p
terms_by_parts (existential x p) = terms_by_parts p
terms_by_parts (equality a b) = a ∷ b ∷ []
terms_by_parts (at_most a b) = a ∷ b ∷ []
terms_by_parts (node_formula name number p list) = name ∷ number ∷ list ∷ terms_by_parts p
terms_by_parts (one_tree p) = terms_by_parts p
terms_by_parts (one_root p) = terms_by_parts p
terms_by_parts (concatenation side p q) = terms_by_parts p ++ terms_by_parts q
terms_by_parts (grove_sum p q) = terms_by_parts p ++ terms_by_parts q
terms_by_parts (length_is a) = a ∷ []
terms_by_parts p = []

-- the limit that is passed on a grove of so many nodes
abbrev pub watching_limit : Limits → Store → ℕ → Named → Option LimitKind
watching_limit limits store nodes p =
    or_else (terms_limit limits store (filter is_plain (terms_by_parts p)))
    (unless (nat_le (weight nodes p) limits.watch) watch_limit)
