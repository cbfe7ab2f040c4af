-- The limit that is passed, from the terms and the weight.
use Rattle.std.proofs.Common.{◌≡◌, ◌∙◌, ℕ, ◌-◌, ◌^◌, ◌≤◌, ◌<◌, min, leb, Option, Some, None, ap, arith}
use Rattle.std.specs.List.{filter}
use Rattle.std.proofs.lemmas.Bool.{le-leb, lt-leb}
use Rattle.model_limits.specs.Limits.{LimitKind, watch_limit, standard_limits}
use Rattle.model_limits.specs.FirstOf.{or_else, unless}
use Rattle.model_terms.specs.TermSorts.{is_plain}
use Rattle.model_terms.specs.Stores.{Store}
use Rattle.model_terms.specs.TermLimits.{terms_limit}
use Rattle.model_formulas.specs.Formulas.{Named}
use Rattle.model_watch.specs.Watchable.{weight}
use Rattle.model_watch.specs.WatchLimits.{terms_by_parts, watching_limit}

module _ (store : Store) (n : ℕ) (p : Named) where
  abbrev of_terms : Option LimitKind
  of_terms = terms_limit standard_limits store (filter is_plain (terms_by_parts p))

  pub passed : (k : LimitKind) → of_terms ≡ Some k
      → watching_limit standard_limits store n p ≡ Some k
  passed k e = ap (λ o. or_else o (unless (leb (weight n p) 100000000) watch_limit)) e

  pub heavy : (w : ℕ) → of_terms ≡ None → w ≡ min (weight n p) (2 ^ 64 - 1) → 100000000 < w
      → watching_limit standard_limits store n p ≡ Some watch_limit
  heavy w e is more =
      ap (λ o. or_else o (unless (leb (weight n p) 100000000) watch_limit)) e
      ∙ ap (λ t. unless t watch_limit) (lt-leb (weight n p) 100000000 (omega (arith, is, more)))

  pub light : (w : ℕ) → of_terms ≡ None → w ≡ min (weight n p) (2 ^ 64 - 1) → w ≤ 100000000
      → watching_limit standard_limits store n p ≡ None
  light w e is less =
      ap (λ o. or_else o (unless (leb (weight n p) 100000000) watch_limit)) e
      ∙ ap (λ t. unless t watch_limit) (le-leb (weight n p) 100000000 (omega (arith, is, less)))
