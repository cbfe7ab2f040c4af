-- Needn't be believed: the substitution itself is stated without it. What a walk of the
-- substitution answers, below the binders that it has passed.
use Rattle.std.specs.Prelude.{◌≡◌, map}
use Rattle.model_terms.specs.Terms.{Term, Substitution, term_with}
use Rattle.model_formulas.specs.Formulas.{Named}
use Rattle.model_formulas.specs.Nameless.{naming, walked}
use Rattle.model_formulas.specs.Substitution.{formula_with}
use Rattle.formula_syntax.specs.declared.substituting.Walk.{Walk}
use Rattle.formula_syntax.specs.Formulas.{pair_of}
use Rattle.formula_syntax.specs.Substitution.{below, replacing_each}
use Rattle.formula_syntax.specs.Renaming.{before, after, Apart}

-- the substitution below the binders
abbrev pub puts : Walk → Substitution
puts walk = below (before walk.scopes.now) (replacing_each (map pair_of walk.pairs.now))

-- nothing can be captured
abbrev pub IsApart : Walk → Type 0
IsApart walk = Apart (map pair_of walk.pairs.now) walk.scopes.now

-- the second term is the first one substituted, below what the binders became
abbrev pub ReplacedTerm : Walk → Term → Term → Type 0
ReplacedTerm walk a b =
    term_with (puts walk) (term_with (naming (before walk.scopes.now)) a)
    ≡ term_with (naming (after walk.scopes.now)) b

-- the same of formulas
abbrev pub Replaced : Walk → Named → Named → Type 0
Replaced walk p q =
    formula_with (puts walk) (walked (before walk.scopes.now) p)
    ≡ walked (after walk.scopes.now) q
