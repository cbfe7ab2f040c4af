-- A number stands for the same term while terms are added.
use Rattle.std.proofs.Common.{◌≡◌, refl, ap, ℕ, Option, Some, None}
use Rattle.std.specs.Option.{option_map}
use Rattle.model_terms.specs.Terms.{Term}
use Rattle.formula_table.specs.Forms.{term_at}
use Rattle.formula_table.specs.Interning.{TermsGrow}
use Rattle.formula_table.specs.declared.tables.Table.{Table}
use Rattle.formula_table.proofs.KeptNumbers.{terms_grow-refl, terms_grow-trans, term-grown}
use Rattle.small_axioms.specs.Numbers.{IsTermIn}

-- what is a term's number is it later on
pub still : (old new : Table) → TermsGrow old new → (i : Option ℕ) (a : Option Term)
    → IsTermIn old i a → option_map (term_at new) i ≡ a
still old new g None None h = refl
still old new g (Some i) (Some a) h = ap Some (term-grown old new g i a h).is
still old new g None (Some a) h = absurd h
still old new g (Some i) None h = absurd h

pub ruleset numbered_rules = (terms_grow-refl, terms_grow-trans, still)
