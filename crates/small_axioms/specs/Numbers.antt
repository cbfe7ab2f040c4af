-- Needn't be believed: the promises speak of the table of rules. What a triple says, by numbers.
use Rattle.std.specs.Prelude.{◌≡◌, ℕ, Option, Some, None}
use Rattle.std.specs.Borrow.{Bor}
use Rattle.std.specs.Option.{option_map}
use Rattle.model_shapes.specs.Sorts.{DataSort}
use Rattle.model_terms.specs.Terms as model
use Rattle.model_terms.specs.Terms.{variable}
use Rattle.model_formulas.specs.Formulas.{Formula}
use Rattle.dom_terms.specs.Sorts.{data_sort_of}
use Rattle.dom_terms.specs.Terms.{term_of, var_of}
use Rattle.dom_terms.specs.declared.terms.ProgVar.{ProgVar}
use Rattle.dom_terms.specs.declared.terms.Term.{Term}
use Rattle.formula_table.specs.Interning.{IsTerm, StandsFor}
use Rattle.formula_table.specs.declared.tables.Table.{Table}
use Rattle.letter_bindings.specs.Known.{Known}
use Rattle.small_axioms.specs.declared.numbering.Said.{Said}
use Rattle.small_axioms.specs.declared.numbering.Parts.{Parts}
use Rattle.small_axioms.specs.Commands.{known_terms}

-- the numbers stand for these formulas, and it has the sort
pub record SaysThese (table : Table) (said : Said) (p q : Formula) (d : DataSort) : Type 0 where
  pub pre : StandsFor table said.pre p
  pub post : StandsFor table said.post q
  pub sort : data_sort_of said.sort ≡ d

-- THE TERMS of a command, and its variable as a term
abbrev pub target_in : Option (Bor ProgVar) → Option model.Term
target_in = option_map (λ x. variable (var_of x.now))

abbrev pub term_in : Option (Bor Term) → Option model.Term
term_in = option_map (λ a. term_of a.now)

-- what is known of the letters
abbrev pub known_in : Parts → Known
known_in parts =
    known_terms (term_in parts.first) (term_in parts.second) (term_in parts.third)
    (target_in parts.target)

-- the number is that of the term, if there is one
abbrev pub IsTermIn : Table → Option ℕ → Option model.Term → Type 0
IsTermIn table None None = Unit {0}
IsTermIn table (Some i) (Some a) = IsTerm table i a
IsTermIn table i a = ⊥
