-- What a row asks: of the letters themselves, and as conditions that have a name.
use Rattle.std.specs.Prelude.{◌≡◌, Bool, true, Some}
use Rattle.model_shapes.specs.Sorts.{Sort, value, ValueSort, is_sort}
use Rattle.model_terms.specs.Terms.{Term, InTerm}
use Rattle.model_terms.specs.TermSorts.{has_sort, evaluates}
use Rattle.model_terms.specs.Stores.{ProgVar, as_var}
use Rattle.model_formulas.specs.Formulas.{Formula, is_pure}
use Rattle.model_formulas.specs.Substitution.{FreeIn}
use Rattle.model_formulas.specs.WellSorted.{variable_at}
use Rattle.model_commands.specs.Commands.{Command, Modifies}
use Rattle.model_commands.specs.Theories.{Procedure, Procedures, procedure_named}
use Rattle.rule_table.specs.Letters.{LogicVar, as_logic}
use Rattle.rule_table.specs.Occurrences.{AsFormula}
use Rattle.rule_table.specs.Texts.{pieces}

-- WHAT IS ASKED OF THE LETTERS: a choice that doesn't meet it makes no line of the row. So it has
-- no name, and a step for which no choice meets it has the wrong shape.
pub data Requirement : Type 0 where
  -- the term has the sort: a term of a value sort, or a logic variable of a data or context sort
  of_sort : Sort → Term → Requirement
  -- a command may evaluate the term at the sort
  computes : ValueSort → Term → Requirement
  -- the variable stands in terms alone in the formula
  in_terms : LogicVar → Formula → Requirement
  -- a call of its name means this procedure
  means : Procedures → Procedure → Requirement

-- the term has the sort, as an argument of a step has it
abbrev pub TermAt : Sort → Term → Type 0
TermAt (value u) e = has_sort u e ≡ true
TermAt s e = (variable_at s e ≡ true) × (is_sort s ≡ true)

-- it is met
abbrev pub IsMet : Requirement → Type 0
IsMet (of_sort s e) = TermAt s e
IsMet (computes u e) = evaluates u e ≡ true
IsMet (in_terms x p) = AsFormula (as_logic x) p → ⊥
IsMet (means procedures f) = procedure_named f.name procedures ≡ Some f

-- CONDITIONS, and their names
pub data SideName : Type 0 where
  free_side literal_side coefficient_side sum_side : SideName
  texts_side pure_side modified_side assigned_side : SideName

-- a condition on the letters of a line
pub data Condition : Type 0 where
  -- the logic variable, the program variable isn't free in the formula
  not_free : LogicVar → Formula → Condition
  not_in : ProgVar → Formula → Condition
  -- the formula is pure
  pure : Formula → Condition
  -- the command changes no program variable of the formula, of the term
  unchanged : Command → Formula → Condition
  unchanged_term : Command → Term → Condition
  -- the variable that a command sets isn't in the letters of the formula, of the term
  assigned : ProgVar → Formula → Condition
  assigned_term : ProgVar → Term → Condition
  -- the text terms have the same pieces
  same_texts : Term → Term → Condition
  -- the test of the condition with this name says yes
  tested : SideName → Bool → Condition

-- its name
abbrev pub side_of : Condition → SideName
side_of (not_free x p) = free_side
side_of (not_in v p) = free_side
side_of (pure p) = pure_side
side_of (unchanged c p) = modified_side
side_of (unchanged_term c e) = modified_side
side_of (assigned v p) = assigned_side
side_of (assigned_term v e) = assigned_side
side_of (same_texts a b) = texts_side
side_of (tested name passes) = name

-- it holds
abbrev pub Holds : Condition → Type 0
Holds (not_free x p) = FreeIn (as_logic x) p → ⊥
Holds (not_in v p) = FreeIn (as_var v) p → ⊥
Holds (pure p) = is_pure p ≡ true
Holds (unchanged c p) = (v : ProgVar) → Modifies c v → FreeIn (as_var v) p → ⊥
Holds (unchanged_term c e) = (v : ProgVar) → Modifies c v → InTerm (as_var v) e → ⊥
Holds (assigned v p) = FreeIn (as_var v) p → ⊥
Holds (assigned_term v e) = InTerm (as_var v) e → ⊥
Holds (same_texts a b) = pieces a ≡ pieces b
Holds (tested name passes) = passes ≡ true
