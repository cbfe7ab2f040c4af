-- Needn't be believed: the contracts of private functions alone speak of it. What is asked of a
-- formula before it is judged, and the judgement.
use Rattle.std.specs.Prelude.{◌≡◌, ◌⊎◌, ◌+◌, ℕ, Bool, true, ◌&&◌, List, [], ◌∷◌, ◌++◌, None, Result, IfOk, take, drop}
use Rattle.std.specs.List.{list_any}
use Rattle.model_limits.specs.Limits.{standard_limits}
use Rattle.model_shapes.specs.Sorts.{ValueSort}
use Rattle.model_shapes.specs.Trees.{Trees}
use Rattle.model_terms.specs.Variables.{Var, logic}
use Rattle.model_terms.specs.VariableTests.{same_var}
use Rattle.model_terms.specs.Terms.{Term, variable}
use Rattle.model_terms.specs.TermSorts.{evaluates}
use Rattle.model_terms.specs.Stores.{Store}
use Rattle.model_terms.specs.TermLimits.{term_limit}
use Rattle.model_formulas.specs.Formulas.{Named, whole, conjunction, disjunction, implication, negation, existential, equality, at_most, node_formula, one_tree, one_root, concatenation, grove_sum, length_is}
use Rattle.model_formulas.specs.Satisfaction.{Environment}
use Rattle.model_watch.specs.Watching.{any_root, holds, store_alone}
use Rattle.dom_terms.specs.declared.memory.OutOfMemory.{OutOfMemory}
use Rattle.dom_watch.specs.declared.rows.Row.{Row}
use Rattle.dom_watch.specs.declared.bindings.Bindings.{Bindings}
use Rattle.dom_watch.specs.Rows.{Shows, values_at}
use Rattle.dom_watch.specs.Bindings.{meant}

-- the term is one of the variables that are bound, or its value passes no limit
abbrev pub IsTold : List Var → Store → Term → Type 0
IsTold bound store (variable (logic name s)) = list_any (same_var (logic name s)) bound ≡ true
IsTold bound store a =
    (s : ValueSort) × (evaluates s a ≡ true) × (term_limit standard_limits store a ≡ None)

-- so is each term of the formula
abbrev pub IsReady : List Var → Store → Named → Type 0
IsReady bound store (conjunction p q) = IsReady bound store p × IsReady bound store q
IsReady bound store (disjunction p q) = IsReady bound store p × IsReady bound store q
IsReady bound store (implication p q) = IsReady bound store p × IsReady bound store q
IsReady bound store (negation p) = IsReady bound store p
IsReady bound store (existential x p) = IsReady (x ∷ bound) store p
IsReady bound store (equality a b) = IsTold bound store a × IsTold bound store b
IsReady bound store (at_most a b) = IsTold bound store a × IsTold bound store b
IsReady bound store (node_formula name number p list) =
    IsTold bound store name × IsTold bound store number × IsTold bound store list
    × IsReady bound store p
IsReady bound store (one_tree p) = IsReady bound store p
IsReady bound store (one_root p) = IsReady bound store p
IsReady bound store (concatenation whole p q) = IsReady bound store p × IsReady bound store q
IsReady bound store (grove_sum p q) = IsReady bound store p × IsReady bound store q
IsReady bound store (length_is a) = IsTold bound store a
IsReady bound store p = Unit {0}

-- what the variables stand for
abbrev pub environment : Bindings → Store → Environment
environment bindings store = meant bindings (store_alone store)

-- the answer is whether the trees that the rows stand for meet the formula
abbrev pub Tells : List Row → Store → Bindings → Named → List Row → Result Bool OutOfMemory
    → Type 0
Tells all store bindings p rows answer =
    (f : Trees) → Shows all rows f → IfOk answer (λ yes.
    yes ≡ holds (values_at all) p (environment bindings store) f)

-- the answer is whether some root meets the first formula, and the other roots the second
abbrev pub TellsRoot : List Row → Store → Bindings → Named → Named → List Row
    → Result Bool OutOfMemory → Type 0
TellsRoot all store bindings p q rows answer =
    (f : Trees) → Shows all rows f → IfOk answer (λ yes.
    yes ≡ any_root (λ root others. holds (values_at all) p (environment bindings store) root
    && holds (values_at all) q (environment bindings store) others) f)

-- all rows but the one at the place
abbrev pub others_at : List Row → ℕ → List Row
others_at rows place = take place rows ++ drop (place + 1) rows

-- the list has none of these rows, or all but the one at the place
abbrev pub IsRest : List Row → ℕ → List Row → Type 0
IsRest rows place rest = (rest ≡ []) ⊎ (rest ≡ others_at rows place)
