-- Needn't be believed: what becomes of a table to which a formula is added, part by part.
use Rattle.std.specs.Prelude.{◌≡◌, ℕ, zero, ◌<◌, nat_lt, cond, Bool, true, false, if◌then◌else◌, List, [], ◌∷◌, ◌++◌, length, Result, Ok, Err}
use Rattle.std.specs.List.{list_any}
use Rattle.model_shapes.specs.Values.{Name, null}
use Rattle.model_terms.specs.Terms.{Term, literal}
use Rattle.model_formulas.specs.Formulas.{Formula, truth, falsity, conjunction, disjunction, implication, negation, existential, universal, equality, at_most, empty, bare_hole, node_formula, one_tree, one_root, concatenation, grove_sum, grove_sum_hole, application, hole_adjoint, context_adjoint, same_as, length_is, value_meets}
use Rattle.model_formulas.specs.SameFormulas.{same_formula}
use Rattle.formula_table.specs.Growing.{Keeps}
use Rattle.formula_table.specs.Heads.{build, terms_used, parts_used}
use Rattle.formula_table.specs.Rows.{bound_sort}
use Rattle.formula_table.specs.declared.heads.Head.{Head}
use Rattle.formula_table.specs.Forms.{names_at, terms_at, forms_at, name_at, term_at, form_at}
use Rattle.formula_table.specs.declared.faults.TableFault.{TableFault}
use Rattle.formula_table.specs.declared.faults.TableFault.TheVariants as t
use Rattle.formula_table.specs.declared.rows.FormRow.{FormRow}
use Rattle.formula_table.specs.declared.tables.Table.{Table}

-- a formula and all its parts, each part before what it is a part of
abbrev pub parts_up : Formula → List Formula
parts_up truth = truth ∷ []
parts_up falsity = falsity ∷ []
parts_up (conjunction p q) = parts_up p ++ (parts_up q ++ conjunction p q ∷ [])
parts_up (disjunction p q) = parts_up p ++ (parts_up q ++ disjunction p q ∷ [])
parts_up (implication p q) = parts_up p ++ (parts_up q ++ implication p q ∷ [])
parts_up (negation p) = parts_up p ++ negation p ∷ []
parts_up (existential s p) = parts_up p ++ existential s p ∷ []
parts_up (universal s p) = parts_up p ++ universal s p ∷ []
parts_up (equality a b) = equality a b ∷ []
parts_up (at_most a b) = at_most a b ∷ []
parts_up (empty k) = empty k ∷ []
parts_up (bare_hole k) = bare_hole k ∷ []
parts_up (node_formula a b p c) = parts_up p ++ node_formula a b p c ∷ []
parts_up (one_tree p) = parts_up p ++ one_tree p ∷ []
parts_up (one_root p) = parts_up p ++ one_root p ∷ []
parts_up (concatenation k p q) = parts_up p ++ (parts_up q ++ concatenation k p q ∷ [])
parts_up (grove_sum p q) = parts_up p ++ (parts_up q ++ grove_sum p q ∷ [])
parts_up (grove_sum_hole p q) = parts_up p ++ (parts_up q ++ grove_sum_hole p q ∷ [])
parts_up (application k p q) = parts_up p ++ (parts_up q ++ application k p q ∷ [])
parts_up (hole_adjoint p q) = parts_up p ++ (parts_up q ++ hole_adjoint p q ∷ [])
parts_up (context_adjoint k p q) = parts_up p ++ (parts_up q ++ context_adjoint k p q ∷ [])
parts_up (same_as a) = same_as a ∷ []
parts_up (length_is a) = length_is a ∷ []
parts_up (value_meets s a p) = parts_up p ++ value_meets s a p ∷ []

-- whether the formula is one of them
abbrev pub is_one_of : Formula → List Formula → Bool
is_one_of p have = list_any (same_formula p) have

-- What those that are there become, one formula after another: one that is there is passed, one
-- that isn't goes behind them while there is room, and at the first that has none it stops.
unfoldable pub filled : ℕ → List Formula → List Formula → List Formula
filled most have [] = have
filled most have (p ∷ ps) = if is_one_of p have then filled most have ps else
    (if nat_lt (length have) most then filled most (have ++ p ∷ []) ps else have)

-- whether it stops
unfoldable pub overfull : ℕ → List Formula → List Formula → Bool
overfull most have [] = false
overfull most have (p ∷ ps) = if is_one_of p have then overfull most have ps else
    (if nat_lt (length have) most then overfull most (have ++ p ∷ []) ps else true)

-- each number keeps its meaning, and the table its most
pub record KeepsAll (old new : Table) : Type 0 where
  pub most : new.most ≡ old.most
  pub names : Keeps (names_at old) (names_at new)
  pub terms : Keeps (terms_at old) (terms_at new)
  pub forms : Keeps (forms_at old) (forms_at new)

-- the number is that of the name
pub record IsName (t : Table) (i : ℕ) (x : Name) : Type 0 where
  pub there : i < length (names_at t)
  pub is : name_at t i ≡ x

-- the number is that of the term
pub record IsTerm (t : Table) (i : ℕ) (a : Term) : Type 0 where
  pub there : i < length (terms_at t)
  pub is : term_at t i ≡ a

-- the number is that of the formula
pub record StandsFor (t : Table) (i : ℕ) (p : Formula) : Type 0 where
  pub there : i < length (forms_at t)
  pub is : form_at t i ≡ p

-- the number is that of a term or a part of a row, where the row's form uses the place; else it
-- is 0
abbrev pub TermPlace : ℕ → ℕ → Table → ℕ → Term → Type 0
TermPlace used place t i a =
    cond (nat_lt place used) (IsTerm t i a) ((i ≡ zero) × (a ≡ literal null))

abbrev pub PartPlace : ℕ → ℕ → Table → ℕ → Formula → Type 0
PartPlace used place t i p = cond (nat_lt place used) (StandsFor t i p) ((i ≡ zero) × (p ≡ truth))

-- the row is that of a form with these terms and parts
pub record IsRow (t : Table) (row : FormRow) (a b c : Term) (p q : Formula) : Type 0 where
  pub first : TermPlace (terms_used row.head) 0 t row.first a
  pub second : TermPlace (terms_used row.head) 1 t row.second b
  pub third : TermPlace (terms_used row.head) 2 t row.third c
  pub left : PartPlace (parts_used row.head) 0 t row.left p
  pub right : PartPlace (parts_used row.head) 1 t row.right q

-- terms were added, and no formula
pub record TermsGrow (old new : Table) : Type 0 where
  pub keeps : KeepsAll old new
  pub forms : forms_at new ≡ forms_at old

-- the formulas of the list were added, up to the first with no room
pub record Fills (old new : Table) (ps : List Formula) (stops : Bool) : Type 0 where
  pub keeps : KeepsAll old new
  pub filled : forms_at new ≡ filled old.most (forms_at old) ps
  pub overfull : overfull old.most (forms_at old) ps ≡ stops

-- how the formulas of a list are added, the last of which gets the number
abbrev pub Ends : Table → Table → List Formula → Formula → Result ℕ TableFault → Type 0
Ends old new ps p (Ok i) = Fills old new ps false × StandsFor new i p
Ends old new ps p (Err t.Full) = Fills old new ps true
Ends old new ps p (Err t.OutOfMemory) = KeepsAll old new

-- the formula of a form with no term and no part; with two parts, with one; of one term, of two
abbrev pub leaf : Head → Formula
leaf m = build bound_sort m (literal null) (literal null) (literal null) truth truth

abbrev pub joining : Head → Formula → Formula → Formula
joining m p q = build bound_sort m (literal null) (literal null) (literal null) p q

abbrev pub above : Head → Formula → Formula
above m p = build bound_sort m (literal null) (literal null) (literal null) p truth

abbrev pub about : Head → Term → Formula
about m a = build bound_sort m a (literal null) (literal null) truth truth

abbrev pub comparing : Head → Term → Term → Formula
comparing m a b = build bound_sort m a b (literal null) truth truth
