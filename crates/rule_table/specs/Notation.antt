-- How the rows write formulas and judgements.
use Rattle.model_shapes.specs.Sorts.{Sort, DataSort}
use Rattle.model_terms.specs.Terms.{Term, variable}
use Rattle.model_formulas.specs.Formulas.{Formula, whole, hole_left, hole_right, conjunction, disjunction, implication, equality, concatenation, grove_sum, grove_sum_hole, hole_adjoint}
use Rattle.model_formulas.specs.Substitution.{exists, forall, formula_with, replacing}
use Rattle.model_terms.specs.Stores.{ProgVar, as_var}
use Rattle.model_commands.specs.Commands.{Command}
use Rattle.model_commands.specs.Theories.{Judgement, entails, triple}
use Rattle.rule_table.specs.Letters.{LogicVar, as_logic}

-- (P and Q)
abbrev pub ◌and◌ : Formula → Formula → Formula
p and q = conjunction p q

-- (P or Q)
abbrev pub ◌or◌ : Formula → Formula → Formula
p or q = disjunction p q

-- (P -> Q)
abbrev pub ◌implies◌ : Formula → Formula → Formula
p implies q = implication p q

-- (P * Q)
abbrev pub ◌∗◌ : Formula → Formula → Formula
p ∗ q = concatenation whole p q

-- (K .* Q)
abbrev pub ◌·∗◌ : Formula → Formula → Formula
p ·∗ q = concatenation hole_left p q

-- (P *. K)
abbrev pub ◌∗·◌ : Formula → Formula → Formula
p ∗· q = concatenation hole_right p q

-- (P + Q)
abbrev pub ◌⊹◌ : Formula → Formula → Formula
p ⊹ q = grove_sum p q

-- (K .+ Q)
abbrev pub ◌·⊹◌ : Formula → Formula → Formula
p ·⊹ q = grove_sum_hole p q

-- (P -o Q)
abbrev pub ◌⊸◌ : Formula → Formula → Formula
p ⊸ q = hole_adjoint p q

-- E = F
abbrev pub ◌equals◌ : Term → Term → Formula
e equals f = equality e f

-- (exists $x . P)
abbrev pub for_some : LogicVar → Formula → Formula
for_some x p = exists (as_logic x) p

-- (forall $x . P)
abbrev pub for_each : LogicVar → Formula → Formula
for_each x p = forall (as_logic x) p

-- P with E for $x
abbrev pub instead : Term → LogicVar → Formula → Formula
instead e x p = formula_with (replacing (as_logic x) e) p

-- a program variable, as a term
abbrev pub prog_term : ProgVar → Term
prog_term v = variable (as_var v)

infix 70 ◌∗◌ ◌·∗◌ ◌∗·◌ ◌⊹◌ ◌·⊹◌ ◌and◌ ◌or◌ ◌implies◌ ◌⊸◌ ◌equals◌
-- P entails Q at s
abbrev pub ◌⊢◌ : Formula → Formula → Sort → Judgement
◌⊢◌ p q s = entails p q s

-- the sort behind it
abbrev pub ◌at◌ : {A : Type 0} → (Sort → A) → Sort → A
j at s = j s

infix 60 ◌⊢◌
infix 55 ◌at◌
-- {P} C {Q} at d
abbrev pub hoare : Formula → Command → Formula → DataSort → Judgement
hoare p c q d = triple p c q d
