-- Needn't be believed: how patterns of rows are written, as the table writes rows.
use Rattle.std.specs.Prelude.{List, [], ◌∷◌, map, pos}
use Rattle.model_shapes.specs.Values.{int}
use Rattle.model_shapes.specs.Sorts.{tree, forest, grove}
use Rattle.model_formulas.specs.Formulas.{whole, hole_left, hole_right}
use Rattle.rule_patterns.specs.Letter.{P', Q', R', A', B', K', H', E', F', S', I', L', T', J', M', h', k', j'}
use Rattle.rule_patterns.specs.Patterns.{DataPattern, some_data, this_data, SortPattern, some_sort, sort_of_x, data_sort, TermPattern, some_term, x_term, literal_p, FormulaPattern, some_formula, replaced, conjunction_p, disjunction_p, implication_p, equality_p, empty_p, node_p, concatenation_p, sum_of_groves_p, sum_hole_p, hole_adjoint_p, same_as_p, meets_p, JudgementPattern, entails_p, RequirementPattern, ConditionPattern, LinePattern}

-- LETTERS
abbrev pub P : FormulaPattern
P = some_formula P'

abbrev pub Q : FormulaPattern
Q = some_formula Q'

abbrev pub R : FormulaPattern
R = some_formula R'

abbrev pub A : FormulaPattern
A = some_formula A'

abbrev pub B : FormulaPattern
B = some_formula B'

abbrev pub K : FormulaPattern
K = some_formula K'

abbrev pub H : FormulaPattern
H = some_formula H'

abbrev pub E : TermPattern
E = some_term E'

abbrev pub F : TermPattern
F = some_term F'

abbrev pub S : TermPattern
S = some_term S'

abbrev pub I : TermPattern
I = some_term I'

abbrev pub L : TermPattern
L = some_term L'

abbrev pub T : TermPattern
T = some_term T'

abbrev pub J : TermPattern
J = some_term J'

abbrev pub M : TermPattern
M = some_term M'

abbrev pub s : SortPattern
s = some_sort

abbrev pub h : DataPattern
h = some_data h'

abbrev pub k : DataPattern
k = some_data k'

abbrev pub j : DataPattern
j = some_data j'

abbrev pub a_tree : DataPattern
a_tree = this_data tree

abbrev pub a_forest : DataPattern
a_forest = this_data forest

abbrev pub a_grove : DataPattern
a_grove = this_data grove

abbrev pub at_tree : SortPattern
at_tree = data_sort a_tree

abbrev pub at_forest : SortPattern
at_forest = data_sort a_forest

abbrev pub at_grove : SortPattern
at_grove = data_sort a_grove

-- FORMULAS
-- (P and Q)
abbrev pub ◌and◌ : FormulaPattern → FormulaPattern → FormulaPattern
p and q = conjunction_p p q

-- (P or Q)
abbrev pub ◌or◌ : FormulaPattern → FormulaPattern → FormulaPattern
p or q = disjunction_p p q

-- (P -> Q)
abbrev pub ◌implies◌ : FormulaPattern → FormulaPattern → FormulaPattern
p implies q = implication_p p q

-- (P * Q)
abbrev pub ◌∗◌ : FormulaPattern → FormulaPattern → FormulaPattern
p ∗ q = concatenation_p whole p q

-- (K .* Q)
abbrev pub ◌·∗◌ : FormulaPattern → FormulaPattern → FormulaPattern
p ·∗ q = concatenation_p hole_left p q

-- (P *. K)
abbrev pub ◌∗·◌ : FormulaPattern → FormulaPattern → FormulaPattern
p ∗· q = concatenation_p hole_right p q

-- (P + Q)
abbrev pub ◌⊹◌ : FormulaPattern → FormulaPattern → FormulaPattern
p ⊹ q = sum_of_groves_p p q

-- (K .+ Q)
abbrev pub ◌·⊹◌ : FormulaPattern → FormulaPattern → FormulaPattern
p ·⊹ q = sum_hole_p p q

-- (P -o Q)
abbrev pub ◌⊸◌ : FormulaPattern → FormulaPattern → FormulaPattern
p ⊸ q = hole_adjoint_p p q

-- E = F
abbrev pub ◌equals◌ : TermPattern → TermPattern → FormulaPattern
e equals f = equality_p e f

infix 70 ◌∗◌ ◌·∗◌ ◌∗·◌ ◌⊹◌ ◌·⊹◌ ◌and◌ ◌or◌ ◌implies◌ ◌⊸◌ ◌equals◌
-- P with E for $x
abbrev pub P_with_E : FormulaPattern
P_with_E = replaced E' P'

-- $x, and ($x is P)
abbrev pub $x : FormulaPattern
$x = same_as_p x_term

abbrev pub x_is : FormulaPattern → FormulaPattern
x_is p = meets_p sort_of_x x_term p

-- 0f and 0g
abbrev pub no_trees : FormulaPattern
no_trees = empty_p a_forest

abbrev pub no_roots : FormulaPattern
no_roots = empty_p a_grove

-- S#I[p]%L, and T#J[Q]%M
abbrev pub one_node : FormulaPattern → FormulaPattern
one_node p = node_p S I p L

abbrev pub other_node : FormulaPattern
other_node = node_p T J Q M

-- 0 and 1
abbrev pub zero_p : TermPattern
zero_p = literal_p (int (pos 0))

abbrev pub one_p : TermPattern
one_p = literal_p (int (pos 1))

-- LINES
-- P entails Q at s
abbrev pub ◌⊢◌ : FormulaPattern → FormulaPattern → SortPattern → JudgementPattern
◌⊢◌ p q t = entails_p p q t

-- the sort behind it
abbrev pub ◌at◌ : {A : Type 0} → (SortPattern → A) → SortPattern → A
i at t = i t

infix 60 ◌⊢◌
infix 55 ◌at◌
-- premises ⟹ conclusion
abbrev pub ◌⟹◌ : List JudgementPattern → JudgementPattern → LinePattern
js ⟹ i = record {
  arguments = [];
  requirements = [];
  premises = js;
  conclusion = i;
  conditions = [];
}

-- a conclusion alone
abbrev pub always : JudgementPattern → LinePattern
always i = [] ⟹ i

-- two lines: the one formula entails the other, and the other way round
abbrev pub ◌⊣⊢◌ : FormulaPattern → FormulaPattern → SortPattern → LinePattern × LinePattern
◌⊣⊢◌ p q t = (always (p ⊢ q at t), always (q ⊢ p at t))

-- with a condition
abbrev pub ◌provided◌ : LinePattern → ConditionPattern → LinePattern
line provided c = record line { conditions = c ∷ [] }

-- with a requirement
abbrev pub ◌given◌ : LinePattern → RequirementPattern → LinePattern
line given r = record line { requirements = r ∷ [] }

-- with these arguments
abbrev pub ◌with_arguments◌ : LinePattern → List TermPattern → LinePattern
line with_arguments es = record line { arguments = es }

infix 60 ◌⊣⊢◌
infix 30 ◌⟹◌
infixl 25 ◌provided◌ ◌given◌ ◌with_arguments◌
-- RULES
-- of one reading
abbrev pub reads : LinePattern → List LinePattern
reads line = line ∷ []

-- both ways: the rule that reads from left to right, and that which reads from right to left
abbrev pub both_ways : List (LinePattern × LinePattern) → List (List LinePattern)
both_ways lines = map (λ both. both.0) lines ∷ map (λ both. both.1) lines ∷ []
