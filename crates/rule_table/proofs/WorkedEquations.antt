-- Worked verdicts of the rows of equations and texts, by evaluation.
use Rattle.std.proofs.Common.{ℕ, pos, List, [], ◌∷◌, Some, codes}
use Rattle.model_shapes.specs.Sorts.{value, shape, grove, int_sort, str_sort}
use Rattle.model_shapes.specs.Values.{int, str}
use Rattle.model_terms.specs.Variables.{prog, logic, bound}
use Rattle.model_terms.specs.Terms.{Term, literal, variable, sum, appended}
use Rattle.model_formulas.specs.Formulas.{Formula, truth, falsity, conjunction, equality, existential, same_as}
use Rattle.model_commands.specs.Theories.{entails}
use Rattle.rule_table.specs.Conditions.{literal_side, texts_side}
use Rattle.rule_table.specs.Verdicts.{Verdict, IsVerdict, instance_verdict, shape_verdict, premises_verdict, side_verdict}
use Rattle.rule_table.proofs.EquationVerdicts.{subst_verdict, distinct_verdict, concat_verdict}
use Rattle.rule_table.proofs.SomeLetters.{readings_of}

-- the verdict of a rule without arguments on a step that cites nothing: the left formula entails
-- the right one at g
abbrev Says : List ℕ → Formula → Formula → Verdict → Type 0
Says name p q = IsVerdict (readings_of name)
    (record { arguments = []; premises = Some []; conclusion = entails p q (shape grove) })

abbrev number : ℕ → Term
number n = literal (int (pos n))

abbrev x : Term
x = variable (prog (codes "x") int_sort)

abbrev y : Term
y = variable (prog (codes "y") int_sort)

-- EQ_SUBST
abbrev by_subst : (p q : Formula) → (v : Verdict) × Says (codes "eq_subst") p q v
by_subst p q = subst_verdict [] (Some []) (entails p q (shape grove))

-- (x = y and x = x) entails x = y: one of two occurrences
pub one_of_two : Says (codes "eq_subst") (conjunction (equality x y) (equality x x)) (equality x y)
    instance_verdict
one_of_two = (by_subst (conjunction (equality x y) (equality x x)) (equality x y)).1

-- not the other way
pub not_back : Says (codes "eq_subst") (conjunction (equality x y) (equality x y)) (equality x x)
    shape_verdict
not_back = (by_subst (conjunction (equality x y) (equality x y)) (equality x x)).1

-- ({x + 1} = y and x = {{x + 1} + 1}) entails x = {y + 1}: in a term
abbrev in_a_term : Formula
in_a_term =
    conjunction (equality (sum x (number 1)) y) (equality x (sum (sum x (number 1)) (number 1)))

pub within_a_term : Says (codes "eq_subst") in_a_term
    (equality x (sum y (number 1))) instance_verdict
within_a_term = (by_subst in_a_term (equality x (sum y (number 1)))).1

-- (x = $v and (exists $w . x = $w)) entails (exists $w . $v = $w), also where the binder is called
-- $v, as bound variables have no names
abbrev v : Term
v = variable (logic (codes "v") (value int_sort))

abbrev bound_to : Term → Formula
bound_to t = existential (value int_sort) (equality t (variable (bound 0 (value int_sort))))

pub under_a_binder : Says (codes "eq_subst") (conjunction (equality x v) (bound_to x)) (bound_to v)
    instance_verdict
under_a_binder = (by_subst (conjunction (equality x v) (bound_to x)) (bound_to v)).1

-- nor is anything caught: it doesn't entail (exists $w . $w = $w)
abbrev caught : Formula
caught = bound_to (variable (bound 0 (value int_sort)))

pub none_caught : Says (codes "eq_subst") (conjunction (equality x v) (bound_to x)) caught
    shape_verdict
none_caught = (by_subst (conjunction (equality x v) (bound_to x)) caught).1

-- ($g = $h and $g) doesn't entail $h: `$g` as a formula is no term
abbrev g : Term
g = variable (logic (codes "g") (shape grove))

abbrev h : Term
h = variable (logic (codes "h") (shape grove))

pub no_term : Says (codes "eq_subst") (conjunction (equality g h) (same_as g))
    (same_as h) shape_verdict
no_term = (by_subst (conjunction (equality g h) (same_as g)) (same_as h)).1

-- but ($g = $h and $g = $g) entails $g = $h
pub terms_of_groves : Says (codes "eq_subst") (conjunction (equality g h) (equality g g))
    (equality g h) instance_verdict
terms_of_groves = (by_subst (conjunction (equality g h) (equality g g)) (equality g h)).1

-- a citation that isn't wanted
pub cited : IsVerdict (readings_of (codes "eq_subst"))
    (record {
      arguments = [];
      premises = Some (entails truth truth (shape grove) ∷ []);
      conclusion = entails (conjunction (equality x y) truth) truth (shape grove);
    }) premises_verdict
cited =
    (subst_verdict [] (Some (entails truth truth (shape grove) ∷ []))
    (entails (conjunction (equality x y) truth) truth (shape grove))).1

-- DISTINCT
abbrev by_distinct : (p q : Formula) → (v : Verdict) × Says (codes "distinct") p q v
by_distinct p q = distinct_verdict [] (Some []) (entails p q (shape grove))

pub one_and_two : Says (codes "distinct") (equality (number 1) (number 2)) falsity instance_verdict
one_and_two = (by_distinct (equality (number 1) (number 2)) falsity).1

pub one_and_one : Says (codes "distinct") (equality (number 1) (number 1)) falsity
    (side_verdict literal_side)
one_and_one = (by_distinct (equality (number 1) (number 1)) falsity).1

pub no_literal : Says (codes "distinct") (equality x (number 1)) falsity (side_verdict literal_side)
no_literal = (by_distinct (equality x (number 1)) falsity).1

pub no_falsity : Says (codes "distinct") (equality (number 1) (number 2)) truth shape_verdict
no_falsity = (by_distinct (equality (number 1) (number 2)) truth).1

-- CONCAT
abbrev by_concat : (p q : Formula) → (v : Verdict) × Says (codes "concat") p q v
by_concat p q = concat_verdict [] (Some []) (entails p q (shape grove))

abbrev text : List ℕ → Term
text s = literal (str s)

abbrev u : Term
u = variable (prog (codes "u") str_sort)

-- {{"a" ++ "b"} ++ u} = {"ab" ++ {"" ++ u}}
abbrev joined : Formula
joined =
    equality (appended (appended (text (codes "a")) (text (codes "b"))) u)
    (appended (text (codes "ab")) (appended (text []) u))

pub joined_literals : Says (codes "concat") truth joined instance_verdict
joined_literals = (by_concat truth joined).1

-- {"a" ++ u} = {u ++ "a"}
abbrev turned : Formula
turned = equality (appended (text (codes "a")) u) (appended u (text (codes "a")))

pub other_order : Says (codes "concat") truth turned (side_verdict texts_side)
other_order = (by_concat truth turned).1

-- integers are no texts
pub no_texts : Says (codes "concat") truth (equality x x) shape_verdict
no_texts = (by_concat truth (equality x x)).1
