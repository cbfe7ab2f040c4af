-- THE RULES OF ENTAILMENT, in the order in which the language names them, after POPL 2005. Each
-- stands once: its name, and what a choice l of the letters makes of it.
use Rattle.std.specs.Prelude.{Bool, true, false, cond, ◌&&◌, List, [], ◌∷◌, ◌++◌, map, codes, pos}
use Rattle.model_shapes.specs.Values.{int, null, nolist}
use Rattle.model_shapes.specs.Sorts.{shape, context, value, tree, forest, grove, int_sort, str_sort}
use Rattle.model_shapes.specs.Tests.{same_value}
use Rattle.model_terms.specs.Terms.{Term, literal, sum}
use Rattle.model_formulas.specs.Formulas.{Formula, truth, falsity, negation, at_most, empty, bare_hole, one_tree, one_root, application, context_adjoint, same_as, length_is, value_meets}
use Rattle.rule_table.specs.Letters.{Letters, as_term, sort_at, one_node, other_node}
use Rattle.rule_table.specs.Notation.{◌⊢◌, ◌at◌, ◌and◌, ◌or◌, ◌implies◌, ◌∗◌, ◌·∗◌, ◌∗·◌, ◌⊹◌, ◌·⊹◌, ◌⊸◌, ◌equals◌, for_some, for_each, instead}
use Rattle.rule_table.specs.Conditions.{Requirement, not_free, of_sort, pure, in_terms, same_texts, tested, literal_side, coefficient_side, sum_side}
use Rattle.rule_table.specs.Linear.{comparisons, numbers, sides, sum_of, rest, are_fair, equations_alone, at_least_zero, below_zero, is_zero}
use Rattle.rule_table.specs.Closed.{number, some_node, first_and_rest, root_and_rest, some_length}
use Rattle.rule_table.specs.Lines.{Line, always, ◌⟹◌, ◌⊣⊢◌, ◌provided◌, ◌given◌, ◌given_each◌, ◌with_arguments◌}
use Rattle.rule_table.specs.Entries.{Entry, ◌is◌, says, rule, both, both_ways}

abbrev pub connectives : List Entry
connectives =
    says (codes "id") (λ l. l.P ⊢ l.P at l.s) ∷
    rule (codes "cut") (λ l. (l.P ⊢ l.Q at l.s) ∷ (l.Q ⊢ l.R at l.s) ∷ [] ⟹ l.P ⊢ l.R at l.s) ∷
    says (codes "true_in") (λ l. l.P ⊢ truth at l.s) ∷
    says (codes "false_out") (λ l. falsity ⊢ l.P at l.s) ∷
    rule (codes "and_in") (λ l. (l.P ⊢ l.Q at l.s) ∷ (l.P ⊢ l.R at l.s) ∷ []
    ⟹ l.P ⊢ l.Q and l.R at l.s) ∷
    says (codes "and_left") (λ l. l.P and l.Q ⊢ l.P at l.s) ∷
    says (codes "and_right") (λ l. l.P and l.Q ⊢ l.Q at l.s) ∷
    says (codes "or_left") (λ l. l.P ⊢ l.P or l.Q at l.s) ∷
    says (codes "or_right") (λ l. l.Q ⊢ l.P or l.Q at l.s) ∷
    rule (codes "or_out") (λ l. (l.P ⊢ l.R at l.s) ∷ (l.Q ⊢ l.R at l.s) ∷ []
    ⟹ l.P or l.Q ⊢ l.R at l.s) ∷
    rule (codes "imp_in") (λ l. (l.P and l.Q ⊢ l.R at l.s) ∷ [] ⟹ l.P ⊢ l.Q implies l.R at l.s) ∷
    says (codes "imp_out") (λ l. (l.P implies l.Q) and l.P ⊢ l.Q at l.s) ∷
    rule (codes "not_in") (λ l. (l.P and l.Q ⊢ falsity at l.s) ∷ [] ⟹ l.P ⊢ negation l.Q at l.s) ∷
    says (codes "not_out") (λ l. negation l.P and l.P ⊢ falsity at l.s) ∷
    says (codes "classical") (λ l. negation (negation l.P) ⊢ l.P at l.s) ∷
    rule (codes "forall_in") (λ l. (l.P ⊢ l.Q at l.s) ∷ []
    ⟹ l.P ⊢ for_each l.x l.Q at l.s provided not_free l.x l.P) ∷
    rule (codes "forall_out") (λ l. always (for_each l.x l.P ⊢ instead l.E l.x l.P at l.s)
    with_arguments (l.E ∷ []) given of_sort l.x.sort l.E) ∷
    rule (codes "exists_in") (λ l. always (instead l.E l.x l.P ⊢ for_some l.x l.P at l.s)
    with_arguments (l.E ∷ []) given of_sort l.x.sort l.E) ∷
    rule (codes "exists_out") (λ l. (l.P ⊢ l.Q at l.s) ∷ []
    ⟹ for_some l.x l.P ⊢ l.Q at l.s provided not_free l.x l.Q) ∷ []

-- EQUATIONS, ORDERS AND TEXTS. Two literals that are not the same
abbrev pub different_literals : Term → Term → Bool
different_literals (literal v) (literal w) = cond (same_value v w) false true
different_literals a b = false

-- {E + 1}
abbrev pub one_more : Term → Term
one_more e = sum e (literal (int (pos 1)))

-- the rules that compute
module _ (letters : Letters) where
  open letters use {P, E, F, x, W, s}

  -- some, none or all occurrences of E as a term are replaced by F
  abbrev pub eq_subst : Line
  eq_subst = always ((E equals F) and instead E x P ⊢ instead F x P at s) given in_terms x P

  abbrev pub distinct : Line
  distinct = always (E equals F ⊢ falsity at s) provided
      tested literal_side (different_literals E F)

  -- the comparisons W in order, each times the argument at its place; the sum of all entails B
  abbrev pub linear : List Requirement → Formula → Line
  linear of_sides B = always (comparisons W ⊢ B at s) with_arguments numbers W given_each of_sides
      given_each map (of_sort (value int_sort)) (sides W)
      provided tested coefficient_side (are_fair W)

  abbrev pub linear_order : Line
  linear_order = linear [] (at_most E F) provided
      tested sum_side (at_least_zero (rest E F (sum_of W)))

  abbrev pub linear_equation : Line
  linear_equation =
      linear (of_sort (value int_sort) E ∷ of_sort (value int_sort) F ∷ []) (E equals F) provided
      tested sum_side (is_zero (rest E F (sum_of W)) && equations_alone W)

  abbrev pub linear_false : Line
  linear_false = linear [] falsity provided tested sum_side (below_zero (sum_of W))

  abbrev pub concat : Line
  concat = always (P ⊢ E equals F at s) given of_sort (value str_sort) E
      given of_sort (value str_sort) F provided same_texts E F

abbrev pub equations : List Entry
equations =
    says (codes "eq_refl") (λ l. l.P ⊢ l.E equals l.E at l.s) ∷
    rule (codes "eq_subst") eq_subst ∷
    rule (codes "distinct") distinct ∷
    says (codes "int_total") (λ l. l.P ⊢ at_most l.E l.F or at_most (one_more l.F) l.E at l.s) ∷
    (codes "linear" is linear_order ∷ linear_equation ∷ linear_false ∷ []) ∷
    rule (codes "concat") concat ∷ []

-- REGROUPING, UNITS, AND THE ORDER OF ROOTS
abbrev pub structure : List Entry
structure =
    both (codes "star_assoc") (λ l. (l.P ∗ l.Q) ∗ l.R ⊣⊢ l.P ∗ (l.Q ∗ l.R) at shape forest) ++
    both (codes "star_left_assoc") (λ l. (l.K ·∗ l.P) ·∗ l.Q
    ⊣⊢ l.K ·∗ (l.P ∗ l.Q) at context l.h forest) ++
    both (codes "star_right_assoc") (λ l. l.P ∗· (l.Q ∗· l.K)
    ⊣⊢ (l.P ∗ l.Q) ∗· l.K at context l.h forest) ++
    both (codes "star_mid_assoc") (λ l. (l.P ∗· l.K) ·∗ l.Q
    ⊣⊢ l.P ∗· (l.K ·∗ l.Q) at context l.h forest) ++
    both (codes "star_unit") (λ l. l.P ∗ empty forest ⊣⊢ l.P at shape forest) ++
    both (codes "unit_star") (λ l. empty forest ∗ l.P ⊣⊢ l.P at shape forest) ++
    both (codes "star_left_unit") (λ l. l.K ·∗ empty forest ⊣⊢ l.K at context l.h forest) ++
    both (codes "star_right_unit") (λ l. empty forest ∗· l.K ⊣⊢ l.K at context l.h forest) ++
    both (codes "plus_assoc") (λ l. (l.P ⊹ l.Q) ⊹ l.R ⊣⊢ l.P ⊹ (l.Q ⊹ l.R) at shape grove) ++
    says (codes "plus_comm") (λ l. l.P ⊹ l.Q ⊢ l.Q ⊹ l.P at shape grove) ∷
    both (codes "plus_unit") (λ l. l.P ⊹ empty grove ⊣⊢ l.P at shape grove) ++
    both (codes "plus_left_assoc") (λ l. (l.K ·⊹ l.P) ·⊹ l.Q
    ⊣⊢ l.K ·⊹ (l.P ⊹ l.Q) at context l.h grove) ++
    both (codes "plus_left_unit") (λ l. l.K ·⊹ empty grove ⊣⊢ l.K at context l.h grove)

-- WHAT IS ENTAILED MAY STAND IN ITS PLACE, and pure formulas move freely. What Z is there: each of
-- these, with the part in the place of z
abbrev pub parts : List (Letters → Formula → Formula)
parts =
    (λ l z. z ∗ l.B) ∷ (λ l z. l.B ∗ z) ∷ (λ l z. z ·∗ l.B) ∷ (λ l z. l.B ·∗ z) ∷
    (λ l z. z ∗· l.B) ∷ (λ l z. l.B ∗· z) ∷ (λ l z. z ⊹ l.B) ∷ (λ l z. l.B ⊹ z) ∷
    (λ l z. z ·⊹ l.B) ∷ (λ l z. l.B ·⊹ z) ∷ (λ l z. one_node l z) ∷
    (λ l z. one_tree z) ∷ (λ l z. one_root z) ∷ (λ l z. application l.h z l.B) ∷
    (λ l z. application l.h l.B z) ∷ []

abbrev pub monotony : List Entry
monotony =
    rule (codes "mono_star") (λ l. (l.P ⊢ l.A at shape forest) ∷ (l.Q ⊢ l.B at shape forest) ∷ []
    ⟹ l.P ∗ l.Q ⊢ l.A ∗ l.B at shape forest) ∷
    rule (codes "mono_star_left") (λ l. (l.P ⊢ l.A at context l.h forest) ∷
    (l.Q ⊢ l.B at shape forest) ∷ [] ⟹ l.P ·∗ l.Q ⊢ l.A ·∗ l.B at context l.h forest) ∷
    rule (codes "mono_star_right") (λ l. (l.P ⊢ l.A at shape forest) ∷
    (l.Q ⊢ l.B at context l.h forest) ∷ [] ⟹ l.P ∗· l.Q ⊢ l.A ∗· l.B at context l.h forest) ∷
    rule (codes "mono_plus") (λ l. (l.P ⊢ l.A at shape grove) ∷ (l.Q ⊢ l.B at shape grove) ∷ []
    ⟹ l.P ⊹ l.Q ⊢ l.A ⊹ l.B at shape grove) ∷
    rule (codes "mono_plus_left") (λ l. (l.P ⊢ l.A at context l.h grove) ∷
    (l.Q ⊢ l.B at shape grove) ∷ [] ⟹ l.P ·⊹ l.Q ⊢ l.A ·⊹ l.B at context l.h grove) ∷
    rule (codes "mono_node") (λ l. (l.P ⊢ l.Q at sort_at l.o forest) ∷ []
    ⟹ one_node l l.P ⊢ one_node l l.Q at sort_at l.o tree) ∷
    rule (codes "mono_tree") (λ l. (l.P ⊢ l.Q at sort_at l.o tree) ∷ []
    ⟹ one_tree l.P ⊢ one_tree l.Q at sort_at l.o forest) ∷
    rule (codes "mono_root") (λ l. (l.P ⊢ l.Q at sort_at l.o tree) ∷ []
    ⟹ one_root l.P ⊢ one_root l.Q at sort_at l.o grove) ∷
    rule (codes "mono_app") (λ l. (l.K ⊢ l.H at context l.h l.k) ∷
    (l.P ⊢ l.Q at sort_at l.o l.h) ∷ []
    ⟹ application l.h l.K l.P ⊢ application l.h l.H l.Q at sort_at l.o l.k) ∷
    rule (codes "mono_hole_adj") (λ l. (l.A ⊢ l.P at shape l.h) ∷ (l.Q ⊢ l.B at shape l.k) ∷ []
    ⟹ l.P ⊸ l.Q ⊢ l.A ⊸ l.B at context l.h l.k) ∷
    rule (codes "mono_ctx_adj") (λ l. (l.H ⊢ l.K at context l.h l.k) ∷ (l.Q ⊢ l.B at shape l.k) ∷ []
    ⟹ context_adjoint l.k l.K l.Q ⊢ context_adjoint l.k l.H l.B at shape l.h) ∷
    (codes "pure_out" is map (λ Z l. always (Z l (l.P and l.Q) ⊢ Z l l.P and l.Q at l.s)
    provided pure l.Q) parts) ∷
    (codes "pure_in" is map (λ Z l. always (Z l l.P and l.Q ⊢ Z l (l.P and l.Q) at l.s)
    provided pure l.Q) parts) ∷ []

-- HOLES, WHAT IS PUT INTO CONTEXTS, AND THE ADJOINTS. Where P may be at a context sort, a rule has
-- the sort s, or a row for each of its readings.
abbrev pub contexts : List Entry
contexts =
    both (codes "hole_left") (λ l. application l.h (bare_hole l.h) l.P ⊣⊢ l.P at sort_at l.o l.h) ++
    both (codes "hole_right") (λ l. application l.h l.K (bare_hole l.h)
    ⊣⊢ l.K at context l.h l.k) ++
    both (codes "app_assoc") (λ l. application l.j (application l.h l.K l.H) l.P
    ⊣⊢ application l.h l.K (application l.j l.H l.P) at l.s) ++
    both (codes "app_node") (λ l. application l.h (one_node l l.K) l.P
    ⊣⊢ one_node l (application l.h l.K l.P) at l.s) ++
    both (codes "app_tree") (λ l. application l.h (one_tree l.K) l.P
    ⊣⊢ one_tree (application l.h l.K l.P) at l.s) ++
    both (codes "app_root") (λ l. application l.h (one_root l.K) l.P
    ⊣⊢ one_root (application l.h l.K l.P) at l.s) ++
    both_ways (codes "app_star_left") ((λ l. application l.h (l.K ·∗ l.Q) l.P
    ⊣⊢ application l.h l.K l.P ∗ l.Q at shape forest) ∷
    (λ l. application l.h (l.K ·∗ l.Q) l.P
    ⊣⊢ application l.h l.K l.P ·∗ l.Q at context l.j forest) ∷ []) ++
    both_ways (codes "app_star_right") ((λ l. application l.h (l.Q ∗· l.K) l.P
    ⊣⊢ l.Q ∗ application l.h l.K l.P at shape forest) ∷
    (λ l. application l.h (l.Q ∗· l.K) l.P
    ⊣⊢ l.Q ∗· application l.h l.K l.P at context l.j forest) ∷ []) ++
    both_ways (codes "app_plus") ((λ l. application l.h (l.K ·⊹ l.Q) l.P
    ⊣⊢ application l.h l.K l.P ⊹ l.Q at shape grove) ∷
    (λ l. application l.h (l.K ·⊹ l.Q) l.P
    ⊣⊢ application l.h l.K l.P ·⊹ l.Q at context l.j grove) ∷ []) ++
    rule (codes "hole_adj_in") (λ l. (application l.h l.K l.P ⊢ l.Q at shape l.k) ∷ []
    ⟹ l.K ⊢ l.P ⊸ l.Q at context l.h l.k) ∷
    says (codes "hole_adj_out") (λ l. application l.h (l.P ⊸ l.Q) l.P ⊢ l.Q at shape l.k) ∷
    rule (codes "ctx_adj_in") (λ l. (application l.h l.K l.P ⊢ l.Q at shape l.k) ∷ []
    ⟹ l.P ⊢ context_adjoint l.k l.K l.Q at shape l.h) ∷
    says (codes "ctx_adj_out") (λ l. application l.h l.K (context_adjoint l.k l.K l.Q)
    ⊢ l.Q at shape l.k) ∷
    rule (codes "app_exists_part") (λ l. always (application l.h l.K (for_some l.x l.P)
    ⊢ for_some l.x (application l.h l.K l.P) at l.s) provided not_free l.x l.K) ∷
    rule (codes "app_exists_ctx") (λ l. always (application l.h (for_some l.x l.K) l.P
    ⊢ for_some l.x (application l.h l.K l.P) at l.s) provided not_free l.x l.P) ∷
    says (codes "app_or_part") (λ l. application l.h l.K (l.P or l.Q)
    ⊢ application l.h l.K l.P or application l.h l.K l.Q at l.s) ∷
    says (codes "app_or_ctx") (λ l. application l.h (l.K or l.H) l.P
    ⊢ application l.h l.K l.P or application l.h l.H l.P at l.s) ∷ []

-- A LOGIC VARIABLE'S VALUE, WHAT CANCELS BESIDE IT, AND `is`. The variable as a formula; ($x is p)
abbrev $x : Letters → Formula
$x l = same_as (as_term l.x)

abbrev x_is : Letters → Formula → Formula
x_is l p = value_meets l.x.sort (as_term l.x) p

abbrev pub variables : List Entry
variables =
    rule (codes "some") (λ l. always (l.P ⊢ for_some l.x ($x l and l.P) at l.x.sort)
    provided not_free l.x l.P) ∷
    says (codes "cancel_app") (λ l. application l.h ($x l) l.P and application l.h ($x l) l.Q
    ⊢ application l.h ($x l) (l.P and l.Q) at shape l.k) ∷
    says (codes "cancel_left") (λ l. ($x l ∗ l.P) and ($x l ∗ l.Q)
    ⊢ $x l ∗ (l.P and l.Q) at shape forest) ∷
    says (codes "cancel_right") (λ l. (l.P ∗ $x l) and (l.Q ∗ $x l)
    ⊢ (l.P and l.Q) ∗ $x l at shape forest) ∷
    says (codes "cancel_plus") (λ l. ($x l ⊹ l.P) and ($x l ⊹ l.Q)
    ⊢ $x l ⊹ (l.P and l.Q) at shape grove) ∷
    says (codes "is_in") (λ l. $x l and l.P ⊢ x_is l l.P at l.x.sort) ∷
    says (codes "is_out") (λ l. $x l and x_is l l.P ⊢ l.P at l.x.sort) ∷
    rule (codes "is_mono") (λ l. (l.P ⊢ l.Q at l.x.sort) ∷ []
    ⟹ x_is l l.P ⊢ x_is l l.Q at l.s given of_sort l.x.sort (as_term l.x)) ∷ []

-- NODES AND THEIR NUMBERS, ROOTS, AND WHAT IS FIRST OR LAST. The two nodes have other numbers
abbrev apart : Letters → Formula
apart l = negation (l.I equals l.J) and negation (l.L equals l.M)

abbrev pub nodes : List Entry
nodes =
    says (codes "node_and") (λ l. one_node l l.P and other_node l
    ⊢ one_node l (l.P and l.Q)
    and (((l.S equals l.T) and (l.I equals l.J)) and (l.L equals l.M)) at l.s) ∷
    says (codes "tree_and") (λ l. one_tree l.P and one_tree l.Q ⊢ one_tree (l.P and l.Q) at l.s) ∷
    says (codes "root_and") (λ l. one_root l.P and one_root l.Q ⊢ one_root (l.P and l.Q) at l.s) ∷
    says (codes "node_some") (λ l. truth ⊢ some_node at shape tree) ∷
    says (codes "not_null") (λ l. one_node l l.P
    ⊢ negation (l.I equals literal null) and negation (l.L equals literal nolist) at l.s) ∷
    says (codes "apart_star") (λ l. application tree l.K (one_node l l.P)
    ∗ application tree l.H (other_node l) ⊢ apart l at shape forest) ∷
    says (codes "apart_plus") (λ l. application tree l.K (one_node l l.P)
    ⊹ application tree l.H (other_node l) ⊢ apart l at shape grove) ∷
    says (codes "apart_up") (λ l. one_node l (application tree l.K (other_node l))
    ⊢ apart l at shape tree) ∷
    says (codes "forest_cases") (λ l. truth ⊢ empty forest or first_and_rest at shape forest) ∷
    says (codes "grove_cases") (λ l. truth ⊢ empty grove or root_and_rest at shape grove) ∷
    says (codes "empty_star") (λ l. (l.P ∗ l.Q) and empty forest
    ⊢ (l.P and empty forest) ∗ (l.Q and empty forest) at shape forest) ∷
    says (codes "empty_plus") (λ l. (l.P ⊹ l.Q) and empty grove
    ⊢ (l.P and empty grove) ⊹ (l.Q and empty grove) at shape grove) ∷
    says (codes "tree_full") (λ l. one_tree l.P and empty forest ⊢ falsity at shape forest) ∷
    says (codes "root_full") (λ l. one_root l.P and empty grove ⊢ falsity at shape grove) ∷
    says (codes "head") (λ l. (one_tree l.P ∗ l.Q) and (one_tree l.A ∗ l.B)
    ⊢ one_tree (l.P and l.A) ∗ (l.Q and l.B) at shape forest) ∷
    says (codes "last") (λ l. (l.Q ∗ one_tree l.P) and (l.B ∗ one_tree l.A)
    ⊢ (l.Q and l.B) ∗ one_tree (l.P and l.A) at shape forest) ∷ []

-- THE LENGTH OF A FOREST
abbrev pub lengths : List Entry
lengths =
    says (codes "len_empty") (λ l. empty forest ⊢ length_is (number 0) at shape forest) ∷
    says (codes "len_zero") (λ l. length_is (number 0) ⊢ empty forest at shape forest) ∷
    says (codes "len_tree") (λ l. one_tree l.P ⊢ length_is (number 1) at shape forest) ∷
    says (codes "len_star") (λ l. (l.P and length_is l.E) ∗ (l.Q and length_is l.F)
    ⊢ (l.P ∗ l.Q) and length_is (sum l.E l.F) at shape forest) ∷
    says (codes "len_some") (λ l. truth ⊢ some_length at shape forest) ∷
    says (codes "len_unique") (λ l. length_is l.E and length_is l.F
    ⊢ l.E equals l.F at shape forest) ∷
    says (codes "len_nonneg") (λ l. length_is l.E ⊢ at_most (number 0) l.E at shape forest) ∷ []

-- ALL OF THEM, group by group
abbrev pub groups : List (List Entry)
groups =
    connectives ∷ equations ∷ structure ∷ monotony ∷ contexts ∷ variables ∷ nodes ∷ lengths ∷ []
