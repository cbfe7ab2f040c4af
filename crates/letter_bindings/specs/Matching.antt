-- Needn't be believed: a pattern of a row against what is written, in one walk from the left to the
-- right: at its first place a letter is learnt, and at each other one it is compared.
use Rattle.std.specs.Prelude.{List, [], ◌∷◌, Option, Some, None, Bool, true, false, ◌&&◌, cond}
use Rattle.model_shapes.specs.Sorts.{Sort, shape, context, DataSort}
use Rattle.model_shapes.specs.Tests.{same_sort, same_data_sort, same_value}
use Rattle.model_terms.specs.Variables.{logic, bound}
use Rattle.std.specs.Prelude.{zero}
use Rattle.model_terms.specs.VariableTests.{same_var}
use Rattle.model_terms.specs.Terms.{Term, literal, variable, sum, difference, appended}
use Rattle.model_formulas.specs.Formulas.{Formula, truth, falsity, conjunction, disjunction, implication, negation, existential, universal, equality, at_most, empty, bare_hole, node_formula, one_tree, one_root, concatenation, grove_sum, grove_sum_hole, application, hole_adjoint, context_adjoint, same_as, length_is, value_meets}
use Rattle.model_formulas.specs.SameFormulas.{same_term, same_formula, same_side}
use Rattle.model_commands.specs.Theories.{Judgement, entails}
use Rattle.rule_table.specs.Letters.{LogicVar, as_logic}
use Rattle.rule_patterns.specs.Constant.{constant_formula}
use Rattle.rule_patterns.specs.Letter.{P', E'}
use Rattle.rule_patterns.specs.Patterns.{DataPattern, some_data, this_data, SortPattern, some_sort, sort_of_x, data_sort, context_sort, either_sort, TermPattern, some_term, x_term, literal_p, sum_p, difference_p, appended_p, FormulaPattern, some_formula, replaced, truth_p, falsity_p, closed_p, conjunction_p, disjunction_p, implication_p, negation_p, exists_p, forall_p, equality_p, at_most_p, empty_p, bare_hole_p, node_p, tree_p, root_p, concatenation_p, sum_of_groves_p, sum_hole_p, application_p, hole_adjoint_p, context_adjoint_p, same_as_p, length_p, meets_p, JudgementPattern, entails_p}
use Rattle.letter_bindings.specs.Known.{place_in, term_in, data_in, Known, with_formula, with_below, with_term, with_data}

-- first the one, and then the other
abbrev pub then : Option Known → (Known → Option Known) → Option Known
then None g = None
then (Some k) g = g k

-- nothing new is learnt
abbrev pub if_so : Bool → Known → Option Known
if_so b k = cond b (Some k) None

-- what is known of a letter is compared, and else it is learnt
abbrev pub meet : {A : Type 0} → (A → A → Bool) → Option A → A → Known → Known → Option Known
meet same None v learnt k = Some learnt
meet same (Some w) v learnt k = if_so (same v w) k

-- SORTS
abbrev pub match_data : DataPattern → DataSort → Known → Option Known
match_data (some_data a) h k = meet same_data_sort (data_in k.datas a) h (with_data a h k) k
match_data (this_data j) h k = if_so (same_data_sort j h) k

abbrev pub match_x_sort : Sort → Known → Option Known
match_x_sort s k = meet same_sort k.x_sort s (record k { x_sort = Some s }) k

abbrev pub same_hole : Option DataSort → Option DataSort → Bool
same_hole None None = true
same_hole (Some h) (Some k) = same_data_sort h k
same_hole a b = false

abbrev pub match_hole : Option DataSort → Known → Option Known
match_hole o k = meet same_hole k.hole o (record k { hole = Some o }) k

abbrev pub match_sort : SortPattern → Sort → Known → Option Known
match_sort some_sort s k = meet same_sort k.sort s (record k { sort = Some s }) k
match_sort sort_of_x s k = match_x_sort s k
match_sort (data_sort p) (shape h) k = match_data p h k
match_sort (context_sort p q) (context h j) k = then (match_data p h k) (match_data q j)
match_sort (either_sort p) (shape h) k = then (match_hole None k) (match_data p h)
match_sort (either_sort p) (context g h) k = then (match_hole (Some g) k) (match_data p h)
match_sort p s k = None

-- TERMS
-- the logic variable is $x
abbrev pub same_logic : LogicVar → LogicVar → Bool
same_logic x y = same_var (as_logic x) (as_logic y)

abbrev pub match_variable : LogicVar → Known → Option Known
match_variable v k =
    then (match_x_sort v.sort k) (λ n. meet same_logic n.x v (record n { x = Some v }) n)

abbrev pub match_term : TermPattern → Term → Known → Option Known
match_term (some_term a) t k = meet same_term (term_in k.terms a) t (with_term a t k) k
match_term x_term (variable (logic n s)) k = match_variable (record { name = n; sort = s }) k
match_term (literal_p v) (literal w) k = if_so (same_value v w) k
match_term (sum_p p q) (sum a b) k = then (match_term p a k) (match_term q b)
match_term (difference_p p q) (difference a b) k = then (match_term p a k) (match_term q b)
match_term (appended_p p q) (appended a b) k = then (match_term p a k) (match_term q b)
match_term p t k = None

-- FORMULAS
-- what stands below a binder of $x
abbrev pub match_below : FormulaPattern → Formula → Known → Option Known
match_below (some_formula a) p k =
    meet same_formula (place_in k.belows a) p (with_below a p k) k
match_below (conjunction_p p q) (conjunction r s) k = then (match_below p r k) (match_below q s)
match_below (application_p h p q) (application j r s) k =
    then (match_data h j k) (λ n. then (match_below p r n) (match_below q s))
match_below (same_as_p x_term) (same_as (variable (bound zero s))) k = match_x_sort s k
match_below p f k = None

-- the forms that stand below a binder in the rows
abbrev pub may_stand_below : FormulaPattern → Bool
may_stand_below (some_formula a) = true
may_stand_below (conjunction_p p q) = may_stand_below p && may_stand_below q
may_stand_below (application_p h p q) = may_stand_below p && may_stand_below q
may_stand_below (same_as_p x_term) = true
may_stand_below p = false

abbrev pub match_formula : FormulaPattern → Formula → Known → Option Known
match_formula (some_formula a) p k =
    meet same_formula (place_in k.formulas a) p (with_formula a p k) k
match_formula (replaced E' P') p k = meet same_formula k.put p (record k { put = Some p }) k
match_formula (closed_p c) p k = if_so (same_formula (constant_formula c) p) k
match_formula truth_p truth k = Some k
match_formula falsity_p falsity k = Some k
match_formula (conjunction_p p q) (conjunction r s) k =
    then (match_formula p r k) (match_formula q s)
match_formula (disjunction_p p q) (disjunction r s) k =
    then (match_formula p r k) (match_formula q s)
match_formula (implication_p p q) (implication r s) k =
    then (match_formula p r k) (match_formula q s)
match_formula (negation_p p) (negation r) k = match_formula p r k
match_formula (exists_p p) (existential s r) k = then (match_x_sort s k) (match_below p r)
match_formula (forall_p p) (universal s r) k = then (match_x_sort s k) (match_below p r)
match_formula (equality_p p q) (equality a b) k = then (match_term p a k) (match_term q b)
match_formula (at_most_p p q) (at_most a b) k = then (match_term p a k) (match_term q b)
match_formula (empty_p h) (empty j) k = match_data h j k
match_formula (bare_hole_p h) (bare_hole j) k = match_data h j k
match_formula (node_p p q r s) (node_formula a b f c) k =
    then (match_term p a k) (λ n. then (match_term q b n)
    (λ m. then (match_formula r f m) (match_term s c)))
match_formula (tree_p p) (one_tree r) k = match_formula p r k
match_formula (root_p p) (one_root r) k = match_formula p r k
match_formula (concatenation_p d p q) (concatenation e r s) k =
    then (if_so (same_side d e) k) (λ n. then (match_formula p r n) (match_formula q s))
match_formula (sum_of_groves_p p q) (grove_sum r s) k =
    then (match_formula p r k) (match_formula q s)
match_formula (sum_hole_p p q) (grove_sum_hole r s) k =
    then (match_formula p r k) (match_formula q s)
match_formula (application_p h p q) (application j r s) k =
    then (match_data h j k) (λ n. then (match_formula p r n) (match_formula q s))
match_formula (hole_adjoint_p p q) (hole_adjoint r s) k =
    then (match_formula p r k) (match_formula q s)
match_formula (context_adjoint_p h p q) (context_adjoint j r s) k =
    then (match_data h j k) (λ n. then (match_formula p r n) (match_formula q s))
match_formula (same_as_p p) (same_as a) k = match_term p a k
match_formula (length_p p) (length_is a) k = match_term p a k
match_formula (meets_p o p q) (value_meets s a r) k =
    then (match_sort o s k) (λ n. then (match_term p a n) (match_formula q r))
match_formula p r k = None

-- each binder of the pattern has such a form below it, and what is put is E, into P
abbrev pub binds_simply : FormulaPattern → Bool
binds_simply (conjunction_p p q) = binds_simply p && binds_simply q
binds_simply (disjunction_p p q) = binds_simply p && binds_simply q
binds_simply (implication_p p q) = binds_simply p && binds_simply q
binds_simply (negation_p p) = binds_simply p
binds_simply (replaced E' P') = true
binds_simply (replaced e a) = false
binds_simply (exists_p p) = may_stand_below p
binds_simply (forall_p p) = may_stand_below p
binds_simply (node_p a b p c) = binds_simply p
binds_simply (tree_p p) = binds_simply p
binds_simply (root_p p) = binds_simply p
binds_simply (concatenation_p d p q) = binds_simply p && binds_simply q
binds_simply (sum_of_groves_p p q) = binds_simply p && binds_simply q
binds_simply (sum_hole_p p q) = binds_simply p && binds_simply q
binds_simply (application_p h p q) = binds_simply p && binds_simply q
binds_simply (hole_adjoint_p p q) = binds_simply p && binds_simply q
binds_simply (context_adjoint_p h p q) = binds_simply p && binds_simply q
binds_simply (meets_p s a p) = binds_simply p
binds_simply p = true

-- JUDGEMENTS
abbrev pub match_judgement : JudgementPattern → Judgement → Known → Option Known
match_judgement (entails_p p q o) (entails r s u) k =
    then (match_formula p r k) (λ n. then (match_formula q s n) (match_sort o u))
match_judgement p j k = None

abbrev pub match_judgements : List JudgementPattern → List Judgement → Known → Option Known
match_judgements [] [] k = Some k
match_judgements (p ∷ ps) (j ∷ js) k = then (match_judgement p j k) (match_judgements ps js)
match_judgements ps js k = None

abbrev pub match_terms : List TermPattern → List Term → Known → Option Known
match_terms [] [] k = Some k
match_terms (p ∷ ps) (t ∷ ts) k = then (match_term p t k) (match_terms ps ts)
match_terms ps ts k = None

abbrev pub judgement_binds_simply : JudgementPattern → Bool
judgement_binds_simply (entails_p p q o) = binds_simply p && binds_simply q

abbrev pub each_binds_simply : List JudgementPattern → Bool
each_binds_simply [] = true
each_binds_simply (p ∷ ps) = judgement_binds_simply p && each_binds_simply ps
