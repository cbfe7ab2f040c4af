-- Worked verdicts on triples.
use Rattle.std.proofs.Common.{◌≡◌, ℕ, List, [], ◌∷◌, Option, Some, refl, ap, sym, ◌∙◌, subst, inl, inr, ⊎_elim, codes, pos}
use Rattle.model_shapes.specs.Sorts.{value, shape, DataSort, tree, forest, grove, node_sort, list_sort, int_sort, str_sort}
use Rattle.model_shapes.specs.Values.{null, nolist, int, str}
use Rattle.model_shapes.proofs.Truth.{false≢true}
use Rattle.model_terms.specs.VariableTests.{same_var}
use Rattle.model_terms.specs.Terms.{Term, literal, InTerm}
use Rattle.model_terms.specs.VariableTests.{var_eq}
use Rattle.model_formulas.specs.Substitution.{FreeIn, formula_with}
use Rattle.model_formulas.specs.Deciding.{closing_at}
use Rattle.model_formulas.specs.Formulas.{Formula, whole, truth, falsity, conjunction, negation, equality, at_most, existential, hole_adjoint, same_as, application, empty, bare_hole, node_formula, one_tree, one_root, concatenation, grove_sum}
use Rattle.model_terms.specs.Stores.{ProgVar, named, as_var}
use Rattle.model_commands.specs.Commands.{Command, Modifies, skip, assign, call, node_name, parent_node, append_child, remove_child}
use Rattle.model_commands.specs.Theories.{Judgement, entails, triple, Procedure, procedure_named}
use Rattle.rule_table.specs.Letters.{Letters, LogicVar, as_logic, as_term, one_node, other_node}
use Rattle.rule_table.specs.Notation.{hoare, for_some, prog_term}
use Rattle.rule_table.specs.Rules.{passing, itself}
use Rattle.rule_table.specs.Table.{triples}
use Rattle.rule_table.specs.Verdicts.{IsVerdict, Verdict, instance_verdict, shape_verdict, premises_verdict, side_verdict, readings_in}
use Rattle.rule_table.specs.Conditions.{modified_side, assigned_side}
use Rattle.rule_table.proofs.SomeLetters.{plain_letters, left_in, right_in}

-- the verdict on a step of this rule, with these arguments, these premises and this conclusion
abbrev Verdict_is : List ℕ → List Term → List Judgement → Judgement → Verdict → Type 0
Verdict_is rule arguments premises conclusion verdict =
    IsVerdict (readings_in (triples []) rule) (record {
      arguments = arguments;
      premises = Some premises;
      conclusion = conclusion;
    }) verdict

-- the command of a triple
abbrev pub command_of : Judgement → Command
command_of (entails p q s) = skip
command_of (triple p c q d) = c

-- the first premise
abbrev first_of : Option (List Judgement) → Judgement
first_of (Some (j ∷ js)) = j
first_of js = entails truth truth (shape grove)

-- consequence with its two entailments the other way round
abbrev never : Formula
never = conjunction truth (negation truth)

pub turned_premises : Verdict_is (codes "consequence") []
    (entails never falsity (shape grove) ∷ hoare truth skip never grove ∷ entails truth truth
    (shape grove) ∷ [])
    (hoare truth skip falsity grove) premises_verdict
turned_premises = (
  inl (record plain_letters { Q = falsity }, (refl, tt, refl)),
  λ m. ⊎_elim
      (λ x. wrong x.0 (ap left_in x.1.0.2) (ap (λ js. left_in (first_of js)) x.1.1)) (λ z. z) m,
)
  where
    wrong : (l : Letters) → l.P ≡ truth → l.P ≡ never → ⊥
    wrong l p q = cc

-- eliminate with two binder names: no one variable makes both premises
abbrev node_variable : List ℕ → LogicVar
node_variable n = record { name = n; sort = value node_sort }

abbrev first_variable : LogicVar
first_variable = node_variable (codes "x")

abbrev second_variable : LogicVar
second_variable = node_variable (codes "y")

abbrev is_null : LogicVar → Formula
is_null x = equality (as_term x) (literal null)

abbrev some_is_null : Formula
some_is_null = for_some first_variable (is_null first_variable)

pub two_binder_names : Verdict_is (codes "eliminate") []
    (hoare (is_null first_variable) skip (is_null second_variable) grove ∷ [])
    (hoare (for_some first_variable (is_null first_variable)) skip
    (for_some second_variable (is_null second_variable)) grove) premises_verdict
two_binder_names = (
  inl (
    record plain_letters {
      P = is_null first_variable;
      Q = is_null first_variable;
      x =
          first_variable;
    },
    (refl, tt, refl),
  ),
  λ m. ⊎_elim (λ y. wrong y.0 (ap left_in y.1.0.2) (ap right_in y.1.0.2)
      (ap (λ js. left_in (first_of js)) y.1.1) (ap (λ js. right_in (first_of js)) y.1.1))
      (λ z. z) m,
)
  where
    apart : as_logic first_variable ≡ as_logic second_variable → ⊥
    apart e = false≢true (sym (ap (same_var (as_logic first_variable)) e))

    -- a variable that a binder makes into the bound one is the binder's
    binds : (x z : LogicVar) → for_some x (is_null z) ≡ some_is_null → as_logic z ≡ as_logic x
    binds x z e = by_cases (var_eq (as_logic z) (as_logic x)) e
      where
        by_cases : (d : Dec (as_logic z ≡ as_logic x)) → existential x.sort
            (equality (closing_at {x = as_logic x} d) (literal null)) ≡ some_is_null → as_logic z
            ≡ as_logic x
        by_cases (yes same) e = same
        by_cases (no other) e = absurd cc

    wrong : (l : Letters) → for_some l.x l.P ≡ some_is_null → for_some l.x l.Q ≡ some_is_null → l.P
        ≡ is_null first_variable → l.Q ≡ is_null second_variable → ⊥
    wrong l p q a b =
        let x : as_logic first_variable ≡ as_logic l.x = binds l.x first_variable
        (subst (λ z. for_some l.x z ≡ some_is_null) a p) in
        let y : as_logic second_variable ≡ as_logic l.x = binds l.x second_variable
        (subst (λ z. for_some l.x z ≡ some_is_null) b q) in
        apart (x ∙ sym y)

-- eliminate where the binder of the requires is another letter than that of the ensures: the cited
-- triple would have to have both
abbrev $x : LogicVar
$x = record { name = codes "x"; sort = value int_sort }

abbrev $y : LogicVar
$y = record { name = codes "y"; sort = value int_sort }

abbrev equals_itself : LogicVar → Formula
equals_itself z = equality (as_term z) (as_term z)

abbrev bound_itself : Formula
bound_itself = for_some $y (equals_itself $y)

-- `$y = $y` below a binder of the variable, by whether that is $y
abbrev closed : (x : LogicVar) → Dec (as_logic $y ≡ as_logic x) → Formula
closed x d = existential x.sort
    (equality (closing_at {x = as_logic x} d) (closing_at {x = as_logic x} d))

pub one_letter_for_both : Verdict_is (codes "eliminate") []
    (hoare (equals_itself $y) skip (equals_itself $y) grove ∷ [])
    (hoare (for_some $x (equals_itself $y)) skip bound_itself grove) premises_verdict
one_letter_for_both = (
  inl (
    record plain_letters { P = equals_itself $y; Q = equals_itself $x; x = $x },
    (refl, tt, refl),
  ),
  λ m. ⊎_elim (λ y. wrong y.0 (ap left_in y.1.0.2) (ap right_in y.1.0.2)
      (ap (λ js. left_in (first_of js)) y.1.1) (ap (λ js. right_in (first_of js)) y.1.1))
      (λ z. z) m,
)
  where
    wrong : (l : Letters) → for_some l.x l.P ≡ for_some $x (equals_itself $y)
        → for_some l.x l.Q ≡ bound_itself → l.P ≡ equals_itself $y → l.Q ≡ equals_itself $y → ⊥
    wrong l p q a b = by_name (var_eq (as_logic $y) (as_logic l.x))
        (subst (λ z. for_some l.x z ≡ for_some $x (equals_itself $y)) a p)
        (subst (λ z. for_some l.x z ≡ bound_itself) b q)
      where
        by_name : (d : Dec (as_logic $y ≡ as_logic l.x))
            → closed l.x d ≡ for_some $x (equals_itself $y) → closed l.x d ≡ bound_itself → ⊥
        by_name (yes same) p q = cc
        by_name (no other) p q = cc

-- 1, 2
abbrev one : Term
one = literal (int (pos 1))

-- call: the requires of f(a, b), a <= b, with the arguments 1 and 2, and with them turned
abbrev a_first : ProgVar
a_first = named (codes "a") int_sort

abbrev a_second : ProgVar
a_second = named (codes "b") int_sort

abbrev two_in_order : Procedure
two_in_order = record {
  name = codes "f";
  params = a_first ∷ a_second ∷ [];
  results = [];
  sort = grove;
  pre = at_most (prog_term a_first) (prog_term a_second);
  post = truth;
  body = skip;
  proof = [];
}

abbrev two : Term
two = literal (int (pos 2))

abbrev Called : Formula → Verdict → Type 0
Called pre verdict = IsVerdict (readings_in (triples (two_in_order ∷ [])) (codes "call"))
    (record {
      arguments = [];
      premises = Some [];
      conclusion = hoare pre (call [] (codes "f") (one ∷ two ∷ [])) truth grove;
    }) verdict

pub called_in_order : Called (at_most one two) instance_verdict
called_in_order = inl (
  record plain_letters { f = two_in_order; es = one ∷ two ∷ [] },
  (((refl, (refl, tt), refl), refl), tt),
)

pub called_turned : Called (at_most two one) shape_verdict
called_turned m = ⊎_elim
    (λ y. wrong y.0.f y.0.rs y.0.es y.1.1.0 (ap command_of y.1.2) (ap left_in y.1.2)) (λ z. z) m
  where
    one_turned : ◌≡◌ {A = Formula} (at_most one two) (at_most two one) → ⊥
    one_turned e = cc

    wrong : (f : Procedure) (rs : List ProgVar) (es : List Term)
        → procedure_named f.name (two_in_order ∷ []) ≡ Some f
        → call rs f.name es ≡ call [] (codes "f") (one ∷ two ∷ [])
        → formula_with (passing f.params es itself) f.pre ≡ at_most two one → ⊥
    wrong f rs es means c p =
        let name_is : f.name ≡ codes "f" = cc in
        let terms_are : es ≡ one ∷ two ∷ [] = cc in
        let found : Some two_in_order ≡ Some f =
        subst (λ n. procedure_named n (two_in_order ∷ []) ≡ Some f) name_is means in
        let it_is : two_in_order ≡ f = cc in
        one_turned (subst (λ z. formula_with (passing two_in_order.params z itself) two_in_order.pre
        ≡ at_most two one) terms_are
        (subst (λ g. formula_with (passing g.params es itself) g.pre ≡ at_most two one)
        (sym it_is) p))

-- frame over a variable that the command changes
abbrev x_int : ProgVar
x_int = named (codes "x") int_sort

abbrev framed : Formula
framed = conjunction (bare_hole grove) (equality (prog_term x_int) (literal (int (pos 0))))

pub modified_frame : Verdict_is (codes "frame") []
    (hoare (empty grove) (assign x_int one) (empty grove) grove ∷ [])
    (hoare (application grove framed (empty grove)) (assign x_int one)
    (application grove framed (empty grove)) grove)
    (side_verdict modified_side)
modified_frame = (
  0,
  inl (
    record plain_letters {
      P = empty grove;
      Q = empty grove;
      K = framed;
      C = assign x_int one;
      h
          = grove;
      k = grove;
    },
    ((((refl, tt, refl), refl), tt), refl),
  ),
  λ m. ⊎_elim (λ y. wrong y.0 (ap left_in y.1.0.0.2) (ap command_of y.1.0.0.2) y.1.1.0) (λ z. z) m,
)
  where
    wrong : (l : Letters) → application l.h l.K l.P ≡ application grove framed (empty grove) → l.C
        ≡ assign x_int one
        → ((v : ProgVar) → Modifies l.C v → FreeIn (as_var v) l.K → ⊥) → ⊥
    wrong l p c n =
        let context_is : l.K ≡ framed = cc in
        n x_int (subst (λ c. Modifies c x_int) (sym c) refl)
        (subst (FreeIn (as_var x_int)) (sym context_is) (inr (inl refl)))

-- parent_none where the variable that is set is in the formula of the node
abbrev x_node : ProgVar
x_node = named (codes "x") node_sort

abbrev root_at_x : Formula
root_at_x = one_root (node_formula (literal (str [])) (prog_term x_node) truth (literal nolist))

pub assigned_parent_none : Verdict_is (codes "parent_none") [] []
    (hoare (conjunction root_at_x (equality (prog_term x_node) (prog_term x_node)))
    (parent_node x_node (prog_term x_node)) (conjunction root_at_x
    (equality (prog_term x_node) (literal null))) grove)
    (side_verdict assigned_side)
assigned_parent_none = (
  0,
  inl (
    record plain_letters {
      S = literal (str []);
      I = prog_term x_node;
      P = truth;
      L = literal
          nolist;
      E = prog_term x_node;
      v = x_node;
    },
    ((((refl, tt, refl), refl), tt), refl),
  ),
  λ m. ⊎_elim (λ y. wrong y.0 (ap left_in y.1.0.0.2) (ap command_of y.1.0.0.2) y.1.1.0) (λ z. z) m,
)
  where
    wrong : (l : Letters) → conjunction (one_root (node_formula l.S l.I l.P l.L)) (equality l.E l.I)
        ≡ conjunction root_at_x (equality (prog_term x_node) (prog_term x_node))
        → parent_node l.v l.E ≡ parent_node x_node (prog_term x_node)
        → (FreeIn (as_var l.v) (node_formula l.S l.I l.P l.L) → ⊥) → ⊥
    wrong l p c n =
        let number_is : l.I ≡ prog_term x_node = cc in
        let variable_is : l.v ≡ x_node = cc in
        n (inr (inl (subst (λ v. InTerm (as_var v) l.I) (sym variable_is)
        (subst (InTerm (as_var x_node)) (sym number_is) refl))))

-- name: ($s#n[$q]%$l and n = n), and the name is read
abbrev n_node : ProgVar
n_node = named (codes "n") node_sort

abbrev x_text : ProgVar
x_text = named (codes "x") str_sort

abbrev $s : LogicVar
$s = record { name = codes "s"; sort = value str_sort }

abbrev $l : LogicVar
$l = record { name = codes "l"; sort = value list_sort }

abbrev $q : Formula
$q = same_as (as_term (record { name = codes "q"; sort = shape forest }))

abbrev the_node : Formula
the_node = node_formula (as_term $s) (prog_term n_node) $q (as_term $l)

pub name_read : Verdict_is (codes "name") [] []
    (hoare (conjunction the_node (equality (prog_term n_node) (prog_term n_node)))
    (node_name x_text (prog_term n_node))
    (conjunction the_node (equality (prog_term x_text) (as_term $s))) tree)
    instance_verdict
name_read = inl (
  record plain_letters {
    S = as_term $s;
    I = prog_term n_node;
    P = $q;
    L = as_term $l;
    E = prog_term n_node;
    v = x_text;
  },
  (((refl, tt, refl), refl), (apart, tt)),
)
  where
    apart : FreeIn (as_var x_text) the_node → ⊥
    apart (inl e) = cc
    apart (inr (inl e)) = cc
    apart (inr (inr (inl e))) = cc
    apart (inr (inr (inr e))) = cc

-- append where the new parent stands in the moved tree, and so in no context beside it
abbrev nested : Formula
nested = one_root (node_formula (as_term $s) (prog_term n_node) (one_tree the_node) (as_term $l))

pub parent_inside : (post : Formula) → Verdict_is (codes "append") [] []
    (hoare (conjunction (conjunction nested (equality (prog_term x_node) (prog_term x_node)))
    (equality (prog_term n_node) (prog_term n_node)))
    (append_child (prog_term x_node) (prog_term n_node)) post grove) shape_verdict
parent_inside post m = ⊎_elim
    (λ y. wrong forest (one_tree (other_node y.0)) y.0 (ap left_in y.1.2))
    (λ r. ⊎_elim (λ y. wrong grove (one_root (other_node y.0)) y.0 (ap left_in y.1.2)) (λ z. z) r) m
  where
    wrong : (h : DataSort) (moved : Formula) (l : Letters) → conjunction (conjunction
        (application h (hole_adjoint (empty h) (application tree l.K (one_node l l.P))) moved)
        (equality l.E l.I)) (equality l.F l.J)
        ≡ conjunction (conjunction nested (equality (prog_term x_node) (prog_term x_node)))
        (equality (prog_term n_node) (prog_term n_node)) → ⊥
    wrong h moved l e = cc

-- remove without its second part
abbrev child : Formula
child = one_tree (node_formula (literal (str [])) (prog_term (named (codes "n") node_sort)) truth
    (literal nolist))

abbrev parent_with : Formula → Formula
parent_with p = application tree truth (node_formula (literal (str [])) (prog_term x_node) p
    (literal nolist))

pub no_removed_root : Verdict_is (codes "remove") [] []
    (hoare (conjunction (conjunction (parent_with (concatenation whole
    (concatenation whole truth child) truth))
    (equality (prog_term x_node) (prog_term x_node))) (equality
    (prog_term (named (codes "n") node_sort)) (prog_term (named (codes "n") node_sort))))
    (remove_child (prog_term x_node) (prog_term (named (codes "n") node_sort)))
    (parent_with (concatenation whole truth truth)) grove) shape_verdict
no_removed_root m = ⊎_elim (λ y. wrong y.0 (ap right_in y.1.2)) (λ z. z) m
  where
    wrong : (l : Letters) → grove_sum (application tree l.K (node_formula l.S l.I
        (concatenation whole l.P l.R) l.L)) (one_root (node_formula l.T l.J l.Q l.M))
        ≡ parent_with (concatenation whole truth truth) → ⊥
    wrong l e = cc
