-- What meets the formula of a node, and the values of terms that stand for its numbers.
use Rattle.std.proofs.Common.{◌≡◌, ℕ, List, refl, sym, ap, ◌∙◌}
use mathlib.Core.HLevel.{Stable}
use Rattle.model_shapes.specs.Shapes.{Shaped}
use Rattle.model_shapes.specs.Sorts.{ValueSort, shape, forest, tree}
use Rattle.model_shapes.specs.Things.{val}
use Rattle.model_shapes.specs.Trees.{Trees, node, none, hole, beside}
use Rattle.model_shapes.specs.Values.{Value, str, node_number, list_number}
use Rattle.model_formulas.specs.Formulas.{length_is, Formula, node_formula, concatenation, whole, one_tree}
use Rattle.model_formulas.specs.Satisfaction.{Environment, meaning_of, with_store, Meets}
use Rattle.model_formulas.specs.Setting.{setting}
use Rattle.model_terms.specs.Terms.{Term, InTerm}
use Rattle.model_terms.specs.Stores.{Store, lookup, value_of, ProgVar, as_var, set}
use Rattle.model_terms.specs.Computing.{Computes}
use Rattle.model_commands.proofs.StoreLaws.{meaning-value}
use Rattle.triple_laws.proofs.Endings.{set-env}
use Rattle.entailment_laws.proofs.Plain.{val-is}
use Rattle.entailment_laws.proofs.Quantified.{setting-agrees}
use Rattle.triple_laws.proofs.Finding.{parent_tree}
use Rattle.triple_laws.proofs.Passing.{meaning-agrees}

-- the value of a term that stands for what another term stands for
pub valued : (s : ValueSort) (t u : Term) (v : Value) (st : Store) (e : Environment)
    → Computes s t → val v ≡ meaning_of (with_store (lookup st) e) u
    → meaning_of (with_store (lookup st) e) t ≡ meaning_of (with_store (lookup st) e) u
    → value_of st t ≡ v
valued s t u v st e c a b =
    val-is (value_of st t) v (sym (meaning-value s t st e c) ∙ b ∙ sym a)

-- what a term stands for with a variable set that isn't in it
pub without-term : (t : Term) (x : ProgVar) (v : Value) (st : Store) (e : Environment)
    → (InTerm (as_var x) t → ⊥)
    → meaning_of (with_store (lookup (set x v st)) e) t ≡ meaning_of (with_store (lookup st) e) t
without-term t x v st e n =
    ap (λ z. meaning_of z t) (set-env x v st e)
    ∙ meaning-agrees t (setting (as_var x) (val v) (with_store (lookup st) e))
    (with_store (lookup st) e)
    (setting-agrees (as_var x) (val v) (with_store (lookup st) e) (length_is t) n)

-- the formula of a node with a child between others
abbrev pub holding_child : Term → Term → Formula → Term → Term → Formula → Term → Formula → Term
    → Formula
holding_child s i p t j q m r l =
    node_formula s i (concatenation whole (concatenation whole p (one_tree (node_formula t j q m)))
    r) l

-- the data is a node
pub record NodeMet (s i : Term) (p : Formula) (l : Term) (e : Environment) (d : Trees) : Type 0
  where
    pub name : List ℕ
    pub number : ℕ
    pub kids : Trees
    pub list : ℕ
    pub is : d ≡ node name number kids list none
    pub name_is : val (str name) ≡ meaning_of e s
    pub number_is : val (node_number number) ≡ meaning_of e i
    pub list_is : val (list_number list) ≡ meaning_of e l
    pub kids_meet : Meets p e (shape forest) kids

pub node-met : (s i : Term) (p : Formula) (l : Term) (e : Environment) (d : Trees)
    → Meets (node_formula s i p l) e (shape tree) d → NodeMet s i p l e d
node-met s i p l e none h = absurd h
node-met s i p l e (hole r) h = absurd h
node-met s i p l e (node s' i' k' l' (hole r)) h = absurd h
node-met s i p l e (node s' i' k' l' (node s'' i'' k'' l'' r)) h = absurd h
node-met s i p l e (node s' i' k' l' none) h = record {
  name = s';
  number = i';
  kids = k';
  list = l';
  is = refl;
  name_is = h.0;
  number_is = h.1;
  list_is = h.2;
  kids_meet = h.3;
}

-- the data is a node with a child between others
pub record ParentMet (s i : Term) (p : Formula) (t j : Term) (q : Formula) (m : Term) (r : Formula)
    (l : Term) (e : Environment) (d : Trees) : Type 0
  where
    pub name : List ℕ
    pub number : ℕ
    pub list : ℕ
    pub left : Trees
    pub right : Trees
    pub child : Trees
    pub is : d ≡ parent_tree name number left child right list
    pub name_is : val (str name) ≡ meaning_of e s
    pub number_is : val (node_number number) ≡ meaning_of e i
    pub list_is : val (list_number list) ≡ meaning_of e l
    pub left_shaped : Shaped (shape forest) left
    pub right_shaped : Shaped (shape forest) right
    pub child_shaped : Shaped (shape tree) child
    pub left_meets : Meets p e (shape forest) left
    pub right_meets : Meets r e (shape forest) right
    pub child_meets : Meets (node_formula t j q m) e (shape tree) child

-- read classically, as the splits are
pub parent-met : (G : Type 0) → Stable G → (s i : Term) (p : Formula) (t j : Term) (q : Formula)
    (m : Term) (r : Formula) (l : Term) (e : Environment) (d : Trees)
    → Meets (holding_child s i p t j q m r l) e (shape tree) d
    → (ParentMet s i p t j q m r l e d → G) → G
parent-met G st s i p t j q m r l e d h f =
    let y = node-met s i (concatenation whole (concatenation whole p
    (one_tree (node_formula t j q m))) r) l e d h in
    st (λ n. y.kids_meet (λ x. x.2 (λ right. right.2.1 (λ z. z.2 (λ child. n (f (record {
      name = y.name;
      number = y.number;
      list = y.list;
      left = z.0;
      right = right.0;
      child = child.0;
      is = y.is ∙ ap (λ k. node y.name y.number k y.list none)
          (right.2.0 ∙ ap (λ v. beside v right.0) child.2.0);
      name_is = y.name_is;
      number_is = y.number_is;
      list_is = y.list_is;
      left_shaped = z.1;
      right_shaped = right.1;
      child_shaped = child.2.2.0;
      left_meets = child.2.1;
      right_meets = right.2.2;
      child_meets = child.2.2.1;
    })))))))
