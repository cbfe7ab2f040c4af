-- The axioms of the commands of the document, after PODS 2008. Each speaks of the least part of a
-- grove that its command needs.
use Rattle.std.specs.Prelude.{List, [], ◌∷◌, codes, zero, negsuc}
use Rattle.model_shapes.specs.Sorts.{value, DataSort, tree, forest, grove, list_sort}
use Rattle.model_shapes.specs.Values.{null, int}
use Rattle.model_terms.specs.Variables.{bound}
use Rattle.model_terms.specs.Terms.{literal, variable, raised}
use Rattle.model_formulas.specs.Formulas.{Formula, at_most, existential, application, empty, node_formula, one_tree, one_root, length_is}
use Rattle.model_commands.specs.Commands.{create_node, node_name, child_nodes, parent_node, list_item, append_child, remove_child, insert_before}
use Rattle.rule_table.specs.Letters.{Letters, one_node, other_node, third_node}
use Rattle.rule_table.specs.Notation.{hoare, ◌and◌, ◌or◌, ◌∗◌, ◌⊹◌, ◌⊸◌, ◌equals◌, prog_term}
use Rattle.rule_table.specs.Conditions.{assigned, assigned_term}
use Rattle.rule_table.specs.Lines.{Line, always, ◌provided◌}
use Rattle.rule_table.specs.Entries.{Entry, ◌is◌}

module _ (letters : Letters) where
  open letters use {P, R, K, E, F, G, I, L, T, J, S, V, v, k}

  -- S#I[p]%L, and T#J[Q]%M
  abbrev node_with : Formula → Formula
  node_with = one_node letters

  abbrev child : Formula
  child = other_node letters

  -- S#I[((p * <T#J[Q]%M>) * R)]%L
  abbrev with_child : Formula → Formula
  with_child p = node_with ((p ∗ one_tree child) ∗ R)

  -- {(S#I[P]%L and E = I)} x := nodeName(E) {(S#I[P]%L and x = S)};
  -- assigned: x is in no letter of the node
  abbrev pub name_axiom : Line
  name_axiom = always (hoare
      (node_with P and (E equals I))
      (node_name v E)
      (node_with P and (prog_term v equals S)) tree)
      provided assigned v (node_with P)

  -- {(S#I[P]%L and E = I)} x := childNodes(E) {(S#I[P]%L and x = L)}; assigned: as above
  abbrev pub children_axiom : Line
  children_axiom = always (hoare
      (node_with P and (E equals I))
      (child_nodes v E)
      (node_with P and (prog_term v equals L)) tree)
      provided assigned v (node_with P)

  -- {((N and E = L) and F = G)} x := item(E, F) {(N and x = J)},
  -- N being S#I[(((P and len G) * <T#J[Q]%M>) * R)]%L; assigned: x is in no letter of N
  abbrev pub item_axiom : Line
  item_axiom = always (hoare
      ((with_child (P and length_is G) and (E equals L)) and (F equals G))
      (list_item v E F)
      (with_child (P and length_is G) and (prog_term v equals J)) tree)
      provided assigned v (with_child (P and length_is G))

  -- {((N and E = L) and (F <= -1 or G <= F))} x := item(E, F) {(N and x = null)},
  -- N being S#I[(P and len G)]%L; assigned: x is in no letter of N
  abbrev pub item_none_axiom : Line
  item_none_axiom = always (hoare
      ((node_with (P and length_is G) and (E equals L))
      and (at_most F (literal (int (negsuc 0))) or at_most G F))
      (list_item v E F)
      (node_with (P and length_is G) and (prog_term v equals literal null)) tree)
      provided assigned v (node_with (P and length_is G))

  -- {(N and E = J)} x := parentNode(E) {(N and x = I)},
  -- N being S#I[((P * <T#J[Q]%M>) * R)]%L; assigned: x is in no letter of N
  abbrev pub parent_axiom : Line
  parent_axiom = always (hoare
      (with_child P and (E equals J))
      (parent_node v E)
      (with_child P and (prog_term v equals I)) tree)
      provided assigned v (with_child P)

  -- {([S#I[P]%L] and E = I)} x := parentNode(E) {([S#I[P]%L] and x = null)};
  -- assigned: x is in no letter of the node
  abbrev pub parent_none_axiom : Line
  parent_none_axiom = always (hoare
      (one_root (node_with P) and (E equals I))
      (parent_node v E)
      (one_root (node_with P) and (prog_term v equals literal null)) grove)
      provided assigned v (node_with P)

  -- (exists $m . [T#x[0f]%$m]); T stands below the binder of $m, which isn't in it
  abbrev pub new_root : Formula
  new_root = existential (value list_sort) (one_root (node_formula (raised T) (prog_term v)
      (empty forest) (variable (bound zero (value list_sort)))))

  -- {(0g and E = T)} x := createNode(E) {(exists $m . [T#x[0f]%$m])}; assigned: x isn't in T
  abbrev pub create_axiom : Line
  create_axiom = always (hoare (empty grove and (E equals T)) (create_node v E) new_root grove)
      provided assigned_term v T

  -- ((((0h -o (K @t S#I[p]%L)) @h U) and E = I) and F = J): the tree U, which is to move, stands in
  -- a hole of the sort h, and the parent in what is left where the hole is empty
  abbrev before_move : DataSort → Formula → Formula → Formula
  before_move h U p =
      (application h (empty h ⊸ application tree K (node_with p)) U and (E equals I))
      and (F equals J)

  -- (K @t S#I[(P * <T#J[Q]%M>)]%L)
  abbrev moved_last : Formula
  moved_last = application tree K (node_with (P ∗ one_tree child))

  -- {((((0h -o (K @t S#I[P]%L)) @h U) and E = I) and F = J)} appendChild(E, F)
  -- {(K @t S#I[(P * <T#J[Q]%M>)]%L)}
  abbrev pub append_axiom : DataSort → Formula → DataSort → Line
  append_axiom h U d = always (hoare (before_move h U P) (append_child E F) moved_last d)

  -- U is <T#J[Q]%M>, in any data
  abbrev pub append_in_forest : Line
  append_in_forest = append_axiom forest (one_tree child) k

  -- U is [T#J[Q]%M], in a grove
  abbrev pub append_in_grove : Line
  append_in_grove = append_axiom grove (one_root child) grove

  -- Y#V[A]%N, the child before which another goes
  abbrev next_child : Formula
  next_child = third_node letters

  -- {(((((0h -o (K @t S#I[((P * <Y#V[A]%N>) * R)]%L)) @h U) and E = I) and F = J) and G = V)}
  -- insertBefore(E, F, G) {(K @t S#I[(((P * <T#J[Q]%M>) * <Y#V[A]%N>) * R)]%L)}: the next child is
  -- one of the parent's where the hole is empty
  abbrev pub insert_before_axiom : DataSort → Formula → DataSort → Line
  insert_before_axiom h U d = always (hoare
      (before_move h U ((P ∗ one_tree next_child) ∗ R) and (G equals V))
      (insert_before E F G)
      (application tree K (node_with (((P ∗ one_tree child) ∗ one_tree next_child) ∗ R))) d)

  abbrev pub insert_before_in_forest : Line
  insert_before_in_forest = insert_before_axiom forest (one_tree child) k

  abbrev pub insert_before_in_grove : Line
  insert_before_in_grove = insert_before_axiom grove (one_root child) grove

  -- {(((((0h -o (K @t S#I[P]%L)) @h U) and E = I) and F = J) and G = null)} insertBefore(E, F, G)
  -- {(K @t S#I[(P * <T#J[Q]%M>)]%L)}
  abbrev pub insert_last_axiom : DataSort → Formula → DataSort → Line
  insert_last_axiom h U d = always (hoare
      (before_move h U P and (G equals literal null)) (insert_before E F G) moved_last d)

  abbrev pub insert_last_in_forest : Line
  insert_last_in_forest = insert_last_axiom forest (one_tree child) k

  abbrev pub insert_last_in_grove : Line
  insert_last_in_grove = insert_last_axiom grove (one_root child) grove

  -- {(((K @t S#I[((P * <T#J[Q]%M>) * R)]%L) and E = I) and F = J)} removeChild(E, F)
  -- {((K @t S#I[(P * R)]%L) + [T#J[Q]%M])}
  abbrev pub remove_axiom : Line
  remove_axiom = always (hoare
      ((application tree K (with_child P) and (E equals I)) and (F equals J))
      (remove_child E F)
      (application tree K (node_with (P ∗ R)) ⊹ one_root child) grove)

-- THE AXIOMS
abbrev pub axioms : List Entry
axioms =
    (codes "name" is name_axiom ∷ []) ∷
    (codes "children" is children_axiom ∷ []) ∷
    (codes "item" is item_axiom ∷ []) ∷
    (codes "item_none" is item_none_axiom ∷ []) ∷
    (codes "parent" is parent_axiom ∷ []) ∷
    (codes "parent_none" is parent_none_axiom ∷ []) ∷
    (codes "create" is create_axiom ∷ []) ∷
    (codes "append" is append_in_forest ∷ append_in_grove ∷ []) ∷
    (codes "remove" is remove_axiom ∷ []) ∷
    (codes "insert_before" is insert_before_in_forest ∷ insert_before_in_grove ∷ []) ∷
    (codes "insert_last" is insert_last_in_forest ∷ insert_last_in_grove ∷ []) ∷ []
