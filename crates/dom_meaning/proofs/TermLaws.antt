-- The terms of each command that a run may take pass their tests.
use Rattle.std.proofs.Common.{◌≡◌, List, [], ◌∷◌, Bool, true, ◌&&◌, Option, Some, None, is_some}
use Rattle.model_shapes.specs.Sorts.{node_sort, list_sort, int_sort, str_sort}
use Rattle.model_shapes.specs.Tests.{same_value_sort}
use Rattle.model_shapes.proofs.Truth.{false≢true, both_true}
use Rattle.model_shapes.proofs.Tests.{same_value_sort-is}
use Rattle.model_terms.specs.Terms.{Term}
use Rattle.model_terms.specs.TermSorts.{evaluates}
use Rattle.model_terms.specs.Stores.{ProgVar, sort_of}
use Rattle.model_terms.specs.Conditions.{condition_sorted}
use Rattle.model_commands.specs.Commands.{Command, skip, block, assign, create_node, node_name, child_nodes, parent_node, list_item, append_child, remove_child, insert_before, if_else, while_do, local, call}
use Rattle.model_commands.specs.SortTests.{feeds, receives, call_fits, has_command, callee_known, parts_fit, results_differ, fits_alone, is_sorted}
use Rattle.model_commands.specs.Theories.{Procedure, Procedures, procedure_named}
use Rattle.model_commands.specs.Sorting.{Receive}
use Rattle.model_commands.proofs.Sorting.{receives-received}
use Rattle.dom_meaning.specs.OwnTerms.{Fed, Enters, TermsFit}

-- variables that can take the results
pub received : (rs xs : List ProgVar) → receives rs xs ≡ true → Receive rs xs
received = receives-received

-- the arguments of a call
fed : (xs : List ProgVar) (es : List Term) → feeds xs es ≡ true → Fed xs es
fed [] [] h = tt
fed (x ∷ xs) (e ∷ es) h =
    let parts = both_true (evaluates (sort_of x) e) (feeds xs es) h in
    (parts.0, fed xs es parts.1)
fed [] (e ∷ es) h = false≢true h
fed (x ∷ xs) [] h = false≢true h

entered : (f : Option Procedure) (xs : List ProgVar) (es : List Term) → is_some f ≡ true
    → call_fits f xs es ≡ true → Enters f es
entered None xs es known h = false≢true known
entered (Some f) xs es known h =
    fed f.params es (both_true (feeds f.params es) (receives f.results xs) h).0

-- a second test, and two of them
second : (a b : Bool) → (a && b) ≡ true → b ≡ true
second a b h = (both_true a b h).1

first : (a b : Bool) → (a && b) ≡ true → a ≡ true
first a b h = (both_true a b h).0

module _ (ps : Procedures) where
  -- the command's own parts
  known : (c : Command) (rest : Bool) → (fits_alone ps c && rest) ≡ true
      → callee_known ps c ≡ true
  known c rest h =
      first (callee_known ps c) (parts_fit ps c && results_differ c)
      (first (fits_alone ps c) rest h)

  own : (c : Command) (rest : Bool) → (fits_alone ps c && rest) ≡ true → parts_fit ps c ≡ true
  own c rest h =
      first (parts_fit ps c) (results_differ c)
      (second (callee_known ps c) (parts_fit ps c && results_differ c)
      (first (fits_alone ps c) rest h))

  pub terms_fit : (c : Command) → is_sorted ps c ≡ true → TermsFit ps c
  terms_fit skip h = tt
  terms_fit (block b) h = tt
  terms_fit (assign x e) h = own (assign x e) _ h
  terms_fit (create_node x e) h =
      let parts = both_true (same_value_sort (sort_of x) node_sort) (evaluates str_sort e)
      (own (create_node x e) _ h) in
      (same_value_sort-is (sort_of x) node_sort parts.0, parts.1)
  terms_fit (node_name x e) h =
      second (same_value_sort (sort_of x) str_sort) (evaluates node_sort e)
      (own (node_name x e) _ h)
  terms_fit (child_nodes x e) h =
      second (same_value_sort (sort_of x) list_sort) (evaluates node_sort e)
      (own (child_nodes x e) _ h)
  terms_fit (parent_node x e) h =
      second (same_value_sort (sort_of x) node_sort) (evaluates node_sort e)
      (own (parent_node x e) _ h)
  terms_fit (list_item x e f) h =
      both_true (evaluates list_sort e) (evaluates int_sort f)
      (second (same_value_sort (sort_of x) node_sort)
      (evaluates list_sort e && evaluates int_sort f) (own (list_item x e f) _ h))
  terms_fit (append_child e f) h =
      both_true (evaluates node_sort e) (evaluates node_sort f) (own (append_child e f) _ h)
  terms_fit (remove_child e f) h =
      both_true (evaluates node_sort e) (evaluates node_sort f) (own (remove_child e f) _ h)
  terms_fit (insert_before e f g) h =
      let parts = both_true (evaluates node_sort e) (evaluates node_sort f && evaluates node_sort g)
      (own (insert_before e f g) _ h) in
      let others = both_true (evaluates node_sort f) (evaluates node_sort g) parts.1 in
      (parts.0, others.0, others.1)
  terms_fit (if_else c a b) h =
      first (condition_sorted c) (has_command a && has_command b) (own (if_else c a b) _ h)
  terms_fit (while_do c b) h =
      first (condition_sorted c) (has_command b) (own (while_do c b) _ h)
  terms_fit (local x b) h = tt
  terms_fit (call xs name es) h =
      entered (procedure_named name ps) xs es (known (call xs name es) _ h)
      (own (call xs name es) _ h)
