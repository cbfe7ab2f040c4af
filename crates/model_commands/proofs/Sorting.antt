-- What passes the test of a command by itself has parts of the right sorts and number.
use Rattle.std.proofs.Common.{◌≡◌, List, [], ◌∷◌, ◌++◌, Bool, true, false, not, ◌&&◌, ◌||◌, ◌∙◌, refl, subst, inl, inr, Option, Some, None, is_some}
use Rattle.std.specs.List.{list_all}
use Rattle.std.proofs.lemmas.List.Folds.{list_all-append}
use Rattle.model_shapes.specs.Values.{Name}
use Rattle.model_shapes.specs.Tests.{same_value_sort}
use Rattle.model_shapes.specs.Sorts.{ValueSort, node_sort, list_sort, int_sort, str_sort}
use Rattle.model_shapes.proofs.Truth.{false≢true, both_true, and_from}
use Rattle.model_shapes.proofs.Tests.{same_value_sort-is}
use Rattle.model_terms.specs.Terms.{Term}
use Rattle.model_terms.specs.TermSorts.{evaluates}
use Rattle.model_terms.specs.Stores.{ProgVar, sort_of, same_name}
use Rattle.model_terms.specs.Conditions.{Cond, condition_sorted}
use Rattle.model_terms.specs.Computing.{Computes}
use Rattle.model_terms.proofs.StoreLaws.{same_name-refl}
use Rattle.model_terms.proofs.Computing.{all-append, evaluates-computes, two-compute, condition-tests}
use Rattle.model_commands.specs.Commands.{Command, skip, block, assign, create_node, node_name, child_nodes, parent_node, list_item, append_child, remove_child, insert_before, if_else, while_do, local, call, Block, stop, ◌then◌, Among}
use Rattle.model_commands.specs.CommandParts.{commands_in, commands_of}
use Rattle.model_commands.specs.Theories.{Procedure, Procedures, procedure_named}
use Rattle.model_commands.specs.Sorting.{Feed, Receive, CallFits, Distinct, Sorted, BlockSorted}
use Rattle.model_commands.specs.SortTests.{feeds, receives, call_fits, parts_fit, has_command, callee_known, is_among, distinct_by, results_differ, fits_alone, is_sorted}

-- TESTS
-- a test and its denial aren't both true
pub not-both : (b : Bool) → not b ≡ true → b ≡ true → ⊥
not-both true e q = false≢true e
not-both false e q = false≢true q

-- either of two tests that are true
pub left-true : (a b : Bool) → a ≡ true → (a || b) ≡ true
left-true a b e = λ j. e j || b

-- the right one
pub right-true : (a b : Bool) → b ≡ true → (a || b) ≡ true
right-true true b e = refl
right-true false b e = e

-- CALLS
feeds-fed : (xs : List ProgVar) (es : List Term) → feeds xs es ≡ true → Feed xs es
feeds-fed [] [] e = tt
feeds-fed (x ∷ xs) (t ∷ ts) e =
    let h : (evaluates (sort_of x) t ≡ true) × (feeds xs ts ≡ true) =
    both_true (evaluates (sort_of x) t) (feeds xs ts) e in
    (evaluates-computes (sort_of x) t h.0, feeds-fed xs ts h.1)
feeds-fed [] (t ∷ ts) e = false≢true e
feeds-fed (x ∷ xs) [] e = false≢true e

-- variables that take results
pub receives-received : (rs xs : List ProgVar) → receives rs xs ≡ true → Receive rs xs
receives-received [] [] e = tt
receives-received (r ∷ rs) (x ∷ xs) e =
    let h : (same_value_sort (sort_of r) (sort_of x) ≡ true) × (receives rs xs ≡ true) =
    both_true (same_value_sort (sort_of r) (sort_of x)) (receives rs xs) e in
    (same_value_sort-is (sort_of r) (sort_of x) h.0, receives-received rs xs h.1)
receives-received [] (x ∷ xs) e = false≢true e
receives-received (r ∷ rs) [] e = false≢true e

-- what is among some variables passes the test
pub among-test : (xs : List ProgVar) (x : ProgVar) → Among xs x → is_among xs x ≡ true
among-test [] x m = absurd m
among-test (y ∷ ys) x (inl e) =
    left-true (same_name x y) (is_among ys x)
    (subst (λ z. same_name x z ≡ true) e (same_name-refl x))
among-test (y ∷ ys) x (inr m) =
    right-true (same_name x y) (is_among ys x) (among-test ys x m)

-- variables that differ by the test
apart-distinct : (xs : List ProgVar) → distinct_by same_name xs ≡ true → Distinct xs
apart-distinct [] e = tt
apart-distinct (x ∷ xs) e =
    let h : (not (is_among xs x) ≡ true) × (distinct_by same_name xs ≡ true) =
    both_true (not (is_among xs x)) (distinct_by same_name xs) e in
    ((λ m. not-both (is_among xs x) h.0 (among-test xs x m)), apart-distinct xs h.1)

-- COMMANDS
module _ (th : Procedures) where
  -- a call that passes the tests fits
  call-fits : (o : Option Procedure) (results : List ProgVar) (arguments : List Term)
      → is_some o ≡ true → call_fits o results arguments ≡ true
      → CallFits o results arguments
  call-fits None results arguments k e = false≢true k
  call-fits (Some f) results arguments k e =
      let h : (feeds f.params arguments ≡ true) × (receives f.results results ≡ true) =
      both_true (feeds f.params arguments) (receives f.results results) e in
      (feeds-fed f.params arguments h.0, receives-received f.results results h.1)

  -- each of these commands passes the test
  abbrev pub Tested : List Command → Type 0
  Tested cs = list_all (fits_alone th) cs ≡ true

  -- what the test of a command says of it alone
  record Passes (c : Command) : Type 0 where
    known : callee_known th c ≡ true
    fitting : parts_fit th c ≡ true
    differing : results_differ c ≡ true

  first-tested : (c : Command) (cs : List Command) → Tested (c ∷ cs) → Passes c
  first-tested c cs k =
      let h = both_true (fits_alone th c) (list_all (fits_alone th) cs) k in
      let g = both_true (callee_known th c) (parts_fit th c && results_differ c) h.0 in
      let r = both_true (parts_fit th c) (results_differ c) g.1 in
      record { known = g.0; fitting = r.0; differing = r.1 }

  -- the rest of them
  pub rest-tested : (c : Command) (cs : List Command) → Tested (c ∷ cs) → Tested cs
  rest-tested c cs k = (both_true (fits_alone th c) (list_all (fits_alone th) cs) k).1

  -- the first and the second of two lists
  pub both-tested : (xs ys : List Command) → Tested (xs ++ ys) → Tested xs × Tested ys
  both-tested xs ys k = all-append (fits_alone th) xs ys k

  -- and both together
  pub joint-tested : (xs ys : List Command) → Tested xs → Tested ys → Tested (xs ++ ys)
  joint-tested xs ys k l =
      list_all-append (fits_alone th) xs ys ∙ and_from _ _ k l

  -- a target of the sort, and a term that computes
  target-and : (x : ProgVar) (s u : ValueSort) (t : Term)
      → (same_value_sort (sort_of x) s && evaluates u t) ≡ true → (sort_of x ≡ s) × Computes u t
  target-and x s u t e =
      let h : (same_value_sort (sort_of x) s ≡ true) × (evaluates u t ≡ true) =
      both_true (same_value_sort (sort_of x) s) (evaluates u t) e in
      (same_value_sort-is (sort_of x) s h.0, evaluates-computes u t h.1)

  mutual
    -- a command that passes the test
    pub sorted-command : (c : Command) → is_sorted th c ≡ true → Sorted th c
    sorted-command skip k = tt
    sorted-command (block b) k = sorted-block b (rest-tested (block b) (commands_of b) k)
    sorted-command (assign x e) k =
        evaluates-computes (sort_of x) e (first-tested (assign x e) [] k).fitting
    sorted-command (create_node x e) k =
        target-and x node_sort str_sort e (first-tested (create_node x e) [] k).fitting
    sorted-command (node_name x e) k =
        target-and x str_sort node_sort e (first-tested (node_name x e) [] k).fitting
    sorted-command (child_nodes x e) k =
        target-and x list_sort node_sort e (first-tested (child_nodes x e) [] k).fitting
    sorted-command (parent_node x e) k =
        target-and x node_sort node_sort e (first-tested (parent_node x e) [] k).fitting
    sorted-command (list_item x e f) k =
        let h : (same_value_sort (sort_of x) node_sort ≡ true)
        × ((evaluates list_sort e && evaluates int_sort f) ≡ true) =
        both_true (same_value_sort (sort_of x) node_sort)
        (evaluates list_sort e && evaluates int_sort f)
        (first-tested (list_item x e f) [] k).fitting in
        let g : Computes list_sort e × Computes int_sort f =
        two-compute list_sort int_sort e f h.1 in
        (same_value_sort-is (sort_of x) node_sort h.0, g.0, g.1)
    sorted-command (append_child e f) k =
        two-compute node_sort node_sort e f (first-tested (append_child e f) [] k).fitting
    sorted-command (remove_child e f) k =
        two-compute node_sort node_sort e f (first-tested (remove_child e f) [] k).fitting
    sorted-command (insert_before e f g) k =
        let h : (evaluates node_sort e ≡ true)
        × ((evaluates node_sort f && evaluates node_sort g) ≡ true) =
        both_true (evaluates node_sort e) (evaluates node_sort f && evaluates node_sort g)
        (first-tested (insert_before e f g) [] k).fitting in
        let m : Computes node_sort f × Computes node_sort g =
        two-compute node_sort node_sort f g h.1 in
        (evaluates-computes node_sort e h.0, m.0, m.1)
    sorted-command (if_else c a b) k =
        let r = both-tested (commands_of a) (commands_of b)
        (rest-tested (if_else c a b) (commands_of a ++ commands_of b) k) in (
          condition-tests c (both_true (condition_sorted c) (has_command a && has_command b)
              (first-tested (if_else c a b) (commands_of a ++ commands_of b) k).fitting).0,
          sorted-block a r.0,
          sorted-block b r.1,
        )
    sorted-command (while_do c b) k = (
      condition-tests c (both_true (condition_sorted c) (has_command b)
          (first-tested (while_do c b) (commands_of b) k).fitting).0,
      sorted-block b (rest-tested (while_do c b) (commands_of b) k),
    )
    sorted-command (local x b) k = sorted-block b (rest-tested (local x b) (commands_of b) k)
    sorted-command (call results name arguments) k =
        let c : Passes (call results name arguments) =
        first-tested (call results name arguments) [] k in (
          call-fits (procedure_named name th) results arguments c.known c.fitting,
          apart-distinct results c.differing,
        )

    sorted-block : (b : Block) → Tested (commands_of b) → BlockSorted th b
    sorted-block stop k = tt
    sorted-block (c then b) k =
        let r = both-tested (commands_in c) (commands_of b) k in
        (sorted-command c r.0, sorted-block b r.1)

  -- BLOCKS: a block with a command, each of which passes the test
  pub tested-block : (b : Block) → has_command b ≡ true → Tested (commands_of b)
      → is_sorted th (block b) ≡ true
  tested-block b h k = rw h k

  -- the block of a local variable, of a loop, and those of a choice pass it
  pub local-body : (x : ProgVar) (b : Block) → is_sorted th (local x b) ≡ true
      → is_sorted th (block b) ≡ true
  local-body x b k =
      tested-block b (first-tested (local x b) (commands_of b) k).fitting
      (rest-tested (local x b) (commands_of b) k)

  -- of a loop
  pub loop-body : (c : Cond) (b : Block) → is_sorted th (while_do c b) ≡ true
      → is_sorted th (block b) ≡ true
  loop-body c b k =
      tested-block b (both_true (condition_sorted c) (has_command b)
      (first-tested (while_do c b) (commands_of b) k).fitting).1
      (rest-tested (while_do c b) (commands_of b) k)

  -- of a choice
  pub branches : (c : Cond) (a b : Block) → is_sorted th (if_else c a b) ≡ true
      → (is_sorted th (block a) ≡ true) × (is_sorted th (block b) ≡ true)
  branches c a b k =
      let r = both-tested (commands_of a) (commands_of b)
      (rest-tested (if_else c a b) (commands_of a ++ commands_of b) k) in
      let h = both_true (has_command a) (has_command b)
      (both_true (condition_sorted c) (has_command a && has_command b)
      (first-tested (if_else c a b) (commands_of a ++ commands_of b) k).fitting).1 in
      (tested-block a h.0 r.0, tested-block b h.1 r.1)

  -- a call that passes it fits the procedure
  pub call-fits-test : (results : List ProgVar) (name : Name) (arguments : List Term)
      → is_sorted th (call results name arguments) ≡ true
      → call_fits (procedure_named name th) results arguments ≡ true
  call-fits-test results name arguments k =
      (first-tested (call results name arguments) [] k).fitting
