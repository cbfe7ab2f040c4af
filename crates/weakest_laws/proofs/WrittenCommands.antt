-- The written formula of a straight-line command is that of the table, in nameless form, and avoids
-- each name that is left.
use Rattle.std.proofs.Common.{◌≡◌, ℕ, ◌+◌, ◌-◌, ◌<◌, ◌≤◌, List, [], ◌∷◌, ◌++◌, Bool, true, length, length-append, drop, nat_lt, refl, sym, ap, ◌∙◌, subst, arith}
use Rattle.std.specs.List.{list_all}
use Rattle.std.proofs.lemmas.List.Folds.{list_all-append}
use Rattle.model_shapes.specs.Sorts.{ValueSort, value, shape, grove, node_sort, list_sort, int_sort, str_sort}
use Rattle.model_shapes.specs.Values.{Name, null}
use Rattle.model_shapes.proofs.Truth.{both_true, false≢true}
use Rattle.model_terms.specs.Variables.{logic}
use Rattle.model_terms.specs.Terms.{Term, literal, variable}
use Rattle.model_terms.specs.Computing.{Computes}
use Rattle.model_terms.specs.Stores.{ProgVar, as_var, sort_of}
use Rattle.model_formulas.specs.Formulas.{Named, conjunction, disjunction, equality}
use Rattle.model_formulas.specs.Nameless.{nameless}
use Rattle.model_formulas.specs.Substitution.{formula_with, replacing}
use Rattle.model_commands.specs.Commands.{Command, skip, block, assign, create_node, node_name, child_nodes, parent_node, list_item, append_child, remove_child, insert_before, if_else, while_do, local, call, Block, stop, ◌then◌}
use Rattle.model_commands.specs.CommandParts.{commands_in, commands_of}
use Rattle.model_commands.specs.SortTests.{is_sorted, fits_alone}
use Rattle.model_commands.specs.Theories.{Procedures}
use Rattle.model_commands.proofs.Sorting.{sorted-command, rest-tested}
use Rattle.model_weakest.specs.Rows.{written_removed, written_inserted}
use Rattle.model_weakest.specs.Straight.{goes_straight, is_straight}
use Rattle.model_weakest.specs.Written.{put, at, appending, new_sorts, new_sorts_of, written, written_of}
use Rattle.weakest_laws.specs.Table.{weakest, weakest_of}
use Rattle.weakest_laws.proofs.WrittenRows.{NoneFree}
use Rattle.weakest_laws.proofs.WrittenTable.{row-assign, row-name, row-children, row-parent, row-item, row-create, row-append, row-remove, row-insert}
use Rattle.weakest_laws.proofs.Avoiding.{Avoids, computed-avoids, one-not-free, two-not-free}
use Rattle.weakest_laws.proofs.Putting.{put-avoids, put-nameless}
use Rattle.weakest_laws.proofs.RowsAvoid.{assign-avoids, name-avoids, children-avoids, parent-avoids, item-avoids, create-avoids, moving-avoids, appended-avoids, removed-avoids, inserted-avoids}
use Rattle.weakest_laws.proofs.NewNames.{Distinct, at-drop, length-dropped, distinct-drop, differ-at, earlier-not}

-- the formula avoids the names from this place on
abbrev pub Left : List Name → ℕ → Named → Type 0
Left names n q = (k : ℕ) → n ≤ k → k < length names → Avoids (at names k) q

-- what is said of a command: its formula is the table's, and it leaves the other names
abbrev Written : List Name → Command → Named → Type 0
Written names c q =
    (nameless (written names c q) ≡ weakest c (nameless q))
    × Left names (length (new_sorts c)) (written names c q)

module _ (names : List Name) (d : Distinct names) (q : Named) (free : Left names 0 q) where
  -- a name that is left is none of those before
  abbrev Others : ℕ → ℕ → Type 0
  Others n k = (i : ℕ) → nat_lt i n ≡ true → at names i ≡ at names k → ⊥

  others : (n k : ℕ) → n ≤ k → k < length names → Others n k
  others = earlier-not names d

  -- VALUES
  module _ (x : ProgVar) (some : 0 < length names) where
    abbrev v : Name
    v = at names 0

    abbrev with_v : Named
    with_v = put x v q

    avoids_v : Avoids v q
    avoids_v = free 0 (omega arith) some

    is : nameless with_v ≡ formula_with
        (replacing (as_var x) (variable (logic v (value (sort_of x))))) (nameless q)
    is = put-nameless x v q avoids_v

    new : NoneFree (logic v (value (sort_of x)) ∷ []) (nameless q)
    new = one-not-free v (value (sort_of x)) q avoids_v

    left : (k : ℕ) → k < length names → (at names 0 ≡ at names k → ⊥)
        → Avoids (at names k) with_v
    left k high other = put-avoids x v (at names k) other q (free k (omega arith) high)

    assigned : (t : Term) → Computes (sort_of x) t → Written names (assign x t) q
    assigned t so = (
      row-assign x v (nameless q) with_v is new t so,
      λ k low high. let o = others 1 k low high in
          assign-avoids (at names k) x v with_v (o 0 refl) (left k high (o 0 refl)) t so,
    )

    named : 2 ≤ length names → (t : Term) → Computes node_sort t
        → Written names (node_name x t) q
    named enough t so = (
      row-name x v (nameless q) with_v is new (at names 1)
          (differ-at names d 2 (1 ∷ 0 ∷ []) enough refl) t so,
      λ k low high. let o = others 2 k low high in
          name-avoids (at names k) x v with_v (o 0 refl) (left k high (o 0 refl)) (at names 1)
          (o 1 refl) t so,
    )

    children : 2 ≤ length names → (t : Term) → Computes node_sort t
        → Written names (child_nodes x t) q
    children enough t so = (
      row-children x v (nameless q) with_v is new (at names 1)
          (differ-at names d 2 (1 ∷ 0 ∷ []) enough refl) t so,
      λ k low high. let o = others 2 k low high in
          children-avoids (at names k) x v with_v (o 0 refl) (left k high (o 0 refl)) (at names 1)
          (o 1 refl) t so,
    )

    parent : 7 ≤ length names → (t : Term) → Computes node_sort t
        → Written names (parent_node x t) q
    parent enough t so = (
      row-parent x v (nameless q) with_v is new (at names 1) (at names 2) (at names 3)
          (at names 4) (at names 5) (at names 6)
          (differ-at names d 7 (6 ∷ 5 ∷ 4 ∷ 3 ∷ 2 ∷ 1 ∷ 0 ∷ []) enough refl) t so,
      λ k low high. let o = others 7 k low high in
          parent-avoids (at names k) x v with_v (o 0 refl) (left k high (o 0 refl)) (at names 1)
          (at names 2) (at names 3) (at names 4) (at names 5) (at names 6) (o 1 refl) (o 2 refl)
          (o 3 refl) (o 4 refl) (o 5 refl) (o 6 refl) t so,
    )

    item : 8 ≤ length names → (t u : Term) → Computes list_sort t → Computes int_sort u
        → Written names (list_item x t u) q
    item enough t u so so' = (
      row-item x v (nameless q) with_v is new (at names 1) (at names 2) (at names 3)
          (at names 4) (at names 5) (at names 6) (at names 7)
          (differ-at names d 8 (7 ∷ 6 ∷ 5 ∷ 4 ∷ 3 ∷ 2 ∷ 1 ∷ 0 ∷ []) enough refl) t u so so',
      λ k low high. let o = others 8 k low high in
          item-avoids (at names k) x v with_v (o 0 refl) (left k high (o 0 refl)) (at names 1)
          (at names 2) (at names 3) (at names 4) (at names 5) (at names 6) (at names 7) (o 1 refl)
          (o 2 refl) (o 3 refl) (o 4 refl) (o 5 refl) (o 6 refl) (o 7 refl) t u so so',
    )

    is-with : (s : ValueSort) → sort_of x ≡ s → nameless with_v
        ≡ formula_with (replacing (as_var x) (variable (logic v (value s)))) (nameless q)
    is-with s sort =
        subst (λ u. nameless with_v
        ≡ formula_with (replacing (as_var x) (variable (logic v (value u)))) (nameless q)) sort is

    created : 2 ≤ length names → sort_of x ≡ node_sort → (t : Term) → Computes str_sort t
        → Written names (create_node x t) q
    created enough node t so = (
      row-create x v (at names 1) (nameless q) with_v node (is-with node_sort node)
          (two-not-free (at names 1) v (value list_sort) (value node_sort) q
          (free 1 (omega arith) (omega (arith, enough))) avoids_v)
          (differ-at names d 2 (1 ∷ 0 ∷ []) enough refl) t so,
      λ k low high. let o = others 2 k low high in
          create-avoids (at names k) x v with_v (o 0 refl) (left k high (o 0 refl)) (at names 1)
          (o 1 refl) t so,
    )

  -- THE MOVES
  module _ (a b : Term) (sa : Computes node_sort a) (sb : Computes node_sort b)
      (some : 0 < length names)
    where
      abbrev r : Name
      r = at names 0

      new_grove : NoneFree (logic r (shape grove) ∷ []) (nameless q)
      new_grove = one-not-free r (shape grove) q (free 0 (omega arith) some)

      appending-avoids : (w : Name) → ((i : ℕ) → nat_lt i 8 ≡ true → at names i ≡ w → ⊥)
          → Avoids w (appending names a b)
      appending-avoids w o =
          appended-avoids w r (o 0 refl) a b sa sb (at names 1) (at names 2) (at names 3)
          (at names 4) (at names 5) (at names 6) (at names 7) (o 1 refl) (o 2 refl) (o 3 refl)
          (o 4 refl) (o 5 refl) (o 6 refl) (o 7 refl)

      appended : 8 ≤ length names → Written names (append_child a b) q
      appended enough = (
        row-append r q new_grove a b sa sb (at names 1) (at names 2) (at names 3) (at names 4)
            (at names 5) (at names 6) (at names 7)
            (differ-at names d 8 (7 ∷ 6 ∷ 5 ∷ 4 ∷ 3 ∷ 2 ∷ 1 ∷ 0 ∷ []) enough refl),
        λ k low high. let o = others 8 k low high in
            moving-avoids (at names k) r (o 0 refl) (appending names a b) q
            (appending-avoids (at names k) o) (free k (omega arith) high),
      )

      removed : 9 ≤ length names → Written names (remove_child a b) q
      removed enough = (
        row-remove r q new_grove a b sa sb (at names 1) (at names 2) (at names 3) (at names 4)
            (at names 5) (at names 6) (at names 7) (at names 8)
            (differ-at names d 9 (8 ∷ 7 ∷ 6 ∷ 5 ∷ 4 ∷ 3 ∷ 2 ∷ 1 ∷ 0 ∷ []) enough refl),
        λ k low high. let o = others 9 k low high in
            moving-avoids (at names k) r (o 0 refl)
            (written_removed a b r (at names 1) (at names 2) (at names 3) (at names 4) (at names 5)
            (at names 6) (at names 7) (at names 8)) q
            (removed-avoids (at names k) r (o 0 refl) a b sa sb (at names 1) (at names 2)
            (at names 3) (at names 4) (at names 5) (at names 6) (at names 7) (at names 8) (o 1 refl)
            (o 2 refl) (o 3 refl) (o 4 refl) (o 5 refl) (o 6 refl) (o 7 refl) (o 8 refl))
            (free k (omega arith) high),
      )

      module _ (g : Term) (sg : Computes node_sort g) (enough : 19 ≤ length names) where
        abbrev inserted_part : Named
        inserted_part =
            written_inserted a b g r (at names 8) (at names 9) (at names 10) (at names 11)
            (at names 12) (at names 13) (at names 14) (at names 15) (at names 16) (at names 17)
            (at names 18)

        inserting-avoids : (w : Name) → ((i : ℕ) → nat_lt i 19 ≡ true → at names i ≡ w → ⊥)
            → Avoids w inserted_part
        inserting-avoids w o =
            inserted-avoids w r (o 0 refl) a b sa sb g sg (at names 8) (at names 9) (at names 10)
            (at names 11) (at names 12) (at names 13) (at names 14) (at names 15) (at names 16)
            (at names 17) (at names 18) (o 8 refl) (o 9 refl) (o 10 refl) (o 11 refl) (o 12 refl)
            (o 13 refl) (o 14 refl) (o 15 refl) (o 16 refl) (o 17 refl) (o 18 refl)

        inserted_is : nameless (written names (insert_before a b g) q)
            ≡ weakest (insert_before a b g) (nameless q)
        inserted_is =
            row-insert r q new_grove a b sa sb g sg (at names 1) (at names 2) (at names 3)
            (at names 4) (at names 5) (at names 6) (at names 7) (at names 8) (at names 9)
            (at names 10) (at names 11) (at names 12) (at names 13) (at names 14) (at names 15)
            (at names 16) (at names 17) (at names 18)
            (differ-at names d 8 (7 ∷ 6 ∷ 5 ∷ 4 ∷ 3 ∷ 2 ∷ 1 ∷ 0 ∷ []) (omega (arith, enough)) refl)
            (differ-at names d 19
            (18 ∷ 17 ∷ 16 ∷ 15 ∷ 14 ∷ 13 ∷ 12 ∷ 11 ∷ 10 ∷ 9 ∷ 8 ∷ 0 ∷ []) enough refl)

        -- both cases of the row, where g is null and where it isn't
        abbrev cases : Named
        cases =
            disjunction (conjunction (equality g (literal null)) (appending names a b))
            inserted_part

        cases-avoid : (k : ℕ) → 19 ≤ k → k < length names → Avoids (at names k) cases
        cases-avoid k low high =
            let term = computed-avoids (at names k) node_sort g sg in
            let first =
            appending-avoids (at names k) (others 8 k (omega (arith, low)) high) in
            (((term, tt), first), inserting-avoids (at names k) (others 19 k low high))

        inserted : Written names (insert_before a b g) q
        inserted = (
          inserted_is,
          λ k low high. moving-avoids (at names k) r (others 19 k low high 0 refl) cases q
              (cases-avoid k low high) (free k (omega arith) high),
        )

-- two lists of commands that pass a test
both : (test : Command → Bool) (a b : List Command) → list_all test (a ++ b) ≡ true
    → (list_all test a ≡ true) × (list_all test b ≡ true)
both test a b h =
    both_true (list_all test a) (list_all test b) (sym (list_all-append test a b) ∙ h)

module _ (ps : Procedures) where
  -- what the names that are dropped leave
  left-drop : (n : ℕ) (names : List Name) (p : Named) → n ≤ length names → Left names n p
      → Left (drop n names) 0 p
  left-drop n names p enough left k low high =
      subst (λ w. Avoids w p) (sym (at-drop n names k))
      (left (n + k) (omega arith) (omega (arith, high, length-dropped n names enough)))

  left-whole : (n m : ℕ) (names : List Name) (p : Named) → n ≤ length names
      → Left (drop n names) m p → (k : ℕ) → n + m ≤ k → k < length names → Avoids (at names k) p
  left-whole n m names p enough left k low high =
      subst (λ w. Avoids w p) (at-drop n names (k - n) ∙ ap (at names) back)
      (left (k - n) (omega (arith, low)) (omega (arith, low, high, length-dropped n names enough)))
    where
      back : n + (k - n) ≡ k
      back = omega (arith, low)

  mutual
    pub command-written : (c : Command) → is_straight c ≡ true → is_sorted ps c ≡ true
        → (names : List Name) → Distinct names → length (new_sorts c) ≤ length names → (q : Named)
        → Left names 0 q → Written names c q
    command-written skip s fits names d n q free = (refl, free)
    command-written (block b) s fits names d n q free =
        block-written b s (rest-tested ps (block b) (commands_of b) fits) names d n q free
    command-written (assign x t) s fits names d n q free =
        assigned names d q free x n t (sorted-command ps (assign x t) fits)
    command-written (create_node x t) s fits names d n q free =
        let so = sorted-command ps (create_node x t) fits in
        created names d q free x (omega (arith, n)) n so.0 t so.1
    command-written (node_name x t) s fits names d n q free =
        named names d q free x (omega (arith, n)) n t (sorted-command ps (node_name x t) fits).1
    command-written (child_nodes x t) s fits names d n q free =
        children names d q free x (omega (arith, n)) n t
        (sorted-command ps (child_nodes x t) fits).1
    command-written (parent_node x t) s fits names d n q free =
        parent names d q free x (omega (arith, n)) n t
        (sorted-command ps (parent_node x t) fits).1
    command-written (list_item x t u) s fits names d n q free =
        let so = sorted-command ps (list_item x t u) fits in
        item names d q free x (omega (arith, n)) n t u so.1 so.2
    command-written (append_child a b) s fits names d n q free =
        let so = sorted-command ps (append_child a b) fits in
        appended names d q free a b so.0 so.1 (omega (arith, n)) n
    command-written (remove_child a b) s fits names d n q free =
        let so = sorted-command ps (remove_child a b) fits in
        removed names d q free a b so.0 so.1 (omega (arith, n)) n
    command-written (insert_before a b g) s fits names d n q free =
        let so = sorted-command ps (insert_before a b g) fits in
        inserted names d q free a b so.0 so.1 (omega (arith, n)) g so.2 n
    command-written (if_else c a b) s fits names d n q free = absurd (false≢true s)
    command-written (while_do c b) s fits names d n q free = absurd (false≢true s)
    command-written (local x b) s fits names d n q free = absurd (false≢true s)
    command-written (call xs f es) s fits names d n q free = absurd (false≢true s)

    block-written : (b : Block) → list_all goes_straight (commands_of b) ≡ true
        → list_all (fits_alone ps) (commands_of b) ≡ true → (names : List Name) → Distinct names
        → length (new_sorts_of b) ≤ length names → (q : Named) → Left names 0 q
        → (nameless (written_of names b q) ≡ weakest_of b (nameless q))
        × Left names (length (new_sorts_of b)) (written_of names b q)
    block-written stop s fits names d n q free = (refl, free)
    block-written (c then b) s fits names d n q free =
        let straight = both goes_straight (commands_in c) (commands_of b) s in
        let sorted = both (fits_alone ps) (commands_in c) (commands_of b) fits in
        let m : ℕ = length (new_sorts_of b) in
        let whole : length (new_sorts_of b ++ new_sorts c) ≡ m + length (new_sorts c) =
        length-append (new_sorts_of b) (new_sorts c) in
        let within : m ≤ length names = omega (arith, n, whole) in
        let inner = block-written b straight.1 sorted.1 names d within q free in
        let p : Named = written_of names b q in
        let outer = command-written c straight.0 sorted.0 (drop m names)
        (distinct-drop m names within d)
        (omega (arith, n, whole, length-dropped m names within)) p
        (left-drop m names p within inner.1) in (
          outer.0 ∙ ap (weakest c) inner.0,
          λ k low high. left-whole m (length (new_sorts c)) names (written (drop m names) c p)
              within outer.1 k (omega (arith, low, whole)) high,
        )
