-- Each written row is the row of the table.
use Rattle.std.proofs.Common.{◌≡◌, List, [], ◌∷◌, refl, sym, ap, ◌∙◌}
use Rattle.model_shapes.specs.Sorts.{Sort, value, shape, context, node_sort, list_sort, int_sort, str_sort, tree, forest, grove}
use Rattle.model_shapes.specs.Values.{Name}
use Rattle.model_terms.specs.Variables.{Var, logic, var_sort}
use Rattle.model_terms.specs.Terms.{Term, variable}
use Rattle.model_terms.specs.Computing.{Computes}
use Rattle.model_terms.specs.Stores.{ProgVar, named, as_var, sort_of}
use Rattle.model_formulas.specs.Formulas.{Formula, Named, whole, truth, conjunction, disjunction, existential, universal, equality, at_most, empty, bare_hole, node_formula, one_tree, one_root, concatenation, grove_sum, grove_sum_hole, application, hole_adjoint, context_adjoint, same_as, length_is, value_meets}
use Rattle.model_formulas.specs.Substitution.{formula_with, closing, replacing}
use Rattle.model_formulas.specs.Nameless.{nameless, walked}
use Rattle.model_terms.specs.Terms.{literal}
use Rattle.model_shapes.specs.Values.{null, int}
use Rattle.std.specs.Prelude.{negsuc}
use Rattle.model_commands.specs.Commands.{assign, create_node, node_name, child_nodes, parent_node, list_item, append_child, remove_child, insert_before}
use Rattle.weakest_laws.specs.Table.{weakest, below, appended, inserted}
use Rattle.weakest_laws.proofs.Apart.{IsNew, Differ}
use Rattle.model_weakest.specs.Rows.{node_of, str_of, list_of, int_of, tree_of, forest_of, grove_of, context_of, value_for, written_taking, written_name, written_children, written_parent, written_item, written_create, written_appended, written_removed, written_inserted, written_moving}
use Rattle.weakest_laws.proofs.WrittenRows.{Apart, AllApart, placed, plain-stays, under-one, NoneFree, put-in, put-below}

same-names : (n m : Name) (s u : Sort) → logic m u ≡ logic n s → n ≡ m
same-names n m s u e = cc

-- variables with these names
abbrev variables : List (Name × Sort) → List Var
variables [] = []
variables (x ∷ xs) = logic x.0 x.1 ∷ variables xs

abbrev names_of : List (Name × Sort) → List Name
names_of [] = []
names_of (x ∷ xs) = x.0 ∷ names_of xs

new-apart : (n : Name) (s : Sort) (xs : List (Name × Sort)) → IsNew n (names_of xs)
    → Apart (logic n s) (variables xs)
new-apart n s [] new = tt
new-apart n s (x ∷ xs) new =
    ((λ e. new.0 (same-names n x.0 s x.1 e)), new-apart n s xs new.1)

-- of different names they are apart
differ-apart : (xs : List (Name × Sort)) → Differ (names_of xs) → AllApart (variables xs)
differ-apart [] d = tt
differ-apart (x ∷ xs) d = (new-apart x.0 x.1 xs d.0, differ-apart xs d.1)

sort-as : (x : ProgVar) → value (sort_of x) ≡ var_sort (as_var x)
sort-as (named y s) = refl

-- q is Q with $v for x
module _ (x : ProgVar) (v : Name) (p : Formula) (q : Named)
    (is : nameless q ≡ formula_with (replacing (as_var x) (variable (value_for x v))) p)
    (new : NoneFree (value_for x v ∷ []) p)
  where
    abbrev V : Var
    V = value_for x v

    put : walked (V ∷ []) q ≡ formula_with (closing (as_var x)) p
    put = put-in (as_var x) V p q is (sort-as x) new

    pub row-assign : (t : Term) → Computes (sort_of x) t
        → nameless (written_taking x v (equality (variable V) t) q) ≡ weakest (assign x t) p
    row-assign t so = λ j. existential (value (sort_of x)) (conjunction
        (equality (placed 0 (V ∷ []) V (tt, tt) refl j)
        (plain-stays (sort_of x) t (V ∷ []) tt so j))
        (put j))

    pub row-name : (l : Name) → Differ (l ∷ v ∷ []) → (t : Term) → Computes node_sort t
        → nameless (written_taking x v (written_name x v t l) q) ≡ weakest (node_name x t) p
    row-name l d t so =
        let xs : List Var = list_of l ∷ V ∷ [] in
        let a : AllApart xs =
        differ-apart ((l, value list_sort) ∷ (v, value (sort_of x)) ∷ []) d in
        λ j. existential (value (sort_of x)) (conjunction
        (existential (value list_sort) (application tree truth
        (node_formula (placed 1 xs V a refl j) (plain-stays node_sort t xs tt so j) truth
        (placed 0 xs (list_of l) a refl j))))
        (put j))

    pub row-children : (s : Name) → Differ (s ∷ v ∷ []) → (t : Term) → Computes node_sort t
        → nameless (written_taking x v (written_children x v t s) q) ≡ weakest (child_nodes x t) p
    row-children s d t so =
        let xs : List Var = str_of s ∷ V ∷ [] in
        let a : AllApart xs =
        differ-apart ((s, value str_sort) ∷ (v, value (sort_of x)) ∷ []) d in
        λ j. existential (value (sort_of x)) (conjunction
        (existential (value str_sort) (application tree truth
        (node_formula (placed 0 xs (str_of s) a refl j) (plain-stays node_sort t xs tt so j) truth
        (placed 1 xs V a refl j))))
        (put j))

    pub row-parent : (s t l m t' m' : Name) → Differ (m' ∷ t' ∷ m ∷ l ∷ t ∷ s ∷ v ∷ [])
        → (f : Term) → Computes node_sort f
        → nameless (written_taking x v (written_parent x v f s t l m t' m') q)
        ≡ weakest (parent_node x f) p
    row-parent s t l m t' m' d f so =
        let xs : List Var = list_of m ∷ list_of l ∷ str_of t ∷ str_of s ∷ V ∷ [] in
        let a : AllApart xs =
        differ-apart ((m, value list_sort) ∷ (l, value list_sort) ∷ (t, value str_sort)
        ∷ (s, value str_sort) ∷ (v, value (sort_of x)) ∷ []) d.1.1 in
        let ys : List Var = list_of m' ∷ str_of t' ∷ V ∷ [] in
        let b : AllApart ys =
        differ-apart ((m', value list_sort) ∷ (t', value str_sort) ∷ (v, value (sort_of x)) ∷ [])
        ((d.0.0, (d.0.1.1.1.1.1.0, tt)), ((d.1.0.1.1.1.1.0, tt), (tt, tt))) in
        λ j. existential (value (sort_of x)) (conjunction
        (disjunction
        (existential (value str_sort) (existential (value str_sort) (existential (value list_sort)
        (existential (value list_sort) (application tree truth
        (node_formula (placed 3 xs (str_of s) a refl j) (placed 4 xs V a refl j)
        (concatenation whole (concatenation whole truth (one_tree
        (node_formula (placed 2 xs (str_of t) a refl j) (plain-stays node_sort f xs tt so j) truth
        (placed 0 xs (list_of m) a refl j)))) truth)
        (placed 1 xs (list_of l) a refl j)))))))
        (conjunction
        (existential (value str_sort) (existential (value list_sort) (grove_sum (one_root
        (node_formula (placed 1 ys (str_of t') b refl j) (plain-stays node_sort f ys tt so j) truth
        (placed 0 ys (list_of m') b refl j))) truth)))
        (equality (placed 0 (V ∷ []) V (tt, tt) refl j) (literal null))))
        (put j))

    pub row-item : (s i t m s' i' n : Name) → Differ (n ∷ i' ∷ s' ∷ m ∷ t ∷ i ∷ s ∷ v ∷ [])
        → (e f : Term) → Computes list_sort e → Computes int_sort f
        → nameless (written_taking x v (written_item x v e f s i t m s' i' n) q)
        ≡ weakest (list_item x e f) p
    row-item s i t m s' i' n d e f se sf =
        let xs : List Var = list_of m ∷ str_of t ∷ node_of i ∷ str_of s ∷ V ∷ [] in
        let a : AllApart xs =
        differ-apart ((m, value list_sort) ∷ (t, value str_sort) ∷ (i, value node_sort)
        ∷ (s, value str_sort) ∷ (v, value (sort_of x)) ∷ []) d.1.1.1 in
        let ys : List Var = int_of n ∷ node_of i' ∷ str_of s' ∷ V ∷ [] in
        let b : AllApart ys =
        differ-apart ((n, value int_sort) ∷ (i', value node_sort) ∷ (s', value str_sort)
        ∷ (v, value (sort_of x)) ∷ []) (
          (d.0.0, (d.0.1.0, (d.0.1.1.1.1.1.1.0, tt))),
          ((d.1.0.0, (d.1.0.1.1.1.1.1.0, tt)), ((d.1.1.0.1.1.1.1.0, tt), (tt, tt))),
        ) in
        λ j. existential (value (sort_of x)) (conjunction
        (disjunction
        (existential (value str_sort) (existential (value node_sort) (existential (value str_sort)
        (existential (value list_sort) (application tree truth
        (node_formula (placed 3 xs (str_of s) a refl j) (placed 2 xs (node_of i) a refl j)
        (concatenation whole (concatenation whole (length_is (plain-stays int_sort f xs tt sf j))
        (one_tree (node_formula (placed 1 xs (str_of t) a refl j) (placed 4 xs V a refl j) truth
        (placed 0 xs (list_of m) a refl j)))) truth)
        (plain-stays list_sort e xs tt se j)))))))
        (conjunction
        (existential (value str_sort) (existential (value node_sort) (existential (value int_sort)
        (conjunction (application tree truth
        (node_formula (placed 2 ys (str_of s') b refl j) (placed 1 ys (node_of i') b refl j)
        (length_is (placed 0 ys (int_of n) b refl j)) (plain-stays list_sort e ys tt se j)))
        (disjunction
        (at_most (plain-stays int_sort f ys tt sf j) (literal (int (negsuc 0))))
        (at_most (placed 0 ys (int_of n) b refl j) (plain-stays int_sort f ys tt sf j)))))))
        (equality (placed 0 (V ∷ []) V (tt, tt) refl j) (literal null))))
        (put j))

-- createNode
pub row-create : (x : ProgVar) (v m : Name) (p : Formula) (q : Named) → sort_of x ≡ node_sort
    → nameless q ≡ formula_with (replacing (as_var x) (variable (node_of v))) p
    → NoneFree (list_of m ∷ node_of v ∷ []) p → Differ (m ∷ v ∷ []) → (t : Term)
    → Computes str_sort t → nameless (written_create v m t q) ≡ weakest (create_node x t) p
row-create x v m p q node is new d t so =
    let xs : List Var = list_of m ∷ node_of v ∷ [] in
    let a : AllApart xs = differ-apart ((m, value list_sort) ∷ (v, value node_sort) ∷ []) d in
    λ j. universal (value node_sort) (universal (value list_sort) (context_adjoint grove
    (grove_sum_hole (bare_hole grove) (one_root (node_formula (plain-stays str_sort t xs tt so j)
    (placed 1 xs (node_of v) a refl j) (empty forest) (placed 0 xs (list_of m) a refl j))))
    (put-below (as_var x) (node_of v) p q is (list_of m) a.0.0
    (ap value (sym node) ∙ sort-as x) new j)))

-- THE MOVES
module _ (r : Name) (q : Named) (new : NoneFree (grove_of r ∷ []) (nameless q)) (e f : Term)
    (se : Computes node_sort e) (sf : Computes node_sort f)
  where
    -- ($r is Q)
    asked : walked (grove_of r ∷ []) q ≡ below (nameless q)
    asked = under-one (grove_of r) q new

    -- the grove with the tree at the end
    at-end : (c s k l u t m : Name) → Differ (m ∷ t ∷ u ∷ l ∷ k ∷ s ∷ c ∷ r ∷ [])
        → walked (grove_of r ∷ []) (written_appended e f r c s k l u t m) ≡ appended e f
    at-end c s k l u t m d =
        let xs : List Var = tree_of u ∷ list_of l ∷ forest_of k ∷ str_of s ∷ context_of c
        ∷ grove_of r ∷ [] in
        let a : AllApart xs =
        differ-apart ((u, shape tree) ∷ (l, value list_sort) ∷ (k, shape forest)
        ∷ (s, value str_sort) ∷ (c, context tree grove) ∷ (r, shape grove) ∷ []) d.1.1 in
        let ys : List Var = list_of m ∷ str_of t ∷ xs in
        let b : AllApart ys =
        differ-apart ((m, value list_sort) ∷ (t, value str_sort) ∷ (u, shape tree)
        ∷ (l, value list_sort) ∷ (k, shape forest)
        ∷ (s, value str_sort) ∷ (c, context tree grove) ∷ (r, shape grove) ∷ []) d in
        λ j.
        let place_u : Term = placed 0 xs (tree_of u) a refl j in
        let here : Formula = application tree (same_as (placed 4 xs (context_of c) a refl j))
        (node_formula (placed 3 xs (str_of s) a refl j) (plain-stays node_sort e xs tt se j)
        (same_as (placed 2 xs (forest_of k) a refl j)) (placed 1 xs (list_of l) a refl j)) in
        existential (context tree grove) (existential (value str_sort)
        (existential (shape forest) (existential (value list_sort) (existential (shape tree)
        (conjunction
        (conjunction
        (disjunction
        (application forest (hole_adjoint (empty forest) here) (one_tree (same_as place_u)))
        (application grove (hole_adjoint (empty grove) here) (one_root (same_as place_u))))
        (value_meets (shape tree) place_u (existential (value str_sort)
        (existential (value list_sort) (node_formula (placed 1 ys (str_of t) b refl j)
        (plain-stays node_sort f ys tt sf j) truth (placed 0 ys (list_of m) b refl j))))))
        (value_meets (shape grove) (placed 5 xs (grove_of r) a refl j)
        (application tree (same_as (placed 4 xs (context_of c) a refl j))
        (node_formula (placed 3 xs (str_of s) a refl j) (plain-stays node_sort e xs tt se j)
        (concatenation whole (same_as (placed 2 xs (forest_of k) a refl j))
        (one_tree (same_as place_u))) (placed 1 xs (list_of l) a refl j)))))))))

    pub row-append : (c s k l u t m : Name)
        → Differ (m ∷ t ∷ u ∷ l ∷ k ∷ s ∷ c ∷ r ∷ [])
        → nameless (written_moving r (written_appended e f r c s k l u t m) q)
        ≡ weakest (append_child e f) (nameless q)
    row-append c s k l u t m d =
        λ j. existential (shape grove) (conjunction (at-end c s k l u t m d j)
        (value_meets (shape grove) (placed 0 (grove_of r ∷ []) (grove_of r) (tt, tt) refl j)
        (asked j)))

    pub row-remove : (c s k h l u t m : Name)
        → Differ (m ∷ t ∷ u ∷ l ∷ h ∷ k ∷ s ∷ c ∷ r ∷ [])
        → nameless (written_moving r (written_removed e f r c s k h l u t m) q)
        ≡ weakest (remove_child e f) (nameless q)
    row-remove c s k h l u t m d =
        let xs : List Var = tree_of u ∷ list_of l ∷ forest_of h ∷ forest_of k ∷ str_of s
        ∷ context_of c ∷ grove_of r ∷ [] in
        let a : AllApart xs =
        differ-apart ((u, shape tree) ∷ (l, value list_sort) ∷ (h, shape forest)
        ∷ (k, shape forest) ∷ (s, value str_sort) ∷ (c, context tree grove) ∷ (r, shape grove)
        ∷ []) d.1.1 in
        let ys : List Var = list_of m ∷ str_of t ∷ xs in
        let b : AllApart ys =
        differ-apart ((m, value list_sort) ∷ (t, value str_sort) ∷ (u, shape tree)
        ∷ (l, value list_sort) ∷ (h, shape forest) ∷ (k, shape forest)
        ∷ (s, value str_sort) ∷ (c, context tree grove) ∷ (r, shape grove) ∷ []) d in
        λ j.
        let place_u : Term = placed 0 xs (tree_of u) a refl j in
        let first : Formula = same_as (placed 3 xs (forest_of k) a refl j) in
        let last : Formula = same_as (placed 2 xs (forest_of h) a refl j) in
        existential (shape grove) (conjunction
        (existential (context tree grove) (existential (value str_sort)
        (existential (shape forest) (existential (shape forest) (existential (value list_sort)
        (existential (shape tree)
        (conjunction
        (conjunction
        (application tree (same_as (placed 5 xs (context_of c) a refl j))
        (node_formula (placed 4 xs (str_of s) a refl j) (plain-stays node_sort e xs tt se j)
        (concatenation whole (concatenation whole first (one_tree (same_as place_u))) last)
        (placed 1 xs (list_of l) a refl j)))
        (value_meets (shape tree) place_u (existential (value str_sort)
        (existential (value list_sort) (node_formula (placed 1 ys (str_of t) b refl j)
        (plain-stays node_sort f ys tt sf j) truth (placed 0 ys (list_of m) b refl j))))))
        (value_meets (shape grove) (placed 6 xs (grove_of r) a refl j)
        (grove_sum (application tree (same_as (placed 5 xs (context_of c) a refl j))
        (node_formula (placed 4 xs (str_of s) a refl j) (plain-stays node_sort e xs tt se j)
        (concatenation whole first last) (placed 1 xs (list_of l) a refl j)))
        (one_root (same_as place_u)))))))))))
        (value_meets (shape grove) (placed 0 (grove_of r ∷ []) (grove_of r) (tt, tt) refl j)
        (asked j)))

    module _ (g : Term) (sg : Computes node_sort g) where
      -- the grove with the tree before another
      before-other : (c s k h l u w t m t' m' : Name)
          → Differ (m' ∷ t' ∷ m ∷ t ∷ w ∷ u ∷ l ∷ h ∷ k ∷ s ∷ c ∷ r ∷ [])
          → walked (grove_of r ∷ []) (written_inserted e f g r c s k h l u w t m t' m')
          ≡ inserted e f g
      before-other c s k h l u w t m t' m' d =
          let xs : List Var = tree_of w ∷ tree_of u ∷ list_of l ∷ forest_of h ∷ forest_of k
          ∷ str_of s ∷ context_of c ∷ grove_of r ∷ [] in
          let a : AllApart xs =
          differ-apart ((w, shape tree) ∷ (u, shape tree) ∷ (l, value list_sort)
          ∷ (h, shape forest) ∷ (k, shape forest) ∷ (s, value str_sort)
          ∷ (c, context tree grove) ∷ (r, shape grove) ∷ []) d.1.1.1.1 in
          let ys : List Var = list_of m ∷ str_of t ∷ xs in
          let b : AllApart ys =
          differ-apart ((m, value list_sort) ∷ (t, value str_sort) ∷ (w, shape tree)
          ∷ (u, shape tree) ∷ (l, value list_sort)
          ∷ (h, shape forest) ∷ (k, shape forest) ∷ (s, value str_sort)
          ∷ (c, context tree grove) ∷ (r, shape grove) ∷ []) d.1.1 in
          let zs : List Var = list_of m' ∷ str_of t' ∷ xs in
          let b' : AllApart zs =
          differ-apart ((m', value list_sort) ∷ (t', value str_sort) ∷ (w, shape tree)
          ∷ (u, shape tree) ∷ (l, value list_sort)
          ∷ (h, shape forest) ∷ (k, shape forest) ∷ (s, value str_sort)
          ∷ (c, context tree grove) ∷ (r, shape grove) ∷ [])
          ((d.0.0, d.0.1.1.1), (d.1.0.1.1, d.1.1.1.1)) in
          λ j.
          let place_u : Term = placed 1 xs (tree_of u) a refl j in
          let place_w : Term = placed 0 xs (tree_of w) a refl j in
          let first : Formula = same_as (placed 4 xs (forest_of k) a refl j) in
          let last : Formula = same_as (placed 3 xs (forest_of h) a refl j) in
          let here : Formula = application tree (same_as (placed 6 xs (context_of c) a refl j))
          (node_formula (placed 5 xs (str_of s) a refl j) (plain-stays node_sort e xs tt se j)
          (concatenation whole (concatenation whole first (one_tree (same_as place_w))) last)
          (placed 2 xs (list_of l) a refl j)) in
          existential (context tree grove) (existential (value str_sort)
          (existential (shape forest) (existential (shape forest) (existential (value list_sort)
          (existential (shape tree) (existential (shape tree)
          (conjunction
          (conjunction
          (conjunction
          (disjunction
          (application forest (hole_adjoint (empty forest) here) (one_tree (same_as place_u)))
          (application grove (hole_adjoint (empty grove) here) (one_root (same_as place_u))))
          (value_meets (shape tree) place_u (existential (value str_sort)
          (existential (value list_sort) (node_formula (placed 1 ys (str_of t) b refl j)
          (plain-stays node_sort f ys tt sf j) truth (placed 0 ys (list_of m) b refl j))))))
          (value_meets (shape tree) place_w (existential (value str_sort)
          (existential (value list_sort) (node_formula (placed 1 zs (str_of t') b' refl j)
          (plain-stays node_sort g zs tt sg j) truth (placed 0 zs (list_of m') b' refl j))))))
          (value_meets (shape grove) (placed 7 xs (grove_of r) a refl j)
          (application tree (same_as (placed 6 xs (context_of c) a refl j))
          (node_formula (placed 5 xs (str_of s) a refl j) (plain-stays node_sort e xs tt se j)
          (concatenation whole (concatenation whole
          (concatenation whole first (one_tree (same_as place_u)))
          (one_tree (same_as place_w))) last)
          (placed 2 xs (list_of l) a refl j)))))))))))

      pub row-insert : (c s k l u t m c' s' k' h' l' u' w' t' m' t'' m'' : Name)
          → Differ (m ∷ t ∷ u ∷ l ∷ k ∷ s ∷ c ∷ r ∷ [])
          → Differ (m'' ∷ t'' ∷ m' ∷ t' ∷ w' ∷ u' ∷ l' ∷ h' ∷ k' ∷ s' ∷ c' ∷ r ∷ [])
          → nameless (written_moving r (disjunction
          (conjunction (equality g (literal null)) (written_appended e f r c s k l u t m))
          (written_inserted e f g r c' s' k' h' l' u' w' t' m' t'' m'')) q)
          ≡ weakest (insert_before e f g) (nameless q)
      row-insert c s k l u t m c' s' k' h' l' u' w' t' m' t'' m'' d d' =
          λ j. existential (shape grove) (conjunction
          (disjunction (conjunction
          (equality (plain-stays node_sort g (grove_of r ∷ []) tt sg j) (literal null))
          (at-end c s k l u t m d j))
          (before-other c' s' k' h' l' u' w' t' m' t'' m'' d' j))
          (value_meets (shape grove) (placed 0 (grove_of r ∷ []) (grove_of r) (tt, tt) refl j)
          (asked j)))
