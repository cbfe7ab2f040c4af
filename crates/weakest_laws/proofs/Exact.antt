-- The formula of a straight-line command is met exactly where its weakest precondition is.
use Rattle.std.proofs.Common.{◌≡◌, ◌↔◌, List, [], ◌∷◌, ◌++◌, Bool, true, refl, sym, ◌∙◌, subst}
use Rattle.std.specs.List.{list_all}
use Rattle.std.proofs.lemmas.List.Folds.{list_all-append}
use Rattle.model_shapes.specs.Shapes.{Shaped}
use Rattle.model_shapes.specs.Sorts.{value, shape, grove}
use Rattle.model_shapes.specs.Trees.{Trees}
use Rattle.model_shapes.specs.Things.{val}
use Rattle.model_shapes.proofs.Truth.{both_true, false≢true}
use Rattle.model_terms.specs.Terms.{Term}
use Rattle.model_terms.specs.Stores.{ProgVar, sort_of, Store, set, value_of, lookup, ProperStore, text_in}
use Rattle.model_terms.proofs.StoreLaws.{value-fits}
use Rattle.model_formulas.specs.Formulas.{Formula, equality}
use Rattle.model_formulas.specs.Satisfaction.{Environment, choosing, with_store}
use Rattle.model_commands.specs.Commands.{Command, skip, block, assign, create_node, node_name, child_nodes, parent_node, list_item, append_child, remove_child, insert_before, if_else, while_do, local, call, Block, stop, ◌then◌}
use Rattle.model_commands.specs.CommandParts.{commands_in, commands_of}
use Rattle.model_commands.specs.Sorting.{Sorted}
use Rattle.model_commands.specs.SortTests.{is_sorted, fits_alone, BodiesSorted}
use Rattle.model_commands.specs.Theories.{Procedures}
use Rattle.model_commands.proofs.Sorting.{sorted-command, rest-tested}
use Rattle.model_groves.specs.Groves.{node_at, list_at}
use Rattle.model_groves.specs.Picks.{Pick}
use Rattle.model_machine.specs.Fitting.{Fine}
use Rattle.model_machine.specs.Machine.{no_node, no_list, Piece, run, Move, becomes, faults, bad_pick, move, pieces_of}
use Rattle.model_machine.proofs.EachMove.{each-reading, each-creating, each-appending, each-removing, each-inserting}
use Rattle.model_machine.proofs.Fine.{FineMove, move-fine}
use Rattle.triple_laws.proofs.OneStep.{Lands}
use Rattle.model_weakest.specs.Weakest.{MeetsWith, MeetsWeakest}
use Rattle.model_weakest.specs.Straight.{goes_straight, is_straight}
use Rattle.weakest_laws.specs.Table.{at, weakest, weakest_of}
use Rattle.weakest_laws.proofs.Taking.{value-is, stands-for, taken, take}
use Rattle.weakest_laws.proofs.Steps.{Well, rests, rested, steps, stepped, AtOnce, landed, lands}
use Rattle.weakest_laws.proofs.Rows.{any_pick, stable-landing}
use Rattle.weakest_laws.proofs.ReadRows.{name-lands, name-meets, children-lands, children-meets}
use Rattle.weakest_laws.proofs.ParentRow.{parent-lands, parent-meets}
use Rattle.weakest_laws.proofs.ItemRow.{item-lands, item-meets}
use Rattle.weakest_laws.proofs.CreateRow.{create-lands, create-meets}
use Rattle.weakest_laws.proofs.AppendRow.{append-lands, append-meets}
use Rattle.weakest_laws.proofs.RemoveRow.{remove-lands, remove-meets}
use Rattle.weakest_laws.proofs.InsertRow.{insert-lands, insert-meets}

module _ (ps : Procedures) where
  -- where a move lands may be said otherwise of stores and groves that fit
  said-otherwise : (J K : Store → Trees → Type 0)
      → ((st : Store) (g : Trees) → Fine st g → J st g → K st g)
      → (m : Move) → FineMove ps m → Lands J m → Lands K m
  said-otherwise J K f (becomes ys st g) fine h = (h.0, f st g fine.1 h.1)
  said-otherwise J K f (faults k) fine h = h
  said-otherwise J K f bad_pick fine h = h

module _ (ps : Procedures) (bodies : BodiesSorted ps) (e : Environment) where
  -- the formula is met exactly where each run of the pieces goes well
  abbrev Agrees : Formula → (Store → Trees → Type 0) → List Piece → Type 0
  Agrees q K pieces =
      (st : Store) (g : Trees) → Fine st g
      → (MeetsWith q e st g → Well ps K pieces st g) × (Well ps K pieces st g → MeetsWith q e st g)

  -- a command of one step
  single : (c : Command) → is_sorted ps c ≡ true → (q : Formula)
      → ((k : Pick) (st : Store) (g : Trees) → AtOnce ps (move ps k (run c) st g))
      → ((st : Store) (g : Trees) → Fine st g → MeetsWith (weakest c q) e st g → (k : Pick)
      → Lands (MeetsWith q e) (move ps k (run c) st g))
      → ((st : Store) (g : Trees) → Fine st g
      → ((k : Pick) → Lands (MeetsWith q e) (move ps k (run c) st g))
      → MeetsWith (weakest c q) e st g)
      → (K : Store → Trees → Type 0) (rest : List Piece) → Agrees q K rest
      → Agrees (weakest c q) K (run c ∷ rest)
  single c fits q once there back K rest agree st g fine = (
    λ m. steps ps K (run c) rest st g (λ k. landed ps K rest (move ps k (run c) st g)
        (said-otherwise ps (MeetsWith q e) (Well ps K rest) (λ st' g' f. (agree st' g' f).0)
        (move ps k (run c) st g) (move-fine ps bodies k (run c) st g fits fine)
        (there st g fine m k))),
    λ w. back st g fine (λ k. said-otherwise ps (Well ps K rest) (MeetsWith q e)
        (λ st' g' f. (agree st' g' f).1)
        (move ps k (run c) st g) (move-fine ps bodies k (run c) st g fits fine)
        (lands ps K rest (move ps k (run c) st g) (once k st g)
        (stepped ps K (run c) rest st g w k))),
  )

  -- ASSIGNMENT
  module _ (x : ProgVar) (t : Term) (fits : is_sorted ps (assign x t) ≡ true) (q : Formula)
      (st : Store) (g : Trees) (fine : Fine st g)
    where
      so : Sorted ps (assign x t)
      so = sorted-command ps (assign x t) fits

      assign-lands : MeetsWith (weakest (assign x t) q) e st g → (k : Pick)
          → Lands (MeetsWith q e) (move ps k (run (assign x t)) st g)
      assign-lands m k =
          taken e st (Lands (MeetsWith q e) (move ps k (run (assign x t)) st g))
          (stable-landing ps q e (move ps k (run (assign x t)) st g)) x
          (equality (at 0 (value (sort_of x))) t) q (shape grove) g m (λ w f is mq. (
            refl,
            subst (λ z. MeetsWith q e (set x z st) g)
                (sym (value-is (sort_of x) t st (choosing (val w) (with_store (lookup st) e))
                (λ z u. refl) so is)) mq,
          ))

      assign-meets : ((k : Pick) → Lands (MeetsWith q e) (move ps k (run (assign x t)) st g))
          → MeetsWith (weakest (assign x t) q) e st g
      assign-meets h =
          take e st x (equality (at 0 (value (sort_of x))) t) q
          (shape grove) g (value_of st t) (value-fits (sort_of x) t st so fine.proper)
          (stands-for (sort_of x) t st
          (choosing (val (value_of st t)) (with_store (lookup st) e)) (λ z u. refl) so refl)
          (h any_pick).1

  -- two lists of commands that pass a test
  both : (test : Command → Bool) (a b : List Command) → list_all test (a ++ b) ≡ true
      → (list_all test a ≡ true) × (list_all test b ≡ true)
  both test a b h =
      both_true (list_all test a) (list_all test b) (sym (list_all-append test a b) ∙ h)

  mutual
    pub exact : (c : Command) → is_straight c ≡ true → is_sorted ps c ≡ true → (q : Formula)
        (K : Store → Trees → Type 0) (rest : List Piece) → Agrees q K rest
        → Agrees (weakest c q) K (run c ∷ rest)
    exact skip s fits q =
        single skip fits q (λ k st g. refl) (λ st g f m k. (refl, m))
        (λ st g f h. (h any_pick).1)
    exact (block b) s fits q = λ K rest agree st g fine.
        let inner = exact_block b s (rest-tested ps (block b) (commands_of b) fits) q K rest agree
        st g fine in (
          λ m. steps ps K (run (block b)) rest st g (λ k. inner.0 m),
          λ w. inner.1 (stepped ps K (run (block b)) rest st g w any_pick),
        )
    exact (assign x t) s fits q =
        single (assign x t) fits q (λ k st g. refl) (assign-lands x t fits q)
        (assign-meets x t fits q)
    exact (create_node x t) s fits q =
        single (create_node x t) fits q
        (λ k st g. each-creating (AtOnce ps) (λ f. tt) tt (λ st g. refl) k x
        (text_in (value_of st t)) st g)
        (λ st g f. create-lands ps q e st g f x t fits)
        (λ st g f. create-meets ps q e st g f x t fits)
    exact (node_name x t) s fits q =
        single (node_name x t) fits q
        (λ k st g. each-reading (AtOnce ps) (λ f. tt) tt (λ st g. refl)
        (node_at (value_of st t) g) no_node _ x st g)
        (λ st g f. name-lands ps bodies q e st g f x t fits)
        (λ st g f. name-meets ps bodies q e st g f x t fits)
    exact (child_nodes x t) s fits q =
        single (child_nodes x t) fits q
        (λ k st g. each-reading (AtOnce ps) (λ f. tt) tt (λ st g. refl)
        (node_at (value_of st t) g) no_node _ x st g)
        (λ st g f. children-lands ps bodies q e st g f x t fits)
        (λ st g f. children-meets ps bodies q e st g f x t fits)
    exact (parent_node x t) s fits q =
        single (parent_node x t) fits q
        (λ k st g. each-reading (AtOnce ps) (λ f. tt) tt (λ st g. refl)
        (node_at (value_of st t) g) no_node _ x st g)
        (λ st g f. parent-lands ps bodies q e st g f x t fits)
        (λ st g f. parent-meets ps bodies q e st g f x t fits)
    exact (list_item x t u) s fits q =
        single (list_item x t u) fits q
        (λ k st g. each-reading (AtOnce ps) (λ f. tt) tt (λ st g. refl)
        (list_at (value_of st t) g) no_list _ x st g)
        (λ st g f. item-lands ps bodies q e st g f x t u fits)
        (λ st g f. item-meets ps bodies q e st g f x t u fits)
    exact (append_child a b) s fits q =
        single (append_child a b) fits q
        (λ k st g. each-appending (AtOnce ps) (λ f. tt) tt (λ st g. refl)
        (node_at (value_of st a) g) (node_at (value_of st b) g) st g)
        (λ st g f. append-lands ps q e st g f a b (sorted-command ps (append_child a b) fits))
        (λ st g f. append-meets ps q e st g f a b (sorted-command ps (append_child a b) fits))
    exact (remove_child a b) s fits q =
        single (remove_child a b) fits q
        (λ k st g. each-removing (AtOnce ps) (λ f. tt) tt (λ st g. refl)
        (node_at (value_of st a) g) (node_at (value_of st b) g) st g)
        (λ st g f. remove-lands ps q e st g f a b fits)
        (λ st g f. remove-meets ps q e st g f a b fits)
    exact (insert_before a b d) s fits q =
        single (insert_before a b d) fits q
        (λ k st g. each-inserting (AtOnce ps) st g (λ f. tt) (λ g. refl) (value_of st d)
        (node_at (value_of st a) g) (node_at (value_of st b) g))
        (λ st g f. insert-lands ps q e st g f a b d fits)
        (λ st g f. insert-meets ps q e st g f a b d fits)
    exact (if_else c a b) s fits q = absurd (false≢true s)
    exact (while_do c b) s fits q = absurd (false≢true s)
    exact (local x b) s fits q = absurd (false≢true s)
    exact (call xs f es) s fits q = absurd (false≢true s)

    exact_block : (b : Block) → list_all goes_straight (commands_of b) ≡ true
        → list_all (fits_alone ps) (commands_of b) ≡ true → (q : Formula)
        (K : Store → Trees → Type 0) (rest : List Piece) → Agrees q K rest
        → Agrees (weakest_of b q) K (pieces_of b ++ rest)
    exact_block stop s fits q K rest agree = agree
    exact_block (c then b) s fits q K rest agree =
        let straight = both goes_straight (commands_in c) (commands_of b) s in
        let sorted = both (fits_alone ps) (commands_in c) (commands_of b) fits in
        exact c straight.0 sorted.0 (weakest_of b q) K (pieces_of b ++ rest)
        (exact_block b straight.1 sorted.1 q K rest agree)

-- the whole law
pub weakest-exact : (ps : Procedures) → BodiesSorted ps → (c : Command) → is_straight c ≡ true
    → is_sorted ps c ≡ true → (q : Formula) (e : Environment) (st : Store) → ProperStore st
    → (g : Trees) → Shaped (shape grove) g
    → (MeetsWith (weakest c q) e st g ↔ MeetsWeakest ps c q e st g)
weakest-exact ps bodies c straight fits q e st proper g whole =
    exact ps bodies e c straight fits q (MeetsWith q e) []
    (λ st' g' f. (rests ps (MeetsWith q e) st' g', rested ps (MeetsWith q e) st' g')) st g
    (record { proper = proper; whole = whole })
