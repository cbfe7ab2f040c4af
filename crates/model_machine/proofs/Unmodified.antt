-- Runs keep the values of the variables that a command doesn't change.
use Rattle.std.proofs.Common.{◌≡◌, ◌≢◌, ℕ, zero, suc, List, [], ◌∷◌, ◌++◌, length, Bool, true, false, cond, sym, refl, ◌∙◌, subst, arith, Option, Some, None, append-nil, inl, inr}
use Rattle.model_shapes.specs.Trees.{Trees, none, node, hole, beside, node_uses}
use Rattle.model_shapes.specs.Values.{Value, node_number, list_number, str}
use Rattle.model_terms.specs.Terms.{Term}
use Rattle.model_terms.specs.Stores.{ProgVar, Store, set, value_in, value_of, text_in, default, sort_of, same_name}
use Rattle.model_terms.specs.Conditions.{truth_of}
use Rattle.model_commands.specs.Commands.{Command, skip, block, assign, create_node, node_name, child_nodes, parent_node, list_item, append_child, remove_child, insert_before, if_else, while_do, local, call, Block, stop, ◌then◌, Modifies, BlockModifies, Among}
use Rattle.model_commands.specs.Theories.{Procedure, Procedures, procedure_named}
use Rattle.model_groves.specs.Groves.{nodes_where, has_root, parental, node_at, list_at, first_number, item_of, without, adding, positive}
use Rattle.model_machine.specs.Machine.{FaultKind, no_node, no_list, cycle, not_child, Piece, run, restore, return, becomes, faults, bad_pick, pieces_of, reading, appending, removing, creating, entering, returning, calling, move, configuration, beginning, RunOutcome, running, ended, fault, picked_badly, runs}
use Rattle.model_groves.specs.Picks.{Pick, is_free}
use Rattle.model_machine.specs.ClassicalTriples.{Ends}
use Rattle.model_terms.proofs.StoreLaws.{set-same, set-other, same_name-is, same_name-refl}
use Rattle.model_machine.proofs.EachMove.{each-inserting}
use Rattle.model_machine.proofs.Runs.{Well, WellOn, at_end, at_step, at_zero, followed}

abbrev Any : Store → Trees → Type 0
Any st g = Unit

-- the variable has the value
abbrev pub Has : ProgVar → Value → Store → Trees → Type 0
Has x v st g = value_in st x ≡ v

-- a return leaves what takes no result
pub returning-other : (rs xs : List ProgVar) (callee st : Store) (y : ProgVar) → (Among xs y → ⊥)
    → value_in (returning rs xs callee st) y ≡ value_in st y
returning-other [] [] callee st y n = refl
returning-other [] (x ∷ xs) callee st y n = refl
returning-other (r ∷ rs) [] callee st y n = refl
returning-other (r ∷ rs) (x ∷ xs) callee st y n =
    set-other x (value_in callee r) (returning rs xs callee st) y (λ e. n (inl e))
    ∙ returning-other rs xs callee st y (λ m. n (inr m))

module _ (th : Procedures) where
  any-well : (n : ℕ) (k : List Piece) (st : Store) (g : Trees) → Well th Unit n Any k st g
  any-well n k st g ps l = of_any (runs th ps (configuration k st g))
    where
      of_any : (o : RunOutcome) → Ends Unit Any o
      of_any running = tt
      of_any picked_badly = tt
      of_any (fault f) = tt
      of_any (ended st g) = tt

  module _ (x : ProgVar) (v : Value) where
    abbrev Keeps : ℕ → Type 0
    Keeps n = (c : Command) → (Modifies c x → ⊥) → (st : Store) (g : Trees) → value_in st x ≡ v
        → Well th Unit n (Has x v) (run c ∷ []) st g

    keeps-block : (n : ℕ) → Keeps n → (b : Block) → (BlockModifies b x → ⊥)
        → (st : Store) (g : Trees) → value_in st x ≡ v → Well th Unit n (Has x v) (pieces_of b) st g
    keeps-block n k stop m st g h = at_end th Unit n (Has x v) st g h
    keeps-block n k (c then b) m st g h =
        followed th Unit n (Has x v) (Has x v) (run c ∷ []) (pieces_of b)
        (λ st' g' h'. keeps-block n k b (λ z. m (inr z)) st' g' h') st g
        (k c (λ z. m (inl z)) st g h)

    keeps-set : (n : ℕ) (y : ProgVar) (w : Value) (st : Store) (g : Trees) → (x ≡ y → ⊥)
        → value_in st x ≡ v → Well th Unit n (Has x v) [] (set y w st) g
    keeps-set n y w st g m h = at_end th Unit n (Has x v) (set y w st) g (set-other y w st x m ∙ h)

    keeps-reading : (n : ℕ) (a : Trees) (f : FaultKind) (w : List ℕ → ℕ → Trees → ℕ
        → Value) (y : ProgVar) (st : Store) (g : Trees) → (x ≡ y → ⊥) → value_in st x ≡ v
        → WellOn th Unit n (Has x v) [] (reading a f w y st g)
    keeps-reading n none f w y st g m h = tt
    keeps-reading n (hole r) f w y st g m h = tt
    keeps-reading n (node s i k l r) f w y st g m h = keeps-set n y (w s i k l) st g m h

    keeps-appending : (n : ℕ) (a b : Trees) (st : Store) (g : Trees) → value_in st x ≡ v
        → WellOn th Unit n (Has x v) [] (appending a b st g)
    keeps-appending n none b st g h = tt
    keeps-appending n (hole r) b st g h = tt
    keeps-appending n (node s i k l r) none st g h = tt
    keeps-appending n (node s i k l r) (hole r') st g h = tt
    keeps-appending n (node s i k l r) (node s' j k' l' r') st g h =
        by_test (positive (node_uses i (node s' j k' l' none)))
      where
        by_test : (c : Bool)
            → WellOn th Unit n (Has x v) []
            (cond c (faults cycle) (becomes [] st (adding i (node s' j k' l' none) (without j g))))
        by_test true = tt
        by_test false =
            at_end th Unit n (Has x v) st (adding i (node s' j k' l' none) (without j g)) h

    keeps-removing : (n : ℕ) (a b : Trees) (st : Store) (g : Trees) → value_in st x ≡ v
        → WellOn th Unit n (Has x v) [] (removing a b st g)
    keeps-removing n none b st g h = tt
    keeps-removing n (hole r) b st g h = tt
    keeps-removing n (node s i k l r) none st g h = tt
    keeps-removing n (node s i k l r) (hole r') st g h = tt
    keeps-removing n (node s i k l r) (node s' j k' l' r') st g h = by_test (has_root j k)
      where
        by_test : (c : Bool)
            → WellOn th Unit n (Has x v) []
            (cond c (becomes [] st (beside (without j g) (node s' j k' l' none)))
            (faults not_child))
        by_test false = tt
        by_test true = at_end th Unit n (Has x v) st (beside (without j g) (node s' j k' l' none)) h

    keeps-creating : (n : ℕ) (p : Pick) (y : ProgVar) (s : List ℕ) (st : Store) (g : Trees)
        → (x ≡ y → ⊥) → value_in st x ≡ v → WellOn th Unit n (Has x v) [] (creating p y s st g)
    keeps-creating n p y s st g m h = by_test (is_free p g)
      where
        by_test : (c : Bool)
            → WellOn th Unit n (Has x v) []
            (cond c (becomes [] (set y (node_number p.node) st)
            (beside g (node s p.node none p.list none))) bad_pick)
        by_test false = tt
        by_test true =
            keeps-set n y (node_number p.node) st (beside g (node s p.node none p.list none)) m h

    -- one more piece that sets the store
    last-piece : (n : ℕ) (y : Piece) (st : Store) (g : Trees) (st' : Store)
        → ((p : Pick) → move th p y st g ≡ becomes [] st' g) → value_in st' x ≡ v
        → Well th Unit n (Has x v) (y ∷ []) st g
    last-piece zero y st g st' e h = at_zero th Unit (Has x v) y [] st g
    last-piece (suc n) y st g st' e h =
        at_step th Unit n (Has x v) y [] st g
        (λ p. subst (WellOn th Unit n (Has x v) []) (sym (e p))
        (at_end th Unit n (Has x v) st' g h))

    keeps-calling : (n : ℕ) (o : Option Procedure) (xs : List ProgVar) (es : List Term)
        (st : Store) (g : Trees) → (Among xs x → ⊥) → value_in st x ≡ v
        → WellOn th Unit n (Has x v) [] (calling o xs es st g)
    keeps-calling n None xs es st g m h = at_end th Unit n (Has x v) st g h
    keeps-calling n (Some f) xs es st g m h =
        followed th Unit n Any (Has x v) (run f.body ∷ []) (return st f.results xs ∷ [])
        (λ st' g' a. last-piece n (return st f.results xs) st' g' (returning f.results xs st' st)
        (λ p. refl) (returning-other f.results xs st' st x m ∙ h))
        (entering f.params es st) g (any-well n (run f.body ∷ []) (entering f.params es st) g)

    keeps-local : (n : ℕ) → Keeps n → (y : ProgVar) (b : Block) → ((x ≢ y) × BlockModifies b x → ⊥)
        → (st : Store) (g : Trees) → value_in st x ≡ v
        → (t : Bool) → same_name x y ≡ t
        → Well th Unit n (Has x v) (run (block b) ∷ restore y (value_in st y) ∷ [])
        (set y (default (sort_of y)) st) g
    keeps-local n k y b m st g h true e =
        followed th Unit n Any (Has x v) (run (block b) ∷ []) (restore y (value_in st y) ∷ [])
        (λ st' g' a. last-piece n (restore y (value_in st y)) st' g' (set y (value_in st y) st')
        (λ p. refl)
        (subst (λ z. value_in (set y (value_in st y) st') z ≡ v) (sym (same_name-is x y e))
        (set-same y (value_in st y) st'
        ∙ subst (λ z. value_in st z ≡ v) (same_name-is x y e) h)))
        (set y (default (sort_of y)) st) g
        (any-well n (run (block b) ∷ []) (set y (default (sort_of y)) st) g)
    keeps-local n k y b m st g h false e =
        let other : x ≢ y = λ q. differ q in
        followed th Unit n (Has x v) (Has x v) (run (block b) ∷ []) (restore y (value_in st y) ∷ [])
        (λ st' g' h'. last-piece n (restore y (value_in st y)) st' g' (set y (value_in st y) st')
        (λ p. refl) (set-other y (value_in st y) st' x other ∙ h'))
        (set y (default (sort_of y)) st) g
        (k (block b) (λ z. m (other, z)) (set y (default (sort_of y)) st) g
        (set-other y (default (sort_of y)) st x other ∙ h))
      where
        differ : x ≡ y → ⊥
        differ q = let z : same_name x y ≡ true =
            subst (λ r. same_name x r ≡ true) q (same_name-refl x) in (cc)

    keeps-on : (n : ℕ) → Keeps n → (c : Command) → (Modifies c x → ⊥) → (st : Store) (g : Trees)
        → value_in st x ≡ v → (p : Pick) → WellOn th Unit n (Has x v) [] (move th p (run c) st g)
    keeps-on n k skip m st g h p = at_end th Unit n (Has x v) st g h
    keeps-on n k (block b) m st g h p =
        subst (λ z. Well th Unit n (Has x v) z st g) (sym (append-nil (pieces_of b)))
        (keeps-block n k b m st g h)
    keeps-on n k (assign y e) m st g h p = keeps-set n y (value_of st e) st g m h
    keeps-on n k (create_node y e) m st g h p =
        keeps-creating n p y (text_in (value_of st e)) st g m h
    keeps-on n k (node_name y e) m st g h p =
        keeps-reading n (node_at (value_of st e) g) no_node (λ s i k l. str s) y st g m h
    keeps-on n k (child_nodes y e) m st g h p =
        keeps-reading n (node_at (value_of st e) g) no_node (λ s i k l. list_number l) y st g m h
    keeps-on n k (parent_node y e) m st g h p =
        keeps-reading n (node_at (value_of st e) g) no_node
        (λ s i k l. first_number (nodes_where (parental i) g)) y st g m h
    keeps-on n k (list_item y e f) m st g h p =
        keeps-reading n (list_at (value_of st e) g) no_list
        (λ s i k l. item_of (value_of st f) k) y st g m h
    keeps-on n k (append_child e f) m st g h p =
        keeps-appending n (node_at (value_of st e) g) (node_at (value_of st f) g) st g h
    keeps-on n k (remove_child e f) m st g h p =
        keeps-removing n (node_at (value_of st e) g) (node_at (value_of st f) g) st g h
    keeps-on n k (insert_before e f q) m st g h p =
        each-inserting (WellOn th Unit n (Has x v) []) st g (λ kind. tt)
        (λ g'. at_end th Unit n (Has x v) st g' h) (value_of st q) (node_at (value_of st e) g)
        (node_at (value_of st f) g)
    keeps-on n k (if_else c a b) m st g h p = by_test (truth_of st c)
      where
        by_test : (t : Bool) → Well th Unit n (Has x v) (run (block (cond t a b)) ∷ []) st g
        by_test true = k (block a) (λ z. m (inl z)) st g h
        by_test false = k (block b) (λ z. m (inr z)) st g h
    keeps-on n k (while_do c b) m st g h p = by_test (truth_of st c)
      where
        by_test : (t : Bool)
            → Well th Unit n (Has x v)
            (cond t (run (block b) ∷ run (while_do c b) ∷ []) [] ++ []) st g
        by_test true =
            followed th Unit n (Has x v) (Has x v) (run (block b) ∷ []) (run (while_do c b) ∷ [])
            (λ st' g' h'. k (while_do c b) m st' g' h') st g (k (block b) m st g h)
        by_test false = at_end th Unit n (Has x v) st g h
    keeps-on n k (local y b) m st g h p = keeps-local n k y b m st g h (same_name x y) refl
    keeps-on n k (call xs f es) m st g h p = keeps-calling n (procedure_named f th) xs es st g m h

    -- by the number of steps
    pub keeps : (n : ℕ) → Keeps n
    keeps zero c m st g h = at_zero th Unit (Has x v) (run c) [] st g
    keeps (suc n) c m st g h =
        at_step th Unit n (Has x v) (run c) [] st g (keeps-on n (keeps n) c m st g h)

  -- UNMODIFIED VARIABLES KEEP THEIR VALUES
  pub unmodified : (x : ProgVar) (c : Command) → (Modifies c x → ⊥)
      → (ps : List Pick) (st st' : Store) (g g' : Trees)
      → runs th ps (beginning c st g) ≡ ended st' g' → value_in st' x ≡ value_in st x
  unmodified x c m ps st st' g g' e =
      subst (Ends Unit (Has x (value_in st x))) e
      (keeps x (value_in st x) (length ps) c m st g refl ps (omega arith))
