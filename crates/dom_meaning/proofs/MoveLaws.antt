-- What comes of nodes that are made and of trees that are moved.
use Rattle.std.proofs.Common.{◌≡◌, ◌≢◌, ℕ, List, Option, Some, None, refl, sym, ap, ◌∙◌, subst}
use Rattle.std.specs.Prelude.{Result, Ok, Err}
use Rattle.model_shapes.specs.Trees.{Trees, none, node, hole}
use Rattle.model_shapes.specs.Values.{Value, null, nolist, node_number, list_number, int, str, boolean}
use Rattle.model_terms.specs.Stores.{Store}
use Rattle.model_groves.specs.Groves.{node_at, nodes_where, numbered, parental, first_number}
use Rattle.model_groves.specs.Picks.{Pick}
use Rattle.model_groves.proofs.Groves.{Roots, those-pass, found-number}
use Rattle.model_machine.specs.Changes.{moved, number_in, parent_in}
use Rattle.model_machine.specs.Machine.{Piece, Move, faults, no_node, appending, inserting, inserting_at, removing}
use Rattle.grove_data.specs.Finding.{number_or_null}
use Rattle.dom_meaning.specs.declared.effects.Effect.{Effect}
use Rattle.dom_meaning.specs.declared.effects.Effect.TheVariants as e
use Rattle.dom_meaning.specs.declared.faults.FaultKind.{FaultKind}
use Rattle.dom_meaning.specs.Configs.{pick_of}
use Rattle.dom_meaning.specs.Documents.{Reads, Leads}
use Rattle.dom_meaning.specs.Effects.{Comes, Tells, making, moving, removing_from}
use Rattle.dom_meaning.specs.Faults.{fault_kind_of}

module _ (leaves : Trees → Type 0) (move other : Move) (same : move ≡ other) (store : Store)
    (piece : Piece) where
  -- the move was done
  pub made_comes : (n l : ℕ) → Leads leaves move store
      → Comes leaves other piece store (e.Created n l)
  made_comes n l done = (done.0, sym done.1 ∙ same, done.2)

  pub moved_comes : (n : ℕ) (from : Option ℕ) (to : ℕ) (before : Option ℕ)
      → Leads leaves move store → Comes leaves other piece store (e.Moved n from to before)
  moved_comes n from to before done = (done.0, sym done.1 ∙ same, done.2)

  pub removed_comes : (n from : ℕ) → Leads leaves move store
      → Comes leaves other piece store (e.Removed n from)
  removed_comes n from done = (done.0, sym done.1 ∙ same, done.2)

  -- or it faults
  pub fault_comes : (kind : FaultKind) (grove : Trees) → leaves grove
      → move ≡ faults (fault_kind_of kind) → Comes leaves other piece store (e.Fault kind)
  fault_comes kind grove l is = (grove, sym is ∙ same, l)

-- where a value names no node
module _ (P : Move → Type 0) (a b : Trees) (store : Store) (g : Trees) where
  by_value : (v : Value) → P (appending a b store g)
      → ((d : Trees) → P (inserting a b d store g)) → P (inserting_at v a b store g)
  by_value null x y = x
  by_value (node_number n) x y = y (node_at (node_number n) g)
  by_value nolist x y = y none
  by_value (list_number n) x y = y none
  by_value (int z) x y = y none
  by_value (str s) x y = y none
  by_value (boolean t) x y = y none

pub no_parent_at : (v : Value) (b : Trees) (store : Store) (g : Trees)
    → inserting_at v none b store g ≡ faults no_node
no_parent_at v b store g =
    by_value (λ move. move ≡ faults no_node) none b store g v refl (λ d. refl)

appending-no_child : (a : Trees) (store : Store) (g : Trees)
    → appending a none store g ≡ faults no_node
appending-no_child none store g = refl
appending-no_child (hole r) store g = refl
appending-no_child (node s i k l r) store g = refl

inserting-no_child : (a d : Trees) (store : Store) (g : Trees)
    → inserting a none d store g ≡ faults no_node
inserting-no_child none d store g = refl
inserting-no_child (hole r) d store g = refl
inserting-no_child (node s i k l r) d store g = refl

pub no_child_at : (v : Value) (a : Trees) (store : Store) (g : Trees)
    → inserting_at v a none store g ≡ faults no_node
no_child_at v a store g =
    by_value (λ move. move ≡ faults no_node) a none store g v (appending-no_child a store g)
    (λ d. inserting-no_child a d store g)

appending-hole : (a r : Trees) (store : Store) (g : Trees)
    → appending a (hole r) store g ≡ faults no_node
appending-hole none r store g = refl
appending-hole (hole r') r store g = refl
appending-hole (node s i k l r') r store g = refl

inserting-hole : (a r d : Trees) (store : Store) (g : Trees)
    → inserting a (hole r) d store g ≡ faults no_node
inserting-hole none r d store g = refl
inserting-hole (hole r') r d store g = refl
inserting-hole (node s i k l r') r d store g = refl

pub no_taken : (b : Trees) (store : Store) (g : Trees) → removing none b store g ≡ faults no_node
no_taken b store g = refl

pub no_taken_child : (a : Trees) (store : Store) (g : Trees)
    → removing a none store g ≡ faults no_node
no_taken_child none store g = refl
no_taken_child (hole r) store g = refl
no_taken_child (node s i k l r) store g = refl

-- a child whose parent isn't told isn't moved
pub not_told : {A : Type 0} (seen : A → Value) (read : List ℕ → ℕ → Trees → ℕ → Value)
    (found : Trees) (kind : FaultKind) → Reads {A = A} seen found no_node read (Err kind)
    → (v : Value) (a : Trees) (store : Store) (g : Trees)
    → inserting_at v a found store g ≡ faults (fault_kind_of kind)
not_told seen read none kind reads v a store g = no_child_at v a store g ∙ ap faults (sym reads)
not_told seen read (hole r) kind reads v a store g =
    by_value (λ move. move ≡ faults no_node) a (hole r) store g v (appending-hole a r store g)
    (λ d. inserting-hole a r d store g)
    ∙ ap faults (sym reads)
not_told seen read (node s i k l r) kind reads v a store g = absurd reads

-- the parent that is told is the one that a change tells
pub parent_told : (g : Trees) (child : ℕ) (from : Option ℕ)
    → Reads number_or_null (node_at (node_number child) g) no_node
    (λ s i k l. first_number (nodes_where (parental i) g)) (Ok from)
    → parent_in g (node_number child) ≡ number_in (number_or_null from)
parent_told g child from reads = by_found (node_at (node_number child) g) refl reads
  where
    by_found : (found : Trees) → node_at (node_number child) g ≡ found
        → Reads number_or_null found no_node
        (λ s i k l. first_number (nodes_where (parental i) g)) (Ok from)
        → parent_in g (node_number child) ≡ number_in (number_or_null from)
    by_found none e r = absurd r
    by_found (hole t) e r = absurd r
    by_found (node s i k l t) e r =
        sym (ap number_in (r ∙ ap (λ n. first_number (nodes_where (parental n) g))
        (sym (found-number child g s i k l t e))))

-- a parent that is told is read off the node
pub parent_read : (g : Trees) (n : ℕ) (from : Option ℕ)
    → (node_at (node_number n) g ≢ none)
    × (first_number (nodes_where (parental n) g) ≡ number_or_null from)
    → Reads number_or_null (node_at (node_number n) g) no_node
    (λ s i k l. first_number (nodes_where (parental i) g)) (Ok from)
parent_read g n from told = by_found (node_at (node_number n) g) refl
  where
    by_found : (found : Trees) → node_at (node_number n) g ≡ found
        → Reads number_or_null found no_node
        (λ s i k l. first_number (nodes_where (parental i) g)) (Ok from)
    by_found none e = absurd (told.0 e)
    by_found (hole t) e = absurd (subst (Roots (numbered n)) e (those-pass (numbered n) g))
    by_found (node s i k l t) e =
        sym told.1 ∙ ap (λ m. first_number (nodes_where (parental m) g))
        (found-number n g s i k l t e)

-- the changes that are told
pub told_made : (pick : Pick) (n l : ℕ) → pick_of (n, l) ≡ pick
    → Tells (making pick) (e.Created n l)
told_made pick n l is = λ taken i. making (sym is i) taken

pub told_moved : (g : Trees) (vp vc vn : Value) (p c : ℕ) (from before : Option ℕ)
    → vp ≡ node_number p → vc ≡ node_number c → vn ≡ number_or_null before
    → parent_in g (node_number c) ≡ number_in (number_or_null from)
    → Tells (moving vp vc vn g) (e.Moved c from p before)
told_moved g vp vc vn p c from before ep ec en told = λ taken.
    (λ i. moving (ep i) (ec i) (en i) g taken)
    ∙ (λ i. Some (moved taken c (told i) p (number_in (number_or_null before))))

pub told_removed : (vp vc : Value) (p c : ℕ) → vp ≡ node_number p → vc ≡ node_number c
    → Tells (removing_from vp vc) (e.Removed c p)
told_removed vp vc p c ep ec = λ taken i. removing_from (ep i) (ec i) taken

pub ruleset creating_rules = (made_comes, told_made)

pub ruleset inserting_rules =
    (moved_comes, fault_comes, no_parent_at, no_child_at, not_told, told_moved, parent_told)

pub ruleset removing_rules =
    (removed_comes, fault_comes, no_taken, no_taken_child, told_removed)
