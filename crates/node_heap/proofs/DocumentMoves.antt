-- What the moves of a heap are as those of a document.
use Rattle.std.proofs.Common.{◌≡◌, Bool, true, false, cond, [], Ok, Err, refl, sym, ap, ◌∙◌, subst, ℕ}
use Rattle.std.proofs.Math.Decide.{ℕ_discrete}
use Rattle.model_shapes.specs.Sorts.{grove}
use Rattle.model_shapes.specs.Trees.{Trees, none, node, hole, beside, node_uses}
use Rattle.model_shapes.specs.Values.{Name, Value, null, nolist, node_number, list_number, int, str, boolean}
use Rattle.model_shapes.specs.Shapes.{SameAt}
use Rattle.model_shapes.proofs.Shapes.{SameAt-sym}
use Rattle.model_terms.specs.Stores.{ProgVar, Store, set}
use Rattle.model_groves.specs.Groves.{is_yes, node_at, without, adding, adding_before, positive, has_root}
use Rattle.model_groves.specs.Picks.{Pick, is_free, next_pick}
use Rattle.model_groves.proofs.NextPicks.{next-free}
use Rattle.model_machine.specs.Machine.{Move, becomes, faults, bad_pick, creating, self_ref, cycle, not_child, appending, inserting, inserting_at, removing}
use Rattle.dom_meaning.specs.declared.faults.FaultKind.{FaultKind}
use Rattle.dom_meaning.specs.Documents.{Leads}
use Rattle.dom_meaning.specs.Faults.{fault_kind_of}
use Rattle.node_heap.specs.HeapView.{HeapView}
use Rattle.node_heap.specs.Answers.{Did}

-- nothing comes in the place of the command, and the store stays
abbrev StoreStays : Store → Move → Type 0
StoreStays store (becomes pieces after trees) = (pieces ≡ []) × (after ≡ store)
StoreStays store move = Unit

either : (store : Store) (b : Bool) (x y : Move) → StoreStays store x → StoreStays store y
    → StoreStays store (cond b x y)
either store true x y p q = p
either store false x y p q = q

stays_appending : (a b : Trees) (store : Store) (g : Trees)
    → StoreStays store (appending a b store g)
stays_appending none b store g = tt
stays_appending (hole r) b store g = tt
stays_appending (node s i k l r) none store g = tt
stays_appending (node s i k l r) (hole r') store g = tt
stays_appending (node s i k l r) (node s' j k' l' r') store g =
    either store (positive (node_uses i (node s' j k' l' none))) (faults cycle)
    (becomes [] store (adding i (node s' j k' l' none) (without j g))) tt (refl, refl)

stays_removing : (a b : Trees) (store : Store) (g : Trees)
    → StoreStays store (removing a b store g)
stays_removing none b store g = tt
stays_removing (hole r) b store g = tt
stays_removing (node s i k l r) none store g = tt
stays_removing (node s i k l r) (hole r') store g = tt
stays_removing (node s i k l r) (node s' j k' l' r') store g =
    either store (has_root j k) (becomes [] store (beside (without j g) (node s' j k' l' none)))
    (faults not_child) (refl, refl) tt

stays_inserting : (a b d : Trees) (store : Store) (g : Trees)
    → StoreStays store (inserting a b d store g)
stays_inserting none b d store g = tt
stays_inserting (hole r) b d store g = tt
stays_inserting (node s i k l r) none d store g = tt
stays_inserting (node s i k l r) (hole r') d store g = tt
stays_inserting (node s i k l r) (node s' j k' l' r') none store g = tt
stays_inserting (node s i k l r) (node s' j k' l' r') (hole q) store g = tt
stays_inserting (node s i k l r) (node s' j k' l' r') (node u n v w x) store g =
    let after : Move =
    becomes [] store (adding_before n (node s' j k' l' none) (without j g)) in
    let last : Move = cond (has_root n k) after (faults not_child) in
    either store (is_yes (ℕ_discrete j n)) (faults self_ref)
    (cond (positive (node_uses i (node s' j k' l' none))) (faults cycle) last) tt
    (either store (positive (node_uses i (node s' j k' l' none))) (faults cycle) last tt
    (either store (has_root n k) after (faults not_child) (refl, refl) tt))

-- where a value is null, the tree is appended
stays_at : (v : Value) (a b : Trees) (store : Store) (g : Trees)
    → StoreStays store (inserting_at v a b store g)
stays_at null a b store g = stays_appending a b store g
stays_at (node_number n) a b store g = stays_inserting a b (node_at (node_number n) g) store g
stays_at nolist a b store g = stays_inserting a b none store g
stays_at (list_number n) a b store g = stays_inserting a b none store g
stays_at (int z) a b store g = stays_inserting a b none store g
stays_at (str s) a b store g = stays_inserting a b none store g
stays_at (boolean t) a b store g = stays_inserting a b none store g

done_move : {A : Type 0} (move : Move) (answer : A) (store : Store) (old new : HeapView)
    → StoreStays store move → Did move (Ok answer) old new
    → Leads (λ trees. SameAt grove trees new.grove) move store
done_move (becomes pieces after trees) answer store old new s d =
    (trees, λ i. becomes (s.0 i) (s.1 i) trees, SameAt-sym grove new.grove trees d.0)
done_move (faults kind) answer store old new s d = absurd d
done_move bad_pick answer store old new s d = absurd d

-- the tree was moved before another, or to the end
pub was_inserted : {A : Type 0} (v : Value) (a b : Trees) (store : Store) (g : Trees) (answer : A)
    (old new : HeapView) → Did (inserting_at v a b store g) (Ok answer) old new
    → Leads (λ trees. SameAt grove trees new.grove) (inserting_at v a b store g) store
was_inserted v a b store g answer old new d =
    done_move (inserting_at v a b store g) answer store old new (stays_at v a b store g) d

-- or to the roots
pub was_removed : {A : Type 0} (a b : Trees) (store : Store) (g : Trees) (answer : A)
    (old new : HeapView) → Did (removing a b store g) (Ok answer) old new
    → Leads (λ trees. SameAt grove trees new.grove) (removing a b store g) store
was_removed a b store g answer old new d =
    done_move (removing a b store g) answer store old new (stays_removing a b store g) d

-- or the command faults
pub was_fault : (A : Type 0) (move : Move) (fault : FaultKind) (old new : HeapView)
    → Did {A = A} move (Err fault) old new
    → (move ≡ faults (fault_kind_of fault)) × (new ≡ old)
was_fault A (becomes pieces after trees) fault old new d = absurd d
was_fault A (faults kind) fault old new d = (ap faults (sym d.0), d.1)
was_fault A bad_pick fault old new d = absurd d

-- a new node with numbers that are free
made_free : (p : Pick) (x : ProgVar) (name : Name) (store : Store) (old new : Trees)
    → is_free p old ≡ true → SameAt grove new (beside old (node name p.node none p.list none))
    → Leads (λ trees. SameAt grove trees new) (creating p x name store old)
    (set x (node_number p.node) store)
made_free p x name store old new free same = (
  beside old (node name p.node none p.list none),
  ap (λ b. cond b (becomes [] (set x (node_number p.node) store)
      (beside old (node name p.node none p.list none))) bad_pick) free,
  SameAt-sym grove new (beside old (node name p.node none p.list none)) same,
)

-- with the next ones, which a heap gives to it that has made room
pub made_next : (x y : ProgVar) (name : Name) (store after : Store) (old room new : Trees)
    (n l m k : ℕ) → room ≡ old → record { node = n; list = l } ≡ next_pick old
    → record { node = m; list = k } ≡ next_pick room → y ≡ x
    → after ≡ set y (node_number n) store
    → SameAt grove new (beside room (node name m none k none))
    → Leads (λ trees. SameAt grove trees new) (creating (next_pick old) x name store old) after
made_next x y name store after old room new n l m k same_room first second same_var set_to same =
    let pick : Pick = record { node = n; list = l } in
    let again : record { node = m; list = k } ≡ pick =
    second ∙ ap next_pick same_room ∙ sym first in
    let there : SameAt grove new (beside old (node name n none l none)) =
    subst (λ (z : Trees). SameAt grove new (beside z (node name n none l none))) same_room
    (subst (λ (q : Pick). SameAt grove new (beside room (node name q.node none q.list none)))
    again same) in
    subst (λ (q : Pick). Leads (λ trees. SameAt grove trees new) (creating q x name store old)
    after) first
    (subst (Leads (λ trees. SameAt grove trees new) (creating pick x name store old))
    (sym (set_to ∙ ap (λ z. set z (node_number n) store) same_var))
    (made_free pick x name store old new (ap (λ q. is_free q old) first ∙ next-free old) there))
