-- What stands at a number, in the words of the machine: what is found, taken out and put in.
use Rattle.std.proofs.Common.{◌≡◌, ◌≢◌, ℕ, ◌≤◌, true, false, cond, eqb, Option, Some, None, refl, sym, ap, ◌∙◌, inl, inr, arith, subst}
use Rattle.std.proofs.Math.Decide.{ℕ_discrete}
use Rattle.std.specs.Option.{option_or}
use Rattle.std.proofs.lemmas.Bool.{cases_eq}
use Rattle.model_shapes.specs.Values.{node_number}
use Rattle.model_shapes.specs.Trees.{Trees, none, node, hole, beside, node_uses, list_uses, one_if}
use Rattle.model_shapes.specs.Shapes.{holes}
use Rattle.model_shapes.proofs.Basics.{beside-none}
use Rattle.model_shapes.proofs.Narrow.{no_roots}
use Rattle.model_groves.specs.Groves.{is_yes, nodes_where, numbered, listed, parental, has_root, without, adding, adding_before, first_number}
use Rattle.model_groves.proofs.Decided.{yes-is}
use Rattle.model_groves.proofs.Groves.{width-numbered, width-listed, width-parental, bit}
use Rattle.model_groves.proofs.InContext.{without-none, adding-none, adding_before-none}
use Rattle.model_heap.specs.Lists.{count}
use Rattle.model_heap.specs.Entries.{Entry, roots, uses, entry, tree_at, all_but, adopt, inserted_at, kids_of}
use Rattle.model_heap.proofs.Moves.{test_yes, test_no, one_here, none_here, or_none, entry_absent, tree_absent}
use Rattle.model_heap.proofs.Kinship.{kids_use, roots_use, root_parent, kid_up}

-- the tests of numbers
pub decided_yes : (m n : ℕ) → m ≡ n → is_yes (ℕ_discrete m n) ≡ true
decided_yes m n e = yes-is (ℕ_discrete m n) e

pub decided_no : (m n : ℕ) → m ≢ n → is_yes (ℕ_discrete m n) ≡ false
decided_no m n e = by_decision (ℕ_discrete m n)
  where
    by_decision : (d : Dec (m ≡ n)) → is_yes d ≡ false
    by_decision (yes f) = absurd (e f)
    by_decision (no f) = refl

one_decided : (m n : ℕ) → one_if (ℕ_discrete m n) ≡ cond (eqb m n) 1 0
one_decided m n = by_decision (ℕ_discrete m n)
  where
    by_decision : (d : Dec (m ≡ n)) → one_if d ≡ cond (eqb m n) 1 0
    by_decision (yes f) = sym (one_here m n f)
    by_decision (no f) = sym (none_here m n f)

-- how often a number stands
pub uses-are : (n : ℕ) (r : Trees) → node_uses n r ≡ uses n r
uses-are n none = refl
uses-are n (node s i kids l rest) =
    omega (arith, one_decided n i, uses-are n kids, uses-are n rest)
uses-are n (hole rest) = uses-are n rest

-- what is found by a number that stands nowhere
pub where_absent : (c : ℕ) (r : Trees) → uses c r ≡ 0 → nodes_where (numbered c) r ≡ none
where_absent c r h =
    no_roots (nodes_where (numbered c) r) (omega (arith, width-numbered c r, uses-are c r, h))

-- and by a list number that stands nowhere
pub listed_absent : (a : ℕ) (r : Trees) → list_uses a r ≡ 0 → nodes_where (listed a) r ≡ none
listed_absent a r h = no_roots (nodes_where (listed a) r) (omega (arith, width-listed a r, h))

-- what is found by a number
pub tree_is : (c : ℕ) (r : Trees) → uses c r ≤ 1 → nodes_where (numbered c) r ≡ tree_at c r
tree_is c none u = refl
tree_is c (node s i kids l rest) u =
    elim (cases_eq c i) [
      | inl e ↦
          let z : uses c rest ≡ 0 = omega (arith, u, one_here c i e) in
          rw (decided_yes c i e, test_yes c i e, where_absent c rest z) refl
      | inr d ↦
          let x : uses c kids ≤ 1 = omega (arith, u) in
          let y : uses c rest ≤ 1 = omega (arith, u) in
          rw (decided_no c i d, test_no c i d, tree_is c kids x, tree_is c rest y) refl
    ]
tree_is c (hole rest) u = tree_is c rest u

-- what is left
pub without_is : (c : ℕ) (r : Trees) → uses c r ≤ 1 → without c r ≡ all_but c r
without_is c none u = refl
without_is c (node s i kids l rest) u =
    elim (cases_eq c i) [
      | inl e ↦
          let z : node_uses c rest ≡ 0 = omega (arith, u, one_here c i e, uses-are c rest) in
          rw (decided_yes c i e, test_yes c i e) (without-none c rest z)
      | inr d ↦
          let x : uses c kids ≤ 1 = omega (arith, u) in
          let y : uses c rest ≤ 1 = omega (arith, u) in
          rw (decided_no c i d, test_no c i d, without_is c kids x, without_is c rest y) refl
    ]
without_is c (hole rest) u = ap hole (without_is c rest u)

-- what is put in
pub adding_is : (p : ℕ) (t r : Trees) → uses p r ≤ 1 → adding p t r ≡ adopt p t r
adding_is p t none u = refl
adding_is p t (node s i kids l rest) u =
    elim (cases_eq p i) [
      | inl e ↦
          let x : node_uses p kids ≡ 0 = omega (arith, u, one_here p i e, uses-are p kids) in
          let y : node_uses p rest ≡ 0 = omega (arith, u, one_here p i e, uses-are p rest) in
          rw (decided_yes p i e, test_yes p i e, adding-none p t kids x, adding-none p t rest y)
          refl
      | inr d ↦
          let x : uses p kids ≤ 1 = omega (arith, u) in
          let y : uses p rest ≤ 1 = omega (arith, u) in
          rw (decided_no p i d, test_no p i d, adding_is p t kids x, adding_is p t rest y) refl
    ]
adding_is p t (hole rest) u = ap hole (adding_is p t rest u)

-- and put in before another
pub adding_before_is : (w : ℕ) (t r : Trees) → uses w r ≤ 1
    → adding_before w t r ≡ inserted_at w t r
adding_before_is w t none u = refl
adding_before_is w t (node s i kids l rest) u =
    elim (cases_eq w i) [
      | inl e ↦
          let x : node_uses w kids ≡ 0 = omega (arith, u, one_here w i e, uses-are w kids) in
          let y : node_uses w rest ≡ 0 = omega (arith, u, one_here w i e, uses-are w rest) in
          rw (
            decided_yes w i e,
            test_yes w i e,
            adding_before-none w t kids x,
            adding_before-none w t rest y,
          ) refl
      | inr d ↦
          let x : uses w kids ≤ 1 = omega (arith, u) in
          let y : uses w rest ≤ 1 = omega (arith, u) in
          rw (
            decided_no w i d,
            test_no w i d,
            adding_before_is w t kids x,
            adding_before_is w t rest y,
          ) refl
    ]
adding_before_is w t (hole rest) u = ap hole (adding_before_is w t rest u)

-- THE NODE of a number that stands somewhere
pub record NodeOf (found : Trees) (n : ℕ) (e : Entry) : Type 0 where
  pub kids : Trees
  pub is : found ≡ node e.name n kids e.list none
  pub are_kids : roots kids ≡ e.kids
  pub whole : holes kids ≡ 0

abbrev some_or : Entry → Option Entry → Entry
some_or e None = e
some_or e (Some x) = x

tree_found : (q : Option ℕ) (r : Trees) (n : ℕ) (e : Entry) → holes r ≡ 0 → uses n r ≤ 1
    → entry q r n ≡ Some e → NodeOf (tree_at n r) n e
tree_found q none n e w u h = absurd (cc)
tree_found q (node s i kids l rest) n e w u h =
    elim (cases_eq n i) [
      | inl x ↦
          let here : Entry = record { name = s; list = l; parent = q; kids = roots kids } in
          let same : Some here ≡ Some e = rw (test_yes n i x) at h in
          subst (NodeOf (tree_at n (node s i kids l rest)) n) (ap (some_or e) same) (record {
            kids = kids;
            is = rw (test_yes n i x) (ap (λ m. node s m kids l none) (sym x));
            are_kids = refl;
            whole = omega (arith, w);
          })
      | inr d ↦ elim (cases_eq (uses n kids) 0) [
        | inl z ↦
            let k : entry q rest n ≡ Some e =
            rw (test_no n i d, entry_absent (Some i) kids n z) at h in
            let f = tree_found q rest n e (omega (arith, w)) (omega (arith, u)) k in
            rw (test_no n i d, tree_absent n kids z) f
        | inr z ↦
            let v : uses n rest ≡ 0 = omega (arith, u, z) in
            let k : entry (Some i) kids n ≡ Some e =
            rw (test_no n i d, entry_absent q rest n v, or_none) at h in
            let f = tree_found (Some i) kids n e (omega (arith, w)) (omega (arith, u)) k in
            rw (test_no n i d, tree_absent n rest v, beside-none (tree_at n kids)) f
      ]
    ]
tree_found q (hole rest) n e w u h = absurd (omega (arith, w))

pub node_of : (g : Trees) (n : ℕ) (e : Entry) → holes g ≡ 0 → uses n g ≤ 1
    → entry None g n ≡ Some e → NodeOf (nodes_where (numbered n) g) n e
node_of g n e w u h = rw (tree_is n g u) (tree_found None g n e w u h)

-- the test of a root
pub root_yes : (n : ℕ) (r : Trees) → 1 ≤ count n (roots r) → has_root n r ≡ true
root_yes n none h = absurd (omega (arith, h))
root_yes n (node s i kids l rest) h =
    elim (cases_eq n i) [
      | inl e ↦ rw (decided_yes n i e) refl
      | inr d ↦ rw (decided_no n i d) (root_yes n rest (omega (arith, h, none_here n i d)))
    ]
root_yes n (hole rest) h = root_yes n rest h

pub root_no : (n : ℕ) (r : Trees) → count n (roots r) ≡ 0 → has_root n r ≡ false
root_no n none h = refl
root_no n (node s i kids l rest) h =
    let d : n ≢ i = λ e. absurd (omega (arith, h, one_here n i e)) in
    rw (decided_no n i d) (root_no n rest (omega (arith, h)))
root_no n (hole rest) h = root_no n rest h

-- a number that stands nowhere has no parent
parental_absent : (n : ℕ) (r : Trees) → uses n r ≡ 0 → nodes_where (parental n) r ≡ none
parental_absent n r h =
    no_roots (nodes_where (parental n) r) (omega (arith, width-parental n r, uses-are n r, h))

-- nor has a root
pub no_parent : (g : Trees) (n : ℕ) → uses n g ≤ 1 → 1 ≤ count n (roots g)
    → nodes_where (parental n) g ≡ none
no_parent g n u h =
    let one : bit (has_root n g) ≡ 1 = ap bit (root_yes n g h) in
    no_roots (nodes_where (parental n) g)
    (omega (arith, width-parental n g, uses-are n g, u, one))

first_beside : (a b : Trees) (p : ℕ) → first_number a ≡ node_number p
    → first_number (beside a b) ≡ node_number p
first_beside none b p h = absurd (cc)
first_beside (node s i kids l rest) b p h = h
first_beside (hole rest) b p h = absurd (cc)

-- THE PARENT of a child
pub parent_is : (q : Option ℕ) (r : Trees) (p n : ℕ) → ((m : ℕ) → uses m r ≤ 1)
    → 1 ≤ count n (kids_of (entry q r p))
    → first_number (nodes_where (parental n) r) ≡ node_number p
parent_is q none p n u h = absurd (omega (arith, h))
parent_is q (node s i kids l rest) p n u h =
    elim (cases_eq p i) [
      | inl e ↦
          let k : 1 ≤ count n (roots kids) = rw (test_yes p i e) at h in
          rw (root_yes n kids k) (ap node_number (sym e))
      | inr d ↦ elim (cases_eq (uses p kids) 0) [
        | inl y ↦
            let k : 1 ≤ count n (kids_of (entry q rest p)) =
            rw (test_no p i d, entry_absent (Some i) kids p y) at h in
            let z : uses n kids ≡ 0 = omega (arith, u n, k, kids_use q rest p n) in
            let x : count n (roots kids) ≡ 0 = omega (arith, z, roots_use n kids) in
            rw (root_no n kids x, parental_absent n kids z)
            (parent_is q rest p n (λ m. omega (arith, u m)) k)
        | inr y ↦
            let v : uses p rest ≡ 0 = omega (arith, u p, y) in
            let k : 1 ≤ count n (kids_of (entry (Some i) kids p)) =
            rw (test_no p i d, entry_absent q rest p v, or_none) at h in
            rw (root_no n kids (below p d k)) (first_beside (nodes_where (parental n) kids)
            (nodes_where (parental n) rest) p
            (parent_is (Some i) kids p n (λ m. omega (arith, u m)) k))
      ]
    ]
  where
    below : (p : ℕ) → p ≢ i → 1 ≤ count n (kids_of (entry (Some i) kids p))
        → count n (roots kids) ≡ 0
    below p d k =
        elim (cases_eq (count n (roots kids)) 0) [
          | inl z ↦ z
          | inr z ↦
              let a = root_parent (Some i) kids n (omega (arith, u n)) (omega (arith, z)) in
              let b = kid_up (Some i) kids p n (omega (arith, u p)) (omega (arith, u n)) k in
              absurd (d (let c : Some p ≡ Some i = sym b ∙ a in cc))
        ]
parent_is q (hole rest) p n u h = parent_is q rest p n u h

-- an entry's list number stands in the grove
pub list_used : (q : Option ℕ) (r : Trees) (n : ℕ) (e : Entry) → entry q r n ≡ Some e
    → 1 ≤ list_uses e.list r
list_used q none n e h = absurd (cc)
list_used q (node s i kids l rest) n e h =
    elim (cases_eq n i) [
      | inl x ↦
          let here : Entry = record { name = s; list = l; parent = q; kids = roots kids } in
          let same : Some here ≡ Some e = rw (test_yes n i x) at h in
          let y : e.list ≡ l = ap (λ o. (some_or e o).list) (sym same) in
          omega (arith, one_decided e.list l, one_here e.list l y)
      | inr d ↦
          let w : option_or (entry (Some i) kids n) (entry q rest n) ≡ Some e =
          rw (test_no n i d) at h in
          in_either (entry (Some i) kids n) (entry q rest n) w
          (list_used (Some i) kids n e) (list_used q rest n e)
    ]
  where
    in_either : (a b : Option Entry) → option_or a b ≡ Some e
        → (a ≡ Some e → 1 ≤ list_uses e.list kids) → (b ≡ Some e → 1 ≤ list_uses e.list rest)
        → 1 ≤ list_uses e.list (node s i kids l rest)
    in_either None b h x y = omega (arith, y h)
    in_either (Some a) b h x y = omega (arith, x h)
list_used q (hole rest) n e h = list_used q rest n e h

-- THE OWNER of a list is found by the number of the list as by its own
pub listed_is : (q : Option ℕ) (r : Trees) (n : ℕ) (e : Entry) → uses n r ≤ 1
    → list_uses e.list r ≤ 1 → entry q r n ≡ Some e
    → nodes_where (listed e.list) r ≡ nodes_where (numbered n) r
listed_is q none n e u v h = absurd (cc)
listed_is q (node s i kids l rest) n e u v h =
    elim (cases_eq n i) [
      | inl x ↦
          let here : Entry = record { name = s; list = l; parent = q; kids = roots kids } in
          let same : Some here ≡ Some e = rw (test_yes n i x) at h in
          let y : e.list ≡ l = ap (λ o. (some_or e o).list) (sym same) in
          let z : list_uses e.list rest ≡ 0 =
          omega (arith, v, one_decided e.list l, one_here e.list l y) in
          let w : uses n rest ≡ 0 = omega (arith, u, one_here n i x) in
          rw (
            decided_yes e.list l y,
            decided_yes n i x,
            listed_absent e.list rest z,
            where_absent n rest w,
          ) refl
      | inr d ↦ elim (cases_eq (uses n kids) 0) [
        | inl z ↦
            let k : entry q rest n ≡ Some e =
            rw (test_no n i d, entry_absent (Some i) kids n z) at h in
            let c = list_used q rest n e k in
            let f : e.list ≢ l =
            λ y. absurd (omega (arith, v, c, one_decided e.list l, one_here e.list l y)) in
            let y : list_uses e.list kids ≡ 0 = omega (arith, v, c) in
            let more = listed_is q rest n e (omega (arith, u)) (omega (arith, v)) k in
            rw (
              decided_no e.list l f,
              decided_no n i d,
              listed_absent e.list kids y,
              where_absent n kids z,
              more,
            ) refl
        | inr z ↦
            let w : uses n rest ≡ 0 = omega (arith, u, z) in
            let k : entry (Some i) kids n ≡ Some e =
            rw (test_no n i d, entry_absent q rest n w, or_none) at h in
            let c = list_used (Some i) kids n e k in
            let f : e.list ≢ l =
            λ y. absurd (omega (arith, v, c, one_decided e.list l, one_here e.list l y)) in
            let y : list_uses e.list rest ≡ 0 = omega (arith, v, c) in
            let more = listed_is (Some i) kids n e (omega (arith, u)) (omega (arith, v)) k in
            rw (
              decided_no e.list l f,
              decided_no n i d,
              listed_absent e.list rest y,
              where_absent n rest w,
              more,
            ) refl
      ]
    ]
listed_is q (hole rest) n e u v h = listed_is q rest n e u v h

-- a list number that stands in the grove has an owner
pub record Owner (q : Option ℕ) (r : Trees) (a : ℕ) : Type 0 where
  pub number : ℕ
  pub owner : Entry
  pub is : entry q r number ≡ Some owner
  pub list : owner.list ≡ a

some_use : (q : Option ℕ) (r : Trees) (n : ℕ) (e : Entry) → entry q r n ≡ Some e → 1 ≤ uses n r
some_use q r n e h =
    elim (cases_eq (uses n r) 0) [
      | inl z ↦ absurd (let a = entry_absent q r n z in cc)
      | inr z ↦ omega (arith, z)
    ]

pub owner_of : (q : Option ℕ) (r : Trees) (a : ℕ) → ((m : ℕ) → uses m r ≤ 1)
    → 1 ≤ list_uses a r → Owner q r a
owner_of q none a u h = absurd (omega (arith, h))
owner_of q (node s i kids l rest) a u h =
    elim (cases_eq a l) [
      | inl e ↦ record {
        number = i;
        owner = record { name = s; list = l; parent = q; kids = roots kids };
        is = rw (test_yes i i refl) refl;
        list = sym e;
      }
      | inr d ↦ elim (cases_eq (list_uses a kids) 0) [
        | inl z ↦
            let below : 1 ≤ list_uses a rest =
            omega (arith, h, z, one_decided a l, none_here a l d) in
            let x = owner_of q rest a (λ m. omega (arith, u m)) below in
            let c = some_use q rest x.number x.owner x.is in
            let f : x.number ≢ i =
            λ y. absurd (omega (arith, u x.number, c, one_here x.number i y)) in
            let k : uses x.number kids ≡ 0 = omega (arith, u x.number, c) in
            record {
              number = x.number;
              owner = x.owner;
              is = rw (test_no x.number i f, entry_absent (Some i) kids x.number k) x.is;
              list = x.list;
            }
        | inr z ↦
            let x = owner_of (Some i) kids a (λ m. omega (arith, u m)) (omega (arith, z)) in
            let c = some_use (Some i) kids x.number x.owner x.is in
            let f : x.number ≢ i =
            λ y. absurd (omega (arith, u x.number, c, one_here x.number i y)) in
            record {
              number = x.number;
              owner = x.owner;
              is = rw (test_no x.number i f, x.is) refl;
              list = x.list;
            }
      ]
    ]
owner_of q (hole rest) a u h =
    let x = owner_of q rest a u h in
    record { number = x.number; owner = x.owner; is = x.is; list = x.list }
