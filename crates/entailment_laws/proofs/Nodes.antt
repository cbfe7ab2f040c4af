-- app_node both ways, and the apart rows.
use Rattle.std.proofs.Common.{◌≡◌, ℕ, zero, suc, ◌*◌, ◌≤◌, List, true, sym, refl, ap, arith, ◌∙◌, subst}
use Rattle.std.proofs.Math.Decide.{ℕ_discrete}
use Rattle.model_shapes.specs.Sorts.{DataSort, Sort, tree, forest, value, shape, context, outer, with_outer}
use Rattle.model_shapes.specs.Values.{node_number, list_number, str}
use Rattle.model_shapes.specs.Trees.{Trees, WellFormed, none, node, hole, beside, fill, node_uses, list_uses, one_if, width}
use Rattle.model_shapes.specs.Shapes.{SameAt, Shaped, OneHole, may_stand}
use Rattle.model_shapes.specs.RootHoles.{root_holes}
use Rattle.model_shapes.specs.Things.{Thing, val}
use Rattle.model_shapes.proofs.Basics.{node_uses-beside, list_uses-beside, node_uses-fill, list_uses-fill}
use Rattle.model_shapes.proofs.Shapes.{SameAt-sym, same-node_uses, same-list_uses, root_holes-le, hole-root, hole-below, one-hole}
use Rattle.model_shapes.proofs.Narrow.{narrow-at}
use Rattle.model_shapes.proofs.Filling.{outer-WellFormed}
use Rattle.model_terms.specs.Terms.{Term}
use Rattle.model_formulas.specs.Formulas.{Formula, negation, node_formula, application}
use Rattle.model_formulas.specs.Satisfaction.{Environment, Meets, Entails, Classically, IfNode, meaning_of}
use Rattle.model_formulas.proofs.Stable.{stable}
use Rattle.rule_table.specs.Notation.{◌and◌, ◌∗◌, ◌⊹◌, ◌equals◌}
use Rattle.entailment_laws.proofs.Mono.{kids-Shaped}
use Rattle.entailment_laws.proofs.Classical.{◌>>=◌, surely}
use Rattle.entailment_laws.proofs.Shared.{App, app, SameAt-refl, width_one}

-- what a node by itself is
pub node_alone : (r : Trees) (F : List ℕ → ℕ → Trees → ℕ → Type 0) → IfNode r F
    → (s : List ℕ) × (i : ℕ) × (kids : Trees) × (l : ℕ) × (r ≡ node s i kids l none) × F s i kids l
node_alone none F m = absurd m
node_alone (hole r) F m = absurd m
node_alone (node s i k l none) F m = (s, i, k, l, refl, m)
node_alone (node s i k l (hole r)) F m = absurd m
node_alone (node s i k l (node s' i' k' l' r)) F m = absurd m

-- a node whose name and numbers are these, with such children
abbrev pub NodeOf : Thing → Thing → Thing → (Trees → Type 0) → List ℕ → ℕ → Trees → ℕ → Type 0
NodeOf x y z M name number kids list =
    (val (str name) ≡ x) × (val (node_number number) ≡ y) × (val (list_number list) ≡ z) × M kids

-- what a node formula says of the name, numbers and children
abbrev pub Says : Environment → Term → Term → Term → (Trees → Type 0)
    → List ℕ → ℕ → Trees → ℕ → Type 0
Says e a i l = NodeOf (meaning_of e a) (meaning_of e i) (meaning_of e l)

-- BELOW A NODE
inner_hole : (h : DataSort) (c : Trees) → OneHole h forest c → may_stand h forest ≡ true
inner_hole h c o = at (root_holes c) refl
  where
    at : (n : ℕ) → root_holes c ≡ n → may_stand h forest ≡ true
    at zero e = hole-below o e
    at (suc n) e = hole-root o (omega (arith, o.one, root_holes-le c))

around-Shaped : (h j : DataSort) (s : List ℕ) (i : ℕ) (k : Trees) (l : ℕ)
    → Shaped (context h forest) k → WellFormed (node s i k l none)
    → Shaped (context h j) (node s i k l none)
around-Shaped h j s i k l w wf = record {
  well_formed = wf;
  width_fits = width_one j (width (node s i k l none)) (omega arith);
  holes_fit = one-hole h j (node s i k l none) (omega (arith, w.holes_fit.one))
      (λ z. absurd (omega (arith, z))) (λ z. inner_hole h k w.holes_fit);
}

module _ (S : DataSort → Sort) (x y z : Thing) (K P : Sort → Trees → Type 0) (h j : DataSort)
    (r : Trees) (wf : WellFormed r) where
  -- a context that is such a node
  abbrev NodeContext : Sort → Trees → Type 0
  NodeContext s c = IfNode c (NodeOf x y z (K (context h forest)))

  -- a node with the context below it
  abbrev NodeAround : Trees → Type 0
  NodeAround t = IfNode t (NodeOf x y z (App S h forest K P))

  inside : App S h j NodeContext P r → Classically (NodeAround r)
  inside m = do
    (c, wc, m1) ← m
    (d, wd, (same, mc, md)) ← m1
    let (s, i, k, l, form, here) = node_alone c (NodeOf x y z (K (context h forest))) mc
    let filled : Trees = node s i (fill k d) l none
    let now : SameAt j r filled = subst (SameAt j r) (ap (λ u. fill u d) form) same
    let eq : filled ≡ r = narrow-at j filled r (omega arith) (SameAt-sym j r filled now)
    let wk : Shaped (context h forest) k =
        kids-Shaped (context h j) s i k l (subst (Shaped (context h j)) form wc)
    let below : App S h forest K P (fill k d) =
        app S h forest K P (fill k d) k d wk wd refl here.3 md
    surely (subst NodeAround eq (here.0, here.1, here.2, below))

  outside : NodeAround r → App S h j NodeContext P r
  outside m = do
    let (s, i, k, l, form, here) = node_alone r (NodeOf x y z (App S h forest K P)) m
    (c, wc, m1) ← here.3
    (d, wd, (same, mc, md)) ← m1
    let around : Trees = node s i c l none
    let eq : r ≡ fill around d = form ∙ ap (λ u. node s i u l none) same
    let wn : WellFormed around = outer-WellFormed around d (subst WellFormed eq wf)
    app S h j NodeContext P r around d (around-Shaped h j s i c l wc wn) wd
        (subst (SameAt j r) eq (SameAt-refl j r)) (here.0, here.1, here.2, mc) md

module _ (a i l : Term) (k p : Formula) (h : DataSort) where
  pub app_node : (s : Sort)
      → Entails (application h (node_formula a i k l) p) (node_formula a i (application h k p) l) s
  app_node (value v) e pr r w m = absurd w.holes_fit
  app_node (shape j) e pr r w m = stable (node_formula a i (application h k p) l) e (shape j) r
      (inside shape (meaning_of e a) (meaning_of e i) (meaning_of e l) (Meets k e) (Meets p e) h j r
      w.well_formed m)
  app_node (context u j) e pr r w m =
      stable (node_formula a i (application h k p) l) e (context u j) r
      (inside (context u) (meaning_of e a) (meaning_of e i) (meaning_of e l) (Meets k e) (Meets p e)
      h j r w.well_formed m)

  pub app_node_back : (s : Sort)
      → Entails (node_formula a i (application h k p) l) (application h (node_formula a i k l) p) s
  app_node_back (value v) e pr r w m = absurd w.holes_fit
  app_node_back (shape j) e pr r w m =
      outside shape (meaning_of e a) (meaning_of e i) (meaning_of e l) (Meets k e) (Meets p e) h j r
      w.well_formed m
  app_node_back (context u j) e pr r w m =
      outside (context u) (meaning_of e a) (meaning_of e i) (meaning_of e l) (Meets k e) (Meets p e)
      h j r w.well_formed m

-- APART
pub tally_self : (n : ℕ) → one_if (ℕ_discrete n n) ≡ 1
tally_self n = at (ℕ_discrete n n)
  where
    at : (d : Dec (n ≡ n)) → one_if d ≡ 1
    at (yes x) = refl
    at (no x) = absurd (x refl)

node-injective : (n m : ℕ) (x y : Thing) → val (node_number n) ≡ x → val (node_number m) ≡ y
    → x ≡ y → n ≡ m
node-injective n m x y e f g = cc

list-injective : (n m : ℕ) (x y : Thing) → val (list_number n) ≡ x → val (list_number m) ≡ y
    → x ≡ y → n ≡ m
list-injective n m x y e f g = cc

-- a node with these numbers stands somewhere in `r`
abbrev StandsIn : Thing → Thing → Trees → Type 0
StandsIn y z r =
    (n : ℕ) × (l : ℕ) × (val (node_number n) ≡ y) × (val (list_number l) ≡ z)
    × (1 ≤ node_uses n r) × (1 ≤ list_uses l r)

stands_itself : (x y z : Thing) (M : Trees → Type 0) (r : Trees) → IfNode r (NodeOf x y z M)
    → StandsIn y z r
stands_itself x y z M r m =
    let (s, i, k, l, form, here) = node_alone r (NodeOf x y z M) m in (
      i,
      l,
      here.1,
      here.2,
      omega (arith, ap (node_uses i) form, tally_self i),
      omega (arith, ap (list_uses l) form, tally_self l),
    )

stands_below : (k p : Formula) (a i l : Term) (e : Environment) (s : Sort) (r : Trees)
    → Meets (application tree k (node_formula a i p l)) e s r
    → Classically (StandsIn (meaning_of e i) (meaning_of e l) r)
stands_below k p a i l e s r m = do
  (c, wc, m1) ← m
  (d, wd, (same, mc, md)) ← m1
  let (n, u, en, eu, hn, hu) = stands_itself (meaning_of e a) (meaning_of e i) (meaning_of e l)
      (Meets p e (with_outer forest (with_outer tree s))) d md
  let once : node_uses n r ≡ node_uses n (fill c d) = same-node_uses n (outer s) r (fill c d) same
  let once' : list_uses u r ≡ list_uses u (fill c d) = same-list_uses u (outer s) r (fill c d) same
  surely (
    n,
    u,
    en,
    eu,
    omega (arith, hn, once, node_uses-fill n c d, ap (λ z. z * node_uses n d) wc.holes_fit.one),
    omega (arith, hu, once', list_uses-fill u c d, ap (λ z. z * list_uses u d) wc.holes_fit.one),
  )

-- two nodes, of which each number is used twice in what is well formed if both nodes have it
module _ (e : Environment) (i l i' l' : Term) (r x y : Trees) (wf : WellFormed r) where
  apart : ((n : ℕ) → 1 ≤ node_uses n x → 1 ≤ node_uses n y → 2 ≤ node_uses n r)
      → ((n : ℕ) → 1 ≤ list_uses n x → 1 ≤ list_uses n y → 2 ≤ list_uses n r)
      → StandsIn (meaning_of e i) (meaning_of e l) x
      → StandsIn (meaning_of e i') (meaning_of e l') y
      → (meaning_of e i ≡ meaning_of e i' → ⊥) × (meaning_of e l ≡ meaning_of e l' → ⊥)
  apart nodes lists (n, u, en, eu, hn, hu) (n', u', en', eu', hn', hu') = (
    (λ eq.
        let one : n ≡ n' = node-injective n n' (meaning_of e i) (meaning_of e i') en en' eq in
        let too : 1 ≤ node_uses n y = subst (λ z. 1 ≤ node_uses z y) (sym one) hn' in
        omega (arith, wf.nodes_once n, nodes n hn too)),
    (λ eq.
        let one : u ≡ u' = list-injective u u' (meaning_of e l) (meaning_of e l') eu eu' eq in
        let too : 1 ≤ list_uses u y = subst (λ z. 1 ≤ list_uses z y) (sym one) hu' in
        omega (arith, wf.lists_once u, lists u hu too)),
  )

module _ (k k' p q : Formula) (a i l a' i' l' : Term) (s : Sort) where
  pub apart_star : Entails
      (application tree k (node_formula a i p l) ∗ application tree k' (node_formula a' i' q l'))
      (negation (i equals i') and negation (l equals l')) s
  apart_star e pr r w m = stable (negation (i equals i') and negation (l equals l')) e s r (do
    (x, wx, m1) ← m
    (y, wy, (same, mx, my)) ← m1
    first ← stands_below k p a i l e s x mx
    second ← stands_below k' q a' i' l' e s y my
    surely (apart e i l i' l' r x y w.well_formed
        (λ n a b.
        omega (arith, same-node_uses n (outer s) r (beside x y) same, node_uses-beside n x y, a, b))
        (λ n a b.
        omega (arith, same-list_uses n (outer s) r (beside x y) same, list_uses-beside n x y, a, b))
        first second))

  pub apart_plus : Entails
      (application tree k (node_formula a i p l) ⊹ application tree k' (node_formula a' i' q l'))
      (negation (i equals i') and negation (l equals l')) s
  apart_plus = apart_star

module _ (k q : Formula) (a i l a' i' l' : Term) (s : Sort) where
  pub apart_up : Entails (node_formula a i (application tree k (node_formula a' i' q l')) l)
      (negation (i equals i') and negation (l equals l')) s
  apart_up e pr r w m = stable (negation (i equals i') and negation (l equals l')) e s r (do
    let (name, n, kids, u, form, here) = node_alone r
        (Says e a i l (Meets (application tree k (node_formula a' i' q l')) e
        (with_outer forest s))) m
    second ← stands_below k q a' i' l' e (with_outer forest s) kids here.3
    let top : Trees = node name n none u none
    let first : StandsIn (meaning_of e i) (meaning_of e l) top =
        (n, u, here.1, here.2, omega (arith, tally_self n), omega (arith, tally_self u))
    surely (apart e i l i' l' r top kids w.well_formed
        (λ z a b. omega (arith, ap (node_uses z) form, a, b))
        (λ z a b. omega (arith, ap (list_uses z) form, a, b))
        first second))
