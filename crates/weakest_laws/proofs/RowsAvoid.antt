-- A written row avoids a name that is none of its own and that its formula avoids.
use Rattle.std.proofs.Common.{◌≡◌}
use Rattle.model_shapes.specs.Sorts.{shape, node_sort, list_sort, int_sort, str_sort, tree}
use Rattle.model_shapes.specs.Values.{Name}
use Rattle.model_terms.specs.Terms.{Term, variable}
use Rattle.model_terms.specs.Computing.{Computes}
use Rattle.model_terms.specs.Stores.{ProgVar, sort_of}
use Rattle.model_formulas.specs.Formulas.{Named, whole, truth, conjunction, equality, concatenation}
use Rattle.model_weakest.specs.Rows.{value_for, forest_of, same, named_node, among_others, written_tree, written_out, written_taking, written_name, written_children, written_parent, written_item, written_create, written_standing, followed_by, written_is, written_appended, written_removed, written_inserted, written_moving}
use Rattle.weakest_laws.proofs.Avoiding.{AvoidsTerm, Avoids, computed-avoids}

module _ (w : Name) where
  -- the name is another
  abbrev pub Not : Name → Type 0
  Not n = n ≡ w → ⊥

  -- THE PARTS OF A ROW
  node-avoids : (s l : Name) (e : Term) (p : Named) → Not s → Not l → AvoidsTerm w e → Avoids w p
      → Avoids w (named_node s e p l)
  node-avoids s l e p os ol te ap = (os, (te, (ap, ol)))

  tree-avoids : (t m : Name) (e : Term) → Not t → Not m → AvoidsTerm w e
      → Avoids w (written_tree e t m)
  tree-avoids t m e ot om te = (ot, (om, node-avoids t m e truth ot om te tt))

  out-avoids : (u : Name) (p : Named) → Not u → Avoids w p → Avoids w (written_out u p)
  out-avoids u p ou ap = (((tt, ap), ou), ((tt, ap), ou))

  standing-avoids : (c s l : Name) (e : Term) (p : Named) → Not c → Not s → Not l
      → AvoidsTerm w e → Avoids w p → Avoids w (written_standing c s e p l)
  standing-avoids c s l e p oc os ol te ap = (oc, node-avoids s l e p os ol te ap)

  -- VALUES
  module _ (x : ProgVar) (v : Name) (q : Named) (ov : Not v) (aq : Avoids w q) where
    taking-avoids : (p : Named) → Avoids w p → Avoids w (written_taking x v p q)
    taking-avoids p ap = (ov, (ap, aq))

    pub assign-avoids : (e : Term) → Computes (sort_of x) e
        → Avoids w (written_taking x v (equality (variable (value_for x v)) e) q)
    assign-avoids e so =
        taking-avoids (equality (variable (value_for x v)) e)
        (ov, computed-avoids w (sort_of x) e so)

    pub name-avoids : (l : Name) → Not l → (e : Term) → Computes node_sort e
        → Avoids w (written_taking x v (written_name x v e l) q)
    name-avoids l ol e so =
        taking-avoids (written_name x v e l)
        (ol, (tt, (ov, (computed-avoids w node_sort e so, (tt, ol)))))

    pub children-avoids : (s : Name) → Not s → (e : Term) → Computes node_sort e
        → Avoids w (written_taking x v (written_children x v e s) q)
    children-avoids s os e so =
        taking-avoids (written_children x v e s)
        (os, (tt, (os, (computed-avoids w node_sort e so, (tt, ov)))))

    pub parent-avoids : (s t l m t' m' : Name) → Not s → Not t → Not l → Not m → Not t' → Not m'
        → (e : Term) → Computes node_sort e
        → Avoids w (written_taking x v (written_parent x v e s t l m t' m') q)
    parent-avoids s t l m t' m' os ot ol om ot' om' e so =
        let te : AvoidsTerm w e = computed-avoids w node_sort e so in
        let child : Avoids w (among_others truth (named_node t e truth m)) =
        ((tt, node-avoids t m e truth ot om te tt), tt) in
        taking-avoids (written_parent x v e s t l m t' m') (
          (os, (ot, (ol, (om, (tt, (os, (ov, (child, ol)))))))),
          ((ot', (om', (node-avoids t' m' e truth ot' om' te tt, tt))), (ov, tt)),
        )

    pub item-avoids : (s i t m s' i' n : Name) → Not s → Not i → Not t → Not m → Not s' → Not i'
        → Not n → (e f : Term) → Computes list_sort e → Computes int_sort f
        → Avoids w (written_taking x v (written_item x v e f s i t m s' i' n) q)
    item-avoids s i t m s' i' n os oi ot om os' oi' on e f se sf =
        let te : AvoidsTerm w e = computed-avoids w list_sort e se in
        let tf : AvoidsTerm w f = computed-avoids w int_sort f sf in
        taking-avoids (written_item x v e f s i t m s' i' n) (
          (os, (oi, (ot, (om, (tt, (os, (oi, (((tf, (ot, (ov, (tt, om)))), tt), te)))))))),
          ((os', (oi', (on, ((tt, (os', (oi', (on, te)))), ((tf, tt), (on, tf)))))), (ov, tt)),
        )

    pub create-avoids : (m : Name) → Not m → (e : Term) → Computes str_sort e
        → Avoids w (written_create v m e q)
    create-avoids m om e so =
        (ov, (om, ((tt, (computed-avoids w str_sort e so, (ov, (tt, om)))), aq)))

  -- THE MOVES
  module _ (r : Name) (or : Not r) where
    pub moving-avoids : (p q : Named) → Avoids w p → Avoids w q
        → Avoids w (written_moving r p q)
    moving-avoids p q ap aq = (or, (ap, (or, aq)))

    module _ (e f : Term) (se : Computes node_sort e) (sf : Computes node_sort f) where
      te : AvoidsTerm w e
      te = computed-avoids w node_sort e se

      tf : AvoidsTerm w f
      tf = computed-avoids w node_sort f sf

      pub appended-avoids : (c s q l u t m : Name) → Not c → Not s → Not q → Not l → Not u → Not t
          → Not m → Avoids w (written_appended e f r c s q l u t m)
      appended-avoids c s q l u t m oc os oq ol ou ot om =
          let first = standing-avoids c s l e (same (forest_of q)) oc os ol te oq in
          let taken =
          out-avoids u (written_standing c s e (same (forest_of q)) l) ou first in
          let child = tree-avoids t m f ot om tf in
          let end =
          standing-avoids c s l e (followed_by (same (forest_of q)) u) oc os ol te (oq, ou) in
          (oc, (os, (oq, (ol, (ou, ((taken, (ou, child)), (or, end)))))))

      pub removed-avoids : (c s q p l u t m : Name) → Not c → Not s → Not q → Not p → Not l
          → Not u → Not t → Not m → Avoids w (written_removed e f r c s q p l u t m)
      removed-avoids c s q p l u t m oc os oq op ol ou ot om =
          let inside : Named =
          concatenation whole (followed_by (same (forest_of q)) u) (same (forest_of p)) in
          let others : Named = concatenation whole (same (forest_of q)) (same (forest_of p)) in
          let first = standing-avoids c s l e inside oc os ol te ((oq, ou), op) in
          let child = tree-avoids t m f ot om tf in
          let end = standing-avoids c s l e others oc os ol te (oq, op) in
          (oc, (os, (oq, (op, (ol, (ou, ((first, (ou, child)), (or, (end, ou)))))))))

      pub inserted-avoids : (g : Term) → Computes node_sort g → (c s q p l u v t m t' m' : Name)
          → Not c → Not s → Not q → Not p → Not l → Not u → Not v → Not t → Not m → Not t' → Not m'
          → Avoids w (written_inserted e f g r c s q p l u v t m t' m')
      inserted-avoids g sg c s q p l u v t m t' m' oc os oq op ol ou ov ot om ot' om' =
          let inside : Named =
          concatenation whole (followed_by (same (forest_of q)) v) (same (forest_of p)) in
          let moved : Named =
          concatenation whole (followed_by (followed_by (same (forest_of q)) u) v)
          (same (forest_of p)) in
          let first = standing-avoids c s l e inside oc os ol te ((oq, ov), op) in
          let taken = out-avoids u (written_standing c s e inside l) ou first in
          let child = tree-avoids t m f ot om tf in
          let other = tree-avoids t' m' g ot' om' (computed-avoids w node_sort g sg) in
          let end = standing-avoids c s l e moved oc os ol te (((oq, ou), ov), op) in
          let three : Avoids w (conjunction (conjunction
          (written_out u (written_standing c s e inside l))
          (written_is (shape tree) u (written_tree f t m)))
          (written_is (shape tree) v (written_tree g t' m'))) =
          ((taken, (ou, child)), (ov, other)) in
          (oc, (os, (oq, (op, (ol, (ou, (ov, (three, (or, end)))))))))
