-- A tree comes in before another.
use Rattle.std.proofs.Common.{◌≡◌, ◌≢◌, ℕ, ◌+◌, ◌≤◌, true, false, List, [], ◌∷◌, ◌++◌, Option, Some, None, refl, sym, ap, ◌∙◌, inl, inr, arith, subst}
use Rattle.std.specs.Option.{option_map}
use Rattle.std.proofs.lemmas.Bool.{cases_eq}
use Rattle.model_groves.specs.Sizes.{size}
use Rattle.model_shapes.specs.Trees.{Trees, none, node, hole}
use Rattle.model_shapes.specs.Shapes.{holes}
use Rattle.model_heap.specs.Lists.{count}
use Rattle.model_heap.specs.Entries.{Entry, roots, uses, entry, tree_at, all_but, rows_of, kids_of, parent_of, Kin, detached, attached_by, kids_by, below, less_kid, drop_from, inserted_at, inserted, insert_in, into}
use Rattle.model_heap.proofs.Moves.{test_yes, test_no, one_here, none_here, or_none, map_or, entry_absent, entry-beside, roots-beside, uses-beside, uses-split, uses-all_but, entry-all_but, entry-tree_root, entry-tree_below, roots-tree}
use Rattle.model_heap.proofs.Kinship.{roots_use, kids_use, Kin-rows_of, tree_step}
use Rattle.model_heap.proofs.Arranged.{size-beside, holes-beside}

insert_none : (w : ℕ) (cs xs : List ℕ) → count w xs ≡ 0 → insert_in w cs xs ≡ xs
insert_none w cs [] h = refl
insert_none w cs (x ∷ xs) h = elim (cases_eq w x) [
  | inl e ↦ absurd (omega (
    arith,
    h,
    one_here w x e,
  ))
  | inr d ↦ rw (test_no w x d) (ap (λ z. x ∷ z) (insert_none w cs xs (omega
      (arith, h))))
]

roots-insert : (w : ℕ) (t r : Trees) → roots (inserted_at w t r) ≡ insert_in w (roots t) (roots r)
roots-insert w t none = refl
roots-insert w t (node s i kids l rest) = elim (cases_eq w i) [
  | inl e ↦ rw (test_yes w i e) (roots-beside t (node s i kids l rest))
  | inr d ↦ rw (test_no w i d, roots-insert w t rest) refl
]
roots-insert w t (hole rest) = roots-insert w t rest

into_absent : (w : ℕ) (cs : List ℕ) (q : Option ℕ) (r : Trees) (n : ℕ) → uses w r ≡ 0 → option_map
    (into w cs) (entry q r n) ≡ entry q r n
into_absent w cs q r n h = same (entry q r n) (insert_none w cs (kids_of (entry q r n)) (omega
    (arith, h, kids_use q r n w)))
  where
    same : (o : Option Entry) → insert_in w cs (kids_of o) ≡ kids_of o → option_map
        (into w cs) o ≡ o
    same None e = refl
    same (Some x) e = ap (λ k. Some (record x { kids = k })) e

entry-insert : (w : ℕ) (t : Trees) (q : Option ℕ) (r : Trees) (n : ℕ) → uses w r ≤ 1 → uses n t ≡ 0
    → entry q (inserted_at w t r) n ≡ option_map (into w (roots t)) (entry q r n)
entry-insert w t q none n u h = refl
entry-insert w t q (node s i kids l rest) n u h =
    elim (cases_eq w i) [
      | inl e ↦
          let hk : uses w kids ≡ 0 = omega (arith, u, one_here w i e) in
          let hr : uses w rest ≡ 0 = omega (arith, u, one_here w i e) in
          let c : count w (roots kids) ≡ 0 = omega (arith, hk, roots_use w kids) in
          rw (test_yes w i e) (entry-beside q t (node s i kids l rest) n ∙ rw (entry_absent q t n h)
          (sym (elim (cases_eq n i) [
            | inl f ↦ rw (test_yes n i f) (ap (λ k. Some
                (record { name = s; list = l; parent = q; kids = k })) (insert_none w (roots t)
                (roots kids) c))
            | inr f ↦ rw (
              test_no n i f,
              map_or,
              into_absent w (roots t) (Some i) kids n hk,
              into_absent w (roots t) q rest n hr,
            ) refl
          ])))
      | inr e ↦
          let uk : uses w kids ≤ 1 = omega (arith, u) in
          let ur : uses w rest ≤ 1 = omega (arith, u) in
          elim (cases_eq n i) [
            | inl f ↦ rw (test_no w i e, test_yes n i f, roots-insert w t kids) refl
            | inr f ↦ rw (
              test_no w i e,
              test_no n i f,
              map_or,
              entry-insert w t
                  (Some i) kids n uk h,
              entry-insert w t q rest n ur h,
            ) refl
          ]
    ]
entry-insert w t q (hole rest) n u h = entry-insert w t q rest n u h

insert_absent : (w : ℕ) (t r : Trees) → uses w r ≡ 0 → inserted_at w t r ≡ r
insert_absent w t none h = refl
insert_absent w t (node s i kids l rest) h = elim (cases_eq w i) [
  | inl e ↦ absurd (omega (arith, h, one_here w i e))
  | inr e ↦
      let hk : uses w kids ≡ 0 = omega (arith, h) in
      let hr : uses w rest ≡ 0 = omega (arith, h) in
      rw (test_no w i e, insert_absent w t kids hk, insert_absent w t rest hr) refl
]
insert_absent w t (hole rest) h = ap hole (insert_absent w t rest h)

entry-inserted : (w : ℕ) (t : Trees) (q : Option ℕ) (r : Trees) (n : ℕ) → uses w r ≡ 1
    → uses n r ≡ 0 → entry q (inserted_at w t r) n ≡ entry (parent_of (entry q r w)) t n
entry-inserted w t q none n u h = absurd (omega (arith, u))
entry-inserted w t q (node s i kids l rest) n u h =
    elim (cases_eq n i) [
      | inl f ↦ absurd (omega (arith, h, one_here n i f))
      | inr f ↦
          let nk : uses n kids ≡ 0 = omega (arith, h) in
          let nr : uses n rest ≡ 0 = omega (arith, h) in
          elim (cases_eq w i) [
            | inl e ↦
                let x = entry-beside q t (node s i kids l rest) n in
                let y : entry q (node s i kids l rest) n ≡ None = entry_absent q
                (node s i kids l rest) n h in
                let z : parent_of (entry q (node s i kids l rest) w) ≡ q = rw
                (test_yes w i e) refl in
                rw z (rw (test_yes w i e) (x ∙ rw (y, or_none) refl))
            | inr e ↦ elim (cases_eq (uses w kids) 0) [
              | inl z ↦
                  let ur : uses w rest ≡ 1 = omega (arith, u, z, none_here w i e) in
                  rw (
                    test_no w i e,
                    test_no n i f,
                    insert_absent w t kids z,
                    entry_absent
                        (Some i) kids n nk,
                    entry_absent (Some i) kids w z,
                  )
                  (entry-inserted w t q rest n ur nr)
              | inr z ↦
                  let uk : uses w kids ≡ 1 = omega (arith, u, z, none_here w i e) in
                  let ur : uses w rest ≡ 0 = omega (arith, u, z, none_here w i e) in
                  rw (
                    test_no w i e,
                    test_no n i f,
                    insert_absent w t rest ur,
                    entry_absent q rest n nr,
                    entry_absent q rest w ur,
                    or_none,
                    or_none,
                  )
                  (entry-inserted w t (Some i) kids n uk nk)
            ]
          ]
    ]
entry-inserted w t q (hole rest) n u h = entry-inserted w t q rest n u h

pub inserted_uses : (w : ℕ) (t r : Trees) (n : ℕ) → uses w r ≡ 1 → uses n
    (inserted_at w t r) ≡ uses n r + uses n t
inserted_uses w t none n u = absurd (omega (arith, u))
inserted_uses w t (node s i kids l rest) n u =
    elim (cases_eq w i) [
      | inl e ↦ rw (test_yes w i e) (omega (arith, uses-beside n t (node s i kids l rest)))
      | inr e ↦ elim (cases_eq (uses w kids) 0) [
        | inl z ↦ rw (test_no w i e, insert_absent w t kids z) (omega (
          arith,
          inserted_uses w t rest n (omega (arith, u, z, none_here w i e)),
        ))
        | inr z ↦ rw (test_no w i e, insert_absent w t rest (omega (arith, u, z, none_here w i e)))
            (omega (arith, inserted_uses w t kids n (omega (arith, u, z, none_here w i e))))
      ]
    ]
inserted_uses w t (hole rest) n u = inserted_uses w t rest n u

drop_count : (c w : ℕ) (xs : List ℕ) → count w xs ≡ 0 → count w (drop_from c xs) ≡ 0
drop_count c w [] h = refl
drop_count c w (x ∷ xs) h = elim (cases_eq c x) [
  | inl e ↦ rw (test_yes c x e) (omega (
    arith,
    h,
  ))
  | inr d ↦ rw (test_no c x d) (omega (arith, h, drop_count c w xs (omega (arith, h))))
]

-- THE GROVE AFTER AN INSERTION before `w`, a child of `p`
pub rows-inserted : (p w c : ℕ) (g : Trees) → ((n : ℕ) → uses n g ≤ 1) → uses c g ≡ 1 → w ≢ c
    → parent_of (rows_of g w) ≡ Some p → uses p (tree_at c g) ≡ 0 → (n : ℕ) → rows_of
    (inserted w c g) n ≡ attached_by (insert_in w (c ∷ [])) p c (detached c (rows_of g)) n
rows-inserted p w c g once cin differ up apart n =
    let kin = Kin-rows_of g once in
    let has : 1 ≤ count w (kids_of (rows_of g p)) = kin.down p w up in
    let wt : uses w (tree_at c g) ≡ 0 = tree_step c None g p w differ (once c) (once p) (once w) has
    ∙ apart in
    let wg : 1 ≤ uses w g = omega (arith, has, kids_use None g p w) in
    let ww : uses w (all_but c g) ≡ 1 = omega (arith, uses-split c g w (once c), wg, wt, once w) in
    let pw : 1 ≤ uses p g = some_use (rows_of g p) refl has in
    let pp : uses p (all_but c g) ≡ 1 = omega (
      arith,
      uses-split c g p (once c),
      pw,
      apart,
      once p,
    ) in
    let rt = roots-tree c g cin in
    let above : parent_of (entry None (all_but c g) w) ≡ Some p = ap parent_of
    (entry-all_but c None g w (once c) wt) ∙ same_parent (entry None g w) ∙ up in
    elim (cases_eq n c) [
      | inl e ↦
          let z : uses n (all_but c g) ≡ 0 = subst (λ m. uses m (all_but c g) ≡ 0) (sym e)
          (uses-all_but c g (once c)) in
          let t : entry (Some p) (tree_at c g) n ≡ option_map (below (Some p))
          (entry None g n) = subst (λ m. entry (Some p) (tree_at c g) m ≡ option_map (below
          (Some p)) (entry None g m)) (sym e) (entry-tree_root c None (Some p) g (once c)) in
          rw (test_yes n c e, entry-inserted w (tree_at c g) None (all_but c g) n ww z, above, t)
          (both (entry None g n))
      | inr e ↦ elim (cases_eq (uses n (tree_at c g)) 0) [
        | inl z ↦
            rw (
              test_no n c e,
              entry-insert w (tree_at c g) None (all_but c g) n (omega (
                arith,
                ww,
              )) z,
              rt,
              entry-all_but c None g n (once c) z,
            )
            (elim (cases_eq n p) [
              | inl f ↦ rw (test_yes n p f) (into_all (option_map (less_kid c) (entry None g n)))
              | inr f ↦ rw (test_no n p f) (into_no (entry None g n) (elsewhere kin n f))
            ])
        | inr z ↦
            let v : uses n (all_but c g) ≡ 0 = omega (
              arith,
              z,
              once n,
              uses-split c g n
                  (once c),
            ) in
            let d : n ≢ p = λ x. absurd (omega (
              arith,
              v,
              subst (λ m. uses m (all_but c g) ≡ 1)
                  (sym x) pp,
            )) in
            rw (
              test_no n c e,
              entry-inserted w (tree_at c g) None (all_but c g) n ww v,
              above,
              test_no n p d,
              entry-tree_below c None (Some p) g n e (once c) (once n) (omega
                  (arith, z)),
            ) (kept (option_map (less_kid c) (entry None g n)))
      ]
    ]
  where
    some_use : (o : Option Entry) → rows_of g p ≡ o → 1 ≤ count w (kids_of (rows_of g p))
        → 1 ≤ uses p g
    some_use o e h = elim (cases_eq (uses p g) 0) [
      | inl z ↦ absurd (omega (arith, h, ap (λ o. count w (kids_of o)) (entry_absent None g p z)))
      | inr z ↦ omega (arith, z)
    ]

    same_parent : (o : Option Entry) → parent_of (option_map (less_kid c) o) ≡ parent_of o
    same_parent None = refl
    same_parent (Some x) = refl

    both : (x : Option Entry) → option_map (below (Some p)) x ≡ option_map (below (Some p))
        (option_map (below None) x)
    both None = refl
    both (Some x) = refl

    kept : (x : Option Entry) → x ≡ option_map (kids_by false (insert_in w (c ∷ []))) x
    kept None = refl
    kept (Some x) = refl

    into_all : (x : Option Entry) → option_map (into w (c ∷ [])) x ≡ option_map (kids_by true
        (insert_in w (c ∷ []))) x
    into_all None = refl
    into_all (Some x) = refl

    elsewhere : Kin (rows_of g) → (m : ℕ) → m ≢ p → count w (kids_of (rows_of g m)) ≡ 0
    elsewhere kin m f = elim (cases_eq (count w (kids_of (rows_of g m))) 0) [
      | inl z ↦ z
      | inr z ↦ absurd (f (let x = kin.up m w (omega (arith, z)) in cc))
    ]

    into_no : (o : Option Entry) → count w (kids_of o) ≡ 0 → option_map (into w (c ∷ []))
        (option_map (less_kid c) o) ≡ option_map (kids_by false (insert_in w (c ∷ []))) (option_map
        (less_kid c) o)
    into_no None h = refl
    into_no (Some x) h = ap (λ k. Some (record x { kids = k })) (insert_none w (c ∷ [])
        (drop_from c x.kids) (drop_count c w x.kids h))

pub size-insert : (w : ℕ) (t r : Trees) → uses w r ≡ 1 → size (inserted_at w t r) ≡ size r + size t
size-insert w t none u = absurd (omega (arith, u))
size-insert w t (node s i kids l rest) u =
    elim (cases_eq w i) [
      | inl e ↦ rw (test_yes w i e) (omega (arith, size-beside t (node s i kids l rest)))
      | inr e ↦ elim (cases_eq (uses w kids) 0) [
        | inl z ↦ rw (test_no w i e, insert_absent w t kids z) (omega (
          arith,
          size-insert w t rest
              (omega (arith, u, z, none_here w i e)),
        ))
        | inr z ↦ rw (test_no w i e, insert_absent w t rest (omega (arith, u, z, none_here w i e)))
            (omega (arith, size-insert w t kids (omega (arith, u, z, none_here w i e))))
      ]
    ]
size-insert w t (hole rest) u = size-insert w t rest u

pub holes-insert : (w : ℕ) (t r : Trees) → holes t ≡ 0 → holes r ≡ 0 → holes (inserted_at w t r) ≡ 0
holes-insert w t none k h = refl
holes-insert w t (node s i kids l rest) k h =
    elim (cases_eq w i) [
      | inl e ↦ rw (test_yes w i e) (omega (arith, h, k, holes-beside t (node s i kids l rest)))
      | inr e ↦ rw (test_no w i e) (omega (
        arith,
        h,
        holes-insert w t kids k (omega (arith, h)),
        holes-insert w t rest k (omega (arith, h)),
      ))
    ]
holes-insert w t (hole rest) k h = absurd (omega (arith, h))

pub insert_split : (w : ℕ) (cs a b : List ℕ) → count w a ≡ 0 → insert_in w cs (a ++ w ∷ b) ≡ a ++
    (cs ++ w ∷ b)
insert_split w cs [] b h = rw (test_yes w w refl) refl
insert_split w cs (x ∷ a) b h = elim (cases_eq w x) [
  | inl e ↦ absurd (omega (
    arith,
    h,
    one_here w x e,
  ))
  | inr d ↦ rw (test_no w x d) (ap (λ z. x ∷ z) (insert_split w cs a b (omega
      (arith, h))))
]
