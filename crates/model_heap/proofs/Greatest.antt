-- The greatest numbers of a grove.
use Rattle.std.proofs.Common.{◌≡◌, ◌≢◌, ◌⊎◌, ℕ, ◌≤◌, max, Option, Some, None, refl, sym, ap, inl, inr, arith, subst}
use Rattle.std.specs.Option.{option_or}
use Rattle.std.proofs.lemmas.Bool.{cases_eq, cases_lt}
use Rattle.model_groves.specs.Sizes.{greatest_list, greatest_node}
use Rattle.model_shapes.specs.Trees.{Trees, none, node, hole}
use Rattle.model_heap.specs.Entries.{Entry, roots, uses, entry}
use Rattle.model_heap.proofs.Moves.{test_yes, test_no, one_here, none_here, entry_absent}

pub node_bound : (g : Trees) (n : ℕ) → 1 ≤ uses n g → n ≤ greatest_node g
node_bound none n h = absurd (omega (arith, h))
node_bound (node s i kids l rest) n h = elim (cases_eq n i) [
  | inl e ↦ omega (arith, e)
  | inr d ↦ elim (cases_eq (uses n kids) 0) [
    | inl z ↦ omega (arith, node_bound rest n (omega (arith, h, z, none_here n i d)))
    | inr z ↦ omega (arith, node_bound kids n (omega (arith, z)))
  ]
]
node_bound (hole rest) n h = node_bound rest n h

pub node_there : (g : Trees) → (greatest_node g ≡ 0) ⊎ (1 ≤ uses (greatest_node g) g)
node_there none = inl refl
node_there (node s i kids l rest) = elim (cases_lt i
    (max (greatest_node kids) (greatest_node rest))) [
      | inr a ↦
          let e : max i (max (greatest_node kids) (greatest_node rest)) ≡ i = omega (arith, a) in
          inr (omega (arith, one_here (max i (max (greatest_node kids) (greatest_node rest))) i e))
      | inl a ↦ elim (cases_lt (greatest_node kids) (greatest_node rest)) [
        | inl b ↦
            let e : max i (max (greatest_node kids) (greatest_node rest)) ≡ greatest_node rest =
            omega (arith, a, b) in
            elim (node_there rest) [
              | inl z ↦ absurd (omega (arith, z, b))
              | inr z ↦ let w =
                  subst (λ n. 1 ≤ uses n rest) (sym e) z in inr (omega (arith, w))
            ]
        | inr b ↦
            let e : max i (max (greatest_node kids) (greatest_node rest)) ≡ greatest_node kids =
            omega (arith, a, b) in
            elim (node_there kids) [
              | inl z ↦ absurd (omega (arith, z, a, b))
              | inr z ↦ let w =
                  subst (λ n. 1 ≤ uses n kids) (sym e) z in inr (omega (arith, w))
            ]
      ]
    ]
node_there (hole rest) = node_there rest

-- the list number of an entry is one of the grove's
pub list_bound : (q : Option ℕ) (g : Trees) (n : ℕ) (e : Entry) → entry q g n ≡ Some e
    → e.list ≤ greatest_list g
list_bound q none n e h = absurd (cc)
list_bound q (node s i kids l rest) n e h = elim (cases_eq n i) [
  | inl a ↦
      let w : l ≡ e.list = let z : Some (record {
        name = s;
        list = l;
        parent = q;
        kids =
            roots kids;
      }) ≡ Some e = rw (test_yes n i a) at h in ap list_of z in
      omega (arith, w)
  | inr d ↦
      let w : option_or (entry (Some i) kids n) (entry q rest n) ≡ Some e =
      rw (test_no n i d) at h in
      elim (either (entry (Some i) kids n) (entry q rest n) w) [
        | inl x ↦ omega (arith, list_bound (Some i) kids n e x)
        | inr x ↦ omega (arith, list_bound q rest n e x)
      ]
]
  where
    list_of : Option Entry → ℕ
    list_of None = 0
    list_of (Some x) = x.list

    either : (a b : Option Entry) → option_or a b ≡ Some e → (a ≡ Some e) ⊎ (b ≡ Some e)
    either None b h = inr h
    either (Some x) b h = inl h
list_bound q (hole rest) n e h = list_bound q rest n e h

pub record Attained (q : Option ℕ) (g : Trees) : Type 0 where
  pub number : ℕ
  pub entry_of : Entry
  pub is : entry q g number ≡ Some entry_of
  pub list : entry_of.list ≡ greatest_list g

some_use : (q : Option ℕ) (g : Trees) (n : ℕ) (e : Entry) → entry q g n ≡ Some e → 1 ≤ uses n g
some_use q g n e h = elim (cases_eq (uses n g) 0)
    [ inl z ↦ absurd (let a = entry_absent q g n z in cc) | inr z ↦ omega (arith, z) ]

pub list_there : (q : Option ℕ) (g : Trees) → ((n : ℕ) → uses n g ≤ 1) → (greatest_list g ≡ 0)
    ⊎ Attained q g
list_there q none u = inl refl
list_there q (node s i kids l rest) u = elim (cases_lt l
    (max (greatest_list kids) (greatest_list rest))) [
      | inr a ↦ inr (record {
        number = i;
        entry_of =
            record { name = s; list = l; parent = q; kids = roots kids };
        is =
            rw (test_yes i i refl) refl;
        list = omega (arith, a);
      })
      | inl a ↦ elim (cases_lt (greatest_list kids) (greatest_list rest)) [
        | inl b ↦ elim (list_there q rest (λ n. omega (arith, u n))) [
          | inl z ↦ absurd (omega (arith, z, b))
          | inr z ↦
              let h = some_use q rest z.number z.entry_of z.is in
              let d : z.number ≢ i = λ e. absurd (omega
              (arith, u z.number, h, one_here z.number i e)) in
              let k : uses z.number kids ≡ 0 = omega (arith, u z.number, h) in
              inr (record {
                number = z.number;
                entry_of = z.entry_of;
                is =
                    rw (test_no z.number i d, entry_absent (Some i) kids z.number k) z.is;
                list =
                    omega (arith, z.list, a, b);
              })
        ]
        | inr b ↦ elim (list_there (Some i) kids (λ n. omega (arith, u n))) [
          | inl z ↦ absurd (omega (arith, z, a, b))
          | inr z ↦
              let h = some_use (Some i) kids z.number z.entry_of z.is in
              let d : z.number ≢ i = λ e. absurd (omega
              (arith, u z.number, h, one_here z.number i e)) in
              inr (record {
                number = z.number;
                entry_of = z.entry_of;
                is =
                    rw (test_no z.number i d, z.is) refl;
                list = omega (arith, z.list, a, b);
              })
        ]
      ]
    ]
list_there q (hole rest) u = elim (list_there q rest u) [
  | inl z ↦ inl z
  | inr z ↦ inr (record {
    number = z.number;
    entry_of = z.entry_of;
    is = z.is;
    list = z.list;
  })
]
