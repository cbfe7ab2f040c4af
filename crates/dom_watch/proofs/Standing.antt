-- Rows that are laid stand for the trees whose numbers they have.
use Rattle.std.proofs.Common.{◌≡◌, ◌≢◌, ◌∙◌, inl, inr, ⊎_elim, ℕ, zero, suc, ◌+◌, ◌-◌, ◌≤◌, List, [], ◌∷◌, Option, Some, None, take, drop, refl, sym, ap, arith}
use Rattle.std.specs.List.{slice_range}
use Rattle.std.proofs.lemmas.List.{take-map, drop-map, length-map}
use Rattle.std.proofs.lemmas.Option.{same_Some}
use Rattle.model_shapes.specs.Trees.{Trees, none, node, hole}
use Rattle.model_shapes.specs.Shapes.{holes}
use Rattle.model_heap.specs.Entries.{Entry, rows_of, entry, roots, uses, kids_of}
use Rattle.model_heap.proofs.Moves.{test_yes, test_no, one_here, or_none, entry_absent}
use Rattle.model_watch.specs.Watching.{Among}
use Rattle.dom_watch.specs.declared.rows.Row.{Row}
use Rattle.dom_watch.specs.Rows.{Shows}
use Rattle.dom_watch.specs.Tables.{numbers_of, StandsIn, IsLaid}

-- each node of these trees stands in the grove, with its children
abbrev pub StandIn : Trees → Trees → Type 0
StandIn g none = Unit {0}
StandIn g (node s i k l rest) =
    (p : Option ℕ)
    × (rows_of g i ≡ Some (record { name = s; list = l; parent = p; kids = roots k }))
    × StandIn g k × StandIn g rest
StandIn g (hole rest) = ⊥

-- so do those of a part whose entries are the grove's
part_stands : (g : Trees) (q : Option ℕ) (f : Trees) → holes f ≡ 0 → ((n : ℕ) → uses n f ≤ 1)
    → ((n : ℕ) → 1 ≤ uses n f → entry q f n ≡ rows_of g n) → StandIn g f
part_stands g q none w u h = tt
part_stands g q (hole rest) w u h = absurd (omega (arith, w))
part_stands g q (node s i k l rest) w u h = (
  q,
  sym (h i (omega (arith, one_here i i refl))) ∙ own,
  part_stands g (Some i) k (omega (arith, w)) (λ n. omega (arith, u n))
      (λ n in_kids. inside n in_kids),
  part_stands g q rest (omega (arith, w)) (λ n. omega (arith, u n)) (λ n in_rest. beyond n in_rest),
)
  where
    own : entry q (node s i k l rest) i
        ≡ Some (record { name = s; list = l; parent = q; kids = roots k })
    own = rw (test_yes i i refl) refl

    apart : (n : ℕ) → 1 ≤ uses n k + uses n rest → n ≢ i
    apart n more e = absurd (omega (arith, u n, one_here n i e, more))

    inside : (n : ℕ) → 1 ≤ uses n k → entry (Some i) k n ≡ rows_of g n
    inside n more =
        let d : n ≢ i = apart n (omega (arith, more)) in
        let z : uses n rest ≡ 0 = omega (arith, u n, more) in
        let e : entry q (node s i k l rest) n ≡ entry (Some i) k n =
        rw (test_no n i d, entry_absent q rest n z, or_none) refl in
        sym e ∙ h n (omega (arith, more))

    beyond : (n : ℕ) → 1 ≤ uses n rest → entry q rest n ≡ rows_of g n
    beyond n more =
        let d : n ≢ i = apart n (omega (arith, more)) in
        let z : uses n k ≡ 0 = omega (arith, u n, more) in
        let e : entry q (node s i k l rest) n ≡ entry q rest n =
        rw (test_no n i d, entry_absent (Some i) k n z) refl in
        sym e ∙ h n (omega (arith, more))

pub grove_stands : (g : Trees) → holes g ≡ 0 → ((n : ℕ) → uses n g ≤ 1) → StandIn g g
grove_stands g w u = part_stands g None g w u (λ n more. refl)

among_drop : (n : ℕ) (rows : List Row) (x : Row) → Among (drop n rows) x → Among rows x
among_drop zero rows x h = h
among_drop (suc n) [] x h = h
among_drop (suc n) (y ∷ rows) x h = inr (among_drop n rows x h)

pub among_take : (n : ℕ) (rows : List Row) (x : Row) → Among (take n rows) x → Among rows x
among_take zero rows x h = absurd h
among_take (suc n) [] x h = h
among_take (suc n) (y ∷ rows) x h = ⊎_elim (λ e. inl e) (λ m. inr (among_take n rows x m)) h

pub among_range : (all : List Row) (a b : ℕ) (x : Row) → Among (slice_range all a b) x → Among all x
among_range all a b x h = among_drop a all x (among_take (b - a) (drop a all) x h)

module _ (all : List Row) (g : Trees) (stands : (row : Row) → Among all row → StandsIn g row)
    (laid : (row : Row) → Among all row → IsLaid (numbers_of all) g row)
  where
    -- the numbers of a part of the rows
    part : (a b : ℕ) → numbers_of (slice_range all a b) ≡ slice_range (numbers_of all) a b
    part a b =
        sym (take-map (λ (row : Row). row.number) (b - a) (drop a all))
        ∙ ap (take (b - a)) (sym (drop-map (λ (row : Row). row.number) a all))

    pub shown : (f : Trees) (rows : List Row) → ((x : Row) → Among rows x → Among all x)
        → StandIn g f → numbers_of rows ≡ roots f → Shows all rows f
    shown none [] sub h e = tt
    shown none (x ∷ rows) sub h e = absurd (cc)
    shown (hole rest) rows sub h e = absurd h
    shown (node s i k l rest) [] sub h e = absurd (cc)
    shown (node s i k l rest) (x ∷ rows) sub h e =
        let number : x.number ≡ i = cc in
        let others : numbers_of rows ≡ roots rest = cc in
        let v = stands x (sub x (inl refl)) in
        let w = laid x (sub x (inl refl)) in
        let here : Entry = record { name = s; list = l; parent = h.0; kids = roots k } in
        let there : rows_of g x.number ≡ Some here = ap (rows_of g) number ∙ h.1 in
        let same : v.entry ≡ here = same_Some v.entry here (sym v.is ∙ there) in (
          v.name ∙ ap (λ (z : Entry). z.name) same,
          number,
          v.list ∙ ap (λ (z : Entry). z.list) same,
          w.up,
          omega (arith, w.within, length-map all (λ (row : Row). row.number)),
          shown k (slice_range all x.first x.end)
              (λ y m. among_range all x.first x.end y m) h.2
              (part x.first x.end ∙ w.kids ∙ ap kids_of there),
          shown rest rows (λ y m. sub y (inr m)) h.3 others,
        )
