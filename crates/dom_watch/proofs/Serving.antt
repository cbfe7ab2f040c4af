-- Quantifiers may go over what stands at the rows of a table.
use Rattle.std.proofs.Common.{◌≡◌, ◌∙◌, inl, inr, ⊎_elim, ℕ, zero, suc, ◌<◌, true, List, [], ◌∷◌, None, map, refl, sym, ap, subst, arith}
use Rattle.std.specs.List.{slice_range}
use Rattle.model_shapes.specs.Sorts.{Sort, value, node_sort, list_sort, str_sort}
use Rattle.model_shapes.specs.Values.{Name, Value, node_number, list_number, str}
use Rattle.model_shapes.specs.Trees.{Trees, none, node, hole, list_uses, WellFormed}
use Rattle.model_shapes.specs.Things.{Thing, val, Fits}
use Rattle.model_shapes.proofs.Truth.{false≢true}
use Rattle.model_terms.specs.Variables.{Var, logic, var_sort}
use Rattle.model_heap.specs.Entries.{rows_of, uses}
use Rattle.model_heap.proofs.Moves.{entry_absent}
use Rattle.model_heap.proofs.Words.{uses-are, list_used}
use Rattle.model_watch.specs.Watchable.{may_be_sought}
use Rattle.model_watch.specs.Watching.{Among, Somewhere, StandsAt, Values}
use Rattle.dom_watch.specs.declared.rows.Row.{Row}
use Rattle.dom_watch.specs.Rows.{Shows, value_at, values_at}
use Rattle.dom_watch.specs.Tables.{StandsIn}
use Rattle.dom_watch.proofs.Standing.{among_range}

-- a value among those of rows is that of a row, and the other way round
from_row : (s : Sort) (rows : List Row) (w : Value) → Among (map (value_at s) rows) w
    → (row : Row) × Among rows row × (w ≡ value_at s row)
from_row s [] w h = absurd h
from_row s (x ∷ rows) w h = ⊎_elim (λ e. (x, inl refl, e))
    (λ m. let y = from_row s rows w m in (y.0, inr y.1, y.2)) h

of_row : (s : Sort) (rows : List Row) (row : Row) → Among rows row
    → Among (map (value_at s) rows) (value_at s row)
of_row s [] row h = absurd h
of_row s (x ∷ rows) row h = ⊎_elim (λ e. inl (ap (value_at s) e))
    (λ m. inr (of_row s rows row m)) h

-- a node of the trees has its row
row_there : (all rows : List Row) (f : Trees) (P : Name → ℕ → ℕ → Type 0)
    → ((x : Row) → Among rows x → Among all x) → Shows all rows f → Somewhere P f
    → (row : Row) × Among all row × P row.name.now row.number row.list
row_there all [] none P sub h s = absurd s
row_there all [] (node a i k l rest) P sub h s = absurd h
row_there all [] (hole rest) P sub h s = absurd h
row_there all (x ∷ rows) none P sub h s = absurd h
row_there all (x ∷ rows) (hole rest) P sub h s = absurd h
row_there all (x ∷ rows) (node a i k l rest) P sub h s = ⊎_elim
    (λ p. (
      x,
      sub x (inl refl),
      subst (λ z. P x.name.now x.number z) (sym h.2)
          (subst (λ z. P x.name.now z l) (sym h.1) (subst (λ z. P z i l) (sym h.0) p)),
    ))
    (⊎_elim (λ q. row_there all (slice_range all x.first x.end) k P
    (λ y m. among_range all x.first x.end y m) h.5 q)
    (λ q. row_there all rows rest P (λ y m. sub y (inr m)) h.6 q)) s

positive : (n : ℕ) → (n ≡ 0 → ⊥) → 0 < n
positive zero d = absurd (d refl)
positive (suc n) d = omega arith

module _ (all : List Row) (g : Trees) (well : WellFormed g)
    (stands : (row : Row) → Among all row → StandsIn g row)
  where
    number_positive : (row : Row) → Among all row → 0 < row.number
    number_positive row m = positive row.number (λ e.
        let z : uses 0 g ≡ 0 = sym (uses-are 0 g) ∙ well.no_node_zero in
        let a = entry_absent None g 0 z in
        let b = sym (stands row m).is ∙ ap (rows_of g) e ∙ a in
        absurd (cc))

    list_positive : (row : Row) → Among all row → 0 < row.list
    list_positive row m = positive row.list (λ e.
        let w = stands row m in
        let u = list_used None g row.number w.entry w.is in
        let z : list_uses w.entry.list g ≡ 0 =
        ap (λ l. list_uses l g) (sym w.list ∙ e) ∙ well.no_list_zero in
        absurd (omega (arith, u, z)))

    fit : (x : Var) → may_be_sought x ≡ true → (w : Value)
        → Among (values_at all (var_sort x)) w → Fits (var_sort x) (val w)
    fit (logic name (value node_sort)) h w m =
        let y = from_row (value node_sort) all w m in
        subst (λ v. Fits (value node_sort) (val v)) (sym y.2) (number_positive y.0 y.1)
    fit (logic name (value list_sort)) h w m =
        let y = from_row (value list_sort) all w m in
        subst (λ v. Fits (value list_sort) (val v)) (sym y.2) (list_positive y.0 y.1)
    fit (logic name (value str_sort)) h w m =
        let y = from_row (value str_sort) all w m in
        subst (λ v. Fits (value str_sort) (val v)) (sym y.2) tt
    fit x h w m = absurd (false≢true {P = ⊥} h)

    sought : (x : Var) → may_be_sought x ≡ true → (v : Thing) → Fits (var_sort x) v → (row : Row)
        → Among all row → StandsAt v row.name.now row.number row.list
        → (w : Value) × (v ≡ val w) × Among (values_at all (var_sort x)) w
    sought (logic name (value node_sort)) h v o row m s = (
      node_number row.number,
      ⊎_elim (λ q. absurd (subst (Fits (value node_sort)) q o))
          (⊎_elim (λ q. q) (λ q. absurd (subst (Fits (value node_sort)) q o))) s,
      of_row (value node_sort) all row m,
    )
    sought (logic name (value list_sort)) h v o row m s = (
      list_number row.list,
      ⊎_elim (λ q. absurd (subst (Fits (value list_sort)) q o))
          (⊎_elim (λ q. absurd (subst (Fits (value list_sort)) q o)) (λ q. q)) s,
      of_row (value list_sort) all row m,
    )
    sought (logic name (value str_sort)) h v o row m s = (
      str row.name.now,
      ⊎_elim (λ q. q)
          (⊎_elim (λ q. absurd (subst (Fits (value str_sort)) q o))
          (λ q. absurd (subst (Fits (value str_sort)) q o))) s,
      of_row (value str_sort) all row m,
    )
    sought x h v o row m s = absurd (false≢true {P = ⊥} h)

    pub rows_serve : (rows : List Row) → ((x : Row) → Among rows x → Among all x)
        → Shows all rows g → Values (values_at all) g
    rows_serve rows sub shows = record {
      fit = fit;
      all = λ x h v o s.
          let y = row_there all rows g (StandsAt v) sub shows s in
          sought x h v o y.0 y.1 y.2;
    }
