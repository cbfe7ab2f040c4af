-- What a look-up and a change of the cells of a store are in the store of the definitions.
use Rattle.std.proofs.Common.{◌≡◌, ℕ, ◌<◌, ◌≤◌, zero, suc, ◌++◌, List, [], ◌∷◌, Bool, true, false, not, cond, Some, None, length, get_or, refl, sym, ap, ◌∙◌, arith}
use Rattle.std.specs.Prelude.{nat_lt, option_map, map}
use Rattle.std.specs.List.{find, position, prefix_len}
use Rattle.std.proofs.Math.ListN as list
use Rattle.std.proofs.lemmas.Bool.{ltb-false}
use Rattle.std.proofs.lemmas.List.Sums.{prefix_len_passes}
use Rattle.std.proofs.lemmas.List.Quantifiers.{position-Some}
use Rattle.model_shapes.specs.Values as values
use Rattle.model_terms.specs.Stores.{ProgVar, sort_of, Store, unset, holding, same_name, default, value_in, set}
use Rattle.dom_terms.specs.declared.store.Cell.{Cell}
use Rattle.dom_terms.specs.declared.values.Value.{Value}
use Rattle.dom_terms.specs.Terms.{prog_var_of}
use Rattle.dom_terms.specs.Values.{value_seen}
use Rattle.dom_terms.specs.Stores.{store_of, cell_seen, has_variable, found_in}

-- the value in a cell
abbrev pub value_in_cell : Cell → values.Value
value_in_cell cell = value_seen cell.value

-- the value of the first cell of a variable is the one that the store holds for it
pub find-found : (x : ProgVar) (cells : List Cell)
    → option_map value_in_cell (find (has_variable x) cells) ≡ found_in (store_of cells) x
find-found x [] = refl
find-found x (c ∷ cs) = by_test (has_variable x c) (find-found x cs)
  where
    by_test : (b : Bool) → option_map value_in_cell (find (has_variable x) cs)
        ≡ found_in (store_of cs) x
        → option_map value_in_cell (cond b (Some c) (find (has_variable x) cs))
        ≡ cond b (Some (value_in_cell c)) (found_in (store_of cs) x)
    by_test true h = refl
    by_test false h = h

-- the cell at a place is the variable's, and none before it is
abbrev pub IsFirst : ProgVar → List Cell → ℕ → Cell → Type 0
IsFirst x cells i d =
    (i < length cells) × (has_variable x (get_or cells i d) ≡ true)
    × ((k : ℕ) → k < i → has_variable x (get_or cells k d) ≡ false)

-- another value in the first cell of a variable sets the variable
first-set : (x : ProgVar) (v : Value) (cells : List Cell) (i : ℕ) (d : Cell)
    → d ≡ get_or cells i d → IsFirst x cells i d
    → store_of (list.set cells i (record { variable = d.variable; value = v }))
    ≡ set x (value_seen v) (store_of cells)
first-set x v [] i d e f = absurd (omega (arith, f.0))
first-set x v (c ∷ cs) zero d e f =
    ap (λ (q : Cell). holding (prog_var_of q.variable) (value_seen v) (store_of cs)) e
    ∙ sym (ap (λ b. cond b (holding (prog_var_of c.variable) (value_seen v) (store_of cs))
    (holding (prog_var_of c.variable) (value_seen c.value) (set x (value_seen v) (store_of cs))))
    f.1)
first-set x v (c ∷ cs) (suc i) d e f =
    ap (λ q. holding (prog_var_of c.variable) (value_seen c.value) q)
    (first-set x v cs i d e (omega (arith, f.0), f.1, λ k h. f.2 (suc k) (omega arith)))
    ∙ sym (ap (λ b. cond b (holding (prog_var_of c.variable) (value_seen v) (store_of cs))
    (holding (prog_var_of c.variable) (value_seen c.value) (set x (value_seen v) (store_of cs))))
    (f.2 zero (omega arith)))

-- the same at the place of the variable
pub place-set : (x : ProgVar) (v : Value) (cells : List Cell) (i : ℕ) (d : Cell)
    → d ≡ get_or cells i d → position (has_variable x) cells ≡ Some i
    → store_of (list.set cells i (record { variable = d.variable; value = v }))
    ≡ set x (value_seen v) (store_of cells)
place-set x v cells i d e p =
    first-set x v cells i d e (position-Some (has_variable x) cells i d p)

-- no item passes a test that has no place
none-passes : {A : Type 0} (p : A → Bool) (xs : List A) (d : A) → position p xs ≡ None
    → (k : ℕ) → k < length xs → p (get_or xs k d) ≡ false
none-passes p xs d e k h =
    turned (p (get_or xs k d)) (prefix_len_passes (λ x. not (p x)) xs k d
    (let n : length xs ≤ prefix_len (λ x. not (p x)) xs =
    longest (nat_lt (prefix_len (λ x. not (p x)) xs) (length xs)) refl e in omega arith))
  where
    turned : (b : Bool) → not b ≡ true → b ≡ false
    turned true q = absurd (cc)
    turned false q = refl

    longest : (b : Bool) → nat_lt (prefix_len (λ x. not (p x)) xs) (length xs) ≡ b
        → cond b (Some (prefix_len (λ x. not (p x)) xs)) None ≡ None
        → length xs ≤ prefix_len (λ x. not (p x)) xs
    longest true q n = absurd (cc)
    longest false q n = ltb-false _ _ q

-- a cell at the end sets a variable that no cell has
absent-set : (x : ProgVar) (c : Cell) (cells : List Cell) → prog_var_of c.variable ≡ x
    → ((k : ℕ) → k < length cells → has_variable x (get_or cells k c) ≡ false)
    → store_of (cells ++ c ∷ []) ≡ set x (value_seen c.value) (store_of cells)
absent-set x c [] e f = ap (λ y. holding y (value_seen c.value) (store_of [])) e
absent-set x c (d ∷ ds) e f =
    ap (λ q. holding (prog_var_of d.variable) (value_seen d.value) q)
    (absent-set x c ds e (λ k h. f (suc k) (omega arith)))
    ∙ sym (ap (λ b. cond b (holding (prog_var_of d.variable) (value_seen c.value) (store_of ds))
    (holding (prog_var_of d.variable) (value_seen d.value)
    (set x (value_seen c.value) (store_of ds)))) (f zero (omega arith)))

-- the same where the variable has no place
pub push-set : (c : Cell) (cells : List Cell)
    → position (has_variable (prog_var_of c.variable)) cells ≡ None
    → store_of (cells ++ c ∷ []) ≡ set (prog_var_of c.variable) (value_seen c.value)
    (store_of cells)
push-set c cells p =
    absent-set (prog_var_of c.variable) c cells refl
    (none-passes (has_variable (prog_var_of c.variable)) cells c p)

-- a variable that is found has the value that is found
pub found-value : (x : ProgVar) (store : Store) (v : values.Value) → Some v ≡ found_in store x
    → v ≡ value_in store x
found-value x unset v e = absurd (cc)
found-value x (holding y w store) v e = by_test (same_name x y) e (found-value x store v)
  where
    by_test : (b : Bool) → Some v ≡ cond b (Some w) (found_in store x)
        → (Some v ≡ found_in store x → v ≡ value_in store x) → v ≡ cond b w (value_in store x)
    by_test true q h = cc
    by_test false q h = h q

-- and one that isn't found has its sort's default
pub absent-default : (x : ProgVar) (store : Store) → None ≡ found_in store x
    → default (sort_of x) ≡ value_in store x
absent-default x unset e = refl
absent-default x (holding y w store) e = by_test (same_name x y) e (absent-default x store)
  where
    by_test : (b : Bool) → None ≡ cond b (Some w) (found_in store x)
        → (None ≡ found_in store x → default (sort_of x) ≡ value_in store x)
        → default (sort_of x) ≡ cond b w (value_in store x)
    by_test true q h = absurd (cc)
    by_test false q h = h q

-- cells that hold the same make the same store
pub same_cells : (xs ys : List Cell) → map cell_seen xs ≡ map cell_seen ys
    → store_of xs ≡ store_of ys
same_cells [] [] e = refl
same_cells [] (y ∷ ys) e = absurd cc
same_cells (x ∷ xs) [] e = absurd cc
same_cells (x ∷ xs) (y ∷ ys) e =
    let same : cell_seen x ≡ cell_seen y = cc in
    let rest : map cell_seen xs ≡ map cell_seen ys = cc in
    ap (λ (held : ProgVar × values.Value). holding held.0 held.1 (store_of xs)) same
    ∙ ap (holding (prog_var_of y.variable) (value_seen y.value)) (same_cells xs ys rest)
