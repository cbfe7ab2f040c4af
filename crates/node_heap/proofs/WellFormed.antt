-- Groves stay well formed where trees are moved.
use Rattle.std.proofs.Common.{◌≡◌, ℕ, ◌≤◌, refl, arith, subst}
use Rattle.model_shapes.specs.Sorts.{shape, grove}
use Rattle.model_shapes.specs.Trees.{Trees, beside, WellFormed}
use Rattle.model_shapes.specs.Shapes.{holes, Shaped}
use Rattle.model_groves.specs.Groves.{nodes_where, numbered, without, adding, adding_before}
use Rattle.model_machine.proofs.Fine.{appended-shaped, inserted-shaped, removed-shaped}
use Rattle.model_heap.specs.Entries.{uses, tree_at, all_but, removed, appended, inserted}
use Rattle.model_heap.proofs.Moves.{uses-split}
use Rattle.model_heap.proofs.Words.{tree_is, without_is, adding_is, adding_before_is}

pub shaped : (g : Trees) → WellFormed g → holes g ≡ 0 → Shaped (shape grove) g
shaped g w h = record { well_formed = w; width_fits = tt; holes_fit = h }

-- a removal, in the words of the machine
pub removed_is : (c : ℕ) (g : Trees) → uses c g ≤ 1
    → beside (without c g) (nodes_where (numbered c) g) ≡ removed c g
removed_is c g u = rw (without_is c g u, tree_is c g u) refl

-- an append, in the words of the machine
pub appended_is : (p c : ℕ) (g : Trees) → uses c g ≤ 1 → uses p g ≤ 1
    → adding p (nodes_where (numbered c) g) (without c g) ≡ appended p c g
appended_is p c g u v =
    let w : uses p (all_but c g) ≤ 1 = omega (arith, uses-split c g p u, v) in
    rw (without_is c g u, tree_is c g u) (adding_is p (tree_at c g) (all_but c g) w)

pub removed_well : (c : ℕ) (g : Trees) → uses c g ≤ 1 → holes g ≡ 0 → WellFormed g
    → WellFormed (removed c g)
removed_well c g u h w =
    subst WellFormed (removed_is c g u)
    (removed-shaped c (nodes_where (numbered c) g) g refl (shaped g w h)).well_formed

pub appended_well : (p c : ℕ) (g : Trees) → uses c g ≤ 1 → uses p g ≤ 1 → holes g ≡ 0
    → WellFormed g → WellFormed (appended p c g)
appended_well p c g u v h w =
    subst WellFormed (appended_is p c g u v)
    (appended-shaped p c (nodes_where (numbered c) g) g refl (shaped g w h)).well_formed

-- an insertion, in the words of the machine
pub inserted_is : (w c : ℕ) (g : Trees) → uses c g ≤ 1 → uses w g ≤ 1
    → adding_before w (nodes_where (numbered c) g) (without c g) ≡ inserted w c g
inserted_is w c g u v =
    let x : uses w (all_but c g) ≤ 1 = omega (arith, uses-split c g w u, v) in
    rw (without_is c g u, tree_is c g u) (adding_before_is w (tree_at c g) (all_but c g) x)

pub inserted_well : (w c : ℕ) (g : Trees) → uses c g ≤ 1 → uses w g ≤ 1 → holes g ≡ 0
    → WellFormed g → WellFormed (inserted w c g)
inserted_well w c g u v h x =
    subst WellFormed (inserted_is w c g u v)
    (inserted-shaped w c (nodes_where (numbered c) g) g refl (shaped g x h)).well_formed
