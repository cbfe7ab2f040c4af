-- What is still to be let go grows less.
use Rattle.std.proofs.Common.{◌≡◌, ◌≢◌, ℕ, ◌+◌, ◌-◌, ◌*◌, ◌<◌, false, List, [], ◌∷◌, ◌++◌, length, get_or, set, refl, ap, ◌∙◌, arith, length-append}
use Rattle.std.proofs.Math.Seq.{get_or-append_seam, set-append_seam}
use Rattle.model_shapes.specs.Trees.{Trees, none, node, hole, beside}
use Rattle.model_groves.specs.Sizes.{size}
use Rattle.grove_data.specs.Trees.{tree_of, forest_of}
use Rattle.grove_data.specs.LettingGo.{is_nothing, waiting}
use Rattle.grove_data.specs.declared.trees.Tree.{Tree, out-Tree}
use Rattle.grove_data.proofs.Walks.{root_at_end, tree_is}
use Rattle.grove_data.proofs.Counts.{size-beside, size_in_tree}

some_more : (r : Trees) (name : List ℕ) (n : ℕ) (kids : Trees) (list : ℕ)
    → is_nothing (beside r (node name n kids list none)) ≡ false
some_more none name n kids list = refl
some_more (node a b c d rest) name n kids list = refl
some_more (hole rest) name n kids list = refl

-- a row whose last tree keeps another row
waiting_last : (r : Trees) (name : List ℕ) (n : ℕ) (kids : Trees) (list : ℕ)
    → waiting (beside r (node name n kids list none)) ≡ 2 * size r + (1 + waiting kids)
waiting_last none name n kids list = omega arith
waiting_last (node a b c d rest) name n kids list =
    rw (some_more rest name n kids list) (omega (arith, waiting_last rest name n kids list))
waiting_last (hole rest) name n kids list = waiting_last rest name n kids list

pub waiting_row : (trees : List Tree) (tree : Tree) → waiting (forest_of (trees ++ tree ∷ []))
    ≡ 2 * size (forest_of trees) + (1 + waiting (forest_of (out-Tree tree).kids))
waiting_row trees tree =
    ap waiting (root_at_end trees tree)
    ∙ ap (λ t. waiting (beside (forest_of trees) t)) (tree_is tree)
    ∙ waiting_last (forest_of trees) (out-Tree tree).name (out-Tree tree).id
    (forest_of (out-Tree tree).kids) (out-Tree tree).list

pub size_row : (trees : List Tree) (tree : Tree) → size (forest_of (trees ++ tree ∷ []))
    ≡ size (forest_of trees) + (1 + size (forest_of (out-Tree tree).kids))
size_row trees tree = omega (
  arith,
  ap size (root_at_end trees tree),
  size-beside (forest_of trees) (tree_of tree),
  size_in_tree tree,
)

-- a list that has a last item
ending : (x : Tree) (xs : List Tree) → (trees : List Tree) × (last : Tree)
    × (x ∷ xs ≡ trees ++ last ∷ [])
ending x [] = ([], x, refl)
ending x (y ∷ ys) = let w = ending y ys in (x ∷ w.0, w.1, ap (λ ts. x ∷ ts) w.2)

-- the last tree keeps another row, and its children are the row
pub less_waits : (row : List Tree) (tree put : Tree) (others : List Tree) → row ≢ []
    → tree ≡ get_or row (length row - 1) tree → (out-Tree put).kids ≡ others
    → 2 * size (forest_of (out-Tree tree).kids) + waiting (forest_of (set row (length row - 1) put))
    < 2 * size (forest_of row) + waiting (forest_of others)
less_waits [] tree put others some is kept = absurd (some refl)
less_waits (x ∷ xs) tree put others some is kept =
    let w = ending x xs in
    let len : length (x ∷ xs) - 1 ≡ length w.0 =
    omega (arith, ap length w.2, length-append w.0 (w.1 ∷ [])) in
    let same : tree ≡ w.1 =
    is ∙ ap (λ k. get_or (x ∷ xs) k tree) len ∙ ap (λ ts. get_or ts (length w.0) tree) w.2
    ∙ get_or-append_seam w.0 w.1 [] tree in
    let after : set (x ∷ xs) (length (x ∷ xs) - 1) put ≡ w.0 ++ put ∷ [] =
    ap (λ k. set (x ∷ xs) k put) len ∙ ap (λ ts. set ts (length w.0) put) w.2
    ∙ set-append_seam w.0 w.1 [] put in
    omega (
      arith,
      ap (λ ts. waiting (forest_of ts)) after,
      waiting_row w.0 put,
      ap (λ ts. waiting (forest_of ts)) kept,
      ap (λ ts. size (forest_of ts)) w.2,
      size_row w.0 w.1,
      ap (λ t. size (forest_of (out-Tree t).kids)) same,
    )
