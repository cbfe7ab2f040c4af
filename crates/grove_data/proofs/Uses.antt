-- A number is in use exactly where the search for it finds a node.
use Rattle.std.proofs.Common.{◌≡◌, ℕ, zero, suc, ◌<◌, ◌+◌, Bool, true, false, ◌||◌, cond, List, Option, Some, None, Bor, refl, sym, ap, ◌∙◌, arith}
use Rattle.std.specs.Prelude.{is_some, option_copied}
use Rattle.std.specs.Option.{option_or, option_map}
use Rattle.std.proofs.Math.Decide.{ℕ_discrete}
use Rattle.model_shapes.specs.Trees.{Trees, none, node, hole, beside, node_uses, list_uses, one_if}
use Rattle.model_groves.specs.Groves.{is_yes, nodes_where, numbered, listed, positive}
use Rattle.model_groves.proofs.Groves.{bit}
use Rattle.grove_data.specs.Finding.{first_tree}
use Rattle.grove_data.specs.Trees.{tree_of}
use Rattle.grove_data.specs.declared.trees.Tree.{Tree}
use Rattle.grove_data.proofs.FirstFound.{first_tree-beside}

-- a number that isn't 0
in-use : (n : ℕ) → 0 < n → true ≡ positive n
in-use zero h = absurd (omega arith)
in-use (suc n) h = refl

-- one of two
positive-sum : (a b : ℕ) → (positive a || positive b) ≡ positive (a + b)
positive-sum zero b = ap positive (let e : b ≡ 0 + b = omega arith in e)
positive-sum (suc a) b = in-use (suc a + b) (omega arith)

some-or : (a b : Option Trees) → is_some (option_or a b) ≡ (is_some a || is_some b)
some-or None b = refl
some-or (Some t) b = refl

-- a count of the nodes that pass the test
module _ (test : ℕ → Trees → ℕ → Bool) (uses : Trees → ℕ) (at_none : uses none ≡ 0)
    (at_node : (s : List ℕ) (i : ℕ) (k : Trees) (l : ℕ) (r : Trees)
    → uses (node s i k l r) ≡ bit (test i k l) + (uses k + uses r))
    (at_hole : (r : Trees) → uses (hole r) ≡ uses r)
  where
    -- one is found exactly where the count isn't 0
    found-where-used : (g : Trees) → is_some (first_tree (nodes_where test g)) ≡ positive (uses g)
    found-where-used none = ap positive (sym at_none)
    found-where-used (hole r) = found-where-used r ∙ ap positive (sym (at_hole r))
    found-where-used (node s i k l r) =
        by_test (test i k l) (found-where-used k) (found-where-used r)
        ∙ ap positive (sym (at_node s i k l r))
      where
        by_test : (b : Bool) → is_some (first_tree (nodes_where test k)) ≡ positive (uses k)
            → is_some (first_tree (nodes_where test r)) ≡ positive (uses r)
            → is_some (first_tree (cond b (node s i k l (nodes_where test r))
            (beside (nodes_where test k) (nodes_where test r))))
            ≡ positive (bit b + (uses k + uses r))
        by_test true x y = in-use (1 + (uses k + uses r)) (omega arith)
        by_test false x y =
            ap is_some (first_tree-beside (nodes_where test k) (nodes_where test r))
            ∙ some-or (first_tree (nodes_where test k)) (first_tree (nodes_where test r))
            ∙ (λ j. x j || y j)
            ∙ positive-sum (uses k) (uses r)
            ∙ ap positive (let e : uses k + uses r ≡ 0 + (uses k + uses r) = omega arith in e)

    -- and the search tells
    told : (found : Option (Bor Tree)) (g : Trees)
        → option_map tree_of (option_copied found) ≡ first_tree (nodes_where test g)
        → is_some found ≡ positive (uses g)
    told found g e = same found ∙ ap is_some e ∙ found-where-used g
      where
        same : (f : Option (Bor Tree)) → is_some f ≡ is_some (option_map tree_of (option_copied f))
        same None = refl
        same (Some t) = refl

-- an answer as a count
bit-is : {A : Type 0} (d : Dec A) → one_if d ≡ bit (is_yes d)
bit-is (yes a) = refl
bit-is (no n) = refl

-- of the number of a node
pub told_of_node : (found : Option (Bor Tree)) (n : ℕ) (g : Trees)
    → option_map tree_of (option_copied found) ≡ first_tree (nodes_where (numbered n) g)
    → is_some found ≡ positive (node_uses n g)
told_of_node found n =
    told (numbered n) (node_uses n) refl
    (λ s i k l r. ap (λ z. z + (node_uses n k + node_uses n r)) (bit-is (ℕ_discrete n i)))
    (λ r. refl) found

-- of the number of a list
pub told_of_list : (found : Option (Bor Tree)) (n : ℕ) (g : Trees)
    → option_map tree_of (option_copied found) ≡ first_tree (nodes_where (listed n) g)
    → is_some found ≡ positive (list_uses n g)
told_of_list found n =
    told (listed n) (list_uses n) refl
    (λ s i k l r. ap (λ z. z + (list_uses n k + list_uses n r)) (bit-is (ℕ_discrete n l)))
    (λ r. refl) found
