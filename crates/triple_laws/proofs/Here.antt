-- A node that stands by itself, and what is found, taken out and added at it.
use Rattle.std.proofs.Common.{◌≡◌, ℕ, ◌≤◌, ◌+◌, List, refl, ap, ◌∙◌, arith, true, cond}
use Rattle.std.proofs.Math.Decide.{ℕ_discrete}
use Rattle.model_shapes.specs.Trees.{Trees, none, node, beside, node_uses, list_uses, one_if}
use Rattle.model_groves.specs.Groves.{nodes_where, has_root, numbered, listed, parental, without, adding, adding_before}
use Rattle.model_groves.proofs.InContext.{adding-none, adding_before-none}
use Rattle.model_groves.proofs.Decided.{yes-is}

module _ (s : List ℕ) (i : ℕ) (k : Trees) (l : ℕ) where
  abbrev alone : Trees
  alone = node s i k l none

  pub numbered-here : nodes_where (numbered i) alone ≡ alone
  numbered-here =
      ap (λ b. cond b alone (beside (nodes_where (numbered i) k) none))
      (yes-is (ℕ_discrete i i) refl)

  pub listed-here : nodes_where (listed l) alone ≡ alone
  listed-here =
      ap (λ b. cond b alone (beside (nodes_where (listed l) k) none)) (yes-is (ℕ_discrete l l) refl)

  pub parental-here : (n : ℕ) → has_root n k ≡ true → nodes_where (parental n) alone ≡ alone
  parental-here n h = ap (λ b. cond b alone (beside (nodes_where (parental n) k) none)) h

  pub without-here : without i alone ≡ none
  without-here =
      ap (λ b. cond b none (node s i (without i k) l none)) (yes-is (ℕ_discrete i i) refl)

  pub adding-here : (t : Trees) → node_uses i k ≡ 0 → adding i t alone
      ≡ node s i (beside k t) l none
  adding-here t o =
      ap (λ b. node s i (cond b (beside (adding i t k) t) (adding i t k)) l none)
      (yes-is (ℕ_discrete i i) refl)
      ∙ ap (λ z. node s i (beside z t) l none) (adding-none i t k o)

  pub before-here : (t : Trees) → node_uses i k ≡ 0 → adding_before i t alone ≡ beside t alone
  before-here t o =
      ap (λ b. cond b (beside t (node s i (adding_before i t k) l none))
      (node s i (adding_before i t k) l none)) (yes-is (ℕ_discrete i i) refl)
      ∙ ap (λ z. beside t (node s i z l none)) (adding_before-none i t k o)

  -- its number is used once by itself, and so is its list number
  tally-own : (n : ℕ) (d : Dec (n ≡ n)) → one_if d ≡ 1
  tally-own n (yes e) = refl
  tally-own n (no m) = absurd (m refl)

  pub own-uses : node_uses i alone ≡ 1 + node_uses i k
  own-uses = omega (arith, tally-own i (ℕ_discrete i i))

  pub uses-here : 1 ≤ node_uses i alone
  uses-here = omega (arith, own-uses)

  pub lists-here : 1 ≤ list_uses l alone
  lists-here = omega (arith, tally-own l (ℕ_discrete l l))

-- a number that is in use is found
pub record Found (n : ℕ) (g : Trees) : Type 0 where
  pub name : List ℕ
  pub kids : Trees
  pub list : ℕ
  pub rest : Trees
  pub is : nodes_where (numbered n) g ≡ node name n kids list rest
