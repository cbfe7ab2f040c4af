-- A context with nothing in its hole has the numbers of the context.
use Rattle.std.proofs.Common.{◌≡◌, ◌≤◌, ℕ, Ok, Err, Result, inl, inr, arith, ◌∙◌}
use Rattle.std.specs.Prelude.{◌⊎◌}
use Rattle.model_shapes.specs.Trees.{Trees, none, fill, node_uses, list_uses}
use Rattle.model_shapes.proofs.Basics.{node_uses-fill, list_uses-fill}
use Rattle.model_shapes.proofs.Filling.{outer-WellFormed}
use Rattle.context_apply.specs.declared.faults.PlugFault.{PlugFault}
use Rattle.context_apply.specs.declared.faults.PlugFault.TheVariants as f
use Rattle.context_apply.specs.Clashes.{NoZero, Clashes, Reports}

nodes-emptied : (n : ℕ) (outside : Trees) → node_uses n (fill outside none) ≡ node_uses n outside
nodes-emptied n outside = omega (arith, node_uses-fill n outside none)

lists-emptied : (n : ℕ) (outside : Trees) → list_uses n (fill outside none) ≡ list_uses n outside
lists-emptied n outside = omega (arith, list_uses-fill n outside none)

-- no number 0
pub zero-emptied : (outside : Trees) → NoZero outside → NoZero (fill outside none)
zero-emptied outside z = (nodes-emptied 0 outside ∙ z.0, lists-emptied 0 outside ∙ z.1)

-- a clash
clash-emptied : (outside : Trees) → Clashes (fill outside none) → Clashes outside
clash-emptied outside (n, twice) = (n, by_cases twice)
  where
    by_cases : (2 ≤ node_uses n (fill outside none)) ⊎ (2 ≤ list_uses n (fill outside none))
        → (2 ≤ node_uses n outside) ⊎ (2 ≤ list_uses n outside)
    by_cases (inl h) = inl (omega (arith, nodes-emptied n outside))
    by_cases (inr h) = inr (omega (arith, lists-emptied n outside))

-- what is told of the one holds of the other
pub reports-emptied : {A : Type 0} (r : Result A PlugFault) (outside : Trees)
    → Reports r (fill outside none) → Reports r outside
reports-emptied (Ok value) outside w = outer-WellFormed outside none w
reports-emptied (Err f.Clash) outside h = clash-emptied outside h
reports-emptied (Err f.OutOfMemory) outside h = tt
