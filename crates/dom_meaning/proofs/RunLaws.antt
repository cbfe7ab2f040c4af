-- How a run comes out, step by step.
use Rattle.std.proofs.Common.{◌≡◌, ◌⊎◌, inl, inr, ℕ, suc, ◌+◌, nat_le, Bool, true, false, ◌&&◌, cond, List, [], ◌∷◌, Some, None, refl, sym, ap, ◌∙◌}
use Rattle.model_shapes.specs.Trees.{Trees}
use Rattle.model_terms.specs.Terms.{Term}
use Rattle.model_terms.specs.TermLimits.{or_else, unless}
use Rattle.model_terms.specs.Stores.{ProgVar, Store, value_of, text_in}
use Rattle.model_commands.specs.Commands.{skip, block, assign, create_node, node_name, child_nodes, parent_node, list_item, append_child, remove_child, insert_before, if_else, while_do, local, call}
use Rattle.model_commands.specs.Theories.{Procedures}
use Rattle.model_groves.specs.Picks.{next_pick}
use Rattle.model_groves.specs.Sizes.{greatest_node, greatest_list}
use Rattle.model_limits.specs.Limits.{identifier_limit, standard_limits}
use Rattle.model_machine.specs.Machine.{Piece, run, restore, return, creating, Config, configuration, StepOut, at_bad_pick, stepped, step}
use Rattle.model_machine.specs.Outcomes.{limit_ahead, pick_limit, Outcome, passes_limit, within, on_step, outcome}
use Rattle.model_machine.proofs.NextMoves.{next-steps}
use Rattle.dom_meaning.specs.Runs.{pick_within}

module _ (ps : Procedures) (rs : List ProgVar) where
  -- the pick is the next one, or else its limit is passed and it is a bad one
  abbrev Picked : Config → Type 0
  Picked c =
      ((pick_limit standard_limits c ≡ None)
      × (step ps c (pick_within c.grove) ≡ step ps c (next_pick c.grove)))
      ⊎ ((pick_limit standard_limits c ≡ Some identifier_limit)
      × (step ps c (pick_within c.grove) ≡ at_bad_pick))

  -- the step of createNode with that pick
  abbrev made : ProgVar → Term → List Piece → Store → Trees → Bool → StepOut
  made x t rest store grove b =
      stepped rest (creating (cond b (next_pick grove) (record { node = 0; list = 0 })) x
      (text_in (value_of store t)) store grove)

  picked-node : (x : ProgVar) (t : Term) (rest : List Piece) (store : Store) (grove : Trees)
      → Picked (configuration (run (create_node x t) ∷ rest) store grove)
  picked-node x t rest store grove = by_test (fits_within grove) refl
    where
      fits_within : Trees → Bool
      fits_within g = nat_le (1 + greatest_node g) standard_limits.identifier
          && nat_le (1 + greatest_list g) standard_limits.identifier

      by_test : (b : Bool) → fits_within grove ≡ b
          → Picked (configuration (run (create_node x t) ∷ rest) store grove)
      by_test true e =
          inl (ap (λ b. unless b identifier_limit) e, ap (made x t rest store grove) e)
      by_test false e =
          inr (ap (λ b. unless b identifier_limit) e, ap (made x t rest store grove) e)

  picked : (pending : List Piece) (store : Store) (grove : Trees)
      → Picked (configuration pending store grove)
  picked [] store grove = inl (refl, refl)
  picked (run (create_node x t) ∷ rest) store grove = picked-node x t rest store grove
  picked (run skip ∷ rest) store grove = inl (refl, refl)
  picked (run (block b) ∷ rest) store grove = inl (refl, refl)
  picked (run (assign x t) ∷ rest) store grove = inl (refl, refl)
  picked (run (node_name x t) ∷ rest) store grove = inl (refl, refl)
  picked (run (child_nodes x t) ∷ rest) store grove = inl (refl, refl)
  picked (run (parent_node x t) ∷ rest) store grove = inl (refl, refl)
  picked (run (list_item x t u) ∷ rest) store grove = inl (refl, refl)
  picked (run (append_child t u) ∷ rest) store grove = inl (refl, refl)
  picked (run (remove_child t u) ∷ rest) store grove = inl (refl, refl)
  picked (run (insert_before t u v) ∷ rest) store grove = inl (refl, refl)
  picked (run (if_else c a b) ∷ rest) store grove = inl (refl, refl)
  picked (run (while_do c b) ∷ rest) store grove = inl (refl, refl)
  picked (run (local x b) ∷ rest) store grove = inl (refl, refl)
  picked (run (call xs name es) ∷ rest) store grove = inl (refl, refl)
  picked (restore x v ∷ rest) store grove = inl (refl, refl)
  picked (return caller results xs ∷ rest) store grove = inl (refl, refl)

  module _ (fuel taken : ℕ) where
    -- what comes out after a step
    abbrev after : Config → StepOut → Outcome
    after c = on_step (outcome standard_limits ps rs fuel (suc taken)) rs taken c

    -- where no limit is passed, it goes by the step, unless that is a bad pick
    pub goes_by_step : (c : Config) (out : StepOut) → limit_ahead standard_limits c ≡ None
        → out ≡ step ps c (pick_within c.grove) → (out ≡ at_bad_pick → ⊥)
        → outcome standard_limits ps rs (suc fuel) taken c ≡ after c out
    goes_by_step c out a e n = by_pending c.pending a e
      where
        by_pending : (k : List Piece)
            → limit_ahead standard_limits (configuration k c.store c.grove) ≡ None
            → out ≡ step ps (configuration k c.store c.grove) (pick_within c.grove)
            → outcome standard_limits ps rs (suc fuel) taken (configuration k c.store c.grove)
            ≡ after (configuration k c.store c.grove) out
        by_pending [] b q = ap (after (configuration [] c.store c.grove)) (sym q)
        by_pending (x ∷ k) b q = by_pick (picked (x ∷ k) c.store c.grove)
          where
            here : Config
            here = configuration (x ∷ k) c.store c.grove

            by_pick : Picked (configuration (x ∷ k) c.store c.grove)
                → outcome standard_limits ps rs (suc fuel) taken here ≡ after here out
            by_pick (inl h) = λ i.
                within (or_else (b i) (h.0 i)) (after here ((sym h.1 ∙ sym q) i))
            by_pick (inr h) = absurd (n (q ∙ h.1))

    -- a bad pick is that where a number passes its limit
    pub picks_badly : (c : Config) → limit_ahead standard_limits c ≡ None
        → at_bad_pick ≡ step ps c (pick_within c.grove)
        → outcome standard_limits ps rs (suc fuel) taken c ≡ passes_limit identifier_limit
    picks_badly c a e = by_pending c.pending a e
      where
        by_pending : (k : List Piece)
            → limit_ahead standard_limits (configuration k c.store c.grove) ≡ None
            → at_bad_pick ≡ step ps (configuration k c.store c.grove) (pick_within c.grove)
            → outcome standard_limits ps rs (suc fuel) taken (configuration k c.store c.grove)
            ≡ passes_limit identifier_limit
        by_pending [] b q = absurd cc
        by_pending (x ∷ k) b q = by_pick (picked (x ∷ k) c.store c.grove)
          where
            here : Config
            here = configuration (x ∷ k) c.store c.grove

            by_pick : Picked (configuration (x ∷ k) c.store c.grove)
                → outcome standard_limits ps rs (suc fuel) taken here
                ≡ passes_limit identifier_limit
            by_pick (inl h) = absurd (next-steps ps here (sym (q ∙ h.1)))
            by_pick (inr h) = λ i.
                within (or_else (b i) (h.0 i)) (after here (step ps here (next_pick c.grove)))
