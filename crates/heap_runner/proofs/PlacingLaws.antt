-- What stands in the place of the first piece, by what comes of it.
use Rattle.std.proofs.Common.{◌≡◌, List, ◌∷◌, ◌++◌, map, ap, ◌∙◌}
use Rattle.std.proofs.lemmas.List.{map-append}
use Rattle.model_terms.specs.Stores.{Store}
use Rattle.dom_meaning.specs.declared.configurations.Pending.{Pending}
use Rattle.dom_meaning.specs.declared.effects.Effect.{Effect}
use Rattle.dom_meaning.specs.Configs.{piece_of}
use Rattle.dom_meaning.specs.Effects.{pieces_put}

-- these pieces stand in the place of the first one
abbrev pub Stand : (Pending → List Pending) → List Pending → List Pending → Type 0
Stand put old new = (first : Pending) (others : List Pending) → old ≡ first ∷ others
    → new ≡ put first ++ others

-- so do those of the effect
abbrev pub Placed : Effect → Store → List Pending → List Pending → Type 0
Placed effect store old new = (first : Pending) (others : List Pending) → old ≡ first ∷ others
    → map piece_of new ≡ pieces_put effect (piece_of first) store ++ map piece_of others

-- they do where they are the same
pub placed : (effect : Effect) (store : Store) (put : Pending → List Pending)
    (old new : List Pending)
    → ((first : Pending) → map piece_of (put first) ≡ pieces_put effect (piece_of first) store)
    → Stand put old new → Placed effect store old new
placed effect store put old new same stand first others e =
    ap (map piece_of) (stand first others e) ∙ map-append piece_of (put first) others
    ∙ ap (λ z. z ++ map piece_of others) (same first)
