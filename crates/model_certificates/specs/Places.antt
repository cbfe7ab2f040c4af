-- Needn't be believed: the program's promise doesn't speak of it. Reading a certificate as its
-- bytes come: what stands next, when the bytes are those of no certificate, and what is read of
-- them in whatever pieces they come.
use Rattle.model_limits.specs.Limits.{standard_limits}
use Rattle.std.specs.Prelude.{◌≡◌, ℕ, ◌<◌, ◌≤◌, List, [], ◌∷◌, ◌++◌, length}
use Rattle.model_commands.specs.Theories.{Theory}
use Rattle.model_certificates.specs.Numbers.{number_bytes, IsNumber}
use Rattle.model_certificates.specs.Certificates.{Item, head, proof_step, end, payload, item_bytes, IsItem, items_of, mark, SpellsCertificate}

-- before the head; behind it, with the version, how many procedures it has, and the procedure of
-- the last step, 0 before the first one; behind the end; behind what is of no certificate
pub data Place : Type 0 where
  start : Place
  steps : ℕ → ℕ → ℕ → Place
  ended failed : Place

-- the item may stand at the place
abbrev pub MayStand : Place → Item → Type 0
MayStand start (head theory) = Unit
MayStand (steps version procedures last) (proof_step procedure step) =
    (1 ≤ procedure) × (last ≤ procedure) × (procedure ≤ procedures)
MayStand (steps version procedures last) end = Unit
MayStand place item = ⊥

-- the place behind an item that may stand there
abbrev pub behind : Place → Item → Place
behind place (head theory) = steps theory.version (length theory.procedures) 0
behind (steps version procedures last) (proof_step procedure step) =
    steps version procedures procedure
behind place end = ended
behind place item = place

-- the version of the steps that may stand at the place; where none may, it doesn't matter
abbrev pub version_at : Place → ℕ
version_at (steps version procedures last) = version
version_at place = 0

-- what has to stand before the next item
abbrev pub before : Place → List ℕ
before start = mark
before place = []

-- the rest begins with this item, which may stand there, and behind it so much is left
pub record Begins (place : Place) (rest : List ℕ) (item : Item) (left : List ℕ) : Type 0 where
  pub is_item : IsItem (version_at place) item
  pub stands : MayStand place item
  pub bytes : rest ≡ before place ++ (item_bytes item ++ left)

-- the rest is that of no certificate, however it goes on
pub data IsBad : Place → List ℕ → Type 0 where
  -- it begins with four bytes that aren't the mark
  other_mark : (four left : List ℕ) → length four ≡ 4 → (four ≡ mark → ⊥)
      → IsBad start (four ++ left)
  -- the length of the next item is above the bound
  too_long : (place : Place) (n : ℕ) (left : List ℕ) → IsNumber n
      → standard_limits.file_bytes < n
      → IsBad place (before place ++ (number_bytes n ++ left))
  -- all of the next item is there, and it is none
  no_item : (place : Place) (said left : List ℕ) → length said ≤ standard_limits.file_bytes
      → ((item : Item) → IsItem (version_at place) item → said ≡ payload item → ⊥)
      → IsBad place (before place ++ (number_bytes (length said) ++ (said ++ left)))
  -- it is one that may not stand there
  out_of_place : (place : Place) (item : Item) (left : List ℕ)
      → IsItem (version_at place) item → (MayStand place item → ⊥)
      → IsBad place (before place ++ (item_bytes item ++ left))
  -- something stands behind the end
  after_end : (byte : ℕ) (left : List ℕ) → IsBad ended (byte ∷ left)
  -- what came before was bad
  failed_before : (rest : List ℕ) → IsBad failed rest

-- neither: more bytes have to come
pub record Waits (place : Place) (rest : List ℕ) : Type 0 where
  pub no_more : (item : Item) (left : List ℕ) → Begins place rest item left → ⊥
  pub not_bad : IsBad place rest → ⊥

-- From a place and a rest, taking as long as there is something: the items that are taken, and the
-- place and the rest then.
pub data Takes : Place → List ℕ → List Item → Place → List ℕ → Type 0 where
  waits : {place : Place} {rest : List ℕ} → Waits place rest → Takes place rest [] place rest
  fails : {place : Place} {rest : List ℕ} → IsBad place rest → Takes place rest [] failed rest
  takes : {place then : Place} {rest left last : List ℕ} {item : Item} {items : List Item}
      → Begins place rest item left → Takes (behind place item) left items then last
      → Takes place rest (item ∷ items) then last

-- The bytes come in pieces, and as long as there is something behind a piece it is taken.
pub data Reads : Place → List ℕ → List (List ℕ) → List Item → Place → List ℕ → Type 0 where
  no_piece : {place : Place} {rest : List ℕ} → Reads place rest [] [] place rest
  a_piece : {place next last : Place} {rest piece kept left : List ℕ} {pieces : List (List ℕ)}
      {items more : List Item}
      → Takes place (rest ++ piece) items next kept → Reads next kept pieces more last left
      → Reads place rest (piece ∷ pieces) (items ++ more) last left

-- the pieces as one
abbrev pub joined : List (List ℕ) → List ℕ
joined [] = []
joined (piece ∷ pieces) = piece ++ joined pieces

-- the bytes are a certificate, and these are the items of the theory that it spells
pub record IsSpelled (bytes : List ℕ) (items : List Item) : Type 0 where
  pub theory : Theory
  pub spells : SpellsCertificate theory bytes
  pub are_items : items ≡ items_of theory
