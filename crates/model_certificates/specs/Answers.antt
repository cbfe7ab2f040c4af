-- Needn't be believed: laws say that this is what `Places` defines. What is told of the bytes that
-- have come, as a function.
use Rattle.model_limits.specs.Limits.{standard_limits}
use Rattle.std.specs.Prelude.{ℕ, Bool, true, false, ◌&&◌, cond, List, [], ◌∷◌, length, take, drop, nat_le, nat_lt, bytes_eq, Option, Some, None}
use Rattle.model_certificates.specs.Reading.{Read, ◌>>=◌, made, is, both, tagged, number_at}
use Rattle.model_certificates.specs.CommandReading.{step_at, head_at}
use Rattle.model_certificates.specs.Certificates.{Item, head, proof_step, end, mark}
use Rattle.model_certificates.specs.Places.{Place, start, steps, ended, failed, version_at}

-- an item, which stands for so many bytes; or nothing yet; or that the bytes are bad
pub data Answer : Type 0 where
  gives : Item → List ℕ → Answer
  bad nothing_yet : Answer

-- what an item says is read
unfoldable pub item_at : ℕ → Read Item
item_at version =
    tagged (made head head_at
    ∷ made (λ x. proof_step x.0 x.1) (both number_at (step_at version))
    ∷ is end
    ∷ [])

-- where nothing is left
abbrev pub all_of : {A : Type 0} → A → List ℕ → Option A
all_of a [] = Some a
all_of a (b ∷ bs) = None

unfoldable pub whole_item : ℕ → List ℕ → Option Item
whole_item version bs = item_at version bs >>= λ x. all_of x.0 x.1

abbrev pub may_stand : Place → Item → Bool
may_stand start (head theory) = true
may_stand (steps version procedures last) (proof_step procedure step) =
    nat_le 1 procedure && (nat_le last procedure && nat_le procedure procedures)
may_stand (steps version procedures last) end = true
may_stand place item = false

-- what was read of all that an item says
abbrev pub judged : Place → Option Item → List ℕ → Answer
judged place None left = bad
judged place (Some item) left = cond (may_stand place item) (gives item left) bad

-- behind a length
abbrev pub framed : Place → Option (ℕ × List ℕ) → Answer
framed place None = nothing_yet
framed place (Some x) =
    cond (nat_le x.0 standard_limits.file_bytes)
    (cond (nat_le x.0 (length x.1))
    (judged place (whole_item (version_at place) (take x.0 x.1)) (drop x.0 x.1)) nothing_yet) bad

abbrev pub marked : List ℕ → Answer
marked bs =
    cond (nat_lt (length bs) 4) nothing_yet
    (cond (bytes_eq (take 4 bs) mark) (framed start (number_at (drop 4 bs))) bad)

unfoldable pub answer : Place → List ℕ → Answer
answer start bs = marked bs
answer (steps version procedures last) bs = framed (steps version procedures last) (number_at bs)
answer ended [] = nothing_yet
answer ended (b ∷ bs) = bad
answer failed bs = bad
