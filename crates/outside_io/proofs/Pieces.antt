-- One more piece: a book is what was found and what is left of it.
use Rattle.std.proofs.Common.{◌≡◌, ◌⊎◌, inl, inr, ℕ, zero, suc, min, ◌+◌, ◌-◌, ◌≤◌, ◌<◌}
use Rattle.std.proofs.Common.{List, ◌++◌, length, take, drop, Option, Some, refl, ap, sym, ◌∙◌, append_assoc, take-add, drop-drop, take-append-drop}
use Rattle.std.proofs.Common.{arith, length-append, length-drop, append-nil, length-take-le}
use Rattle.std.proofs.lemmas.List.{drop_all, take_all, take-append-le}
use Rattle.outside_io.specs.Pieces.{GivesPiece, Took}
use Rattle.outside_io.specs.Shelves.{PutsPiece}

-- what is left, asked for as a range to its end
range_to_end : (at : ℕ) (bytes : List ℕ) → take (length bytes - at) (drop at bytes) ≡ drop at bytes
range_to_end at bytes =
    take_all (length bytes - at) (drop at bytes) (omega (arith, length-drop at bytes))

-- a put of what is left adds to the prefix that was taken
pub Took-step : (a b c : Option (List ℕ)) (bytes : List ℕ) (at k : ℕ)
    → Took a b (take at bytes) → Took b c (take k (take (length bytes - at) (drop at bytes)))
    → Took a c (take (at + k) bytes)
Took-step a b c bytes at k before now = λ t e.
    now (t ++ take at bytes) (before t e)
    ∙ ap (λ x. Some (t ++ take at bytes ++ take k x)) (range_to_end at bytes)
    ∙ ap Some
    (append_assoc t (take at bytes) (take k (drop at bytes))
    ∙ ap (λ x. t ++ x) (sym (take-add at k bytes)))

-- where the piece is empty and the buffer has a place, the whole book was found
pub GivesPiece-none : (found book buffer : List ℕ) (at : ℕ) → at ≡ length found
    → found ++ drop (length found) book ≡ book → GivesPiece book at 0 buffer → 0 < length buffer
    → found ≡ book
GivesPiece-none found book buffer at e begun piece full =
    elim (piece.none refl) [
      | inl none ↦ absurd (omega arith)
      | inr le ↦
          sym (append-nil found)
          ∙ ap (λ x. found ++ x) (sym (drop_all (length found) book (omega arith)))
          ∙ begun
    ]

-- how much is found after one more piece
pub length-found : (found buffer : List ℕ) (count : ℕ) → count ≤ length buffer
    → length (found ++ take count buffer) ≡ length found + count
length-found found buffer count le =
    length-append found (take count buffer)
    ∙ ap (λ n. length found + n) (length-take-le count buffer le)

-- a piece of what is left goes to the end of what was found
pub GivesPiece-step : (found book buffer : List ℕ) (at count : ℕ) → at ≡ length found
    → count ≤ length buffer → found ++ drop (length found) book ≡ book
    → GivesPiece book at count buffer
    → (found ++ take count buffer) ++ drop (length (found ++ take count buffer)) book ≡ book
GivesPiece-step found book buffer at count at_is le begun piece =
    let same : take count buffer ≡ take count (drop (length found) book) =
    piece.bytes ∙ ap (λ x. take count (drop x book)) at_is in
    rw (length-found found buffer count le)
    (append_assoc found (take count buffer) (drop (length found + count) book)
    ∙ ap (λ x. found ++ (x ++ drop (length found + count) book)) same
    ∙ ap (λ x. found ++ (take count (drop (length found) book) ++ x))
    (sym (drop-drop count (length found) book))
    ∙ ap (λ x. found ++ x) (take-append-drop count (drop (length found) book))
    ∙ begun)

-- the lesser of two is none only where one of them is
zero_min : (a b : ℕ) → min a b ≡ 0 → (b ≡ 0) ⊎ (a ≡ 0)
zero_min zero b e = inr refl
zero_min (suc a) b e = inl (omega arith)

-- as many bytes as there are and fit, put over the front of the buffer, are a piece
pub GivesPiece-put : (book before after : List ℕ) (at count : ℕ)
    → PutsPiece book at count before after → GivesPiece book at count after
GivesPiece-put book before after at count puts =
    let put : length (take count (drop at book)) ≡ count =
    length-take-le count (drop at book) (omega (arith, puts.size, length-drop at book)) in
    let full : length after ≡ length before =
    ap length puts.bytes
    ∙ omega (arith, puts.size, put, length-append {A = ℕ}, length-drop {A = ℕ}) in
    record {
      bytes =
          ap (take count) puts.bytes
          ∙ take-append-le count (take count (drop at book)) (drop count before) (omega arith)
          ∙ take_all count (take count (drop at book)) (omega arith);
      none = λ zero_count.
          elim (zero_min (length book - at) (length before) (sym puts.size ∙ zero_count)) [
            | inl empty ↦ inl (full ∙ empty)
            | inr ended ↦ inr (omega arith)
          ];
    }
