-- Reading a text piece by piece, line by line, gives its tokens.
use Rattle.std.proofs.Common.{◌≡◌, ℕ, zero, suc, ◌+◌, ◌-◌, ◌<◌, ◌≤◌, ◌==◌, Bool, true, false, List, [], ◌∷◌, ◌++◌, length, take, drop, encode_utf8_all, refl, sym, ◌∙◌, ap, subst, arith, append_assoc, inl, inr, length-append, length-drop, length-take, eq-eqb}
use Rattle.std.proofs.Math.Seq.{take-length, drop-length, take-add, take-append_seam, drop-append_seam}
use Rattle.std.proofs.lemmas.List.{append-nil, take-append-le, take-append-drop, drop-drop, drop-append-le}
use Rattle.std.specs.Str.{IsUtf8, is_utf8, chars, IsCharBoundary}
use Rattle.std.specs.Str.Lossy.{valid_len_up_to, utf8_valid_len}
use Rattle.std.proofs.lemmas.Str.{IsUtf8-from_is_utf8, IsUtf8-nil, IsUtf8-take, IsUtf8-drop, encodes-append, length-le-encodes, encodes-chars, chars-append, utf8_valid_len_le}
use Rattle.std.specs.Prelude.{if◌then◌else◌, ◌⊎◌}
use Rattle.std.proofs.lemmas.Bool.{eqb-true}
use Rattle.model_text.specs.Tokens.{Token, TokenKind, bad_token, Piece, gap_piece, token_piece, no_piece, piece_length, piece_at, token_text, characters, place_of, line_of, token_from, bad_token_at, tokens_with, tokens_from, tokens_of}
use Rattle.model_text.proofs.Pieces.{Fits, piece_at-Fits}
use Rattle.model_text.proofs.Steps.{enough}
use Rattle.text_tokens.specs.declared.positions.Position.{Position}
use Rattle.text_tokens.specs.Lines.{IsLine, IsLineLength, ends_line}
use Rattle.text_tokens.specs.Positions.{IsPosition, IsPlace}
use Rattle.text_tokens.specs.Reading.{token_between, tokens_left, EndsIn, GoesOn, IsReadTo, AreRead}
use Rattle.text_tokens.proofs.LineLemmas.{ends_line-drop, piece_in_line}
use Rattle.text_tokens.proofs.PositionLemmas.{place_step}

-- THE CHARACTERS
by_test : (bs : List ℕ) (n m : ℕ) (b : Bool) → (b ≡ true → IsUtf8 (take n bs)) → IsUtf8 (take m bs)
    → IsUtf8 (take (if b then n else m) bs)
by_test bs n m true h k = h refl
by_test bs n m false h k = k

valid_up_to : (bs : List ℕ) (n : ℕ) → IsUtf8 (take (valid_len_up_to bs n) bs)
valid_up_to bs zero = IsUtf8-nil
valid_up_to bs (suc n) =
    by_test bs (suc n) (valid_len_up_to bs n) (is_utf8 (take (suc n) bs))
    (IsUtf8-from_is_utf8 (take (suc n) bs)) (valid_up_to bs n)

valid : (bs : List ℕ) → IsUtf8 (take (utf8_valid_len bs) bs)
unfolding utf8_valid_len
valid bs = valid_up_to bs (length bs)

-- the characters of the bytes have no more bytes
pub characters-le : (bytes : List ℕ) → length (encode_utf8_all (characters bytes)) ≤ length bytes
unfolding characters
characters-le bytes = let spelled : encode_utf8_all (chars (take (utf8_valid_len bytes) bytes))
    ≡ take (utf8_valid_len bytes) bytes =
    encodes-chars (take (utf8_valid_len bytes) bytes) (valid bytes) in
    omega (arith, ap length spelled, length-take (utf8_valid_len bytes) bytes)

-- THE TOKENS LEFT
-- one step less is enough after a piece
fewer : (bytes text : List ℕ) (n k : ℕ) → 0 < k → n + k ≤ length text
    → tokens_from bytes text (length text - n) (n + k) ≡ tokens_left bytes text (n + k)
fewer bytes text n k some within =
    let steps : length text - n ≡ suc (length text - n - 1) = omega arith in
    ap (λ j. tokens_from bytes text j (n + k)) steps
    ∙ enough bytes text (length text - n - 1) (length text - (n + k)) (n + k)
    (omega arith) (omega arith)

-- after a gap
pub left_gap : (bytes text : List ℕ) (n k : ℕ) → gap_piece k ≡ piece_at (drop n text) → 0 < k
    → n + k ≤ length text → tokens_left bytes text n ≡ tokens_left bytes text (n + k)
unfolding tokens_from
left_gap bytes text n k e some within =
    ap (λ p. tokens_with bytes text n p (tokens_from bytes text (length text - n))) (sym e)
    ∙ fewer bytes text n k some within

-- after a token
pub left_token : (bytes text : List ℕ) (n k : ℕ) (kind : TokenKind)
    → token_piece kind k ≡ piece_at (drop n text) → 0 < k → n + k ≤ length text
    → tokens_left bytes text n
    ≡ token_from bytes text n kind k ∷ tokens_left bytes text (n + k)
unfolding tokens_from
left_token bytes text n k kind e some within =
    ap (λ p. tokens_with bytes text n p (tokens_from bytes text (length text - n))) (sym e)
    ∙ ap (λ ts. token_from bytes text n kind k ∷ ts) (fewer bytes text n k some within)

-- where no token begins
pub left_none : (bytes text : List ℕ) (n : ℕ) (b : Bool) → no_piece ≡ piece_at (drop n text)
    → (place_of text n == length bytes) ≡ b
    → tokens_left bytes text n ≡ (if b then [] else bad_token_at bytes text n ∷ [])
unfolding tokens_from
left_none bytes text n b e test =
    ap (λ p. tokens_with bytes text n p (tokens_from bytes text (length text - n))) (sym e)
    ∙ ap (λ b. if b then [] else bad_token_at bytes text n ∷ []) test

-- A LINE
-- the position after some characters more
later_position : (bytes text own rest : List ℕ) (from to : Position)
    → IsPosition bytes text from → drop from.number text ≡ own ++ rest → IsPlace bytes to
    → to.number ≡ from.number + length own
    → to.place ≡ from.place + length (encode_utf8_all own) → IsPosition bytes text to
later_position bytes text own rest from to is split at number place =
    let count : from.number + length own - from.number ≡ length own = omega arith in
    let own_is : take (from.number + length own - from.number) (drop from.number text) ≡ own =
    ap (λ n. take n (drop from.number text)) count ∙ ap (take (length own)) split
    ∙ take-append_seam own rest in
    record {
      within = omega (
        arith,
        ap length split,
        length-append own rest,
        length-drop from.number text,
        is.within,
      );
      place_is = place
          ∙ ap (λ p. p + length (encode_utf8_all own)) is.place_is
          ∙ sym (place_step text from.number (length own)
          ∙ ap (λ cs. place_of text from.number + length (encode_utf8_all cs)) own_is)
          ∙ ap (place_of text) (sym number);
      line_is = at.line_is;
    }

-- the rest of the line stands there
rest_of_line : (bytes text line : List ℕ) (from to : Position) (n : ℕ)
    → IsLine bytes text line from → n ≤ length line → IsPlace bytes to
    → to.number ≡ from.number + n
    → to.place ≡ from.place + length (encode_utf8_all (take n line))
    → IsLine bytes text (drop n line) to
rest_of_line bytes text line from to n on within at number place =
    let count : length (take n line) ≡ n = omega (arith, length-take n line) in
    let split : drop from.number text ≡ take n line ++ (drop n line ++ on.rest) =
    on.split ∙ ap (λ l. l ++ on.rest) (sym (take-append-drop n line))
    ∙ append_assoc (take n line) (drop n line) on.rest in
    record {
      is = later_position bytes text (take n line) (drop n line ++ on.rest) from to on.is split at
          (number ∙ ap (λ k. from.number + k) (sym count)) place;
      rest = on.rest;
      split = ap (λ k. drop k text) number
          ∙ sym (drop-drop n from.number text)
          ∙ ap (drop n) on.split
          ∙ drop-append-le n line on.rest within;
      whole = elim on.whole [ inl none ↦ inl none | inr ends ↦ inr (ends_line-drop n line ends) ];
    }

-- what stands at the position is what stands at the front of the line
at_line : (bytes text line : List ℕ) (from : Position) (piece : Piece)
    → IsLine bytes text line from → 0 < length line → piece ≡ piece_at line
    → piece ≡ piece_at (drop from.number text)
at_line bytes text line from piece on some e =
    e ∙ sym (ap piece_at on.split ∙ piece_in_line line on.rest some on.whole)

-- so many characters are the text's too
in_text : (bytes text line : List ℕ) (from : Position) (n : ℕ) → IsLine bytes text line from
    → n ≤ length line → from.number + n ≤ length text
in_text bytes text line from n on within =
    omega (
      arith,
      ap length on.split,
      length-append line on.rest,
      length-drop from.number text,
      on.is.within,
    )

pub gap_fits : (text : List ℕ) (n : ℕ) → gap_piece n ≡ piece_at text → (0 < n) × (n ≤ length text)
gap_fits text n e = subst (Fits text) (sym e) (piece_at-Fits text)

pub token_fits : (text : List ℕ) (kind : TokenKind) (n : ℕ) → token_piece kind n ≡ piece_at text
    → (0 < n) × (n ≤ length text)
token_fits text kind n e = subst (Fits text) (sym e) (piece_at-Fits text)

-- the part of the line before a place in it is no longer
pub front_le : (line : List ℕ) (n : ℕ)
    → length (encode_utf8_all (take n line)) ≤ length (encode_utf8_all line)
front_le line n = let whole : encode_utf8_all line
    ≡ encode_utf8_all (take n line) ++ encode_utf8_all (drop n line) =
    ap encode_utf8_all (sym (take-append-drop n line))
    ∙ encodes-append (take n line) (drop n line) in
    omega (
      arith,
      ap length whole,
      length-append (encode_utf8_all (take n line)) (encode_utf8_all (drop n line)),
    )

-- a piece is no longer than the line
fits_le : (line : List ℕ) (piece : Piece) → Fits line piece → piece_length piece ≤ length line
fits_le line (gap_piece n) fits = fits.1
fits_le line (token_piece kind n) fits = fits.1
fits_le line no_piece fits = omega arith

pub piece_fits : (line : List ℕ) (piece : Piece) → piece ≡ piece_at line
    → piece_length piece ≤ length line
piece_fits line piece e = fits_le line piece (subst (Fits line) (sym e) (piece_at-Fits line))

-- it goes on after a gap
goes_on_gap : (bytes line : List ℕ) (before : List Token) (from to : Position) (n : ℕ)
    → gap_piece n ≡ piece_at line → 0 < length line → IsPlace bytes to
    → to.number ≡ from.number + n
    → to.place ≡ from.place + length (encode_utf8_all (take n line))
    → GoesOn bytes line before from before n to
goes_on_gap bytes line before from to n e some at number place = record {
  is = at;
  within = (gap_fits line n e).1;
  number = number;
  place = place;
  same = λ text on. ap (λ ts. before ++ ts)
      (left_gap bytes text from.number n (at_line bytes text line from (gap_piece n) on some e)
      (gap_fits line n e).0 (in_text bytes text line from n on (gap_fits line n e).1)
      ∙ ap (tokens_left bytes text) (sym number));
}

-- the token from a position to another is that of the definition
token_same : (bytes text line : List ℕ) (from to : Position) (kind : TokenKind) (n : ℕ)
    → IsLine bytes text line from → n ≤ length line → IsPlace bytes to
    → to.number ≡ from.number + n
    → to.place ≡ from.place + length (encode_utf8_all (take n line))
    → token_between kind (take n line) from to ≡ token_from bytes text from.number kind n
token_same bytes text line from to kind n on within at number place =
    let later = rest_of_line bytes text line from to n on within at number place in
    let own : take n line ≡ take n (drop from.number text) =
    sym (ap (take n) on.split ∙ take-append-le n line on.rest within) in
    let finish : to.place ≡ place_of text (from.number + n) = later.is.place_is
    ∙ ap (place_of text) number in
    let line_is : from.line ≡ line_of bytes (place_of text from.number) = on.is.line_is
    ∙ ap (line_of bytes) on.is.place_is in
    λ i. record {
      kind = kind;
      text = token_text kind (own i);
      start = on.is.place_is i;
      finish = finish i;
      line = line_is i;
    }

-- it goes on after a token
goes_on_token : (bytes line : List ℕ) (before after : List Token) (from to : Position)
    (kind : TokenKind) (n : ℕ) → token_piece kind n ≡ piece_at line → 0 < length line
    → IsPlace bytes to → to.number ≡ from.number + n
    → to.place ≡ from.place + length (encode_utf8_all (take n line))
    → after ≡ before ++ token_between kind (take n line) from to ∷ []
    → GoesOn bytes line before from after n to
goes_on_token bytes line before after from to kind n e some at number place put = record {
  is = at;
  within = (token_fits line kind n e).1;
  number = number;
  place = place;
  same = λ text on. ap (λ ts. before ++ ts)
      (left_token bytes text from.number n kind
      (at_line bytes text line from (token_piece kind n) on some e)
      (token_fits line kind n e).0
      (in_text bytes text line from n on (token_fits line kind n e).1))
      ∙ ap (λ t. before ++ t ∷ tokens_left bytes text (from.number + n))
      (sym (token_same bytes text line from to kind n on (token_fits line kind n e).1 at number
      place))
      ∙ ap (λ k. before ++ token_between kind (take n line) from to ∷ tokens_left bytes text k)
      (sym number)
      ∙ sym (append_assoc before (token_between kind (take n line) from to ∷ [])
      (tokens_left bytes text to.number))
      ∙ ap (λ ts. ts ++ tokens_left bytes text to.number) (sym put);
}

-- the characters read are those between the positions
as_count : (bytes line : List ℕ) (before after : List Token) (from to : Position) (n : ℕ)
    → GoesOn bytes line before from after n to
    → GoesOn bytes line before from after (to.number - from.number) to
as_count bytes line before after from to n on =
    subst (λ k. GoesOn bytes line before from after k to) (omega (arith, on.number)) on

-- so it goes on from the position after the characters of a gap
pub read_gap : (bytes line : List ℕ) (before : List Token) (from to : Position) (n len : ℕ)
    → gap_piece n ≡ piece_at line → len ≡ n → 0 < length line → IsPlace bytes to
    → to.number ≡ from.number + length (take len line)
    → to.place ≡ from.place + length (encode_utf8_all (take len line))
    → GoesOn bytes line before from before (to.number - from.number) to
read_gap bytes line before from to n len e is some at number place =
    as_count bytes line before before from to n
    (goes_on_gap bytes line before from to n e some at
    (omega (arith, length-take len line, (gap_fits line n e).1))
    (place ∙ ap (λ k. from.place + length (encode_utf8_all (take k line))) is))

-- or of a token
pub read_token : (bytes line : List ℕ) (before after : List Token) (from to : Position)
    (kind : TokenKind) (n len : ℕ) → token_piece kind n ≡ piece_at line → len ≡ n
    → 0 < length line → IsPlace bytes to → to.number ≡ from.number + length (take len line)
    → to.place ≡ from.place + length (encode_utf8_all (take len line))
    → after ≡ before ++ token_between kind (take len line) from to ∷ []
    → GoesOn bytes line before from after (to.number - from.number) to
read_token bytes line before after from to kind n len e is some at number place put =
    as_count bytes line before after from to n
    (goes_on_token bytes line before after from to kind n e some at
    (omega (arith, length-take len line, (token_fits line kind n e).1))
    (place ∙ ap (λ k. from.place + length (encode_utf8_all (take k line))) is)
    (put ∙ ap (λ k. before ++ token_between kind (take k line) from to ∷ []) is))

-- a position after a piece is further
pub further : (line : List ℕ) (from to : Position) (n len : ℕ)
    → (0 < n) × (n ≤ length line) → len ≡ n → to.number ≡ from.number + length (take len line)
    → from.number < to.number
further line from to n len fits is number = omega (arith, length-take len line)

-- the bad token at a position is that of the definition
bad_same : (bytes text : List ℕ) (from : Position) → IsPosition bytes text from
    → token_between bad_token [] from from ≡ bad_token_at bytes text from.number
bad_same bytes text from is =
    let finish : from.place ≡ place_of text (from.number + 0) = is.place_is
    ∙ ap (place_of text) (omega arith) in
    let line_is : from.line ≡ line_of bytes (place_of text from.number) = is.line_is
    ∙ ap (line_of bytes) is.place_is in
    λ i. record {
      kind = bad_token;
      text = [];
      start = is.place_is i;
      finish = finish i;
      line = line_is i;
    }

-- where no token begins before the end of the bytes, the tokens left are a bad one
left_bad : (bytes text : List ℕ) (from : Position) → IsPosition bytes text from
    → no_piece ≡ piece_at (drop from.number text) → from.place < length bytes
    → tokens_left bytes text from.number ≡ token_between bad_token [] from from ∷ []
left_bad bytes text from is e before_end =
    left_none bytes text from.number false e
    (other (place_of text from.number == length bytes) refl)
    ∙ ap (λ t. t ∷ []) (sym (bad_same bytes text from is))
  where
    other : (b : Bool) → (place_of text from.number == length bytes) ≡ b
        → (place_of text from.number == length bytes) ≡ false
    other true test = absurd (omega (
      arith,
      eqb-true (place_of text from.number) (length bytes) test,
      is.place_is,
    ))
    other false test = test

-- and at the end of the bytes there are none
left_at_end : (bytes text : List ℕ) (from : Position) → IsPosition bytes text from
    → no_piece ≡ piece_at (drop from.number text) → from.place ≡ length bytes
    → tokens_left bytes text from.number ≡ []
left_at_end bytes text from is e end = left_none bytes text from.number true e
    (eq-eqb (place_of text from.number) (length bytes) (sym is.place_is ∙ end))

-- the list ends with a bad token
pub ends_bad : (bytes line : List ℕ) (before after : List Token) (from : Position)
    → no_piece ≡ piece_at line → 0 < length line
    → from.place + length (encode_utf8_all line) ≤ length bytes
    → after ≡ before ++ token_between bad_token [] from from ∷ []
    → EndsIn bytes line before from after
ends_bad bytes line before after from e some within put = λ text on.
    ap (λ ts. before ++ ts)
    (left_bad bytes text from on.is (at_line bytes text line from no_piece on some e)
    (omega (arith, length-le-encodes line)))
    ∙ sym put

-- SINGLE BYTES
-- where each character has a single byte, so has each before a place and each behind it
pub single_parts : (line : List ℕ) (n : ℕ) → length (encode_utf8_all line) ≡ length line
    → (length (encode_utf8_all (take n line)) ≡ length (take n line))
    × (length (encode_utf8_all (drop n line)) ≡ length (drop n line))
single_parts line n single =
    let bytes : length (encode_utf8_all (take n line)) + length (encode_utf8_all (drop n line))
    ≡ length line =
    sym (length-append (encode_utf8_all (take n line)) (encode_utf8_all (drop n line)))
    ∙ ap length (sym (encodes-append (take n line) (drop n line))
    ∙ ap encode_utf8_all (take-append-drop n line))
    ∙ single in
    let characters : length (take n line) + length (drop n line) ≡ length line =
    sym (length-append (take n line) (drop n line)) ∙ ap length (take-append-drop n line) in
    let front : length (take n line) ≤ length (encode_utf8_all (take n line)) =
    length-le-encodes (take n line) in
    let rest : length (drop n line) ≤ length (encode_utf8_all (drop n line)) =
    length-le-encodes (drop n line) in
    (omega arith, omega arith)

-- LINE AFTER LINE
-- after some characters of the line, some more
goes_on_more : (bytes line : List ℕ) (before mid after : List Token) (from by to : Position)
    (n k : ℕ) → GoesOn bytes line before from mid n by
    → GoesOn bytes (drop n line) mid by after k to → GoesOn bytes line before from after (n + k) to
goes_on_more bytes line before mid after from by to n k first second =
    let both : encode_utf8_all (take (n + k) line)
    ≡ encode_utf8_all (take n line) ++ encode_utf8_all (take k (drop n line)) =
    ap encode_utf8_all (take-add n k line) ∙ encodes-append (take n line) (take k (drop n line)) in
    record {
      is = second.is;
      within = omega (arith, length-drop n line, first.within, second.within);
      number = omega (arith, first.number, second.number);
      place = omega (
        arith,
        first.place,
        second.place,
        ap length both,
        length-append (encode_utf8_all (take n line)) (encode_utf8_all (take k (drop n line))),
      );
      same = λ text on. first.same text on ∙ second.same text
          (rest_of_line bytes text line from by n on first.within first.is first.number
          first.place);
    }

-- and where the list ends then, it ends in the line
ends_more : (bytes line : List ℕ) (before mid after : List Token) (from by : Position) (n : ℕ)
    → GoesOn bytes line before from mid n by → EndsIn bytes (drop n line) mid by after
    → EndsIn bytes line before from after
ends_more bytes line before mid after from by n first ends = λ text on.
    first.same text on ∙ ends text
    (rest_of_line bytes text line from by n on first.within first.is first.number first.place)

-- the part from a place to the end is what is left
to_the_end : (text : List ℕ) (n : ℕ) → take (length text - n) (drop n text) ≡ drop n text
to_the_end text n = rw (← length-drop n text) (take-length (drop n text))

-- after a piece of those left, fewer are left
pub read_further : (bytes line left : List ℕ) (before mid after : List Token)
    (from by to : Position) (k : ℕ) → IsReadTo bytes line before from mid left by
    → GoesOn bytes left mid by after k to
    → IsReadTo bytes line before from after (take (length left - k) (drop k left)) to
read_further bytes line left before mid after from by to k so on =
    let n : ℕ = length line - length left in
    let fits : length left ≤ length line = omega (
      arith,
      ap length so.rest,
      length-drop (length line - length left) line,
    ) in
    let count : length line - length (take (length left - k) (drop k left)) ≡ n + k = omega (
      arith,
      ap length (to_the_end left k),
      length-drop k left,
      on.within,
    ) in
    record {
      read = subst (λ m. GoesOn bytes line before from after m to) (sym count)
          (goes_on_more bytes line before mid after from by to n k so.read
          (subst (λ l. GoesOn bytes l mid by after k to) so.rest on));
      rest = to_the_end left k ∙ ap (drop k) so.rest ∙ drop-drop k n line
          ∙ ap (λ m. drop m line) (sym count);
    }

-- the bytes of those left end where those of the line do
pub left_ends : (bytes line left : List ℕ) (before mid : List Token) (from by : Position)
    → IsReadTo bytes line before from mid left by
    → by.place + length (encode_utf8_all left) ≡ from.place + length (encode_utf8_all line)
left_ends bytes line left before mid from by so = let n : ℕ = length line - length left in
    let whole : encode_utf8_all line ≡ encode_utf8_all (take n line) ++ encode_utf8_all left =
    ap encode_utf8_all (sym (take-append-drop n line))
    ∙ encodes-append (take n line) (drop n line)
    ∙ ap (λ l. encode_utf8_all (take n line) ++ encode_utf8_all l) (sym so.rest) in
    omega (
      arith,
      so.read.place,
      ap length whole,
      length-append (encode_utf8_all (take n line)) (encode_utf8_all left),
    )

-- each of those left has a single byte where each of the line has
pub single_left : (bytes line left : List ℕ) (before mid : List Token) (from by : Position)
    → IsReadTo bytes line before from mid left by → length (encode_utf8_all line) ≡ length line
    → length (encode_utf8_all left) ≡ length left
single_left bytes line left before mid from by so single =
    ap (λ l. length (encode_utf8_all l)) so.rest
    ∙ (single_parts line (length line - length left) single).1 ∙ sym (ap length so.rest)

-- where the list ends in those left, it ends in the line
pub ends_left : (bytes line left : List ℕ) (before mid after : List Token) (from by : Position)
    → IsReadTo bytes line before from mid left by → EndsIn bytes left mid by after
    → EndsIn bytes line before from after
ends_left bytes line left before mid after from by so ends =
    ends_more bytes line before mid after from by (length line - length left) so.read
    (subst (λ l. EndsIn bytes l mid by after) so.rest ends)

-- THE WHOLE TEXT
-- the characters of a line come first among those left
pub record IsCut (left own later line : List ℕ) : Type 0 where
  pub own_utf8 : IsUtf8 own
  pub later_utf8 : IsUtf8 later
  pub whole : left ≡ own ++ later
  pub ends : (later ≡ []) ⊎ (ends_line line ≡ true)
  pub decoded : line ≡ chars own

pub cut_at : (left own later line : List ℕ) (count : ℕ) → IsUtf8 left
    → IsCharBoundary left count → IsLineLength left count → own ≡ take count left
    → later ≡ drop count left → line ≡ chars own → IsCut left own later line
cut_at left own later line count utf8 cut is own_is later_is decoded = record {
  own_utf8 = subst IsUtf8 (sym own_is) (IsUtf8-take left count utf8 cut);
  later_utf8 = subst IsUtf8 (sym later_is) (IsUtf8-drop left count utf8 cut);
  whole = sym (take-append-drop count left) ∙ ap (λ xs. xs ++ drop count left) (sym own_is)
      ∙ ap (λ xs. own ++ xs) (sym later_is);
  ends = elim is [
    | inl all ↦ inl (later_is ∙ ap (λ n. drop n left) all ∙ drop-length left)
    | inr ends ↦ inr (ap ends_line (decoded ∙ ap chars own_is) ∙ ends)
  ];
  decoded = decoded;
}

-- its characters have as many bytes
line_bytes : (left own later line : List ℕ) → IsCut left own later line
    → length (encode_utf8_all line) + length later ≡ length left
line_bytes left own later line cut =
    let bytes : encode_utf8_all line ≡ own = ap encode_utf8_all cut.decoded
    ∙ encodes-chars own cut.own_utf8 in
    omega (arith, ap length bytes, ap length cut.whole, length-append own later)

-- each has a single byte where there are as many bytes
pub single_line : (left own later line : List ℕ) → IsCut left own later line
    → (length own == length line) ≡ true → length (encode_utf8_all line) ≡ length line
single_line left own later line cut test =
    ap length (ap encode_utf8_all cut.decoded ∙ encodes-chars own cut.own_utf8)
    ∙ eqb-true (length own) (length line) test

no_characters : chars [] ≡ []
unfolding chars
no_characters = refl

line_cut : (bytes left own later line : List ℕ) (before mid : List Token) (from : Position)
    → AreRead bytes before mid left from → IsCut left own later line
    → IsLine bytes (characters bytes) line from
line_cut bytes left own later line before mid from so cut = record {
  is = so.is;
  rest = chars later;
  split = so.rest ∙ ap chars cut.whole ∙ chars-append own later cut.own_utf8
      ∙ ap (λ xs. xs ++ chars later) (sym cut.decoded);
  whole = elim cut.ends [
    | inl none ↦ inl (ap chars none ∙ no_characters)
    | inr ends ↦ inr ends
  ];
}

-- the position after the lines read is a place of the bytes
pub read_to : (bytes left : List ℕ) (before mid : List Token) (from : Position)
    → AreRead bytes before mid left from → IsPlace bytes from
read_to bytes left before mid from so = record {
  counted = omega (
    arith,
    so.is.place_is,
    so.is.within,
    length-take from.number (characters bytes),
    length-le-encodes (take from.number (characters bytes)),
  );
  line_is = so.is.line_is;
}

-- within which the line is
pub line_within : (bytes left own later line : List ℕ) (before mid : List Token) (from : Position)
    → AreRead bytes before mid left from → IsCut left own later line
    → from.place + length (encode_utf8_all line) ≤ length bytes
line_within bytes left own later line before mid from so cut =
    omega (arith, so.place, line_bytes left own later line cut, utf8_valid_len_le bytes)

-- from the first position on, the tokens are those of the bytes
all_left : (bytes : List ℕ) (number : ℕ) → number ≡ 0
    → tokens_left bytes (characters bytes) number ≡ tokens_of bytes
unfolding tokens_of
all_left bytes number first =
    ap (tokens_left bytes (characters bytes)) first
    ∙ ap (λ k. tokens_from bytes (characters bytes) (suc k) 0) (omega arith)

-- before the first line nothing is read
pub none_read : (bytes text : List ℕ) (before : List Token) (start : Position)
    → text ≡ take (utf8_valid_len bytes) bytes → IsPosition bytes (characters bytes) start
    → start.number ≡ 0 → start.place ≡ 0 → AreRead bytes before before text start
unfolding characters
none_read bytes text before start e is number place = record {
  is = is;
  rest = ap (λ n. drop n (characters bytes)) number ∙ ap chars (sym e);
  utf8 = subst IsUtf8 (sym e) (valid bytes);
  place = omega (
    arith,
    ap length e,
    length-take (utf8_valid_len bytes) bytes,
    utf8_valid_len_le bytes,
  );
  same = ap (λ ts. before ++ ts) (sym (all_left bytes start.number number));
}

-- a line more
pub line_read : (bytes left own later line : List ℕ) (before mid after : List Token)
    (from to : Position) → AreRead bytes before mid left from → IsCut left own later line
    → GoesOn bytes line mid from after (length line) to → AreRead bytes before after later to
unfolding line_cut
line_read bytes left own later line before mid after from to so cut on =
    let at = line_cut bytes left own later line before mid from so cut in
    let place : to.place ≡ from.place + length (encode_utf8_all line) =
    on.place ∙ ap (λ l. from.place + length (encode_utf8_all l)) (take-length line) in
    record {
      is = later_position bytes (characters bytes) line at.rest from to so.is at.split on.is
          on.number place;
      rest = ap (λ n. drop n (characters bytes)) on.number
          ∙ sym (drop-drop (length line) from.number (characters bytes))
          ∙ ap (drop (length line)) at.split ∙ drop-append_seam line at.rest;
      utf8 = cut.later_utf8;
      place = omega (arith, so.place, place, line_bytes left own later line cut);
      same = so.same ∙ on.same (characters bytes) at;
    }

-- where the list ends in a line
pub ends_read : (bytes left own later line : List ℕ) (before mid after : List Token)
    (from : Position) → AreRead bytes before mid left from → IsCut left own later line
    → EndsIn bytes line mid from after → before ++ tokens_of bytes ≡ after
ends_read bytes left own later line before mid after from so cut ends =
    so.same ∙ ends (characters bytes)
    (line_cut bytes left own later line before mid from so cut)

-- after the last line no piece is left
no_piece_left : (bytes : List ℕ) (before after : List Token) (to : Position)
    → AreRead bytes before after [] to → no_piece ≡ piece_at (drop to.number (characters bytes))
unfolding piece_at
no_piece_left bytes before after to so = sym (ap piece_at (so.rest ∙ no_characters))

-- at the end of the bytes the tokens are those read
pub whole_read : (bytes : List ℕ) (before after : List Token) (to : Position)
    → AreRead bytes before after [] to → length bytes ≤ to.place
    → before ++ tokens_of bytes ≡ after
whole_read bytes before after to so end =
    so.same
    ∙ ap (λ ts. after ++ ts)
    (left_at_end bytes (characters bytes) to so.is (no_piece_left bytes before after to so)
    (omega (arith, so.place, utf8_valid_len_le bytes)))
    ∙ append-nil after

-- and before it a bad one follows
pub part_read : (bytes : List ℕ) (before mid after : List Token) (to : Position)
    → AreRead bytes before mid [] to → to.place < length bytes
    → after ≡ mid ++ token_between bad_token [] to to ∷ [] → before ++ tokens_of bytes ≡ after
part_read bytes before mid after to so before_end put =
    so.same
    ∙ ap (λ ts. mid ++ ts)
    (left_bad bytes (characters bytes) to so.is (no_piece_left bytes before mid to so) before_end)
    ∙ sym put
