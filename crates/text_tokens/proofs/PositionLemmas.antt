-- Places and lines after some characters more.
use Rattle.std.proofs.Common.{◌≡◌, ℕ, ◌+◌, ◌-◌, ◌==◌, List, length, take, drop, count_by, encode_utf8_all, ◌∙◌, ap, arith, length-append}
use Rattle.std.proofs.Math.Seq.{take-add}
use Rattle.std.proofs.lemmas.List.Sums.{sum_by-append}
use Rattle.std.proofs.lemmas.Str.{encodes-append}
use Rattle.model_text.specs.Tokens.{newline, place_of, line_of}

back : (n k : ℕ) → n + k - n ≡ k
back n k = omega arith

pub place_step : (text : List ℕ) (n k : ℕ)
    → place_of text (n + k)
    ≡ place_of text n + length (encode_utf8_all (take (n + k - n) (drop n text)))
place_step text n k =
    rw (back, take-add n k text, encodes-append (take n text) (take k (drop n text)))
    (length-append (encode_utf8_all (take n text)) (encode_utf8_all (take k (drop n text))))

pub line_step : (bytes : List ℕ) (p q : ℕ)
    → line_of bytes (p + q) ≡ line_of bytes p + count_by (λ b. b == newline)
    (take (p + q - p) (drop p bytes))
line_step bytes p q =
    rw (back, take-add p q bytes)
    (ap (λ n. 1 + n) (sum_by-append _ (take p bytes) (take q (drop p bytes))) ∙ omega arith)
