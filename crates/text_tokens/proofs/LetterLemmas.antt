-- Texts whose characters are held in either way, and the ASCII characters of words.
use Rattle.std.proofs.Common.{◌≡◌, ℕ, ◌<◌, ◌||◌, ◌==◌, Bool, true, false, List, map, length, get_or, refl, sym, ap, subst, arith, ◌∙◌}
use Rattle.std.proofs.lemmas.List.{get_or-map, length-map}
use Rattle.std.proofs.lemmas.Bool.Decides.{nat_tests}
use Rattle.std.specs.Char.{is_ascii_digit}
use Rattle.std.specs.Int.{is_in_range}
use Rattle.std.specs.List.{range_with_len}
use Rattle.std.proofs.lemmas.List.FromFn.{get_or-map-range_with_len}
use Rattle.unicode_ident.specs.Ident.{is_xid_continue}
use Rattle.text_tokens.specs.declared.words.TheConstants.{CONTINUES}
use Rattle.text_tokens.specs.Words.{begins_ascii_word, continues_ascii_word}
use Rattle.model_text.specs.Tokens.{starts_word}
use Rattle.unicode_ident.proofs.IdentLemmas.{is_xid_start-ascii, is_xid_continue-ascii}

-- the code of a character of the text stands at its place among the codes
pub code_at : {X : Type 0} (code : X → ℕ) (text : List X) (i : ℕ) (x : X) → i < length text
    → x ≡ get_or text i x → code x ≡ get_or (map code text) i (code x)
code_at code text i x within is =
    ap code is ∙ sym (get_or-map code text i x (code x) within)

-- which has as many
pub within_codes : {X : Type 0} (code : X → ℕ) (text : List X) (i : ℕ) → i < length text
    → i < length (map code text)
within_codes code text i within = subst (λ n. i < n) (sym (length-map text code)) within

-- THE ASCII CHARACTERS OF WORDS
pub begin_is_ascii : (c : ℕ) → begins_ascii_word c ≡ true → c < 128
begin_is_ascii c begins = grind (arith, nat_tests)

-- no other ASCII character begins a word
pub begins_ascii : (c : ℕ) → c < 128 → starts_word c ≡ begins_ascii_word c
begins_ascii c low = ap (λ b. b || (c == 95)) (is_xid_start-ascii c low)

regrouped : (digit upper lower line : Bool)
    → (((digit || upper) || lower) || line) ≡ ((upper || lower) || (digit || line))
regrouped true true lower line = refl
regrouped true false true line = refl
regrouped true false false line = refl
regrouped false true lower line = refl
regrouped false false lower line = refl

-- or continues one
pub continues_ascii : (c : ℕ) → c < 128 → is_xid_continue c ≡ continues_ascii_word c
continues_ascii c low = is_xid_continue-ascii c low
    ∙ regrouped (is_ascii_digit c) (is_in_range 65 90 c) (is_in_range 97 122 c) (c == 95)

-- as the table says
pub in_table : (c : ℕ) (d : Bool) → c < 128 → get_or CONTINUES c d ≡ is_xid_continue c
in_table c d low = ap (λ table. get_or table c d) all
    ∙ get_or-map-range_with_len continues_ascii_word 0 128 c c d low (omega arith)
    ∙ sym (continues_ascii c low)
  where
    all : CONTINUES ≡ map continues_ascii_word (range_with_len 0 128)
    all = refl
