-- When each of some lexemes fits: where there is room for all of their bytes, no bracket nor text
-- passes its limit, and the numbers are in the range of literals.
use Rattle.std.proofs.Common.{◌≡◌, ℕ, suc, ◌+◌, ◌-◌, ◌≤◌, Bool, true, false, ◌&&◌, cond, nat_le, List, [], ◌∷◌, length, length-append, None, Option, refl, sym, ap, subst, arith}
use Rattle.std.specs.List.{list_all}
use Rattle.std.proofs.lemmas.Bool.{and_parts, leb-true, le-leb}
use Rattle.model_limits.specs.Limits.{LimitKind, nesting_limit, text_limit}
use Rattle.model_limits.specs.FirstOf.{or_else, unless}
use Rattle.model_text.specs.Lexemes.{Lexeme}
use Rattle.model_text.specs.Nesting.{open_behind, text_within, token_limit}
use Rattle.model_grammar.specs.Writing.{printed, spaced, text_of}
use Rattle.gap_filling.specs.declared.meters.Meter.{Meter}
use Rattle.gap_filling.specs.Measured.{number_fits, after, measured}

-- the tests that a lexeme passes which fits
record Passes (m : Meter) (l : Lexeme) : Type 0 where
  so_far : m.fits ≡ true
  bytes : nat_le (length (printed l) + 1) m.bytes ≡ true
  brackets : nat_le (open_behind m.brackets l) 100 ≡ true
  text : text_within l ≡ true
  number : number_fits l ≡ true

abbrev Left : Meter → Lexeme → Meter
Left m l = record {
  bytes = m.bytes - (length (printed l) + 1);
  brackets = open_behind m.brackets l;
  fits = true;
}

after-fits : (m : Meter) (l : Lexeme) → Passes m l → after m l ≡ Left m l
unfolding after
after-fits m l p = rw (p.so_far, p.bytes, p.brackets, p.text, p.number) refl

passed : (m : Meter) (l : Lexeme) → (after m l).fits ≡ true → Passes m l
unfolding after
passed m l e =
    let a = of_all (m.fits && (nat_le (length (printed l) + 1) m.bytes
    && (nat_le (open_behind m.brackets l) 100 && (text_within l && number_fits l)))) e in
    let b = and_parts m.fits (nat_le (length (printed l) + 1) m.bytes
    && (nat_le (open_behind m.brackets l) 100 && (text_within l && number_fits l))) a in
    let c = and_parts (nat_le (length (printed l) + 1) m.bytes)
    (nat_le (open_behind m.brackets l) 100 && (text_within l && number_fits l)) b.1 in
    let d = and_parts (nat_le (open_behind m.brackets l) 100) (text_within l && number_fits l)
    c.1 in
    let f = and_parts (text_within l) (number_fits l) d.1 in
    record { so_far = b.0; bytes = c.0; brackets = d.0; text = f.0; number = f.1 }
  where
    of_all : (b : Bool) → (cond b (Left m l)
        (record { bytes = m.bytes; brackets = m.brackets; fits = false })).fits ≡ true → b ≡ true
    of_all true e = refl
    of_all false e = cc

-- what holds of lexemes that fit
abbrev pub Fitting : Meter → List Lexeme → Type 0
Fitting m ls =
    (m.fits ≡ true) × (length (spaced ls) ≤ m.bytes) × (token_limit 100 m.brackets ls ≡ None)
    × (list_all number_fits ls ≡ true)

longer : (l : Lexeme) (ls : List Lexeme)
    → length (spaced (l ∷ ls)) ≡ suc (length (printed l) + length (spaced ls))
longer l ls = ap suc (length-append (printed l) (spaced ls))

pub fitting : (ls : List Lexeme) (m : Meter) → (measured m ls).fits ≡ true → Fitting m ls
fitting [] m e = (e, omega arith, refl, refl)
fitting (l ∷ ls) m e =
    let h = fitting ls (after m l) e in
    let p = passed m l h.0 in
    let k : Fitting (Left m l) ls = subst (λ z. Fitting z ls) (after-fits m l p) h in (
      p.so_far,
      omega (arith, longer l ls, k.1, leb-true (length (printed l) + 1) m.bytes p.bytes),
      rw (p.brackets, p.text) k.2,
      rw p.number k.3,
    )

-- the tests of a lexeme in front of others, of which none passes a limit
front : (b c : Bool) (rest : Option LimitKind)
    → or_else (or_else (unless b nesting_limit) (unless c text_limit)) rest ≡ None
    → (b ≡ true) × (c ≡ true) × (rest ≡ None)
front true true rest e = (refl, refl, e)
front true false rest e = cc
front false c rest e = cc

pub fits : (ls : List Lexeme) (m : Meter) → Fitting m ls → (measured m ls).fits ≡ true
fits [] m h = h.0
fits (l ∷ ls) m h =
    let t = front (nat_le (open_behind m.brackets l) 100) (text_within l)
    (token_limit 100 (open_behind m.brackets l) ls) h.2 in
    let n = and_parts (number_fits l) (list_all number_fits ls) h.3 in
    let p : Passes m l = record {
      so_far = h.0;
      bytes = le-leb (length (printed l) + 1) m.bytes (omega (arith, longer l ls, h.1));
      brackets = t.0;
      text = t.1;
      number = n.0;
    } in
    fits ls (after m l) (subst (λ z. Fitting z ls) (sym (after-fits m l p))
    (refl, omega (arith, longer l ls, h.1), t.2, n.1))

-- a text has no byte before its first token
pub text-shorter : (ls : List Lexeme) (n : ℕ) → length (spaced ls) ≤ suc n
    → length (text_of ls) ≤ n
text-shorter [] n h = omega arith
text-shorter (l ∷ ls) n h = omega (arith, h)

pub spaced-longer : (ls : List Lexeme) (n : ℕ) → length (text_of ls) ≤ n
    → length (spaced ls) ≤ suc n
spaced-longer [] n h = omega arith
spaced-longer (l ∷ ls) n h = omega (arith, h)
