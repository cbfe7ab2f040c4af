-- What makes a reader right for a language, and the rules by which readers are put together.
use Rattle.std.proofs.Common.{◌≡◌, ℕ, suc, ◌+◌, ◌<◌, ◌≤◌, Bool, true, false, cond, List, [], ◌∷◌, ◌++◌, length, Option, Some, None, option_map, Result, Ok, Err, refl, sym, ap, subst, ◌∙◌, append_assoc, arith, ◌⊎◌, inl, inr, length-append}
use Rattle.std.specs.List.{list_any}
use Rattle.std.specs.Prelude.{bytes_eq}
use Rattle.model_text.specs.Lexemes.{Lexeme, terminal}
use Rattle.model_text.proofs.OfTokens.{terminals}
use Rattle.model_text.proofs.Usual.{AreUsual, is_seen, seen_both}
use Rattle.model_text.proofs.Cuts.{split_rest}
use Rattle.token_readers.specs.Reading.{is_terminal}
use Rattle.token_readers.proofs.TerminalTests.{is_terminal_is}
use Rattle.token_readers.specs.Reading.{Stop, At, Deep, Answer, Read, ◌>>=◌, ret, fail, then, either, when, rest_or, expect, leaf, begins, begun, the_terminal}

pub bind_ok : {A B : Type 0} (r : Result A Stop) (f : A → Result B Stop) (y : B) → (r >>= f) ≡ Ok y
    → (x : A) × (r ≡ Ok x) × (f x ≡ Ok y)
bind_ok (Ok x) f y e = (x, refl, e)
bind_ok (Err d) f y e = absurd cc

pub bind_err : {A B : Type 0} (r : Result A Stop) (f : A → Result B Stop) (d : Stop)
    → (r >>= f) ≡ Err d → ((r ≡ Err d) ⊎ ((x : A) × (r ≡ Ok x) × (f x ≡ Err d)))
bind_err (Ok x) f y e = inr (x, refl, e)
bind_err (Err d) f y e = inl cc

pub bind_then : {A B : Type 0} (r : Result A Stop) (f : A → Result B Stop) (x : A) → r ≡ Ok x
    → (r >>= f) ≡ f x
bind_then r f x e = rw e refl

pub bind_stop : {A B : Type 0} (r : Result A Stop) (f : A → Result B Stop) (d : Stop) → r ≡ Err d
    → (r >>= f) ≡ Err d
bind_stop r f d e = rw e refl

abbrev done : {A : Type 0} → A × List Lexeme → Answer A
done x = Ok x

ok_pair : {A : Type 0} (x y : A × List Lexeme) → done x ≡ done y → x ≡ y
ok_pair x y e = cc

pub ok_parts : {A : Type 0} (a b : A) (s t : List Lexeme) → done (a, s) ≡ done (b, t)
    → (a ≡ b) × (s ≡ t)
ok_parts {A} a b s t e =
    let h : (a, s) ≡ (b, t) = ok_pair (a, s) (b, t) e in
    (ap (λ (z : A × List Lexeme). z.0) h, ap (λ (z : A × List Lexeme). z.1) h)

abbrev pub Language : Type 0 → Type 1
Language A = A → List Lexeme → Type 0

-- r reads L, and answers of depth only where the list has n tokens or more.
pub record Sound {A : Type 0} (n : ℕ) (r : Read A) (L : A → List Lexeme → Type 0) : Type 0 where
  pub some : (a : A) × (s : List Lexeme) × L a s × AreUsual s
  pub found : (ts : List Lexeme) (a : A) (rest : List Lexeme) → r ts ≡ Ok (a, rest)
      → (s : List Lexeme) × (ts ≡ s ++ rest) × L a s
  pub viable : (ts : List Lexeme) (k : ℕ) → r ts ≡ Err (At k)
      → (p : List Lexeme) × (rest : List Lexeme) × (ts ≡ p ++ rest) × (k ≡ length rest) × (a : A)
      × (s : List Lexeme) × L a (p ++ s) × AreUsual s
  pub local_ok : (p : List Lexeme) (t : Lexeme) (rest : List Lexeme) (a : A)
      → r (p ++ (t ∷ rest)) ≡ Ok (a, t ∷ rest)
      → (s : List Lexeme) → r (p ++ (t ∷ s)) ≡ Ok (a, t ∷ s)
  pub local_err : (p : List Lexeme) (t : Lexeme) (rest : List Lexeme)
      → r (p ++ (t ∷ rest)) ≡ Err (At (suc (length rest)))
      → (s : List Lexeme) → r (p ++ (t ∷ s)) ≡ Err (At (suc (length s)))
  pub ends : (ts : List Lexeme) → length ts < n → r ts ≡ Err Deep → ⊥

-- what is left of a language behind a list, behind a token
abbrev pub Behind : {A : Type 0} → List Lexeme → (A → List Lexeme → Type 0) → A → List Lexeme
    → Type 0
Behind front L a s = L a (front ++ s)

abbrev pub After : {A : Type 0} → Lexeme → (A → List Lexeme → Type 0) → A → List Lexeme → Type 0
After t L a s = L a (t ∷ s)

length_of : (ts s rest : List Lexeme) → ts ≡ s ++ rest → length ts ≡ length s + length rest
length_of ts s rest e = ap (length {A = Lexeme}) e ∙ length-append s rest

-- a reader's answer, with tokens q left before the one that it looked at
local_ok_far : {A : Type 0} {n : ℕ} {r : Read A} {L : A → List Lexeme → Type 0} → Sound n r L
    → (p q : List Lexeme) (t : Lexeme) (rest : List Lexeme) (a : A)
    → r (p ++ (q ++ (t ∷ rest))) ≡ Ok (a, q ++ (t ∷ rest))
    → (s : List Lexeme) → r (p ++ (q ++ (t ∷ s))) ≡ Ok (a, q ++ (t ∷ s))
local_ok_far S p [] t rest a e s = S.local_ok p t rest a e s
local_ok_far S p (u ∷ q) t rest a e s = S.local_ok p u (q ++ (t ∷ rest)) a e (q ++ (t ∷ s))

empty_front : (p r : List Lexeme) → length (p ++ r) ≡ length r → p ≡ []
empty_front [] r e = refl
empty_front (x ∷ p) r e = absurd (omega (arith, length-append p r))

-- what the second reader does on other tokens behind the one that it looked at
then_moved : {A B : Type 0} (r : Read A) (k : A → Read B) (p q1 q2 : List Lexeme) (t : Lexeme)
    (rest : List Lexeme) (x : A × List Lexeme)
    → r (p ++ (t ∷ rest)) ≡ Ok x → p ≡ q1 ++ q2 → x.1 ≡ q2 ++ (t ∷ rest) → (s : List Lexeme)
    → ((p q : List Lexeme) (t : Lexeme) (rest : List Lexeme) (a : A)
    → r (p ++ (q ++ (t ∷ rest))) ≡ Ok (a, q ++ (t ∷ rest)) → (s : List Lexeme)
    → r (p ++ (q ++ (t ∷ s))) ≡ Ok (a, q ++ (t ∷ s)))
    → (y : Answer B) → k x.0 (q2 ++ (t ∷ s)) ≡ y → then r k (p ++ (t ∷ s)) ≡ y
then_moved {A} r k p q1 q2 t rest x e cut e1 s far y e2 =
    let a1 : p ++ (t ∷ rest) ≡ q1 ++ (q2 ++ (t ∷ rest)) = rw cut (append_assoc q1 q2 (t ∷ rest)) in
    let a2 : p ++ (t ∷ s) ≡ q1 ++ (q2 ++ (t ∷ s)) = rw cut (append_assoc q1 q2 (t ∷ s)) in
    let ex : done x ≡ done (x.0, q2 ++ (t ∷ rest)) = ap (λ (z : List Lexeme). done (x.0, z)) e1 in
    let h : r (q1 ++ (q2 ++ (t ∷ rest))) ≡ Ok (x.0, q2 ++ (t ∷ rest)) = subst
    (λ (z : List Lexeme). r z ≡ Ok (x.0, q2 ++ (t ∷ rest))) a1 (e ∙ ex) in
    let g = far q1 q2 t rest x.0 h s in
    let g1 : r (p ++ (t ∷ s)) ≡ Ok (x.0, q2 ++ (t ∷ s)) = subst
    (λ (z : List Lexeme). r z ≡ Ok (x.0, q2 ++ (t ∷ s))) (sym a2) g in
    bind_then (r (p ++ (t ∷ s))) (λ (z : A × List Lexeme). k z.0 z.1) (x.0, q2 ++ (t ∷ s)) g1 ∙ e2

-- ---- a value

pub s_ret : {A : Type 0} (n : ℕ) (a : A) (L : A → List Lexeme → Type 0) → L a [] → Sound n (ret a) L
s_ret {A} n a L l = record {
  some = (a, [], l, tt);
  found = λ ts b rest e.
      let d = ok_parts a b ts rest e in
      ([], d.1, subst (λ (x : A). L x []) d.0 l);
  viable = λ ts k e. absurd cc;
  local_ok = λ p t rest b e s.
      let d = ok_parts a b (p ++ (t ∷ rest)) (t ∷ rest) e in
      let ea : a ≡ b = d.0 in
      let ep : p ≡ [] = (split_rest [] (t ∷ rest) p (t ∷ rest) d.1 refl).0 in
      rw (ea, ep) refl;
  local_err = λ p t rest e s. absurd cc;
  ends = λ ts lt e. cc;
}

-- ---- nothing

pub s_fail : {A : Type 0} (n : ℕ) (a : A) (s : List Lexeme) (L : A → List Lexeme → Type 0) → L a s
    → AreUsual s → Sound n fail L
s_fail {A} n a s L l seen = record {
  some = (a, s, l, seen);
  found = λ ts b rest e. absurd cc;
  viable = λ ts k e.
      let h : length ts ≡ k = cc in
      ([], ts, refl, sym h, a, s, l, seen);
  local_ok = λ p t rest b e s. absurd cc;
  local_err = λ p t rest e s.
      let et : length (p ++ (t ∷ rest)) ≡ suc (length rest) = cc in
      let ep : p ≡ [] = empty_front p (t ∷ rest) et in
      rw ep refl;
  ends = λ ts lt e. cc;
}

-- ---- one after the other

pub s_then : {A B : Type 0} {n : ℕ} {r : Read A} {k : A → Read B} {L1 : A → List Lexeme → Type 0}
    (L : B → List Lexeme → Type 0)
    → Sound n r L1 → ((a : A) (s : List Lexeme) → L1 a s → Sound n (k a) (Behind s L))
    → Sound n (then r k) L
s_then {A} {B} {n} {r} {k} {L1} L S1 S2 = record {
  some =
      let x = S1.some in
      let y = (S2 x.0 x.1 x.2).some in
      (y.0, x.1 ++ y.1, y.2, seen_both x.1 y.1 x.3 y.3);
  found = λ ts b rest e.
      let x = bind_ok (r ts) (λ (x : A × List Lexeme). k x.0 x.1) (b, rest) e in
      let f = S1.found ts x.0.0 x.0.1 x.1 in
      let g = (S2 x.0.0 f.0 f.2).found x.0.1 b rest x.2 in (
        f.0 ++ g.0,
        f.1 ∙ ap (λ (z : List Lexeme). f.0 ++ z) g.1
            ∙ sym (append_assoc f.0 g.0 rest),
        g.2,
      );
  viable = λ ts j e.
      elim (bind_err (r ts) (λ (x : A × List Lexeme). k x.0 x.1) (At j) e) [
        | inl h ↦
            let v = S1.viable ts j h in
            let y = (S2 v.4 (v.0 ++ v.5) v.6).some in (
              v.0,
              v.1,
              v.2,
              v.3,
              y.0,
              v.5 ++ y.1,
              subst (λ (z : List Lexeme). L y.0 z)
                  (append_assoc v.0 v.5 y.1) y.2,
              seen_both v.5 y.1 v.7 y.3,
            )
        | inr x ↦
            let f = S1.found ts x.0.0 x.0.1 x.1 in
            let v = (S2 x.0.0 f.0 f.2).viable x.0.1 j x.2 in (
              f.0 ++ v.0,
              v.1,
              f.1 ∙ ap (λ (z : List Lexeme). f.0 ++ z) v.2 ∙ sym (append_assoc f.0 v.0 v.1),
              v.3,
              v.4,
              v.5,
              subst (λ (z : List Lexeme). L v.4 z) (sym (append_assoc f.0 v.0 v.5)) v.6,
              v.7,
            )
      ];
  local_ok = λ p t rest b e s.
      let x = bind_ok (r (p ++ (t ∷ rest))) (λ (x : A × List Lexeme). k x.0 x.1) (b, t ∷ rest) e in
      let f = S1.found (p ++ (t ∷ rest)) x.0.0 x.0.1 x.1 in
      let S = S2 x.0.0 f.0 f.2 in
      let g = S.found x.0.1 b (t ∷ rest) x.2 in
      let cut = split_rest (f.0 ++ g.0) (t ∷ rest) p (t ∷ rest)
      (f.1 ∙ ap (λ (z : List Lexeme). f.0 ++ z) g.1 ∙ sym (append_assoc f.0 g.0 (t ∷ rest)))
      refl in
      then_moved r k p f.0 g.0 t rest x.0 x.1 cut.0 g.1 s (local_ok_far S1) (Ok (b, t ∷ s))
      (S.local_ok g.0 t rest b (subst (λ (z : List Lexeme). k x.0.0 z ≡ Ok (b, t ∷ rest)) g.1 x.2)
      s);
  local_err = λ p t rest e s.
      elim (bind_err (r (p ++ (t ∷ rest))) (λ (x : A × List Lexeme). k x.0 x.1)
      (At (suc (length rest))) e) [
        | inl h ↦ bind_stop (r (p ++ (t ∷ s))) (λ (x : A × List Lexeme). k x.0 x.1) _
            (S1.local_err p t rest h s)
        | inr x ↦
            let f = S1.found (p ++ (t ∷ rest)) x.0.0 x.0.1 x.1 in
            let S = S2 x.0.0 f.0 f.2 in
            let v = S.viable x.0.1 (suc (length rest)) x.2 in
            let cut = split_rest (f.0 ++ v.0) v.1 p (t ∷ rest)
            (f.1 ∙ ap (λ (z : List Lexeme). f.0 ++ z) v.2 ∙ sym (append_assoc f.0 v.0 v.1)) v.3
            in
            let g1 : x.0.1 ≡ v.0 ++ (t ∷ rest) = v.2 ∙ ap (λ (z : List Lexeme). v.0 ++ z)
            (sym cut.1) in
            then_moved r k p f.0 v.0 t rest x.0 x.1 cut.0 g1 s (local_ok_far S1)
            (Err (At (suc (length s))))
            (S.local_err v.0 t rest (subst (λ (z : List Lexeme). k x.0.0 z
            ≡ Err (At (suc (length rest)))) g1 x.2) s)
      ];
  ends = λ ts lt e.
      elim (bind_err (r ts) (λ (x : A × List Lexeme). k x.0 x.1) Deep e) [
        | inl h ↦ S1.ends ts lt h
        | inr x ↦
            let f = S1.found ts x.0.0 x.0.1 x.1 in
            let le : length ts ≡ length f.0 + length x.0.1 = length_of ts f.0 x.0.1 f.1 in
            (S2 x.0.0 f.0 f.2).ends x.0.1 (omega arith) x.2
      ];
}

-- ---- a first lexeme that stands for something, or something else

option_cases : {A : Type 0} (o : Option A) → (o ≡ None) ⊎ ((a : A) × (o ≡ Some a))
option_cases None = inl refl
option_cases (Some a) = inr (a, refl)

pub begins_yes : {X A : Type 0} (f : Lexeme → Option X) (r : X → Read A) (other : Read A)
    (t : Lexeme) (ts : List Lexeme) (x : X) → f t ≡ Some x → begins f r other (t ∷ ts) ≡ r x ts
begins_yes f r other t ts x e = rw e refl

pub begins_no : {X A : Type 0} (f : Lexeme → Option X) (r : X → Read A) (other : Read A)
    (t : Lexeme) (ts : List Lexeme) → f t ≡ None → begins f r other (t ∷ ts) ≡ other (t ∷ ts)
begins_no f r other t ts e = rw e refl

module _ {X A : Type 0} (n k : ℕ) (nk : k ≤ suc n) (f : Lexeme → Option X) (r : X → Read A)
    (other : Read A) (L : A → List Lexeme → Type 0)
    (S1 : (t : Lexeme) (x : X) → f t ≡ Some x → Sound n (r x) (After t L))
    (S2 : Sound k other L) where
  begins_found : (ts : List Lexeme) (a : A) (rest : List Lexeme)
      → begins f r other ts ≡ Ok (a, rest) → (s : List Lexeme) × (ts ≡ s ++ rest) × L a s
  begins_found [] a rest e = S2.found [] a rest e
  begins_found (t ∷ ts) a rest e =
      elim (option_cases (f t)) [
        | inr y ↦
            let g = (S1 t y.0 y.1).found ts a rest (sym (begins_yes f r other t ts y.0 y.1) ∙ e) in
            (t ∷ g.0, ap (λ (z : List Lexeme). t ∷ z) g.1, g.2)
        | inl q ↦ S2.found (t ∷ ts) a rest (sym (begins_no f r other t ts q) ∙ e)
      ]

  begins_viable : (ts : List Lexeme) (j : ℕ) → begins f r other ts ≡ Err (At j)
      → (p : List Lexeme) × (rest : List Lexeme) × (ts ≡ p ++ rest) × (j ≡ length rest) × (a : A)
      × (s : List Lexeme) × L a (p ++ s) × AreUsual s
  begins_viable [] j e = S2.viable [] j e
  begins_viable (t ∷ ts) j e =
      elim (option_cases (f t)) [
        | inr y ↦
            let v = (S1 t y.0 y.1).viable ts j (sym (begins_yes f r other t ts y.0 y.1) ∙ e) in
            (t ∷ v.0, v.1, ap (λ (z : List Lexeme). t ∷ z) v.2, v.3, v.4, v.5, v.6, v.7)
        | inl q ↦ S2.viable (t ∷ ts) j (sym (begins_no f r other t ts q) ∙ e)
      ]

  begins_local_ok : (p : List Lexeme) (t : Lexeme) (rest : List Lexeme) (a : A)
      → begins f r other (p ++ (t ∷ rest)) ≡ Ok (a, t ∷ rest)
      → (s : List Lexeme) → begins f r other (p ++ (t ∷ s)) ≡ Ok (a, t ∷ s)
  begins_local_ok [] t rest a e s =
      elim (option_cases (f t)) [
        | inr y ↦
            let g = (S1 t y.0 y.1).found rest a (t ∷ rest)
            (sym (begins_yes f r other t rest y.0 y.1) ∙ e) in
            absurd (omega (arith, length_of rest g.0 (t ∷ rest) g.1))
        | inl q ↦ begins_no f r other t s q ∙ S2.local_ok [] t rest a
            (sym (begins_no f r other t rest q) ∙ e) s
      ]
  begins_local_ok (u ∷ p) t rest a e s =
      elim (option_cases (f u)) [
        | inr y ↦ begins_yes f r other u (p ++ (t ∷ s)) y.0 y.1
            ∙ (S1 u y.0 y.1).local_ok p t rest a (sym (begins_yes f r other u
            (p ++ (t ∷ rest)) y.0 y.1) ∙ e) s
        | inl q ↦ begins_no f r other u (p ++ (t ∷ s)) q
            ∙ S2.local_ok (u ∷ p) t rest a (sym (begins_no f r other u (p ++ (t ∷ rest)) q) ∙ e) s
      ]

  begins_local_err : (p : List Lexeme) (t : Lexeme) (rest : List Lexeme)
      → begins f r other (p ++ (t ∷ rest)) ≡ Err (At (suc (length rest)))
      → (s : List Lexeme) → begins f r other (p ++ (t ∷ s)) ≡ Err (At (suc (length s)))
  begins_local_err [] t rest e s =
      elim (option_cases (f t)) [
        | inr y ↦
            let v = (S1 t y.0 y.1).viable rest (suc (length rest))
            (sym (begins_yes f r other t rest y.0 y.1) ∙ e) in
            absurd (omega (arith, length_of rest v.0 v.1 v.2, v.3))
        | inl q ↦ begins_no f r other t s q ∙ S2.local_err [] t rest
            (sym (begins_no f r other t rest q) ∙ e) s
      ]
  begins_local_err (u ∷ p) t rest e s =
      elim (option_cases (f u)) [
        | inr y ↦ begins_yes f r other u (p ++ (t ∷ s)) y.0 y.1
            ∙ (S1 u y.0 y.1).local_err p t rest (sym (begins_yes f r other u
            (p ++ (t ∷ rest)) y.0 y.1) ∙ e) s
        | inl q ↦ begins_no f r other u (p ++ (t ∷ s)) q
            ∙ S2.local_err (u ∷ p) t rest (sym (begins_no f r other u (p ++ (t ∷ rest)) q) ∙ e) s
      ]

  begins_ends : (ts : List Lexeme) → length ts < k → begins f r other ts ≡ Err Deep → ⊥
  begins_ends [] lt e = S2.ends [] lt e
  begins_ends (t ∷ ts) lt e =
      elim (option_cases (f t)) [
        | inr y ↦ (S1 t y.0 y.1).ends ts (omega arith) (sym (begins_yes f r other t ts y.0 y.1) ∙ e)
        | inl q ↦ S2.ends (t ∷ ts) lt (sym (begins_no f r other t ts q) ∙ e)
      ]

  pub s_begins : Sound k (begins f r other) L
  s_begins = record {
    some = S2.some;
    found = begins_found;
    viable = begins_viable;
    local_ok = begins_local_ok;
    local_err = begins_local_err;
    ends = begins_ends;
  }

-- a reader that answers the same is as sound
s_same : {A : Type 0} (n : ℕ) (r q : Read A) (L : A → List Lexeme → Type 0)
    → ((ts : List Lexeme) → r ts ≡ q ts) → Sound n r L → Sound n q L
s_same n r q L e S = record {
  some = S.some;
  found = λ ts a rest h. S.found ts a rest (e ts ∙ h);
  viable = λ ts k h. S.viable ts k (e ts ∙ h);
  local_ok = λ p t rest a h s. sym (e (p ++ (t ∷ s))) ∙ S.local_ok p t rest a
      (e (p ++ (t ∷ rest)) ∙ h) s;
  local_err = λ p t rest h s. sym (e (p ++ (t ∷ s))) ∙ S.local_err p t rest
      (e (p ++ (t ∷ rest)) ∙ h) s;
  ends = λ ts lt h. S.ends ts lt (e ts ∙ h);
}

-- ---- a terminal, or something else

pub when_yes : {A : Type 0} (m : List ℕ) (r other : Read A) (t : Lexeme) (ts : List Lexeme)
    → is_terminal m t ≡ true → when m r other (t ∷ ts) ≡ r ts
when_yes m r other t ts e = rw e refl

-- a first lexeme that stands for the terminal is it
pub the_terminal_is : (m : List ℕ) (t : Lexeme) (x : Bool) → the_terminal m t ≡ Some x
    → t ≡ terminal m
the_terminal_is m t x e = is_terminal_is m t (was_true (is_terminal m t) e)
  where
    was_true : (b : Bool) → cond b (Some true) None ≡ Some x → b ≡ true
    was_true true h = refl
    was_true false h = absurd cc

when_is : {A : Type 0} (m : List ℕ) (r other : Read A) (ts : List Lexeme)
    → begins (the_terminal m) (λ x. r) other ts ≡ when m r other ts
when_is m r other [] = refl
when_is m r other (t ∷ ts) = by_truth (is_terminal m t)
  where
    by_truth : (b : Bool) → begun (option_map (λ x. (x, ts)) (cond b (Some true) None)) (λ x. r)
        (other (t ∷ ts)) ≡ either (cond b (Some ts) None) r (other (t ∷ ts))
    by_truth true = refl
    by_truth false = refl

pub s_step : {A : Type 0} (n k : ℕ) → k ≤ suc n → (m : List ℕ) {r other : Read A}
    {L : A → List Lexeme → Type 0} → Sound n r (After (terminal m) L) → Sound k other L
    → Sound k (when m r other) L
s_step n k h m {r} {other} {L} S1 S2 = s_same k (begins (the_terminal m) (λ x. r) other)
    (when m r other) L (when_is m r other)
    (s_begins n k h (the_terminal m) (λ x. r) other L (λ t x e. subst
    (λ (z : Lexeme). Sound n r (After z L)) (sym (the_terminal_is m t x e)) S1) S2)

-- the mark is the first token of a nonterminal: behind it one level less is left
pub s_when : {A : Type 0} (n : ℕ) (m : List ℕ) {r other : Read A} {L : A → List Lexeme → Type 0}
    → Sound n r (After (terminal m) L) → Sound (suc n) other L → Sound (suc n) (when m r other) L
s_when n m S1 S2 = s_step n (suc n) (omega arith) m S1 S2

pub s_case : {A : Type 0} {n : ℕ} (m : List ℕ) {r other : Read A} {L : A → List Lexeme → Type 0}
    → Sound n r (After (terminal m) L) → Sound n other L → Sound n (when m r other) L
s_case {n = n} m S1 S2 = s_step n n (omega arith) m S1 S2

-- ---- one token

leaf_some : {A : Type 0} (f : Lexeme → Option A) (t : Lexeme) (ts : List Lexeme) (a : A)
    → f t ≡ Some a → leaf f (t ∷ ts) ≡ Ok (a, ts)
leaf_some f t ts a e = rw e refl

leaf_none : {A : Type 0} (f : Lexeme → Option A) (t : Lexeme) (ts : List Lexeme) → f t ≡ None
    → leaf f (t ∷ ts) ≡ Err (At (suc (length ts)))
leaf_none f t ts e = rw e refl

module _ {A : Type 0} (n : ℕ) (f : Lexeme → Option A) (L : A → List Lexeme → Type 0)
    (has : (a : A) × (s : List Lexeme) × L a s × AreUsual s)
    (each : (t : Lexeme) (a : A) → f t ≡ Some a → L a (t ∷ [])) where
  leaf_found : (ts : List Lexeme) (a : A) (rest : List Lexeme) → leaf f ts ≡ Ok (a, rest)
      → (s : List Lexeme) × (ts ≡ s ++ rest) × L a s
  leaf_found [] a rest e = absurd cc
  leaf_found (t ∷ ts) a rest e =
      elim (option_cases (f t)) [
        | inl q ↦ absurd (let h = sym (leaf_none f t ts q) ∙ e in cc)
        | inr y ↦
            let d = ok_parts y.0 a ts rest (sym (leaf_some f t ts y.0 y.1) ∙ e) in (
              t ∷ [],
              ap (λ (z : List Lexeme). t ∷ z) d.1,
              subst (λ (z : A). L z (t ∷ [])) d.0
                  (each t y.0 y.1),
            )
      ]

  leaf_viable : (ts : List Lexeme) (k : ℕ) → leaf f ts ≡ Err (At k)
      → (p : List Lexeme) × (rest : List Lexeme) × (ts ≡ p ++ rest) × (k ≡ length rest) × (a : A)
      × (s : List Lexeme) × L a (p ++ s) × AreUsual s
  leaf_viable [] k e = let h : 0 ≡ k = cc in ([], [], refl, sym h, has.0, has.1, has.2, has.3)
  leaf_viable (t ∷ ts) k e =
      elim (option_cases (f t)) [
        | inl q ↦
            let h = sym (leaf_none f t ts q) ∙ e in
            let g : suc (length ts) ≡ k = cc in
            ([], t ∷ ts, refl, sym g, has.0, has.1, has.2, has.3)
        | inr y ↦ absurd (let h = sym (leaf_some f t ts y.0 y.1) ∙ e in cc)
      ]

  leaf_local_ok : (p : List Lexeme) (t : Lexeme) (rest : List Lexeme) (a : A)
      → leaf f (p ++ (t ∷ rest)) ≡ Ok (a, t ∷ rest)
      → (s : List Lexeme) → leaf f (p ++ (t ∷ s)) ≡ Ok (a, t ∷ s)
  leaf_local_ok [] t rest a e s =
      elim (option_cases (f t)) [
        | inl q ↦ absurd (let h = sym (leaf_none f t rest q) ∙ e in cc)
        | inr y ↦
            let d = ok_parts y.0 a rest (t ∷ rest) (sym (leaf_some f t rest y.0 y.1) ∙ e) in
            absurd (omega (arith, ap (length {A = Lexeme}) d.1))
      ]
  leaf_local_ok (u ∷ p) t rest a e s =
      elim (option_cases (f u)) [
        | inl q ↦ absurd (let h = sym (leaf_none f u (p ++ (t ∷ rest)) q) ∙ e in cc)
        | inr y ↦
            let d = ok_parts y.0 a (p ++ (t ∷ rest)) (t ∷ rest)
            (sym (leaf_some f u (p ++ (t ∷ rest)) y.0 y.1) ∙ e) in
            let ep : p ≡ [] = (split_rest [] (t ∷ rest) p (t ∷ rest) d.1 refl).0 in
            let ea : y.0 ≡ a = d.0 in
            leaf_some f u (p ++ (t ∷ s)) y.0 y.1 ∙ rw (ea, ep) refl
      ]

  leaf_local_err : (p : List Lexeme) (t : Lexeme) (rest : List Lexeme)
      → leaf f (p ++ (t ∷ rest)) ≡ Err (At (suc (length rest)))
      → (s : List Lexeme) → leaf f (p ++ (t ∷ s)) ≡ Err (At (suc (length s)))
  leaf_local_err [] t rest e s =
      elim (option_cases (f t)) [
        | inl q ↦ leaf_none f t s q
        | inr y ↦ absurd (let h = sym (leaf_some f t rest y.0 y.1) ∙ e in cc)
      ]
  leaf_local_err (u ∷ p) t rest e s =
      elim (option_cases (f u)) [
        | inl q ↦
            let h = sym (leaf_none f u (p ++ (t ∷ rest)) q) ∙ e in
            let g : suc (length (p ++ (t ∷ rest))) ≡ suc (length rest) = cc in
            absurd (omega (arith, g, length-append p (t ∷ rest)))
        | inr y ↦ absurd (let h = sym (leaf_some f u (p ++ (t ∷ rest)) y.0 y.1) ∙ e in cc)
      ]

  leaf_ends : (ts : List Lexeme) → length ts < n → leaf f ts ≡ Err Deep → ⊥
  leaf_ends [] lt e = cc
  leaf_ends (t ∷ ts) lt e =
      elim (option_cases (f t)) [
        | inl q ↦ (let h = sym (leaf_none f t ts q) ∙ e in cc)
        | inr y ↦ (let h = sym (leaf_some f t ts y.0 y.1) ∙ e in cc)
      ]

  pub s_leaf : Sound n (leaf f) L
  s_leaf = record {
    some = has;
    found = leaf_found;
    viable = leaf_viable;
    local_ok = leaf_local_ok;
    local_err = leaf_local_err;
    ends = leaf_ends;
  }

-- no answer at all
pub s_deep : {A : Type 0} (r : Read A) (L : A → List Lexeme → Type 0)
    → ((ts : List Lexeme) → r ts ≡ Err Deep) → (a : A) (s : List Lexeme) → L a s → AreUsual s
    → Sound 0 r L
s_deep r L d a s l seen = record {
  some = (a, s, l, seen);
  found = λ ts b rest e. absurd (let h = sym (d ts) ∙ e in cc);
  viable = λ ts k e. absurd (let h = sym (d ts) ∙ e in cc);
  local_ok = λ p t rest b e s. absurd (let h = sym (d (p ++ (t ∷ rest))) ∙ e in cc);
  local_err = λ p t rest e s. absurd (let h = sym (d (p ++ (t ∷ rest))) ∙ e in cc);
  ends = λ ts lt e. omega arith;
}

-- fewer tokens
pub s_less : {A : Type 0} {r : Read A} {L : A → List Lexeme → Type 0} (m n : ℕ) → m ≤ n
    → Sound n r L → Sound m r L
s_less m n h S = record {
  some = S.some;
  found = S.found;
  viable = S.viable;
  local_ok = S.local_ok;
  local_err = S.local_err;
  ends = λ ts lt e. S.ends ts (omega arith) e;
}

pub s_down : {A : Type 0} {n : ℕ} {r : Read A} {L : A → List Lexeme → Type 0} → Sound (suc n) r L
    → Sound n r L
s_down {n = n} S = s_less n (suc n) (omega arith) S

expect_is : {A : Type 0} (m : List ℕ) (r : Read A) (ts : List Lexeme)
    → when m r fail ts ≡ expect m r ts
expect_is m r [] = refl
expect_is m r (t ∷ ts) = elim (is_terminal m t) as (λ b. either (cond b (Some ts) None) r
    (fail (t ∷ ts)) ≡ (rest_or (cond b (Some ts) None) (length (t ∷ ts)) >>= r))
    [ true ↦ refl | false ↦ refl ]

-- one mark that has to come
pub s_expect : {A : Type 0} {n : ℕ} (m : List ℕ) → list_any (bytes_eq m) terminals ≡ true
    → {r : Read A} (L : A → List Lexeme → Type 0) → Sound n r (After (terminal m) L)
    → Sound n (expect m r) L
s_expect {n = n} m e {r} L S = s_same n (when m r fail) (expect m r) L (expect_is m r)
    (s_case m S (s_fail n S.some.0 (terminal m ∷ S.some.1) L S.some.2 (is_seen m e, S.some.3)))

-- the same, with the level that the mark makes up for
pub s_expect_up : {A : Type 0} (n : ℕ) (m : List ℕ) → list_any (bytes_eq m) terminals ≡ true
    → {r : Read A} (L : A → List Lexeme → Type 0) → Sound n r (After (terminal m) L)
    → Sound (suc n) (expect m r) L
s_expect_up n m e {r} L S = s_same (suc n) (when m r fail) (expect m r) L (expect_is m r)
    (s_when n m S (s_fail (suc n) S.some.0 (terminal m ∷ S.some.1) L S.some.2
    (is_seen m e, S.some.3)))

-- the last mark of a production
pub s_close : {A : Type 0} (n : ℕ) (m : List ℕ) → list_any (bytes_eq m) terminals ≡ true
    → (a : A) (L : A → List Lexeme → Type 0) → L a (terminal m ∷ []) → Sound n (expect m (ret a)) L
s_close n m e a L l = s_expect m e L (s_ret n a (After (terminal m) L) l)
