-- What makes a reader exact for a spelling, and the rules by which readers are put together.
use Rattle.std.proofs.Common.{◌≡◌, ℕ, zero, suc, ◌+◌, Bool, true, false, cond, ◌&&◌, List, [], ◌∷◌, ◌++◌, length, take, drop, Option, Some, None, refl, sym, ap, subst, ◌∙◌, append_assoc, arith, bytes_eq}
use Rattle.std.proofs.lemmas.List.{take_at, drop_at, take-append-drop}
use Rattle.std.proofs.lemmas.Slice.Eq.{bytes_eq-Decides}
use Rattle.model_certificates.specs.Reading.{Read, ◌>>=◌, nothing, never, made, is, linked, both, kept, fixed, chosen, tagged}

-- ---- options and tests

pub bind_some : {A B : Type 0} (o : Option A) (f : A → Option B) (y : B) → (o >>= f) ≡ Some y
    → (x : A) × (o ≡ Some x) × (f x ≡ Some y)
bind_some (Some x) f y e = (x, refl, e)
bind_some None f y e = absurd cc

pub some_is : {A : Type 0} (x y : A) → Some x ≡ Some y → x ≡ y
some_is x y e = cc

pub none_some : {A : Type 0} (x : A) → None ≡ Some x → ⊥
none_some x e = cc

pub passed : {A : Type 0} (b : Bool) (x y : A) → cond b (Some x) None ≡ Some y
    → (b ≡ true) × (x ≡ y)
passed true x y e = (refl, some_is x y e)
passed false x y e = absurd (none_some y e)

pub both_true : (a b : Bool) → (a && b) ≡ true → (a ≡ true) × (b ≡ true)
both_true true b e = (refl, e)
both_true false b e = absurd cc

pub are_true : (a b : Bool) → a ≡ true → b ≡ true → (a && b) ≡ true
are_true a b e f = rw (e, f) refl

-- ---- exact readers

-- how values of a type are spelled, and of which it is said: those that can be written, those that
-- have a spelling, and those whose words are of the version
pub record Spelling (A : Type 0) : Type 1 where
  pub bytes : A → List ℕ
  pub Writes : A → Type 0
  pub Fits : A → Type 0
  pub words : A → Bool

-- the bytes are those of the value, which is one of these, and then the rest
abbrev pub Taken : {A : Type 0} → Spelling A → List ℕ → A → List ℕ → Type 0
Taken C bs a rest = (bs ≡ C.bytes a ++ rest) × C.Writes a × C.Fits a × (C.words a ≡ true)

-- What can be written and has a spelling is read from it, whatever follows; and what is read is so,
-- and was spelled.
pub record Exact {A : Type 0} (r : Read A) (C : Spelling A) : Type 0 where
  pub again : (a : A) (rest : List ℕ) → C.Writes a → C.Fits a → C.words a ≡ true
      → r (C.bytes a ++ rest) ≡ Some (a, rest)
  pub takes : (bs : List ℕ) (a : A) (rest : List ℕ) → r bs ≡ Some (a, rest) → Taken C bs a rest

abbrev pub Always : {A : Type 0} → A → Type 0
Always a = Unit {0}

abbrev pub every : {A : Type 0} → A → Bool
every a = true

abbrev done : {A : Type 0} → A × List ℕ → Option (A × List ℕ)
done x = Some x

pub parts : {A : Type 0} (a b : A) (s t : List ℕ) → done (a, s) ≡ done (b, t) → (a ≡ b) × (s ≡ t)
parts {A} a b s t e =
    let h : (a, s) ≡ (b, t) = some_is (a, s) (b, t) e in
    (ap (λ (z : A × List ℕ). z.0) h, ap (λ (z : A × List ℕ). z.1) h)

-- of no bytes
abbrev pub none : Spelling (Unit {0})
none = record { bytes = λ x. []; Writes = Always; Fits = Always; words = every }

-- of two values, one after the other
abbrev pub link : {A B : Type 0} → Spelling A → (A → Spelling B) → Spelling (A × B)
link C D = record {
  bytes = λ x. C.bytes x.0 ++ (D x.0).bytes x.1;
  Writes = λ x. C.Writes x.0 × (D x.0).Writes x.1;
  Fits = λ x. C.Fits x.0 × (D x.0).Fits x.1;
  words = λ x. C.words x.0 && (D x.0).words x.1;
}

abbrev pub pair : {A B : Type 0} → Spelling A → Spelling B → Spelling (A × B)
pair C D = link C (λ x. D)

pub nothing_exact : Exact nothing none
nothing_exact = record {
  again = λ a rest w f o. refl;
  takes = λ bs a rest e. let d = parts tt a bs rest e in (d.1, tt, tt, refl);
}

pub never_exact : {A : Type 0} (C : Spelling A) → ((a : A) → C.Writes a → ⊥) → Exact never C
never_exact C none = record {
  again = λ a rest w f o. absurd (none a w);
  takes = λ bs a rest e. absurd (none_some (a, rest) e);
}

-- ---- a value made of what is read

pub made_again : {X A : Type 0} (f : X → A) {r : Read X} {D : Spelling X} → Exact r D → (x : X)
    (rest : List ℕ) → D.Writes x → D.Fits x → D.words x ≡ true
    → made f r (D.bytes x ++ rest) ≡ Some (f x, rest)
made_again f {r} E x rest v g o = rw (E.again x rest v g o) refl

pub made_takes : {X A : Type 0} (C : Spelling A) (front : List ℕ) (f : X → A) {r : Read X}
    {D : Spelling X} → Exact r D → ((x : X) → D.Writes x → C.bytes (f x) ≡ front ++ D.bytes x)
    → ((x : X) → D.Writes x → C.Writes (f x)) → ((x : X) → D.Fits x → C.Fits (f x))
    → ((x : X) → D.Writes x → C.words (f x) ≡ D.words x)
    → (bs : List ℕ) (a : A) (rest : List ℕ) → made f r bs ≡ Some (a, rest)
    → Taken C (front ++ bs) a rest
made_takes {X} {A} C front f {r} {D} E same w g o bs a rest e =
    let x = bind_some (r bs) (λ (x : X × List ℕ). Some (f x.0, x.1)) (a, rest) e in
    let t = E.takes bs x.0.0 x.0.1 x.1 in
    let d = parts (f x.0.0) a x.0.1 rest x.2 in
    let cut : front ++ bs ≡ C.bytes (f x.0.0) ++ x.0.1 =
    ap (λ (z : List ℕ). front ++ z) t.0 ∙ sym (append_assoc front (D.bytes x.0.0) x.0.1)
    ∙ ap (λ (z : List ℕ). z ++ x.0.1) (sym (same x.0.0 t.1)) in
    let moved : front ++ bs ≡ C.bytes (f x.0.0) ++ rest = cut
    ∙ ap (λ (z : List ℕ). C.bytes (f x.0.0) ++ z) d.1 in
    subst (λ (b : A). Taken C (front ++ bs) b rest) d.0
    (moved, w x.0.0 t.1, g x.0.0 t.2, o x.0.0 t.1 ∙ t.3)

-- a struct: every value is made so
pub made_exact : {X A : Type 0} (C : Spelling A) (f : X → A) (back : A → X)
    → ((a : A) → C.Fits a → f (back a) ≡ a) → {r : Read X} {D : Spelling X} → Exact r D
    → ((x : X) → C.bytes (f x) ≡ D.bytes x) → ((x : X) → D.Writes x → C.Writes (f x))
    → ((x : X) → D.Fits x → C.Fits (f x)) → ((a : A) → C.Writes a → D.Writes (back a))
    → ((a : A) → C.Fits a → D.Fits (back a))
    → ((x : X) → D.Writes x → C.words (f x) ≡ D.words x) → Exact (made f r) C
made_exact C f back round {r} {D} E same w g v h words = record {
  again = λ a rest wa fa o.
      let front : C.bytes a ≡ D.bytes (back a) = ap C.bytes (sym (round a fa)) ∙ same (back a) in
      let own : D.words (back a) ≡ true = sym (words (back a) (v a wa))
      ∙ ap C.words (round a fa) ∙ o in
      ap (λ (z : List ℕ). made f r (z ++ rest)) front
      ∙ made_again f E (back a) rest (v a wa) (h a fa) own
      ∙ ap (λ z. Some (z, rest)) (round a fa);
  takes = λ bs a rest e. made_takes C [] f E (λ x v. same x) w g words bs a rest e;
}

-- ---- one after the other

pub linked_exact : {A B : Type 0} {r : Read A} {q : A → Read B} {C : Spelling A}
    {D : A → Spelling B} → Exact r C → ((a : A) → Exact (q a) (D a))
    → Exact (linked r q) (link C D)
linked_exact {A} {B} {r} {q} {C} {D} R Q = record {
  again = λ x rest w f o.
      let own = both_true (C.words x.0) ((D x.0).words x.1) o in
      ap (linked r q) (append_assoc (C.bytes x.0) ((D x.0).bytes x.1) rest)
      ∙ rw (
        R.again x.0 ((D x.0).bytes x.1 ++ rest) w.0 f.0 own.0,
        (Q x.0).again x.1 rest w.1 f.1 own.1,
      ) refl;
  takes = λ bs x rest e.
      let y = bind_some (r bs)
      (λ (z : A × List ℕ). q z.0 z.1 >>= λ u. Some ((z.0, u.0), u.1)) (x, rest) e in
      let z = bind_some (q y.0.0 y.0.1) (λ (u : B × List ℕ). Some ((y.0.0, u.0), u.1)) (x, rest)
      y.2 in
      let a = R.takes bs y.0.0 y.0.1 y.1 in
      let b = (Q y.0.0).takes y.0.1 z.0.0 z.0.1 z.1 in
      let d = parts (y.0.0, z.0.0) x z.0.1 rest z.2 in
      let s = C.bytes y.0.0 in
      let t = (D y.0.0).bytes z.0.0 in
      let cut : bs ≡ (s ++ t) ++ z.0.1 = a.0 ∙ ap (λ (u : List ℕ). s ++ u) b.0
      ∙ sym (append_assoc s t z.0.1) in
      let moved : bs ≡ (s ++ t) ++ rest = cut ∙ ap (λ (u : List ℕ). (s ++ t) ++ u) d.1 in
      subst (λ (p : A × B). Taken (link C D) bs p rest) d.0
      (moved, (a.1, b.1), (a.2, b.2), are_true (C.words y.0.0) _ a.3 b.3);
}

pub both_exact : {A B : Type 0} {r : Read A} {q : Read B} {C : Spelling A} {D : Spelling B}
    → Exact r C → Exact q D → Exact (both r q) (pair C D)
both_exact R Q = linked_exact R (λ a. Q)

-- ---- what passes a test

pub kept_exact : {A : Type 0} {r : Read A} {C : Spelling A} (test : A → Bool) (W : A → Type 0)
    → ((a : A) → C.Writes a → test a ≡ true → W a) → ((a : A) → W a → C.Writes a)
    → ((a : A) → W a → test a ≡ true) → Exact r C
    → Exact (kept test r) (record {
      bytes = C.bytes;
      Writes = W;
      Fits = C.Fits;
      words = C.words;
    })
kept_exact {A} {r} {C} test W both was holds E = record {
  again = λ a rest w f o. rw (E.again a rest (was a w) f o, holds a w) refl;
  takes = λ bs a rest e.
      let x = bind_some (r bs) (λ (x : A × List ℕ). cond (test x.0) (Some x) None) (a, rest) e in
      let p = passed (test x.0.0) x.0 (a, rest) x.2 in
      let t = E.takes bs x.0.0 x.0.1 x.1 in
      subst (λ (y : A × List ℕ). (bs ≡ C.bytes y.0 ++ y.1) × W y.0 × C.Fits y.0
      × (C.words y.0 ≡ true)) p.1 (t.0, both x.0.0 t.1 p.0, t.2, t.3);
}

-- where the test is on words
abbrev pub tested : {A : Type 0} → (A → Bool) → Spelling A → Spelling A
tested test C = record {
  bytes = C.bytes;
  Writes = C.Writes;
  Fits = C.Fits;
  words = λ a. test a && C.words a;
}

pub tested_exact : {A : Type 0} {r : Read A} {C : Spelling A} (test : A → Bool) → Exact r C
    → Exact (kept test r) (tested test C)
tested_exact {A} {r} {C} test E = record {
  again = λ a rest w f o.
      let own = both_true (test a) (C.words a) o in
      rw (E.again a rest w f own.1, own.0) refl;
  takes = λ bs a rest e.
      let x = bind_some (r bs) (λ (x : A × List ℕ). cond (test x.0) (Some x) None) (a, rest) e in
      let p = passed (test x.0.0) x.0 (a, rest) x.2 in
      let t = E.takes bs x.0.0 x.0.1 x.1 in
      subst (λ (y : A × List ℕ). Taken (tested test C) bs y.0 y.1) p.1
      (t.0, t.1, t.2, are_true (test x.0.0) _ p.0 t.3);
}

-- ---- so many bytes

pub fixed_exact : {A : Type 0} (C : Spelling A) (k : ℕ) (decoded : List ℕ → A) (test : A → Bool)
    → ((a : A) → length (C.bytes a) ≡ k)
    → ((a : A) → C.Writes a → C.Fits a → decoded (C.bytes a) ≡ a)
    → ((a : A) → C.Writes a → C.Fits a → test a ≡ true)
    → ((a : A) → test a ≡ true → C.Writes a × C.Fits a) → ((a : A) → C.words a ≡ true)
    → Exact (fixed k decoded C.bytes test) C
fixed_exact {A} C k decoded test wide round holds said words = record {
  again = λ a rest w f o.
      let front : take k (C.bytes a ++ rest) ≡ C.bytes a = take_at (C.bytes a) rest k (wide a) in
      let back : drop k (C.bytes a ++ rest) ≡ rest = drop_at (C.bytes a) rest k (wide a) in
      let same : bytes_eq (C.bytes a) (C.bytes a) ≡ true =
      (bytes_eq-Decides (C.bytes a) (C.bytes a)).1 refl in
      rw (front, back, round a w f, same, holds a w f) refl;
  takes = λ bs a rest e.
      let x = decoded (take k bs) in
      let p = passed (bytes_eq (C.bytes x) (take k bs) && test x) (x, drop k bs) (a, rest) e in
      let b = both_true (bytes_eq (C.bytes x) (take k bs)) (test x) p.0 in
      let same : C.bytes x ≡ take k bs = (bytes_eq-Decides (C.bytes x) (take k bs)).0 b.0 in
      let cut : bs ≡ C.bytes x ++ drop k bs = sym (take-append-drop k bs)
      ∙ ap (λ (z : List ℕ). z ++ drop k bs) (sym same) in
      let wf = said x b.1 in
      subst (λ (y : A × List ℕ). Taken C bs y.0 y.1) p.1 (cut, wf.0, wf.1, words x);
}

-- ---- a byte says which

-- the reader reads what is spelled with this byte before it
pub record Alternative {A : Type 0} (C : Spelling A) (k : ℕ) (r : Read A) : Type 0 where
  pub takes : (bs : List ℕ) (a : A) (rest : List ℕ) → r bs ≡ Some (a, rest)
      → Taken C (k ∷ bs) a rest

-- each of these reads what is spelled with its place before it
pub data Alternatives {A : Type 0} (C : Spelling A) : ℕ → List (Read A) → Type 0 where
  no_more : {k : ℕ} → Alternatives C k []
  ◌or◌ : {k : ℕ} {r : Read A} {rs : List (Read A)} → Alternative C k r
      → Alternatives C (suc k) rs → Alternatives C k (r ∷ rs)

infixr 5 ◌or◌
chosen_takes : {A : Type 0} (C : Spelling A) (rs : List (Read A)) (first k : ℕ)
    → Alternatives C first rs → (bs : List ℕ) (a : A) (rest : List ℕ)
    → chosen rs k bs ≡ Some (a, rest) → (place : ℕ) → place ≡ first + k
    → Taken C (place ∷ bs) a rest
chosen_takes C _ first k no_more bs a rest e place p = absurd (none_some (a, rest) e)
chosen_takes C _ first zero (h or hs) bs a rest e place p =
    let q : first ≡ place = omega arith in
    subst (λ (z : ℕ). Taken C (z ∷ bs) a rest) q (h.takes bs a rest e)
chosen_takes C _ first (suc k) (h or hs) bs a rest e place p =
    let q : place ≡ suc first + k = omega arith in
    chosen_takes C _ (suc first) k hs bs a rest e place q

pub tagged_takes : {A : Type 0} (C : Spelling A) (rs : List (Read A)) → Alternatives C 0 rs
    → (bs : List ℕ) (a : A) (rest : List ℕ) → tagged rs bs ≡ Some (a, rest) → Taken C bs a rest
tagged_takes C rs h [] a rest e = absurd (none_some (a, rest) e)
tagged_takes C rs h (k ∷ bs) a rest e =
    let q : k ≡ 0 + k = omega arith in
    chosen_takes C rs 0 k h bs a rest e k q

-- an alternative
pub variant : {X A : Type 0} {C : Spelling A} {k : ℕ} (f : X → A) {r : Read X} {D : Spelling X}
    → Exact r D → ((x : X) → D.Writes x → C.bytes (f x) ≡ k ∷ D.bytes x)
    → ((x : X) → D.Writes x → C.Writes (f x)) → ((x : X) → D.Fits x → C.Fits (f x))
    → ((x : X) → D.Writes x → C.words (f x) ≡ D.words x) → Alternative C k (made f r)
variant {C = C} {k = k} f E same w g o =
    record { takes = λ bs a rest e. made_takes C (k ∷ []) f E same w g o bs a rest e }

-- one value of no more bytes
pub alone : {A : Type 0} {C : Spelling A} {k : ℕ} (b : A) → C.bytes b ≡ k ∷ [] → C.Writes b
    → C.Fits b → C.words b ≡ true → Alternative C k (is b)
alone {C = C} {k = k} b same w f o = record {
  takes = λ bs a rest e.
      made_takes C (k ∷ []) (λ x. b) nothing_exact (λ x v. same) (λ x v. w) (λ x v. f) (λ x v. o)
      bs a rest e;
}

-- no spelling begins another
pub apart : {A : Type 0} {r : Read A} {C : Spelling A} → Exact r C → (a b : A) (s t : List ℕ)
    → C.Writes a → C.Fits a → C.words a ≡ true → C.Writes b → C.Fits b → C.words b ≡ true
    → C.bytes a ++ s ≡ C.bytes b ++ t → (a ≡ b) × (s ≡ t)
apart {r = r} E a b s t wa fa oa wb fb ob e =
    parts a b s t (sym (E.again a s wa fa oa) ∙ ap r e ∙ E.again b t wb fb ob)
