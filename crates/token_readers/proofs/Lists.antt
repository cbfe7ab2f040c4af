-- Lists with a mark between the items: the reader is right, and a loop reads them.
use Rattle.std.proofs.Common.{◌≡◌, ℕ, zero, suc, pred, ◌+◌, ◌-◌, ◌<◌, ◌≤◌, Bool, true, false, cond, List, [], ◌∷◌, ◌++◌, Option, Some, None, option_map, Ok, Err, refl, sym, ap, subst, ◌∙◌, append_assoc, append-nil, arith}
use Rattle.std.specs.Prelude as std
use Rattle.model_text.specs.Lexemes.{Lexeme, terminal}
use Rattle.token_readers.specs.Reading.{after, is_terminal}
use Rattle.token_readers.proofs.TerminalTests.{text_refl}
use Rattle.token_readers.specs.Reading.{At, Answer, Read, ◌>>=◌, ret, when, sep_list, many, the_terminal, begins, first, begun, is_none, not_begun, not_next, with_front}
use Rattle.token_readers.specs.declared.fault.ReadFault.{ReadFault}
use Rattle.token_readers.specs.declared.fault.ReadFault.TheVariants as faults
use Rattle.token_readers.specs.Giving.{Fails}
use Rattle.token_readers.proofs.Sound.{Sound, After, s_ret, s_then, s_deep, s_less, s_step, s_begins, begins_yes, when_yes}
use Rattle.token_readers.proofs.Only.{Only, OrDeep, deep, read, Prefix_free, o_last, o_then}

pub data SpellsList {A : Type 0} (sep : List ℕ) (L : A → List Lexeme → Type 0) : List A
    → List Lexeme → Type 0 where
  last : {a : A} {s : List Lexeme} → L a s → SpellsList sep L (a ∷ []) s
  more : {a : A} {xs : List A} {s t : List Lexeme} → L a s → SpellsList sep L xs t
      → SpellsList sep L (a ∷ xs) (s ++ (terminal sep ∷ t))

pub s_list : {A : Type 0} (sep : List ℕ) {item : Read A} {L : A → List Lexeme → Type 0} (m n : ℕ)
    → n ≤ m → Sound n item L → Sound n (sep_list sep item m) (SpellsList sep L)
unfolding sep_list
s_list sep {item} {L} zero n h S =
    s_less n 0 (omega arith) (s_deep (sep_list sep item zero) (SpellsList sep L) (λ ts. refl)
    (S.some.0 ∷ []) S.some.1 (last S.some.2) S.some.3)
s_list sep {item} {L} (suc m) n h S =
    s_then (SpellsList sep L) S λ a s la.
    s_step (pred n) n (omega arith) sep
    (s_then _ (s_list sep m (pred n) (omega arith) (s_less (pred n) n (omega arith) S)) λ xs t las.
    s_ret (pred n) (a ∷ xs) _ (more la (subst (λ (z : List Lexeme). SpellsList sep L xs z)
    (sym (append-nil t)) las)))
    (s_ret n (a ∷ []) _ (subst (λ (z : List Lexeme). SpellsList sep L (a ∷ []) z)
    (sym (append-nil s)) (last la)))

-- ---- what is spelled is read

not_true : (b : Bool) → std.not b ≡ true → b ≡ false
not_true false e = refl
not_true true e = absurd cc

pub ends_list : {A : Type 0} (sep : List ℕ) (r : Read A) (a : A) (rest : List Lexeme)
    → not_next sep rest ≡ true → OrDeep (when sep r (ret a) rest) a rest
ends_list sep r a [] st = read
ends_list sep r a (t ∷ ts) st = let h : is_terminal sep t
    ≡ false = not_true (is_terminal sep t) st in rw h read

mark_first : {A : Type 0} (sep : List ℕ) (r other : Read A) (ts : List Lexeme)
    → when sep r other (terminal sep ∷ ts) ≡ r ts
mark_first sep r other ts = when_yes sep r other (terminal sep) ts (text_refl sep)

or_map : {A : Type 0} (x : Answer (List A)) (a : A) (bs : List A) (rest : List Lexeme)
    → OrDeep x bs rest → OrDeep (x >>= λ z. Ok (a ∷ z.0, z.1)) (a ∷ bs) rest
or_map x a bs rest deep = deep
or_map x a bs rest read = read

or_first : {A : Type 0} (sep : List ℕ) (r other : Read A) (ts : List Lexeme) {a : A}
    {rest : List Lexeme} → OrDeep (r ts) a rest → OrDeep
    (when sep r other (terminal sep ∷ ts)) a rest
or_first sep r other ts {a} {rest} h = subst (λ (z : _). OrDeep z a rest)
    (sym (mark_first sep r other ts)) h

module _ {A : Type 0} (sep : List ℕ) (item : Read A) (L : A → List Lexeme → Type 0)
    (stops : List Lexeme → Bool) (O : Only item L stops)
    (at_sep : (ts : List Lexeme) → stops (terminal sep ∷ ts) ≡ true) where
  list_reads : (m : ℕ) (xs : List A) (s rest : List Lexeme) → SpellsList sep L xs s
      → stops rest ≡ true → not_next sep rest ≡ true → OrDeep
      (sep_list sep item m (s ++ rest)) xs rest
  unfolding sep_list
  list_reads zero xs s rest l st nx = deep
  list_reads (suc m) xs s rest (last {a = a} la) st nx = o_last _ rest O la st
      (ends_list sep _ (a ∷ []) rest nx)
  list_reads (suc m) xs s rest (more {a = a} {xs = bs} {t = t} la las) st nx =
      let h : OrDeep (sep_list sep item m (t ++ rest)) bs rest = list_reads m bs t rest las st nx in
      o_then _ _ rest O la (at_sep (t ++ rest)) (or_first sep _ (ret (a ∷ [])) (t ++ rest)
      (or_map (sep_list sep item m (t ++ rest)) a bs rest h))

-- items that need no look ahead
pub list_only : {A : Type 0} (sep : List ℕ) (item : Read A) (L : A → List Lexeme → Type 0)
    → Only item L Prefix_free → (m : ℕ) → Only (sep_list sep item m) (SpellsList sep L)
    (not_next sep)
list_only sep item L O m = record {
  only = λ xs s rest l st. list_reads sep item L Prefix_free O
      (λ ts. refl) m xs s rest l refl st;
}

-- ---- items as long as one begins

-- each item is spelled by its first lexeme and the rest
pub data SpellsMany {X A : Type 0} (f : Lexeme → Option X) (L : A → List Lexeme → Type 0) : List A
    → List Lexeme → Type 0 where
  none_left : SpellsMany f L [] []
  one_more : {a : A} {xs : List A} {s u : List Lexeme} (t : Lexeme) (x : X) → f t ≡ Some x
      → L a (t ∷ s) → SpellsMany f L xs u → SpellsMany f L (a ∷ xs) (t ∷ (s ++ u))

pub s_many : {X A : Type 0} (f : Lexeme → Option X) (item : X → Read A)
    (L : A → List Lexeme → Type 0) (m n : ℕ) → n ≤ m
    → ((t : Lexeme) (x : X) → f t ≡ Some x → Sound n (item x) (After t L))
    → Sound n (many f item m) (SpellsMany f L)
unfolding many
s_many f item L zero n h S = s_less n 0 (omega arith) (s_deep (many f item zero) (SpellsMany f L)
    (λ ts. refl) [] [] none_left tt)
s_many f item L (suc m) n h S =
    s_begins (pred n) n (omega arith) f _ (ret []) (SpellsMany f L)
    (λ t x e. s_then _ (s_less (pred n) n (omega arith) (S t x e)) λ a s la.
    s_then _ (s_many f item L m (pred n) (omega arith) (λ t x e. s_less (pred n) n (omega arith)
    (S t x e))) λ xs u las.
    s_ret (pred n) (a ∷ xs) _ (one_more t x e la (subst (λ (z : List Lexeme). SpellsMany f L xs z)
    (sym (append-nil u)) las)))
    (s_ret n [] _ none_left)

-- nothing that begins an item comes next
ends_many : {X A : Type 0} (f : Lexeme → Option X) (r : X → Read (List A)) (rest : List Lexeme)
    → not_begun f rest ≡ true → OrDeep (begins f r (ret []) rest) [] rest
ends_many f r [] st = read
ends_many {X} f r (t ∷ ts) st = by_option (f t) st
  where
    by_option : (o : Option X) → is_none o ≡ true → OrDeep
        (begun (option_map (λ x. (x, ts)) o) r (ret [] (t ∷ ts))) [] (t ∷ ts)
    by_option None st = read
    by_option (Some x) st = absurd cc

first_read : {X A : Type 0} (f : Lexeme → Option X) (r : X → Read A) (other : Read A) (t : Lexeme)
    (ts : List Lexeme) (x : X) {a : A} {rest : List Lexeme}
    → f t ≡ Some x → OrDeep (r x ts) a rest → OrDeep (begins f r other (t ∷ ts)) a rest
first_read f r other t ts x {a} {rest} e h = subst (λ (z : _). OrDeep z a rest)
    (sym (begins_yes f r other t ts x e)) h

module _ {X A : Type 0} (f : Lexeme → Option X) (item : X → Read A) (L : A → List Lexeme → Type 0)
    (O : (t : Lexeme) (x : X) → f t ≡ Some x → Only (item x) (After t L) Prefix_free) where
  many_reads : (m : ℕ) (xs : List A) (s rest : List Lexeme) → SpellsMany f L xs s
      → not_begun f rest ≡ true → OrDeep (many f item m (s ++ rest)) xs rest
  unfolding many
  many_reads zero xs s rest l st = deep
  many_reads (suc m) xs s rest none_left st = ends_many f _ rest st
  many_reads (suc m) xs s rest (one_more {a = a} {xs = bs} {s = p} {u = u} t x e la las) st =
      first_read f _ (ret []) t ((p ++ u) ++ rest) x e
      (o_then _ u rest (O t x e) la refl (or_map (many f item m (u ++ rest)) a bs rest
      (many_reads m bs u rest las st)))

  pub many_only : (m : ℕ) → Only (many f item m) (SpellsMany f L) (not_begun f)
  many_only m = record { only = λ xs s rest l st. many_reads m xs s rest l st }

-- ---- a loop

abbrev done : {A : Type 0} → List A × List Lexeme → Answer (List A)
done x = Ok x

regroup : {A : Type 0} (front : List A) (a : A) (r : Answer (List A))
    → with_front front (r >>= λ x. Ok (a ∷ x.0, x.1)) ≡ with_front (front ++ a ∷ []) r
regroup {A} front a (Ok x) = ap (λ (xs : List A). done (xs, x.1))
    (sym (append_assoc front (a ∷ []) x.0))
regroup front a (Err f) = refl

pub goes_on : {A : Type 0} (sep : List ℕ) (item : Read A) (front : List A) (most i : ℕ)
    (ts : List Lexeme) (a : A) (behind next : List Lexeme) (total : Answer (List A))
    → i < most → item ts ≡ Ok (a, behind) → after sep behind ≡ Some next
    → with_front front (sep_list sep item (most - i) ts) ≡ total
    → with_front (front ++ a ∷ []) (sep_list sep item (most - (i + 1)) next) ≡ total
unfolding sep_list
goes_on sep item front most i ts a behind next total lt h n so_far =
    let k : most - i ≡ suc (most - (i + 1)) = omega arith in
    let one : with_front front (sep_list sep item (most - i) ts)
    ≡ with_front (front ++ a ∷ []) (sep_list sep item (most - (i + 1)) next) =
    rw (k, h, n) (regroup front a (sep_list sep item (most - (i + 1)) next)) in
    sym one ∙ so_far

pub breaks : {A : Type 0} (sep : List ℕ) (item : Read A) (e : ReadFault) (front : List A)
    (most i : ℕ) (ts : List Lexeme) (total : Answer (List A))
    → i < most → Fails e (item ts) → with_front front (sep_list sep item (most - i) ts) ≡ total
    → Fails e total
unfolding sep_list
breaks sep item faults.Memory front most i ts total lt h so_far = tt
breaks sep item (faults.Text k) front most i ts total lt h so_far =
    let j : most - i ≡ suc (most - (i + 1)) = omega arith in
    let one : with_front front (sep_list sep item (most - i) ts) ≡ Err (At k) = rw (j, h) refl in
    sym so_far ∙ one

pub is_done : {A : Type 0} (sep : List ℕ) (item : Read A) (front : List A) (most i : ℕ)
    (ts : List Lexeme) (a : A) (behind : List Lexeme) (total : Answer (List A))
    → i < most → item ts ≡ Ok (a, behind) → after sep behind ≡ None
    → with_front front (sep_list sep item (most - i) ts) ≡ total
    → total ≡ Ok (front ++ a ∷ [], behind)
unfolding sep_list
is_done sep item front most i ts a behind total lt h n so_far =
    let k : most - i ≡ suc (most - (i + 1)) = omega arith in
    let one : with_front front (sep_list sep item (most - i) ts)
    ≡ Ok (front ++ a ∷ [], behind) = rw (k, h, n) refl in
    sym so_far ∙ one

pub nothing_yet : {A : Type 0} (r : Answer (List A)) → with_front [] r ≡ r
nothing_yet (Ok x) = refl
nothing_yet (Err e) = refl

-- the same for items as long as one begins
module _ {X A : Type 0} (f : Lexeme → Option X) (item : X → Read A) where
  pub many_goes_on : (front : List A) (most i : ℕ) (ts : List Lexeme) (x : X) (behind : List Lexeme)
      (a : A) (next : List Lexeme) (total : Answer (List A))
      → i < most → first f ts ≡ Some (x, behind) → item x behind ≡ Ok (a, next)
      → with_front front (many f item (most - i) ts) ≡ total
      → with_front (front ++ a ∷ []) (many f item (most - (i + 1)) next) ≡ total
  unfolding many
  many_goes_on front most i ts x behind a next total lt b h so_far =
      let k : most - i ≡ suc (most - (i + 1)) = omega arith in
      let one : with_front front (many f item (most - i) ts)
      ≡ with_front (front ++ a ∷ []) (many f item (most - (i + 1)) next) =
      rw (k, b, h) (regroup front a (many f item (most - (i + 1)) next)) in
      sym one ∙ so_far

  pub many_breaks : (e : ReadFault) (front : List A) (most i : ℕ) (ts : List Lexeme) (x : X)
      (behind : List Lexeme) (total : Answer (List A))
      → i < most → first f ts ≡ Some (x, behind) → Fails e (item x behind)
      → with_front front (many f item (most - i) ts) ≡ total → Fails e total
  unfolding many
  many_breaks faults.Memory front most i ts x behind total lt b h so_far = tt
  many_breaks (faults.Text k) front most i ts x behind total lt b h so_far =
      let j : most - i ≡ suc (most - (i + 1)) = omega arith in
      let one : with_front front (many f item (most - i) ts) ≡ Err (At k) = rw (j, b, h) refl in
      sym so_far ∙ one

  pub many_done : (front : List A) (most i : ℕ) (ts : List Lexeme) (total : Answer (List A))
      → i < most → first f ts ≡ None → with_front front (many f item (most - i) ts) ≡ total
      → total ≡ Ok (front, ts)
  unfolding many
  many_done front most i ts total lt b so_far =
      let k : most - i ≡ suc (most - (i + 1)) = omega arith in
      let one : with_front front (many f item (most - i) ts)
      ≡ Ok (front, ts) = rw (k, b) (ap (λ (z : List A). done (z, ts)) (append-nil front)) in
      sym so_far ∙ one

-- a terminal that comes first, as a first lexeme that stands for something
abbrev pub behind : List Lexeme → Bool × List Lexeme
behind rest = (true, rest)

pub first_after : (text : List ℕ) (ts : List Lexeme) (o : Option (List Lexeme)) → o ≡ after text ts
    → first (the_terminal text) ts ≡ option_map behind o
first_after text [] o e = rw e refl
first_after text (t ∷ ts) o e = rw e (by_test (is_terminal text t))
  where
    by_test : (b : Bool) → option_map (λ x. (x, ts)) (cond b (Some true) None)
        ≡ option_map behind (cond b (Some ts) None)
    by_test true = refl
    by_test false = refl
