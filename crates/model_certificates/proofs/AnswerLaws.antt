-- The answer on the bytes that have come is the one that is defined.
use Rattle.model_limits.specs.Limits.{standard_limits}
use Rattle.std.proofs.Common.{◌≡◌, ℕ, ◌<◌, ◌≤◌, Bool, true, false, cond, List, [], ◌∷◌, ◌++◌, length, take, drop, Option, Some, None, refl, sym, ap, subst, ◌∙◌, append_assoc, arith, length-append, bytes_eq}
use Rattle.std.specs.Prelude.{nat_le, nat_lt}
use Rattle.std.proofs.lemmas.Bool.{leb-true, le-leb, lt-leb, leb-false, ltb-false, le-ltb}
use Rattle.std.proofs.lemmas.List.{take_at, drop_at, take-append-drop, length-take}
use Rattle.std.proofs.lemmas.Slice.Eq.{bytes_eq-Decides}
use Rattle.model_certificates.specs.Numbers.{number_bytes, IsNumber}
use Rattle.model_certificates.specs.Certificates.{Item, head, proof_step, end, payload, item_bytes, IsWritableItem, ItemFits, IsItem, mark}
use Rattle.model_certificates.specs.Places.{Place, start, steps, ended, failed, version_at, MayStand, before, Begins, IsBad, other_mark, too_long, no_item, out_of_place, after_end, failed_before, Waits}
use Rattle.model_certificates.specs.Reading.{number_at}
use Rattle.model_certificates.specs.Answers.{Answer, gives, bad, nothing_yet, whole_item, may_stand, judged, framed, answer}
use Rattle.model_certificates.proofs.Exact.{Exact, Always}
use Rattle.model_certificates.proofs.Leaves.{numbers, number_exact}
use Rattle.model_certificates.proofs.ItemReaders.{whole_again, whole_takes, stands_said, stands_holds}

N : Exact number_at (numbers Always)
N = number_exact Always (λ n f. tt)

-- what stands behind the mark, and what is answered
pub data Frame (place : Place) : List ℕ → Answer → Type 0 where
  an_item : (item : Item) (left : List ℕ) → IsItem (version_at place) item → MayStand place item
      → Frame place (item_bytes item ++ left) (gives item left)
  misplaced : (item : Item) (left : List ℕ) → IsItem (version_at place) item
      → (MayStand place item → ⊥) → Frame place (item_bytes item ++ left) bad
  nonsense : (said left : List ℕ) → length said ≤ standard_limits.file_bytes
      → ((item : Item) → IsItem (version_at place) item → said ≡ payload item → ⊥)
      → Frame place (number_bytes (length said) ++ (said ++ left)) bad
  long : (n : ℕ) (left : List ℕ) → IsNumber n → standard_limits.file_bytes < n
      → Frame place (number_bytes n ++ left) bad
  too_few : (bs : List ℕ) → Frame place bs nothing_yet

some_none : {A : Type 0} (a : A) → Some a ≡ None → ⊥
some_none a e = cc

true_not : {b : Bool} → b ≡ true → b ≡ false → ⊥
true_not e f = (let h : true ≡ false = sym e ∙ f in cc)

module _ (place : Place) (bs : List ℕ) where
  abbrev v : ℕ
  v = version_at place

  -- all of the item is there
  by_item : (said left : List ℕ) → bs ≡ number_bytes (length said) ++ (said ++ left)
      → length said ≤ standard_limits.file_bytes → (o : Option Item) → whole_item v said ≡ o
      → Frame place bs (judged place o left)
  by_item said left cut short None e =
      subst (λ z. Frame place z bad) (sym cut) (nonsense said left short
      (λ item it same. some_none item (sym (whole_again v item it.written it.fits)
      ∙ ap (whole_item v) (sym same) ∙ e)))
  by_item said left cut short (Some item) e = by_place (may_stand place item) refl
    where
      t : (said ≡ payload item) × IsWritableItem v item × ItemFits item
      t = whole_takes v said item e

      it : IsItem v item
      it = record {
        written = t.1;
        fits = t.2;
        short = subst (λ (z : List ℕ). length z ≤ standard_limits.file_bytes) t.0 short;
      }

      cut2 : item_bytes item ++ left ≡ bs
      cut2 = append_assoc (number_bytes (length (payload item))) (payload item) left
          ∙ ap (λ (z : List ℕ). number_bytes (length z) ++ (z ++ left)) (sym t.0) ∙ sym cut

      by_place : (b : Bool) → may_stand place item ≡ b
          → Frame place bs (cond b (gives item left) bad)
      by_place true m =
          subst (λ z. Frame place z (gives item left)) cut2
          (an_item item left it (stands_said place item m))
      by_place false m =
          subst (λ z. Frame place z bad) cut2
          (misplaced item left it (λ h. true_not (stands_holds place item h) m))

  by_number : (o : Option (ℕ × List ℕ)) → number_at bs ≡ o → Frame place bs (framed place o)
  by_number None e = too_few bs
  by_number (Some x) e = by_bound (nat_le x.0 standard_limits.file_bytes) refl
    where
      t : (bs ≡ number_bytes x.0 ++ x.1) × Always x.0 × IsNumber x.0 × (true ≡ true)
      t = N.takes bs x.0 x.1 e

      by_length : x.0 ≤ standard_limits.file_bytes → (b : Bool) → nat_le x.0 (length x.1) ≡ b
          → Frame place bs (cond b (judged place (whole_item v (take x.0 x.1)) (drop x.0 x.1))
          nothing_yet)
      by_length fits true l =
          let enough : x.0 ≤ length x.1 = leb-true _ _ l in
          let len : length (take x.0 x.1) ≡ x.0 = omega (arith, length-take x.0 x.1) in
          let cut : bs ≡ number_bytes (length (take x.0 x.1)) ++ (take x.0 x.1 ++ drop x.0 x.1) =
          t.0 ∙ ap (λ (z : List ℕ). number_bytes x.0 ++ z) (sym (take-append-drop x.0 x.1))
          ∙ ap (λ (k : ℕ). number_bytes k ++ (take x.0 x.1 ++ drop x.0 x.1)) (sym len) in
          by_item (take x.0 x.1) (drop x.0 x.1) cut (omega arith) (whole_item v (take x.0 x.1)) refl
      by_length fits false l = too_few bs

      by_bound : (b : Bool) → nat_le x.0 standard_limits.file_bytes ≡ b
          → Frame place bs (cond b (cond (nat_le x.0 (length x.1))
          (judged place (whole_item v (take x.0 x.1)) (drop x.0 x.1)) nothing_yet) bad)
      by_bound true b = by_length (leb-true _ _ b) (nat_le x.0 (length x.1)) refl
      by_bound false b =
          subst (λ z. Frame place z bad) (sym t.0) (long x.0 x.1 t.2 (leb-false _ _ b))

  pub frame : Frame place bs (framed place (number_at bs))
  frame = by_number (number_at bs) refl

-- ---- and the other way

-- a whole item
pub framed_whole : (place : Place) (said left : List ℕ) → length said ≤ standard_limits.file_bytes
    → framed place (number_at (number_bytes (length said) ++ (said ++ left)))
    ≡ judged place (whole_item (version_at place) said) left
framed_whole place said left short =
    let number : number_at (number_bytes (length said) ++ (said ++ left))
    ≡ Some (length said, said ++ left) =
    N.again (length said) (said ++ left) tt (omega arith) refl in
    let bound : nat_le (length said) standard_limits.file_bytes ≡ true = le-leb _ _ short in
    let there : nat_le (length said) (length (said ++ left)) ≡ true =
    le-leb _ _ (omega (arith, length-append said left)) in
    let front : take (length said) (said ++ left) ≡ said = take_at said left (length said) refl in
    let back : drop (length said) (said ++ left) ≡ left = drop_at said left (length said) refl in
    rw (number, bound, there, front, back) refl

pub framed_item : (place : Place) (item : Item) (left : List ℕ) → IsItem (version_at place) item
    → framed place (number_at (item_bytes item ++ left))
    ≡ cond (may_stand place item) (gives item left) bad
framed_item place item left it =
    ap (λ z. framed place (number_at z))
    (append_assoc (number_bytes (length (payload item))) (payload item) left)
    ∙ framed_whole place (payload item) left it.short
    ∙ ap (λ z. judged place z left) (whole_again (version_at place) item it.written it.fits)

none_or : (place : Place) (said left : List ℕ) → length said ≤ standard_limits.file_bytes
    → ((item : Item) → IsItem (version_at place) item → said ≡ payload item → ⊥) → (o : Option Item)
    → whole_item (version_at place) said ≡ o → judged place o left ≡ bad
none_or place said left short isnt None e = refl
none_or place said left short isnt (Some item) e =
    let t = whole_takes (version_at place) said item e in
    absurd (isnt item (record {
      written = t.1;
      fits = t.2;
      short = subst (λ (z : List ℕ). length z ≤ standard_limits.file_bytes) t.0 short;
    }) t.0)

pub framed_nonsense : (place : Place) (said left : List ℕ)
    → length said ≤ standard_limits.file_bytes
    → ((item : Item) → IsItem (version_at place) item → said ≡ payload item → ⊥)
    → framed place (number_at (number_bytes (length said) ++ (said ++ left))) ≡ bad
framed_nonsense place said left short isnt =
    framed_whole place said left short ∙ none_or place said left short isnt
    (whole_item (version_at place) said) refl

pub framed_long : (place : Place) (n : ℕ) (left : List ℕ) → IsNumber n
    → standard_limits.file_bytes < n → framed place (number_at (number_bytes n ++ left)) ≡ bad
framed_long place n left small big =
    let number : number_at (number_bytes n ++ left) ≡ Some (n, left) =
    N.again n left tt small refl in
    let bound : nat_le n standard_limits.file_bytes ≡ false = lt-leb n _ big in
    rw (number, bound) refl

-- ---- the answer, place by place

pub answer_behind : (v n last : ℕ) (bs : List ℕ)
    → answer (steps v n last) bs ≡ framed (steps v n last) (number_at bs)
unfolding answer
answer_behind v n last bs = refl

pub answer_start : (bs : List ℕ) → answer start (mark ++ bs) ≡ framed start (number_at bs)
unfolding answer
answer_start bs =
    let four : nat_lt (length (mark ++ bs)) 4 ≡ false =
    le-ltb _ _ (omega (arith, length-append mark bs)) in
    rw four refl

pub answer_mark : (four left : List ℕ) → length four ≡ 4 → (four ≡ mark → ⊥)
    → answer start (four ++ left) ≡ bad
unfolding answer
answer_mark four left len isnt =
    let enough : nat_lt (length (four ++ left)) 4 ≡ false =
    le-ltb _ _ (omega (arith, length-append four left, len)) in
    let front : take 4 (four ++ left) ≡ four = take_at four left 4 len in
    let other : bytes_eq four mark ≡ false = by_test (bytes_eq four mark) refl in
    rw (enough, front, other) refl
  where
    by_test : (b : Bool) → bytes_eq four mark ≡ b → b ≡ false
    by_test true e = absurd (isnt ((bytes_eq-Decides four mark).0 e))
    by_test false e = refl

-- what is answered, with what it says
pub data Told (place : Place) (rest : List ℕ) : Answer → Type 0 where
  is_given : (item : Item) (left : List ℕ) → Begins place rest item left
      → Told place rest (gives item left)
  is_bad : IsBad place rest → Told place rest bad
  is_nothing : Told place rest nothing_yet

abbrev behind_front : (place : Place) → List ℕ → List ℕ
behind_front place bs = before place ++ bs

from_frame : (place : Place) (bs : List ℕ) (a : Answer) → Frame place bs a
    → Told place (before place ++ bs) a
from_frame place _ _ (an_item item left it h) =
    is_given item left (record { is_item = it; stands = h; bytes = refl })
from_frame place _ _ (misplaced item left it isnt) = is_bad (out_of_place place item left it isnt)
from_frame place _ _ (nonsense said left few isnt) = is_bad (no_item place said left few isnt)
from_frame place _ _ (long n left small big) = is_bad (too_long place n left small big)
from_frame place _ _ (too_few bs) = is_nothing

told_marked : (bs : List ℕ) → Told start bs (answer start bs)
unfolding answer
told_marked bs = by_length (nat_lt (length bs) 4) refl
  where
    by_mark : 4 ≤ length bs → (b : Bool) → bytes_eq (take 4 bs) mark ≡ b
        → Told start bs (cond b (framed start (number_at (drop 4 bs))) bad)
    by_mark le true e =
        let same : take 4 bs ≡ mark = (bytes_eq-Decides (take 4 bs) mark).0 e in
        let cut : mark ++ drop 4 bs ≡ bs = ap (λ (z : List ℕ). z ++ drop 4 bs) (sym same)
        ∙ take-append-drop 4 bs in
        subst (λ z. Told start z (framed start (number_at (drop 4 bs)))) cut
        (from_frame start (drop 4 bs) (framed start (number_at (drop 4 bs)))
        (frame start (drop 4 bs)))
    by_mark le false e =
        let four : length (take 4 bs) ≡ 4 = omega (arith, length-take 4 bs) in
        subst (λ z. Told start z bad) (take-append-drop 4 bs)
        (is_bad (other_mark (take 4 bs) (drop 4 bs) four
        (λ same. true_not ((bytes_eq-Decides (take 4 bs) mark).1 same) e)))

    by_length : (b : Bool) → nat_lt (length bs) 4 ≡ b
        → Told start bs (cond b nothing_yet (cond (bytes_eq (take 4 bs) mark)
        (framed start (number_at (drop 4 bs))) bad))
    by_length true e = is_nothing
    by_length false e = by_mark (ltb-false _ _ e) (bytes_eq (take 4 bs) mark) refl

-- what is answered is so
pub told : (place : Place) (bs : List ℕ) → Told place bs (answer place bs)
unfolding answer
told start bs = told_marked bs
told (steps v n last) bs =
    from_frame (steps v n last) bs (framed (steps v n last) (number_at bs))
    (frame (steps v n last) bs)
told ended [] = is_nothing
told ended (b ∷ bs) = is_bad (after_end b bs)
told failed bs = is_bad (failed_before bs)

-- and what is so is answered
stands_then : (place : Place) (item : Item) (left : List ℕ) → MayStand place item
    → cond (may_stand place item) (gives item left) bad ≡ gives item left
stands_then place item left h = rw (stands_holds place item h) refl

pub begins_answered : (place : Place) (rest : List ℕ) (item : Item) (left : List ℕ)
    → Begins place rest item left → answer place rest ≡ gives item left
begins_answered start rest item left b =
    ap (answer start) b.bytes ∙ answer_start (item_bytes item ++ left)
    ∙ framed_item start item left b.is_item ∙ stands_then start item left b.stands
begins_answered (steps v n last) rest item left b =
    ap (answer (steps v n last)) b.bytes ∙ answer_behind v n last (item_bytes item ++ left)
    ∙ framed_item (steps v n last) item left b.is_item
    ∙ stands_then (steps v n last) item left b.stands
begins_answered ended rest item left b = absurd (none_stands item b.stands)
  where
    none_stands : (item : Item) → MayStand ended item → ⊥
    none_stands (head t) h = h
    none_stands (proof_step p s) h = h
    none_stands end h = h
begins_answered failed rest item left b = absurd (none_stands item b.stands)
  where
    none_stands : (item : Item) → MayStand failed item → ⊥
    none_stands (head t) h = h
    none_stands (proof_step p s) h = h
    none_stands end h = h

misplaced_then : (place : Place) (item : Item) (left : List ℕ) → (MayStand place item → ⊥)
    → cond (may_stand place item) (gives item left) bad ≡ bad
misplaced_then place item left isnt = by_test (may_stand place item) refl
  where
    by_test : (b : Bool) → may_stand place item ≡ b → cond b (gives item left) bad ≡ bad
    by_test true e = absurd (isnt (stands_said place item e))
    by_test false e = refl

-- at the end whatever comes is bad, and behind what is bad everything
ended_bad : (bs : List ℕ) → 4 ≤ length bs → answer ended bs ≡ bad
unfolding answer
ended_bad [] le = absurd (omega (arith, le))
ended_bad (b ∷ bs) le = refl

failed_bad : (bs : List ℕ) → answer failed bs ≡ bad
unfolding answer
failed_bad bs = refl

framed_answer : (place : Place) (bs : List ℕ) → 4 ≤ length bs
    → framed place (number_at bs) ≡ bad → answer place (before place ++ bs) ≡ bad
framed_answer start bs le e = answer_start bs ∙ e
framed_answer (steps v n last) bs le e = answer_behind v n last bs ∙ e
framed_answer ended bs le e = ended_bad bs le
framed_answer failed bs le e = failed_bad bs

four_first : (n : ℕ) (bs : List ℕ) → 4 ≤ length (number_bytes n ++ bs)
four_first n bs = omega (arith, length-append (number_bytes n) bs)

pub bad_answered : (place : Place) (rest : List ℕ) → IsBad place rest → answer place rest ≡ bad
unfolding answer
bad_answered _ _ (other_mark four left len isnt) = answer_mark four left len isnt
bad_answered _ _ (too_long place n left small big) =
    framed_answer place (number_bytes n ++ left) (four_first n left)
    (framed_long place n left small big)
bad_answered _ _ (no_item place said left few isnt) =
    framed_answer place (number_bytes (length said) ++ (said ++ left))
    (four_first (length said) (said ++ left)) (framed_nonsense place said left few isnt)
bad_answered _ _ (out_of_place place item left it isnt) =
    framed_answer place (item_bytes item ++ left)
    (subst (λ (z : List ℕ). 4 ≤ length z) (sym (append_assoc (number_bytes (length (payload item)))
    (payload item) left)) (four_first (length (payload item)) (payload item ++ left)))
    (framed_item place item left it ∙ misplaced_then place item left isnt)
bad_answered _ _ (after_end byte left) = refl
bad_answered _ _ (failed_before rest) = refl

-- where nothing is answered, more has to come
gives_nothing : (item : Item) (left : List ℕ) → gives item left ≡ nothing_yet → ⊥
gives_nothing item left e = cc

bad_nothing : bad ≡ nothing_yet → ⊥
bad_nothing e = cc

pub nothing_waits : (place : Place) (rest : List ℕ) → answer place rest ≡ nothing_yet
    → Waits place rest
nothing_waits place rest e = record {
  no_more = λ item left b. gives_nothing item left
      (sym (begins_answered place rest item left b) ∙ e);
  not_bad = λ b. bad_nothing (sym (bad_answered place rest b) ∙ e);
}
