-- Observers are told a change, one after the other.
use Rattle.std.proofs.Common.{◌≡◌, ℕ, zero, suc, ◌+◌, ◌<◌, ◌≤◌, List, [], ◌∷◌, ◌++◌, length, take, drop, get_or, set, map, refl, sym, ap, subst, ◌∙◌, arith, append-nil, add-one, Result, Ok, Err, OnErr}
use Rattle.std.proofs.lemmas.List.{take_all, drop_all, get_or-map, map-set, length-map}
use Rattle.model_machine.specs.Changes.{Change}
use Rattle.run_trace.specs.Listeners.{Listener, told, told_all, ToldSome}

-- those before i were told
pub record SoFar (change : Change) (before : List Listener) (i : ℕ) (now : List Listener)
    : Type 0 where
  pub so_far : now ≡ map (told change) (take i before) ++ drop i before

one_more : (change : Change) (before now : List Listener) (i : ℕ) (d : Listener)
    → i < length before → now ≡ map (told change) (take i before) ++ drop i before
    → set now i (told change (get_or now i d))
    ≡ map (told change) (take (suc i) before) ++ drop (suc i) before
one_more change [] now i d lt e = absurd (omega arith)
one_more change (v ∷ vs) now zero d lt e = rw e refl
one_more change (v ∷ vs) now (suc i) d lt e =
    rw e (ap (λ xs. told change v ∷ xs) (one_more change vs _ i d (omega arith) refl))

pub listener_is : (a b : Listener) → a.face ≡ b.face → a.after ≡ b.after → a.says ≡ b.says → a ≡ b
listener_is a b f t s = λ j. record { face = f j; after = t j; says = s j }

-- in a list of observers
module _ {O : Type 0} (f : O → Listener) (items : List O) (i : ℕ) (one new : O)
    (lt : i < length items) (is : one ≡ get_or items i one) where
  at_i : get_or (map f items) i (f one) ≡ f one
  at_i = get_or-map f items i one (f one) lt ∙ ap f (sym is)

  pub one_told : (change : Change) (before : List Listener) → f new ≡ told change (f one)
      → length before ≡ length items → SoFar change before i (map f items)
      → SoFar change before (i + 1) (map f (set items i new))
  one_told change before e same so_far = record {
    so_far = rw add-one (map-set f items i new
        ∙ ap (set (map f items) i) (e ∙ ap (told change) (sym at_i))
        ∙ one_more change before (map f items) i (f one) (omega (arith, same, lt)) so_far.so_far);
  }

  stays : (xs : List Listener) (k : ℕ) (d : Listener) → k < length xs
      → set xs k (get_or xs k d) ≡ xs
  stays [] k d h = absurd (omega (arith, h))
  stays (v ∷ vs) zero d h = refl
  stays (v ∷ vs) (suc k) d h = ap (λ xs. v ∷ xs) (stays vs k d (omega (arith, h)))

  -- one that wasn't told is as it was
  pub one_stays : f new ≡ f one → map f (set items i new) ≡ map f items
  one_stays e = map-set f items i new
      ∙ (ap (set (map f items) i) (e ∙ sym at_i)
      ∙ stays (map f items) i (f one) (omega (arith, lt, length-map items f)))

pub none_told : (change : Change) (before : List Listener) → SoFar change before 0 before
none_told change before = record { so_far = refl }

pub all_told : (change : Change) (before now : List Listener) (i : ℕ) → length before ≤ i
    → SoFar change before i now → now ≡ map (told change) before
all_told change before now i le so_far = so_far.so_far
    ∙ rw (take_all i before le, drop_all i before le) (append-nil (map (told change) before))

-- CHANGES IN ORDER
told_last : (cs : List Change) (c : Change) (v : Listener)
    → told c (told_all cs v) ≡ told_all (cs ++ c ∷ []) v
told_last [] c v = refl
told_last (d ∷ cs) c v = told_last cs c (told d v)

pub told_none : (before : List Listener) → before ≡ map (told_all []) before
told_none [] = refl
told_none (v ∷ vs) = λ j. v ∷ told_none vs j

each_last : (cs : List Change) (c : Change) (vs : List Listener)
    → map (told c) (map (told_all cs) vs) ≡ map (told_all (cs ++ c ∷ [])) vs
each_last cs c [] = refl
each_last cs c (v ∷ vs) = λ j. told_last cs c v j ∷ each_last cs c vs j

-- each was told one change more
pub told_more : (cs : List Change) (c : Change) (before now new : List Listener)
    → now ≡ map (told_all cs) before → new ≡ map (told c) now
    → new ≡ map (told_all (cs ++ c ∷ [])) before
told_more cs c before now new h e = e ∙ ap (map (told c)) h ∙ each_last cs c before

take_front : (cs ds : List Change) → take (length cs) (cs ++ ds) ≡ cs
take_front [] ds = refl
take_front (c ∷ cs) ds = ap (λ xs. c ∷ xs) (take_front cs ds)

-- where all were told the changes, each was told some of them and more
pub told_first : (cs ds : List Change) (before : List Listener)
    → ToldSome (cs ++ ds) before (map (told_all cs) before)
told_first cs ds [] = tt
told_first cs ds (v ∷ vs) =
    ((length cs, ap (λ xs. told_all xs v) (sym (take_front cs ds))), told_first cs ds vs)

-- and where some were told one more
pub told_one_more : (cs : List Change) (c : Change) (n : ℕ) (before : List Listener)
    → ToldSome (cs ++ c ∷ []) before (map (told c) (take n (map (told_all cs) before))
    ++ drop n (map (told_all cs) before))
told_one_more cs c zero [] = tt
told_one_more cs c (suc n) [] = tt
told_one_more cs c zero (v ∷ vs) = (
  (length cs, ap (λ xs. told_all xs v) (sym (take_front cs (c ∷ [])))),
  told_one_more cs c zero vs,
)
told_one_more cs c (suc n) (v ∷ vs) = (
  (
    length (cs ++ c ∷ []),
    told_last cs c v
        ∙ ap (λ xs. told_all xs v)
        (sym (take_all (length (cs ++ c ∷ [])) (cs ++ c ∷ []) (omega arith))),
  ),
  told_one_more cs c n vs,
)

pub told_all_first : (cs : List Change) (before now : List Listener)
    → now ≡ map (told_all cs) before → ToldSome cs before now
told_all_first cs before now h =
    subst (ToldSome cs before) (sym h)
    (subst (λ xs. ToldSome xs before (map (told_all cs) before)) (append-nil cs)
    (told_first cs [] before))

pub told_some_more : (cs : List Change) (c : Change) (n : ℕ) (before now new : List Listener)
    → now ≡ map (told_all cs) before → new ≡ map (told c) (take n now) ++ drop n now
    → ToldSome (cs ++ c ∷ []) before new
told_some_more cs c n before now new h e =
    subst (ToldSome (cs ++ c ∷ []) before)
    (sym (e ∙ ap (λ xs. map (told c) (take n xs) ++ drop n xs) h))
    (told_one_more cs c n before)

pub on_err : {A E : Type 0} (r : Result A E) (P : Type 0) → P → OnErr r P
on_err (Ok x) P p = tt
on_err (Err e) P p = p
