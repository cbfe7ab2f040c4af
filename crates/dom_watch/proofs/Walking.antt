-- The first part that can't be watched, of parts that stand one after the other.
use Rattle.std.proofs.Common.{◌≡◌, ◌∙◌, ℕ, ◌+◌, ◌^◌, ◌<◌, Bool, true, false, not, ◌&&◌, ◌||◌, Option, Some, None, Result, Ok, Err, List, [], ◌∷◌, ◌++◌, length, min, refl, ap, sym, subst, arith, length-append}
use Rattle.std.specs.Prelude.{MatchOption}
use Rattle.std.specs.List.{position_from, list_all}
use Rattle.std.specs.Option.{option_map, option_or}
use Rattle.std.proofs.lemmas.List.Folds.{list_all-append}
use Rattle.model_terms.specs.Variables.{Var}
use Rattle.model_terms.specs.TermSorts.{is_program}
use Rattle.model_formulas.proofs.FaultPlaces.{place-append}
use Rattle.model_terms.specs.Stores.{Store}
use Rattle.model_formulas.specs.Formulas.{Named}
use Rattle.model_watch.specs.Watchable.{first_unwatchable}
use Rattle.dom_watch.specs.declared.faults.WatchFault.{WatchFault}
use Rattle.dom_watch.specs.declared.faults.WatchFault.TheVariants as w
use Rattle.dom_watch.specs.declared.flags.Unwatchable.{Unwatchable}
use Rattle.dom_watch.specs.Walked.{most, Walks, TellsPart}
use Rattle.dom_watch.specs.Watched.{Causes, TellsFirst}

-- the places of flags begin anywhere
shifted : (xs : List Bool) (n m : ℕ)
    → position_from not (n + m) xs ≡ option_map (λ k. n + k) (position_from not m xs)
shifted [] n m = refl
shifted (false ∷ xs) n m = refl
shifted (true ∷ xs) n m =
    let e : (n + m) + 1 ≡ n + (m + 1) = omega arith in
    ap (λ z. position_from not z xs) e ∙ shifted xs n (m + 1)

module _ (place : ℕ) (xs ys : List Bool) where
  second : position_from not 0 xs ≡ None → position_from not 0 (xs ++ ys)
      ≡ option_map (λ k. length xs + k) (position_from not 0 ys)
  second e =
      let z : 0 + length xs ≡ length xs + 0 = omega arith in
      place-append xs ys 0
      ∙ ap (λ o. option_or o (position_from not (0 + length xs) ys)) e
      ∙ ap (λ n. position_from not n ys) z
      ∙ shifted ys (length xs) 0

  -- first over these flags and then over those
  pub walks_then : (next : ℕ) (result : Result ℕ Unwatchable) → Walks place xs (Ok next)
      → Walks next ys result → Walks place (xs ++ ys) result
  walks_then next (Ok end) v w = (
    second v.0 ∙ ap (option_map (λ k. length xs + k)) w.0,
    omega (arith, v.1, w.1, length-append xs ys),
  )
  walks_then next (Err fault) v w =
      subst (λ o. MatchOption o ⊥ (λ k. fault.part ≡ min (place + k) most)) (sym (second v.0))
      (by_second (position_from not 0 ys) w)
    where
      by_second : (o : Option ℕ) → MatchOption o ⊥ (λ k. fault.part ≡ min (next + k) most)
          → MatchOption (option_map (λ k. length xs + k) o) ⊥
          (λ k. fault.part ≡ min (place + k) most)
      by_second None h = h
      by_second (Some k) h = omega (arith, h, v.1)

  -- where the first of them aren't all set, the others don't count
  pub walks_not : (fault : Unwatchable) → Walks place xs (Err fault)
      → Walks place (xs ++ ys) (Err fault)
  walks_not fault w =
      subst (λ o. MatchOption o ⊥ (λ k. fault.part ≡ min (place + k) most))
      (sym (place-append xs ys 0)) (by_first (position_from not 0 xs) w)
    where
      by_first : (o : Option ℕ) → MatchOption o ⊥ (λ k. fault.part ≡ min (place + k) most)
          → MatchOption (option_or o (position_from not (0 + length xs) ys)) ⊥
          (λ k. fault.part ≡ min (place + k) most)
      by_first None h = absurd h
      by_first (Some k) h = h

-- first over the flag of the formula itself
pub walks_first : (place next : ℕ) (own : Bool) (ys flags : List Bool)
    (result : Result ℕ Unwatchable) → flags ≡ own ∷ ys → Walks place (own ∷ []) (Ok next)
    → Walks next ys result → Walks place flags result
walks_first place next own ys flags result e v w =
    subst (λ fs. Walks place fs result) (sym e) (walks_then place (own ∷ []) ys next result v w)

-- where that is set
pub walks_on : (place next : ℕ) (ys flags : List Bool) (result : Result ℕ Unwatchable)
    → flags ≡ true ∷ ys → next ≡ min (place + 1) most → Walks next ys result
    → Walks place flags result
walks_on place next ys flags result e is w =
    walks_first place next true ys flags result e (refl, is) w

-- what is asked in turn
pub and_yes : (a b x r : Bool) → x ≡ true → x ≡ a → r ≡ b → (a && b) ≡ r
and_yes true b x r h e k = sym k
and_yes false b x r h e k = absurd (cc)

pub and_no : (a b x r : Bool) → x ≡ false → x ≡ a → r ≡ false → (a && b) ≡ r
and_no true b x r h e k = absurd (cc)
and_no false b x r h e k = sym k

pub or_yes : (a b x r : Bool) → x ≡ true → x ≡ a → r ≡ true → (a || b) ≡ r
or_yes true b x r h e k = sym k
or_yes false b x r h e k = absurd (cc)

pub or_no : (a b x r : Bool) → x ≡ false → x ≡ a → r ≡ b → (a || b) ≡ r
or_no true b x r h e k = absurd (cc)
or_no false b x r h e k = sym k

pub and_turned : (a b c x r : Bool) → (a && b) ≡ x → (x && c) ≡ r → (a && (b && c)) ≡ r
and_turned true b c x r e h = ap (λ z. z && c) e ∙ h
and_turned false b c x r e h = ap (λ z. z && c) e ∙ h

-- a place that is told in 32 bits is the place
pub exact : (o : Option ℕ) (part : ℕ) → MatchOption o ⊥ (λ k. part ≡ min k most) → part < 2 ^ 32
    → o ≡ Some part
exact None part h low = absurd h
exact (Some k) part h low = let e : k ≡ part = omega (arith, h, low) in ap Some e

-- the fault that tells of a part tells of the first one
pub told_first : (p : Named) (part : ℕ) (fault : WatchFault)
    → MatchOption (first_unwatchable p) ⊥ (λ k. part ≡ min k most) → TellsPart part fault
    → TellsFirst p (Err fault)
told_first p part (w.NotWatchable told) h t =
    subst (λ z. first_unwatchable p ≡ Some z) (sym t.0)
    (exact (first_unwatchable p) part h (omega (arith, t.0, t.1)))
told_first p part (w.Limit kind) h t = absurd t
told_first p part w.OutOfMemory h t = tt

-- and is a cause
pub first_cause : (A : Type 0) (p : Named) (store : Store) (nodes : ℕ) (fault : WatchFault)
    → TellsFirst p (Err fault) → Causes {A = A} p store nodes (Err fault)
first_cause A p store nodes (w.NotWatchable part) h = h
first_cause A p store nodes (w.Limit kind) h = absurd h
first_cause A p store nodes w.OutOfMemory h = tt

-- the cause of a fault, whatever is answered elsewhere
pub same_cause : (A B : Type 0) (p : Named) (store : Store) (nodes : ℕ) (fault : WatchFault)
    → Causes {A = A} p store nodes (Err fault) → Causes {A = B} p store nodes (Err fault)
same_cause A B p store nodes (w.NotWatchable part) h = h
same_cause A B p store nodes (w.Limit kind) h = h
same_cause A B p store nodes w.OutOfMemory h = h

-- the parts of a term have a logic variable where the term has
pub plain_parts : (xs ys : List Var)
    → list_all is_program (xs ++ ys) ≡ (list_all is_program xs && list_all is_program ys)
plain_parts xs ys = list_all-append is_program xs ys

pub ruleset plain_rules = (plain_parts)
