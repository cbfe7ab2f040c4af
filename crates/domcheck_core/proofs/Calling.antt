-- The procedure that a run calls, found by its place.
use Rattle.std.proofs.Common.{◌≡◌, ℕ, zero, suc, ◌<◌, ◌≤◌, Bool, true, false, cond, List, [], ◌∷◌, length, map, Option, Some, None, option_map, refl, sym, ap, ◌∙◌, bytes_eq, slice_get, MatchOption, arith}
use Rattle.std.specs.Prelude.{nat_lt}
use Rattle.std.specs.List.{find, position, position_or_len}
use Rattle.std.proofs.lemmas.List.Folds.{find_at}
use Rattle.std.proofs.lemmas.Bool.{ltb-true, ltb-false}
use Rattle.model_shapes.specs.Values.{Value}
use Rattle.model_formulas.specs.Formulas.{Named}
use Rattle.model_commands.specs.Theories.{ProcedureOf, procedure_named}
use Rattle.model_answers.specs.Arguments.{arguments_of, with_arguments}
use Rattle.theory_syntax.specs.declared.theories.Procedure.{Procedure}
use Rattle.theory_syntax.specs.Theories.{procedure_of}
use Rattle.domcheck_core.specs.Calls.{IsPlaceOf}

module _ (name : List ℕ) where
  abbrev pub has_name : Procedure → Bool
  has_name x = bytes_eq name x.name

  -- found among what procedures stand for
  seen : (xs : List Procedure) → procedure_named name (map procedure_of xs) ≡ option_map
      procedure_of (find has_name xs)
  seen [] = refl
  seen (x ∷ xs) = first_seen (bytes_eq name x.name) (seen xs)
    where
      first_seen : (b : Bool) → procedure_named name (map procedure_of xs) ≡ option_map
          procedure_of (find has_name xs)
          → cond b (Some (procedure_of x))
          (procedure_named name (map procedure_of xs)) ≡ option_map procedure_of
          (cond b (Some x) (find has_name xs))
      first_seen true h = refl
      first_seen false h = h

  -- nothing stands beyond the length
  beyond : (xs : List Procedure) (k : ℕ) → length xs ≤ k → slice_get xs k ≡ None
  beyond [] k h = refl
  beyond (x ∷ xs) zero h = absurd (omega (arith, h))
  beyond (x ∷ xs) (suc k) h = beyond xs k (omega (arith, h))

  -- no place, nothing found
  pub uncalled : (xs : List Procedure) → position has_name xs ≡ None
      → procedure_named name (map procedure_of xs) ≡ None
  uncalled xs e = seen xs ∙ ap (option_map procedure_of)
      (find_at has_name xs ∙ past (nat_lt (position_or_len has_name xs) (length xs)) refl e)
    where
      past : (b : Bool) → nat_lt (position_or_len has_name xs) (length xs) ≡ b
          → cond b (Some (position_or_len has_name xs)) None ≡ None
          → slice_get xs (position_or_len has_name xs) ≡ None
      past true h f = absurd cc
      past false h f = beyond xs (position_or_len has_name xs)
          (ltb-false (position_or_len has_name xs) (length xs) h)

  within : (xs : List Procedure) (k : ℕ) → k < length xs → (f : Procedure)
      × (slice_get xs k ≡ Some f)
  within [] k h = absurd (omega (arith, h))
  within (x ∷ xs) zero h = (x, refl)
  within (x ∷ xs) (suc k) h = within xs k (omega (arith, h))

  -- what stands at the place is found
  pub placed : (xs : List Procedure) (k : ℕ) → position has_name xs ≡ Some k → IsPlaceOf name xs k
  placed xs k e =
      let at = place (nat_lt (position_or_len has_name xs) (length xs)) refl e in
      let lt : k < length xs = omega (
        arith,
        at.0,
        ltb-true (position_or_len has_name xs)
            (length xs) at.1,
      ) in
      let f = within xs k lt in (
        f.0,
        f.1,
        seen xs ∙ ap (option_map procedure_of)
            (find_at has_name xs ∙ ap (slice_get xs) at.0 ∙ f.1),
      )
    where
      place : (b : Bool) → nat_lt (position_or_len has_name xs) (length xs) ≡ b
          → cond b (Some (position_or_len has_name xs)) None ≡ Some k
          → (position_or_len has_name xs ≡ k)
          × (nat_lt (position_or_len has_name xs) (length xs) ≡ true)
      place true l q = (cc, l)
      place false l q = absurd cc

  -- the two together
  pub by_place : (xs : List Procedure) (r : Option ℕ) → r ≡ position has_name xs
      → MatchOption r (procedure_named name (map procedure_of xs) ≡ None) (IsPlaceOf name xs)
  by_place xs None e = uncalled xs (sym e)
  by_place xs (Some k) e = placed xs k (sym e)

-- the procedure at the place with the arguments that were read is what is called
pub reads : (name : List ℕ) (xs : List Procedure) (k : ℕ) → IsPlaceOf name xs k → (g : Procedure)
    → Some g ≡ slice_get xs k
    → (words : List (List ℕ)) (values : List Value) → Some values ≡ arguments_of
    (procedure_of g).params words
    → (f : Procedure) × (slice_get xs k ≡ Some f)
    × (with_arguments (procedure_named name (map procedure_of xs)) words ≡ Some
    (procedure_of f, values))
reads name xs k p g e words values h =
    let same : Some p.0 ≡ Some g = sym p.1 ∙ sym e in
    let here : p.0 ≡ g = cc in (
      g,
      sym e,
      ap (λ (z : Option (ProcedureOf Named)). with_arguments z words)
          (p.2 ∙ ap (λ (z : Procedure). Some (procedure_of z)) here)
          ∙ ap (λ (z : Option (List Value)). option_map (λ vs. (procedure_of g, vs)) z) (sym h),
    )

-- the procedure at the place is the first of the name
pub asked : (name : List ℕ) (xs : List Procedure) (k : ℕ) → IsPlaceOf name xs k → (g : Procedure)
    → Some g ≡ slice_get xs k
    → procedure_named name (map procedure_of xs) ≡ Some (procedure_of g)
asked name xs k p g e =
    let same : Some p.0 ≡ Some g = sym p.1 ∙ sym e in
    let here : p.0 ≡ g = cc in
    p.2 ∙ ap (λ (z : Procedure). Some (procedure_of z)) here
