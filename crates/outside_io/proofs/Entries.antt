-- Books on a shelf: one more at the end, and the count of the one that was found raised.
use Rattle.std.proofs.Common.{◌≡◌, ◌≢◌, ◌⊎◌, inl, inr, ℕ, ◌≤◌, ◌<◌, Bool, true, false, cond, ltb, eqb, eq-eqb}
use Rattle.std.proofs.Common.{List, [], ◌∷◌, ◌++◌, length, get_or, set, Option, Some, None, position, find}
use Rattle.std.proofs.Common.{refl, ap, sym, ◌∙◌, arith, bytes_eq}
use Rattle.std.specs.List.{position_or_len, slice_get}
use Rattle.std.specs.Prelude.{Contains}
use Rattle.std.specs.Option.{option_or}
use Rattle.std.proofs.lemmas.Option.{slice_get-get_or, slice_get_past}
use Rattle.std.proofs.lemmas.List.Folds.{find_at, find-set, find_past, find-append}
use Rattle.std.proofs.lemmas.List.Quantifiers.{position-Some}
use Rattle.std.proofs.lemmas.Slice.Eq.{bytes_eq-Decides}
use borrow.Author.Tests.{ltb-false}
use Rattle.outside_io.specs.Causes.{next_count}
use Rattle.outside_io.specs.Shelves.{Entry, has_name, bytes_in, faults_in}

-- two names are the same or not
same_or_not : (t : Bool) (a b : List ℕ) → bytes_eq a b ≡ t → (a ≡ b) ⊎ (a ≢ b)
same_or_not true a b e = inl ((bytes_eq-Decides a b).0 e)
same_or_not false a b e = inr (λ same. let p = (bytes_eq-Decides a b).1 same in cc)

-- the index that a search found, from the form in which it is computed
index_is : (t : Bool) (a b : ℕ) → cond t (Some a) None ≡ Some b → a ≡ b
index_is true a b e = cc
index_is false a b e = absurd cc

-- a search that found nothing went past the end
none_below : (t : Bool) (a b : ℕ) → t ≡ ltb a b → cond t (Some a) None ≡ None → b ≤ a
none_below true a b is e = absurd cc
none_below false a b is e = ltb-false a b (sym is)

-- with no place for the name, no book has it
pub find-None : (xs : List Entry) (name : List ℕ)
    → position (has_name name) xs ≡ None → find (has_name name) xs ≡ None
find-None xs name none =
    find_at (has_name name) xs
    ∙ slice_get_past xs _ (none_below _ (position_or_len (has_name name) xs) (length xs) refl none)

-- the book at the place of the name is the one that has it
pub find-Some : (xs : List Entry) (name : List ℕ) (i : ℕ) (entry : Entry)
    → position (has_name name) xs ≡ Some i → entry ≡ get_or xs i entry
    → find (has_name name) xs ≡ Some entry
find-Some xs name i entry at is =
    find_at (has_name name) xs
    ∙ ap (slice_get xs) (index_is _ (position_or_len (has_name name) xs) i at)
    ∙ slice_get-get_or xs i entry (position-Some (has_name name) xs i entry at).0
    ∙ ap Some (sym is)

-- `ys` are the books `xs`, but that the count of the one named `name` is one greater
pub record Raised (xs ys : List Entry) (name : List ℕ) (entry new : Entry) : Type 0 where
  pub found : find (has_name name) xs ≡ Some entry
  pub now : find (has_name name) ys ≡ Some new
  pub others : (other : List ℕ) → other ≢ name → find (has_name other) ys ≡ find (has_name other) xs
  pub bytes : new.bytes ≡ entry.bytes
  pub count : new.faults ≡ next_count entry.faults

-- a book has no name but its own
differs_name : (t : Bool) (a name other : List ℕ) → bytes_eq a other ≡ t → a ≡ name → other ≢ name
    → bytes_eq a other ≡ false
differs_name true a name other e is differs =
    absurd (differs (sym ((bytes_eq-Decides a other).0 e) ∙ is))
differs_name false a name other e is differs = e

-- a write at the place of the name raises the count of its book alone
pub Raised-set : (xs : List Entry) (name : List ℕ) (i : ℕ) (entry new : Entry)
    → position (has_name name) xs ≡ Some i → entry ≡ get_or xs i entry
    → new.name ≡ entry.name → new.bytes ≡ entry.bytes → new.faults ≡ next_count entry.faults
    → Raised xs (set xs i new) name entry new
Raised-set xs name i entry new at is same bytes count =
    let place = position-Some (has_name name) xs i entry at in
    let named : bytes_eq entry.name name ≡ true = ap (has_name name) is ∙ place.1 in
    let index : i ≡ position_or_len (has_name name) xs =
    sym (index_is _ (position_or_len (has_name name) xs) i at) in
    record {
      found = find-Some xs name i entry at is;
      now =
          find-set (has_name name) xs i new index place.0
          (ap (λ n. bytes_eq n name) same ∙ named);
      others = λ other differs.
          let not : bytes_eq entry.name other ≡ false =
          differs_name _ entry.name name other refl
          ((bytes_eq-Decides entry.name name).0 named) differs in
          find_past (has_name other) xs i new entry (sym (ap (has_name other) is) ∙ not)
          (ap (λ n. bytes_eq n other) same ∙ not);
      bytes = bytes;
      count = count;
    }

-- what is under each name stays
pub Raised-books : (xs ys : List Entry) (name : List ℕ) (entry new : Entry)
    → Raised xs ys name entry new → (other : List ℕ)
    → bytes_in (find (has_name other) ys) ≡ bytes_in (find (has_name other) xs)
Raised-books xs ys name entry new raised other =
    elim (same_or_not _ other name refl) [
      | inl same ↦
          rw (same, raised.now, raised.found) (ap Some raised.bytes)
      | inr differs ↦ ap bytes_in (raised.others other differs)
    ]

-- no count falls
pub Raised-later : (xs ys : List Entry) (name : List ℕ) (entry new : Entry) (further : ℕ)
    → entry.faults ≤ new.faults → Raised xs ys name entry new → (other : List ℕ)
    → faults_in further (find (has_name other) xs) ≤ faults_in further (find (has_name other) ys)
Raised-later xs ys name entry new further le raised other =
    elim (same_or_not _ other name refl) [
      | inl same ↦ rw (same, raised.now, raised.found) le
      | inr differs ↦ rw (raised.others other differs) (omega arith)
    ]

-- no bytes, no book
no_entry : (found : Option Entry) → bytes_in found ≡ None → found ≡ None
no_entry None none = refl
no_entry (Some entry) none = absurd cc

-- or nothing adds nothing
or_none : (found : Option Entry) → option_or found None ≡ found
or_none None = refl
or_none (Some entry) = refl

-- a book added at the end is under its name, where that wasn't there
pub find-push_here : (xs : List Entry) (name : List ℕ) (entry : Entry) → entry.name ≡ name
    → bytes_in (find (has_name name) xs) ≡ None
    → find (has_name name) (xs ++ entry ∷ []) ≡ Some entry
find-push_here xs name entry is none =
    find-append (has_name name) xs (entry ∷ [])
    ∙ rw (no_entry _ none, (bytes_eq-Decides entry.name name).1 is) refl

-- under any other name stays what was there
pub find-push_elsewhere : (xs : List Entry) (name other : List ℕ) (entry : Entry)
    → entry.name ≡ name → other ≢ name
    → find (has_name other) (xs ++ entry ∷ []) ≡ find (has_name other) xs
find-push_elsewhere xs name other entry is differs =
    find-append (has_name other) xs (entry ∷ [])
    ∙ rw (differs_name _ entry.name name other refl is differs) (or_none (find (has_name other) xs))

-- a call that equals no element of the list isn't in it
pub not_listed : (calls : List ℕ) (call : ℕ)
    → ((k d : ℕ) → 0 ≤ k → k < length calls → eqb (get_or calls k d) call ≡ false)
    → Contains calls call → ⊥
not_listed calls call differs there =
    let no = differs there.0 call (omega arith) there.1 in
    let yes = eq-eqb (get_or calls there.0 call) call there.2 in cc
