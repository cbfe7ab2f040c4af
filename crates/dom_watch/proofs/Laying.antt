-- A table that is laid row by row.
use Rattle.std.proofs.Common.{◌≡◌, ◌∙◌, inl, inr, ⊎_elim, ℕ, zero, suc, ◌+◌, ◌-◌, ◌≤◌, ◌<◌, List, [], ◌∷◌, ◌++◌, Option, Some, None, length, map, take, drop, get_or, set, refl, sym, ap, subst, arith, append_assoc, append-nil, length-append}
use Rattle.std.specs.List.{All, slice_get}
use Rattle.std.proofs.lemmas.Bool.{cases_eq}
use Rattle.std.proofs.lemmas.List.{get_or_append_left, length-drop, length-map, length-set, map-append, map-set, take-append-le, drop-append-le, take_more, take_more_set, set-get_or, take-map, take_all, get_or-map, drop_at}
use Rattle.std.proofs.lemmas.List.Elements.{All-nil, All-append, All-set, All-push, All-weaker, All-head, All-tail, All-get_or}
use Rattle.std.proofs.lemmas.Option.{get_or_from_slice_get, slice_get_within, slice_get-get_or}
use Rattle.model_shapes.specs.Trees.{Trees, WellFormed}
use Rattle.model_shapes.specs.Shapes.{holes}
use Rattle.model_groves.specs.Sizes.{size}
use Rattle.model_heap.specs.Lists.{count, head_of, after}
use Rattle.model_heap.specs.Entries.{rows_of, roots, uses, kids_of}
use Rattle.model_heap.proofs.Moves.{one_here, entry_absent}
use Rattle.model_heap.proofs.Neighbours.{count-append, after-here}
use Rattle.model_heap.proofs.Kinship.{kids_use, roots_use, Kin-rows_of}
use Rattle.dom_watch.specs.declared.rows.Row.{Row}
use Rattle.model_heap.proofs.Words.{uses-are}
use Rattle.model_watch.specs.Watching.{Among}
use Rattle.dom_watch.specs.Rows.{Shows}
use Rattle.dom_watch.specs.Tables.{numbers_of, StandsIn, IsLaid, HasLaid, Tabled}
use Rattle.dom_watch.proofs.Breadth.{Visited, roots_visited, kids_visited, visited_fit}
use Rattle.dom_watch.proofs.Standing.{grove_stands, shown, among_take}
use Rattle.dom_watch.proofs.Serving.{rows_serve}

-- THE CHILDREN of a number while their rows come to the end: those that are there, and those to
-- come
pub record Following (g : Trees) (n : ℕ) (old rows : List Row) (child : Option ℕ) : Type 0 where
  pub more : List Row
  pub left : List ℕ
  pub is : rows ≡ old ++ more
  pub kids : kids_of (rows_of g n) ≡ numbers_of more ++ left
  pub next : child ≡ head_of left
  pub stand : All (StandsIn g) more

pub follow_start : (g : Trees) (n : ℕ) (old : List Row) (child : Option ℕ)
    → child ≡ head_of (kids_of (rows_of g n)) → Following g n old old child
follow_start g n old child e = record {
  more = [];
  left = kids_of (rows_of g n);
  is = sym (append-nil old);
  kids = refl;
  next = e;
  stand = All-nil (StandsIn g);
}

-- the number that is next comes first among those to come
pub record Coming (g : Trees) (n : ℕ) (old rows : List Row) (number : ℕ) : Type 0 where
  pub more : List Row
  pub left : List ℕ
  pub is : rows ≡ old ++ more
  pub kids : kids_of (rows_of g n) ≡ numbers_of more ++ number ∷ left
  pub stand : All (StandsIn g) more

headed : (number : ℕ) (left : List ℕ) → Some number ≡ head_of left
    → (rest : List ℕ) × (left ≡ number ∷ rest)
headed number [] e = absurd (cc)
headed number (x ∷ xs) e = let s : x ≡ number = cc in (xs, ap (λ z. z ∷ xs) s)

pub coming : (g : Trees) (n : ℕ) (old rows : List Row) (number : ℕ) (child : Option ℕ)
    → Following g n old rows child → child ≡ Some number → Coming g n old rows number
coming g n old rows number child f e =
    let h = headed number f.left (sym e ∙ f.next) in record {
      more = f.more;
      left = h.0;
      is = f.is;
      kids = f.kids ∙ ap (λ z. numbers_of f.more ++ z) h.1;
      stand = f.stand;
    }

module _ (g : Trees) (n : ℕ) (old rows : List Row) (number : ℕ) (c : Coming g n old rows number)
  where
    counted : count number (kids_of (rows_of g n))
        ≡ count number (numbers_of c.more) + count number (number ∷ c.left)
    counted = ap (count number) c.kids
        ∙ count-append number (numbers_of c.more) (number ∷ c.left)

    -- it is a child
    pub coming_kid : 1 ≤ count number (kids_of (rows_of g n))
    coming_kid = omega (arith, counted, one_here number number refl)

    pub coming_known : 1 ≤ uses number g
    coming_known = omega (arith, coming_kid, kids_use None g n number)

    -- so many are still to come
    pub coming_left : length rows + length (number ∷ c.left)
        ≡ length old + length (kids_of (rows_of g n))
    coming_left =
        let a = ap length c.is ∙ length-append old c.more in
        let b = ap length c.kids ∙ length-append (numbers_of c.more) (number ∷ c.left) in
        omega (arith, a, b, length-map c.more (λ (row : Row). row.number))

    -- its row comes to the end
    pub follow_on : ((m : ℕ) → uses m g ≤ 1) → (row : Row) (next : Option ℕ) → row.number ≡ number
        → StandsIn g row → next ≡ after number (kids_of (rows_of g n))
        → Following g n old (rows ++ row ∷ []) next
    follow_on once row next same stands e = record {
      more = c.more ++ row ∷ [];
      left = c.left;
      is = ap (λ z. z ++ row ∷ []) c.is ∙ append_assoc old c.more (row ∷ []);
      kids = c.kids ∙ sym (append_assoc (numbers_of c.more) (number ∷ []) c.left)
          ∙ ap (λ z. z ++ c.left) (ap (λ z. numbers_of c.more ++ z ∷ []) (sym same)
          ∙ sym (map-append (λ (row : Row). row.number) c.more (row ∷ [])));
      next = e ∙ ap (after number) c.kids
          ∙ after-here number (numbers_of c.more) c.left (omega (
            arith,
            counted,
            one_here number number refl,
            (Kin-rows_of g once).once n number,
          ));
      stand = All-push (StandsIn g) c.more row c.stand stands;
    }

nothing_left : (left : List ℕ) → None ≡ head_of left → left ≡ []
nothing_left [] e = refl
nothing_left (x ∷ xs) e = absurd (cc)

pub follow_end : (g : Trees) (place first end : ℕ) (old rows : List Row) (row : Row)
    (child : Option ℕ) → Following g row.number old rows child → child ≡ None
    → slice_get old place ≡ Some row → first ≡ length old → end ≡ length rows
    → HasLaid g place old (set rows place (record row { first = first; end = end }))
follow_end g place first end old rows row child f e was from to = record {
  row = row;
  more = f.more;
  was = was;
  is = (λ j. set (f.is j) place (record row { first = from j; end = past j }));
  kids = sym (f.kids ∙ ap (λ z. numbers_of f.more ++ z) (nothing_left f.left (sym e ∙ f.next))
      ∙ append-nil (numbers_of f.more));
  stand = f.stand;
}
  where
    past : end ≡ length old + length f.more
    past = to ∙ ap length f.is ∙ length-append old f.more

-- what stands at a row is a node
pub stands_known : (g : Trees) (row : Row) → StandsIn g row → 1 ≤ uses row.number g
stands_known g row w = elim (cases_eq (uses row.number g) 0) [
  | inl z ↦ absurd (let a = entry_absent None g row.number z in let b = w.is in cc)
  | inr d ↦ omega (arith, d)
]

-- the row at a place
pub row_known : (g : Trees) (rows : List Row) (i : ℕ) (row : Row) → i < length rows
    → All (StandsIn g) rows → row ≡ get_or rows i row → 1 ≤ uses row.number g
row_known g rows i row low stand is =
    stands_known g row (subst (StandsIn g) (sym is) (All-get_or (StandsIn g) rows i row low stand))

pub row_at : (rows : List Row) (i : ℕ) (row : Row) → i < length rows → row ≡ get_or rows i row
    → slice_get rows i ≡ Some row
row_at rows i row low is = slice_get-get_or rows i row low ∙ ap Some (sym is)

-- a number of a list stands in it
in_list : (xs : List ℕ) (i : ℕ) → i < length xs → 1 ≤ count (get_or xs i 0) xs
in_list [] i low = absurd (omega (arith, low))
in_list (x ∷ xs) zero low = omega (arith, one_here x x refl)
in_list (x ∷ xs) (suc i) low = omega (arith, in_list xs i (omega (arith, low)))

-- THE ROOTS: each is a node
pub root_known : (g : Trees) (i : ℕ) → i < length (roots g) → 1 ≤ uses (get_or (roots g) i 0) g
root_known g i low =
    omega (arith, in_list (roots g) i low, roots_use (get_or (roots g) i 0) g)

-- and its row comes to the end
pub root_on : (rows : List Row) (numbers : List ℕ) (i : ℕ) (row : Row) → i < length numbers
    → numbers_of rows ≡ take i numbers → row.number ≡ get_or numbers i 0
    → numbers_of (rows ++ row ∷ []) ≡ take (i + 1) numbers
root_on rows numbers i row low e is =
    map-append (λ (row : Row). row.number) rows (row ∷ [])
    ∙ ap (λ z. z ++ row.number ∷ []) e
    ∙ ap (λ z. take i numbers ++ z ∷ []) is
    ∙ sym (take_more numbers i 0 low)

-- THE TABLE while it is laid: the rows before the place have their children
pub record Laid (g : Trees) (first : ℕ) (rows : List Row) (place : ℕ) : Type 0 where
  pub within : place ≤ length rows
  pub fits : first ≤ length rows
  pub begins : take first (numbers_of rows) ≡ roots g
  pub visited : Visited g (numbers_of rows) place
  pub stand : All (StandsIn g) rows
  pub laid : All (IsLaid (numbers_of rows) g) (take place rows)

-- a row that is laid stays so where numbers come to the end
laid_more : (numbers more : List ℕ) (g : Trees) (row : Row) → IsLaid numbers g row
    → IsLaid (numbers ++ more) g row
laid_more numbers more g row l = record {
  up = l.up;
  within = omega (arith, l.within, length-append numbers more);
  kids =
      ap (take (row.end - row.first)) (drop-append-le row.first numbers more
      (omega (arith, l.up, l.within)))
      ∙ take-append-le (row.end - row.first) (drop row.first numbers) more (short row.first row.end
      numbers l.up l.within) ∙ l.kids;
}
  where
    short : (a b : ℕ) (xs : List ℕ) → a ≤ b → b ≤ length xs → b - a ≤ length (drop a xs)
    short a b xs h k = omega (arith, h, k, length-drop a xs)

module _ (g : Trees) (once : (n : ℕ) → uses n g ≤ 1) (first place : ℕ) (old new : List Row)
    (l : Laid g first old place) (h : HasLaid g place old new)
  where
    low : place < length old
    low = slice_get_within old place h.row h.was

    is_row : get_or old place h.row ≡ h.row
    is_row = get_or_from_slice_get old place h.row h.row h.was

    abbrev written : Row
    written = record h.row { first = length old; end = length old + length h.more }

    numbers_now : numbers_of new ≡ numbers_of old ++ kids_of (rows_of g h.row.number)
    numbers_now =
        let f = λ (row : Row). row.number in
        let xs = old ++ h.more in
        let there : place < length xs = omega (arith, low, length-append old h.more) in
        let at : h.row.number ≡ get_or (map f xs) place 0 =
        sym (get_or-map f xs place h.row 0 there
        ∙ ap f (get_or_append_left old h.more h.row place low ∙ is_row)) in
        ap numbers_of h.is
        ∙ map-set f xs place written
        ∙ ap (set (map f xs) place) at
        ∙ set-get_or (map f xs) place 0
        ∙ map-append f old h.more
        ∙ ap (λ z. numbers_of old ++ z) h.kids

    sized : length new ≡ length old + length h.more
    sized =
        ap length h.is ∙ length-set (old ++ h.more) place written ∙ length-append old h.more

    counted_kids : length (kids_of (rows_of g h.row.number)) ≡ length h.more
    counted_kids = sym (ap length h.kids) ∙ length-map h.more (λ (row : Row). row.number)

    numbers_length : (rows : List Row) → length (numbers_of rows) ≡ length rows
    numbers_length rows = length-map rows (λ (row : Row). row.number)

    stands_written : StandsIn g written
    stands_written =
        let w = subst (StandsIn g) is_row (All-get_or (StandsIn g) old place h.row low l.stand) in
        record { entry = w.entry; is = w.is; name = w.name; list = w.list }

    laid_written : IsLaid (numbers_of old ++ kids_of (rows_of g h.row.number)) g written
    laid_written =
        let kids = kids_of (rows_of g h.row.number) in
        record {
          up = omega arith;
          within = omega (
            arith,
            counted_kids,
            numbers_length old,
            length-append (numbers_of old) kids,
          );
          kids =
              ap (take (length old + length h.more - length old))
              (drop_at (numbers_of old) kids (length old) (numbers_length old))
              ∙ take_all (length old + length h.more - length old) kids
              (omega (arith, counted_kids));
        }

    front : take (place + 1) new ≡ take place old ++ written ∷ []
    front =
        ap (take (place + 1)) h.is
        ∙ take_more_set (old ++ h.more) place written (omega (arith, low, length-append old h.more))
        ∙ ap (λ z. z ++ written ∷ []) (take-append-le place old h.more (omega (arith, low)))

    pub laid_on : Laid g first new (place + 1)
    laid_on =
        let kids = kids_of (rows_of g h.row.number) in
        let at : get_or (numbers_of old) place 0 ≡ h.row.number =
        get_or-map (λ (row : Row). row.number) old place h.row 0 low
        ∙ ap (λ (row : Row). row.number) is_row in
        record {
          within = omega (arith, low, sized);
          fits = omega (arith, l.fits, sized);
          begins =
              ap (take first) numbers_now
              ∙ take-append-le first (numbers_of old) kids
              (omega (arith, l.fits, numbers_length old))
              ∙ l.begins;
          visited = subst (λ z. Visited g z (place + 1)) (sym numbers_now)
              (kids_visited g once (numbers_of old) place h.row.number l.visited
              (omega (arith, low, numbers_length old)) at);
          stand = subst (All (StandsIn g)) (sym h.is) (All-set (StandsIn g) (old ++ h.more) place
              written stands_written (All-append (StandsIn g) old h.more l.stand h.stand));
          laid = subst (λ z. All (IsLaid z g) (take (place + 1) new)) (sym numbers_now)
              (subst (All (IsLaid (numbers_of old ++ kids) g)) (sym front)
              (All-push (IsLaid (numbers_of old ++ kids) g) (take place old) written
              (All-weaker (IsLaid (numbers_of old) g) (IsLaid (numbers_of old ++ kids) g)
              (λ row w. laid_more (numbers_of old) kids g row w) (take place old) l.laid)
              laid_written));
        }

-- the rows of the roots, with which it begins
pub laid_start : (g : Trees) → ((n : ℕ) → uses n g ≤ 1) → (rows : List Row)
    → numbers_of rows ≡ roots g → All (StandsIn g) rows → Laid g (length rows) rows 0
laid_start g once rows e stand = record {
  within = omega arith;
  fits = omega arith;
  begins = take_all (length rows) (numbers_of rows)
      (omega (arith, length-map rows (λ (row : Row). row.number))) ∙ e;
  visited = subst (λ z. Visited g z 0) (sym e) (roots_visited g once);
  stand = stand;
  laid = All-nil (IsLaid (numbers_of rows) g);
}

-- there are no more rows than nodes
pub laid_fit : (g : Trees) (first : ℕ) (rows : List Row) (place : ℕ) → Laid g first rows place
    → length rows ≤ size g
laid_fit g first rows place l =
    omega (
      arith,
      visited_fit g (numbers_of rows) place l.visited,
      length-map rows (λ (row : Row). row.number),
    )

among_all : (P : Row → Type 0) (rows : List Row) (x : Row) → All P rows → Among rows x → P x
among_all P [] x a m = absurd m
among_all P (y ∷ rows) x a m = ⊎_elim (λ e. subst P (sym e) (All-head P y rows a))
    (λ q. among_all P rows x (All-tail P y rows a) q) m

-- THE TABLE at the end
pub laid_end : (g : Trees) (first : ℕ) (rows : List Row) (place : ℕ) → WellFormed g
    → holes g ≡ 0 → Laid g first rows place → length rows ≤ place → Tabled rows first g
laid_end g first rows place well whole l past = record {
  within = l.fits;
  shows = shows;
  serves = rows_serve rows g well stand (take first rows) (among_take first rows) shows;
}
  where
    stand : (row : Row) → Among rows row → StandsIn g row
    stand row m = among_all (StandsIn g) rows row l.stand m

    every : All (IsLaid (numbers_of rows) g) rows
    every = subst (All (IsLaid (numbers_of rows) g)) (take_all place rows past) l.laid

    shows : Shows rows (take first rows) g
    shows = shown rows g stand
        (λ row m. among_all (IsLaid (numbers_of rows) g) rows row every m) g (take first rows)
        (among_take first rows)
        (grove_stands g whole (λ n. omega (arith, well.nodes_once n, uses-are n g)))
        (sym (take-map (λ (row : Row). row.number) first rows) ∙ l.begins)
