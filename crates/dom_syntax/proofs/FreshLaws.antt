-- Lists of variables without repeats.
use Rattle.std.proofs.Common.{◌≡◌, ◌∙◌, sym, refl, ℕ, ◌+◌, ◌<◌, ◌≤◌, List, [], ◌∷◌, ◌++◌, Bool, true, false, not, ◌&&◌, ◌||◌, map, length, get_or, drop, drop-cons, add-one, subst, append-nil, append_assoc}
use Rattle.std.specs.List.{list_all, list_any}
use Rattle.std.proofs.lemmas.List.{drop_all}
use Rattle.std.proofs.lemmas.List.Folds.{list_any-append}
use Rattle.model_terms.specs.Stores.{ProgVar, same_name}
use Rattle.model_terms.proofs.StoreLaws.{same_name-is, same_name-refl}
use Rattle.model_commands.specs.SortTests.{distinct_by, is_among}
use Rattle.dom_terms.specs.declared.terms.ProgVar as program
use Rattle.dom_terms.specs.Terms.{prog_var_of}
use Rattle.dom_syntax.specs.Fresh.{fresh}
use Rattle.dom_terms.proofs.SameTruth.{same_truth}

-- variables are the same either way round
name-turned-to : (x y : ProgVar) → same_name x y ≡ true → same_name y x ≡ true
name-turned-to x y e =
    subst (λ z. same_name z x ≡ true) (same_name-is x y e) (same_name-refl x)

pub name-turned : (x y : ProgVar) → same_name x y ≡ same_name y x
name-turned x y =
    same_truth (same_name x y) (same_name y x) (name-turned-to x y) (name-turned-to y x)

-- one more that nothing may be
four : (a b c d : Bool) → (not (a || (b || false)) && (c && not d)) ≡ ((not a && c) && not (b || d))
four true b c d = refl
four false true true d = refl
four false true false d = refl
four false false c d = refl

none-more : (seen : List ProgVar) (x : ProgVar) (ys : List ProgVar)
    → list_all (λ y. not (is_among (seen ++ x ∷ []) y)) ys
    ≡ (list_all (λ y. not (is_among seen y)) ys && not (list_any (same_name x) ys))
none-more seen x [] = refl
none-more seen x (y ∷ ys) =
    (λ j. not (list_any-append (same_name y) seen (x ∷ []) j) && none-more seen x ys j)
    ∙ (λ j. not (is_among seen y || (name-turned y x j || false))
    && (list_all (λ z. not (is_among seen z)) ys && not (list_any (same_name x) ys)))
    ∙ four (is_among seen y) (same_name x y) (list_all (λ z. not (is_among seen z)) ys)
    (list_any (same_name x) ys)

regroup : (a b c d : Bool) → (a && ((b && c) && d)) ≡ ((a && b) && (c && d))
regroup true true c d = refl
regroup true false c d = refl
regroup false b c d = refl

pub fresh-is : (seen xs : List ProgVar)
    → fresh seen xs ≡ (list_all (λ y. not (is_among seen y)) xs && distinct_by same_name xs)
fresh-is seen [] = refl
fresh-is seen (x ∷ xs) =
    (λ j. not (is_among seen x) && fresh-is (seen ++ x ∷ []) xs j)
    ∙ (λ j. not (is_among seen x) && (none-more seen x xs j && distinct_by same_name xs))
    ∙ regroup (not (is_among seen x)) (list_all (λ y. not (is_among seen y)) xs)
    (not (list_any (same_name x) xs)) (distinct_by same_name xs)

all-true : (xs : List ProgVar) → list_all (λ y. not (is_among [] y)) xs ≡ true
all-true [] = refl
all-true (x ∷ xs) = all-true xs

pub fresh-distinct : (xs : List ProgVar) → fresh [] xs ≡ distinct_by same_name xs
fresh-distinct xs = fresh-is [] xs ∙ (λ j. all-true xs j && distinct_by same_name xs)

-- at an index
pub fresh-here : (seen : List ProgVar) (xs : List program.ProgVar) (i : ℕ) (x : program.ProgVar)
    → i < length xs → x ≡ get_or xs i x
    → fresh seen (map prog_var_of (drop i xs))
    ≡ (not (is_among seen (prog_var_of x))
    && fresh (seen ++ prog_var_of x ∷ []) (map prog_var_of (drop (i + 1) xs)))
fresh-here seen xs i x lt is =
    (λ j. fresh seen (map prog_var_of (drop-cons xs i x lt j)))
    ∙ (λ j. fresh seen (prog_var_of (sym is j) ∷ map prog_var_of (drop (sym (add-one i) j) xs)))

-- one more at the end
three : (a b c : Bool) → (a && (b && c)) ≡ ((a && b) && c)
three true b c = refl
three false b c = refl

pub fresh-more : (seen xs : List ProgVar) (v : ProgVar)
    → fresh seen (xs ++ v ∷ []) ≡ (fresh seen xs && not (is_among (seen ++ xs) v))
fresh-more seen [] v =
    (λ j. last-one (not (is_among seen v)) j)
    ∙ (λ j. not (is_among (sym (append-nil seen) j) v))
  where
    last-one : (b : Bool) → (b && true) ≡ b
    last-one true = refl
    last-one false = refl
fresh-more seen (x ∷ xs) v =
    (λ j. not (is_among seen x) && fresh-more (seen ++ x ∷ []) xs v j)
    ∙ three (not (is_among seen x)) (fresh (seen ++ x ∷ []) xs)
    (not (is_among ((seen ++ x ∷ []) ++ xs) v))
    ∙ (λ j. (not (is_among seen x) && fresh (seen ++ x ∷ []) xs)
    && not (is_among (append_assoc seen (x ∷ []) xs j) v))

-- A WALK: the variables passed, and those that are left
module _ (d : Bool) (done : List ProgVar) (xs : List program.ProgVar) (i : ℕ) (x : program.ProgVar)
    (lt : i < length xs) (is : x ≡ get_or xs i x)
    (e : d ≡ fresh done (map prog_var_of (drop i xs))) where
  -- one that was passed
  pub repeated : is_among done (prog_var_of x) ≡ true → d ≡ false
  repeated t =
      e ∙ fresh-here done xs i x lt is
      ∙ (λ j. not (t j) && fresh (done ++ prog_var_of x ∷ []) (map prog_var_of (drop (i + 1) xs)))

  -- a new one
  pub passed : is_among done (prog_var_of x) ≡ false
      → d ≡ fresh (done ++ prog_var_of x ∷ []) (map prog_var_of (drop (i + 1) xs))
  passed t =
      e ∙ fresh-here done xs i x lt is
      ∙ (λ j. not (t j) && fresh (done ++ prog_var_of x ∷ []) (map prog_var_of (drop (i + 1) xs)))

pub passed-list : (done all : List ProgVar) (xs : List program.ProgVar) (i : ℕ)
    (x : program.ProgVar) → i < length xs → x ≡ get_or xs i x
    → done ++ map prog_var_of (drop i xs) ≡ all
    → (done ++ prog_var_of x ∷ []) ++ map prog_var_of (drop (i + 1) xs) ≡ all
passed-list done all xs i x lt is e =
    append_assoc done (prog_var_of x ∷ []) (map prog_var_of (drop (i + 1) xs))
    ∙ (λ j. done ++ (prog_var_of (is j) ∷ map prog_var_of (drop (add-one i j) xs)))
    ∙ (λ j. done ++ map prog_var_of (sym (drop-cons xs i x lt) j)) ∙ e

-- all passed
pub all-passed : (done all : List ProgVar) (xs : List program.ProgVar) (i : ℕ) → length xs ≤ i
    → done ++ map prog_var_of (drop i xs) ≡ all → done ≡ all
all-passed done all xs i le e =
    sym (append-nil done) ∙ (λ j. done ++ map prog_var_of (sym (drop_all i xs le) j)) ∙ e

pub none-left : (d : Bool) (done : List ProgVar) (xs : List program.ProgVar) (i : ℕ)
    → length xs ≤ i → d ≡ fresh done (map prog_var_of (drop i xs)) → d ≡ true
none-left d done xs i le e = e ∙ (λ j. fresh done (map prog_var_of (drop_all i xs le j)))
