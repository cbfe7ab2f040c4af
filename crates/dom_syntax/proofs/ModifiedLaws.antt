-- How the variables that a command modifies are found step by step.
use Rattle.std.proofs.Common.{◌≡◌, ◌≢◌, ◌⊎◌, ◌∙◌, sym, refl, ap, subst, inl, inr, ℕ, ◌+◌, ◌<◌, ◌≤◌, List, [], ◌∷◌, ◌++◌, map, length, get_or, drop, drop-cons, add-one, Bool, true, false, not, ◌&&◌, ◌||◌}
use Rattle.std.proofs.lemmas.List.{drop_all, map-append}
use Rattle.model_terms.specs.Stores.{ProgVar, same_name}
use Rattle.model_terms.proofs.StoreLaws.{same_name-is, same_name-refl, same_name-not}
use Rattle.model_commands.specs.Commands.{Among}
use Rattle.model_commands.specs.SortTests.{distinct_by, is_among}
use Rattle.dom_terms.specs.declared.terms.ProgVar as program
use Rattle.dom_terms.specs.Terms.{prog_var_of}
use Rattle.dom_syntax.specs.Modified.{Adds}
use Rattle.dom_syntax.proofs.FreshLaws.{fresh-distinct, fresh-more}

-- what was there, with what is to come, is what was there at first, with all
pub record Leaves (first now : List ProgVar) (All Rest : ProgVar → Type 0) : Type 0 where
  pub each : (x : ProgVar) → Among now x → Among first x ⊎ All x
  pub old : (x : ProgVar) → Among first x → Among now x
  pub such : (x : ProgVar) → All x → Among now x ⊎ Rest x
  pub rest : (x : ProgVar) → Rest x → All x

pub leaves-first : (first : List ProgVar) (All : ProgVar → Type 0) → Leaves first first All All
leaves-first first All = record {
  each = λ x m. inl m;
  old = λ x m. m;
  such = λ x a. inr a;
  rest = λ x a. a;
}

-- over what is next
pub leaves-next : (first now then : List ProgVar) (All Next Rest Left : ProgVar → Type 0)
    → Leaves first now All Left
    → ((x : ProgVar) → Left x → Next x ⊎ Rest x)
    → ((x : ProgVar) → Next x ⊎ Rest x → Left x)
    → Adds now then Next → Leaves first then All Rest
leaves-next first now then All Next Rest Left h out back a = record {
  each = λ x m. after x (a.each x m);
  old = λ x m. a.old x (h.old x m);
  such = λ x p. among x (h.such x p);
  rest = λ x p. h.rest x (back x (inr p));
}
  where
    after : (x : ProgVar) → Among now x ⊎ Next x → Among first x ⊎ All x
    after x (inl m) = h.each x m
    after x (inr p) = inr (h.rest x (back x (inl p)))

    split : (x : ProgVar) → Next x ⊎ Rest x → Among then x ⊎ Rest x
    split x (inl p) = inl (a.such x p)
    split x (inr p) = inr p

    among : (x : ProgVar) → Among now x ⊎ Left x → Among then x ⊎ Rest x
    among x (inl m) = inl (a.old x m)
    among x (inr p) = split x (out x p)

-- at the end
pub leaves-last : (first now : List ProgVar) (All Rest : ProgVar → Type 0)
    → Leaves first now All Rest → ((x : ProgVar) → Rest x → ⊥) → Adds first now All
leaves-last first now All Rest h none = record {
  each = h.each;
  old = h.old;
  such = λ x p. there x (h.such x p);
}
  where
    there : (x : ProgVar) → Among now x ⊎ Rest x → Among now x
    there x (inl m) = m
    there x (inr p) = absurd (none x p)

-- COMMANDS: nothing more
pub adds-none : (found : List ProgVar) (Such : ProgVar → Type 0) → ((x : ProgVar) → Such x → ⊥)
    → Adds found found Such
adds-none found Such none = record {
  each = λ x m. inl m;
  old = λ x m. m;
  such = λ x p. absurd (none x p);
}

-- one part behind another
pub adds-two : (first now then : List ProgVar) (One Two Both : ProgVar → Type 0)
    → ((x : ProgVar) → Both x → One x ⊎ Two x) → ((x : ProgVar) → One x ⊎ Two x → Both x)
    → Adds first now One → Adds now then Two → Adds first then Both
adds-two first now then One Two Both out back a b = record {
  each = λ x m. after x (b.each x m);
  old = λ x m. b.old x (a.old x m);
  such = λ x p. there x (out x p);
}
  where
    before : (x : ProgVar) → Among first x ⊎ One x → Among first x ⊎ Both x
    before x (inl m) = inl m
    before x (inr p) = inr (back x (inl p))

    after : (x : ProgVar) → Among now x ⊎ Two x → Among first x ⊎ Both x
    after x (inl m) = before x (a.each x m)
    after x (inr p) = inr (back x (inr p))

    there : (x : ProgVar) → One x ⊎ Two x → Among then x
    there x (inl p) = b.old x (a.such x p)
    there x (inr p) = b.such x p

-- the same of what is another way said
pub adds-as : (first now : List ProgVar) (One Two : ProgVar → Type 0)
    → ((x : ProgVar) → One x → Two x) → ((x : ProgVar) → Two x → One x)
    → Adds first now One → Adds first now Two
adds-as first now One Two out back a = record {
  each = λ x m. by x (a.each x m);
  old = a.old;
  such = λ x p. a.such x (back x p);
}
  where
    by : (x : ProgVar) → Among first x ⊎ One x → Among first x ⊎ Two x
    by x (inl m) = inl m
    by x (inr p) = inr (out x p)

-- LOCAL VARIABLES: outside one more
or-false : (a b : Bool) → (a || b) ≡ false → (a ≡ false) × (b ≡ false)
or-false true b e = absurd (cc)
or-false false b e = (refl, e)

false-or : (a b : Bool) → a ≡ false → b ≡ false → (a || b) ≡ false
false-or true b e f = absurd (cc)
false-or false b e f = f

different : (x y : ProgVar) → same_name x y ≡ false → x ≢ y
different x y e q = no (subst (λ z. same_name x z ≡ false) (sym q) e) (same_name-refl x)
  where
    no : same_name x x ≡ false → same_name x x ≡ true → ⊥
    no a b = cc

pub outside-local : (y : ProgVar) (ys : List ProgVar) (Sets : ProgVar → Type 0) (x : ProgVar)
    → Sets x × (is_among (y ∷ ys) x ≡ false) → ((x ≢ y) × Sets x) × (is_among ys x ≡ false)
outside-local y ys Sets x h =
    let p = or-false (same_name x y) (is_among ys x) h.1 in
    ((different x y p.0, h.0), p.1)

pub local-outside : (y : ProgVar) (ys : List ProgVar) (Sets : ProgVar → Type 0) (x : ProgVar)
    → ((x ≢ y) × Sets x) × (is_among ys x ≡ false) → Sets x × (is_among (y ∷ ys) x ≡ false)
local-outside y ys Sets x h =
    (h.0.1, false-or (same_name x y) (is_among ys x) (same_name-not x y h.0.0) h.1)

-- VARIABLES: one that is found, or that is one of a block around
pub among-of : (xs : List ProgVar) (x : ProgVar) → is_among xs x ≡ true → Among xs x
among-of [] x e = absurd (cc)
among-of (y ∷ ys) x e = by (same_name x y) refl e (among-of ys x)
  where
    by : (b : Bool) → same_name x y ≡ b → (b || is_among ys x) ≡ true
        → (is_among ys x ≡ true → Among ys x) → (x ≡ y) ⊎ Among ys x
    by true s e rest = inl (same_name-is x y s)
    by false s e rest = inr (rest e)

not-both : (b : Bool) → b ≡ true → b ≡ false → ⊥
not-both b e f = cc

pub adds-shadowed : (found over : List ProgVar) (v : ProgVar) → is_among over v ≡ true
    → Adds found found (λ x. (x ≡ v) × (is_among over x ≡ false))
adds-shadowed found over v s =
    adds-none found (λ x. (x ≡ v) × (is_among over x ≡ false))
    (λ x p. not-both (is_among over x) (subst (λ z. is_among over z ≡ true) (sym p.0) s) p.1)

pub adds-found : (found over : List ProgVar) (v : ProgVar) → is_among found v ≡ true
    → Adds found found (λ x. (x ≡ v) × (is_among over x ≡ false))
adds-found found over v f = record {
  each = λ x m. inl m;
  old = λ x m. m;
  such = λ x p. subst (Among found) (sym p.0) (among-of found v f);
}

-- and a new one
among-left : (xs ys : List ProgVar) (x : ProgVar) → Among xs x → Among (xs ++ ys) x
among-left [] ys x m = absurd m
among-left (z ∷ xs) ys x (inl q) = inl q
among-left (z ∷ xs) ys x (inr m) = inr (among-left xs ys x m)

among-last : (xs : List ProgVar) (v x : ProgVar) → x ≡ v → Among (xs ++ v ∷ []) x
among-last [] v x e = inl e
among-last (z ∷ xs) v x e = inr (among-last xs v x e)

among-split : (xs : List ProgVar) (v x : ProgVar) → Among (xs ++ v ∷ []) x → Among xs x ⊎ (x ≡ v)
among-split [] v x (inl e) = inr e
among-split [] v x (inr m) = absurd m
among-split (z ∷ xs) v x (inl e) = inl (inl e)
among-split (z ∷ xs) v x (inr m) = by (among-split xs v x m)
  where
    by : Among xs x ⊎ (x ≡ v) → ((x ≡ z) ⊎ Among xs x) ⊎ (x ≡ v)
    by (inl m) = inl (inr m)
    by (inr e) = inr e

pub adds-one : (found over : List ProgVar) (v : ProgVar) → is_among over v ≡ false
    → Adds found (found ++ v ∷ []) (λ x. (x ≡ v) × (is_among over x ≡ false))
adds-one found over v o = record {
  each = λ x m. by x (among-split found v x m);
  old = λ x m. among-left found (v ∷ []) x m;
  such = λ x p. among-last found v x p.0;
}
  where
    by : (x : ProgVar) → Among found x ⊎ (x ≡ v)
        → Among found x ⊎ ((x ≡ v) × (is_among over x ≡ false))
    by x (inl m) = inl m
    by x (inr e) = inr (e, subst (λ z. is_among over z ≡ false) (sym e) o)

-- one more that none of them is
pub distinct-one : (xs : List ProgVar) (v : ProgVar) → distinct_by same_name xs ≡ true
    → is_among xs v ≡ false → distinct_by same_name (xs ++ v ∷ []) ≡ true
distinct-one xs v d n =
    sym (fresh-distinct (xs ++ v ∷ [])) ∙ fresh-more [] xs v
    ∙ (λ j. fresh-distinct xs j && not (is_among xs v)) ∙ (λ j. d j && not (n j))

-- ITEMS: what a list has, item by item
module _ {T : Type 0} (F : List T → ProgVar → Type 0) (N : T → ProgVar → Type 0)
    (out : (y : T) (ys : List T) (x : ProgVar) → F (y ∷ ys) x → N y x ⊎ F ys x)
    (back : (y : T) (ys : List T) (x : ProgVar) → N y x ⊎ F ys x → F (y ∷ ys) x)
    (none : (x : ProgVar) → F [] x → ⊥) (Out : ProgVar → Type 0) where
  -- over the item at an index
  pub leaves-item : (first now then : List ProgVar) (All : ProgVar → Type 0) (xs : List T) (i : ℕ)
      (item : T) → i < length xs → item ≡ get_or xs i item
      → Leaves first now All (λ x. F (drop i xs) x × Out x)
      → Adds now then (λ x. N item x × Out x)
      → Leaves first then All (λ x. F (drop (i + 1) xs) x × Out x)
  leaves-item first now then All xs i item lt is h a =
      leaves-next first now then All (λ x. N item x × Out x) (λ x. F (drop (i + 1) xs) x × Out x)
      (λ x. F (drop i xs) x × Out x) h (λ x p. apart x p.1 (out item (drop (i + 1) xs) x
      (subst (λ l. F l x) cut p.0))) (λ x p. join x p) a
    where
      cut : drop i xs ≡ item ∷ drop (i + 1) xs
      cut =
          drop-cons xs i item lt ∙ (λ j. sym is j ∷ drop (sym (add-one i) j) xs)

      apart : (x : ProgVar) → Out x → N item x ⊎ F (drop (i + 1) xs) x
          → (N item x × Out x) ⊎ (F (drop (i + 1) xs) x × Out x)
      apart x o (inl p) = inl (p, o)
      apart x o (inr p) = inr (p, o)

      join : (x : ProgVar) → (N item x × Out x) ⊎ (F (drop (i + 1) xs) x × Out x)
          → F (drop i xs) x × Out x
      join x (inl p) =
          (subst (λ l. F l x) (sym cut) (back item (drop (i + 1) xs) x (inl p.0)), p.1)
      join x (inr p) =
          (subst (λ l. F l x) (sym cut) (back item (drop (i + 1) xs) x (inr p.0)), p.1)

  -- past the last
  pub leaves-end : (first now : List ProgVar) (All : ProgVar → Type 0) (xs : List T) (i : ℕ)
      → length xs ≤ i → Leaves first now All (λ x. F (drop i xs) x × Out x) → Adds first now All
  leaves-end first now All xs i le h =
      leaves-last first now All (λ x. F (drop i xs) x × Out x) h
      (λ x p. none x (subst (λ l. F l x) (drop_all i xs le) p.0))

-- one variable pushed
pub pushed : (xs ys : List program.ProgVar) (x v : program.ProgVar) → ys ≡ xs ++ x ∷ []
    → prog_var_of x ≡ prog_var_of v
    → map prog_var_of ys ≡ map prog_var_of xs ++ prog_var_of v ∷ []
pushed xs ys x v e f =
    ap (map prog_var_of) e ∙ map-append prog_var_of xs (x ∷ [])
    ∙ (λ j. map prog_var_of xs ++ f j ∷ [])
