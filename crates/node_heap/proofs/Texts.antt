-- What is written mark by mark is the text of the grove, and what is made mark by mark is the
-- grove.
use Rattle.std.proofs.Common.{◌≡◌, ℕ, ◌+◌, ◌≤◌, ◌<◌, Bool, true, false, cond, eqb, inl, inr, List, [], ◌∷◌, ◌++◌, length, map, get_or, drop, add-one, drop-cons, zero, suc, Option, Some, None, refl, sym, ap, ◌∙◌, arith, append_assoc, append-nil, codes}
use Rattle.std.proofs.lemmas.Bool.{cases_eq}
use Rattle.std.specs.Fmt.{decimal}
use Rattle.std.specs.Option.{is_some}
use Rattle.model_shapes.specs.Trees.{Trees, none, node, hole, beside}
use Rattle.model_shapes.specs.Shapes.{holes}
use Rattle.model_shapes.proofs.Basics.{beside-none, beside_assoc}
use Rattle.model_documents.specs.Printed.{quoted, tree_text, forest_text, further_trees, further_roots, grove_text}
use Rattle.model_heap.specs.Lists.{count, head_of, last_of, before}
use Rattle.model_heap.specs.Entries.{Entry, Rows, rows_of, roots, uses, kids_of, Kin}
use Rattle.model_heap.specs.Marks.{Mark, opens, closes, walked}
use Rattle.model_heap.proofs.Moves.{test_yes, test_no, one_here}
use Rattle.model_heap.proofs.Neighbours.{before-here, count-append, last-append}
use Rattle.model_shapes.specs.Sorts.{shape, grove}
use Rattle.model_shapes.specs.Shapes.{Shaped}
use Rattle.std.specs.Prelude.{OnOk, Result, Ok, Err}
use Rattle.grove_data.specs.Trees.{forest_of}
use Rattle.grove_data.specs.declared.trees.Tree.{Tree}
use Rattle.model_documents.specs.Roots.{sorted_roots}
use Rattle.model_heap.proofs.Kinship.{Kin-rows_of}
use Rattle.model_heap.proofs.Words.{uses-are}
use Rattle.node_heap.specs.declared.walking.Mark as program
use Rattle.node_heap.specs.Walking.{Said, seen, told, said_in}
use Rattle.node_heap.specs.Writing.{bracket_text, opening_text, closing_text, piece, pieces, built, stack_onto}
use Rattle.node_heap.proofs.ReadBack.{Agrees, part_kids, part_rest, part_here}

map-append : (f : Mark → Said) (xs ys : List Mark) → map f (xs ++ ys) ≡ map f xs ++ map f ys
map-append f [] ys = refl
map-append f (x ∷ xs) ys = ap (λ z. f x ∷ z) (map-append f xs ys)

-- the marks of the children, and those behind them
marks_split : (f : Mark → Said) (xs : List Mark) (m : Mark) (ys : List Mark) (ms : List Said)
    → map f (xs ++ m ∷ ys) ++ ms ≡ map f xs ++ (f m ∷ (map f ys ++ ms))
marks_split f xs m ys ms =
    ap (λ z. z ++ ms) (map-append f xs (m ∷ ys))
    ∙ append_assoc (map f xs) (f m ∷ map f ys) ms

module _ (rows : Rows) where
  -- MADE: the trees come to the end of the row
  pub built_row : (q : Option ℕ) (r : Trees) → holes r ≡ 0 → ((m : ℕ) → uses m r ≤ 1)
      → Agrees q r rows → (row : Trees) (outer : List Trees) (ms : List Said)
      → built (map (said_in rows) (walked r) ++ ms) row outer ≡ built ms (beside row r) outer
  built_row q none w u g row outer ms = ap (λ t. built ms t outer) (sym (beside-none row))
  built_row q (node t i kids l rest) w u g row outer ms =
      let here = part_here rows q t i kids l rest g in
      let f = said_in rows in
      let end : said_in rows (closes i) ≡ told rows false i
      (Some (record { name = t; list = l; parent = q; kids = roots kids })) =
      ap (told rows false i) here in
      let start : said_in rows (opens i) ≡ told rows true i
      (Some (record { name = t; list = l; parent = q; kids = roots kids })) =
      ap (told rows true i) here in
      let a : built (map f (walked (node t i kids l rest)) ++ ms) row outer
      ≡ built (map f (walked kids ++ closes i ∷ walked rest) ++ ms) none (row ∷ outer) =
      ap (λ m. built (m ∷ (map f (walked kids ++ closes i ∷ walked rest) ++ ms)) row outer) start in
      let b = ap (λ z. built z none (row ∷ outer))
      (marks_split f (walked kids) (closes i) (walked rest) ms) in
      let c = built_row (Some i) kids (omega (arith, w)) (λ m. omega (arith, u m))
      (part_kids rows q t i kids l rest u g) none (row ∷ outer)
      (f (closes i) ∷ (map f (walked rest) ++ ms)) in
      let d : built (f (closes i) ∷ (map f (walked rest) ++ ms)) kids (row ∷ outer)
      ≡ built (map f (walked rest) ++ ms) (beside row (node t i kids l none)) outer =
      ap (λ m. built (m ∷ (map f (walked rest) ++ ms)) kids (row ∷ outer)) end in
      let e = built_row q rest (omega (arith, w)) (λ m. omega (arith, u m))
      (part_rest rows q t i kids l rest u g) (beside row (node t i kids l none)) outer ms in
      a ∙ b ∙ c ∙ d ∙ e
      ∙ ap (λ x. built ms x outer) (beside_assoc row (node t i kids l none) rest)
  built_row q (hole rest) w u g row outer ms = absurd (omega (arith, w))

  -- WRITTEN: the texts of trees
  abbrev trees_text : Bool → Trees → List ℕ
  trees_text later none = []
  trees_text later (node name number kids list rest) =
      cond later (codes " * <") (codes "<")
      ++ (tree_text name number (forest_text kids) list ++ (codes ">" ++ further_trees rest))
  trees_text later (hole rest) = trees_text later rest

  further : (r : Trees) → trees_text true r ≡ further_trees r
  further none = refl
  further (node name number kids list rest) = refl
  further (hole rest) = further rest

  whole_forest : (r : Trees) → holes r ≡ 0
      → cond (is_some (head_of (roots r))) [] (codes "0f") ++ trees_text false r ≡ forest_text r
  whole_forest none w = append-nil (codes "0f")
  whole_forest (node name number kids list rest) w = refl
  whole_forest (hole rest) w = absurd (omega (arith, w))

  arranged : (left q h d b k t c n g r p f : List ℕ) → k ++ t ≡ f
      → (left ++ (q ++ (h ++ (d ++ (b ++ k))))) ++ (t ++ ((c ++ (n ++ g)) ++ (r ++ p)))
      ≡ (left ++ ((q ++ (h ++ (d ++ (b ++ (f ++ (c ++ n)))))) ++ (g ++ r))) ++ p
  arranged left q h d b k t c n g r p f e = rw (← e) (simp append_assoc refl)

  pub text_row : (p : ℕ) (pre : List ℕ) (r : Trees) → Kin rows → holes r ≡ 0
      → ((m : ℕ) → uses m r ≤ 1) → Agrees (Some p) r rows → kids_of (rows p) ≡ pre ++ roots r
      → (ms : List Said) → pieces false (map (said_in rows) (walked r) ++ ms)
      ≡ trees_text (is_some (last_of pre)) r ++ pieces false ms
  text_row p pre none kin w u g k ms = refl
  text_row p pre (node t i kids l rest) kin w u g k ms =
      let here = part_here rows (Some p) t i kids l rest g in
      let f = said_in rows in
      let own : Entry = record { name = t; list = l; parent = Some p; kids = roots kids } in
      let fewer : count i (roots rest) ≡ 0 =
      omega (
        arith,
        kin.once p i,
        ap (count i) k,
        count-append i pre (i ∷ roots rest),
        one_here i i refl,
      ) in
      let ahead : count i pre ≡ 0 =
      omega (
        arith,
        kin.once p i,
        ap (count i) k,
        count-append i pre (i ∷ roots rest),
        one_here i i refl,
      ) in
      let previous : before i (kids_of (rows p)) ≡ last_of pre =
      ap (before i) k ∙ before-here i pre (roots rest) ahead fewer in
      let start : piece false (f (opens i)) ≡ opening_text
      (bracket_text false true (is_some (last_of pre))) t i (is_some (head_of (roots kids))) =
      ap (λ o. piece false (told rows true i o)) here
      ∙ ap (λ o. opening_text (bracket_text false true (is_some o)) t i
      (is_some (head_of (roots kids)))) previous in
      let end : piece false (f (closes i)) ≡ closing_text l true =
      ap (λ o. piece false (told rows false i o)) here in
      let below = text_row i [] kids kin (omega (arith, w)) (λ m. omega (arith, u m))
      (part_kids rows (Some p) t i kids l rest u g) (ap kids_of here)
      (f (closes i) ∷ (map f (walked rest) ++ ms)) in
      let behind = text_row p (pre ++ i ∷ []) rest kin (omega (arith, w)) (λ m. omega (arith, u m))
      (part_rest rows (Some p) t i kids l rest u g)
      (k ∙ sym (append_assoc pre (i ∷ []) (roots rest))) ms in
      let later : trees_text (is_some (last_of (pre ++ i ∷ []))) rest ≡ further_trees rest =
      ap (λ o. trees_text (is_some o) rest) (last-append pre (i ∷ [])) ∙ further rest in
      ap (λ z. piece false (f (opens i)) ++ pieces false z)
      (marks_split f (walked kids) (closes i) (walked rest) ms)
      ∙ ap (λ z. piece false (f (opens i)) ++ z) below
      ∙ ap (λ z. piece false (f (opens i)) ++ (trees_text false kids
      ++ (piece false (f (closes i)) ++ z))) behind
      ∙ ap (λ z. piece false (f (opens i)) ++ (trees_text false kids
      ++ (piece false (f (closes i)) ++ (z ++ pieces false ms)))) later
      ∙ ap (λ z. z ++ (trees_text false kids ++
      (piece false (f (closes i)) ++ (further_trees rest ++ pieces false ms)))) start
      ∙ ap (λ z. opening_text (bracket_text false true (is_some (last_of pre))) t i
      (is_some (head_of (roots kids))) ++ (trees_text false kids
      ++ (z ++ (further_trees rest ++ pieces false ms)))) end
      ∙ arranged (cond (is_some (last_of pre)) (codes " * <") (codes "<")) (quoted t) (codes "#")
      (decimal i) (codes "[")
      (cond (is_some (head_of (roots kids))) [] (codes "0f")) (trees_text false kids) (codes "]%")
      (decimal l) (codes ">")
      (further_trees rest) (pieces false ms) (forest_text kids)
      (whole_forest kids (omega (arith, w)))
  text_row p pre (hole rest) kin w u g k ms = absurd (omega (arith, w))

  -- and of roots
  abbrev pub roots_text : Bool → Trees → List ℕ
  roots_text first none = []
  roots_text first (node name number kids list rest) =
      cond first (codes "[") (codes " + [")
      ++ (tree_text name number (forest_text kids) list ++ (codes "]" ++ further_roots rest))
  roots_text first (hole rest) = roots_text first rest

  further_on : (r : Trees) → roots_text false r ≡ further_roots r
  further_on none = refl
  further_on (node name number kids list rest) = refl
  further_on (hole rest) = further_on rest

  pub text_roots : (b : Bool) (r : Trees) → Kin rows → holes r ≡ 0 → ((m : ℕ) → uses m r ≤ 1)
      → Agrees None r rows → pieces b (map (said_in rows) (walked r)) ≡ roots_text b r
  text_roots b none kin w u g = refl
  text_roots b (node t i kids l rest) kin w u g =
      let here = part_here rows None t i kids l rest g in
      let f = said_in rows in
      let start : piece b (f (opens i)) ≡ opening_text
      (cond b (codes "[") (codes " + [")) t i (is_some (head_of (roots kids))) =
      ap (λ o. piece b (told rows true i o)) here in
      let end : piece false (f (closes i)) ≡ closing_text l false =
      ap (λ o. piece false (told rows false i o)) here in
      let below = text_row i [] kids kin (omega (arith, w)) (λ m. omega (arith, u m))
      (part_kids rows None t i kids l rest u g) (ap kids_of here)
      (f (closes i) ∷ map f (walked rest)) in
      let behind = text_roots false rest kin (omega (arith, w)) (λ m. omega (arith, u m))
      (part_rest rows None t i kids l rest u g) in
      ap (λ z. piece b (f (opens i)) ++ pieces false z)
      (map-append f (walked kids) (closes i ∷ walked rest))
      ∙ ap (λ z. piece b (f (opens i)) ++ z) below
      ∙ ap (λ z. piece b (f (opens i)) ++ (trees_text false kids
      ++ (piece false (f (closes i)) ++ z))) (behind ∙ further_on rest)
      ∙ ap (λ z. z ++ (trees_text false kids ++ (piece false (f (closes i)) ++ further_roots rest)))
      start
      ∙ ap (λ z. opening_text (cond b (codes "[") (codes " + [")) t i
      (is_some (head_of (roots kids))) ++ (trees_text false kids ++ (z ++ further_roots rest)))
      end
      ∙ ap (λ z. opening_text (cond b (codes "[") (codes " + [")) t i
      (is_some (head_of (roots kids))) ++ (trees_text false kids
      ++ (closing_text l false ++ z))) (sym (append-nil (further_roots rest)))
      ∙ arranged (cond b (codes "[") (codes " + [")) (quoted t) (codes "#") (decimal i) (codes "[")
      (cond (is_some (head_of (roots kids))) [] (codes "0f")) (trees_text false kids) (codes "]%")
      (decimal l) (codes "]")
      (further_roots rest) [] (forest_text kids) (whole_forest kids (omega (arith, w)))
      ∙ append-nil (cond b (codes "[") (codes " + [") ++
      (tree_text t i (forest_text kids) l ++ (codes "]" ++ further_roots rest)))
  text_roots b (hole rest) kin w u g = absurd (omega (arith, w))

once_of : (g : Trees) → Shaped (shape grove) g → (n : ℕ) → uses n g ≤ 1
once_of g h n = omega (arith, uses-are n g, h.well_formed.nodes_once n)

-- THE GROVE that is made
pub made : (g : Trees) → Shaped (shape grove) g
    → built (map (said_in (rows_of g)) (walked g)) none [] ≡ g
made g h =
    ap (λ ms. built ms none []) (sym (append-nil (map (said_in (rows_of g)) (walked g))))
    ∙ built_row (rows_of g) None g h.holes_fit (once_of g h) (λ m e x. x) none [] []

-- THE TEXT that is written
pub written : (g : Trees) → Shaped (shape grove) g
    → (map (said_in (rows_of g)) (walked g) ≡ [] → ⊥)
    → pieces true (map (said_in (rows_of g)) (walked g)) ≡ grove_text g
written none h some = absurd (some refl)
written (node name number kids list rest) h some =
    let g : Trees = node name number kids list rest in
    text_roots (rows_of g) true g (Kin-rows_of g (once_of g h)) h.holes_fit (once_of g h)
    (λ m e x. x)
written (hole rest) h some = absurd (omega (arith, h.holes_fit))

pub unwritten : (g : Trees) → Shaped (shape grove) g
    → map (said_in (rows_of g)) (walked g) ≡ [] → grove_text g ≡ codes "0g"
unwritten none h e = refl
unwritten (node name number kids list rest) h e = absurd (cc)
unwritten (hole rest) h e = absurd (omega (arith, h.holes_fit))

-- one mark more
pub stack-last : (rows : List (List Tree)) (row : List Tree) (outer : List Trees)
    → stack_onto (rows ++ row ∷ []) outer ≡ forest_of row ∷ stack_onto rows outer
stack-last [] row outer = refl
stack-last (x ∷ rows) row outer = stack-last rows row (forest_of x ∷ outer)

pub marks_at : (items : List program.Mark) (i : ℕ) (m : program.Mark) → i < length items
    → m ≡ get_or items i m → drop i items ≡ m ∷ drop (i + 1) items
marks_at items i m low is =
    rw (add-one, drop-cons items i m) (ap (λ x. x ∷ drop (suc i) items) (sym is))

pub on_ok_always : {A E P : Type 0} (r : Result A E) → P → OnOk r P
on_ok_always (Ok x) p = p
on_ok_always (Err x) p = tt

-- nothing is left behind the last
drop_past : (items : List program.Mark) (i : ℕ) → length items ≤ i → drop i items ≡ []
drop_past [] zero h = refl
drop_past [] (suc i) h = refl
drop_past (x ∷ items) zero h = absurd (omega (arith, h))
drop_past (x ∷ items) (suc i) h = drop_past items i (omega (arith, h))

-- the row is the grove where no mark is left
pub made_whole : (g : Trees) → Shaped (shape grove) g → sorted_roots g ≡ g
    → (marks items : List program.Mark) → map seen marks ≡ map (said_in (rows_of g)) (walked g)
    → items ≡ marks → (i : ℕ) → length items ≤ i → (row : Trees) (outer : List Trees)
    → built (map seen (drop i items)) row outer ≡ built (map seen items) none []
    → row ≡ sorted_roots g
made_whole g h sorted marks items said is i past row outer e =
    ap (λ ms. built (map seen ms) row outer) (sym (drop_past items i past)) ∙ e
    ∙ ap (λ ms. built (map seen ms) none []) is ∙ ap (λ ms. built ms none []) said ∙ made g h
    ∙ sym sorted

-- and the text is that of the grove
pub written_whole : (g : Trees) → Shaped (shape grove) g → sorted_roots g ≡ g
    → (marks items : List program.Mark) → map seen marks ≡ map (said_in (rows_of g)) (walked g)
    → items ≡ marks → 0 < length marks → (i : ℕ) → length items ≤ i → (text : List ℕ) (first : Bool)
    → text ++ pieces first (map seen (drop i items)) ≡ pieces true (map seen items)
    → text ≡ grove_text (sorted_roots g)
written_whole g h sorted marks items said is some i past text first e =
    sym (append-nil text)
    ∙ ap (λ ms. text ++ pieces first (map seen ms)) (sym (drop_past items i past)) ∙ e
    ∙ ap (λ ms. pieces true (map seen ms)) is ∙ ap (pieces true) said
    ∙ written g h (λ none_said. filled marks some (said ∙ none_said)) ∙ ap grove_text (sym sorted)
  where
    filled : (marks : List program.Mark) → 0 < length marks → map seen marks ≡ [] → ⊥
    filled [] some e = omega (arith, some)
    filled (m ∷ marks) some e = cc

pub unwritten_whole : (g : Trees) → Shaped (shape grove) g → sorted_roots g ≡ g
    → (marks : List program.Mark) → map seen marks ≡ map (said_in (rows_of g)) (walked g)
    → length marks ≡ 0 → codes "0g" ≡ grove_text (sorted_roots g)
unwritten_whole g h sorted [] said e = sym (ap grove_text sorted ∙ unwritten g h (sym said))
unwritten_whole g h sorted (m ∷ marks) said e = absurd (omega (arith, e))

pub no_more : (n : ℕ) → true ≡ eqb n 0 → n ≡ 0
no_more n e =
    elim (cases_eq n 0) [
      | inl z ↦ z
      | inr d ↦ absurd (let x = test_no n 0 d in cc)
    ]

pub some_more : (n : ℕ) → false ≡ eqb n 0 → 0 < n
some_more n e =
    elim (cases_eq n 0) [
      | inl z ↦ absurd (let x = test_yes n 0 z in cc)
      | inr d ↦ omega (arith, d)
    ]
