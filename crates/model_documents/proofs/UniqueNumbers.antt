-- The numbers of a document are unique where none repeats.
use Rattle.std.proofs.Common.{◌≡◌, ℕ, ◌≤◌, ◌+◌, Bool, true, false, not, ◌||◌, cond, List, [], ◌∷◌, Some, None, refl, sym, ap, ◌∙◌, subst, arith}
use Rattle.std.specs.List.{list_any, find}
use Rattle.model_shapes.specs.Trees.{Trees, none, node, hole, WellFormed}
use Rattle.model_documents.proofs.Counting.{bit, count, count-append, uses, bit-decided, counted, same-itself, same-is}
use Rattle.model_documents.specs.Numbers.{Numbered, node_numbered, list_numbered, same_numbered, numbers_written, is_in_range, first_out_of_range, numbers_in, first_repeat_behind, first_repeat}

-- and so it is in the order of the text
counted-written : (q : Numbered) (g : Trees) → count q (numbers_written g) ≡ uses q g
counted-written (node_numbered n) none = refl
counted-written (node_numbered n) (node s i k l r) = omega (
  arith,
  bit-decided n i,
  count-append (node_numbered n) (numbers_written k) (list_numbered l ∷ numbers_written r),
  counted-written (node_numbered n) k,
  counted-written (node_numbered n) r,
)
counted-written (node_numbered n) (hole r) = counted-written (node_numbered n) r
counted-written (list_numbered n) none = refl
counted-written (list_numbered n) (node s i k l r) = omega (
  arith,
  bit-decided n l,
  count-append (list_numbered n) (numbers_written k) (list_numbered l ∷ numbers_written r),
  counted-written (list_numbered n) k,
  counted-written (list_numbered n) r,
)
counted-written (list_numbered n) (hole r) = counted-written (list_numbered n) r

-- each number stands at most once, and not if it stood before
abbrev Fresh : List Numbered → List Numbered → Type 0
Fresh before ns = (q : Numbered)
    → (count q ns ≤ 1) × (list_any (same_numbered q) before ≡ true → count q ns ≡ 0)

repeat-fresh : (before ns : List Numbered) → first_repeat_behind before ns ≡ None → Fresh before ns
repeat-fresh before [] e = λ q. (omega arith, λ h. refl)
repeat-fresh before (n ∷ ns) e =
    by_test (list_any (same_numbered n) before) refl e (repeat-fresh (n ∷ before) ns)
  where
    add : (a b : Bool) (c : ℕ) → (b ≡ true → a ≡ true → ⊥) → ((a || b) ≡ true → c ≡ 0) → c ≤ 1
        → (bit a + c ≤ 1) × (b ≡ true → bit a + c ≡ 0)
    add true true c apart h w = absurd (apart refl refl)
    add true false c apart h w = (omega (arith, h refl), λ x. absurd cc)
    add false true c apart h w = (omega (arith, h refl), λ x. omega (arith, h refl))
    add false false c apart h w = (omega arith, λ x. absurd cc)

    by_test : (b : Bool) → list_any (same_numbered n) before ≡ b
        → cond b (Some n) (first_repeat_behind (n ∷ before) ns) ≡ None
        → (first_repeat_behind (n ∷ before) ns ≡ None → Fresh (n ∷ before) ns)
        → Fresh before (n ∷ ns)
    by_test true f x rec = absurd cc
    by_test false f x rec = λ q. let w = rec x q in
        add (same_numbered q n) (list_any (same_numbered q) before) (count q ns)
        (λ there same. let apart : list_any (same_numbered n) before ≡ true =
        subst (λ z. list_any (same_numbered z) before ≡ true) (same-is q n same) there in absurd cc)
        w.1 w.0

fresh-repeat : (before ns : List Numbered) → Fresh before ns → first_repeat_behind before ns ≡ None
fresh-repeat before [] f = refl
fresh-repeat before (n ∷ ns) f =
    by_test (list_any (same_numbered n) before) refl (fresh-repeat (n ∷ before) ns)
  where
    add : (a b : Bool) (c : ℕ) → bit a + c ≤ 1 → (b ≡ true → bit a + c ≡ 0) → (a || b) ≡ true
        → c ≡ 0
    add true b c w h e = omega arith
    add false true c w h e = omega (arith, h refl)
    add false false c w h e = absurd cc

    by_test : (b : Bool) → list_any (same_numbered n) before ≡ b
        → (Fresh (n ∷ before) ns → first_repeat_behind (n ∷ before) ns ≡ None)
        → cond b (Some n) (first_repeat_behind (n ∷ before) ns) ≡ None
    by_test true e rec = absurd (omega (arith, ap bit (same-itself n), (f n).1 e))
    by_test false e rec = rec (λ q. (
      omega (arith, (f q).0),
      add (same_numbered q n) (list_any (same_numbered q) before) (count q ns) (f q).0 (f q).1,
    ))

-- no number out of range is none of 0
in-range : (q : Numbered) (ns : List Numbered) → is_in_range q ≡ false
    → find (λ n. not (is_in_range n)) ns ≡ None → count q ns ≡ 0
in-range q [] out e = refl
in-range q (n ∷ ns) out e =
    by_test (is_in_range n) (same_numbered q n) refl refl e (in-range q ns out)
  where
    by_test : (a b : Bool) → is_in_range n ≡ a → same_numbered q n ≡ b
        → cond (not a) (Some n) (find (λ n. not (is_in_range n)) ns) ≡ None
        → (find (λ n. not (is_in_range n)) ns ≡ None → count q ns ≡ 0) → bit b + count q ns ≡ 0
    by_test true true x y f rec =
        let z : is_in_range q ≡ true = ap is_in_range (same-is q n y) ∙ x in absurd cc
    by_test true false x y f rec = omega (arith, rec f)
    by_test false b x y f rec = absurd cc

-- where no number repeats, each stands once
pub unrepeated-once : (g : Trees) → first_repeat g ≡ None → (q : Numbered) → uses q g ≤ 1
unrepeated-once g e q = omega (arith, counted q g, (repeat-fresh [] (numbers_in g) e q).0)

-- so a document with no number out of range and none repeated is well formed
pub unique-WellFormed : (g : Trees) → first_out_of_range g ≡ None → first_repeat g ≡ None
    → WellFormed g
unique-WellFormed g range repeat = record {
  nodes_once = λ n. unrepeated-once g repeat (node_numbered n);
  lists_once = λ n. unrepeated-once g repeat (list_numbered n);
  no_node_zero = sym (counted-written (node_numbered 0) g)
      ∙ in-range (node_numbered 0) (numbers_written g) refl range;
  no_list_zero = sym (counted-written (list_numbered 0) g)
      ∙ in-range (list_numbered 0) (numbers_written g) refl range;
}

once : (g : Trees) → WellFormed g → (q : Numbered) → count q (numbers_in g) ≤ 1
once g wf (node_numbered n) = omega (arith, counted (node_numbered n) g, wf.nodes_once n)
once g wf (list_numbered n) = omega (arith, counted (list_numbered n) g, wf.lists_once n)

pub WellFormed-unique : (g : Trees) → WellFormed g → first_repeat g ≡ None
WellFormed-unique g wf = fresh-repeat [] (numbers_in g) (λ q. (once g wf q, λ h. absurd cc))
