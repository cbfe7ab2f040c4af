-- No formula of a plan has many more brackets open at once than the sides of the asked judgement:
-- at most one more for each part of them, and a few.
use Rattle.std.proofs.Common.{◌≡◌, ℕ, ◌+◌, ◌≤◌, Bool, true, false, cond, List, [], ◌∷◌, Some, None, IfSome, ap, codes, arith}
use Rattle.std.specs.Prelude.{max}
use Rattle.model_shapes.specs.Sorts.{Sort, DataSort, shape, context, value, tree, forest, grove}
use Rattle.model_formulas.specs.Formulas.{Named, whole, hole_left, hole_right, empty, bare_hole, node_formula, one_tree, one_root, concatenation, grove_sum, grove_sum_hole, application}
use Rattle.model_formulas.specs.Parts.{parts}
use Rattle.model_formulas.specs.Nameless.{nameless}
use Rattle.model_commands.specs.Theories.{entails}
use Rattle.assistant_laws.specs.Forms.{grove_parts}
use Rattle.assistant_laws.specs.Fillings.{filling, fills}
use Rattle.assistant_laws.specs.Obvious.{is_obvious_by_form}
use Rattle.assistant_laws.specs.Plans.{Plan, alone}
use Rattle.assistant_laws.specs.ConjunctPlans.{same_named, plan_by_conjuncts}
use Rattle.assistant_laws.specs.Ways.{Way, onward, backward, other}
use Rattle.assistant_laws.specs.FillingPlans.{filling_plan, plan_of_application, plan_by_filling}
use Rattle.assistant_laws.specs.FormPlans.{tidied, absorbed, absorbed_roots, from_alone, tree_plan, forest_plan, grove_plan, sum_plan, sum_of, without_named, pass, to_front, in_order, form_plan, plan_by_form}
use Rattle.assistant_laws.proofs.Forms.{absorbed_roots-sum}
use Rattle.filling_laws.proofs.EachFormula.{IsGood, turned-good, by_way_of-good, conjuncts-good}
use Rattle.model_filling.proofs.Depths.{depth}

module _ (most : ℕ) where
  -- no more brackets than the most are open at once
  abbrev pub Shallow : Named → Type 0
  Shallow p = depth p ≤ most

  abbrev pub IsShallow : Plan → Type 0
  IsShallow = IsGood Shallow

  -- FILLING
  filling-flat : (b c : Named) → depth (filling b c) ≤ parts c + max (depth c) (depth b)
  filling-flat b (bare_hole k) = omega arith
  filling-flat b (node_formula name number c list) =
      omega (arith, filling-flat b c)
  filling-flat b (one_tree c) =
      omega (arith, filling-flat b c)
  filling-flat b (one_root c) =
      omega (arith, filling-flat b c)
  filling-flat b (concatenation hole_left c q) =
      omega (arith, filling-flat b c)
  filling-flat b (concatenation hole_right q c) =
      omega (arith, filling-flat b c)
  filling-flat b (grove_sum_hole c q) =
      omega (arith, filling-flat b c)
  filling-flat b c = omega arith

  module _ (way : Way) (h : DataSort) (b : Named) where
    filling-shallow : (c : Named) → parts c + (depth (application h c b) + 1) ≤ most
        → IsShallow (filling_plan way h b c)
    filling-shallow (node_formula name number c list) le =
        let x : Shallow (application h (node_formula name number c list) b) = omega (arith, le) in
        let middle : Shallow (node_formula name number (application h c b) list) =
        omega (arith, le) in
        let end : Shallow (node_formula name number (filling b c) list) =
        omega (arith, le, filling-flat b c) in
        by_way_of-good Shallow way _ _ _ _ _
        (turned-good Shallow way _ _ _ x middle)
        (filling-shallow c (omega (arith, le)), turned-good Shallow way _ _ _ middle end) x end
    filling-shallow (one_tree c) le =
        let x : Shallow (application h (one_tree c) b) = omega (arith, le) in
        let middle : Shallow (one_tree (application h c b)) =
        omega (arith, le) in
        let end : Shallow (one_tree (filling b c)) =
        omega (arith, le, filling-flat b c) in
        by_way_of-good Shallow way _ _ _ _ _
        (turned-good Shallow way _ _ _ x middle)
        (filling-shallow c (omega (arith, le)), turned-good Shallow way _ _ _ middle end) x end
    filling-shallow (one_root c) le =
        let x : Shallow (application h (one_root c) b) = omega (arith, le) in
        let middle : Shallow (one_root (application h c b)) =
        omega (arith, le) in
        let end : Shallow (one_root (filling b c)) =
        omega (arith, le, filling-flat b c) in
        by_way_of-good Shallow way _ _ _ _ _
        (turned-good Shallow way _ _ _ x middle)
        (filling-shallow c (omega (arith, le)), turned-good Shallow way _ _ _ middle end) x end
    filling-shallow (concatenation hole_left c q) le =
        let x : Shallow (application h (concatenation hole_left c q) b) = omega (arith, le) in
        let middle : Shallow (concatenation whole (application h c b) q) =
        omega (arith, le) in
        let end : Shallow (concatenation whole (filling b c) q) =
        omega (arith, le, filling-flat b c) in
        let part : Shallow q = omega (arith, le) in
        by_way_of-good Shallow way _ _ _ _ _
        (turned-good Shallow way _ _ _ x middle) (
          filling-shallow c (omega (arith, le)),
          (part, part),
          turned-good Shallow way _ _ _ middle
              end,
        ) x end
    filling-shallow (concatenation hole_right q c) le =
        let x : Shallow (application h (concatenation hole_right q c) b) = omega (arith, le) in
        let middle : Shallow (concatenation whole q (application h c b)) =
        omega (arith, le) in
        let end : Shallow (concatenation whole q (filling b c)) =
        omega (arith, le, filling-flat b c) in
        let part : Shallow q = omega (arith, le) in
        by_way_of-good Shallow way _ _ _ _ _
        (turned-good Shallow way _ _ _ x middle) (
          (part, part),
          filling-shallow c (omega (arith, le)),
          turned-good Shallow way _ _ _ middle
              end,
        ) x end
    filling-shallow (grove_sum_hole c q) le =
        let x : Shallow (application h (grove_sum_hole c q) b) = omega (arith, le) in
        let middle : Shallow (grove_sum (application h c b) q) =
        omega (arith, le) in
        let end : Shallow (grove_sum (filling b c) q) =
        omega (arith, le, filling-flat b c) in
        let part : Shallow q = omega (arith, le) in
        by_way_of-good Shallow way _ _ _ _ _
        (turned-good Shallow way _ _ _ x middle) (
          filling-shallow c (omega (arith, le)),
          (part, part),
          turned-good Shallow way _ _ _ middle
              end,
        ) x end
    filling-shallow c le =
        turned-good Shallow way _ _ _ (omega (arith, le)) (omega (arith, le))

  application-shallow : (way : Way) (p : Named) → parts p + (depth p + 1) ≤ most
      → IsShallow (plan_of_application way p)
  application-shallow way (application h c b) le = filling-shallow way h b c (omega (arith, le))
  application-shallow way p le = (omega (arith, le), omega (arith, le))

-- FORMS: what becomes of a formula has at most one more open for each part
mutual
  tidied-flat : (p : Named) → depth (tidied p) ≤ parts p + depth p
  tidied-flat (node_formula name number p list) =
      omega (arith, absorbed-flat p (empty forest))
  tidied-flat p = omega arith

  absorbed-flat : (p r : Named) → depth (absorbed p r) ≤ parts p + max (depth p) (depth r)
  absorbed-flat (empty forest) r = omega arith
  absorbed-flat (concatenation whole p q) r =
      omega (arith, absorbed-flat p (absorbed q r), absorbed-flat q r)
  absorbed-flat (one_tree p) r =
      omega (arith, tidied-flat p)
  absorbed-flat p r = omega arith

roots-flat : (p r : Named) → depth (absorbed_roots p r) ≤ parts p + max (depth p) (depth r)
roots-flat (empty grove) r = omega arith
roots-flat (grove_sum p q) r =
    omega (arith, roots-flat p (absorbed_roots q r), roots-flat q r)
roots-flat (one_root p) r =
    omega (arith, tidied-flat p)
roots-flat p r = omega arith

module _ (most : ℕ) (way : Way) where
  from_alone-shallow : (plan : Plan) (p : Named) → parts p + (depth p + 1) ≤ most
      → IsShallow most plan → IsShallow most (from_alone way plan p)
  from_alone-shallow plan p le x =
      let end : depth (absorbed p (empty forest)) ≤ most =
      omega (arith, absorbed-flat p (empty forest), le) in
      let start : depth (concatenation whole p (empty forest)) ≤ most =
      omega (arith, le) in
      let own : depth p ≤ most = omega (arith, le) in
      by_way_of-good (Shallow most) way _ plan p (absorbed p (empty forest)) (shape forest)
      (turned-good (Shallow most) (other way) _ _ _ start own) x own end

  mutual
    tree-shallow : (p : Named) → parts p + (depth p + 1) ≤ most
        → IsShallow most (tree_plan way p)
    tree-shallow (node_formula name number p list) le =
        let end : depth (node_formula name number (absorbed p (empty forest)) list) ≤ most =
        omega (arith, le, absorbed-flat p (empty forest)) in
        let start : depth (node_formula name number p list) ≤ most = omega (arith, le) in (
          from_alone-shallow (forest_plan way p (empty forest)) p
              (omega (arith, le))
              (forest-shallow p (empty forest) (omega (arith, le))),
          turned-good (Shallow most) way _ _ _ start end,
        )
    tree-shallow p le = (omega (arith, le), omega (arith, le))

    forest-shallow : (p t : Named) → parts p + (max (depth p) (depth t) + 1) ≤ most
        → IsShallow most (forest_plan way p t)
    forest-shallow (empty forest) t le =
        turned-good (Shallow most) way _ _ _ (omega (arith, le))
        (omega (arith, le))
    forest-shallow (concatenation whole p q) t le =
        let rest-flat = absorbed-flat q t in
        let start : depth (concatenation whole (concatenation whole p q) t) ≤ most =
        omega (arith, le) in
        let middle : depth (concatenation whole p (concatenation whole q t)) ≤ most =
        omega (arith, le) in
        let next : depth (concatenation whole p (absorbed q t)) ≤ most =
        omega (arith, le, rest-flat) in
        let end : depth (absorbed p (absorbed q t)) ≤ most =
        omega (arith, le, absorbed-flat p (absorbed q t), rest-flat) in
        let own : depth p ≤ most = omega (arith, le) in
        by_way_of-good (Shallow most) way _ _ _ _ _
        (turned-good (Shallow most) way _ _ _ start middle)
        (by_way_of-good (Shallow most) way _ _ _ _ _ (
          (own, own),
          forest-shallow q t (omega (arith, le)),
          turned-good (Shallow most) way _ _ _ middle next,
        )
        (forest-shallow p (absorbed q t) (omega (arith, le, rest-flat))) middle end)
        start end
    forest-shallow (one_tree p) t le =
        let narrow = tidied-flat p in
        let start : depth (concatenation whole (one_tree p) t) ≤ most =
        omega (arith, le) in
        let end : depth (concatenation whole (one_tree (tidied p)) t) ≤ most =
        omega (arith, le, narrow) in
        let tidy : depth (one_tree (tidied p)) ≤ most =
        omega (arith, le, narrow) in
        let own : depth (one_tree p) ≤ most = omega (arith, le) in
        let rest : depth t ≤ most = omega (arith, le) in (
          (tree-shallow p (omega (arith, le)), turned-good (Shallow most) way _ _ _ own tidy),
          (rest, rest),
          turned-good (Shallow most) way _ _ _ start end,
        )
    forest-shallow p t le =
        (omega (arith, le), omega (arith, le))

  grove-shallow : (p t : Named) → parts p + (max (depth p) (depth t) + 1) ≤ most
      → IsShallow most (grove_plan way p t)
  grove-shallow (empty grove) t le =
      let start : depth (grove_sum (empty grove) t) ≤ most =
      omega (arith, le) in
      let middle : depth (grove_sum t (empty grove)) ≤ most =
      omega (arith, le) in
      let end : depth t ≤ most = omega (arith, le) in
      by_way_of-good (Shallow most) way _ _ _ _ _ (turned-good (Shallow most) way _ _ _ start
      middle)
      (turned-good (Shallow most) way _ _ _ middle end) start end
  grove-shallow (grove_sum p q) t le =
      let rest-flat = roots-flat q t in
      let start : depth (grove_sum (grove_sum p q) t) ≤ most =
      omega (arith, le) in
      let middle : depth (grove_sum p (grove_sum q t)) ≤ most =
      omega (arith, le) in
      let next : depth (grove_sum p (absorbed_roots q t)) ≤ most =
      omega (arith, le, rest-flat) in
      let end : depth (absorbed_roots p (absorbed_roots q t)) ≤ most =
      omega (arith, le, roots-flat p (absorbed_roots q t), rest-flat) in
      let own : depth p ≤ most = omega (arith, le) in
      by_way_of-good (Shallow most) way _ _ _ _ _
      (turned-good (Shallow most) way _ _ _ start middle)
      (by_way_of-good (Shallow most) way _ _ _ _ _ (
        (own, own),
        grove-shallow q t (omega (arith, le)),
        turned-good (Shallow most) way _ _ _ middle next,
      )
      (grove-shallow p (absorbed_roots q t) (omega (arith, le, rest-flat))) middle end)
      start end
  grove-shallow (one_root p) t le =
      let narrow = tidied-flat p in
      let start : depth (grove_sum (one_root p) t) ≤ most =
      omega (arith, le) in
      let end : depth (grove_sum (one_root (tidied p)) t) ≤ most =
      omega (arith, le, narrow) in
      let tidy : depth (one_root (tidied p)) ≤ most =
      omega (arith, le, narrow) in
      let own : depth (one_root p) ≤ most = omega (arith, le) in
      let rest : depth t ≤ most = omega (arith, le) in (
        (tree-shallow p (omega (arith, le)), turned-good (Shallow most) way _ _ _ own tidy),
        (rest, rest),
        turned-good (Shallow most) way _ _ _ start end,
      )
  grove-shallow p t le = (omega (arith, le), omega (arith, le))

  sum-shallow : (p : Named) → parts p + (depth p + 1) ≤ most
      → IsShallow most (sum_plan way p)
  sum-shallow p le =
      let start : depth (grove_sum p (empty grove)) ≤ most =
      omega (arith, le) in
      let end : depth (absorbed_roots p (empty grove)) ≤ most =
      omega (arith, roots-flat p (empty grove), le) in
      let own : depth p ≤ most = omega (arith, le) in
      by_way_of-good (Shallow most) way _ _ _ _ _
      (turned-good (Shallow most) (other way) _ _ _ start own)
      (grove-shallow p (empty grove) (omega (arith, le))) own end

-- THE ORDER OF ROOTS
without-flat : (q : Named) (ps : List Named) → depth (sum_of (without_named q ps)) ≤ depth
    (sum_of ps)
without-flat q [] = omega arith
without-flat q (p ∷ ps) = by_test (same_named q p) (without-flat q ps)
  where
    by_test : (b : Bool) → depth (sum_of (without_named q ps)) ≤ depth (sum_of ps)
        → depth (sum_of (cond b ps (p ∷ without_named q ps))) ≤ depth (grove_sum p (sum_of ps))
    by_test true le = omega arith
    by_test false le =
        omega (arith, le)

module _ (most : ℕ) where
  pass-shallow : (x q whole_rest rest : Named) (plan : Plan) → depth rest ≤ depth whole_rest
      → max (depth x) (max (depth whole_rest) (depth q)) + 2 ≤ most → IsShallow most plan
      → IsShallow most (pass x q whole_rest rest plan)
  pass-shallow x q whole_rest rest plan less le done =
      let start : depth (grove_sum x whole_rest) ≤ most =
      omega (arith, le) in
      let first : depth (grove_sum x (grove_sum q rest)) ≤ most =
      omega (arith, less, le) in
      let second : depth (grove_sum (grove_sum x q) rest) ≤ most =
      omega (arith, less, le) in
      let third : depth (grove_sum (grove_sum q x) rest) ≤ most =
      omega (arith, less, le) in
      let end : depth (grove_sum q (grove_sum x rest)) ≤ most =
      omega (arith, less, le) in
      let own : depth x ≤ most = omega (arith, le) in
      let others : depth rest ≤ most = omega (arith, less, le) in
      let two : depth (grove_sum x q) ≤ most = omega (arith, le) in
      let swapped : depth (grove_sum q x) ≤ most = omega (arith, le) in (
        ((own, own), done, (start, first)),
        (
          (first, second),
          (
            ((two, swapped), (others, others), (second, third)),
            (third, end),
            (second, end),
          ),
          (first, end),
        ),
        (start, end),
      )

  front-shallow : (q : Named) (ps : List Named) → max (depth (sum_of ps)) (depth q) + 2 ≤ most
      → IsShallow most (to_front q ps)
  front-shallow q [] le = (omega (arith, le), omega (arith, le))
  front-shallow q (p ∷ ps) le =
      by_test (same_named q p)
      (front-shallow q ps (omega (arith, le)))
    where
      by_test : (b : Bool) → IsShallow most (to_front q ps)
          → IsShallow most (cond b
          (alone (codes "id") (entails (grove_sum p (sum_of ps)) (grove_sum q (sum_of ps))
          (shape grove)))
          (pass p q (sum_of ps) (sum_of (without_named q ps)) (to_front q ps)))
      by_test true x = (
        omega (arith, le),
        omega (arith, le),
      )
      by_test false x =
          pass-shallow p q (sum_of ps) (sum_of (without_named q ps)) (to_front q ps)
          (without-flat q ps) (omega (arith, le)) x

  order-shallow : (ps qs : List Named) → max (depth (sum_of ps)) (depth (sum_of qs)) + 2 ≤ most
      → IsShallow most (in_order ps qs)
  order-shallow ps [] le = (omega (arith, le), omega (arith, le))
  order-shallow ps (q ∷ qs) le =
      let less = without-flat q ps in
      let start : depth (sum_of ps) ≤ most = omega (arith, le) in
      let middle : depth (grove_sum q (sum_of (without_named q ps))) ≤ most =
      omega (arith, less, le) in
      let end : depth (grove_sum q (sum_of qs)) ≤ most = omega (arith, le) in
      let own : depth q ≤ most = omega (arith, le) in (
        front-shallow q ps (omega (arith, le)),
        (
          (own, own),
          order-shallow (without_named q ps) qs (omega (arith, less, le)),
          (middle, end),
        ),
        (start, end),
      )

  form-shallow : (s : Sort) (p q : Named) → max (depth p) (depth q) + (parts p + parts q + 2) ≤ most
      → IsShallow most (form_plan s p q)
  form-shallow (shape tree) p q le = (
    tree-shallow most onward p (omega (arith, le)),
    tree-shallow most backward q (omega (arith, le)),
    (omega (arith, le), omega (arith, le)),
  )
  form-shallow (shape forest) p q le = (
    from_alone-shallow most onward (forest_plan onward p (empty forest)) p (omega (arith, le))
        (forest-shallow most onward p (empty forest) (omega (arith, le))),
    from_alone-shallow most backward (forest_plan backward q (empty forest)) q (omega (arith, le))
        (forest-shallow most backward q (empty forest) (omega (arith, le))),
    (omega (arith, le), omega (arith, le)),
  )
  form-shallow (shape grove) p q le =
      let left = roots-flat p (empty grove) in
      let right = roots-flat q (empty grove) in
      let left-sum : depth (absorbed_roots p (empty grove)) ≡ depth (sum_of (grove_parts p)) =
      ap depth (absorbed_roots-sum p) in
      let right-sum : depth (absorbed_roots q (empty grove)) ≡ depth (sum_of (grove_parts q)) =
      ap depth (absorbed_roots-sum q) in (
        sum-shallow most onward p (omega (arith, le)),
        (
          order-shallow (grove_parts p) (grove_parts q)
              (omega (arith, le, left, right, left-sum, right-sum)),
          sum-shallow most backward q (omega (arith, le)),
          (omega (arith, le, left), omega (arith, le)),
        ),
        (omega (arith, le), omega (arith, le)),
      )
  form-shallow (value v) p q le = (omega (arith, le), omega (arith, le))
  form-shallow (context d e) p q le = (omega (arith, le), omega (arith, le))

-- THE PLANS, with most as the asked judgement allows
abbrev pub allowed : Named → Named → ℕ
allowed p q = max (depth p) (depth q) + (parts p + parts q + 2)

pub conjuncts-shallow : (p q : Named) (s : Sort)
    → IfSome (plan_by_conjuncts (entails p q s)) (IsShallow (allowed p q))
conjuncts-shallow p q s =
    conjuncts-good (Shallow (allowed p q))
    (λ p q h. (omega (arith, h), omega (arith, h))) p q s (omega arith)
    (omega arith)

pub form-plan-shallow : (p q : Named) (s : Sort)
    → IfSome (plan_by_form (entails p q s)) (IsShallow (allowed p q))
form-plan-shallow p q s = by_test (is_obvious_by_form (entails (nameless p) (nameless q) s))
  where
    by_test : (b : Bool) → IfSome (cond b (Some (form_plan s p q)) None) (IsShallow (allowed p q))
    by_test true = form-shallow (allowed p q) s p q (omega arith)
    by_test false = tt

pub filling-plan-shallow : (p q : Named) (s : Sort)
    → IfSome (plan_by_filling (entails p q s)) (IsShallow (allowed p q))
filling-plan-shallow p q (shape k) =
    by_tests (fills (nameless p) (nameless q)) (fills (nameless q) (nameless p))
  where
    by_tests : (a b : Bool)
        → IfSome (cond a (Some (plan_of_application onward p))
        (cond b (Some (plan_of_application backward q)) None)) (IsShallow (allowed p q))
    by_tests true b = application-shallow (allowed p q) onward p (omega arith)
    by_tests false true = application-shallow (allowed p q) backward q (omega arith)
    by_tests false false = tt
filling-plan-shallow p q (value v) = tt
filling-plan-shallow p q (context d e) = tt
