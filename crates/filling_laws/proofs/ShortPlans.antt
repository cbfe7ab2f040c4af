-- No formula of a plan is much wider than the sides of the asked judgement: none is more than one
-- and a half times as wide, but for a few bytes.
use Rattle.std.proofs.Common.{◌≡◌, ℕ, ◌+◌, ◌*◌, ◌≤◌, Bool, true, false, cond, List, [], ◌∷◌, Some, None, IfSome, ap, codes, arith}
use Rattle.model_shapes.specs.Sorts.{Sort, DataSort, shape, context, value, tree, forest, grove}
use Rattle.model_terms.specs.Terms.{Term}
use Rattle.model_formulas.specs.Formulas.{Named, whole, hole_left, hole_right, empty, bare_hole, node_formula, one_tree, one_root, concatenation, grove_sum, grove_sum_hole, application}
use Rattle.model_formulas.specs.Nameless.{nameless}
use Rattle.model_commands.specs.Theories.{entails}
use Rattle.model_grammar.specs.Writable.{IsWritable}
use Rattle.assistant_laws.specs.Forms.{grove_parts}
use Rattle.assistant_laws.specs.Fillings.{filling, fills}
use Rattle.assistant_laws.specs.Obvious.{is_obvious_by_form}
use Rattle.assistant_laws.specs.Plans.{Plan, alone}
use Rattle.assistant_laws.specs.ConjunctPlans.{same_named, plan_by_conjuncts}
use Rattle.assistant_laws.specs.Ways.{Way, onward, backward, other}
use Rattle.assistant_laws.specs.FillingPlans.{filling_plan, plan_of_application, plan_by_filling}
use Rattle.assistant_laws.specs.FormPlans.{tidied, absorbed, absorbed_roots, from_alone, tree_plan, forest_plan, grove_plan, sum_plan, sum_of, without_named, pass, to_front, in_order, form_plan, plan_by_form}
use Rattle.assistant_laws.proofs.Forms.{absorbed_roots-sum}
use Rattle.filling_laws.proofs.EachFormula.{IsGood, turned-good, by_way_of-good, conjuncts-good}
use Rattle.filling_laws.proofs.Widths.{wide, and-wide, star-wide, left-wide, right-wide, plus-wide, plus_hole-wide, application-wide, tree-wide, root-wide, around, node-wide, term-width}

module _ (most : ℕ) where
  -- twice the formula isn't wider than the most
  abbrev pub Short : Named → Type 0
  Short p = 2 * wide p ≤ most

  abbrev pub IsShort : Plan → Type 0
  IsShort = IsGood Short

  -- FILLING
  filling-narrow : (b c : Named) → wide (filling b c) ≤ wide c + wide b
  filling-narrow b (bare_hole k) = omega arith
  filling-narrow b (node_formula name number c list) =
      omega (
        arith,
        node-wide name number c list,
        node-wide name number (filling b c) list,
        filling-narrow b c,
      )
  filling-narrow b (one_tree c) =
      omega (arith, tree-wide c, tree-wide (filling b c), filling-narrow b c)
  filling-narrow b (one_root c) =
      omega (arith, root-wide c, root-wide (filling b c), filling-narrow b c)
  filling-narrow b (concatenation hole_left c q) =
      omega (arith, left-wide c q, star-wide (filling b c) q, filling-narrow b c)
  filling-narrow b (concatenation hole_right q c) =
      omega (arith, right-wide q c, star-wide q (filling b c), filling-narrow b c)
  filling-narrow b (grove_sum_hole c q) =
      omega (arith, plus_hole-wide c q, plus-wide (filling b c) q, filling-narrow b c)
  filling-narrow b c = omega arith

  module _ (way : Way) (h : DataSort) (b : Named) where
    filling-short : (c : Named) → Short (application h c b) → IsShort (filling_plan way h b c)
    filling-short (node_formula name number c list) x =
        let size = node-wide name number c list in
        let start = application-wide h (node_formula name number c list) b in
        let inner : Short (application h c b) =
        omega (arith, size, start, x, application-wide h c b) in
        let middle : Short (node_formula name number (application h c b) list) =
        omega (
          arith,
          size,
          start,
          x,
          application-wide h c b,
          node-wide name number (application h c b) list,
        ) in
        let end : Short (node_formula name number (filling b c) list) =
        omega (
          arith,
          size,
          start,
          x,
          filling-narrow b c,
          node-wide name number (filling b c) list,
        ) in
        by_way_of-good Short way _ _ _ _ _
        (turned-good Short way _ _ _ x middle)
        (filling-short c inner, turned-good Short way _ _ _ middle end) x end
    filling-short (one_tree c) x =
        let size = tree-wide c in
        let start = application-wide h (one_tree c) b in
        let inner : Short (application h c b) =
        omega (arith, size, start, x, application-wide h c b) in
        let middle : Short (one_tree (application h c b)) =
        omega (arith, size, start, x, application-wide h c b, tree-wide (application h c b)) in
        let end : Short (one_tree (filling b c)) =
        omega (arith, size, start, x, filling-narrow b c, tree-wide (filling b c)) in
        by_way_of-good Short way _ _ _ _ _
        (turned-good Short way _ _ _ x middle)
        (filling-short c inner, turned-good Short way _ _ _ middle end) x end
    filling-short (one_root c) x =
        let size = root-wide c in
        let start = application-wide h (one_root c) b in
        let inner : Short (application h c b) =
        omega (arith, size, start, x, application-wide h c b) in
        let middle : Short (one_root (application h c b)) =
        omega (arith, size, start, x, application-wide h c b, root-wide (application h c b)) in
        let end : Short (one_root (filling b c)) =
        omega (arith, size, start, x, filling-narrow b c, root-wide (filling b c)) in
        by_way_of-good Short way _ _ _ _ _
        (turned-good Short way _ _ _ x middle)
        (filling-short c inner, turned-good Short way _ _ _ middle end) x end
    filling-short (concatenation hole_left c q) x =
        let size = left-wide c q in
        let start = application-wide h (concatenation hole_left c q) b in
        let inner : Short (application h c b) =
        omega (arith, size, start, x, application-wide h c b) in
        let middle : Short (concatenation whole (application h c b) q) =
        omega (arith, size, start, x, application-wide h c b, star-wide (application h c b) q) in
        let end : Short (concatenation whole (filling b c) q) =
        omega (arith, size, start, x, filling-narrow b c, star-wide (filling b c) q) in
        let part : Short q = omega (arith, size, start, x) in
        by_way_of-good Short way _ _ _ _ _
        (turned-good Short way _ _ _ x middle)
        (filling-short c inner, (part, part), turned-good Short way _ _ _ middle end) x end
    filling-short (concatenation hole_right q c) x =
        let size = right-wide q c in
        let start = application-wide h (concatenation hole_right q c) b in
        let inner : Short (application h c b) =
        omega (arith, size, start, x, application-wide h c b) in
        let middle : Short (concatenation whole q (application h c b)) =
        omega (arith, size, start, x, application-wide h c b, star-wide q (application h c b)) in
        let end : Short (concatenation whole q (filling b c)) =
        omega (arith, size, start, x, filling-narrow b c, star-wide q (filling b c)) in
        let part : Short q = omega (arith, size, start, x) in
        by_way_of-good Short way _ _ _ _ _
        (turned-good Short way _ _ _ x middle)
        ((part, part), filling-short c inner, turned-good Short way _ _ _ middle end) x end
    filling-short (grove_sum_hole c q) x =
        let size = plus_hole-wide c q in
        let start = application-wide h (grove_sum_hole c q) b in
        let inner : Short (application h c b) =
        omega (arith, size, start, x, application-wide h c b) in
        let middle : Short (grove_sum (application h c b) q) =
        omega (arith, size, start, x, application-wide h c b, plus-wide (application h c b) q) in
        let end : Short (grove_sum (filling b c) q) =
        omega (arith, size, start, x, filling-narrow b c, plus-wide (filling b c) q) in
        let part : Short q = omega (arith, size, start, x) in
        by_way_of-good Short way _ _ _ _ _
        (turned-good Short way _ _ _ x middle)
        (filling-short c inner, (part, part), turned-good Short way _ _ _ middle end) x end
    filling-short c x =
        turned-good Short way _ _ _ x (omega (arith, application-wide h c b, x))

  application-short : (way : Way) (p : Named) → Short p → IsShort (plan_of_application way p)
  application-short way (application h c b) x = filling-short way h b c x
  application-short way p x = (x, x)

-- FORMS: what is around the parts of a node is wide enough for the end of its row
around-wide : (name number list : Term) (p : Named)
    → IsWritable (node_formula name number p list) → 14 ≤ around name number list
around-wide name number list p h =
    omega (arith, term-width name h.0, term-width number h.1, term-width list h.3)

mutual
  tidied-narrow : (p : Named) → IsWritable p → 2 * wide (tidied p) ≤ 3 * wide p + 4
  tidied-narrow (node_formula name number p list) h =
      omega (
        arith,
        around-wide name number list p h,
        node-wide name number p list,
        node-wide name number (absorbed p (empty forest)) list,
        absorbed-narrow p (empty forest) h.2,
      )
  tidied-narrow p h = omega arith

  absorbed-narrow : (p r : Named) → IsWritable p
      → 2 * wide (absorbed p r) ≤ 3 * wide p + (2 * wide r + 12)
  absorbed-narrow (empty forest) r h = omega arith
  absorbed-narrow (concatenation whole p q) r h =
      omega (arith, star-wide p q, absorbed-narrow p (absorbed q r) h.0, absorbed-narrow q r h.1)
  absorbed-narrow (one_tree p) r h =
      omega (
        arith,
        tree-wide p,
        tree-wide (tidied p),
        star-wide (one_tree (tidied p)) r,
        tidied-narrow p h,
      )
  absorbed-narrow p r h = omega (arith, star-wide p r)

roots-narrow : (p r : Named) → IsWritable p
    → 2 * wide (absorbed_roots p r) ≤ 3 * wide p + (2 * wide r + 12)
roots-narrow (empty grove) r h = omega arith
roots-narrow (grove_sum p q) r h =
    omega (arith, plus-wide p q, roots-narrow p (absorbed_roots q r) h.0, roots-narrow q r h.1)
roots-narrow (one_root p) r h =
    omega (
      arith,
      root-wide p,
      root-wide (tidied p),
      plus-wide (one_root (tidied p)) r,
      tidied-narrow p h,
    )
roots-narrow p r h = omega (arith, plus-wide p r)

module _ (most : ℕ) (way : Way) where
  from_alone-short : (plan : Plan) (p : Named) → IsWritable p → 3 * wide p + 18 ≤ most
      → IsShort most plan → IsShort most (from_alone way plan p)
  from_alone-short plan p h le x =
      let end : 2 * wide (absorbed p (empty forest)) ≤ most =
      omega (arith, absorbed-narrow p (empty forest) h, le) in
      let start : 2 * wide (concatenation whole p (empty forest)) ≤ most =
      omega (arith, star-wide p (empty forest), le) in
      let own : 2 * wide p ≤ most = omega (arith, le) in
      by_way_of-good (Short most) way _ plan p (absorbed p (empty forest)) (shape forest)
      (turned-good (Short most) (other way) _ _ _ start own) x own end

  mutual
    tree-short : (p : Named) → IsWritable p → 3 * wide p + 4 ≤ most
        → IsShort most (tree_plan way p)
    tree-short (node_formula name number p list) h le =
        let size = node-wide name number p list in
        let around = around-wide name number list p h in
        let end : 2 * wide (node_formula name number (absorbed p (empty forest)) list) ≤ most =
        omega (
          arith,
          size,
          around,
          le,
          absorbed-narrow p (empty forest) h.2,
          node-wide name number (absorbed p (empty forest)) list,
        ) in
        let start : 2 * wide (node_formula name number p list) ≤ most = omega (arith, le) in (
          from_alone-short (forest_plan way p (empty forest)) p h.2
              (omega (arith, size, around, le))
              (forest-short p (empty forest) h.2 (omega (arith, size, around, le))),
          turned-good (Short most) way _ _ _ start end,
        )
    tree-short p h le = (omega (arith, le), omega (arith, le))

    forest-short : (p t : Named) → IsWritable p → 3 * wide p + (2 * wide t + 12) ≤ most
        → IsShort most (forest_plan way p t)
    forest-short (empty forest) t h le =
        turned-good (Short most) way _ _ _ (omega (arith, star-wide (empty forest) t, le))
        (omega (arith, le))
    forest-short (concatenation whole p q) t h le =
        let size = star-wide p q in
        let rest-narrow = absorbed-narrow q t h.1 in
        let start : 2 * wide (concatenation whole (concatenation whole p q) t) ≤ most =
        omega (arith, size, le, star-wide (concatenation whole p q) t) in
        let middle : 2 * wide (concatenation whole p (concatenation whole q t)) ≤ most =
        omega (arith, size, le, star-wide p (concatenation whole q t), star-wide q t) in
        let next : 2 * wide (concatenation whole p (absorbed q t)) ≤ most =
        omega (arith, size, le, star-wide p (absorbed q t), rest-narrow) in
        let end : 2 * wide (absorbed p (absorbed q t)) ≤ most =
        omega (arith, size, le, absorbed-narrow p (absorbed q t) h.0, rest-narrow) in
        let own : 2 * wide p ≤ most = omega (arith, size, le) in
        by_way_of-good (Short most) way _ _ _ _ _
        (turned-good (Short most) way _ _ _ start middle)
        (by_way_of-good (Short most) way _ _ _ _ _ (
          (own, own),
          forest-short q t h.1 (omega (arith, size, le)),
          turned-good (Short most) way _ _ _ middle next,
        )
        (forest-short p (absorbed q t) h.0 (omega (arith, size, le, rest-narrow))) middle end)
        start end
    forest-short (one_tree p) t h le =
        let size = tree-wide p in
        let narrow = tidied-narrow p h in
        let start : 2 * wide (concatenation whole (one_tree p) t) ≤ most =
        omega (arith, le, star-wide (one_tree p) t) in
        let end : 2 * wide (concatenation whole (one_tree (tidied p)) t) ≤ most =
        omega (arith, size, le, narrow, star-wide (one_tree (tidied p)) t, tree-wide (tidied p)) in
        let tidy : 2 * wide (one_tree (tidied p)) ≤ most =
        omega (arith, size, le, narrow, tree-wide (tidied p)) in
        let own : 2 * wide (one_tree p) ≤ most = omega (arith, le) in
        let rest : 2 * wide t ≤ most = omega (arith, le) in (
          (tree-short p h (omega (arith, size, le)), turned-good (Short most) way _ _ _ own tidy),
          (rest, rest),
          turned-good (Short most) way _ _ _ start end,
        )
    forest-short p t h le =
        (omega (arith, star-wide p t, le), omega (arith, star-wide p t, le))

  grove-short : (p t : Named) → IsWritable p → 3 * wide p + (2 * wide t + 12) ≤ most
      → IsShort most (grove_plan way p t)
  grove-short (empty grove) t h le =
      let start : 2 * wide (grove_sum (empty grove) t) ≤ most =
      omega (arith, plus-wide (empty grove) t, le) in
      let middle : 2 * wide (grove_sum t (empty grove)) ≤ most =
      omega (arith, plus-wide t (empty grove), le) in
      let end : 2 * wide t ≤ most = omega (arith, le) in
      by_way_of-good (Short most) way _ _ _ _ _ (turned-good (Short most) way _ _ _ start middle)
      (turned-good (Short most) way _ _ _ middle end) start end
  grove-short (grove_sum p q) t h le =
      let size = plus-wide p q in
      let rest-narrow = roots-narrow q t h.1 in
      let start : 2 * wide (grove_sum (grove_sum p q) t) ≤ most =
      omega (arith, size, le, plus-wide (grove_sum p q) t) in
      let middle : 2 * wide (grove_sum p (grove_sum q t)) ≤ most =
      omega (arith, size, le, plus-wide p (grove_sum q t), plus-wide q t) in
      let next : 2 * wide (grove_sum p (absorbed_roots q t)) ≤ most =
      omega (arith, size, le, plus-wide p (absorbed_roots q t), rest-narrow) in
      let end : 2 * wide (absorbed_roots p (absorbed_roots q t)) ≤ most =
      omega (arith, size, le, roots-narrow p (absorbed_roots q t) h.0, rest-narrow) in
      let own : 2 * wide p ≤ most = omega (arith, size, le) in
      by_way_of-good (Short most) way _ _ _ _ _
      (turned-good (Short most) way _ _ _ start middle)
      (by_way_of-good (Short most) way _ _ _ _ _ (
        (own, own),
        grove-short q t h.1 (omega (arith, size, le)),
        turned-good (Short most) way _ _ _ middle next,
      )
      (grove-short p (absorbed_roots q t) h.0 (omega (arith, size, le, rest-narrow))) middle end)
      start end
  grove-short (one_root p) t h le =
      let size = root-wide p in
      let narrow = tidied-narrow p h in
      let start : 2 * wide (grove_sum (one_root p) t) ≤ most =
      omega (arith, le, plus-wide (one_root p) t) in
      let end : 2 * wide (grove_sum (one_root (tidied p)) t) ≤ most =
      omega (arith, size, le, narrow, plus-wide (one_root (tidied p)) t, root-wide (tidied p)) in
      let tidy : 2 * wide (one_root (tidied p)) ≤ most =
      omega (arith, size, le, narrow, root-wide (tidied p)) in
      let own : 2 * wide (one_root p) ≤ most = omega (arith, le) in
      let rest : 2 * wide t ≤ most = omega (arith, le) in (
        (tree-short p h (omega (arith, size, le)), turned-good (Short most) way _ _ _ own tidy),
        (rest, rest),
        turned-good (Short most) way _ _ _ start end,
      )
  grove-short p t h le = (omega (arith, plus-wide p t, le), omega (arith, plus-wide p t, le))

  sum-short : (p : Named) → IsWritable p → 3 * wide p + 18 ≤ most
      → IsShort most (sum_plan way p)
  sum-short p h le =
      let start : 2 * wide (grove_sum p (empty grove)) ≤ most =
      omega (arith, plus-wide p (empty grove), le) in
      let end : 2 * wide (absorbed_roots p (empty grove)) ≤ most =
      omega (arith, roots-narrow p (empty grove) h, le) in
      let own : 2 * wide p ≤ most = omega (arith, le) in
      by_way_of-good (Short most) way _ _ _ _ _
      (turned-good (Short most) (other way) _ _ _ start own)
      (grove-short p (empty grove) h (omega (arith, le))) own end

-- THE ORDER OF ROOTS
without-narrow : (q : Named) (ps : List Named) → wide (sum_of (without_named q ps)) ≤ wide
    (sum_of ps)
without-narrow q [] = omega arith
without-narrow q (p ∷ ps) = by_test (same_named q p) (without-narrow q ps)
  where
    by_test : (b : Bool) → wide (sum_of (without_named q ps)) ≤ wide (sum_of ps)
        → wide (sum_of (cond b ps (p ∷ without_named q ps))) ≤ wide (grove_sum p (sum_of ps))
    by_test true le = omega (arith, plus-wide p (sum_of ps))
    by_test false le =
        omega (arith, plus-wide p (sum_of ps), plus-wide p (sum_of (without_named q ps)), le)

module _ (most : ℕ) where
  pass-short : (x q whole_rest rest : Named) (plan : Plan) → wide rest ≤ wide whole_rest
      → 2 * (wide x + (wide whole_rest + (wide q + 12))) ≤ most → IsShort most plan
      → IsShort most (pass x q whole_rest rest plan)
  pass-short x q whole_rest rest plan less le done =
      let start : 2 * wide (grove_sum x whole_rest) ≤ most =
      omega (arith, plus-wide x whole_rest, le) in
      let first : 2 * wide (grove_sum x (grove_sum q rest)) ≤ most =
      omega (arith, plus-wide x (grove_sum q rest), plus-wide q rest, less, le) in
      let second : 2 * wide (grove_sum (grove_sum x q) rest) ≤ most =
      omega (arith, plus-wide (grove_sum x q) rest, plus-wide x q, less, le) in
      let third : 2 * wide (grove_sum (grove_sum q x) rest) ≤ most =
      omega (arith, plus-wide (grove_sum q x) rest, plus-wide q x, less, le) in
      let end : 2 * wide (grove_sum q (grove_sum x rest)) ≤ most =
      omega (arith, plus-wide q (grove_sum x rest), plus-wide x rest, less, le) in
      let own : 2 * wide x ≤ most = omega (arith, le) in
      let others : 2 * wide rest ≤ most = omega (arith, less, le) in
      let two : 2 * wide (grove_sum x q) ≤ most = omega (arith, plus-wide x q, le) in
      let swapped : 2 * wide (grove_sum q x) ≤ most = omega (arith, plus-wide q x, le) in (
        ((own, own), done, (start, first)),
        (
          (first, second),
          (
            ((two, swapped), (others, others), (second, third)),
            (third, end),
            (second, end),
          ),
          (first, end),
        ),
        (start, end),
      )

  front-short : (q : Named) (ps : List Named) → 2 * (wide (sum_of ps) + (wide q + 6)) ≤ most
      → IsShort most (to_front q ps)
  front-short q [] le = (omega (arith, le), omega (arith, le))
  front-short q (p ∷ ps) le =
      by_test (same_named q p)
      (front-short q ps (omega (arith, plus-wide p (sum_of ps), le)))
    where
      by_test : (b : Bool) → IsShort most (to_front q ps)
          → IsShort most (cond b
          (alone (codes "id") (entails (grove_sum p (sum_of ps)) (grove_sum q (sum_of ps))
          (shape grove)))
          (pass p q (sum_of ps) (sum_of (without_named q ps)) (to_front q ps)))
      by_test true x = (
        omega (arith, le),
        omega (arith, plus-wide q (sum_of ps), plus-wide p (sum_of ps), le),
      )
      by_test false x =
          pass-short p q (sum_of ps) (sum_of (without_named q ps)) (to_front q ps)
          (without-narrow q ps) (omega (arith, plus-wide p (sum_of ps), le)) x

  order-short : (ps qs : List Named) → 2 * (wide (sum_of ps) + wide (sum_of qs)) ≤ most
      → IsShort most (in_order ps qs)
  order-short ps [] le = (omega (arith, le), omega (arith, le))
  order-short ps (q ∷ qs) le =
      let size = plus-wide q (sum_of qs) in
      let less = without-narrow q ps in
      let start : 2 * wide (sum_of ps) ≤ most = omega (arith, le) in
      let middle : 2 * wide (grove_sum q (sum_of (without_named q ps))) ≤ most =
      omega (arith, size, less, le, plus-wide q (sum_of (without_named q ps))) in
      let end : 2 * wide (grove_sum q (sum_of qs)) ≤ most = omega (arith, le) in
      let own : 2 * wide q ≤ most = omega (arith, size, le) in (
        front-short q ps (omega (arith, size, le)),
        (
          (own, own),
          order-short (without_named q ps) qs (omega (arith, size, less, le)),
          (middle, end),
        ),
        (start, end),
      )

  form-short : (s : Sort) (p q : Named) → IsWritable p → IsWritable q
      → 3 * (wide p + wide q) + 36 ≤ most → IsShort most (form_plan s p q)
  form-short (shape tree) p q h k le = (
    tree-short most onward p h (omega (arith, le)),
    tree-short most backward q k (omega (arith, le)),
    (omega (arith, le), omega (arith, le)),
  )
  form-short (shape forest) p q h k le = (
    from_alone-short most onward (forest_plan onward p (empty forest)) p h (omega (arith, le))
        (forest-short most onward p (empty forest) h (omega (arith, le))),
    from_alone-short most backward (forest_plan backward q (empty forest)) q k (omega (arith, le))
        (forest-short most backward q (empty forest) k (omega (arith, le))),
    (omega (arith, le), omega (arith, le)),
  )
  form-short (shape grove) p q h k le =
      let left = roots-narrow p (empty grove) h in
      let right = roots-narrow q (empty grove) k in
      let left-sum : wide (absorbed_roots p (empty grove)) ≡ wide (sum_of (grove_parts p)) =
      ap wide (absorbed_roots-sum p) in
      let right-sum : wide (absorbed_roots q (empty grove)) ≡ wide (sum_of (grove_parts q)) =
      ap wide (absorbed_roots-sum q) in (
        sum-short most onward p h (omega (arith, le)),
        (
          order-short (grove_parts p) (grove_parts q)
              (omega (arith, le, left, right, left-sum, right-sum)),
          sum-short most backward q k (omega (arith, le)),
          (omega (arith, le, left), omega (arith, le)),
        ),
        (omega (arith, le), omega (arith, le)),
      )
  form-short (value v) p q h k le = (omega (arith, le), omega (arith, le))
  form-short (context d e) p q h k le = (omega (arith, le), omega (arith, le))

-- THE PLANS, with most as the asked judgement allows
abbrev pub allowed : Named → Named → ℕ
allowed p q = 3 * (wide p + wide q) + 36

pub conjuncts-short : (p q : Named) (s : Sort)
    → IfSome (plan_by_conjuncts (entails p q s)) (IsShort (allowed p q))
conjuncts-short p q s =
    conjuncts-good (Short (allowed p q))
    (λ p q h. (omega (arith, and-wide p q, h), omega (arith, and-wide p q, h))) p q s (omega arith)
    (omega arith)

pub form-plan-short : (p q : Named) (s : Sort) → IsWritable p → IsWritable q
    → IfSome (plan_by_form (entails p q s)) (IsShort (allowed p q))
form-plan-short p q s h k = by_test (is_obvious_by_form (entails (nameless p) (nameless q) s))
  where
    by_test : (b : Bool) → IfSome (cond b (Some (form_plan s p q)) None) (IsShort (allowed p q))
    by_test true = form-short (allowed p q) s p q h k (omega arith)
    by_test false = tt

pub filling-plan-short : (p q : Named) (s : Sort)
    → IfSome (plan_by_filling (entails p q s)) (IsShort (allowed p q))
filling-plan-short p q (shape k) =
    by_tests (fills (nameless p) (nameless q)) (fills (nameless q) (nameless p))
  where
    by_tests : (a b : Bool)
        → IfSome (cond a (Some (plan_of_application onward p))
        (cond b (Some (plan_of_application backward q)) None)) (IsShort (allowed p q))
    by_tests true b = application-short (allowed p q) onward p (omega arith)
    by_tests false true = application-short (allowed p q) backward q (omega arith)
    by_tests false false = tt
filling-plan-short p q (value v) = tt
filling-plan-short p q (context d e) = tt
