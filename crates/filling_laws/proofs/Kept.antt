-- Each judgement of a plan is well sorted and has variables of the asked judgement alone, and each
-- of its rules is one.
use Rattle.std.proofs.Common.{◌≡◌, ◌∙◌, Bool, true, false, cond, ◌&&◌, List, [], ◌∷◌, ◌++◌, Some, None, IfSome, refl, sym, ap, ap₂, subst, codes, true≢false}
use Rattle.model_shapes.specs.Sorts.{Sort, DataSort, value, shape, context, tree, forest, grove, outer, inner, is_sort}
use Rattle.model_shapes.specs.Values.{Name}
use Rattle.model_shapes.proofs.Tests.{same_data_sort-is, same_sort-is}
use Rattle.model_terms.specs.Variables.{Var}
use Rattle.model_terms.specs.Terms.{Term}
use Rattle.model_formulas.specs.Formulas.{Named, whole, hole_left, hole_right, empty, truth, conjunction, bare_hole, node_formula, one_tree, one_root, concatenation, grove_sum, grove_sum_hole, application}
use Rattle.model_formulas.specs.Nameless.{nameless}
use Rattle.model_formulas.specs.WellSorted.{flags}
use Rattle.model_files.specs.FileFaults.{is_rule_of_version}
use Rattle.model_commands.specs.Theories.{JudgementOf, entails, triple}
use Rattle.assistant_laws.specs.Conjuncts.{has_conjuncts_of}
use Rattle.assistant_laws.specs.Forms.{grove_parts, tree_form}
use Rattle.assistant_laws.specs.Fillings.{shows_its_hole, filling, fills}
use Rattle.assistant_laws.specs.Obvious.{same_form}
use Rattle.assistant_laws.specs.Plans.{Plan, alone, from_one, from_two}
use Rattle.assistant_laws.specs.Ways.{Way, onward, backward, other, turned, row, itself, by_way_of, inside, beside}
use Rattle.assistant_laws.specs.ConjunctPlans.{same_named, has_conjunct, reach, gather, plan_by_conjuncts}
use Rattle.assistant_laws.specs.FillingPlans.{filling_plan, plan_of_application, plan_by_filling}
use Rattle.assistant_laws.specs.FormPlans.{tidied, absorbed, absorbed_roots, from_alone, tree_plan, forest_plan, grove_plan, sum_plan, sum_of, without_named, pass, to_front, in_order, form_plan, plan_by_form}
use Rattle.assistant_laws.proofs.Ways.{both_true}
use Rattle.assistant_laws.proofs.Forms.{tidied-form}
use Rattle.assistant_laws.proofs.ByFilling.{shows-nameless}
use Rattle.filling_laws.proofs.Fine.{marks, Fine, passes-both, passes-parts, and-parts, star-fine, star-parts, no-tree-fine, one-fine, one-part, plus-fine, plus-parts, no-root-fine, root-fine, root-part, node-part, node-fine, tidied-fine, absorbed-fine, absorbed_roots-fine}

module _ {A : Type 0} (f : Term → List A) (g : Var → List A → List A) (t : A → Bool) where
  abbrev Good : Named → Sort → Type 0
  Good p s = Fine f g t p s

  -- both sides are fine
  abbrev pub FineJudgement : JudgementOf Named → Type 0
  FineJudgement (entails p q s) = Fine f g t p s × Fine f g t q s
  FineJudgement (triple p c q k) = ⊥

  abbrev IsRule : Name → Type 0
  IsRule rule = is_rule_of_version 1 rule ≡ true

  abbrev pub IsKept : Plan → Type 0
  IsKept (alone rule j) = IsRule rule × FineJudgement j
  IsKept (from_one rule a j) = IsKept a × IsRule rule × FineJudgement j
  IsKept (from_two rule a b j) = IsKept a × IsKept b × IsRule rule × FineJudgement j

  -- EITHER WAY
  either : (way : Way) (p q : Named) (s : Sort) → Good p s → Good q s
      → FineJudgement (turned way p q s)
  either onward p q s x y = (x, y)
  either backward p q s x y = (y, x)

  row-kept : (way : Way) (rule : Name) (p q : Named) (s : Sort) → IsRule rule
      → IsRule (rule ++ codes "_back") → Good p s → Good q s → IsKept (row way rule p q s)
  row-kept onward rule p q s r back x y = (r, (x, y))
  row-kept backward rule p q s r back x y = (back, (y, x))

  itself-kept : (p : Named) (s : Sort) → Good p s → IsKept (itself p s)
  itself-kept p s x = (refl, (x, x))

  by_way_of-kept : (way : Way) (a b : Plan) (p q : Named) (s : Sort) → IsKept a → IsKept b
      → Good p s → Good q s → IsKept (by_way_of way a b p q s)
  by_way_of-kept onward a b p q s ka kb x y = (ka, kb, refl, (x, y))
  by_way_of-kept backward a b p q s ka kb x y = (kb, ka, refl, (y, x))

  inside-kept : (way : Way) (rule : Name) (a : Plan) (p q : Named) (s : Sort) → IsKept a
      → IsRule rule → Good p s → Good q s → IsKept (inside way rule a p q s)
  inside-kept way rule a p q s ka r x y = (ka, r, either way p q s x y)

  beside-kept : (way : Way) (rule : Name) (a b : Plan) (p q : Named) (s : Sort) → IsKept a
      → IsKept b → IsRule rule → Good p s → Good q s → IsKept (beside way rule a b p q s)
  beside-kept way rule a b p q s ka kb r x y = (ka, kb, r, either way p q s x y)

  -- BY CONJUNCTS
  module _ (s : Sort) where
    reach-kept : (p target : Named) → Good p s → Good target s → IsKept (reach s p target)
    reach-kept (conjunction p q) target x y =
        let parts = and-parts f g t p q s x in
        cases (has_conjunct p target) parts (reach-kept p target parts.0 y)
        (reach-kept q target parts.1 y)
      where
        cases : (b : Bool) → Good p s × Good q s → IsKept (reach s p target)
            → IsKept (reach s q target) → IsKept (cond b
            (from_two (codes "cut") (alone (codes "and_left") (entails (conjunction p q) p s))
            (reach s p target) (entails (conjunction p q) target s))
            (from_two (codes "cut") (alone (codes "and_right") (entails (conjunction p q) q s))
            (reach s q target) (entails (conjunction p q) target s)))
        cases true parts left right = ((refl, (x, parts.0)), left, refl, (x, y))
        cases false parts left right = ((refl, (x, parts.1)), right, refl, (x, y))
    reach-kept p target x y = (refl, (x, y))

    gather-kept : (left p : Named) → Good left s → Good p s → IsKept (gather s left p)
    gather-kept left (conjunction p q) x y =
        let parts = and-parts f g t p q s y in
        (gather-kept left p x parts.0, gather-kept left q x parts.1, refl, (x, y))
    gather-kept left truth x y = (refl, (x, y))
    gather-kept left p x y = reach-kept left p x y

  pub conjuncts-kept : (j : JudgementOf Named) → FineJudgement j
      → IfSome (plan_by_conjuncts j) IsKept
  conjuncts-kept (entails p q s) x = cases (has_conjuncts_of (nameless p) (nameless q))
    where
      cases : (b : Bool) → IfSome (cond b (Some (gather s p q)) None) IsKept
      cases true = gather-kept s p q x.0 x.1
      cases false = tt
  conjuncts-kept (triple p c q k) x = absurd x

  -- BY FORM
  module _ (way : Way) where
    abbrev F : Sort
    F = shape forest

    abbrev G : Sort
    G = shape grove

    from_alone-kept : (plan : Plan) (p : Named) → IsKept plan → Good p F
        → IsKept (from_alone way plan p)
    from_alone-kept plan p k x =
        let end = absorbed-fine f g t p (empty forest) x (no-tree-fine f g t) in
        by_way_of-kept way _ plan p (absorbed p (empty forest)) F
        (row-kept (other way) (codes "star_unit") (concatenation whole p (empty forest)) p F refl
        refl
        (star-fine f g t p (empty forest) x (no-tree-fine f g t)) x) k x end

    mutual
      tree-kept : (p : Named) → Good p (shape tree) → IsKept (tree_plan way p)
      tree-kept (node_formula name number p list) x =
          let inner = node-part f g t name number list p x in
          inside-kept way (codes "mono_node") (from_alone way (forest_plan way p (empty forest)) p)
          (node_formula name number p list) (node_formula name number (absorbed p (empty forest))
          list)
          (shape tree)
          (from_alone-kept (forest_plan way p (empty forest)) p
          (forest-kept p (empty forest) inner (no-tree-fine f g t)) inner) refl x
          (node-fine f g t name number list p (absorbed p (empty forest)) x
          (absorbed-fine f g t p (empty forest) inner (no-tree-fine f g t)))
      tree-kept p x = itself-kept p (shape tree) x

      forest-kept : (p r : Named) → Good p F → Good r F → IsKept (forest_plan way p r)
      forest-kept (empty forest) r x y =
          row-kept way (codes "unit_star") (concatenation whole (empty forest) r) r F refl refl
          (star-fine f g t (empty forest) r x y) y
      forest-kept (concatenation whole p q) r x y =
          let rest = absorbed q r in
          let parts = star-parts f g t p q x in
          let rest-good = absorbed-fine f g t q r parts.1 y in
          let start = star-fine f g t (concatenation whole p q) r x y in
          let middle = star-fine f g t p (concatenation whole q r) parts.0
          (star-fine f g t q r parts.1 y) in
          let next = star-fine f g t p rest parts.0 rest-good in
          let end = absorbed-fine f g t p rest parts.0 rest-good in
          by_way_of-kept way _ _ (concatenation whole (concatenation whole p q) r) (absorbed p rest)
          F
          (row-kept way (codes "star_assoc") _ (concatenation whole p (concatenation whole q r)) F
          refl refl start middle)
          (by_way_of-kept way _ (forest_plan way p rest)
          (concatenation whole p (concatenation whole q r)) (absorbed p rest) F
          (beside-kept way (codes "mono_star") (itself p F) (forest_plan way q r) _
          (concatenation whole p rest) F
          (itself-kept p F parts.0) (forest-kept q r parts.1 y) refl middle next)
          (forest-kept p rest parts.0 rest-good) middle end)
          start end
      forest-kept (one_tree p) r x y =
          let inner = one-part f g t p x in
          let tidy = one-fine f g t (tidied p) (tidied-fine f g t p inner) in
          beside-kept way (codes "mono_star")
          (inside way (codes "mono_tree") (tree_plan way p) (one_tree p) (one_tree (tidied p)) F)
          (itself r F) (concatenation whole (one_tree p) r)
          (concatenation whole (one_tree (tidied p)) r) F
          (inside-kept way (codes "mono_tree") (tree_plan way p) (one_tree p) (one_tree (tidied p))
          F
          (tree-kept p inner) refl x tidy)
          (itself-kept r F y) refl (star-fine f g t (one_tree p) r x y)
          (star-fine f g t (one_tree (tidied p)) r tidy y)
      forest-kept p r x y = itself-kept (concatenation whole p r) F (star-fine f g t p r x y)

    grove-kept : (p r : Named) → Good p G → Good r G → IsKept (grove_plan way p r)
    grove-kept (empty grove) r x y =
        by_way_of-kept way _ _ (grove_sum (empty grove) r) r G (
          refl,
          either way (grove_sum (empty grove) r) (grove_sum r (empty grove)) G
              (plus-fine f g t (empty grove) r x y) (plus-fine f g t r (empty grove) y x),
        )
        (row-kept way (codes "plus_unit") (grove_sum r (empty grove)) r G refl refl
        (plus-fine f g t r (empty grove) y x) y)
        (plus-fine f g t (empty grove) r x y) y
    grove-kept (grove_sum p q) r x y =
        let rest = absorbed_roots q r in
        let parts = plus-parts f g t p q x in
        let rest-good = absorbed_roots-fine f g t q r parts.1 y in
        let start = plus-fine f g t (grove_sum p q) r x y in
        let middle = plus-fine f g t p (grove_sum q r) parts.0 (plus-fine f g t q r parts.1 y) in
        let next = plus-fine f g t p rest parts.0 rest-good in
        let end = absorbed_roots-fine f g t p rest parts.0 rest-good in
        by_way_of-kept way _ _ (grove_sum (grove_sum p q) r) (absorbed_roots p rest) G
        (row-kept way (codes "plus_assoc") _ (grove_sum p (grove_sum q r)) G refl refl start middle)
        (by_way_of-kept way _ (grove_plan way p rest) (grove_sum p (grove_sum q r))
        (absorbed_roots p rest) G
        (beside-kept way (codes "mono_plus") (itself p G) (grove_plan way q r) _ (grove_sum p rest)
        G
        (itself-kept p G parts.0) (grove-kept q r parts.1 y) refl middle next)
        (grove-kept p rest parts.0 rest-good) middle end)
        start end
    grove-kept (one_root p) r x y =
        let inner = root-part f g t p x in
        let tidy = root-fine f g t (tidied p) (tidied-fine f g t p inner) in
        beside-kept way (codes "mono_plus")
        (inside way (codes "mono_root") (tree_plan way p) (one_root p) (one_root (tidied p)) G)
        (itself r G) (grove_sum (one_root p) r)
        (grove_sum (one_root (tidied p)) r) G
        (inside-kept way (codes "mono_root") (tree_plan way p) (one_root p) (one_root (tidied p)) G
        (tree-kept p inner) refl x tidy)
        (itself-kept r G y) refl (plus-fine f g t (one_root p) r x y)
        (plus-fine f g t (one_root (tidied p)) r tidy y)
    grove-kept p r x y = itself-kept (grove_sum p r) G (plus-fine f g t p r x y)

    sum-kept : (p : Named) → Good p G → IsKept (sum_plan way p)
    sum-kept p x =
        by_way_of-kept way _ (grove_plan way p (empty grove)) p (absorbed_roots p (empty grove)) G
        (row-kept (other way) (codes "plus_unit") (grove_sum p (empty grove)) p G refl refl
        (plus-fine f g t p (empty grove) x (no-root-fine f g t)) x)
        (grove-kept p (empty grove) x (no-root-fine f g t)) x
        (absorbed_roots-fine f g t p (empty grove) x (no-root-fine f g t))

  -- the order of roots
  abbrev AllGood : List Named → Type 0
  AllGood [] = Unit
  AllGood (p ∷ ps) = Good p (shape grove) × AllGood ps

  all-append : (ps qs : List Named) → AllGood ps → AllGood qs → AllGood (ps ++ qs)
  all-append [] qs x y = y
  all-append (p ∷ ps) qs x y = (x.0, all-append ps qs x.1 y)

  sum-good : (ps : List Named) → AllGood ps → Good (sum_of ps) (shape grove)
  sum-good [] x = no-root-fine f g t
  sum-good (p ∷ ps) x = plus-fine f g t p (sum_of ps) x.0 (sum-good ps x.1)

  without-good : (q : Named) (ps : List Named) → AllGood ps → AllGood (without_named q ps)
  without-good q [] x = tt
  without-good q (p ∷ ps) x = cases (same_named q p) (without-good q ps x.1)
    where
      cases : (b : Bool) → AllGood (without_named q ps)
          → AllGood (cond b ps (p ∷ without_named q ps))
      cases true y = x.1
      cases false y = (x.0, y)

  tree_form-good : (p : Named) → Good p (shape tree) → Good (tree_form p) (shape tree)
  tree_form-good p x = subst (λ (q : Named). Good q (shape tree)) (tidied-form p)
      (tidied-fine f g t p x)

  parts-good : (p : Named) → Good p (shape grove) → AllGood (grove_parts p)
  parts-good (empty grove) x = tt
  parts-good (grove_sum p q) x =
      let parts = plus-parts f g t p q x in
      all-append (grove_parts p) (grove_parts q) (parts-good p parts.0) (parts-good q parts.1)
  parts-good (one_root p) x =
      (root-fine f g t (tree_form p) (tree_form-good p (root-part f g t p x)), tt)
  parts-good p x = (x, tt)

  pass-kept : (x q all rest : Named) (plan : Plan) → Good x (shape grove) → Good q (shape grove)
      → Good all (shape grove) → Good rest (shape grove) → IsKept plan
      → IsKept (pass x q all rest plan)
  pass-kept x q all rest plan gx gq ga gr k =
      let start = plus-fine f g t x all gx ga in
      let first = plus-fine f g t x (grove_sum q rest) gx (plus-fine f g t q rest gq gr) in
      let pair = plus-fine f g t x q gx gq in
      let turned_pair = plus-fine f g t q x gq gx in
      let second = plus-fine f g t (grove_sum x q) rest pair gr in
      let third = plus-fine f g t (grove_sum q x) rest turned_pair gr in
      let end = plus-fine f g t q (grove_sum x rest) gq (plus-fine f g t x rest gx gr) in (
        ((refl, (gx, gx)), k, refl, (start, first)),
        (
          (refl, (first, second)),
          (
            ((refl, (pair, turned_pair)), (refl, (gr, gr)), refl, (second, third)),
            (refl, (third, end)),
            refl,
            (second, end),
          ),
          refl,
          (first, end),
        ),
        refl,
        (start, end),
      )

  to_front-kept : (q : Named) (ps : List Named) → Good q (shape grove) → AllGood ps
      → IsKept (to_front q ps)
  to_front-kept q [] gq x = (refl, (no-root-fine f g t, no-root-fine f g t))
  to_front-kept q (p ∷ ps) gq x = cases (same_named q p) (to_front-kept q ps gq x.1)
    where
      cases : (b : Bool) → IsKept (to_front q ps) → IsKept (cond b
          (alone (codes "id") (entails (grove_sum p (sum_of ps)) (grove_sum q (sum_of ps))
          (shape grove)))
          (pass p q (sum_of ps) (sum_of (without_named q ps)) (to_front q ps)))
      cases true k = (
        refl,
        (
          plus-fine f g t p (sum_of ps) x.0 (sum-good ps x.1),
          plus-fine f g t q (sum_of ps) gq (sum-good ps x.1),
        ),
      )
      cases false k = pass-kept p q (sum_of ps) (sum_of (without_named q ps)) (to_front q ps) x.0 gq
          (sum-good ps x.1) (sum-good (without_named q ps) (without-good q ps x.1)) k

  in_order-kept : (ps qs : List Named) → AllGood ps → AllGood qs → IsKept (in_order ps qs)
  in_order-kept ps [] x y = (refl, (sum-good ps x, no-root-fine f g t))
  in_order-kept ps (q ∷ qs) x y =
      let rest = without_named q ps in
      let gr = sum-good rest (without-good q ps x) in
      let gq = sum-good qs y.1 in (
        to_front-kept q ps y.0 x,
        (
          (refl, (y.0, y.0)),
          in_order-kept rest qs (without-good q ps x) y.1,
          refl,
          (plus-fine f g t q (sum_of rest) y.0 gr, plus-fine f g t q (sum_of qs) y.0 gq),
        ),
        refl,
        (sum-good ps x, plus-fine f g t q (sum_of qs) y.0 gq),
      )

  form_plan-kept : (s : Sort) (p q : Named) → Good p s → Good q s → IsKept (form_plan s p q)
  form_plan-kept (shape tree) p q x y =
      (tree-kept onward p x, tree-kept backward q y, refl, (x, y))
  form_plan-kept (shape forest) p q x y = (
    from_alone-kept onward (forest_plan onward p (empty forest)) p
        (forest-kept onward p (empty forest) x (no-tree-fine f g t)) x,
    from_alone-kept backward (forest_plan backward q (empty forest)) q
        (forest-kept backward q (empty forest) y (no-tree-fine f g t)) y,
    refl,
    (x, y),
  )
  form_plan-kept (shape grove) p q x y = (
    sum-kept onward p x,
    (
      in_order-kept (grove_parts p) (grove_parts q) (parts-good p x) (parts-good q y),
      sum-kept backward q y,
      refl,
      (absorbed_roots-fine f g t p (empty grove) x (no-root-fine f g t), y),
    ),
    refl,
    (x, y),
  )
  form_plan-kept (value v) p q x y = (refl, (x, x))
  form_plan-kept (context h k) p q x y = (refl, (x, x))

  pub form-kept : (j : JudgementOf Named) → FineJudgement j → IfSome (plan_by_form j) IsKept
  form-kept (entails p q s) x = cases (same_form s (nameless p) (nameless q))
    where
      cases : (b : Bool) → IfSome (cond b (Some (form_plan s p q)) None) IsKept
      cases true = form_plan-kept s p q x.0 x.1
      cases false = tt
  form-kept (triple p c q k) x = absurd x

-- BY FILLING
module _ {A : Type 0} (f : Term → List A) (g : Var → List A → List A) (t : A → Bool) (h : DataSort)
    (b : Named) where
  abbrev In : Named → DataSort → Type 0
  In c k = Fine f g t c (context h k)

  abbrev At : Named → DataSort → Type 0
  At p k = Fine f g t p (shape k)

  middle_true : (x y z : Bool) → ((x && y) && z) ≡ true → y ≡ true
  middle_true x y z e = (both_true x y (both_true (x && y) z e).0).1

  first_true : (x y z : Bool) → ((x && y) && z) ≡ true → x ≡ true
  first_true x y z e = (both_true x y (both_true (x && y) z e).0).0

  node-in : (name number list : Term) (c : Named) (k : DataSort)
      → In (node_formula name number c list) k → (k ≡ tree) × In c forest
  node-in name number list c k x =
      let here = both_true _ _ x.sorted in
      let inner = passes-parts t (f name) _ x.variables in
      let deeper = passes-parts t (f number) _ inner.1 in (
        same_data_sort-is k tree (middle_true _ _ _ here.0),
        record {
          sorted = here.1;
          variables = (passes-parts t (marks f g t c) (f list) deeper.1).0;
        },
      )

  node-at : (name number list : Term) (c q : Named) (k : DataSort)
      → In (node_formula name number c list) k → At q forest
      → At (node_formula name number q list) tree
  node-at name number list c q k x y =
      let here = both_true _ _ x.sorted in
      let inner = passes-parts t (f name) _ x.variables in
      let deeper = passes-parts t (f number) _ inner.1 in
      let last = (passes-parts t (marks f g t c) (f list) deeper.1).1 in
      record {
        sorted = ap₂ (λ a b. a && b) (both_true _ _ (both_true _ _ here.0).1).1 y.sorted;
        variables = passes-both t (f name) _ inner.0
            (passes-both t (f number) _ deeper.0
            (passes-both t (marks f g t q) (f list) y.variables last));
      }

  tree-in : (c : Named) (k : DataSort) → In (one_tree c) k → (k ≡ forest) × In c tree
  tree-in c k x =
      let here = both_true _ _ x.sorted in (
        same_data_sort-is k forest (middle_true _ _ _ here.0),
        record { sorted = here.1; variables = x.variables },
      )

  root-in : (c : Named) (k : DataSort) → In (one_root c) k → (k ≡ grove) × In c tree
  root-in c k x =
      let here = both_true _ _ x.sorted in (
        same_data_sort-is k grove (middle_true _ _ _ here.0),
        record { sorted = here.1; variables = x.variables },
      )

  left-in : (c q : Named) (k : DataSort) → In (concatenation hole_left c q) k
      → (k ≡ forest) × In c forest × At q forest
  left-in c q k x =
      let here = both_true _ _ x.sorted in
      let is = same_data_sort-is k forest (middle_true _ _ _ here.0) in
      let flagged = passes-parts (λ flag. flag) (flags c (context h k)) (flags q (shape k)) here.1
      in
      let seen = passes-parts t (marks f g t c) (marks f g t q) x.variables in (
        is,
        subst (In c) is (record { sorted = flagged.0; variables = seen.0 }),
        subst (At q) is (record { sorted = flagged.1; variables = seen.1 }),
      )

  right-in : (q c : Named) (k : DataSort) → In (concatenation hole_right q c) k
      → (k ≡ forest) × In c forest × At q forest
  right-in q c k x =
      let here = both_true _ _ x.sorted in
      let is = same_data_sort-is k forest (middle_true _ _ _ here.0) in
      let flagged = passes-parts (λ flag. flag) (flags q (shape k)) (flags c (context h k)) here.1
      in
      let seen = passes-parts t (marks f g t q) (marks f g t c) x.variables in (
        is,
        subst (In c) is (record { sorted = flagged.1; variables = seen.1 }),
        subst (At q) is (record { sorted = flagged.0; variables = seen.0 }),
      )

  sum-in : (c q : Named) (k : DataSort) → In (grove_sum_hole c q) k
      → (k ≡ grove) × In c grove × At q grove
  sum-in c q k x =
      let here = both_true _ _ x.sorted in
      let is = same_data_sort-is k grove (middle_true _ _ _ here.0) in
      let flagged = passes-parts (λ flag. flag) (flags c (context h k)) (flags q (shape grove))
      here.1 in
      let seen = passes-parts t (marks f g t c) (marks f g t q) x.variables in (
        is,
        subst (In c) is (record { sorted = flagged.0; variables = seen.0 }),
        record { sorted = flagged.1; variables = seen.1 },
      )

  hole-in : (j k : DataSort) → In (bare_hole j) k → context h k ≡ context j j
  hole-in j k x = same_sort-is (context h k) (context j j) (both_true _ _ x.sorted).0

  alike : (j : DataSort) → is_sort (context j j) ≡ true
  alike tree = refl
  alike forest = refl
  alike grove = refl

  context-sort : (c : Named) (k : DataSort) → shows_its_hole h c ≡ true → In c k
      → is_sort (context h k) ≡ true
  context-sort (bare_hole j) k e x = ap is_sort (hole-in j k x) ∙ alike j
  context-sort (node_formula name number c list) k e x = first_true _ _ _ (both_true _ _ x.sorted).0
  context-sort (one_tree c) k e x = first_true _ _ _ (both_true _ _ x.sorted).0
  context-sort (one_root c) k e x = first_true _ _ _ (both_true _ _ x.sorted).0
  context-sort (concatenation hole_left c q) k e x = first_true _ _ _ (both_true _ _ x.sorted).0
  context-sort (concatenation hole_right q c) k e x = first_true _ _ _ (both_true _ _ x.sorted).0
  context-sort (grove_sum_hole c q) k e x = first_true _ _ _ (both_true _ _ x.sorted).0
  context-sort c k e x = absurd (true≢false (sym e))

  module _ (part : At b h) where
    put-good : (c : Named) (k : DataSort) → shows_its_hole h c ≡ true → In c k
        → At (application h c b) k
    put-good c k e x = record {
      sorted = ap₂ (λ a b. (a && true) && b) (context-sort c k e x)
          (passes-both (λ flag. flag) (flags c (context h k)) (flags b (shape h)) x.sorted
          part.sorted);
      variables = passes-both t (marks f g t c) (marks f g t b) x.variables part.variables;
    }

    filling-good : (c : Named) (k : DataSort) → shows_its_hole h c ≡ true → In c k
        → At (filling b c) k
    filling-good (bare_hole j) k e x =
        let same = hole-in j k x in
        subst (At b) (ap inner same ∙ sym (ap outer same)) part
    filling-good (node_formula name number c list) k e x =
        let y = node-in name number list c k x in
        subst (At (filling b (node_formula name number c list))) (sym y.0)
        (node-at name number list c (filling b c) k x (filling-good c forest e y.1))
    filling-good (one_tree c) k e x =
        let y = tree-in c k x in
        subst (At (filling b (one_tree c))) (sym y.0)
        (one-fine f g t (filling b c) (filling-good c tree e y.1))
    filling-good (one_root c) k e x =
        let y = root-in c k x in
        subst (At (filling b (one_root c))) (sym y.0)
        (root-fine f g t (filling b c) (filling-good c tree e y.1))
    filling-good (concatenation hole_left c q) k e x =
        let y = left-in c q k x in
        subst (At (filling b (concatenation hole_left c q))) (sym y.0)
        (star-fine f g t (filling b c) q (filling-good c forest e y.1) y.2)
    filling-good (concatenation hole_right q c) k e x =
        let y = right-in q c k x in
        subst (At (filling b (concatenation hole_right q c))) (sym y.0)
        (star-fine f g t q (filling b c) y.2 (filling-good c forest e y.1))
    filling-good (grove_sum_hole c q) k e x =
        let y = sum-in c q k x in
        subst (At (filling b (grove_sum_hole c q))) (sym y.0)
        (plus-fine f g t (filling b c) q (filling-good c grove e y.1) y.2)
    filling-good c k e x = absurd (true≢false (sym e))

    module _ (way : Way) where
      abbrev put_into : Named → Named
      put_into c = application h c b

      filling-kept : (c : Named) (k : DataSort) → shows_its_hole h c ≡ true → In c k
          → IsKept f g t (filling_plan way h b c)
      filling-kept (bare_hole j) k e x =
          let same = hole-in j k x in
          let is : k ≡ h = ap outer same ∙ sym (ap inner same) in
          row-kept f g t way (codes "hole_left") (put_into (bare_hole j)) b (shape h) refl refl
          (subst (At (put_into (bare_hole j))) is (put-good (bare_hole j) k e x)) part
      filling-kept (node_formula name number c list) k e x =
          let y = node-in name number list c k x in
          let start = put-good (node_formula name number c list) tree e
          (subst (In (node_formula name number c list)) y.0 x) in
          let middle = node-at name number list c (put_into c) k x (put-good c forest e y.1) in
          let end = node-at name number list c (filling b c) k x (filling-good c forest e y.1) in
          by_way_of-kept f g t way _
          (inside way (codes "mono_node") (filling_plan way h b c)
          (node_formula name number (put_into c) list) (node_formula name number (filling b c) list)
          (shape tree))
          (put_into (node_formula name number c list)) (node_formula name number (filling b c) list)
          (shape tree)
          (row-kept f g t way (codes "app_node") (put_into (node_formula name number c list))
          (node_formula name number (put_into c) list) (shape tree) refl refl start middle)
          (inside-kept f g t way (codes "mono_node") (filling_plan way h b c)
          (node_formula name number (put_into c) list) (node_formula name number (filling b c) list)
          (shape tree) (filling-kept c forest e y.1) refl middle end)
          start end
      filling-kept (one_tree c) k e x =
          let y = tree-in c k x in
          let start = put-good (one_tree c) forest e (subst (In (one_tree c)) y.0 x) in
          let middle = one-fine f g t (put_into c) (put-good c tree e y.1) in
          let end = one-fine f g t (filling b c) (filling-good c tree e y.1) in
          by_way_of-kept f g t way _
          (inside way (codes "mono_tree") (filling_plan way h b c) (one_tree (put_into c))
          (one_tree (filling b c)) (shape forest))
          (put_into (one_tree c)) (one_tree (filling b c)) (shape forest)
          (row-kept f g t way (codes "app_tree") (put_into (one_tree c)) (one_tree (put_into c))
          (shape forest)
          refl refl start middle)
          (inside-kept f g t way (codes "mono_tree") (filling_plan way h b c)
          (one_tree (put_into c))
          (one_tree (filling b c)) (shape forest) (filling-kept c tree e y.1) refl middle end)
          start end
      filling-kept (one_root c) k e x =
          let y = root-in c k x in
          let start = put-good (one_root c) grove e (subst (In (one_root c)) y.0 x) in
          let middle = root-fine f g t (put_into c) (put-good c tree e y.1) in
          let end = root-fine f g t (filling b c) (filling-good c tree e y.1) in
          by_way_of-kept f g t way _
          (inside way (codes "mono_root") (filling_plan way h b c) (one_root (put_into c))
          (one_root (filling b c)) (shape grove))
          (put_into (one_root c)) (one_root (filling b c)) (shape grove)
          (row-kept f g t way (codes "app_root") (put_into (one_root c)) (one_root (put_into c))
          (shape grove)
          refl refl start middle)
          (inside-kept f g t way (codes "mono_root") (filling_plan way h b c)
          (one_root (put_into c))
          (one_root (filling b c)) (shape grove) (filling-kept c tree e y.1) refl middle end)
          start end
      filling-kept (concatenation hole_left c q) k e x =
          let y = left-in c q k x in
          let start = put-good (concatenation hole_left c q) forest e
          (subst (In (concatenation hole_left c q)) y.0 x) in
          let middle = star-fine f g t (put_into c) q (put-good c forest e y.1) y.2 in
          let end = star-fine f g t (filling b c) q (filling-good c forest e y.1) y.2 in
          by_way_of-kept f g t way _
          (beside way (codes "mono_star") (filling_plan way h b c) (itself q (shape forest))
          (concatenation whole (put_into c) q) (concatenation whole (filling b c) q) (shape forest))
          (put_into (concatenation hole_left c q)) (concatenation whole (filling b c) q)
          (shape forest)
          (row-kept f g t way (codes "app_star_left") (put_into (concatenation hole_left c q))
          (concatenation whole (put_into c) q) (shape forest) refl refl start middle)
          (beside-kept f g t way (codes "mono_star") (filling_plan way h b c)
          (itself q (shape forest))
          (concatenation whole (put_into c) q) (concatenation whole (filling b c) q) (shape forest)
          (filling-kept c forest e y.1) (itself-kept f g t q (shape forest) y.2) refl middle end)
          start end
      filling-kept (concatenation hole_right q c) k e x =
          let y = right-in q c k x in
          let start = put-good (concatenation hole_right q c) forest e
          (subst (In (concatenation hole_right q c)) y.0 x) in
          let middle = star-fine f g t q (put_into c) y.2 (put-good c forest e y.1) in
          let end = star-fine f g t q (filling b c) y.2 (filling-good c forest e y.1) in
          by_way_of-kept f g t way _
          (beside way (codes "mono_star") (itself q (shape forest)) (filling_plan way h b c)
          (concatenation whole q (put_into c)) (concatenation whole q (filling b c)) (shape forest))
          (put_into (concatenation hole_right q c)) (concatenation whole q (filling b c))
          (shape forest)
          (row-kept f g t way (codes "app_star_right") (put_into (concatenation hole_right q c))
          (concatenation whole q (put_into c)) (shape forest) refl refl start middle)
          (beside-kept f g t way (codes "mono_star") (itself q (shape forest))
          (filling_plan way h b c)
          (concatenation whole q (put_into c)) (concatenation whole q (filling b c)) (shape forest)
          (itself-kept f g t q (shape forest) y.2) (filling-kept c forest e y.1) refl middle end)
          start end
      filling-kept (grove_sum_hole c q) k e x =
          let y = sum-in c q k x in
          let start = put-good (grove_sum_hole c q) grove e (subst (In (grove_sum_hole c q)) y.0 x)
          in
          let middle = plus-fine f g t (put_into c) q (put-good c grove e y.1) y.2 in
          let end = plus-fine f g t (filling b c) q (filling-good c grove e y.1) y.2 in
          by_way_of-kept f g t way _
          (beside way (codes "mono_plus") (filling_plan way h b c) (itself q (shape grove))
          (grove_sum (put_into c) q) (grove_sum (filling b c) q) (shape grove))
          (put_into (grove_sum_hole c q)) (grove_sum (filling b c) q) (shape grove)
          (row-kept f g t way (codes "app_plus") (put_into (grove_sum_hole c q))
          (grove_sum (put_into c) q) (shape grove) refl refl start middle)
          (beside-kept f g t way (codes "mono_plus") (filling_plan way h b c)
          (itself q (shape grove))
          (grove_sum (put_into c) q) (grove_sum (filling b c) q) (shape grove)
          (filling-kept c grove e y.1) (itself-kept f g t q (shape grove) y.2) refl middle end)
          start end
      filling-kept c k e x = absurd (true≢false (sym e))

module _ {A : Type 0} (f : Term → List A) (g : Var → List A → List A) (t : A → Bool) where
  application-kept : (way : Way) (p q : Named) (k : DataSort)
      → fills (nameless p) (nameless q) ≡ true → Fine f g t p (shape k)
      → IsKept f g t (plan_of_application way p)
  application-kept way (application h c b) q k e x =
      let flagged = passes-parts (λ flag. flag) (flags c (context h k)) (flags b (shape h))
      (both_true _ _ x.sorted).1 in
      let seen = passes-parts t (marks f g t c) (marks f g t b) x.variables in
      filling-kept f g t h b (record { sorted = flagged.1; variables = seen.1 }) way c k
      (sym (shows-nameless h c) ∙ (both_true (shows_its_hole h (nameless c)) _ e).0)
      (record { sorted = flagged.0; variables = seen.0 })
  application-kept way p q k e x = absurd (true≢false (sym e))

  pub filling-plan-kept : (j : JudgementOf Named) → FineJudgement f g t j
      → IfSome (plan_by_filling j) (IsKept f g t)
  filling-plan-kept (entails p q (shape k)) x =
      cases (fills (nameless p) (nameless q)) (fills (nameless q) (nameless p))
      (λ e. application-kept onward p q k e x.0) (λ e. application-kept backward q p k e x.1)
    where
      cases : (a b : Bool) → (a ≡ true → IsKept f g t (plan_of_application onward p))
          → (b ≡ true → IsKept f g t (plan_of_application backward q))
          → IfSome (cond a (Some (plan_of_application onward p))
          (cond b (Some (plan_of_application backward q)) None)) (IsKept f g t)
      cases true b f g = f refl
      cases false true f g = g refl
      cases false false f g = tt
  filling-plan-kept j x = tt
