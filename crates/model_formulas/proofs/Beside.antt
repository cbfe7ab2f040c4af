-- Two contexts with a hole for a grove beside one root, and nothing else, are one thing.
use Rattle.std.proofs.Common.{◌≡◌, ℕ, List, refl, sym, ap, arith, ◌∙◌, subst}
use Rattle.model_shapes.specs.Sorts.{context, shape, forest, grove}
use Rattle.model_shapes.specs.Values.{str, node_number, list_number}
use Rattle.model_shapes.specs.Trees.{Trees, none, node, hole, beside, root_uses}
use Rattle.model_shapes.specs.Things.{Thing, val, trees, Fits}
use Rattle.model_shapes.proofs.Representatives.{first-alone}
use Rattle.model_terms.specs.Variables.{Var, var_sort}
use Rattle.model_terms.specs.VariableTests.{var_eq}
use Rattle.model_terms.specs.Terms.{Term, variable}
use Rattle.model_formulas.specs.Formulas.{Formula, truth, conjunction, implication, equality, bare_hole, empty, grove_sum_hole, node_formula, one_root, value_meets}
use Rattle.model_formulas.specs.Substitution.{forall}
use Rattle.model_formulas.specs.Satisfaction.{Environment, Meets, Entails, IfNode, IfTrees, Classically, meaning_of}
use Rattle.model_formulas.specs.Setting.{setting, setting_at}
use Rattle.model_formulas.proofs.Quantified.{forall-means, met-alike}
use Rattle.model_formulas.proofs.Stable.{stable-thing}

-- what a variable stands for fits where the others do
set-fits : (x : Var) (v : Thing) (e : Environment) (z : Var) → Fits (var_sort x) v
    → ((z ≡ x → ⊥) → Fits (var_sort z) (e z)) → Fits (var_sort z) (setting x v e z)
set-fits x v e z here others = at (var_eq z x)
  where
    at : (d : Dec (z ≡ x)) → Fits (var_sort z) (setting_at v e d)
    at (yes q) = subst (λ u. Fits (var_sort u) v) (sym q) here
    at (no n) = others n

-- one node is a node
is-node : (r : Trees) (P : List ℕ → ℕ → Trees → ℕ → Type 0) → IfNode r P
    → (s : List ℕ) × (i : ℕ) × (k : Trees) × (l : ℕ) × (r ≡ node s i k l none) × P s i k l
is-node none P m = absurd m
is-node (hole r) P m = absurd m
is-node (node s i k l none) P m = (s, i, k, l, refl, m)
is-node (node s i k l (hole r)) P m = absurd m
is-node (node s i k l (node s' i' k' l' r)) P m = absurd m

module _ (name number list : Term) where
  -- (?g .+ [S#I[0f]%L])
  abbrev pub hole_beside : Formula
  hole_beside =
      grove_sum_hole (bare_hole grove) (one_root (node_formula name number (empty forest) list))

  -- the hole, and one root with what the three terms stand for
  record Beside (e : Environment) (r : Trees) : Type 0 where
    called : List ℕ
    n : ℕ
    l : ℕ
    by_name : val (str called) ≡ meaning_of e name
    by_number : val (node_number n) ≡ meaning_of e number
    by_list : val (list_number l) ≡ meaning_of e list
    is : r ≡ hole (node called n none l none)

  -- whatever meets the formula and fits is that
  beside-met : (e : Environment) (r : Trees) → Fits (context grove grove) (trees r)
      → Meets hole_beside e (context grove grove) r → Classically (Beside e r)
  beside-met e r f m is_not = m (λ a. a.2 (λ b.
      let (s, i, k, l, is, met) = is-node b.0 _ b.2.2.1 in
      is_not (record {
        called = s;
        n = i;
        l = l;
        by_name = met.0;
        by_number = met.1;
        by_list = met.2;
        is =
            first-alone r (node s i none l none) f.0.holes_fit.one f.1 (omega arith)
            (λ t. b.2.0 t
            ∙ ap (root_uses t)
            (λ j. beside (b.2.1 j) ((is ∙ ap (λ z. node s i z l none) met.3) j)));
      })))

  -- so two are equal
  beside-one : (e : Environment) (r r' : Trees) → Beside e r → Beside e r' → trees r ≡ trees r'
  beside-one e r r' b b' = cc

  -- and so are two things
  things-one : (e : Environment) (x y : Thing) → Fits (context grove grove) x
      → Fits (context grove grove) y → IfTrees x (Meets hole_beside e (context grove grove))
      → IfTrees y (Meets hole_beside e (context grove grove)) → x ≡ y
  things-one e (val v) y f g m n = absurd m
  things-one e (trees r) (val v) f g m n = absurd n
  things-one e (trees r) (trees r') f g m n =
      stable-thing (λ other. beside-met e r f m (λ b. beside-met e r' g n (λ b'.
      other (beside-one e r r' b b'))))

-- two variables of the sort stand for one thing where both stand for such contexts
pub beside-entailed : (x y : Var) (name number list : Term) (p : Formula)
    → var_sort x ≡ context grove grove → var_sort y ≡ context grove grove
    → p ≡ hole_beside name number list
    → Entails truth (forall x (forall y (implication
    (conjunction (value_meets (context grove grove) (variable x) p)
    (value_meets (context grove grove) (variable y) p))
    (equality (variable x) (variable y))))) (shape grove)
beside-entailed x y name number list p sx sy is e pr r w m =
    (met-alike (shape grove) r (forall-means x (forall y both) e)).1 (λ v fv.
    (met-alike (shape grove) r (forall-means y both (setting x v e))).1 (λ u fu. one v u fv fu))
  where
    both : Formula
    both = implication
        (conjunction (value_meets (context grove grove) (variable x) p)
        (value_meets (context grove grove) (variable y) p))
        (equality (variable x) (variable y))

    one : (v u : Thing) → Fits (var_sort x) v → Fits (var_sort y) u
        → Meets both (setting y u (setting x v e)) (shape grove) r
    one v u fv fu m =
        let e' : Environment = setting y u (setting x v e) in
        things-one name number list e' (e' x) (e' y)
        (subst (λ s. Fits s (e' x)) sx
        (set-fits y u (setting x v e) x fu
        (λ n. set-fits x v e x fv (λ other. absurd (other refl)))))
        (subst (λ s. Fits s (e' y)) sy
        (set-fits y u (setting x v e) y fu (λ other. absurd (other refl))))
        (subst (λ q. IfTrees (e' x) (Meets q e' (context grove grove))) is m.0)
        (subst (λ q. IfTrees (e' y) (Meets q e' (context grove grove))) is m.1)
