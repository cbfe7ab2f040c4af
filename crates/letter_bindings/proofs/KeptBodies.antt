-- Where the outermost binders of what is written bind variables of their sorts, what a walk knows
-- below a binder is a body for the sort of $x.
use Rattle.std.proofs.Common.{◌≡◌, zero, refl, sym, ap, subst, ◌∙◌, Bool, true, false, ◌&&◌, cond, inl, inr, Option, Some, None, List, [], ◌∷◌}
use Rattle.std.specs.Prelude.{◌⊎◌}
use Rattle.model_shapes.proofs.Truth.{false≢true, both_true}
use Rattle.model_shapes.specs.Sorts.{Sort, shape, context, DataSort}
use Rattle.model_shapes.specs.Tests.{same_sort, same_data_sort, same_value}
use Rattle.model_shapes.proofs.Tests.{same_sort-is}
use Rattle.model_terms.specs.Variables.{Var, logic, bound, var_sort}
use Rattle.model_terms.specs.VariableTests.{var_eq}
use Rattle.model_terms.specs.Terms.{Term, literal, variable, sum, difference, appended, InTerm}
use Rattle.model_formulas.specs.Formulas.{Named, Formula, truth, falsity, conjunction, disjunction, implication, negation, existential, universal, equality, at_most, empty, bare_hole, node_formula, one_tree, one_root, concatenation, grove_sum, grove_sum_hole, application, hole_adjoint, context_adjoint, same_as, length_is, value_meets}
use Rattle.model_formulas.specs.SameFormulas.{same_term, same_formula, same_side}
use Rattle.model_formulas.specs.Substitution.{FreeIn, closing, formula_with}
use Rattle.model_formulas.specs.Deciding.{closing_at}
use Rattle.model_formulas.specs.Nameless.{nameless}
use Rattle.model_formulas.proofs.Nameless.{nameless-exists, nameless-forall}
use Rattle.model_commands.specs.Theories.{JudgementOf, Judgement, entails, triple, nameless_judgement}
use Rattle.rule_table.specs.Letters.{LogicVar}
use Rattle.rule_patterns.specs.Constant.{constant_formula}
use Rattle.rule_patterns.specs.Letter.{FormulaLetter, P', E', same_formula_letter}
use Rattle.rule_patterns.specs.Patterns.{DataPattern, some_data, this_data, SortPattern, some_sort, sort_of_x, data_sort, context_sort, either_sort, TermPattern, some_term, x_term, literal_p, sum_p, difference_p, appended_p, FormulaPattern, some_formula, replaced, truth_p, falsity_p, closed_p, conjunction_p, disjunction_p, implication_p, negation_p, exists_p, forall_p, equality_p, at_most_p, empty_p, bare_hole_p, node_p, tree_p, root_p, concatenation_p, sum_of_groves_p, sum_hole_p, application_p, hole_adjoint_p, context_adjoint_p, same_as_p, length_p, meets_p, JudgementPattern, entails_p}
use Rattle.letter_bindings.specs.Known.{place_in, term_in, data_in, Known, with_formula, with_below, with_term, with_data}
use Rattle.letter_bindings.specs.Matching.{then, if_so, meet, match_data, match_x_sort, same_hole, match_hole, match_sort, same_logic, match_variable, match_term, match_below, match_formula, match_judgement, match_judgements, match_terms}
use Rattle.letter_bindings.specs.Choices.{IsBody, IsBodyAt, AllBodies}
use Rattle.letter_bindings.specs.Bodies.{BindsSorted, JudgementSorted}
use Rattle.letter_bindings.proofs.FreeOnes.{free-from, not-lowest}
use Rattle.letter_bindings.proofs.Learning.{get-place}

-- the bodies stay bodies
abbrev pub Keeps : Known → Option Known → Type 0
Keeps k None = Unit {0}
Keeps k (Some n) = AllBodies k → AllBodies n

keeps-if : (c : Bool) (k : Known) → Keeps k (if_so c k)
keeps-if true k = λ h. h
keeps-if false k = tt

keeps-meet : {A : Type 0} (same : A → A → Bool) (o : Option A) (v : A) (n k : Known)
    → (o ≡ None → AllBodies k → AllBodies n) → Keeps k (meet same o v n k)
keeps-meet same None v n k f = f refl
keeps-meet same (Some w) v n k f = keeps-if (same v w) k

pub keeps-then : (k : Known) (o : Option Known) (g : Known → Option Known) → Keeps k o
    → ((n : Known) → Keeps n (g n)) → Keeps k (then o g)
keeps-then k None g h f = tt
keeps-then k (Some n) g h f = by (g n) (f n)
  where
    by : (o : Option Known) → Keeps n o → Keeps k o
    by None e = tt
    by (Some m) e = λ b. e (h b)

keeps-data : (p : DataPattern) (h : DataSort) (k : Known) → Keeps k (match_data p h k)
keeps-data (some_data a) h k =
    keeps-meet same_data_sort (data_in k.datas a) h (with_data a h k) k (λ e b. b)
keeps-data (this_data j) h k = keeps-if (same_data_sort j h) k

keeps-hole : (o : Option DataSort) (k : Known) → Keeps k (match_hole o k)
keeps-hole o k = keeps-meet same_hole k.hole o (record k { hole = Some o }) k (λ e b. b)

keeps-x_sort : (s : Sort) (k : Known) → Keeps k (match_x_sort s k)
keeps-x_sort s k = keeps-meet same_sort k.x_sort s (record k { x_sort = Some s }) k
    (λ e b a. at (place_in k.belows a) (subst (λ o. IsBodyAt o (place_in k.belows a)) e (b a)))
  where
    at : (o : Option Formula) → IsBodyAt None o → IsBodyAt (Some s) o
    at None h = tt
    at (Some q) h = absurd h

keeps-sort : (p : SortPattern) (s : Sort) (k : Known) → Keeps k (match_sort p s k)
keeps-sort some_sort s k =
    keeps-meet same_sort k.sort s (record k { sort = Some s }) k (λ e b. b)
keeps-sort sort_of_x s k = keeps-x_sort s k
keeps-sort (data_sort p) (shape h) k = keeps-data p h k
keeps-sort (context_sort p q) (context h j) k =
    keeps-then k (match_data p h k) (match_data q j) (keeps-data p h k) (keeps-data q j)
keeps-sort (either_sort p) (shape h) k =
    keeps-then k (match_hole None k) (match_data p h) (keeps-hole None k) (keeps-data p h)
keeps-sort (either_sort p) (context g h) k =
    keeps-then k (match_hole (Some g) k) (match_data p h) (keeps-hole (Some g) k)
    (keeps-data p h)
keeps-sort p s k = tt

keeps-variable : (v : LogicVar) (k : Known) → Keeps k (match_variable v k)
keeps-variable v k = keeps-then k (match_x_sort v.sort k)
    (λ n. meet same_logic n.x v (record n { x = Some v }) n) (keeps-x_sort v.sort k)
    (λ n. keeps-meet same_logic n.x v (record n { x = Some v }) n (λ e b. b))

keeps-term : (p : TermPattern) (e : Term) (k : Known) → Keeps k (match_term p e k)
keeps-term (some_term a) e k =
    keeps-meet same_term (term_in k.terms a) e (with_term a e k) k (λ f b. b)
keeps-term x_term (variable (logic n s)) k = keeps-variable (record { name = n; sort = s }) k
keeps-term (literal_p v) (literal w) k = keeps-if (same_value v w) k
keeps-term (sum_p p q) (sum a b) k =
    keeps-then k (match_term p a k) (match_term q b) (keeps-term p a k) (keeps-term q b)
keeps-term (difference_p p q) (difference a b) k =
    keeps-then k (match_term p a k) (match_term q b) (keeps-term p a k) (keeps-term q b)
keeps-term (appended_p p q) (appended a b) k =
    keeps-then k (match_term p a k) (match_term q b) (keeps-term p a k) (keeps-term q b)
keeps-term p e k = tt

-- BELOW A BINDER of this sort, which is known to be the sort of $x
abbrev Below : Sort → Known → Option Known → Type 0
Below s k None = Unit {0}
Below s k (Some n) = k.x_sort ≡ Some s → AllBodies k → AllBodies n × (n.x_sort ≡ Some s)

module _ (s : Sort) where
  below-if : (c : Bool) (k : Known) → Below s k (if_so c k)
  below-if true k = λ e h. (h, e)
  below-if false k = tt

  below-then : (k : Known) (o : Option Known) (g : Known → Option Known) → Below s k o
      → ((n : Known) → Below s n (g n)) → Below s k (then o g)
  below-then k None g h f = tt
  below-then k (Some n) g h f = by (g n) (f n)
    where
      by : (o : Option Known) → Below s n o → Below s k o
      by None i = tt
      by (Some m) i = λ e b. let a : AllBodies n × (n.x_sort ≡ Some s) = h e b in i a.1 a.0

  below-data : (p : DataPattern) (h : DataSort) (k : Known) → Below s k (match_data p h k)
  below-data (some_data a) h k = at (data_in k.datas a)
    where
      at : (o : Option DataSort) → Below s k (meet same_data_sort o h (with_data a h k) k)
      at None = λ e b. (b, e)
      at (Some j) = below-if (same_data_sort h j) k
  below-data (this_data j) h k = below-if (same_data_sort j h) k

  below-x_sort : (u : Sort) (k : Known) → Below s k (match_x_sort u k)
  below-x_sort u k = at k.x_sort refl
    where
      at : (o : Option Sort) → k.x_sort ≡ o
          → Below s k (meet same_sort o u (record k { x_sort = Some u }) k)
      at None e = λ f. absurd (none-some (sym e ∙ f))
        where
          none-some : None ≡ Some s → ⊥
          none-some g = cc
      at (Some v) e = below-if (same_sort u v) k

  below-letter : (a : FormulaLetter) (p : Formula) → IsBody s p → (k : Known)
      → Below s k (meet same_formula (place_in k.belows a) p (with_below a p k) k)
  below-letter a p body k = at (place_in k.belows a)
    where
      each : k.x_sort ≡ Some s → AllBodies k → (b : FormulaLetter) (c : Bool)
          → IsBodyAt k.x_sort (cond c (Some p) (place_in k.belows b))
      each e h b true = subst (λ o. IsBodyAt o (Some p)) (sym e) body
      each e h b false = h b

      at : (o : Option Formula) → Below s k (meet same_formula o p (with_below a p k) k)
      at None = λ e h. (
        λ b. subst (λ o. IsBodyAt k.x_sort o) (sym (get-place a p k.belows b))
            (each e h b (same_formula_letter b a)),
        e,
      )
      at (Some q) = below-if (same_formula p q) k

  below-keeps : (p : FormulaPattern) (f : Formula) → IsBody s f → (k : Known)
      → Below s k (match_below p f k)
  below-keeps (some_formula a) f body k = below-letter a f body k
  below-keeps (conjunction_p p q) (conjunction r t) body k =
      below-then k (match_below p r k) (match_below q t)
      (below-keeps p r (λ u m. body u (inl m)) k) (below-keeps q t (λ u m. body u (inr m)))
  below-keeps (application_p h p q) (application j r t) body k =
      below-then k (match_data h j k) (λ n. then (match_below p r n) (match_below q t))
      (below-data h j k)
      (λ n. below-then n (match_below p r n) (match_below q t)
      (below-keeps p r (λ u m. body u (inl m)) n) (below-keeps q t (λ u m. body u (inr m))))
  below-keeps (same_as_p x_term) (same_as (variable (bound zero u))) body k = below-x_sort u k
  below-keeps p f body k = tt

-- the sort of $x is known then
abbrev Sorted : Sort → Option Known → Type 0
Sorted s None = Unit {0}
Sorted s (Some n) = n.x_sort ≡ Some s

sorted : (s : Sort) (k : Known) → Sorted s (match_x_sort s k)
sorted s k = at k.x_sort refl
  where
    met : (v : Sort) → k.x_sort ≡ Some v → (c : Bool) → (c ≡ true → s ≡ v)
        → Sorted s (if_so c k)
    met v e true f = e ∙ ap Some (sym (f refl))
    met v e false f = tt

    at : (o : Option Sort) → k.x_sort ≡ o
        → Sorted s (meet same_sort o s (record k { x_sort = Some s }) k)
    at None e = refl
    at (Some v) e = met v e (same_sort s v) (same_sort-is s v)

keeps-bound : (p : FormulaPattern) (s : Sort) (r : Formula) → IsBody s r → (k : Known)
    → Keeps k (then (match_x_sort s k) (match_below p r))
keeps-bound p s r body k = by (match_x_sort s k) (keeps-x_sort s k) (sorted s k)
  where
    at : (n : Known) → (AllBodies k → AllBodies n) → n.x_sort ≡ Some s → (o : Option Known)
        → Below s n o → Keeps k o
    at n f e None g = tt
    at n f e (Some m) g = λ b. (g e (f b)).0

    by : (o : Option Known) → Keeps k o → Sorted s o → Keeps k (then o (match_below p r))
    by None f e = tt
    by (Some n) f e = at n f e (match_below p r n) (below-keeps s p r body n)

-- no binder stands in the pattern
abbrev pub binds_none : FormulaPattern → Bool
binds_none (exists_p p) = false
binds_none (forall_p p) = false
binds_none (conjunction_p p q) = binds_none p && binds_none q
binds_none (disjunction_p p q) = binds_none p && binds_none q
binds_none (implication_p p q) = binds_none p && binds_none q
binds_none (negation_p p) = binds_none p
binds_none (node_p a b p c) = binds_none p
binds_none (tree_p p) = binds_none p
binds_none (root_p p) = binds_none p
binds_none (concatenation_p d p q) = binds_none p && binds_none q
binds_none (sum_of_groves_p p q) = binds_none p && binds_none q
binds_none (sum_hole_p p q) = binds_none p && binds_none q
binds_none (application_p h p q) = binds_none p && binds_none q
binds_none (hole_adjoint_p p q) = binds_none p && binds_none q
binds_none (context_adjoint_p h p q) = binds_none p && binds_none q
binds_none (meets_p s a p) = binds_none p
binds_none p = true

abbrev pub judgement_binds_none : JudgementPattern → Bool
judgement_binds_none (entails_p p q o) = binds_none p && binds_none q

abbrev pub each_binds_none : List JudgementPattern → Bool
each_binds_none [] = true
each_binds_none (p ∷ ps) = judgement_binds_none p && each_binds_none ps

-- no binder is met, or each binds variables of its sort
abbrev Fine : FormulaPattern → Formula → Type 0
Fine p f = (binds_none p ≡ true) ⊎ BindsSorted f

fine-both : (b c : Bool) (X Y : Type 0) → ((b && c) ≡ true) ⊎ (X × Y)
    → ((b ≡ true) ⊎ X) × ((c ≡ true) ⊎ Y)
fine-both b c X Y (inl e) =
    let h : (b ≡ true) × (c ≡ true) = both_true b c e in (inl h.0, inl h.1)
fine-both b c X Y (inr h) = (inr h.0, inr h.1)

fine-bound : {X : Type 0} → (false ≡ true) ⊎ X → X
fine-bound (inl e) = false≢true e
fine-bound (inr h) = h

keeps-both : (p q : FormulaPattern) (r s : Formula)
    → (Fine p r → (k : Known) → Keeps k (match_formula p r k))
    → (Fine q s → (k : Known) → Keeps k (match_formula q s k))
    → ((binds_none p && binds_none q) ≡ true) ⊎ (BindsSorted r × BindsSorted s) → (k : Known)
    → Keeps k (then (match_formula p r k) (match_formula q s))
keeps-both p q r s f g w k =
    let v : Fine p r × Fine q s =
    fine-both (binds_none p) (binds_none q) (BindsSorted r) (BindsSorted s) w in
    keeps-then k (match_formula p r k) (match_formula q s) (f v.0 k) (g v.1)

keeps-two : (p q : TermPattern) (a b : Term) (k : Known)
    → Keeps k (then (match_term p a k) (match_term q b))
keeps-two p q a b k =
    keeps-then k (match_term p a k) (match_term q b) (keeps-term p a k) (keeps-term q b)

pub keeps-formula : (p : FormulaPattern) (f : Formula) → Fine p f → (k : Known)
    → Keeps k (match_formula p f k)
keeps-formula (some_formula a) f w k =
    keeps-meet same_formula (place_in k.formulas a) f (with_formula a f k) k (λ e b. b)
keeps-formula (replaced E' P') f w k =
    keeps-meet same_formula k.put f (record k { put = Some f }) k (λ e b. b)
keeps-formula (closed_p c) f w k = keeps-if (same_formula (constant_formula c) f) k
keeps-formula truth_p truth w k = λ b. b
keeps-formula falsity_p falsity w k = λ b. b
keeps-formula (conjunction_p p q) (conjunction r s) w k =
    keeps-both p q r s (keeps-formula p r) (keeps-formula q s) w k
keeps-formula (disjunction_p p q) (disjunction r s) w k =
    keeps-both p q r s (keeps-formula p r) (keeps-formula q s) w k
keeps-formula (implication_p p q) (implication r s) w k =
    keeps-both p q r s (keeps-formula p r) (keeps-formula q s) w k
keeps-formula (negation_p p) (negation r) w k = keeps-formula p r w k
keeps-formula (exists_p p) (existential s r) w k = keeps-bound p s r (fine-bound w) k
keeps-formula (forall_p p) (universal s r) w k = keeps-bound p s r (fine-bound w) k
keeps-formula (equality_p p q) (equality a b) w k = keeps-two p q a b k
keeps-formula (at_most_p p q) (at_most a b) w k = keeps-two p q a b k
keeps-formula (empty_p h) (empty j) w k = keeps-data h j k
keeps-formula (bare_hole_p h) (bare_hole j) w k = keeps-data h j k
keeps-formula (node_p p q r s) (node_formula a b f c) w k = keeps-then k (match_term p a k)
    (λ n. then (match_term q b n) (λ m. then (match_formula r f m) (match_term s c)))
    (keeps-term p a k)
    (λ n. keeps-then n (match_term q b n) (λ m. then (match_formula r f m) (match_term s c))
    (keeps-term q b n)
    (λ m. keeps-then m (match_formula r f m) (match_term s c) (keeps-formula r f w m)
    (keeps-term s c)))
keeps-formula (tree_p p) (one_tree r) w k = keeps-formula p r w k
keeps-formula (root_p p) (one_root r) w k = keeps-formula p r w k
keeps-formula (concatenation_p d p q) (concatenation e r s) w k =
    keeps-then k (if_so (same_side d e) k) (λ n. then (match_formula p r n) (match_formula q s))
    (keeps-if (same_side d e) k)
    (keeps-both p q r s (keeps-formula p r) (keeps-formula q s) w)
keeps-formula (sum_of_groves_p p q) (grove_sum r s) w k =
    keeps-both p q r s (keeps-formula p r) (keeps-formula q s) w k
keeps-formula (sum_hole_p p q) (grove_sum_hole r s) w k =
    keeps-both p q r s (keeps-formula p r) (keeps-formula q s) w k
keeps-formula (application_p h p q) (application j r s) w k =
    keeps-then k (match_data h j k) (λ n. then (match_formula p r n) (match_formula q s))
    (keeps-data h j k) (keeps-both p q r s (keeps-formula p r) (keeps-formula q s) w)
keeps-formula (hole_adjoint_p p q) (hole_adjoint r s) w k =
    keeps-both p q r s (keeps-formula p r) (keeps-formula q s) w k
keeps-formula (context_adjoint_p h p q) (context_adjoint j r s) w k =
    keeps-then k (match_data h j k) (λ n. then (match_formula p r n) (match_formula q s))
    (keeps-data h j k) (keeps-both p q r s (keeps-formula p r) (keeps-formula q s) w)
keeps-formula (same_as_p p) (same_as a) w k = keeps-term p a k
keeps-formula (length_p p) (length_is a) w k = keeps-term p a k
keeps-formula (meets_p o p q) (value_meets s a r) w k =
    keeps-then k (match_sort o s k) (λ n. then (match_term p a n) (match_formula q r))
    (keeps-sort o s k)
    (λ n. keeps-then n (match_term p a n) (match_formula q r) (keeps-term p a n)
    (keeps-formula q r w))
keeps-formula p f w k = tt

abbrev FineJudgement : JudgementPattern → Judgement → Type 0
FineJudgement p j = (judgement_binds_none p ≡ true) ⊎ JudgementSorted j

pub keeps-judgement : (p : JudgementPattern) (j : Judgement) → FineJudgement p j → (k : Known)
    → Keeps k (match_judgement p j k)
keeps-judgement (entails_p p q o) (entails r s u) w k =
    let v : Fine p r × Fine q s =
    fine-both (binds_none p) (binds_none q) (BindsSorted r) (BindsSorted s) w in
    keeps-then k (match_formula p r k) (λ n. then (match_formula q s n) (match_sort o u))
    (keeps-formula p r v.0 k)
    (λ n. keeps-then n (match_formula q s n) (match_sort o u) (keeps-formula q s v.1 n)
    (keeps-sort o u))
keeps-judgement p j w k = tt

pub keeps-judgements : (ps : List JudgementPattern) → each_binds_none ps ≡ true
    → (js : List Judgement) (k : Known) → Keeps k (match_judgements ps js k)
keeps-judgements [] e [] k = λ b. b
keeps-judgements (p ∷ ps) e (j ∷ js) k =
    let v : (judgement_binds_none p ≡ true) × (each_binds_none ps ≡ true) = both_true _ _ e in
    keeps-then k (match_judgement p j k) (match_judgements ps js) (keeps-judgement p j (inl v.0) k)
    (keeps-judgements ps v.1 js)
keeps-judgements ps e js k = tt

pub keeps-terms : (ps : List TermPattern) (es : List Term) (k : Known)
    → Keeps k (match_terms ps es k)
keeps-terms [] [] k = λ b. b
keeps-terms (p ∷ ps) (e ∷ es) k =
    keeps-then k (match_term p e k) (match_terms ps es) (keeps-term p e k) (keeps-terms ps es)
keeps-terms ps es k = tt

-- WHAT IS WRITTEN WITH NAMES binds variables of the sorts
closed-over : (x : Var) (f : Formula) → IsBody (var_sort x) (formula_with (closing x) f)
closed-over x f u m = by-cases (free-from f (closing x) (bound zero u) m)
  where
    at : (z : Var) → (d : Dec (z ≡ x)) → InTerm (bound zero u) (closing_at {x = x} d)
        → u ≡ var_sort x
    at z (yes e) i = ap var_sort i
    at z (no k) i = absurd (not-lowest z u (sym i))

    by-cases : ((z : Var) × FreeIn z f × InTerm (bound zero u) (closing x z)) → u ≡ var_sort x
    by-cases h = at h.0 (var_eq h.0 x) h.2

pub nameless-sorted : (p : Named) → BindsSorted (nameless p)
nameless-sorted (existential x p) =
    subst BindsSorted (sym (nameless-exists x p)) (closed-over x (nameless p))
nameless-sorted (universal x p) =
    subst BindsSorted (sym (nameless-forall x p)) (closed-over x (nameless p))
nameless-sorted (conjunction p q) = (nameless-sorted p, nameless-sorted q)
nameless-sorted (disjunction p q) = (nameless-sorted p, nameless-sorted q)
nameless-sorted (implication p q) = (nameless-sorted p, nameless-sorted q)
nameless-sorted (negation p) = nameless-sorted p
nameless-sorted (node_formula a b p c) = nameless-sorted p
nameless-sorted (one_tree p) = nameless-sorted p
nameless-sorted (one_root p) = nameless-sorted p
nameless-sorted (concatenation d p q) = (nameless-sorted p, nameless-sorted q)
nameless-sorted (grove_sum p q) = (nameless-sorted p, nameless-sorted q)
nameless-sorted (grove_sum_hole p q) = (nameless-sorted p, nameless-sorted q)
nameless-sorted (application h p q) = (nameless-sorted p, nameless-sorted q)
nameless-sorted (hole_adjoint p q) = (nameless-sorted p, nameless-sorted q)
nameless-sorted (context_adjoint h p q) = (nameless-sorted p, nameless-sorted q)
nameless-sorted (value_meets s a p) = nameless-sorted p
nameless-sorted p = tt

pub nameless_judgement-sorted : (j : JudgementOf Named) → JudgementSorted (nameless_judgement j)
nameless_judgement-sorted (entails p q s) = (nameless-sorted p, nameless-sorted q)
nameless_judgement-sorted (triple p c q d) = tt
