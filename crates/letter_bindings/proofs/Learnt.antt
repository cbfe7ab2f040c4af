-- What a walk that ends well knows: what it knew before, and the letters that it met.
use Rattle.std.proofs.Common.{◌≡◌, refl, sym, ap, subst, ◌∙◌, zero, Bool, true, false, cond, ◌||◌, Option, Some, None, is_some, List, [], ◌∷◌}
use Rattle.model_shapes.specs.Sorts.{Sort, shape, context, DataSort}
use Rattle.model_shapes.specs.Tests.{same_sort, same_data_sort, same_value}
use Rattle.model_terms.specs.Variables.{logic, bound}
use Rattle.model_terms.specs.Terms.{Term, literal, variable, sum, difference, appended}
use Rattle.model_formulas.specs.Formulas.{Formula, truth, falsity, conjunction, disjunction, implication, negation, existential, universal, equality, at_most, empty, bare_hole, node_formula, one_tree, one_root, concatenation, grove_sum, grove_sum_hole, application, hole_adjoint, context_adjoint, same_as, length_is, value_meets}
use Rattle.model_formulas.specs.SameFormulas.{same_term, same_formula, same_side}
use Rattle.model_commands.specs.Theories.{Judgement, entails}
use Rattle.rule_table.specs.Letters.{LogicVar}
use Rattle.rule_patterns.specs.Constant.{constant_formula}
use Rattle.rule_patterns.specs.Letter.{FormulaLetter, TermLetter, P', E', same_formula_letter, same_term_letter}
use Rattle.rule_patterns.specs.Patterns.{DataPattern, some_data, this_data, SortPattern, some_sort, sort_of_x, data_sort, context_sort, either_sort, TermPattern, some_term, x_term, literal_p, sum_p, difference_p, appended_p, FormulaPattern, some_formula, replaced, truth_p, falsity_p, closed_p, conjunction_p, disjunction_p, implication_p, negation_p, exists_p, forall_p, equality_p, at_most_p, empty_p, bare_hole_p, node_p, tree_p, root_p, concatenation_p, sum_of_groves_p, sum_hole_p, application_p, hole_adjoint_p, context_adjoint_p, same_as_p, length_p, meets_p, JudgementPattern, entails_p}
use Rattle.letter_bindings.specs.Known.{FormulaPlaces, TermPlaces, place_in, term_in, data_in, put_place, put_term, Known, with_formula, with_below, with_term, with_data}
use Rattle.letter_bindings.proofs.Learning.{formula_letter-is, term_letter-is, get-place, get-term}
use Rattle.letter_bindings.specs.Matching.{then, if_so, meet, match_data, match_x_sort, same_hole, match_hole, match_sort, same_logic, match_variable, match_term, match_below, match_formula, match_judgement, match_judgements, match_terms}

-- what may be known: a formula letter, what stands below a binder for it, a term letter, the sort
-- of $x, and what P with E for $x is to be
pub data Thing : Type 0 where
  formula_thing below_thing : FormulaLetter → Thing
  term_thing : TermLetter → Thing
  x_sort_thing put_thing : Thing

abbrev pub knows : Thing → Known → Bool
knows (formula_thing a) k = is_some (place_in k.formulas a)
knows (below_thing a) k = is_some (place_in k.belows a)
knows (term_thing a) k = is_some (term_in k.terms a)
knows x_sort_thing k = is_some k.x_sort
knows put_thing k = is_some k.put

-- WHERE IT STANDS
abbrev pub is_formula : Thing → FormulaLetter → Bool
is_formula (formula_thing b) a = same_formula_letter b a
is_formula t a = false

abbrev pub is_below : Thing → FormulaLetter → Bool
is_below (below_thing b) a = same_formula_letter b a
is_below t a = false

abbrev pub is_term : Thing → TermLetter → Bool
is_term (term_thing b) a = same_term_letter b a
is_term t a = false

abbrev pub is_x_sort : Thing → Bool
is_x_sort x_sort_thing = true
is_x_sort t = false

abbrev pub is_put : Thing → Bool
is_put put_thing = true
is_put t = false

module _ (t : Thing) where
  abbrev pub in_sort : SortPattern → Bool
  in_sort sort_of_x = is_x_sort t
  in_sort s = false

  abbrev pub in_term : TermPattern → Bool
  in_term (some_term a) = is_term t a
  in_term x_term = is_x_sort t
  in_term (literal_p v) = false
  in_term (sum_p p q) = in_term p || in_term q
  in_term (difference_p p q) = in_term p || in_term q
  in_term (appended_p p q) = in_term p || in_term q

  abbrev pub in_below : FormulaPattern → Bool
  in_below (some_formula a) = is_below t a
  in_below (conjunction_p p q) = in_below p || in_below q
  in_below (application_p h p q) = in_below p || in_below q
  in_below (same_as_p x_term) = is_x_sort t
  in_below p = false

  abbrev pub in_formula : FormulaPattern → Bool
  in_formula (some_formula a) = is_formula t a
  in_formula (replaced e a) = is_put t
  in_formula (conjunction_p p q) = in_formula p || in_formula q
  in_formula (disjunction_p p q) = in_formula p || in_formula q
  in_formula (implication_p p q) = in_formula p || in_formula q
  in_formula (negation_p p) = in_formula p
  in_formula (exists_p p) = is_x_sort t || in_below p
  in_formula (forall_p p) = is_x_sort t || in_below p
  in_formula (equality_p a b) = in_term a || in_term b
  in_formula (at_most_p a b) = in_term a || in_term b
  in_formula (node_p a b p c) = in_term a || (in_term b || (in_formula p || in_term c))
  in_formula (tree_p p) = in_formula p
  in_formula (root_p p) = in_formula p
  in_formula (concatenation_p d p q) = in_formula p || in_formula q
  in_formula (sum_of_groves_p p q) = in_formula p || in_formula q
  in_formula (sum_hole_p p q) = in_formula p || in_formula q
  in_formula (application_p h p q) = in_formula p || in_formula q
  in_formula (hole_adjoint_p p q) = in_formula p || in_formula q
  in_formula (context_adjoint_p h p q) = in_formula p || in_formula q
  in_formula (same_as_p a) = in_term a
  in_formula (length_p a) = in_term a
  in_formula (meets_p o a p) = in_sort o || (in_term a || in_formula p)
  in_formula p = false

  abbrev pub in_judgement : JudgementPattern → Bool
  in_judgement (entails_p p q o) = in_formula p || (in_formula q || in_sort o)

  abbrev pub in_judgements : List JudgementPattern → Bool
  in_judgements [] = false
  in_judgements (p ∷ ps) = in_judgement p || in_judgements ps

  abbrev pub in_terms : List TermPattern → Bool
  in_terms [] = false
  in_terms (p ∷ ps) = in_term p || in_terms ps

-- WHAT IS PUT IS THERE
put-or : {A : Type 0} (b : Bool) (v : A) (o : Option A)
    → is_some (cond b (Some v) o) ≡ (b || is_some o)
put-or true v o = refl
put-or false v o = refl

set-place : (b a : FormulaLetter) (p : Formula) (ps : FormulaPlaces)
    → is_some (place_in (put_place a p ps) b) ≡ (same_formula_letter b a || is_some (place_in ps b))
set-place b a p ps =
    ap is_some (get-place a p ps b) ∙ put-or (same_formula_letter b a) p (place_in ps b)

set-term : (b a : TermLetter) (t : Term) (ts : TermPlaces)
    → is_some (term_in (put_term a t ts) b) ≡ (same_term_letter b a || is_some (term_in ts b))
set-term b a t ts =
    ap is_some (get-term a t ts b) ∙ put-or (same_term_letter b a) t (term_in ts b)

absorbed : (b c : Bool) → (b ≡ true → c ≡ true) → (b || c) ≡ c
absorbed true c f = sym (f refl)
absorbed false c f = refl

-- it is known at the end where it was known before or stands there
abbrev pub Learns : Thing → Bool → Known → Option Known → Type 0
Learns t b k None = Unit {0}
Learns t b k (Some n) = knows t n ≡ (b || knows t k)

module _ (t : Thing) where
  learns-same : (k : Known) → Learns t false k (Some k)
  learns-same k = refl

  learns-if : (c : Bool) (k : Known) → Learns t false k (if_so c k)
  learns-if true k = refl
  learns-if false k = tt

  -- nothing new where it is known already
  learns-meet : {A : Type 0} (same : A → A → Bool) (o : Option A) (v : A) (b : Bool) (n k : Known)
      → knows t n ≡ (b || knows t k) → (is_some o ≡ true → (b || knows t k) ≡ knows t k)
      → Learns t b k (meet same o v n k)
  learns-meet same None v b n k e f = e
  learns-meet same (Some w) v b n k e f = by (same v w)
    where
      by : (c : Bool) → Learns t b k (if_so c k)
      by true = sym (f refl)
      by false = tt

  or_or : (b c d : Bool) → (c || (b || d)) ≡ ((b || c) || d)
  or_or true true d = refl
  or_or true false d = refl
  or_or false true d = refl
  or_or false false d = refl

  pub learns-then : (b c : Bool) (k : Known) (o : Option Known) (g : Known → Option Known)
      → Learns t b k o → ((n : Known) → Learns t c n (g n)) → Learns t (b || c) k (then o g)
  learns-then b c k None g h f = tt
  learns-then b c k (Some n) g h f = by (g n) (f n)
    where
      by : (o : Option Known) → Learns t c n o → Learns t (b || c) k o
      by None e = tt
      by (Some m) e = e ∙ (ap (λ d. c || d) h ∙ or_or b c (knows t k))

  -- what is learnt of other things
  learns-data : (p : DataPattern) (h : DataSort) (k : Known) → Learns t false k (match_data p h k)
  learns-data (some_data a) h k =
      learns-meet same_data_sort (data_in k.datas a) h false (with_data a h k) k
      (others t) (λ e. refl)
    where
      others : (u : Thing) → knows u (with_data a h k) ≡ knows u k
      others (formula_thing b) = refl
      others (below_thing b) = refl
      others (term_thing b) = refl
      others x_sort_thing = refl
      others put_thing = refl
  learns-data (this_data j) h k = learns-if (same_data_sort j h) k

  learns-hole : (o : Option DataSort) (k : Known) → Learns t false k (match_hole o k)
  learns-hole o k =
      learns-meet same_hole k.hole o false (record k { hole = Some o }) k (others t) (λ e. refl)
    where
      others : (u : Thing) → knows u (record k { hole = Some o }) ≡ knows u k
      others (formula_thing b) = refl
      others (below_thing b) = refl
      others (term_thing b) = refl
      others x_sort_thing = refl
      others put_thing = refl

  learns-x_sort : (s : Sort) (k : Known) → Learns t (is_x_sort t) k (match_x_sort s k)
  learns-x_sort s k =
      learns-meet same_sort k.x_sort s (is_x_sort t) (record k { x_sort = Some s }) k (new t)
      (old t)
    where
      new : (u : Thing) → knows u (record k { x_sort = Some s }) ≡ (is_x_sort u || knows u k)
      new (formula_thing b) = refl
      new (below_thing b) = refl
      new (term_thing b) = refl
      new x_sort_thing = refl
      new put_thing = refl

      old : (u : Thing) → is_some k.x_sort ≡ true → (is_x_sort u || knows u k) ≡ knows u k
      old (formula_thing b) e = refl
      old (below_thing b) e = refl
      old (term_thing b) e = refl
      old x_sort_thing e = sym e
      old put_thing e = refl

  learns-some_sort : (s : Sort) (k : Known)
      → Learns t false k (meet same_sort k.sort s (record k { sort = Some s }) k)
  learns-some_sort s k =
      learns-meet same_sort k.sort s false (record k { sort = Some s }) k (others t) (λ e. refl)
    where
      others : (u : Thing) → knows u (record k { sort = Some s }) ≡ knows u k
      others (formula_thing b) = refl
      others (below_thing b) = refl
      others (term_thing b) = refl
      others x_sort_thing = refl
      others put_thing = refl

  pub learns-sort : (p : SortPattern) (s : Sort) (k : Known)
      → Learns t (in_sort t p) k (match_sort p s k)
  learns-sort some_sort s k = learns-some_sort s k
  learns-sort sort_of_x s k = learns-x_sort s k
  learns-sort (data_sort p) (shape h) k = learns-data p h k
  learns-sort (context_sort p q) (context h j) k =
      learns-then false false k (match_data p h k) (match_data q j) (learns-data p h k)
      (learns-data q j)
  learns-sort (either_sort p) (shape h) k =
      learns-then false false k (match_hole None k) (match_data p h) (learns-hole None k)
      (learns-data p h)
  learns-sort (either_sort p) (context g h) k =
      learns-then false false k (match_hole (Some g) k) (match_data p h) (learns-hole (Some g) k)
      (learns-data p h)
  learns-sort p s k = tt

  learns-variable : (v : LogicVar) (k : Known) → Learns t (is_x_sort t) k (match_variable v k)
  learns-variable v k = subst (λ b. Learns t b k (match_variable v k)) (or_false (is_x_sort t))
      (learns-then (is_x_sort t) false k (match_x_sort v.sort k)
      (λ n. meet same_logic n.x v (record n { x = Some v }) n) (learns-x_sort v.sort k) at)
    where
      others : (n : Known) (u : Thing) → knows u (record n { x = Some v }) ≡ knows u n
      others n (formula_thing b) = refl
      others n (below_thing b) = refl
      others n (term_thing b) = refl
      others n x_sort_thing = refl
      others n put_thing = refl

      at : (n : Known) → Learns t false n (meet same_logic n.x v (record n { x = Some v }) n)
      at n = learns-meet same_logic n.x v false (record n { x = Some v }) n (others n t) (λ e. refl)

      or_false : (b : Bool) → (b || false) ≡ b
      or_false true = refl
      or_false false = refl

  learns-term_letter : (a : TermLetter) (e : Term) (k : Known)
      → Learns t (is_term t a) k (meet same_term (term_in k.terms a) e (with_term a e k) k)
  learns-term_letter a e k =
      learns-meet same_term (term_in k.terms a) e (is_term t a) (with_term a e k) k (new t) (old t)
    where
      new : (u : Thing) → knows u (with_term a e k) ≡ (is_term u a || knows u k)
      new (formula_thing b) = refl
      new (below_thing b) = refl
      new (term_thing b) = set-term b a e k.terms
      new x_sort_thing = refl
      new put_thing = refl

      old : (u : Thing) → is_some (term_in k.terms a) ≡ true
          → (is_term u a || knows u k) ≡ knows u k
      old (formula_thing b) f = refl
      old (below_thing b) f = refl
      old (term_thing b) f =
          absorbed (same_term_letter b a) (is_some (term_in k.terms b))
          (λ g. subst (λ c. is_some (term_in k.terms c) ≡ true) (sym (term_letter-is b a g)) f)
      old x_sort_thing f = refl
      old put_thing f = refl

  pub learns-term : (p : TermPattern) (e : Term) (k : Known)
      → Learns t (in_term t p) k (match_term p e k)
  learns-term (some_term a) e k = learns-term_letter a e k
  learns-term x_term (variable (logic n s)) k = learns-variable (record { name = n; sort = s }) k
  learns-term (literal_p v) (literal w) k = learns-if (same_value v w) k
  learns-term (sum_p p q) (sum a b) k =
      learns-then (in_term t p) (in_term t q) k (match_term p a k) (match_term q b)
      (learns-term p a k) (learns-term q b)
  learns-term (difference_p p q) (difference a b) k =
      learns-then (in_term t p) (in_term t q) k (match_term p a k) (match_term q b)
      (learns-term p a k) (learns-term q b)
  learns-term (appended_p p q) (appended a b) k =
      learns-then (in_term t p) (in_term t q) k (match_term p a k) (match_term q b)
      (learns-term p a k) (learns-term q b)
  learns-term p e k = tt

  learns-letter : (a : FormulaLetter) (p : Formula) (k : Known) → Learns t (is_formula t a) k
      (meet same_formula (place_in k.formulas a) p (with_formula a p k) k)
  learns-letter a p k =
      learns-meet same_formula (place_in k.formulas a) p (is_formula t a) (with_formula a p k) k
      (new t) (old t)
    where
      new : (u : Thing) → knows u (with_formula a p k) ≡ (is_formula u a || knows u k)
      new (formula_thing b) = set-place b a p k.formulas
      new (below_thing b) = refl
      new (term_thing b) = refl
      new x_sort_thing = refl
      new put_thing = refl

      old : (u : Thing) → is_some (place_in k.formulas a) ≡ true
          → (is_formula u a || knows u k) ≡ knows u k
      old (formula_thing b) f =
          absorbed (same_formula_letter b a) (is_some (place_in k.formulas b))
          (λ g. subst (λ c. is_some (place_in k.formulas c) ≡ true)
          (sym (formula_letter-is b a g)) f)
      old (below_thing b) f = refl
      old (term_thing b) f = refl
      old x_sort_thing f = refl
      old put_thing f = refl

  learns-letter_below : (a : FormulaLetter) (p : Formula) (k : Known) → Learns t (is_below t a) k
      (meet same_formula (place_in k.belows a) p (with_below a p k) k)
  learns-letter_below a p k =
      learns-meet same_formula (place_in k.belows a) p (is_below t a) (with_below a p k) k
      (new t) (old t)
    where
      new : (u : Thing) → knows u (with_below a p k) ≡ (is_below u a || knows u k)
      new (formula_thing b) = refl
      new (below_thing b) = set-place b a p k.belows
      new (term_thing b) = refl
      new x_sort_thing = refl
      new put_thing = refl

      old : (u : Thing) → is_some (place_in k.belows a) ≡ true
          → (is_below u a || knows u k) ≡ knows u k
      old (formula_thing b) f = refl
      old (below_thing b) f =
          absorbed (same_formula_letter b a) (is_some (place_in k.belows b))
          (λ g. subst (λ c. is_some (place_in k.belows c) ≡ true)
          (sym (formula_letter-is b a g)) f)
      old (term_thing b) f = refl
      old x_sort_thing f = refl
      old put_thing f = refl

  learns-put : (p : Formula) (k : Known)
      → Learns t (is_put t) k (meet same_formula k.put p (record k { put = Some p }) k)
  learns-put p k =
      learns-meet same_formula k.put p (is_put t) (record k { put = Some p }) k (new t) (old t)
    where
      new : (u : Thing) → knows u (record k { put = Some p }) ≡ (is_put u || knows u k)
      new (formula_thing b) = refl
      new (below_thing b) = refl
      new (term_thing b) = refl
      new x_sort_thing = refl
      new put_thing = refl

      old : (u : Thing) → is_some k.put ≡ true → (is_put u || knows u k) ≡ knows u k
      old (formula_thing b) e = refl
      old (below_thing b) e = refl
      old (term_thing b) e = refl
      old x_sort_thing e = refl
      old put_thing e = sym e

  pub learns-below : (p : FormulaPattern) (f : Formula) (k : Known)
      → Learns t (in_below t p) k (match_below p f k)
  learns-below (some_formula a) f k = learns-letter_below a f k
  learns-below (conjunction_p p q) (conjunction r s) k =
      learns-then (in_below t p) (in_below t q) k (match_below p r k) (match_below q s)
      (learns-below p r k) (learns-below q s)
  learns-below (application_p h p q) (application j r s) k =
      learns-then false (in_below t p || in_below t q) k (match_data h j k)
      (λ n. then (match_below p r n) (match_below q s)) (learns-data h j k)
      (λ n. learns-then (in_below t p) (in_below t q) n (match_below p r n) (match_below q s)
      (learns-below p r n) (learns-below q s))
  learns-below (same_as_p x_term) (same_as (variable (bound zero s))) k = learns-x_sort s k
  learns-below p f k = tt

  -- two parts, and two behind something that is learnt of nothing
  learns-both : (p q : FormulaPattern) (r s : Formula)
      → ((k : Known) → Learns t (in_formula t p) k (match_formula p r k))
      → ((k : Known) → Learns t (in_formula t q) k (match_formula q s k)) → (k : Known)
      → Learns t (in_formula t p || in_formula t q) k
      (then (match_formula p r k) (match_formula q s))
  learns-both p q r s f g k =
      learns-then (in_formula t p) (in_formula t q) k (match_formula p r k) (match_formula q s)
      (f k) g

  learns-bound : (p : FormulaPattern) (s : Sort) (r : Formula) (k : Known)
      → Learns t (is_x_sort t || in_below t p) k (then (match_x_sort s k) (match_below p r))
  learns-bound p s r k =
      learns-then (is_x_sort t) (in_below t p) k (match_x_sort s k) (match_below p r)
      (learns-x_sort s k) (learns-below p r)

  learns-terms_two : (p q : TermPattern) (a b : Term) (k : Known)
      → Learns t (in_term t p || in_term t q) k (then (match_term p a k) (match_term q b))
  learns-terms_two p q a b k =
      learns-then (in_term t p) (in_term t q) k (match_term p a k) (match_term q b)
      (learns-term p a k) (learns-term q b)

  pub learns-formula : (p : FormulaPattern) (f : Formula) (k : Known)
      → Learns t (in_formula t p) k (match_formula p f k)
  learns-formula (some_formula a) f k = learns-letter a f k
  learns-formula (replaced E' P') f k = learns-put f k
  learns-formula (closed_p c) f k = learns-if (same_formula (constant_formula c) f) k
  learns-formula truth_p truth k = refl
  learns-formula falsity_p falsity k = refl
  learns-formula (conjunction_p p q) (conjunction r s) k =
      learns-both p q r s (learns-formula p r) (learns-formula q s) k
  learns-formula (disjunction_p p q) (disjunction r s) k =
      learns-both p q r s (learns-formula p r) (learns-formula q s) k
  learns-formula (implication_p p q) (implication r s) k =
      learns-both p q r s (learns-formula p r) (learns-formula q s) k
  learns-formula (negation_p p) (negation r) k = learns-formula p r k
  learns-formula (exists_p p) (existential s r) k = learns-bound p s r k
  learns-formula (forall_p p) (universal s r) k = learns-bound p s r k
  learns-formula (equality_p p q) (equality a b) k = learns-terms_two p q a b k
  learns-formula (at_most_p p q) (at_most a b) k = learns-terms_two p q a b k
  learns-formula (empty_p h) (empty j) k = learns-data h j k
  learns-formula (bare_hole_p h) (bare_hole j) k = learns-data h j k
  learns-formula (node_p p q r s) (node_formula a b f c) k =
      learns-then (in_term t p) (in_term t q || (in_formula t r || in_term t s)) k
      (match_term p a k)
      (λ n. then (match_term q b n) (λ m. then (match_formula r f m) (match_term s c)))
      (learns-term p a k)
      (λ n. learns-then (in_term t q) (in_formula t r || in_term t s) n (match_term q b n)
      (λ m. then (match_formula r f m) (match_term s c)) (learns-term q b n)
      (λ m. learns-then (in_formula t r) (in_term t s) m (match_formula r f m) (match_term s c)
      (learns-formula r f m) (learns-term s c)))
  learns-formula (tree_p p) (one_tree r) k = learns-formula p r k
  learns-formula (root_p p) (one_root r) k = learns-formula p r k
  learns-formula (concatenation_p d p q) (concatenation e r s) k =
      learns-then false (in_formula t p || in_formula t q) k (if_so (same_side d e) k)
      (λ n. then (match_formula p r n) (match_formula q s)) (learns-if (same_side d e) k)
      (learns-both p q r s (learns-formula p r) (learns-formula q s))
  learns-formula (sum_of_groves_p p q) (grove_sum r s) k =
      learns-both p q r s (learns-formula p r) (learns-formula q s) k
  learns-formula (sum_hole_p p q) (grove_sum_hole r s) k =
      learns-both p q r s (learns-formula p r) (learns-formula q s) k
  learns-formula (application_p h p q) (application j r s) k =
      learns-then false (in_formula t p || in_formula t q) k (match_data h j k)
      (λ n. then (match_formula p r n) (match_formula q s)) (learns-data h j k)
      (learns-both p q r s (learns-formula p r) (learns-formula q s))
  learns-formula (hole_adjoint_p p q) (hole_adjoint r s) k =
      learns-both p q r s (learns-formula p r) (learns-formula q s) k
  learns-formula (context_adjoint_p h p q) (context_adjoint j r s) k =
      learns-then false (in_formula t p || in_formula t q) k (match_data h j k)
      (λ n. then (match_formula p r n) (match_formula q s)) (learns-data h j k)
      (learns-both p q r s (learns-formula p r) (learns-formula q s))
  learns-formula (same_as_p p) (same_as a) k = learns-term p a k
  learns-formula (length_p p) (length_is a) k = learns-term p a k
  learns-formula (meets_p o p q) (value_meets s a r) k =
      learns-then (in_sort t o) (in_term t p || in_formula t q) k (match_sort o s k)
      (λ n. then (match_term p a n) (match_formula q r)) (learns-sort o s k)
      (λ n. learns-then (in_term t p) (in_formula t q) n (match_term p a n) (match_formula q r)
      (learns-term p a n) (learns-formula q r))
  learns-formula p f k = tt

  pub learns-judgement : (p : JudgementPattern) (j : Judgement) (k : Known)
      → Learns t (in_judgement t p) k (match_judgement p j k)
  learns-judgement (entails_p p q o) (entails r s u) k =
      learns-then (in_formula t p) (in_formula t q || in_sort t o) k (match_formula p r k)
      (λ n. then (match_formula q s n) (match_sort o u)) (learns-formula p r k)
      (λ n. learns-then (in_formula t q) (in_sort t o) n (match_formula q s n) (match_sort o u)
      (learns-formula q s n) (learns-sort o u))
  learns-judgement p j k = tt

  pub learns-judgements : (ps : List JudgementPattern) (js : List Judgement) (k : Known)
      → Learns t (in_judgements t ps) k (match_judgements ps js k)
  learns-judgements [] [] k = refl
  learns-judgements (p ∷ ps) (j ∷ js) k =
      learns-then (in_judgement t p) (in_judgements t ps) k (match_judgement p j k)
      (match_judgements ps js) (learns-judgement p j k) (learns-judgements ps js)
  learns-judgements ps js k = tt

  pub learns-terms : (ps : List TermPattern) (es : List Term) (k : Known)
      → Learns t (in_terms t ps) k (match_terms ps es k)
  learns-terms [] [] k = refl
  learns-terms (p ∷ ps) (e ∷ es) k =
      learns-then (in_term t p) (in_terms t ps) k (match_term p e k) (match_terms ps es)
      (learns-term p e k) (learns-terms ps es)
  learns-terms ps es k = tt
