-- Numbers that stand for what is written: they keep their meaning as the table grows, and what they
-- stand for is the step.
use Rattle.std.proofs.Common.{◌≡◌, ◌∙◌, ℕ, refl, sym, ap, List, [], ◌∷◌, ◌++◌, map, arith, ◌+◌, ◌<◌, length, take, get_or, subst, Option, Some, None}
use Rattle.std.proofs.lemmas.List.{map-append, take_more}
use Rattle.model_terms.specs.Terms.{Term, literal}
use Rattle.model_shapes.specs.Values.{null}
use Rattle.model_formulas.specs.Formulas.{Formula, truth}
use Rattle.model_commands.specs.Theories.{Judgement, entails, triple}
use Rattle.dom_terms.specs.Terms.{term_of}
use Rattle.dom_terms.specs.declared.terms.Term as terms
use Rattle.formula_syntax.specs.declared.entailments.Entailment.{Entailment}
use Rattle.formula_table.specs.Forms.{forms_at, term_at, terms_at}
use Rattle.formula_table.specs.Interning.{IsTerm, KeepsAll, StandsFor}
use Rattle.formula_table.specs.declared.tables.Table.{Table}
use Rattle.formula_table.proofs.Growing.{keeps-at, keeps-length}
use Rattle.row_walks.specs.declared.steps.Numbered.{Numbered}
use Rattle.row_walks.specs.declared.steps.Cited as numbers
use Rattle.row_walks.specs.declared.steps.Cited.TheVariants as n
use Rattle.row_walks.specs.Written as walks
use Rattle.entail_rules.specs.declared.cited.Cited.{Cited}
use Rattle.entail_rules.specs.declared.cited.Cited.TheVariants as c
use Rattle.entail_rules.specs.declared.numbering.Numbers.{Numbers}
use Rattle.entail_rules.specs.Judged.{judged, all_cited}
use Rattle.entail_rules.specs.Numbers.{AllHaveRows, AllStandFor, AreNumbers, CitedKnown, CitedStand, EntailmentStands, IsKnown, JudgementHasRows, JudgementStands}

-- TABLES THAT GROW
module _ (t u : Table) (k : KeepsAll t u) where
  pub stands-kept : (i : ℕ) (p : Formula) → StandsFor t i p → StandsFor u i p
  stands-kept i p h = record {
    there = omega (arith, h.there, keeps-length _ _ k.forms);
    is = keeps-at (forms_at t) (forms_at u) i truth k.forms h.there ∙ h.is;
  }

  pub term-kept : (i : ℕ) (a : Term) → IsTerm t i a → IsTerm u i a
  term-kept i a h = record {
    there = omega (arith, h.there, keeps-length _ _ k.terms);
    is = keeps-at (terms_at t) (terms_at u) i (literal null) k.terms h.there ∙ h.is;
  }

  pub terms-kept : (is : List ℕ) (ts : List Term) → AllStandFor t is ts → AllStandFor u is ts
  terms-kept [] [] h = tt
  terms-kept [] (a ∷ ts) h = absurd h
  terms-kept (i ∷ is) [] h = absurd h
  terms-kept (i ∷ is) (a ∷ ts) h = (term-kept i a h.0, terms-kept is ts h.1)

  pub judgement-kept : (i : Numbered) (j : Judgement) → JudgementStands t i j
      → JudgementStands u i j
  judgement-kept i (entails p q s) h = record {
    left = stands-kept i.left p h.left;
    right = stands-kept i.right q h.right;
    sort = h.sort;
  }
  judgement-kept i (triple p c q d) h = absurd h

  pub entailment-kept : (i : Numbered) (e : Entailment) → EntailmentStands t i e
      → EntailmentStands u i e
  entailment-kept i e h = judgement-kept i (judged e) h

  -- where they are known
  pub known-kept : (o : Option Numbered) (j : Judgement) → IsKnown t o j → IsKnown u o j
  known-kept None j h = tt
  known-kept (Some i) j h = judgement-kept i j h

  pub cited-known : (cited : Cited) → CitedKnown t cited → CitedKnown u cited
  cited-known c.Nothing h = tt
  cited-known (c.One a) h = known-kept a.numbers (judged a.entailment.now) h
  cited-known (c.Two a b) h = (
    known-kept a.numbers (judged a.entailment.now) h.0,
    known-kept b.numbers (judged b.entailment.now) h.1,
  )

  pub cited-kept : (ns : numbers.Cited) (cited : Cited) → CitedStand t ns cited
      → CitedStand u ns cited
  cited-kept n.Nothing c.Nothing h = tt
  cited-kept (n.One i) (c.One a) h = entailment-kept i a.entailment.now h
  cited-kept (n.Two i j) (c.Two a b) h =
      (entailment-kept i a.entailment.now h.0, entailment-kept j b.entailment.now h.1)
  cited-kept ns cited h = absurd h

-- one more
pub terms-more : (t : Table) (is : List ℕ) (ts : List Term) (i : ℕ) (a : Term)
    → AllStandFor t is ts → IsTerm t i a → AllStandFor t (is ++ i ∷ []) (ts ++ a ∷ [])
terms-more t [] [] i a h k = (k, tt)
terms-more t [] (b ∷ ts) i a h k = absurd h
terms-more t (j ∷ is) [] i a h k = absurd h
terms-more t (j ∷ is) (b ∷ ts) i a h k = (h.0, terms-more t is ts i a h.1 k)

pub terms-next : (t u : Table) → KeepsAll t u → (ns : List ℕ) (xs : List terms.Term) (i n : ℕ)
    (d : terms.Term) → i < length xs → AllStandFor t ns (map term_of (take i xs))
    → IsTerm u n (term_of (get_or xs i d))
    → AllStandFor u (ns ++ n ∷ []) (map term_of (take (i + 1) xs))
terms-next t u k ns xs i n d lt h new =
    subst (AllStandFor u (ns ++ n ∷ []))
    (sym (ap (map term_of) (take_more xs i d lt)
    ∙ map-append term_of (take i xs) (get_or xs i d ∷ [])))
    (terms-more u ns (map term_of (take i xs)) n (term_of (get_or xs i d))
    (terms-kept t u k ns (map term_of (take i xs)) h) new)

module _ (t : Table) where
  -- WHAT THEY STAND FOR
  pub terms-are : (is : List ℕ) (ts : List Term) → AllStandFor t is ts → map (term_at t) is ≡ ts
  terms-are [] [] h = refl
  terms-are [] (a ∷ ts) h = absurd h
  terms-are (i ∷ is) [] h = absurd h
  terms-are (i ∷ is) (a ∷ ts) h = let e : map (term_at t) is ≡ ts = terms-are is ts h.1 in
      cc (e, h.0.is)

  pub judgement-is : (i : Numbered) (e : Entailment) → EntailmentStands t i e
      → walks.judged_at t i ≡ judged e
  judgement-is i e h = cc (h.left.is, h.right.is, h.sort)

  pub cited-are : (ns : numbers.Cited) (cited : Cited) → CitedStand t ns cited
      → walks.all_cited t ns ≡ all_cited cited
  cited-are n.Nothing c.Nothing h = refl
  cited-are (n.One i) (c.One a) h = ap (λ j. j ∷ []) (judgement-is i a.entailment.now h)
  cited-are (n.Two i j) (c.Two a b) h =
      let d : walks.judged_at t i ≡ judged a.entailment.now =
      judgement-is i a.entailment.now h.0 in
      let e : walks.judged_at t j ≡ judged b.entailment.now =
      judgement-is j b.entailment.now h.1 in
      cc (d, e)
  cited-are ns cited h = absurd h

  -- each formula has a row
  entailment-rows : (i : Numbered) (e : Entailment) → EntailmentStands t i e
      → JudgementHasRows t (judged e)
  entailment-rows i e h = ((i.left, h.left), (i.right, h.right))

  cited-rows : (ns : numbers.Cited) (cited : Cited) → CitedStand t ns cited
      → AllHaveRows t (all_cited cited)
  cited-rows n.Nothing c.Nothing h = tt
  cited-rows (n.One i) (c.One a) h = (entailment-rows i a.entailment.now h, tt)
  cited-rows (n.Two i j) (c.Two a b) h =
      (entailment-rows i a.entailment.now h.0, (entailment-rows j b.entailment.now h.1, tt))
  cited-rows ns cited h = absurd h

  pub numbers-rows : (ns : Numbers) (ts : List Term) (cited : Cited) (e : Entailment)
      → AreNumbers t ns ts cited e → AllHaveRows t (judged e ∷ all_cited cited)
  numbers-rows ns ts cited e h =
      (entailment-rows ns.conclusion e h.conclusion, cited-rows ns.cited cited h.cited)
