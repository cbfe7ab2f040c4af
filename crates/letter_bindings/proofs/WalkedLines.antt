-- The walk over a row is exact: over the arguments and the conclusion, and over the premises.
use Rattle.std.proofs.Common.{◌≡◌, true, refl, ap, Option, Some, None, List, [], ◌∷◌}
use Rattle.model_shapes.proofs.Truth.{both_true}
use Rattle.model_shapes.specs.Sorts.{Sort}
use Rattle.model_terms.specs.Terms.{Term}
use Rattle.model_formulas.specs.Formulas.{Formula}
use Rattle.model_commands.specs.Theories.{Judgement, entails, triple}
use Rattle.rule_table.specs.Verdicts.{Written}
use Rattle.rule_patterns.specs.Patterns.{TermPattern, JudgementPattern, entails_p, LinePattern, term_of, terms_of, formula_of, sort_of_pattern, judgement_of, judgements_of}
use Rattle.letter_bindings.specs.Known.{Known, nothing, Exact}
use Rattle.letter_bindings.specs.Matching.{match_term, match_terms, match_formula, match_sort, match_judgement, match_judgements, binds_simply, judgement_binds_simply, each_binds_simply}
use Rattle.letter_bindings.specs.Lines.{walk_conclusion, walk_premises, line_simple}
use Rattle.letter_bindings.proofs.Steps.{holds, fails, given, then-exact, two-exact, three-exact}
use Rattle.letter_bindings.proofs.Walks.{term-exact, sort-exact, formula-exact}

-- LISTS
term-parts : (a c : Term) (b d : List Term) → a ∷ b ≡ c ∷ d → (a ≡ c) × (b ≡ d)
term-parts a c b d e = (cc, cc)

judgement-parts : (a c : Judgement) (b d : List Judgement) → a ∷ b ≡ c ∷ d → (a ≡ c) × (b ≡ d)
judgement-parts a c b d e = (cc, cc)

entails-parts : (a d b e : Formula) (c f : Sort) → entails a b c ≡ entails d e f
    → (a ≡ d) × (b ≡ e) × (c ≡ f)
entails-parts a d b e c f h = (cc, cc, cc)

pub terms-exact : (ps : List TermPattern) (ts : List Term) (k : Known)
    → Exact k (match_terms ps ts k) (λ l. terms_of l ps ≡ ts)
terms-exact [] [] k = holds k (λ l. terms_of l [] ≡ []) (λ l g. refl)
terms-exact (p ∷ ps) (t ∷ ts) k = two-exact ◌∷◌ term-parts k (match_term p t k) (match_terms ps ts)
    (λ l. term_of l p) (λ l. terms_of l ps) t ts (term-exact p t k) (terms-exact ps ts)
terms-exact [] (t ∷ ts) k = fails k (λ l. terms_of l [] ≡ t ∷ ts) (λ l g e. cc)
terms-exact (p ∷ ps) [] k = fails k (λ l. terms_of l (p ∷ ps) ≡ []) (λ l g e. cc)

-- JUDGEMENTS
pub judgement-exact : (p : JudgementPattern) → judgement_binds_simply p ≡ true → (j : Judgement)
    → (k : Known) → Exact k (match_judgement p j k) (λ l. judgement_of l p ≡ j)
judgement-exact (entails_p p q o) t (entails r s u) k =
    let b : (binds_simply p ≡ true) × (binds_simply q ≡ true) = both_true _ _ t in
    three-exact entails entails-parts k (match_formula p r k) (match_formula q s) (match_sort o u)
    (λ l. formula_of l p) (λ l. formula_of l q) (λ l. sort_of_pattern l o) r s u
    (formula-exact p b.0 r k) (formula-exact q b.1 s) (sort-exact o u)
judgement-exact (entails_p p q o) t (triple r c s d) k =
    fails k (λ l. judgement_of l (entails_p p q o) ≡ triple r c s d) (λ l g e. cc)

pub judgements-exact : (ps : List JudgementPattern) → each_binds_simply ps ≡ true
    → (js : List Judgement) (k : Known)
    → Exact k (match_judgements ps js k) (λ l. judgements_of l ps ≡ js)
judgements-exact [] t [] k = holds k (λ l. judgements_of l [] ≡ []) (λ l g. refl)
judgements-exact (p ∷ ps) t (j ∷ js) k =
    let b : (judgement_binds_simply p ≡ true) × (each_binds_simply ps ≡ true) = both_true _ _ t in
    two-exact ◌∷◌ judgement-parts k (match_judgement p j k) (match_judgements ps js)
    (λ l. judgement_of l p) (λ l. judgements_of l ps) j js (judgement-exact p b.0 j k)
    (judgements-exact ps b.1 js)
judgements-exact [] t (j ∷ js) k = fails k (λ l. judgements_of l [] ≡ j ∷ js) (λ l g e. cc)
judgements-exact (p ∷ ps) t [] k = fails k (λ l. judgements_of l (p ∷ ps) ≡ []) (λ l g e. cc)

-- ROWS
simple-parts : (p : LinePattern) → line_simple p ≡ true
    → (judgement_binds_simply p.conclusion ≡ true) × (each_binds_simply p.premises ≡ true)
simple-parts p s = both_true _ _ s

pub conclusion-exact : (p : LinePattern) → line_simple p ≡ true → (w : Written)
    → Exact nothing (walk_conclusion p w)
    (λ l. (terms_of l p.arguments ≡ w.arguments) × (judgement_of l p.conclusion ≡ w.conclusion))
conclusion-exact p s w = then-exact nothing (match_terms p.arguments w.arguments nothing)
    (match_judgement p.conclusion w.conclusion) (λ l. terms_of l p.arguments ≡ w.arguments)
    (λ l. judgement_of l p.conclusion ≡ w.conclusion) (terms-exact p.arguments w.arguments nothing)
    (judgement-exact p.conclusion (simple-parts p s).0 w.conclusion)

pub premises-exact : (p : LinePattern) → line_simple p ≡ true → (js : Option (List Judgement))
    → (k : Known) → Exact k (walk_premises p js k) (λ l. Some (judgements_of l p.premises) ≡ js)
premises-exact p s None k =
    fails k (λ l. Some (judgements_of l p.premises) ≡ None) (λ l g e. cc)
premises-exact p s (Some js) k = given k (match_judgements p.premises js k)
    (λ l. judgements_of l p.premises ≡ js) (λ l. Some (judgements_of l p.premises) ≡ Some js)
    (λ l g. (λ e. ap Some e, λ e. cc))
    (judgements-exact p.premises (simple-parts p s).1 js k)
