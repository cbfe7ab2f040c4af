-- What is written in another number than the row asks for is refused.
use Rattle.std.proofs.Common.{◌≡◌, ℕ, ◌<◌, List, [], ◌∷◌, length, map, Option, Some, None, refl, arith}
use Rattle.model_terms.specs.Terms.{Term}
use Rattle.rule_patterns.specs.Patterns.{TermPattern, JudgementPattern}
use Rattle.letter_bindings.specs.Known.{Known}
use Rattle.letter_bindings.specs.Matching.{then, match_term, match_terms, match_judgement, match_judgements}
use Rattle.formula_table.specs.declared.tables.Table.{Table}
use Rattle.row_walks.specs.declared.steps.Numbered.{Numbered}
use Rattle.row_walks.specs.declared.steps.Cited.{Cited}
use Rattle.row_walks.specs.declared.steps.Cited.TheVariants as c
use Rattle.row_walks.specs.Written.{judged_at, all_cited}

then-refused : (o : Option Known) (g : Known → Option Known) → ((k : Known) → g k ≡ None)
    → then o g ≡ None
then-refused None g h = refl
then-refused (Some k) g h = h k

-- more arguments than one
pub many-arguments : (f : ℕ → Term) (numbers : List ℕ) (p : TermPattern) (k : Known)
    → 1 < length numbers → match_terms (p ∷ []) (map f numbers) k ≡ None
many-arguments f [] p k h = absurd (omega arith)
many-arguments f (x ∷ []) p k h = absurd (omega arith)
many-arguments f (x ∷ y ∷ xs) p k h =
    then-refused (match_term p (f x) k) (match_terms [] (f y ∷ map f xs)) (λ n. refl)

-- another number of premises than one
pub other-than-one : (t : Table) (p : JudgementPattern) (cited : Cited) (k : Known)
    → ((a : Numbered) → cited ≡ c.One a → ⊥)
    → match_judgements (p ∷ []) (all_cited t cited) k ≡ None
other-than-one t p c.Nothing k h = refl
other-than-one t p (c.One a) k h = absurd (h a refl)
other-than-one t p (c.Two a b) k h = then-refused (match_judgement p (judged_at t a) k)
    (match_judgements [] (judged_at t b ∷ [])) (λ n. refl)

-- another number than two
pub other-than-two : (t : Table) (p q : JudgementPattern) (cited : Cited) (k : Known)
    → ((a b : Numbered) → cited ≡ c.Two a b → ⊥)
    → match_judgements (p ∷ q ∷ []) (all_cited t cited) k ≡ None
other-than-two t p q c.Nothing k h = refl
other-than-two t p q (c.One a) k h =
    then-refused (match_judgement p (judged_at t a) k) (match_judgements (q ∷ []) []) (λ n. refl)
other-than-two t p q (c.Two a b) k h = absurd (h a b refl)

pub ruleset refusals = (many-arguments, other-than-one, other-than-two)
