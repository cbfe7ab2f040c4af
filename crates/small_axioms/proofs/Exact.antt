-- The verdict by the rows of an axiom follows from the tests.
use Rattle.std.proofs.Common.{◌≡◌, refl, sym, ap, ◌∙◌, subst, inl, inr, ⊎_elim, Bool, true, false, ◌↔◌, IsTrue, ℕ, ◌==◌, List, [], ◌∷◌, length, map, Option, Some, None, arith}
use Rattle.std.proofs.lemmas.Bool.{ne_eqb, or_cases, or_left, or_right}
use Rattle.model_shapes.specs.Sorts.{DataSort}
use Rattle.model_shapes.proofs.Truth.{false≢true}
use Rattle.model_formulas.specs.Formulas.{Formula}
use Rattle.model_commands.specs.Commands.{Command}
use Rattle.model_commands.specs.Theories.{Judgement, Step, triple}
use Rattle.rule_table.specs.Accepted.{judgement_numbered, in_front, cited}
use Rattle.rule_table.specs.Conditions.{assigned_side}
use Rattle.rule_table.specs.Entries.{Row}
use Rattle.rule_table.specs.Lines.{Line}
use Rattle.rule_table.specs.Verdicts.{Written, Concludes, Follows, MeetsFirst, MeetsAll, SomeLine, side_at, IsVerdict}
use Rattle.dom_terms.specs.Terms.{term_of}
use Rattle.dom_terms.specs.declared.terms.Term as terms
use Rattle.letter_bindings.specs.Bodies.{BindsSorted}
use Rattle.small_axioms.specs.Commands.{known_of}
use Rattle.small_axioms.specs.Lines.{line_for, AllTied}
use Rattle.small_axioms.specs.Patterns.{AxiomPattern}
use Rattle.small_axioms.specs.Tests.{fits, fits_one, is_assigned, verdict_where}
use Rattle.small_axioms.proofs.Conditions.{unset-holds, set-fails}
use Rattle.small_axioms.proofs.Fitting.{plain, fits-line, line-fits}

-- SOME LINE of the rows, each of which is that of its conclusion
some-line : (rows : List Row) (ps : List AxiomPattern) → AllTied rows ps → (P Q : Line → Type 0)
    → ((line : Line) → line ≡ line_for line.conclusion → P line → Q line) → SomeLine rows P
    → SomeLine rows Q
some-line [] ps t P Q f m = m
some-line (row ∷ rows) [] t P Q f m = absurd t
some-line (row ∷ rows) (a ∷ ps) t P Q f m =
    ⊎_elim (λ x. inl (x.0, f (row x.0) (plain row a t.0 x.0) x.1))
    (λ y. inr (some-line rows ps t.1 P Q f y)) m

no-line : (rows : List Row) → SomeLine rows (λ line. ⊥) → ⊥
no-line [] m = m
no-line (row ∷ rows) m = ⊎_elim (λ x. x.1) (no-line rows) m

module _ (c : Command) (p q : Formula) (d : DataSort) (sorted : BindsSorted p × BindsSorted q) where
  abbrev j : Judgement
  j = triple p c q d

  fits-some : (rows : List Row) (ps : List AxiomPattern) → AllTied rows ps
      → fits_one ps c (known_of c) p q d ≡ true → SomeLine rows (λ line. line ≡ line_for j)
  fits-some [] [] t e = false≢true e
  fits-some (row ∷ rows) (a ∷ ps) t e =
      ⊎_elim (λ f. inl (fits-line row a t.0 c p q d sorted f))
      (λ f. inr (fits-some rows ps t.1 f))
      (or_cases (fits a c (known_of c) p q d) (fits_one ps c (known_of c) p q d) e)
  fits-some [] (a ∷ ps) t e = absurd t
  fits-some (row ∷ rows) [] t e = absurd t

  some-fits : (rows : List Row) (ps : List AxiomPattern) → AllTied rows ps
      → SomeLine rows (λ line. line.conclusion ≡ j) → fits_one ps c (known_of c) p q d ≡ true
  some-fits [] ps t m = absurd m
  some-fits (row ∷ rows) [] t m = absurd t
  some-fits (row ∷ rows) (a ∷ ps) t m =
      ⊎_elim
      (λ x. or_left (fits a c (known_of c) p q d) (fits_one ps c (known_of c) p q d)
      (line-fits row a t.0 c p q d sorted x.0 x.1))
      (λ y. or_right (fits a c (known_of c) p q d) (fits_one ps c (known_of c) p q d)
      (some-fits rows ps t.1 y)) m

  -- THE VERDICT
  module _ (rows : List Row) (ps : List AxiomPattern) (t : AllTied rows ps)
      (premises : Option (List Judgement)) where
    abbrev w : Written
    w = record { arguments = []; premises = premises; conclusion = j }

    -- a line with the judgement
    the-line : (line : Line) → line ≡ line_for line.conclusion → line.conclusion ≡ j
        → line ≡ line_for j
    the-line line h e = h ∙ ap line_for e

    found : (P : Line → Type 0) → P (line_for j) → fits_one ps c (known_of c) p q d ≡ true
        → SomeLine rows P
    found P h e =
        some-line rows ps t (λ line. line ≡ line_for j) P (λ line g f. subst P (sym f) h)
        (fits-some rows ps t e)

    none : (P : Line → Type 0) → ((line : Line) → P line → line.conclusion ≡ j)
        → (P (line_for j) → ⊥) → SomeLine rows P → ⊥
    none P f h m =
        no-line rows (some-line rows ps t P (λ line. ⊥)
        (λ line g x. h (subst P (the-line line g (f line x)) x)) m)

    pub exact : (fitting cites_nothing set : Bool)
        → fits_one ps c (known_of c) p q d ≡ fitting → IsTrue cites_nothing ↔ (Some [] ≡ premises)
        → is_assigned c (known_of c) p q ≡ set
        → IsVerdict rows w (verdict_where fitting cites_nothing set)
    exact false cites_nothing set e f g =
        λ m. false≢true (sym e ∙ some-fits rows ps t
        (some-line rows ps t (Concludes w) (λ line. line.conclusion ≡ j) (λ line h x. x.2) m))
    exact true false set e f g = (
      found (Concludes w) (refl, tt, refl) e,
      none (Follows w) (λ line x. x.0.2) (λ x. false≢true (f.1 x.1)),
    )
    exact true true false e f g =
        found (MeetsAll w) (((refl, tt, refl), f.0 refl), unset-holds c p q g) e
    exact true true true e f g =
        let h = set-fails c p q g in (
          0,
          found (λ line. MeetsFirst 0 w line × (side_at 0 line.conditions ≡ Some assigned_side))
              ((((refl, tt, refl), f.0 refl), tt), h.0) e,
          none (MeetsFirst 1 w) (λ line x. x.0.0.2) (λ x. h.1 x.1),
        )

-- WHAT IS CITED is nothing, or isn't there
front-some : (j : Option Judgement) (js : Option (List Judgement)) → Some [] ≡ in_front j js → ⊥
front-some None js e = absurd cc
front-some (Some j) None e = absurd cc
front-some (Some j) (Some js) e = absurd cc

pub cites-none : (earlier : List Step) (ns : List ℕ) (b : Bool) → b ≡ (length ns == 0)
    → IsTrue b ↔ (Some [] ≡ cited earlier ns)
cites-none earlier [] b e = (λ h. refl, λ h. e)
cites-none earlier (n ∷ ns) b e = (
  λ h. false≢true (sym (ne_eqb (length (n ∷ ns)) 0 (λ f. omega arith)) ∙ (sym e ∙ h)),
  λ h. absurd (front-some (judgement_numbered n earlier) (cited earlier ns) h),
)

-- no argument
pub no-arguments : (arguments : List terms.Term) → (length arguments == 0) ≡ true
    → map term_of arguments ≡ []
no-arguments [] e = refl
no-arguments (a ∷ others) e =
    false≢true (sym (ne_eqb (length (a ∷ others)) 0 (λ f. omega arith)) ∙ e)
