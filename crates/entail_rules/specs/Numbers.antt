-- Needn't be believed: the program's promise doesn't speak of it. Numbers of a table that stand for
-- what is written at a step, and formulas that have a row.
use Rattle.std.specs.Prelude.{◌≡◌, ℕ, List, [], ◌∷◌, length, Option, Some, None}
use Rattle.model_terms.specs.Terms.{Term}
use Rattle.model_formulas.specs.Formulas.{Formula}
use Rattle.model_commands.specs.Theories.{Judgement, entails, triple}
use Rattle.model_shapes.specs.Sorts.{Sort}
use Rattle.dom_terms.specs.Sorts.{sort_of}
use Rattle.formula_syntax.specs.declared.entailments.Entailment.{Entailment}
use Rattle.formula_table.specs.Forms.{forms_at}
use Rattle.formula_table.specs.Interning.{IsTerm, StandsFor}
use Rattle.formula_table.specs.declared.tables.Table.{Table}
use Rattle.row_walks.specs.declared.steps.Numbered.{Numbered}
use Rattle.row_walks.specs.declared.steps.Cited as numbers
use Rattle.row_walks.specs.declared.steps.Cited.TheVariants as n
use Rattle.entail_rules.specs.Judged.{judged, all_cited}
use Rattle.entail_rules.specs.declared.cited.Cited.{Cited}
use Rattle.entail_rules.specs.declared.cited.Cited.TheVariants as c
use Rattle.entail_rules.specs.declared.numbering.Numbers.{Numbers}

-- the numbers stand for the terms
abbrev pub AllStandFor : Table → List ℕ → List Term → Type 0
AllStandFor t [] [] = Unit
AllStandFor t (i ∷ is) (a ∷ ts) = IsTerm t i a × AllStandFor t is ts
AllStandFor t is ts = ⊥

-- they stand for two formulas at a sort
pub record BothStand (t : Table) (n : Numbered) (p q : Formula) (s : Sort) : Type 0 where
  pub left : StandsFor t n.left p
  pub right : StandsFor t n.right q
  pub sort : sort_of n.sort ≡ s

-- for the formulas of a judgement that is an entailment
abbrev pub JudgementStands : Table → Numbered → Judgement → Type 0
JudgementStands t n (entails p q s) = BothStand t n p q s
JudgementStands t n (triple p c q d) = ⊥

abbrev pub EntailmentStands : Table → Numbered → Entailment → Type 0
EntailmentStands t n e = JudgementStands t n (judged e)

-- they do where they are known
abbrev pub IsKnown : Table → Option Numbered → Judgement → Type 0
IsKnown t None j = Unit
IsKnown t (Some n) j = JudgementStands t n j

-- those of cited ones do
abbrev pub CitedKnown : Table → Cited → Type 0
CitedKnown t c.Nothing = Unit
CitedKnown t (c.One a) = IsKnown t a.numbers (judged a.entailment.now)
CitedKnown t (c.Two a b) = IsKnown t a.numbers (judged a.entailment.now)
    × IsKnown t b.numbers (judged b.entailment.now)

abbrev pub PremisesKnown : Table → Option Cited → Type 0
PremisesKnown t None = Unit
PremisesKnown t (Some cited) = CitedKnown t cited

-- for those of cited ones
abbrev pub CitedStand : Table → numbers.Cited → Cited → Type 0
CitedStand t n.Nothing c.Nothing = Unit
CitedStand t (n.One i) (c.One a) = EntailmentStands t i a.entailment.now
CitedStand t (n.Two i j) (c.Two a b) =
    EntailmentStands t i a.entailment.now × EntailmentStands t j b.entailment.now
CitedStand t ns cited = ⊥

-- for what is written at a step
pub record AreNumbers (t : Table) (ns : Numbers) (ts : List Term) (entailments : Cited)
    (e : Entailment) : Type 0 where
  pub arguments : AllStandFor t ns.arguments.items ts
  pub cited : CitedStand t ns.cited entailments
  pub conclusion : EntailmentStands t ns.conclusion e

-- the table has all the formulas that it may have
abbrev pub IsFull : Table → Type 0
IsFull t = length (forms_at t) ≡ t.most

-- the formula has a row
abbrev pub HasRow : Table → Formula → Type 0
HasRow t p = (i : ℕ) × StandsFor t i p

-- each formula of the judgement does
abbrev pub JudgementHasRows : Table → Judgement → Type 0
JudgementHasRows t (entails p q s) = HasRow t p × HasRow t q
JudgementHasRows t (triple p c q d) = HasRow t p × HasRow t q

-- of each of them
abbrev pub AllHaveRows : Table → List Judgement → Type 0
AllHaveRows t [] = Unit
AllHaveRows t (j ∷ js) = JudgementHasRows t j × AllHaveRows t js

-- each formula of the entailment and of what is cited does, where that is entailments
abbrev pub StepHasRows : Table → Option Cited → Entailment → Type 0
StepHasRows t None e = ⊥
StepHasRows t (Some cited) e = AllHaveRows t (judged e ∷ all_cited cited)
