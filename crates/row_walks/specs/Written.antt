-- Needn't be believed: what is written at a step by numbers, as the definitions have it.
use Rattle.std.specs.Prelude.{ℕ, Some, List, [], ◌∷◌, map}
use Rattle.model_commands.specs.Theories.{Judgement, entails}
use Rattle.dom_terms.specs.Sorts.{sort_of}
use Rattle.rule_table.specs.Verdicts.{Written}
use Rattle.formula_table.specs.declared.tables.Table.{Table}
use Rattle.formula_table.specs.Forms.{form_at, term_at}
use Rattle.row_walks.specs.declared.steps.Numbered.{Numbered}
use Rattle.row_walks.specs.declared.steps.Cited.{Cited}
use Rattle.row_walks.specs.declared.steps.Cited.TheVariants as c

-- the entailment
abbrev pub judged_at : Table → Numbered → Judgement
judged_at t j = entails (form_at t j.left) (form_at t j.right) (sort_of j.sort)

-- the cited ones
abbrev pub all_cited : Table → Cited → List Judgement
all_cited t c.Nothing = []
all_cited t (c.One a) = judged_at t a ∷ []
all_cited t (c.Two a b) = judged_at t a ∷ judged_at t b ∷ []

-- all of it: the arguments, what is cited, and the conclusion
abbrev pub written_at : Table → List ℕ → Cited → Numbered → Written
written_at t arguments cited conclusion = record {
  arguments = map (term_at t) arguments;
  premises = Some (all_cited t cited);
  conclusion = judged_at t conclusion;
}
