-- Needn't be believed: the program's promise doesn't speak of it. Entailments as judgements.
use Rattle.std.specs.Prelude.{List, [], ◌∷◌}
use Rattle.model_formulas.specs.Nameless.{nameless}
use Rattle.model_commands.specs.Theories.{Judgement, entails}
use Rattle.dom_terms.specs.Sorts.{sort_of}
use Rattle.formula_syntax.specs.Formulas.{formula_of}
use Rattle.formula_syntax.specs.declared.entailments.Entailment.{Entailment}
use Rattle.entail_rules.specs.declared.cited.Cited.{Cited}
use Rattle.entail_rules.specs.declared.cited.Cited.TheVariants as c

-- the entailment, without the names of bound variables
abbrev pub judged : Entailment → Judgement
judged e = entails (nameless (formula_of e.left)) (nameless (formula_of e.right)) (sort_of e.sort)

-- the cited ones
abbrev pub all_cited : Cited → List Judgement
all_cited c.Nothing = []
all_cited (c.One a) = judged a.entailment.now ∷ []
all_cited (c.Two a b) = judged a.entailment.now ∷ judged b.entailment.now ∷ []
