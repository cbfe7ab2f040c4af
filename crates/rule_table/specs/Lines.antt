-- The lines of the tables of rules, and how they are written: premises ⟹ conclusion.
use Rattle.std.specs.Prelude.{List, [], ◌∷◌, ◌++◌}
use Rattle.model_shapes.specs.Sorts.{Sort}
use Rattle.model_terms.specs.Terms.{Term}
use Rattle.model_formulas.specs.Formulas.{Formula}
use Rattle.model_commands.specs.Theories.{Judgement}
use Rattle.rule_table.specs.Conditions.{Requirement, Condition}
use Rattle.rule_table.specs.Notation.{◌⊢◌, ◌at◌}

-- What a choice of the letters makes of a row. What is asked of the letters belongs to the
-- conclusion; the conditions come after the premises.
pub record Line : Type 0 where
  pub arguments : List Term
  pub requirements : List Requirement
  pub premises : List Judgement
  pub conclusion : Judgement
  pub conditions : List Condition

-- premises ⟹ conclusion
abbrev pub ◌⟹◌ : List Judgement → Judgement → Line
js ⟹ j = record {
  arguments = [];
  requirements = [];
  premises = js;
  conclusion = j;
  conditions = [];
}

-- a conclusion alone
abbrev pub always : Judgement → Line
always j = [] ⟹ j

-- two lines: the one formula entails the other, and the other way round
abbrev pub ◌⊣⊢◌ : Formula → Formula → Sort → Line × Line
◌⊣⊢◌ p q s = (always (p ⊢ q at s), always (q ⊢ p at s))

-- with a condition more
abbrev pub ◌provided◌ : Line → Condition → Line
line provided c = record line { conditions = line.conditions ++ c ∷ [] }

-- with more that is asked of the letters
abbrev pub ◌given_each◌ : Line → List Requirement → Line
line given_each rs = record line { requirements = line.requirements ++ rs }

-- with one thing more
abbrev pub ◌given◌ : Line → Requirement → Line
line given r = line given_each (r ∷ [])

-- with these arguments
abbrev pub ◌with_arguments◌ : Line → List Term → Line
line with_arguments es = record line { arguments = es }

infix 60 ◌⊣⊢◌
infix 30 ◌⟹◌
infixl 25 ◌provided◌ ◌given◌ ◌given_each◌ ◌with_arguments◌
