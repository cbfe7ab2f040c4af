-- Needn't be believed: the program's promise doesn't speak of it. What is written at a step for a
-- triple, as the table of rules has it.
use Rattle.std.specs.Prelude.{map}
use Rattle.model_commands.specs.Theories.{nameless_judgement}
use Rattle.model_files.specs.Sizes.{JudgementIsSmall}
use Rattle.dom_terms.specs.Terms.{term_of}
use Rattle.theory_syntax.specs.Judgements.{triple_of}
use Rattle.rule_table.specs.Accepted.{written_at}
use Rattle.rule_table.specs.Verdicts as table
use Rattle.cited_steps.specs.Earlier.{AreCitable, steps_in}
use Rattle.triple_rules.specs.declared.written.Written.{Written}

-- what is written
abbrev pub written_in : Written → table.Written
written_in written =
    written_at (steps_in written.earlier.now) written.citations.now
    (map term_of written.arguments.now) (nameless_judgement (triple_of written.triple.now))

-- the earlier steps may be cited, and the formulas of the judgement are small
pub record IsReady (written : Written) : Type 0 where
  pub earlier : AreCitable written.earlier.now
  pub triple : JudgementIsSmall (triple_of written.triple.now)
