-- Needn't be believed: the promises speak of the table of rules. Blocks as tests that compute.
use Rattle.std.specs.Prelude.{ℕ, Bool, false, ◌&&◌, cond, List, [], ◌∷◌, Option, Some, None}
use Rattle.model_shapes.specs.Sorts.{DataSort}
use Rattle.model_shapes.specs.Tests.{same_data_sort}
use Rattle.model_terms.specs.Terms.{Term}
use Rattle.model_formulas.specs.Formulas.{Formula}
use Rattle.model_formulas.specs.SameFormulas.{same_formula}
use Rattle.model_commands.specs.Commands.{Command, Block, stop, ◌then◌, block}
use Rattle.model_commands.specs.SortTests.{has_command}
use Rattle.model_commands.specs.Theories.{Judgement, Step, triple}
use Rattle.theory_syntax.specs.SameCommands.{same_command}
use Rattle.rule_table.specs.Accepted.{judgement_numbered}
use Rattle.rule_table.specs.Verdicts.{Verdict, instance_verdict, shape_verdict}
use Rattle.triple_rules.specs.Tests.{no_items, staged}

-- the formula behind a command, where what is cited is its triple from the formula before
abbrev pub after : Option Judgement → Formula → Command → DataSort → Option Formula
after (Some (triple p' c' q' k')) p c k =
    cond (same_formula p' p && (same_command c' c && same_data_sort k' k)) (Some q') None
after j p c k = None

-- the formula behind a block, where the steps of these numbers are the triples of its commands
abbrev pub next : Option Formula → (Formula → Option Formula) → Option Formula
next None f = None
next (Some p) f = f p

abbrev pub reached : List Step → List ℕ → Formula → Block → DataSort → Option Formula
reached earlier [] p stop k = Some p
reached earlier (n ∷ ns) p (c then b) k =
    next (after (judgement_numbered n earlier) p c k) (λ q. reached earlier ns q b k)
reached earlier ns p b k = None

abbrev pub ends : Option Formula → Formula → Bool
ends None q = false
ends (Some p) q = same_formula p q

-- the judgements are the triples of the commands, from the one formula to the other
abbrev pub is_chain : List Judgement → Formula → Block → Formula → DataSort → Bool
is_chain [] p stop q k = same_formula p q
is_chain (triple p' c' q' k' ∷ js) p (c then b) q k =
    (same_formula p' p && (same_command c' c && same_data_sort k' k)) && is_chain js q' b q k
is_chain js p b q k = false

-- the cited judgements are
abbrev pub runs : Option (List Judgement) → Formula → Block → Formula → DataSort → Bool
runs None p b q k = false
runs (Some js) p b q k = is_chain js p b q k

-- seq, with the test of the premises
abbrev pub seq_test : List Term → Bool → Command → Verdict
seq_test arguments follows (block b) =
    staged (has_command b && no_items arguments) follows instance_verdict
seq_test arguments follows c = shape_verdict

-- the commands of a block, and none of any other command
abbrev pub block_in : Command → Block
block_in (block b) = b
block_in c = stop
