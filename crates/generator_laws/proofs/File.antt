-- What is printed for the generated theory, which is the text of `make`, is a file; its theory is
-- accepted.
use Rattle.std.proofs.Common.{ℕ, ◌*◌, ◌≤◌, ◌≡◌, List, sym, subst}
use Rattle.model_commands.specs.Theories.{Theory}
use Rattle.model_grammar.specs.TheoryWriting.{theory_text}
use Rattle.model_answers.specs.Texts.{IsFile}
use Rattle.model_answers.specs.Output.{line, accepted_text, accepted_line}
use Rattle.model_round_trip.specs.ReadBack.{without_lines, ReadsAs}
use Rattle.model_round_trip.proofs.Laws.{theory_reads}
use Rattle.model_generator.specs.Made.{most_makers, made_text}
use Rattle.model_generator.specs.Generated.{generated_theory}
use Rattle.generator_laws.proofs.FileWritable.{theory_writable, theory_sorted, theory_literals}
use Rattle.generator_laws.proofs.FileFormed.{read_well_formed}
use Rattle.generator_laws.proofs.FileLimits.{read_within, read_steps, read_length}
use Rattle.generator_laws.proofs.FileNesting.{text_within_limits}
use Rattle.generator_laws.proofs.MadeText.{text_is_made}
use Rattle.generator_laws.proofs.Lines.{lines-apart}
use Rattle.generator_laws.proofs.Accepted.{generated-accepted}
use Rattle.rule_table.specs.Accepted.{IsAccepted}

-- what reads as the theory is one
is_file : (n : ℕ) → 1 ≤ n → n ≤ most_makers
    → ReadsAs (generated_theory n) (theory_text (generated_theory n))
    → (read : Theory) × IsFile (theory_text (generated_theory n)) read
    × (without_lines read ≡ without_lines (generated_theory n))
is_file n some small (read, spelled, same) = (
  read,
  record {
    read = text_within_limits n some small;
    spelled = spelled;
    well_formed = read_well_formed read n same small;
    within = read_within read n same small;
  },
  same,
)

pub printed-is-file : (n : ℕ) → 1 ≤ n → n ≤ most_makers
    → (read : Theory) × IsFile (made_text n) read
    × (without_lines read ≡ without_lines (generated_theory n))
printed-is-file n some small =
    subst (λ (text : List ℕ). (read : Theory) × IsFile text read
    × (without_lines read ≡ without_lines (generated_theory n))) (text_is_made n)
    (is_file n some small
    (theory_reads (generated_theory n) (theory_writable n some small) (theory_sorted n)
    (theory_literals n small)))

pub printed-is-accepted : (n : ℕ) → 1 ≤ n → n ≤ most_makers
    → (read : Theory) × IsFile (made_text n) read × IsAccepted read
    × (accepted_line read ≡ line (accepted_text n (8 * n)))
printed-is-accepted n some small =
    let file = printed-is-file n some small in (
      file.0,
      file.1,
      lines-apart (generated_theory n) file.0 (sym file.2) (generated-accepted n),
      λ i. line (accepted_text (read_length file.0 n file.2 i) (read_steps file.0 n file.2 i)),
    )
