-- What is asked of a procedure whose weakest precondition is computed, and what is answered.
use Rattle.std.proofs.Common.{◌≡◌, ◌∙◌, ℕ, ◌+◌, ◌≤◌, ◌<◌, ◌^◌, Bool, true, false, List, length, Option, Some, None, refl, sym, ap, arith}
use Rattle.std.specs.Prelude.{nat_le, option_map}
use Rattle.std.specs.List.{list_all}
use Rattle.std.proofs.lemmas.Bool.{leb-true}
use Rattle.model_limits.specs.Limits.{file_limit, straight_limit, standard_limits}
use Rattle.model_limits.specs.FirstOf.{or_else, unless}
use Rattle.model_shapes.specs.Sorts.{grove}
use Rattle.model_shapes.specs.Tests.{same_data_sort}
use Rattle.model_shapes.specs.Values.{Name}
use Rattle.model_terms.specs.Variables.{Var}
use Rattle.model_formulas.specs.Formulas.{Named}
use Rattle.model_commands.specs.Commands.{Command}
use Rattle.model_commands.specs.CommandParts.{commands_in, variables_of}
use Rattle.model_commands.specs.SortTests.{is_sorted}
use Rattle.model_commands.specs.Theories.{ProcedureOf, Theory, procedures_of}
use Rattle.model_text.specs.Nesting.{lexemes_of, token_limit}
use Rattle.model_weakest.specs.Straight.{is_straight, is_short, first_not_straight}
use Rattle.model_weakest.specs.Written.{is_named, new_sorts, new_variables, written, AreNamed, AreNew}
use Rattle.model_answers.specs.Output.{not_straight_line, not_straight_sort_line, precondition_lines}
use Rattle.model_answers.specs.Texts.{limit_passed}
use Rattle.domcheck_core.specs.Answers.{Answer, limit_answer, precondition_refusal, PreconditionAnswer, has_none, has_one}
use Rattle.domcheck_core.specs.Preconditions.{StandsInFile, bent_answer, body_refusal}
use Rattle.domcheck_core.specs.declared.status.Status.{Status}
use Rattle.domcheck_core.specs.declared.status.Status.TheVariants as status
use Rattle.domcheck_core.proofs.BodySizes.{few_commands, few_logic, few_sorts}
use Rattle.domcheck_core.proofs.Counts.{lexemes-below}
use Rattle.domcheck_core.proofs.Headers.{post-known, post-named, body-sorted}
use Rattle.domcheck_core.proofs.Straights.{none-first, straight-if-none}

-- SIZES: a file has no more bytes than the most
no-first : {A : Type 0} (b : Bool) (x : A) (later : Option A) → or_else (unless b x) later ≡ None
    → b ≡ true
no-first true x later e = refl
no-first false x later e = absurd cc

few-bytes : (bytes : List ℕ) → limit_passed standard_limits.file_nesting bytes ≡ None
    → length bytes ≤ standard_limits.file_bytes
few-bytes bytes e =
    leb-true (length bytes) standard_limits.file_bytes
    (no-first (nat_le (length bytes) standard_limits.file_bytes) file_limit
    (token_limit standard_limits.file_nesting 0 (lexemes_of bytes)) e)

-- WHAT IS ASKED of a procedure that stands in a file
module _ (theory : Theory) (f : ProcedureOf Named) (stands : StandsInFile theory f) where
  pub sorted-body : is_sorted (procedures_of theory) f.body ≡ true
  sorted-body = body-sorted theory stands.file.well_formed stands.name f stands.there

  pub known-post : list_all (is_named theory.logic) (variables_of f.post) ≡ true
  known-post = post-known theory stands.file.well_formed stands.name f stands.there

  pub named-post : AreNamed theory.logic f.post
  named-post = post-named theory stands.file.well_formed stands.name f stands.there

  few-lexemes : length (lexemes_of stands.bytes) ≤ 4194305
  few-lexemes =
      let few = few-bytes stands.bytes stands.file.read in
      omega (arith, few, lexemes-below stands.bytes)

  pub small-body : length (commands_in f.body) < 500000000
  small-body =
      omega (
        arith,
        few-lexemes,
        few_commands stands.name f theory (lexemes_of stands.bytes) stands.file.spelled
            stands.there,
      )

  -- so many numbers of new names are below the most of a word
  pub few-numbers : 1 + length theory.logic + length (new_sorts f.body) ≤ 2 ^ 64
  few-numbers =
      omega (
        arith,
        few-lexemes,
        few_logic theory (lexemes_of stands.bytes) stands.file.spelled,
        few_sorts f.body,
        small-body,
      )

-- WHAT IS ANSWERED
-- a body that isn't straight-line
pub bent-answer : (body c : Command) → Some c ≡ first_not_straight body
    → bent_answer body ≡ Some (status.NotStraight, not_straight_line c)
bent-answer body c e =
    ap (λ (z : Option Command). option_map (λ c. (status.NotStraight, not_straight_line c)) z)
    (sym e)

pub bent-refused : (body : Command) (answer : Answer) → bent_answer body ≡ Some answer
    → body_refusal body ≡ Some answer
bent-refused body answer e =
    ap (λ (z : Option Answer). or_else z (unless (is_short body) (limit_answer straight_limit))) e

-- a straight-line one that is too long, and one that isn't
straight-refusal : (body : Command) → is_straight body ≡ true
    → body_refusal body ≡ unless (is_short body) (limit_answer straight_limit)
straight-refusal body e =
    ap (λ (z : Option Command). or_else
    (option_map (λ c. (status.NotStraight, not_straight_line c)) z)
    (unless (is_short body) (limit_answer straight_limit))) (none-first body e)

pub long-refused : (body : Command) → is_straight body ≡ true → is_short body ≡ false
    → body_refusal body ≡ Some (limit_answer straight_limit)
long-refused body e d =
    straight-refusal body e
    ∙ ap (λ (z : Bool). unless z (limit_answer straight_limit)) d

none-refused : (body : Command) → is_straight body ≡ true → is_short body ≡ true
    → body_refusal body ≡ None
none-refused body e d =
    straight-refusal body e
    ∙ ap (λ (z : Bool). unless z (limit_answer straight_limit)) d

module _ (theory : Theory) (f : ProcedureOf Named) where
  -- a procedure of another sort
  pub other-sort : same_data_sort f.sort grove ≡ false
      → PreconditionAnswer theory f status.NotStraight not_straight_sort_line
  other-sort e =
      has_none (ap (λ (z : Bool). or_else
      (unless z (status.NotStraight, not_straight_sort_line)) (body_refusal f.body)) e)

  module _ (groves : same_data_sort f.sort grove ≡ true) where
    of-body : precondition_refusal f ≡ body_refusal f.body
    of-body =
        ap (λ (z : Bool). or_else
        (unless z (status.NotStraight, not_straight_sort_line)) (body_refusal f.body)) groves

    -- one whose body has no weakest precondition that is computed
    pub refused-body : (s : Status) (o : List ℕ) → body_refusal f.body ≡ Some (s, o)
        → PreconditionAnswer theory f s o
    refused-body s o e = has_none (of-body ∙ e)

    -- and one whose body has
    pub written-body : (variables : List Var) (formula : Named) (names : List Name)
        → is_straight f.body ≡ true → is_short f.body ≡ true → AreNew theory.logic 1 names
        → length names ≡ length (new_sorts f.body)
        → variables ≡ new_variables names (new_sorts f.body)
        → formula ≡ written names f.body f.post
        → PreconditionAnswer theory f status.Done (precondition_lines variables formula)
    written-body variables formula names straight short new many are is =
        rw (are, is)
        (has_one names (of-body ∙ none-refused f.body straight short) new many)

-- where none keeps a procedure from it, its body is straight-line
none-before : (a b : Option Answer) → or_else a b ≡ None → (a ≡ None) × (b ≡ None)
none-before None b e = (refl, e)
none-before (Some a) b e = absurd cc

not-mapped : {A B : Type 0} (f : A → B) (a : Option A) → option_map f a ≡ None → a ≡ None
not-mapped f None e = refl
not-mapped f (Some a) e = absurd cc

pub straight-body : (f : ProcedureOf Named) → precondition_refusal f ≡ None
    → is_straight f.body ≡ true
straight-body f e =
    let behind = none-before
    (unless (same_data_sort f.sort grove) (status.NotStraight, not_straight_sort_line))
    (body_refusal f.body) e in
    let bent = none-before (bent_answer f.body)
    (unless (is_short f.body) (limit_answer straight_limit)) behind.1 in
    straight-if-none f.body (not-mapped _ (first_not_straight f.body) bent.0)
