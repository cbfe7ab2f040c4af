-- The clauses of the top call. Each speaks of the request, the told books, the fillers, the counts
-- and the status.
use Rattle.std.specs.Prelude.{◌≡◌, ◌⊎◌, ◌↔◌, ℕ, List, [], ◌∷◌, map, Option, Some, None, String, string_bytes, ◌++◌}
use Rattle.outside_io.specs.Causes.{Told}
use Rattle.outside_io.specs.Pieces.{Took, TookPrefix}
use Rattle.model_shapes.specs.Sorts.{shape, grove}
use Rattle.model_shapes.specs.Shapes.{Shaped}
use Rattle.model_shapes.specs.Trees.{Trees}
use Rattle.model_shapes.specs.Values.{Name}
use Rattle.model_terms.specs.Variables.{Var}
use Rattle.model_terms.specs.Stores.{Store, ProperStore}
use Rattle.model_formulas.specs.Formulas.{Named}
use Rattle.model_formulas.specs.Nameless.{nameless}
use Rattle.model_formulas.specs.Satisfaction.{Environment}
use Rattle.model_commands.specs.Theories.{ProcedureOf, Theory, procedures_of, procedure_named}
use Rattle.model_weakest.specs.Weakest.{MeetsWith, MeetsWeakest}
use Rattle.model_machine.specs.LocalTriples.{MeetsItsSpecification}
use Rattle.model_grammar.specs.TheoryWriting.{theory_text}
use Rattle.model_round_trip.specs.ReadBack.{without_lines}
use Rattle.rule_table.specs.Accepted.{Each, IsAccepted}
use Rattle.model_filling.specs.Offers.{Voice}
use Rattle.model_filling.specs.Filled.{IsFilled}
use Rattle.model_answers.specs.Words.{Request, RunForm, with_verdicts, check, fill, wp, run, make, trial, reading_of}
use Rattle.model_answers.specs.Output.{precondition_lines}
use Rattle.model_answers.specs.Texts.{IsFile}
use Rattle.run_trace.specs.Listeners.{Listener}
use Rattle.domcheck_core.specs.Answers.{Books, IsAnswer, IsTold, IsCalled, NotCalled}
use Rattle.domcheck_core.specs.declared.status.Status.{Status}
use Rattle.domcheck_core.specs.declared.status.Status.TheVariants as status

-- what the words ask for
abbrev pub asked : {Z : Type 0} → List (String Z) → Option Request
asked words = reading_of (map string_bytes words)

-- of the bytes of the file that `check` asks for, where the library tells them
abbrev pub OfFile : Option Request → Books → (List ℕ → Type 0) → Type 0
OfFile (Some (check file)) books P = Told (books file) P
OfFile r books P = Unit

-- of those of the file that `fill` asks for
abbrev pub OfGaps : Option Request → Books → (List ℕ → Type 0) → Type 0
OfGaps (Some (fill file)) books P = Told (books file) P
OfGaps r books P = Unit

-- of those of the file that `wp` asks for, with the name of the procedure
abbrev pub OfBody : Option Request → Books → (List ℕ → List ℕ → Type 0) → Type 0
OfBody (Some (wp file procedure)) books P = Told (books file) (P procedure)
OfBody r books P = Unit

-- The bytes are a file of a theory, and each of its procedures, started in any context round data
-- that meets its requires, faults in no number of steps and ends with data that meets its ensures.
abbrev pub IsSoundFile : List ℕ → Type 0
IsSoundFile bytes =
    (theory : Theory) × IsFile bytes theory
    × Each (MeetsItsSpecification (procedures_of theory)) (procedures_of theory)

-- The bytes are a file of a theory, and the text is that of the theory with its gaps filled by
-- these fillers; and the text is a file itself, whose theory is the filled one but for the lines of
-- its steps, and is accepted.
abbrev pub IsFilledFile : List Voice → List ℕ → List ℕ → Type 0
IsFilledFile voices bytes text =
    (theory : Theory) × (filled : Theory) × (read : Theory)
    × IsFile bytes theory × IsFilled theory voices filled × (text ≡ theory_text filled)
    × IsFile text read × (without_lines read ≡ without_lines filled) × IsAccepted read

-- the sink took such a text
abbrev pub TookFilled : List Voice → List ℕ → Option (List ℕ) → Option (List ℕ) → Type 0
TookFilled voices bytes before after =
    (text : List ℕ) × IsFilledFile voices bytes text × Took before after text

-- The bytes are a file that has the procedure, and the text is that of a formula with declarations
-- of its new variables; and a grove and a store meet the formula exactly where no run of the
-- procedure's body on them faults and each end of one meets its ensures.
abbrev pub IsPrecondition : Name → List ℕ → List ℕ → Type 0
IsPrecondition procedure bytes text =
    (theory : Theory) × (f : ProcedureOf Named) × (variables : List Var) × (formula : Named)
    × IsFile bytes theory × (procedure_named procedure theory.procedures ≡ Some f)
    × (text ≡ precondition_lines variables formula)
    × ((e : Environment) (store : Store) → ProperStore store → (roots : Trees)
    → Shaped (shape grove) roots → (MeetsWith (nameless formula) e store roots
    ↔ MeetsWeakest (procedures_of theory) f.body (nameless f.post) e store roots))

-- the sink took such a text
abbrev pub TookPrecondition : Name → List ℕ → Option (List ℕ) → Option (List ℕ) → Type 0
TookPrecondition procedure bytes before after =
    (text : List ℕ) × IsPrecondition procedure bytes text × Took before after text

-- the three statuses that may come for any file: want of memory, and a fault of library or sink
abbrev pub GivesUp : Status → Type 0
GivesUp s = (s ≡ status.OutOfMemory) ⊎ ((s ≡ status.ReadFault) ⊎ (s ≡ status.WriteFault))

-- the call ends with this status, and the sink took all of this output
abbrev pub Says : Status → Option (List ℕ) → Option (List ℕ) → Status → List ℕ → Type 0
Says s before after wanted output = (s ≡ wanted) × Took before after output

-- the answer is that of the definition, or the call gives up
abbrev pub IsAnswered : List Voice → List Listener → Option Request → Books → Status → Type 0
IsAnswered voices listeners r books s =
    IsTold r books → ((output : List ℕ) × IsAnswer voices listeners books r s output) ⊎ GivesUp s

-- this status comes only where the cause stands; and where it stands, it comes or the call gives up
abbrev pub ExactlyWhere : Type 0 → Status → Status → Type 0
ExactlyWhere Cause s wanted = (s ≡ wanted → Cause) × (Cause → (s ≡ wanted) ⊎ GivesUp s)

-- the file with these bytes has no procedure of the name
abbrev pub NotThere : List ℕ → Name → Type 0
NotThere bytes procedure =
    (theory : Theory) × IsFile bytes theory × (procedure_named procedure theory.procedures ≡ None)

-- A run whose file is told has bad words exactly where they name no procedure of the file or no
-- arguments for it, whatever its document is; and `wp` where they name no procedure of the file.
abbrev pub BadWordsExactly : Option Request → Books → Status → Type 0
BadWordsExactly (Some (run form file procedure document fuel arguments)) books s =
    Told (books file) (λ bytes.
    ExactlyWhere (NotCalled bytes procedure arguments) s status.BadWords)
BadWordsExactly (Some (wp file procedure)) books s =
    Told (books file) (λ bytes. ExactlyWhere (NotThere bytes procedure) s status.BadWords)
BadWordsExactly r books s = Unit

-- the numbers of the statuses that a request may have, whatever is told: of one that reads a file
-- and judges it
abbrev pub file_statuses : List ℕ
file_statuses = 0 ∷ 1 ∷ 3 ∷ 4 ∷ 8 ∷ 9 ∷ 10 ∷ 11 ∷ 12 ∷ []

-- of a run in any form, and in each
abbrev pub call_statuses : List ℕ
call_statuses = 0 ∷ 2 ∷ 3 ∷ 4 ∷ 5 ∷ 6 ∷ 7 ∷ 8 ∷ 10 ∷ 11 ∷ 12 ∷ []

abbrev pub own_statuses : RunForm → List ℕ
own_statuses with_verdicts = 14 ∷ []
own_statuses form = []

abbrev pub run_statuses : RunForm → List ℕ
run_statuses form = call_statuses ++ own_statuses form

-- and of each
abbrev pub statuses : Option Request → List ℕ
statuses None = 2 ∷ 10 ∷ 12 ∷ []
statuses (Some (check file)) = file_statuses
statuses (Some (fill file)) = file_statuses
statuses (Some (wp file procedure)) =
    0 ∷ 2 ∷ 3 ∷ 4 ∷ 8 ∷ 10 ∷ 11 ∷ 12 ∷ 13 ∷ []
statuses (Some (run form file procedure document fuel arguments)) = run_statuses form
statuses (Some (make n)) = 0 ∷ 10 ∷ 12 ∷ []
statuses (Some (trial n)) = 0 ∷ 10 ∷ 12 ∷ []

-- a name that the request reads, whose count rose: that of the document only where every test
-- before its reading passes
abbrev pub ReadRose : Option Request → Books → (List ℕ → Type 0) → Type 0
ReadRose (Some (check file)) books rose = rose file
ReadRose (Some (fill file)) books rose = rose file
ReadRose (Some (wp file procedure)) books rose = rose file
ReadRose (Some (run form file procedure document fuel arguments)) books rose =
    rose file ⊎ (rose document × Told (books file) (λ bytes. IsCalled bytes procedure arguments))
ReadRose r books rose = ⊥

-- what the sink took: all of the output of the answer; at a fault of the sink a prefix of that of
-- some answer; at want of memory and a fault of the library nothing
abbrev pub Wrote : List Voice → List Listener → Option Request → Books → Status
    → Option (List ℕ) → Option (List ℕ) → Type 0
Wrote voices listeners r books status.OutOfMemory before after = Took before after []
Wrote voices listeners r books status.ReadFault before after = Took before after []
Wrote voices listeners r books status.WriteFault before after =
    IsTold r books → (s : Status) × (output : List ℕ) × IsAnswer voices listeners books r s output
    × TookPrefix before after output
Wrote voices listeners r books s before after =
    IsTold r books → (output : List ℕ) × IsAnswer voices listeners books r s output
    × Took before after output
