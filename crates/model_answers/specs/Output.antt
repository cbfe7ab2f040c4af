-- The lines that the program prints, byte by byte. Each ends with one newline.
use Rattle.std.specs.Prelude.{ℕ, zero, suc, Bool, true, false, cond, List, [], ◌∷◌, ◌++◌, length, map, codes}
use Rattle.std.specs.Fmt.{decimal, signed_decimal}
use Rattle.model_shapes.specs.Trees.{Trees}
use Rattle.model_shapes.specs.Values.{Value, null, nolist, node_number, list_number, int, str, boolean}
use Rattle.model_terms.specs.Variables.{Var}
use Rattle.model_terms.specs.Stores.{ProgVar, named}
use Rattle.model_formulas.specs.Formulas.{Named}
use Rattle.model_commands.specs.Commands.{Command}
use Rattle.model_commands.specs.Theories.{Theory}
use Rattle.model_machine.specs.Changes.{Change, created, moved, removed}
use Rattle.model_machine.specs.Machine.{FaultKind, no_node, no_list, cycle, not_child, self_ref}
use Rattle.model_limits.specs.Limits.{LimitKind, file_limit, nesting_limit, text_limit, variables_limit, steps_limit, nodes_limit, identifier_limit, number_limit, depth_limit, straight_limit, watch_limit}
use Rattle.model_text.specs.Tokens.{newline}
use Rattle.model_documents.specs.Numbers.{Numbered, node_numbered, list_numbered}
use Rattle.model_documents.specs.Roots.{sorted_roots}
use Rattle.model_documents.specs.Printed.{quoted, grove_text}
use Rattle.model_files.specs.FileFaults.{FileKind, version_kind, twice_kind, unknown_kind, sort_kind, constant_kind, results_kind, scope_kind, rule_kind, number_kind, FileFault}
use Rattle.model_files.specs.FileLimits.{step_count}
use Rattle.rule_table.specs.Conditions.{SideName, free_side, literal_side, coefficient_side, sum_side, texts_side, pure_side, modified_side, assigned_side}
use Rattle.rule_table.specs.Verdicts.{Verdict, instance_verdict, shape_verdict, premises_verdict, side_verdict}
use Rattle.model_grammar.specs.Writing.{text_of, command_lexemes}
use Rattle.model_grammar.specs.TheoryWriting.{logic_line, formula_lexemes, text_of_lines}

-- a text with the newline that ends it
abbrev pub line : List ℕ → List ℕ
line text = text ++ newline ∷ []

-- a line for each text
abbrev pub lines_of : List (List ℕ) → List ℕ
lines_of [] = []
lines_of (text ∷ texts) = line text ++ lines_of texts

-- `accepted: P procedures, N steps`
abbrev pub accepted_text : ℕ → ℕ → List ℕ
accepted_text procedures steps =
    codes "accepted: " ++ (decimal procedures
    ++ (codes " procedures, " ++ (decimal steps ++ codes " steps")))

-- the line for an accepted theory
abbrev pub accepted_line : Theory → List ℕ
accepted_line theory =
    line (accepted_text (length theory.procedures) (step_count theory.procedures))

abbrev pub bad_words_line : List ℕ
bad_words_line = line (codes "bad words")

-- the name of a side condition
abbrev pub side_name : SideName → List ℕ
side_name free_side = codes "free"
side_name literal_side = codes "literal"
side_name coefficient_side = codes "coefficient"
side_name sum_side = codes "sum"
side_name texts_side = codes "texts"
side_name pure_side = codes "pure"
side_name modified_side = codes "modified"
side_name assigned_side = codes "assigned"

-- a verdict
abbrev pub verdict_text : Verdict → List ℕ
verdict_text instance_verdict = codes "instance"
verdict_text shape_verdict = codes "shape"
verdict_text premises_verdict = codes "premises"
verdict_text (side_verdict name) = codes "side " ++ side_name name

-- `step K of PROC, line L: ` and what is said of the step
abbrev pub step_line : ℕ → List ℕ → ℕ → List ℕ → List ℕ
step_line number procedure at said = line (codes "step " ++ (decimal number
    ++ (codes " of " ++ (procedure ++ (codes ", line " ++ (decimal at ++ (codes ": " ++ said)))))))

-- `step K of PROC, line L: RULE: VERDICT`
abbrev pub fail_line : ℕ → List ℕ → ℕ → List ℕ → Verdict → List ℕ
fail_line number procedure at rule verdict =
    step_line number procedure at (rule ++ (codes ": " ++ verdict_text verdict))

-- `step K of PROC, line L: gap`
abbrev pub gap_line : ℕ → List ℕ → ℕ → List ℕ
gap_line number procedure at = step_line number procedure at (codes "gap")

-- `PROC: no proof`
abbrev pub no_proof_line : List ℕ → List ℕ
no_proof_line procedure = line (procedure ++ codes ": no proof")

-- the fault token of a file, and of a document
abbrev pub bad_text_line : ℕ → List ℕ
bad_text_line token = line (codes "bad text at token " ++ decimal token)

abbrev pub bad_document_text_line : ℕ → List ℕ
bad_document_text_line token = line (codes "bad document text at token " ++ decimal token)

-- the name of a kind of fault of a file
abbrev pub kind_name : FileKind → List ℕ
kind_name version_kind = codes "version"
kind_name twice_kind = codes "twice"
kind_name unknown_kind = codes "unknown"
kind_name sort_kind = codes "sort"
kind_name constant_kind = codes "constant"
kind_name results_kind = codes "results"
kind_name scope_kind = codes "scope"
kind_name rule_kind = codes "rule"
kind_name number_kind = codes "number"

-- `bad file: procedure P, step S: KIND`
abbrev pub bad_file_line : ℕ → ℕ → List ℕ → List ℕ
bad_file_line procedure step kind = line (codes "bad file: procedure " ++ (decimal procedure
    ++ (codes ", step " ++ (decimal step ++ (codes ": " ++ kind)))))

-- of the first fault of a file
abbrev pub file_fault_line : FileFault → List ℕ
file_fault_line fault = bad_file_line fault.procedure fault.step (kind_name fault.kind)

-- a number of a document that is out of range, and one that repeats
abbrev pub range_line : Numbered → List ℕ
range_line (node_numbered n) =
    line (codes "bad document: node " ++ (decimal n ++ codes " out of range"))
range_line (list_numbered n) =
    line (codes "bad document: list " ++ (decimal n ++ codes " out of range"))

abbrev pub repeat_line : Numbered → List ℕ
repeat_line (node_numbered n) = line (codes "bad document: repeated node " ++ decimal n)
repeat_line (list_numbered n) = line (codes "bad document: repeated list " ++ decimal n)

-- the name of a limit
abbrev pub limit_name : LimitKind → List ℕ
limit_name file_limit = codes "file"
limit_name nesting_limit = codes "nesting"
limit_name text_limit = codes "text"
limit_name variables_limit = codes "variables"
limit_name steps_limit = codes "steps"
limit_name nodes_limit = codes "nodes"
limit_name identifier_limit = codes "identifier"
limit_name number_limit = codes "number"
limit_name depth_limit = codes "depth"
limit_name straight_limit = codes "straight"
limit_name watch_limit = codes "watch"

-- `limit KIND`
abbrev pub limit_line : LimitKind → List ℕ
limit_line kind = line (codes "limit " ++ limit_name kind)

-- the name of a fault
abbrev pub fault_name : FaultKind → List ℕ
fault_name no_node = codes "NoNode"
fault_name no_list = codes "NoList"
fault_name cycle = codes "Cycle"
fault_name not_child = codes "NotChild"
fault_name self_ref = codes "SelfRef"

-- ` after K steps`
abbrev pub after_text : ℕ → List ℕ
after_text steps = codes " after " ++ (decimal steps ++ codes " steps")

-- `fault KIND after K steps: COMMAND`, so many before the one that faults
abbrev pub fault_line : FaultKind → ℕ → Command → List ℕ
fault_line kind steps command = line (codes "fault " ++ (fault_name kind ++ (after_text steps
    ++ (codes ": " ++ text_of (command_lexemes command)))))

-- `fuel spent after K steps`
abbrev pub spent_line : ℕ → List ℕ
spent_line steps = line (codes "fuel spent" ++ after_text steps)

-- a value
abbrev pub value_text : Value → List ℕ
value_text null = codes "null"
value_text (node_number n) = codes "#" ++ decimal n
value_text nolist = codes "nolist"
value_text (list_number n) = codes "%" ++ decimal n
value_text (int z) = signed_decimal z
value_text (str text) = quoted text
value_text (boolean b) = cond b (codes "yes") (codes "no")

-- `NAME = VALUE`, for each result in order
abbrev pub result_lines : List ProgVar → List Value → List ℕ
result_lines (named name s ∷ xs) (value ∷ values) =
    line (name ++ (codes " = " ++ value_text value)) ++ result_lines xs values
result_lines xs values = []

-- `ended after K steps`, the results, and the text of the grove
abbrev pub ended_with : ℕ → List ProgVar → List Value → List ℕ → List ℕ
ended_with steps results values text =
    line (codes "ended" ++ after_text steps) ++ (result_lines results values ++ line text)

-- the same with the grove's own text, its roots by rising node number
abbrev pub ended_lines : ℕ → List ProgVar → List Value → Trees → List ℕ
ended_lines steps results values grove =
    ended_with steps results values (grove_text (sorted_roots grove))

-- what a change says of parents, with `root` where there is none, and of the child before which the
-- node goes, where there is one
abbrev pub parent_text : ℕ → List ℕ
parent_text zero = codes "root"
parent_text (suc n) = codes "#" ++ decimal (suc n)

abbrev pub before_text : ℕ → List ℕ
before_text zero = []
before_text (suc n) = codes " before #" ++ decimal (suc n)

-- `K created #N %L`, `K moved #N from #A to #B before #C`, `K removed #N from #A`
abbrev pub change_text : Change → List ℕ
change_text (created step node list) =
    decimal step ++ (codes " created #" ++ (decimal node ++ (codes " %" ++ decimal list)))
change_text (moved step node from to before) =
    decimal step ++ (codes " moved #" ++ (decimal node ++ (codes " from " ++ (parent_text from
    ++ (codes " to #" ++ (decimal to ++ before_text before))))))
change_text (removed step node from) =
    decimal step ++ (codes " removed #" ++ (decimal node ++ (codes " from #" ++ decimal from)))

-- `requires yes`, `requires no`, `ensures yes`, `ensures no`
abbrev pub requires_line : Bool → List ℕ
requires_line true = line (codes "requires yes")
requires_line false = line (codes "requires no")

abbrev pub ensures_line : Bool → List ℕ
ensures_line true = line (codes "ensures yes")
ensures_line false = line (codes "ensures no")

-- `not watchable: sort`, of a procedure that doesn't speak of groves;
-- `not watchable: requires, part K` and `not watchable: ensures, part K`
abbrev pub not_watchable_sort_line : List ℕ
not_watchable_sort_line = line (codes "not watchable: sort")

abbrev pub not_watchable_requires_line : ℕ → List ℕ
not_watchable_requires_line part =
    line (codes "not watchable: requires, part " ++ decimal part)

abbrev pub not_watchable_ensures_line : ℕ → List ℕ
not_watchable_ensures_line part = line (codes "not watchable: ensures, part " ++ decimal part)

-- `not straight-line: sort`, of a procedure that doesn't speak of groves, and
-- `not straight-line: COMMAND`
abbrev pub not_straight_sort_line : List ℕ
not_straight_sort_line = line (codes "not straight-line: sort")

abbrev pub not_straight_line : Command → List ℕ
not_straight_line command =
    line (codes "not straight-line: " ++ text_of (command_lexemes command))

-- the declarations of variables, and a formula
abbrev pub precondition_lines : List Var → Named → List ℕ
precondition_lines variables formula =
    text_of_lines (map logic_line variables ++ formula_lexemes formula ∷ [])
