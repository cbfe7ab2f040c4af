-- The literals of what is read are UTF-8.
use Rattle.std.proofs.Common.{ℕ, Bool, true, false, not, ◌&&◌, ◌==◌, cond, List, [], ◌∷◌, ◌++◌, ◌≡◌, refl, sym, ◌∙◌, subst, map, codes, bytes_eq, inl, inr}
use Rattle.std.specs.List.{list_any}
use Rattle.model_shapes.specs.Sorts.{Sort}
use Rattle.model_terms.specs.Variables.{Var, logic}
use Rattle.model_formulas.specs.Formulas.{Named}
use Rattle.model_commands.specs.Theories.{Reason, StepOf, ProcedureOf, Theory}
use Rattle.model_text.specs.Lexemes.{Lexeme, terminal, step_word, name_lexeme, logic_lexeme, number_lexeme, literal_lexeme, bad_lexeme, is_reserved, word_lexeme}
use Rattle.model_text.specs.Versions.{insert_word, reserving, IsOfVersion}
use Rattle.model_text.proofs.OfTokens.{terminals, is_seen}
use Rattle.model_text.specs.FaultTokens.{AreOfTokens}
use Rattle.model_grammar.specs.Words.{the, ◌⌢◌}
use Rattle.model_grammar.specs.Terms.{SpellsName, a_name}
use Rattle.model_grammar.specs.Theories as files
use Rattle.model_grammar.specs.Theories.{small_number, SpellsReason, SpellsStep, SpellsSteps, SpellsProcedure, SpellsProcedures, SpellsLogicLine, SpellsLogicLines, SpellsRaw, SpellsTheory}
use Rattle.model_grammar.specs.Writing.{in_brackets}
use Rattle.model_grammar.specs.TheoryWriting.{data_sort_lexemes, number_lexemes, word_lexemes, sort_lexemes, argument_lexemes, reason_lexemes, judgement_lexemes, declaration_lexemes, logic_line, step_line, procedure_lines, procedures_lines, theory_lines}
use Rattle.model_grammar.specs.Writable.{Each}
use Rattle.model_round_trip.specs.Literals.{LiteralIsUtf8, LiteralsAreUtf8}
use Rattle.model_round_trip.proofs.OneSpelling.{formula_written, command_written, data_sort_written, sort_written, declarations_written, numbers_written, arguments_written, judgement_written}
use Rattle.model_round_trip.proofs.Parts.{each_append, each_split}
use Rattle.model_round_trip.proofs.SameWriting.{theory_kept}
use Rattle.model_round_trip.proofs.Tokens.{word_by, printable}
use Rattle.model_text.proofs.Versions.{in_version_of}
use Rattle.model_round_trip.proofs.Versions.{seen, one_by_one, IsSeen, AreSeen, never_reserved, tokens_seen, rule_of_version}

literal_read : (lexeme : Lexeme) → IsSeen lexeme → LiteralIsUtf8 lexeme
literal_read (literal_lexeme text) (inl h) = printable (literal_lexeme text) h (λ e. cc)
literal_read (literal_lexeme text) (inr e) = absurd cc
literal_read (terminal text) h = tt
literal_read (step_word line) h = tt
literal_read (name_lexeme name) h = tt
literal_read (logic_lexeme name) h = tt
literal_read (number_lexeme n) h = tt
literal_read bad_lexeme h = tt

pub literals_read : (lexemes : List Lexeme) → AreSeen lexemes → LiteralsAreUtf8 lexemes
literals_read [] h = tt
literals_read (first ∷ rest) h = (literal_read first h.0, literals_read rest h.1)

-- of what is written as those lexemes
pub as_read : (Can : Lexeme → Type 0) {written lexemes : List Lexeme} → written ≡ lexemes
    → Each Can lexemes → Each Can written
as_read Can e h = subst (Each Can) (sym e) h

-- the lexemes of a raw theory begin with its version
pub begins_with_version : {theory : Theory} {s : List Lexeme} → SpellsRaw theory s
    → (rest : List Lexeme) × (s ≡ terminal (codes "domlogic")
    ∷ number_lexeme theory.version ∷ rest)
begins_with_version (files.theory {lines = lines} {procedures = procedures}
    (files.small_number n le) m k) = (lines ++ procedures, refl)

-- WHAT HOLDS OF EACH LEXEME OF A THEORY, AND OF ITS WORDS, HOLDS OF WHAT IS WRITTEN FOR IT

module _ (v : ℕ) (Can : Lexeme → Type 0)
    (of_word : (text : List ℕ) → list_any (bytes_eq text) terminals ≡ true → Can (terminal text))
    (of_number : (n : ℕ) → Can (number_lexeme n)) (of_logic : (name : List ℕ)
    → Can (logic_lexeme name))
    (of_rule : (name : List ℕ) → Can (seen v (word_lexeme name 0))) where
  name_read : {name : List ℕ} {s : List Lexeme} → SpellsName name s → Each Can s
      → Can (name_lexeme name)
  name_read (a_name name) h = h.0

  two_read : (front behind : List Lexeme) → Each Can front → Each Can behind
      → Each Can (front ++ behind)
  two_read = each_append Can

  -- ---- steps

  reason_read : {r : Reason} {s : List Lexeme} → SpellsReason r s → Each Can s
      → Each Can (reason_lexemes v r)
  reason_read files.auto_word h = h
  reason_read (files.by_word {name = name} {ns = ns} {es = es} {rule = rule} {premises = premises}
      l m n) h =
      let x = each_split Can rule _ h.1 in
      let y = each_split Can premises _ x.1 in (
        h.0,
        two_read (word_lexemes v name) _
            (subst (Each Can) (sym (one_by_one v (word_lexeme name 0 ∷ []))) (of_rule name, tt))
            (two_read (in_brackets (map number_lexemes ns)) (argument_lexemes es)
            (as_read Can (numbers_written m) y.0) (as_read Can (arguments_written n) y.1)),
      )

  step_read : {step : StepOf Named} {s : List Lexeme} → SpellsStep step s → Each Can s
      → Each Can (step_line v step)
  step_read (files.a_step line {r = r} {j = w} {number = number} {reason = reason}
      {judgement = judgement} l m n) h =
      let x = each_split Can reason _ (each_split Can number _ h.1).1 in
      let y = each_split Can judgement _ x.1.1 in (
        h.0,
        (
          of_number _,
          two_read (reason_lexemes v r) (the ":" ⌢ judgement_lexemes w ⌢ the ";")
              (reason_read m x.0) (
                x.1.0,
                two_read (judgement_lexemes w) (the ";") (as_read Can (judgement_written n) y.0)
                    y.1,
              ),
        ),
      )

  steps_read : {steps : List (StepOf Named)} {s : List Lexeme} → SpellsSteps steps s
      → Each Can s → Each (Each Can) (map (step_line v) steps)
  steps_read files.no_step h = tt
  steps_read (files.one_step {first = first} l ls) h =
      let x = each_split Can first _ h in (step_read l x.0, steps_read ls x.1)

  -- ---- procedures and theories

  procedure_read : {f : ProcedureOf Named} {s : List Lexeme} → SpellsProcedure f s
      → Each Can s → Each (Each Can) (procedure_lines v f)
  procedure_read (files.procedure {xs = xs} {ys = ys} {k = k} {steps = steps} {name = name}
      {params = params} {results = results} {sort = sort} {requires_ = pre} {ensures_ = post}
      {body = body} {proof = proof} lf lxs lys lk lp lq lc ls) h =
      let a = each_split Can name _ h.1 in
      let b = each_split Can params _ a.1 in
      let d = each_split Can results _ b.1.1 in
      let g = each_split Can sort _ d.1.1 in
      let e = each_split Can pre _ g.1.1 in
      let i = each_split Can post _ e.1.1 in
      let j = each_split Can body _ i.1.1 in
      let o = each_split Can proof _ j.1.1 in
      let last : Each Can (the "sort" ⌢ data_sort_lexemes k) =
      (d.1.0, as_read Can (data_sort_written lk) g.0) in (
        (
          h.0,
          (
            name_read lf a.0,
            two_read (in_brackets (map declaration_lexemes xs)) _
                (as_read Can (declarations_written lxs) b.0) (
                  b.1.0,
                  two_read (in_brackets (map declaration_lexemes ys)) _
                      (as_read Can (declarations_written lys) d.0) last,
                ),
          ),
        ),
        (
          (g.1.0, as_read Can (formula_written lp) e.0),
          (
            (e.1.0, as_read Can (formula_written lq) i.0),
            (
              (i.1.0, as_read Can (command_written lc) j.0),
              (
                (j.1.0, tt),
                each_append (Each Can) (map (step_line v) steps) (the "end" ∷ [])
                    (steps_read ls o.0) (o.1, tt),
              ),
            ),
          ),
        ),
      )

  procedures_read : {fs : List (ProcedureOf Named)} {s : List Lexeme} → SpellsProcedures fs s
      → Each Can s → Each (Each Can) (procedures_lines v fs)
  procedures_read (files.last_procedure {f = f} l) h =
      each_append (Each Can) (procedure_lines v f) [] (procedure_read l h) tt
  procedures_read (files.more_procedures {f = f} {fs = fs} {first = first} l ls) h =
      let x = each_split Can first _ h in
      each_append (Each Can) (procedure_lines v f) (procedures_lines v fs) (procedure_read l x.0)
      (procedures_read ls x.1)

  each_line : (xs : List Var) → Each (λ x. Each Can (logic_line x)) xs
      → Each (Each Can) (map logic_line xs)
  each_line [] h = tt
  each_line (x ∷ xs) h = (h.0, each_line xs h.1)

  names_read : (k : Sort) → Each Can (sort_lexemes k) → (names : List (List ℕ))
      → Each (λ x. Each Can (logic_line x)) (map (λ name. logic name k) names)
  names_read k h [] = tt
  names_read k h (name ∷ names) = (
    (
      of_word (codes "logic") refl,
      two_read (sort_lexemes k) _ h (of_logic name, (of_word (codes ";") refl, tt)),
    ),
    names_read k h names,
  )

  logic_line_read : {xs : List Var} {s : List Lexeme} → SpellsLogicLine xs s → Each Can s
      → Each (λ x. Each Can (logic_line x)) xs
  logic_line_read (files.logic_line {s = k} {names = names} {sort = sort} l ls) h =
      names_read k (as_read Can (sort_written l) (each_split Can sort _ h.1).0) names

  logic_lines_read : {xs : List Var} {s : List Lexeme} → SpellsLogicLines xs s → Each Can s
      → Each (λ x. Each Can (logic_line x)) xs
  logic_lines_read files.no_line h = tt
  logic_lines_read (files.one_line {xs = xs} {ys = ys} {first = first} l ls) h =
      let x = each_split Can first _ h in
      each_append (λ x. Each Can (logic_line x)) xs ys (logic_line_read l x.0)
      (logic_lines_read ls x.1)

  pub procedures_and_logic : {theory : Theory} {s : List Lexeme} → SpellsRaw theory s → Each Can s
      → Each (Each Can) ((the "domlogic" ⌢ number_lexemes theory.version)
      ∷ (map logic_line theory.logic ++ procedures_lines v theory.procedures))
  procedures_and_logic (files.theory {xs = xs} {fs = fs} {version = version} {lines = lines} l m n)
      h =
      let x = each_split Can lines _ (each_split Can version _ h.1).1 in (
        (h.0, (of_number _, tt)),
        each_append (Each Can) (map logic_line xs) (procedures_lines v fs)
            (each_line xs (logic_lines_read m x.0)) (procedures_read n x.1),
      )

-- ---- literals

word_read : (version : ℕ) (name : List ℕ) → LiteralIsUtf8 (seen version (word_lexeme name 0))
word_read version name =
    by_tests (bytes_eq name (codes "step")) (is_reserved name) (bytes_eq name insert_word)
    (version == 2)
  where
    by_word : (is second : Bool)
        → LiteralIsUtf8 (cond second (cond is (terminal name) (name_lexeme name))
        (name_lexeme name))
    by_word true true = tt
    by_word true false = tt
    by_word false true = tt
    by_word false false = tt

    by_tests : (step reserved is second : Bool) → LiteralIsUtf8 (cond second
        (reserving (word_by step reserved name 0)) (word_by step reserved name 0))
    by_tests true reserved is true = tt
    by_tests true reserved is false = tt
    by_tests false true is true = tt
    by_tests false true is false = tt
    by_tests false false is second = by_word (bytes_eq name insert_word) second

raw_read : {theory : Theory} {s : List Lexeme} → SpellsRaw theory s → AreSeen s
    → Each LiteralsAreUtf8 (theory_lines theory)
raw_read {theory} {s} spells h =
    procedures_and_logic theory.version LiteralIsUtf8 (λ text e. tt) (λ n. tt) (λ name. tt)
    (word_read theory.version) spells (literals_read s h)

-- ---- the words of a version

terminal_word : (version : ℕ) (text : List ℕ) → list_any (bytes_eq text) terminals ≡ true
    → IsOfVersion version (terminal text)
terminal_word version text e =
    λ j. never_reserved text (is_seen text e) j && not (version == 2)

pub raw_words : {theory : Theory} {s : List Lexeme} → SpellsRaw theory s
    → Each (IsOfVersion theory.version) s
    → Each (Each (IsOfVersion theory.version)) (theory_lines theory)
raw_words {theory} spells h =
    procedures_and_logic theory.version (IsOfVersion theory.version)
    (terminal_word theory.version) (λ n. tt) (λ name. tt) (rule_of_version theory.version) spells h

pub theory_read : {theory : Theory} {s : List Lexeme} → SpellsTheory theory s → AreOfTokens s
    → Each LiteralsAreUtf8 (theory_lines theory)
theory_read {theory} {s} spells h =
    let kept : theory_lines theory ≡ theory_lines spells.raw =
    (λ j. theory_lines (spells.sorted j)) ∙ theory_kept spells.raw in
    let begins = begins_with_version spells.spelled in
    let seen = in_version_of s _ spells.raw.version begins.0 begins.1 in
    subst (Each LiteralsAreUtf8) (sym kept) (raw_read spells.spelled
    (subst AreSeen (sym seen) (tokens_seen spells.raw.version s h)))
