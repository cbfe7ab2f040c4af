-- Lines in which few brackets are open: in lists of balanced pieces, each piece by itself.
use Rattle.std.proofs.Common.{◌≡◌, ℕ, ◌≤◌, List, [], ◌∷◌, ◌++◌, map, refl, sym, subst, codes, append_assoc, arith}
use Rattle.std.specs.Prelude.{max}
use Rattle.model_terms.specs.Terms.{Term}
use Rattle.model_formulas.specs.Formulas.{Named}
use Rattle.model_commands.specs.Each.{Each}
use Rattle.model_commands.specs.Theories.{Reason, auto, by_rule, StepOf, ProcedureOf}
use Rattle.model_text.specs.Lexemes.{Lexeme, terminal, step_word, name_lexeme, number_lexeme}
use Rattle.model_text.specs.Versions.{insert_word}
use Rattle.model_text.specs.Nesting.{open_behind}
use Rattle.model_grammar.specs.Words.{the}
use Rattle.model_grammar.specs.Terms.{a_name}
use Rattle.model_grammar.specs.Theories as files
use Rattle.model_grammar.specs.Theories.{SpellsNumber, SpellsReason, SpellsStep, SpellsSteps, SpellsProcedure, SpellsProcedures, SpellsAnyWord}
use Rattle.model_grammar.specs.Writing.{in_brackets, command_lexemes}
use Rattle.model_grammar.specs.TheoryWriting.{formula_lexemes, data_sort_lexemes, declaration_lexemes, number_lexemes, argument_lexemes, word_lexemes, reason_lexemes, judgement_lexemes, step_line, procedure_lines, procedures_lines, all_lexemes}
use Rattle.model_round_trip.proofs.OneSpelling.{formula_written, command_written, data_sort_written, declarations_written, numbers_written, arguments_written, judgement_written}
use Rattle.model_filling.specs.Nested.{IsNested}
use Rattle.model_filling.specs.Renumbering.{FilledGap, raised, raised_reason, renumbered}
use Rattle.model_filling.proofs.Depths.{HasDepth, one-lexeme, two}
use Rattle.filled_theory_laws.proofs.Declared.{each-both}
use Rattle.filled_theory_laws.proofs.Balance.{Balanced, alone, formula-balanced, command-balanced, data-balanced, declarations-balanced, numbers-balanced, arguments-balanced, rule-flat, rule-balanced, numbers-flat, reserved-open, reason-balanced, judgement-balanced, step-balanced}

module _ (most : ℕ) where
  -- balanced, and no more brackets than the most are open
  abbrev pub Low : List Lexeme → Type 0
  Low xs = (d : ℕ) × HasDepth d xs × (d ≤ most)

  pub low-alone : (x : Lexeme) → ((before : ℕ) → open_behind before x ≡ before) → Low (x ∷ [])
  low-alone x same = (0, one-lexeme x same, omega arith)

  pub low-both : (xs ys : List Lexeme) → Low xs → Low ys → Low (xs ++ ys)
  low-both xs ys h k = (max h.0 k.0, two h.0 k.0 xs ys h.1 k.1, omega (arith, h.2, k.2))

  pub low-nests : (xs rest : List Lexeme) → Low xs → IsNested most 0 rest
      → IsNested most 0 (xs ++ rest)
  low-nests xs rest h k = h.1.nests most 0 rest (omega (arith, h.2)) k

  -- the piece in front of others
  pub front : (xs rest : List Lexeme) → Balanced xs → IsNested most 0 (xs ++ rest)
      → Low xs × IsNested most 0 rest
  front xs rest b h = let told = b.1.tells most 0 rest (omega arith) h in
      ((b.0, b.1, omega (arith, told.0)), told.1)

  -- that of more of them
  front-of : (xs more rest : List Lexeme) → Balanced xs → IsNested most 0 ((xs ++ more) ++ rest)
      → Low xs × IsNested most 0 (more ++ rest)
  front-of xs more rest b h =
      front xs (more ++ rest) b (subst (IsNested most 0) (append_assoc xs more rest) h)

  whole : (xs : List Lexeme) → Low xs → IsNested most 0 (xs ++ [])
  whole xs h = low-nests xs [] h tt

  balanced-as : (xs ys : List Lexeme) → xs ≡ ys → Balanced xs → Balanced ys
  balanced-as xs ys e = subst Balanced e

  low-as : (xs ys : List Lexeme) → xs ≡ ys → Low ys → Low xs
  low-as xs ys e = subst Low (sym e)

  -- A STEP that is spelled
  word-balanced : {name : List ℕ} {s : List Lexeme} → SpellsAnyWord name s → Balanced s
  word-balanced (files.plain_word word) = alone (name_lexeme word) (λ before. refl)
  word-balanced (files.reserved_word word e) = alone (terminal word) (reserved-open word e)
  word-balanced (files.step_itself line) = alone (step_word line) (λ before. refl)
  word-balanced files.insert_itself = alone (terminal insert_word) (λ before. refl)

  module _ (version : ℕ) where
    by-low : (name : List ℕ) (citations : List ℕ) (arguments : List Term)
        → Low (in_brackets (map number_lexemes citations)) → Low (argument_lexemes arguments)
        → Low (reason_lexemes version (by_rule name citations arguments))
    by-low name citations arguments h k =
        low-both (the "by") _ (low-alone (terminal (codes "by")) (λ before. refl))
        (low-both (word_lexemes version name) _ (0, rule-flat version name, omega arith)
        (low-both (in_brackets (map number_lexemes citations)) (argument_lexemes arguments) h k))

    reason-low : {r : Reason} {s : List Lexeme} → SpellsReason r s → (rest : List Lexeme)
        → IsNested most 0 (s ++ rest)
        → Low (reason_lexemes version r) × IsNested most 0 rest
    reason-low files.auto_word rest h =
        (low-alone (terminal (codes "auto")) (λ before. refl), h.1)
    reason-low (files.by_word {name = name} {ns = ns} {es = es} {rule = rule} {premises = premises}
        {arguments = arguments} l m n) rest h =
        let a = front-of rule (premises ++ arguments) rest (word-balanced l) h.1 in
        let b = front-of premises arguments rest
        (balanced-as _ premises (numbers_written m) (numbers-balanced ns)) a.1 in
        let c = front arguments rest
        (balanced-as _ arguments (arguments_written n) (arguments-balanced es)) b.1 in (
          by-low name ns es (low-as _ premises (numbers_written m) b.0)
              (low-as _ arguments (arguments_written n) c.0),
          c.1,
        )

    line-low : (step : StepOf Named) → Low (reason_lexemes version step.reason)
        → Low (judgement_lexemes step.judgement) → Low (step_line version step)
    line-low step h k =
        low-both (step_word step.line ∷ []) _ (low-alone (step_word step.line) (λ before. refl))
        (low-both (number_lexeme step.number ∷ []) _
        (low-alone (number_lexeme step.number) (λ before. refl))
        (low-both (reason_lexemes version step.reason) _ h
        (low-both (the ":") _ (low-alone (terminal (codes ":")) (λ before. refl))
        (low-both (judgement_lexemes step.judgement) (the ";") k
        (low-alone (terminal (codes ";")) (λ before. refl))))))

    step-low : {step : StepOf Named} {s : List Lexeme} → SpellsStep step s → (rest : List Lexeme)
        → IsNested most 0 (s ++ rest) → Low (step_line version step) × IsNested most 0 rest
    step-low (files.a_step line {n = n} {r = r} {j = w} {reason = reason} {judgement = judgement}
        (files.small_number n' le) m k) rest h =
        let x = reason-low m ((the ":" ++ (judgement ++ the ";")) ++ rest)
        (subst (IsNested most 0) (append_assoc reason (the ":" ++ (judgement ++ the ";")) rest)
        h.1.1) in
        let y = front-of judgement (the ";") rest
        (balanced-as _ judgement (judgement_written k) (judgement-balanced w)) x.1.1 in (
          line-low (record { number = n'; line = line; reason = r; judgement = w }) x.0
              (low-as _ judgement (judgement_written k) y.0),
          y.1.1,
        )

    steps-low : {steps : List (StepOf Named)} {s : List Lexeme} → SpellsSteps steps s
        → (rest : List Lexeme) → IsNested most 0 (s ++ rest)
        → Each Low (map (step_line version) steps) × IsNested most 0 rest
    steps-low files.no_step rest h = (tt, h)
    steps-low (files.one_step {first = first} {others = others} l ls) rest h =
        let x = step-low l (others ++ rest)
        (subst (IsNested most 0) (append_assoc first others rest) h) in
        let y = steps-low ls rest x.1 in ((x.0, y.0), y.1)

    -- PROCEDURES
    after-word : (text : List ℕ) → ((before : ℕ) → open_behind before (terminal text) ≡ before)
        → (xs : List Lexeme) → Low xs → Low (terminal text ∷ xs)
    after-word text same xs h =
        low-both (terminal text ∷ []) xs (low-alone (terminal text) same) h

    procedure-low : {f : ProcedureOf Named} {s : List Lexeme} → SpellsProcedure f s
        → (rest : List Lexeme) → IsNested most 0 (s ++ rest)
        → Each Low (procedure_lines version f) × IsNested most 0 rest
    procedure-low (files.procedure {xs = xs} {ys = ys} {k = k} {p = p} {q = q} {c = c}
        {steps = steps} {params = params} {results = results} {sort = sort} {requires_ = pre}
        {ensures_ = post} {body = body} {proof = proof} (a_name name) lxs lys lk lp lq lc ls) rest
        h =
        let a = front-of params _ rest
        (balanced-as _ params (declarations_written lxs) (declarations-balanced xs)) h.1.1 in
        let b = front-of results _ rest
        (balanced-as _ results (declarations_written lys) (declarations-balanced ys)) a.1.1 in
        let d = front-of sort _ rest
        (balanced-as _ sort (data_sort_written lk) (data-balanced k)) b.1.1 in
        let e = front-of pre _ rest
        (balanced-as _ pre (formula_written lp) (formula-balanced p)) d.1.1 in
        let g = front-of post _ rest
        (balanced-as _ post (formula_written lq) (formula-balanced q)) e.1.1 in
        let i = front-of body _ rest
        (balanced-as _ body (command_written lc) (command-balanced c)) g.1.1 in
        let j = steps-low ls (the "end" ++ rest)
        (subst (IsNested most 0) (append_assoc proof (the "end") rest) i.1.1) in (
          (
            after-word (codes "proc") (λ before. refl) _
                (low-both (name_lexeme name ∷ []) _
                (low-alone (name_lexeme name) (λ before. refl))
                (low-both (in_brackets (map declaration_lexemes xs)) _
                (low-as _ params (declarations_written lxs) a.0)
                (after-word (codes "returns") (λ before. refl) _
                (low-both (in_brackets (map declaration_lexemes ys)) _
                (low-as _ results (declarations_written lys) b.0)
                (after-word (codes "sort") (λ before. refl) (data_sort_lexemes k)
                (low-as _ sort (data_sort_written lk) d.0)))))),
            (
              after-word (codes "requires") (λ before. refl) (formula_lexemes p)
                  (low-as _ pre (formula_written lp) e.0),
              (
                after-word (codes "ensures") (λ before. refl) (formula_lexemes q)
                    (low-as _ post (formula_written lq) g.0),
                (
                  after-word (codes "body") (λ before. refl) (command_lexemes c)
                      (low-as _ body (command_written lc) i.0),
                  (
                    low-alone (terminal (codes "proof")) (λ before. refl),
                    each-both Low (map (step_line version) steps) (the "end" ∷ []) j.0
                        (low-alone (terminal (codes "end")) (λ before. refl), tt),
                  ),
                ),
              ),
            ),
          ),
          j.1.1,
        )

    pub procedures-low : {fs : List (ProcedureOf Named)} {s : List Lexeme} → SpellsProcedures fs s
        → (rest : List Lexeme) → IsNested most 0 (s ++ rest)
        → Each Low (procedures_lines version fs)
    procedures-low (files.last_procedure {f = f} l) rest h =
        each-both Low (procedure_lines version f) [] (procedure-low l rest h).0 tt
    procedures-low (files.more_procedures {f = f} {fs = fs} {first = first} {others = others} l ls)
        rest h =
        let x = procedure-low l (others ++ rest)
        (subst (IsNested most 0) (append_assoc first others rest) h) in
        each-both Low (procedure_lines version f) (procedures_lines version fs) x.0
        (procedures-low ls rest x.1)

    -- A STEP, renumbered
    reason-again : (gaps : List FilledGap) (r : Reason) → Low (reason_lexemes version r)
        → Low (reason_lexemes version (raised_reason gaps r))
    reason-again gaps auto h = h
    reason-again gaps (by_rule name citations arguments) h =
        let n = whole (reason_lexemes version (by_rule name citations arguments)) h in
        let a = front-of (word_lexemes version name) _ [] (rule-balanced version name) n.1 in
        let one : 1 ≤ most = omega (arith, a.1.0) in
        let b = front-of (in_brackets (map number_lexemes citations)) (argument_lexemes arguments)
        []
        (numbers-balanced citations) a.1 in
        let c = front (argument_lexemes arguments) [] (arguments-balanced arguments) b.1 in
        by-low name (map (raised gaps) citations) arguments
        (1, numbers-flat (map (raised gaps) citations), one) c.0

    pub step-again : (gaps : List FilledGap) (step : StepOf Named) → Low (step_line version step)
        → Low (step_line version (renumbered gaps step))
    step-again gaps step h =
        let n = whole (step_line version step) h in
        let a = front-of (reason_lexemes version step.reason) _ []
        (reason-balanced version step.reason) n.1.1 in
        let b = front-of (judgement_lexemes step.judgement) (the ";") []
        (judgement-balanced step.judgement) a.1.1 in
        line-low (renumbered gaps step) (reason-again gaps step.reason a.0) b.0

    -- STEPS that are offered
    pub offer-low : (steps : List (StepOf Named))
        → IsNested most 0 (all_lexemes (map (step_line version) steps))
        → Each Low (map (step_line version) steps)
    offer-low [] h = tt
    offer-low (step ∷ steps) h =
        let a = front (step_line version step) (all_lexemes (map (step_line version) steps))
        (step-balanced version step) h in
        (a.0, offer-low steps a.1)

  -- LINES together
  pub lines-nested : (lines : List (List Lexeme)) → Each Low lines
      → IsNested most 0 (all_lexemes lines)
  lines-nested [] h = tt
  lines-nested (line ∷ lines) h =
      low-nests line (all_lexemes lines) h.0 (lines-nested lines h.1)
