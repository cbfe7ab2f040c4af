-- The reader of theories reads what the grammar spells, and only that: it is exact.
use Rattle.std.proofs.Common.{◌≡◌, ℕ, ◌≤◌, true, List, [], ◌∷◌, ◌++◌, map, refl, sym, subst, append-nil, codes}
use Rattle.model_shapes.specs.Sorts.{DataSort}
use Rattle.model_terms.specs.Variables.{Var, logic}
use Rattle.model_formulas.specs.Formulas.{Named}
use Rattle.model_terms.specs.Stores.{ProgVar}
use Rattle.model_commands.specs.Theories.{ProcedureOf, Theory}
use Rattle.model_text.specs.Lexemes.{Lexeme, terminal}
use Rattle.model_grammar.specs.Terms.{SpellsName, SpellsDataSort, SpellsLogicName}
use Rattle.model_grammar.specs.Formulas.{SpellsFormula}
use Rattle.model_grammar.specs.Commands.{Bracketed}
use Rattle.model_grammar.specs.Theories.{SpellsDeclaration, SpellsProcedure, procedure, SpellsProcedures, last_procedure, more_procedures, SpellsLogicLine, logic_line, SpellsLogicLines, no_line, one_line, SpellsRaw, theory}
use Rattle.token_readers.specs.Reading.{leaf, the_terminal, not_begun}
use Rattle.token_readers.proofs.Sound.{the_terminal_is}
use Rattle.logic_text.specs.FormulaReaders.{leaf_logic, formula_at}
use Rattle.logic_text.proofs.LeafReader.{logic_sound, logic_only}
use Rattle.logic_text.proofs.FormulaReader.{formula_sound, formula_only}
use Rattle.proof_text.specs.Lists.{comma}
use Rattle.proof_text.specs.Theories.{contents_at, procedure_tail, more_procedures_at, procedures_at, logic_tail, joined_lines, logic_lines_at, theory_at}
use Rattle.token_readers.proofs.Sound.{Sound, Behind, After, s_ret, s_then, s_expect, s_close, s_less}
use Rattle.token_readers.proofs.Only.{Only, OrDeep, read, Prefix_free, o_last, o_then}
use Rattle.token_readers.proofs.Lists.{SpellsMany, none_left, one_more, s_list, list_only, s_many, many_only}
use Rattle.proof_text.proofs.ListReader.{name_sound, name_only, data_sort_sound, data_sort_only, items_of, listed}
use Rattle.proof_text.proofs.SortReader.{number_sound, number_only, sort_sound, sort_only}
use Rattle.proof_text.proofs.CommandReader.{command_sound, command_only}
use Rattle.proof_text.proofs.StepReader.{declarations_sound, declarations_only, steps_sound, steps_only, steps_of, steps_as_items}

-- what a list behind a procedure's sort spells
abbrev Contents : List Lexeme → List Lexeme → List Lexeme → List Lexeme → ProcedureOf Named
    → List Lexeme → Type 0
Contents l m n s = Behind s (After (terminal (codes "sort"))
    (Behind n (After (terminal (codes "returns")) (Behind m
    (Behind l (After (terminal (codes "proc")) SpellsProcedure))))))

contents_sound : (depth most n : ℕ) → depth ≤ most → n ≤ depth → n ≤ most
    → {f : List ℕ} {ps rs : List ProgVar} {d : DataSort} {l m r s : List Lexeme}
    → SpellsName f l → Bracketed SpellsDeclaration ps m → Bracketed SpellsDeclaration rs r
    → SpellsDataSort d s
    → Sound n (contents_at depth most f ps rs d) (Contents l m r s)
unfolding contents_at
contents_sound depth most n h k m lf lps lrs ld =
    let F : Sound n (formula_at depth) SpellsFormula = s_less n depth k (formula_sound depth) in
    s_expect (codes "requires") refl _ (s_then _ F λ p t lp.
    s_expect (codes "ensures") refl _ (s_then _ F λ q u lq.
    s_expect (codes "body") refl _ (s_then _ (s_less n depth k (command_sound most depth h)) λ c v
    lc.
    s_expect (codes "proof") refl _ (s_then _ (steps_sound depth most n h k m) λ xs w lxs.
    s_close n (codes "end") refl _ _ (procedure lf lps lrs ld lp lq lc (steps_of lxs))))))

procedure_sound : (depth most n : ℕ) → depth ≤ most → n ≤ depth → n ≤ most
    → Sound n (procedure_tail depth most) (After (terminal (codes "proc")) SpellsProcedure)
unfolding procedure_tail
procedure_sound depth most n h k m =
    s_then _ (name_sound n) λ f l lf. s_then _ (declarations_sound most n m) λ ps a lps.
    s_expect (codes "returns") refl _ (s_then _ (declarations_sound most n m) λ rs b lrs.
    s_expect (codes "sort") refl _ (s_then _ (data_sort_sound n) λ d s ld.
    contents_sound depth most n h k m lf lps lrs ld))

procedure_read : (depth most : ℕ) (a : ProcedureOf Named) (s rest : List Lexeme)
    → SpellsProcedure a (terminal (codes "proc") ∷ s) → OrDeep
    (procedure_tail depth most (s ++ rest)) a rest
unfolding procedure_tail contents_at
procedure_read depth most a s rest (procedure lf lps lrs ld lp lq lc lxs) =
    o_then _ _ rest name_only lf refl (o_then _ _ rest (declarations_only most) lps refl
    (o_then _ _ rest (declarations_only most) lrs refl (o_then _ _ rest data_sort_only ld refl
    (o_then _ _ rest (formula_only depth) lp refl (o_then _ _ rest (formula_only depth) lq refl
    (o_then _ _ rest (command_only most depth) lc refl (o_then _ _ rest (steps_only depth most)
    (steps_as_items lxs) refl read)))))))

procedure_only : (depth most : ℕ) → Only (procedure_tail depth most)
    (After (terminal (codes "proc")) SpellsProcedure) Prefix_free
procedure_only depth most = record { only = λ a s rest l st. procedure_read depth most a s rest l }

abbrev Many : List (ProcedureOf Named) → List Lexeme → Type 0
Many = SpellsMany (the_terminal (codes "proc")) SpellsProcedure

more_sound : (depth most n : ℕ) → depth ≤ most → n ≤ depth → n ≤ most
    → Sound n (more_procedures_at depth most) Many
unfolding more_procedures_at
more_sound depth most n h k m =
    s_many (the_terminal (codes "proc")) (λ x. procedure_tail depth most) SpellsProcedure most n m
    (λ t x e. subst (λ z. Sound n (procedure_tail depth most) (After z SpellsProcedure))
    (sym (the_terminal_is (codes "proc") t x e)) (procedure_sound depth most n h k m))

more_only : (depth most : ℕ) → Only (more_procedures_at depth most) Many
    (not_begun (the_terminal (codes "proc")))
unfolding more_procedures_at
more_only depth most =
    many_only (the_terminal (codes "proc")) (λ x. procedure_tail depth most) SpellsProcedure
    (λ t x e. subst (λ z. Only (procedure_tail depth most) (After z SpellsProcedure) Prefix_free)
    (sym (the_terminal_is (codes "proc") t x e)) (procedure_only depth most)) most

-- one procedure and more, as the grammar has them
procedures_of : {f : ProcedureOf Named} {fs : List (ProcedureOf Named)} {s t : List Lexeme}
    → SpellsProcedure f s → Many fs t → SpellsProcedures (f ∷ fs) (s ++ t)
procedures_of {f} {fs} {s} {t} l none_left = subst (λ z. SpellsProcedures (f ∷ []) z)
    (sym (append-nil s)) (last_procedure l)
procedures_of l (one_more t x e m ms) = more_procedures l (procedures_of m ms)

data SpellsSome : List (ProcedureOf Named) → List Lexeme → Type 0 where
  some_procedures : {f : ProcedureOf Named} {fs : List (ProcedureOf Named)} {s t : List Lexeme}
      → SpellsProcedure f (terminal (codes "proc") ∷ s) → Many fs t
      → SpellsSome (f ∷ fs) (terminal (codes "proc") ∷ (s ++ t))

starts : {f : ProcedureOf Named} {fs : List (ProcedureOf Named)} {s t : List Lexeme}
    → SpellsProcedure f s → Many fs t → SpellsSome (f ∷ fs) (s ++ t)
starts (procedure lf lps lrs ld lp lq lc lxs) ms = some_procedures
    (procedure lf lps lrs ld lp lq lc lxs) ms

goes_on : {f : ProcedureOf Named} {fs : List (ProcedureOf Named)} {s t : List Lexeme}
    → SpellsProcedure f s → Many fs t → Many (f ∷ fs) (s ++ t)
goes_on (procedure lf lps lrs ld lp lq lc lxs) ms = one_more (terminal (codes "proc")) true refl
    (procedure lf lps lrs ld lp lq lc lxs) ms

many_of : {fs : List (ProcedureOf Named)} {s : List Lexeme} → SpellsProcedures fs s → Many fs s
many_of (last_procedure {f = f} {only = s} l) = subst (λ z. Many (f ∷ []) z) (append-nil s)
    (goes_on l none_left)
many_of (more_procedures l ls) = goes_on l (many_of ls)

some_of : {fs : List (ProcedureOf Named)} {s : List Lexeme} → SpellsProcedures fs s
    → SpellsSome fs s
some_of (last_procedure {f = f} {only = s} l) = subst (λ z. SpellsSome (f ∷ []) z) (append-nil s)
    (starts l none_left)
some_of (more_procedures l ls) = starts l (many_of ls)

procedures_sound : (depth most n : ℕ) → depth ≤ most → n ≤ depth → n ≤ most
    → Sound n (procedures_at depth most) SpellsProcedures
unfolding procedures_at
procedures_sound depth most n h k m =
    s_expect (codes "proc") refl _ (s_then _ (procedure_sound depth most n h k m) λ f s lf. s_then _
    (more_sound depth most n h k m) λ fs t lfs.
    s_ret n (f ∷ fs) _ (subst (λ z. SpellsProcedures (f ∷ fs) (terminal (codes "proc") ∷ (s ++ z)))
    (sym (append-nil t)) (procedures_of lf lfs)))

some_read : (depth most : ℕ) (a : List (ProcedureOf Named)) (s rest : List Lexeme) → SpellsSome a s
    → not_begun (the_terminal (codes "proc")) rest ≡ true
    → OrDeep (procedures_at depth most (s ++ rest)) a rest
unfolding procedures_at
some_read depth most a s rest (some_procedures {t = t} l ms) st =
    o_then _ t rest (procedure_only depth most) l refl (o_last _ rest
    (more_only depth most) ms st read)

procedures_only : (depth most : ℕ) → Only (procedures_at depth most) SpellsProcedures
    (not_begun (the_terminal (codes "proc")))
procedures_only depth most = record {
  only = λ a s rest l st. some_read depth most a s rest
      (some_of l) st;
}

-- THE LOGIC VARIABLES
line_sound : (most n : ℕ) → n ≤ most → Sound n (logic_tail most)
    (After (terminal (codes "logic")) SpellsLogicLine)
unfolding logic_tail
line_sound most n h =
    s_then _ (sort_sound n) λ o s lo. s_then _ (s_list comma most n h (logic_sound n)) λ names t ls.
    s_close n (codes ";") refl (map (λ name. logic name o) names) _ (logic_line lo (items_of ls))

line_read : (most : ℕ) (a : List Var) (s rest : List Lexeme)
    → SpellsLogicLine a (terminal (codes "logic") ∷ s) → OrDeep (logic_tail most (s ++ rest)) a rest
unfolding logic_tail
line_read most a s rest (logic_line lo ls) =
    o_then _ _ rest sort_only lo refl (o_then _ _ rest (list_only comma
    (leaf leaf_logic) SpellsLogicName logic_only most) (listed ls) refl read)

abbrev Lines : List (List Var) → List Lexeme → Type 0
Lines = SpellsMany (the_terminal (codes "logic")) SpellsLogicLine

lines_sound : (most n : ℕ) → n ≤ most → Sound n (logic_lines_at most) Lines
unfolding logic_lines_at
lines_sound most n h =
    s_many (the_terminal (codes "logic")) (λ x. logic_tail most) SpellsLogicLine most n h
    (λ t x e. subst (λ z. Sound n (logic_tail most) (After z SpellsLogicLine))
    (sym (the_terminal_is (codes "logic") t x e)) (line_sound most n h))

lines_only : (most : ℕ) → Only (logic_lines_at most) Lines
    (not_begun (the_terminal (codes "logic")))
unfolding logic_lines_at
lines_only most =
    many_only (the_terminal (codes "logic")) (λ x. logic_tail most) SpellsLogicLine
    (λ t x e. subst (λ z. Only (logic_tail most) (After z SpellsLogicLine) Prefix_free)
    (sym (the_terminal_is (codes "logic") t x e))
    (record { only = λ a s rest l st. line_read most a s rest l })) most

-- lines as a list of items, and as the grammar has them
lines_of : {lines : List (List Var)} {s : List Lexeme} → Lines lines s
    → SpellsLogicLines (joined_lines lines) s
lines_of none_left = no_line
lines_of (one_more t x e l ls) = one_line l (lines_of ls)

begun_by : {xs : List Var} {lines : List (List Var)} {s u : List Lexeme} → SpellsLogicLine xs s
    → Lines lines u → Lines (xs ∷ lines) (s ++ u)
begun_by (logic_line lo ls) rest = one_more (terminal (codes "logic")) true refl
    (logic_line lo ls) rest

lines_as_items : {xs : List Var} {s : List Lexeme} → SpellsLogicLines xs s
    → (lines : List (List Var)) × (joined_lines lines ≡ xs) × Lines lines s
lines_as_items no_line = ([], refl, none_left)
lines_as_items (one_line {xs = xs} l ls) =
    let rest = lines_as_items ls in
    (xs ∷ rest.0, more_same xs _ _ rest.1, begun_by l rest.2)
  where
    more_same : (xs ys zs : List Var) → ys ≡ zs → xs ++ ys ≡ xs ++ zs
    more_same xs ys zs e = cc

-- THE THEORY
pub theory_sound : (depth most n : ℕ) → depth ≤ most → n ≤ depth → n ≤ most
    → Sound n (theory_at depth most) SpellsRaw
unfolding theory_at
theory_sound depth most n h k m =
    s_expect (codes "domlogic") refl _ (s_then _ (number_sound n) λ v s lv. s_then _
    (lines_sound most n m) λ lines t ll.
    s_then _ (procedures_sound depth most n h k m) λ fs u lfs.
    s_ret n (record { version = v; logic = joined_lines lines; procedures = fs }) _
    (theory lv (lines_of ll) (ends lfs)))
  where
    ends : {fs : List (ProcedureOf Named)} {s : List Lexeme} → SpellsProcedures fs s
        → SpellsProcedures fs (s ++ [])
    ends {fs} {s} l = subst (λ z. SpellsProcedures fs z) (sym (append-nil s)) l

-- procedures don't begin with the word for a line
begins_procedures : {fs : List (ProcedureOf Named)} {s : List Lexeme} (rest : List Lexeme)
    → SpellsSome fs s → not_begun (the_terminal (codes "logic")) (s ++ rest) ≡ true
begins_procedures rest (some_procedures l ms) = refl

theory_read : (depth most : ℕ) (a : Theory) (s rest : List Lexeme) → SpellsRaw a s
    → not_begun (the_terminal (codes "proc")) rest ≡ true
    → OrDeep (theory_at depth most (s ++ rest)) a rest
unfolding theory_at
theory_read depth most a s rest (theory {n = n} {fs = fs} {version = v} {lines = ls}
    {procedures = ps} lv ll lfs) st =
    let lines = lines_as_items ll in
    subst (λ z. OrDeep (theory_at depth most ((terminal (codes "domlogic") ∷ (v ++ (ls ++ ps))) ++
    rest)) (record { version = n; logic = z; procedures = fs }) rest) lines.1
    (o_then _ (ls ++ ps) rest number_only lv refl
    (o_then _ ps rest (lines_only most) lines.2 (begins_procedures rest (some_of lfs))
    (o_last _ rest (procedures_only depth most) lfs st read)))

pub theory_only : (depth most : ℕ) → Only (theory_at depth most) SpellsRaw
    (not_begun (the_terminal (codes "proc")))
theory_only depth most = record { only = λ a s rest l st. theory_read depth most a s rest l st }
