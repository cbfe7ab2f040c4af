-- The readers of declarations, judgements and steps read what the grammar spells, and only that.
use Rattle.std.proofs.Common.{◌≡◌, ℕ, ◌≤◌, true, List, [], ◌∷◌, ◌++◌, Some, refl, sym, ap, subst, codes}
use Rattle.model_terms.specs.Terms.{Term}
use Rattle.model_formulas.specs.Formulas.{Named}
use Rattle.model_terms.specs.Stores.{ProgVar, named}
use Rattle.model_commands.specs.Theories.{JudgementOf, entails, triple, Reason, auto, by_rule, StepOf}
use Rattle.model_text.specs.Lexemes.{Lexeme, terminal, step_word}
use Rattle.model_grammar.specs.Terms.{in_formula, a_name, SpellsValueSort, a_logic_name, SpellsTerm, program_variable, logic_variable, text_literal, number_literal, negative_literal, constant, operation, null_word, nolist_word, yes_word, no_word, SpellsDataSort, SpellsShapeSort}
use Rattle.model_grammar.specs.Formulas as f
use Rattle.model_grammar.specs.Formulas.{SpellsFormula}
use Rattle.model_grammar.specs.Commands.{Bracketed}
use Rattle.model_grammar.specs.Theories.{SpellsNumber, small_number, SpellsDeclaration, declaration, SpellsArguments, no_argument, some_arguments, SpellsReason, auto_word, by_word, SpellsJudgement, entailment, a_triple, SpellsStep, a_step, SpellsSteps, no_step, one_step}
use Rattle.token_readers.specs.Leaves.{leaf_number, leaf_step}
use Rattle.token_readers.specs.Reading.{Read, when, leaf, many, not_next, not_begun}
use Rattle.logic_text.specs.TermReaders.{term_at}
use Rattle.logic_text.specs.FormulaReaders.{formula_at}
use Rattle.logic_text.proofs.TermReader.{term_sound, term_only}
use Rattle.logic_text.proofs.FormulaReader.{ends_with, formula_sound, formula_only}
use Rattle.proof_text.specs.Lists.{comma, bracketed_at}
use Rattle.proof_text.specs.Theories.{declaration_at, arguments_at, reason_at, triple_at, entailment_at, judgement_at, step_tail}
use Rattle.token_readers.proofs.Sound.{Sound, After, s_ret, s_then, s_case, s_expect, s_close, s_less}
use Rattle.token_readers.proofs.Only.{Only, OrDeep, read, Prefix_free, o_last, o_then}
use Rattle.token_readers.proofs.Lists.{SpellsMany, none_left, one_more, s_list, list_only, ends_list, s_many, many_only}
use Rattle.proof_text.proofs.ListReader.{name_sound, name_only, value_sort_sound, value_sort_only, data_sort_sound, data_sort_only, items_of, listed, bracketed_sound, bracketed_only}
use Rattle.proof_text.proofs.SortReader.{word_sound, word_only, number_sound, number_only, shape_sort_sound, shape_sort_only}
use Rattle.proof_text.proofs.CommandReader.{command_sound, command_only}

-- premises
premises_sound : (most n : ℕ) → n ≤ most → Sound n (bracketed_at (leaf leaf_number) most)
    (Bracketed SpellsNumber)
premises_sound most n h = bracketed_sound (leaf leaf_number) SpellsNumber most n h (number_sound n)

premises_only : (most : ℕ) → Only (bracketed_at (leaf leaf_number) most)
    (Bracketed SpellsNumber) Prefix_free
premises_only = bracketed_only (leaf leaf_number) SpellsNumber number_only opens
  where
    opens : (a : ℕ) (s rest : List Lexeme) (r other : Read (List ℕ)) → SpellsNumber a s
        → when (codes ")") r other (s ++ rest) ≡ other (s ++ rest)
    opens a s rest r other (small_number n h) = refl

-- declarations
declaration_sound : (n : ℕ) → Sound n declaration_at SpellsDeclaration
unfolding declaration_at
declaration_sound n =
    s_then _ (name_sound n) λ name s ln. s_expect (codes ":") refl _
    (s_then _ (value_sort_sound n) λ v t lv.
    s_ret n (named name v) _ (declaration ln (ends_with SpellsValueSort lv)))

declaration_only : Only declaration_at SpellsDeclaration Prefix_free
unfolding declaration_at
declaration_only = record { only = λ a s rest l st. reads a s rest l }
  where
    reads : (a : ProgVar) (s rest : List Lexeme) → SpellsDeclaration a s
        → OrDeep (declaration_at (s ++ rest)) a rest
    reads a s rest (declaration ln lv) = o_then _ _ rest name_only ln refl
        (o_last _ rest value_sort_only lv refl read)

pub declarations_sound : (most n : ℕ) → n ≤ most → Sound n (bracketed_at declaration_at most)
    (Bracketed SpellsDeclaration)
declarations_sound most n h = bracketed_sound declaration_at SpellsDeclaration most n h
    (declaration_sound n)

pub declarations_only : (most : ℕ) → Only (bracketed_at declaration_at most)
    (Bracketed SpellsDeclaration) Prefix_free
declarations_only = bracketed_only declaration_at SpellsDeclaration declaration_only opens
  where
    opens : (a : ProgVar) (s rest : List Lexeme) (r other : Read (List ProgVar))
        → SpellsDeclaration a s → when (codes ")") r other (s ++ rest) ≡ other (s ++ rest)
    opens a s rest r other (declaration (a_name name) lv) = refl

-- arguments and reasons
arguments_sound : (depth most n : ℕ) → n ≤ depth → n ≤ most
    → Sound n (arguments_at depth most) SpellsArguments
unfolding arguments_at
arguments_sound depth most n h k =
    s_case (codes "with") (s_expect (codes "(") refl _ (s_then _
    (s_list comma most n k (s_less n depth h (term_sound in_formula depth))) λ es s ls.
    s_close n (codes ")") refl es _ (some_arguments (items_of ls))))
    (s_ret n [] _ no_argument)

none_given : (depth most : ℕ) (rest : List Lexeme) → not_next (codes "with") rest ≡ true
    → OrDeep (arguments_at depth most rest) [] rest
unfolding arguments_at
none_given depth most rest st = ends_list (codes "with") _ [] rest st

arguments_read : (depth most : ℕ) (es : List Term) (s rest : List Lexeme) → SpellsArguments es s
    → not_next (codes "with") rest ≡ true
    → OrDeep (arguments_at depth most (s ++ rest)) es rest
unfolding arguments_at
arguments_read depth most es s rest no_argument st = none_given depth most rest st
arguments_read depth most es s rest (some_arguments ls) st =
    o_then _ _ rest (list_only comma (term_at in_formula depth) (SpellsTerm in_formula)
    (term_only in_formula depth) most) (listed ls) refl read

arguments_only : (depth most : ℕ) → Only (arguments_at depth most) SpellsArguments
    (not_next (codes "with"))
arguments_only depth most = record {
  only = λ a s rest l st.
      arguments_read depth most a s rest l st;
}

reason_sound : (depth most n : ℕ) → n ≤ depth → n ≤ most
    → Sound n (reason_at depth most) SpellsReason
unfolding reason_at
reason_sound depth most n h k =
    s_case (codes "auto") (s_ret n auto _ auto_word) (s_expect (codes "by") refl _
    (s_then _ (word_sound n) λ w s lw.
    s_then _ (premises_sound most n k) λ ns t lns. s_then _
    (arguments_sound depth most n h k) λ es u les.
    s_ret n (by_rule w ns es) _ (by_word lw lns (ends_with SpellsArguments les))))

reason_read : (depth most : ℕ) (r : Reason) (s rest : List Lexeme) → SpellsReason r s
    → not_next (codes "with") rest ≡ true → OrDeep (reason_at depth most (s ++ rest)) r rest
unfolding reason_at
reason_read depth most r s rest auto_word st = read
reason_read depth most r s rest (by_word lw lns les) st =
    o_then _ _ rest word_only lw refl (o_then _ _ rest (premises_only most) lns refl
    (o_last _ rest (arguments_only depth most) les st read))

reason_only : (depth most : ℕ) → Only (reason_at depth most) SpellsReason (not_next (codes "with"))
reason_only depth most = record { only = λ a s rest l st. reason_read depth most a s rest l st }

-- judgements
triple_sound : (depth most n : ℕ) → depth ≤ most → n ≤ depth
    → Sound n (triple_at depth most) (After (terminal (codes "pre")) SpellsJudgement)
unfolding triple_at
triple_sound depth most n h k =
    let F : Sound n (formula_at depth) SpellsFormula = s_less n depth k (formula_sound depth) in
    s_then _ F λ p s lp. s_expect (codes "do") refl _ (s_then _
    (s_less n depth k (command_sound most depth h)) λ c t lc.
    s_expect (codes "post") refl _ (s_then _ F λ q u lq. s_expect (codes "at") refl _
    (s_then _ (data_sort_sound n) λ d v ld.
    s_ret n (triple p c q d) _ (a_triple lp lc lq (ends_with SpellsDataSort ld)))))

entailment_sound : (depth n : ℕ) → n ≤ depth → Sound n (entailment_at depth) SpellsJudgement
unfolding entailment_at
entailment_sound depth n k =
    let F : Sound n (formula_at depth) SpellsFormula = s_less n depth k (formula_sound depth) in
    s_then _ F λ p s lp. s_expect (codes "entails") refl _
    (s_then _ F λ q t lq. s_expect (codes "at") refl _ (s_then _ (shape_sort_sound n) λ o u lo.
    s_ret n (entails p q o) _ (entailment lp lq (ends_with SpellsShapeSort lo))))

judgement_sound : (depth most n : ℕ) → depth ≤ most → n ≤ depth
    → Sound n (judgement_at depth most) SpellsJudgement
unfolding judgement_at
judgement_sound depth most n h k = s_case (codes "pre") (triple_sound depth most n h k)
    (entailment_sound depth n k)

-- no formula begins with `pre`
term_begins : (J K : Read (JudgementOf Named)) (a : Term) (s x y z : List Lexeme)
    → SpellsTerm in_formula a s
    → when (codes "pre") J K (((s ++ x) ++ y) ++ z) ≡ K (((s ++ x) ++ y) ++ z)
term_begins J K a s x y z (program_variable name) = refl
term_begins J K a s x y z (logic_variable name) = refl
term_begins J K a s x y z (text_literal text) = refl
term_begins J K a s x y z (number_literal m h) = refl
term_begins J K a s x y z (negative_literal m h) = refl
term_begins J K a s x y z (constant null_word) = refl
term_begins J K a s x y z (constant nolist_word) = refl
term_begins J K a s x y z (constant yes_word) = refl
term_begins J K a s x y z (constant no_word) = refl
term_begins J K a s x y z (operation la lo lb) = refl

formula_begins : (J K : Read (JudgementOf Named)) (p : Named) (s y z : List Lexeme)
    → SpellsFormula p s
    → when (codes "pre") J K ((s ++ y) ++ z) ≡ K ((s ++ y) ++ z)
formula_begins J K p s y z (f.a_word f.true_word) = refl
formula_begins J K p s y z (f.a_word f.false_word) = refl
formula_begins J K p s y z (f.a_word f.empty_forest) = refl
formula_begins J K p s y z (f.a_word f.empty_grove) = refl
formula_begins J K p s y z (f.a_word f.tree_hole) = refl
formula_begins J K p s y z (f.a_word f.forest_hole) = refl
formula_begins J K p s y z (f.a_word f.grove_hole) = refl
formula_begins J K p s y z (f.shape_variable (a_logic_name name)) = refl
formula_begins J K p s y z (f.comparison la lo lb) = term_begins J K _ _ _ y z la
formula_begins J K p s y z (f.node la lb lp lc) = term_begins J K _ _ _ y z la
formula_begins J K p s y z (f.length la) = refl
formula_begins J K p s y z (f.a_tree lp) = refl
formula_begins J K p s y z (f.a_root lp) = refl
formula_begins J K p s y z (f.not lp) = refl
formula_begins J K p s y z (f.quantified lq ls lp) = refl
formula_begins J K p s y z (f.is ls lp) = refl
formula_begins J K p s y z (f.joined lp lo lq) = refl

judgement_read : (depth most : ℕ) (j : JudgementOf Named) (s rest : List Lexeme)
    → SpellsJudgement j s → OrDeep (judgement_at depth most (s ++ rest)) j rest
unfolding judgement_at triple_at entailment_at
judgement_read depth most j s rest (entailment lp lq lo) =
    subst (λ z. OrDeep z j rest) (sym (formula_begins (triple_at depth most)
    (entailment_at depth) _ _ _ rest lp))
    (o_then _ _ rest (formula_only depth) lp refl (o_then _ _ rest (formula_only depth) lq refl
    (o_last _ rest shape_sort_only lo refl read)))
judgement_read depth most j s rest (a_triple lp lc lq ld) =
    o_then _ _ rest (formula_only depth) lp refl (o_then _ _ rest (command_only most depth) lc refl
    (o_then _ _ rest (formula_only depth) lq refl (o_last _ rest data_sort_only ld refl read)))

judgement_only : (depth most : ℕ) → Only (judgement_at depth most) SpellsJudgement Prefix_free
judgement_only depth most = record { only = λ a s rest l st. judgement_read depth most a s rest l }

-- steps
leaf_step_is : (t : Lexeme) (line : ℕ) → leaf_step t ≡ Some line → step_word line ≡ t
leaf_step_is (step_word l) line e = let h : l ≡ line = cc in ap step_word (sym h)
leaf_step_is _ line e = absurd cc

module _ (depth most : ℕ) where
  step_sound : (n : ℕ) → depth ≤ most → n ≤ depth → n ≤ most → (line : ℕ)
      → Sound n (step_tail depth most line) (After (step_word line) SpellsStep)
  unfolding step_tail
  step_sound n h k m line =
      s_then _ (number_sound n) λ i s li. s_then _ (reason_sound depth most n k m) λ r t lr.
      s_expect (codes ":") refl _ (s_then _ (judgement_sound depth most n h k) λ j u lj.
      s_close n (codes ";") refl _ _ (a_step line li lr lj))

  step_read : (line : ℕ) (a : StepOf Named) (s rest : List Lexeme)
      → SpellsStep a (step_word line ∷ s) → OrDeep (step_tail depth most line (s ++ rest)) a rest
  unfolding step_tail
  step_read line a s rest (a_step l li lr lj) =
      o_then _ _ rest number_only li refl (o_then _ _ rest (reason_only depth most) lr refl
      (o_then _ _ rest (judgement_only depth most) lj refl read))

  pub steps_sound : (n : ℕ) → depth ≤ most → n ≤ depth → n ≤ most
      → Sound n (many leaf_step (step_tail depth most) most) (SpellsMany leaf_step SpellsStep)
  steps_sound n h k m =
      s_many leaf_step (step_tail depth most) SpellsStep most n m
      (λ t line e. subst (λ z. Sound n (step_tail depth most line) (After z SpellsStep))
      (leaf_step_is t line e) (step_sound n h k m line))

  pub steps_only : Only (many leaf_step (step_tail depth most) most)
      (SpellsMany leaf_step SpellsStep) (not_begun leaf_step)
  steps_only =
      many_only leaf_step (step_tail depth most) SpellsStep
      (λ t line e. subst (λ z. Only (step_tail depth most line) (After z SpellsStep) Prefix_free)
      (leaf_step_is t line e)
      (record { only = λ a s rest l st. step_read line a s rest l })) most

-- steps as a list of items, and as the grammar has them
pub steps_of : {xs : List (StepOf Named)} {s : List Lexeme} → SpellsMany leaf_step SpellsStep xs s
    → SpellsSteps xs s
steps_of none_left = no_step
steps_of (one_more t line e l ls) = one_step l (steps_of ls)

begun_by : {x : StepOf Named} {xs : List (StepOf Named)} {s u : List Lexeme} → SpellsStep x s
    → SpellsMany leaf_step SpellsStep xs u → SpellsMany leaf_step SpellsStep (x ∷ xs) (s ++ u)
begun_by (a_step line li lr lj) ls = one_more (step_word line) line refl (a_step line li lr lj) ls

pub steps_as_items : {xs : List (StepOf Named)} {s : List Lexeme} → SpellsSteps xs s
    → SpellsMany leaf_step SpellsStep xs s
steps_as_items no_step = none_left
steps_as_items (one_step l ls) = begun_by l (steps_as_items ls)
