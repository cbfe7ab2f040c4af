-- A step that is well formed in a file that can be written, and whose integers have literals, can
-- be written there; and its words are those of the version.
use Rattle.std.proofs.Common.{◌≡◌, ℕ, true, ◌&&◌, List, [], ◌∷◌, ◌++◌, map, None, is_some, refl}
use Rattle.std.specs.List.{list_all, flat_map}
use Rattle.model_shapes.specs.Sorts.{shape}
use Rattle.model_shapes.proofs.Truth.{both_true}
use Rattle.model_terms.specs.Terms.{Term}
use Rattle.model_terms.specs.Stores.{as_var}
use Rattle.model_formulas.specs.Formulas.{Named}
use Rattle.model_formulas.specs.WellSorted.{flags}
use Rattle.model_commands.specs.Commands.{Command}
use Rattle.model_commands.specs.CommandParts.{commands_in, targets, terms_of, own_variables, variables_of, variables_of_term, variables_of_command, variables_of_judgement, commands_of_judgement, arguments_of}
use Rattle.model_commands.specs.Each.{Each}
use Rattle.model_commands.specs.SortTests.{parts_fit, callee_known}
use Rattle.model_commands.specs.Theories.{JudgementOf, entails, triple, Reason, auto, by_rule, StepOf, ProcedureOf, Procedures, Theory, procedures_of, procedure_named}
use Rattle.model_files.specs.FileFaults.{version_kind, unknown_kind, sort_kind, rule_kind, is_of_version, is_known, is_as_declared, is_argument, scope_of, judgement_sorted, is_judged_at, rule_known, proof_step, step_kind}
use Rattle.model_files.proofs.Places.{passes-each}
use Rattle.model_grammar.specs.Terms.{in_formula}
use Rattle.model_grammar.specs.Writing.{in_brackets}
use Rattle.model_grammar.specs.TheoryWriting.{word_lexemes, judgement_lexemes, number_lexemes, argument_lexemes, reason_lexemes, step_line}
use Rattle.model_grammar.specs.Writable.{IsWritableTerm}
use Rattle.model_round_trip.specs.Writable.{IsWord, IsWritableJudgement, IsWritableReason, IsWritableStep}
use Rattle.model_text.specs.Versions.{IsOfVersion}
use Rattle.model_filling.specs.Renumbering.{FilledGap, raised, raised_reason, renumbered}
use Rattle.model_filling.specs.Sizes.{integers_fit, formula_integers_fit, judgement_integers_fit, step_integers_fit}
use Rattle.filled_theory_laws.proofs.Declared.{each-both, each-parts, all-fit, FitsName, Fits}
use Rattle.filled_theory_laws.proofs.WritableFormulas.{IsFitTerm, one_sort-stand, term-writable, formula-writable, judged-form, form-shape}
use Rattle.filled_theory_laws.proofs.WritableCommands.{IsFitAlone, command-writable}
use Rattle.filled_theory_laws.proofs.Words.{AreWords, formula-words, command-words, arguments-words, reason-words, entails-words, triple-words}
use Rattle.filled_theory_laws.proofs.RuleWords.{rule-is-word}
use Rattle.filled_theory_laws.proofs.Flags.{all-flags}

module _ (version : ℕ) where
  terms-fit : (es : List Term) → Each (Fits version) (flat_map variables_of_term es)
      → list_all integers_fit es ≡ true → Each (IsFitTerm version) es
  terms-fit [] h e = tt
  terms-fit (a ∷ es) h e =
      let x = each-parts (Fits version) (variables_of_term a) (flat_map variables_of_term es) h in
      let y = both_true (integers_fit a) (list_all integers_fit es) e in
      (record { variables = x.0; integers = y.0 }, terms-fit es x.1 y.1)

  commands-fit : (procedures : Procedures) (cs : List Command)
      → Each (Fits version) (flat_map own_variables cs)
      → list_all (is_of_version version) cs ≡ true → list_all (callee_known procedures) cs ≡ true
      → list_all (parts_fit procedures) cs ≡ true
      → list_all (λ command. list_all integers_fit (terms_of command)) cs ≡ true
      → Each (IsFitAlone version procedures) cs
  commands-fit procedures [] h v k p i = tt
  commands-fit procedures (c ∷ cs) h v k p i =
      let x = each-parts (Fits version) (own_variables c) (flat_map own_variables cs) h in
      let y = each-parts (Fits version) (map as_var (targets c))
      (flat_map variables_of_term (terms_of c)) x.0 in
      let v' = both_true (is_of_version version c) _ v in
      let k' = both_true (callee_known procedures c) _ k in
      let p' = both_true (parts_fit procedures c) _ p in
      let i' = both_true (list_all integers_fit (terms_of c)) _ i in (
        record {
          targets = y.0;
          terms = terms-fit (terms_of c) y.1 i'.0;
          parts = p'.0;
          callee = k'.0;
          of_version = v'.0;
        },
        commands-fit procedures cs x.1 v'.1 k'.1 p'.1 i'.1,
      )

  arguments-writable : (es : List Term) → list_all is_argument es ≡ true
      → Each (IsFitTerm version) es → Each (IsWritableTerm in_formula) es
  arguments-writable [] e h = tt
  arguments-writable (a ∷ es) e h =
      let x = both_true (is_argument a) (list_all is_argument es) e in
      (term-writable version a (one_sort-stand a a x.0).0 h.0, arguments-writable es x.1 h.1)

  fit-variables : (es : List Term) → Each (IsFitTerm version) es
      → Each (λ a. Each (Fits version) (variables_of_term a)) es
  fit-variables [] h = tt
  fit-variables (a ∷ es) h = (h.0.variables, fit-variables es h.1)

  -- the reason can be written, but for what it cites
  abbrev pub IsWritableBy : Reason → Type 0
  IsWritableBy auto = Unit
  IsWritableBy (by_rule name citations arguments) =
      IsWord name × Each (IsWritableTerm in_formula) arguments

  -- the step can be written, but for its number and what it cites
  pub record IsWritableBut (step : StepOf Named) : Type 0 where
    pub reason : IsWritableBy step.reason
    pub judgement : IsWritableJudgement step.judgement
    pub words : AreWords version (step_line version step)

  -- A WRITTEN STEP, renumbered
  abbrev pub IsReadableStep : StepOf Named → Type 0
  IsReadableStep step = IsWritableStep step × AreWords version (step_line version step)

  reason-kept : (gaps : List FilledGap) (reason : Reason) → IsWritableReason reason
      → IsWritableBy (raised_reason gaps reason)
  reason-kept gaps auto h = tt
  reason-kept gaps (by_rule name citations arguments) h = (h.0, h.2)

  reason-words-kept : (gaps : List FilledGap) (reason : Reason)
      → AreWords version (reason_lexemes version reason)
      → AreWords version (reason_lexemes version (raised_reason gaps reason))
  reason-words-kept gaps auto h = h
  reason-words-kept gaps (by_rule name citations arguments) h =
      let rule = each-parts (IsOfVersion version) (word_lexemes version name) _ h.1 in
      let cited = each-parts (IsOfVersion version) (in_brackets (map number_lexemes citations))
      (argument_lexemes arguments) rule.1 in
      reason-words version name (map (raised gaps) citations) arguments cited.1

  pub step-kept : (gaps : List FilledGap) (step : StepOf Named) → IsReadableStep step
      → IsWritableBut (renumbered gaps step)
  step-kept gaps step h =
      let x = each-parts (IsOfVersion version) (reason_lexemes version step.reason) _ h.1.1.1 in
      record {
        reason = reason-kept gaps step.reason h.0.reason;
        judgement = h.0.judgement;
        words = (
          tt,
          (
            tt,
            each-both (IsOfVersion version)
                (reason_lexemes version (raised_reason gaps step.reason)) _
                (reason-words-kept gaps step.reason x.0) x.1,
          ),
        );
      }

-- A WELL-FORMED STEP
module _ (theory : Theory) (f : ProcedureOf Named)
    (scope : Each (Fits theory.version) (scope_of theory f))
    (named-here : (name : List ℕ) → is_some (procedure_named name (procedures_of theory)) ≡ true
    → FitsName theory.version name) where
  -- what the judgement needs of the tests
  record IsFitJudgement (j : JudgementOf Named) : Type 0 where
    sorted : judgement_sorted j ≡ true
    variables : Each (Fits theory.version) (variables_of_judgement j)
    versions : list_all (is_of_version theory.version) (commands_of_judgement j) ≡ true
    callees : list_all (callee_known (procedures_of theory)) (commands_of_judgement j) ≡ true
    parts : list_all (parts_fit (procedures_of theory)) (commands_of_judgement j) ≡ true
    integers : judgement_integers_fit j ≡ true

  judgement-writable : (j : JudgementOf Named) → IsFitJudgement j
      → IsWritableJudgement j × AreWords theory.version (judgement_lexemes j)
  judgement-writable (entails p q s) h =
      let sorts = both_true (is_judged_at s p) (is_judged_at s q) h.sorted in
      let first = all-flags (flags p s) 0 sorts.0 in
      let vars = each-parts (Fits theory.version) (variables_of p) (variables_of q) h.variables in
      let ints = both_true (formula_integers_fit p) (formula_integers_fit q) h.integers in (
        (
          formula-writable theory.version p s
              (record { sorted = first; variables = vars.0; integers = ints.0 }),
          formula-writable theory.version q s
              (record {
                sorted = all-flags (flags q s) 0 sorts.1;
                variables = vars.1;
                integers = ints.1;
              }),
          form-shape s (judged-form p s first),
        ),
        entails-words theory.version p q s (formula-words theory.version p vars.0)
            (formula-words theory.version q vars.1),
      )
  judgement-writable (triple p c q k) h =
      let sorts = both_true (is_judged_at (shape k) p) (is_judged_at (shape k) q) h.sorted in
      let vars = each-parts (Fits theory.version) (variables_of p) _ h.variables in
      let more = each-parts (Fits theory.version) (variables_of q) (variables_of_command c) vars.1
      in
      let ints = both_true (formula_integers_fit p && formula_integers_fit q) _ h.integers in
      let both = both_true (formula_integers_fit p) (formula_integers_fit q) ints.0 in
      let fits = commands-fit theory.version (procedures_of theory) (commands_in c) more.1
      h.versions
      h.callees h.parts ints.1 in (
        (
          formula-writable theory.version p (shape k)
              (record {
                sorted = all-flags (flags p (shape k)) 0 sorts.0;
                variables = vars.0;
                integers = both.0;
              }),
          command-writable theory.version (procedures_of theory) named-here c fits,
          formula-writable theory.version q (shape k)
              (record {
                sorted = all-flags (flags q (shape k)) 0 sorts.1;
                variables = more.0;
                integers = both.1;
              }),
        ),
        triple-words theory.version p c q k (formula-words theory.version p vars.0)
            (command-words theory.version (procedures_of theory) named-here c fits)
            (formula-words theory.version q more.0),
      )

  reason-writable : (reason : Reason) → rule_known theory.version reason ≡ true
      → list_all is_argument (arguments_of reason) ≡ true
      → Each (IsFitTerm theory.version) (arguments_of reason)
      → IsWritableBy theory.version reason
      × AreWords theory.version (reason_lexemes theory.version reason)
  reason-writable auto e a h = (tt, (refl, tt))
  reason-writable (by_rule name citations arguments) e a h = (
    (rule-is-word theory.version name e, arguments-writable theory.version arguments a h),
    reason-words theory.version name citations arguments
        (arguments-words theory.version arguments (fit-variables theory.version arguments h)),
  )

  pub step-writable : (at : ℕ) (step : StepOf Named) → step_kind theory f at step ≡ None
      → step_integers_fit step ≡ true → IsWritableBut theory.version step
  step-writable at step e i =
      let passes = passes-each (proof_step theory f at step) e in
      let vars = variables_of_judgement step.judgement
      ++ flat_map variables_of_term (arguments_of step.reason) in
      let known = both_true (list_all (is_known (scope_of theory f)) vars) _ (passes unknown_kind)
      in
      let sorts = both_true _ _ (passes sort_kind) in
      let own = both_true (judgement_sorted step.judgement) _ sorts.0 in
      let parts = both_true (list_all (is_as_declared (scope_of theory f)) vars) _ sorts.1 in
      let fit = each-parts (Fits theory.version) (variables_of_judgement step.judgement)
      (flat_map variables_of_term (arguments_of step.reason))
      (all-fit theory.version (scope_of theory f) scope vars known.0) in
      let ints = both_true (judgement_integers_fit step.judgement) _ i in
      let judgement = judgement-writable step.judgement (record {
        sorted = own.0;
        variables = fit.0;
        versions = passes version_kind;
        callees = known.1;
        parts = parts.1;
        integers = ints.0;
      }) in
      let reason = reason-writable step.reason (passes rule_kind) own.1
      (terms-fit theory.version (arguments_of step.reason) fit.1 ints.1) in
      record {
        reason = reason.0;
        judgement = judgement.0;
        words = (
          tt,
          (
            tt,
            each-both (IsOfVersion theory.version)
                (reason_lexemes theory.version step.reason) _ reason.1 (
                  refl,
                  each-both (IsOfVersion theory.version) (judgement_lexemes step.judgement) _
                      judgement.1 (refl, tt),
                ),
          ),
        );
      }
