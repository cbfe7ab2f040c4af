-- The walk over the formulas of a triple is exact: as over an entailment whose arguments are the
-- terms of the command.
use Rattle.std.proofs.Common.{◌≡◌, refl, ap, ◌∙◌, subst, Bool, true, false, cond, is_some, [], Option, Some, None}
use Rattle.model_shapes.specs.Sorts.{DataSort, shape}
use Rattle.model_formulas.specs.Formulas.{Formula}
use Rattle.model_commands.specs.Commands.{Command}
use Rattle.model_commands.specs.Theories.{entails}
use Rattle.rule_table.specs.Letters.{Letters, LogicVar}
use Rattle.rule_table.specs.Verdicts.{Written, Verdict, instance_verdict, shape_verdict}
use Rattle.rule_patterns.specs.Patterns.{LinePattern, line_of, terms_of, formula_of, data_of}
use Rattle.letter_bindings.specs.Bodies.{BindsSorted}
use Rattle.letter_bindings.specs.Known.{Known}
use Rattle.letter_bindings.specs.Lines.{row_verdict, verdict_concluded, verdict_settled}
use Rattle.letter_bindings.specs.Matching.{then, match_judgement}
use Rattle.letter_bindings.specs.Settled.{settle}
use Rattle.letter_bindings.proofs.RowTests.{row_ready}
use Rattle.letter_bindings.proofs.RowVerdicts.{RowIs, row-verdict-is}
use Rattle.small_axioms.specs.Commands.{letters_of, terms_in, known_of}
use Rattle.small_axioms.specs.Lines.{as_entailment}
use Rattle.small_axioms.specs.Patterns.{AxiomPattern}
use Rattle.small_axioms.specs.Tests.{is_kind, walked, settles, walks}
use Rattle.small_axioms.proofs.Commands.{terms-known}

-- a choice makes the pattern these formulas, with these terms
pub record Makes (a : AxiomPattern) (l : Letters) (c : Command) (p q : Formula) (d : DataSort)
    : Type 0 where
  pub terms : terms_of l (letters_of a.kind) ≡ terms_in c
  pub pre : formula_of l a.pre ≡ p
  pub post : formula_of l a.post ≡ q
  pub sort : data_of l a.sort ≡ d

module _ (a : AxiomPattern) (ready : row_ready (as_entailment a) ≡ true) (c : Command)
    (p q : Formula) (d : DataSort) (sorted : BindsSorted p × BindsSorted q)
    (kind : is_kind a.kind c ≡ true) where
  abbrev line : LinePattern
  line = as_entailment a

  abbrev w : Written
  w = record {
    arguments = terms_in c;
    premises = Some [];
    conclusion = entails p q (shape d);
  }

  abbrev verdict_if : Bool → Verdict
  verdict_if b = cond b instance_verdict shape_verdict

  by-settled : (k : Known) (o : Option (Option LogicVar))
      → cond (is_some o) (verdict_settled line k o) shape_verdict ≡ verdict_if (is_some o)
  by-settled k None = refl
  by-settled k (Some x) = refl

  by-walk : (o : Option Known) → verdict_concluded line w o ≡ verdict_if (settles o)
  by-walk None = refl
  by-walk (Some k) = by-settled k (settle k)

  verdict-is : row_verdict line w ≡ verdict_if (walks a (known_of c) p q d)
  verdict-is =
      ap (λ o. verdict_concluded line w (then o (match_judgement line.conclusion w.conclusion)))
      (terms-known a.kind c kind)
      ∙ by-walk (walked a (known_of c) p q d)

  verdict : RowIs (λ l. line_of l line) w (verdict_if (walks a (known_of c) p q d))
  verdict = subst (RowIs (λ l. line_of l line) w) verdict-is (row-verdict-is line ready w sorted)

  -- what is walked over well some choice makes
  pub walked-some : walks a (known_of c) p q d ≡ true → (l : Letters) × Makes a l c p q d
  walked-some e =
      let m : RowIs (λ l. line_of l line) w instance_verdict =
      subst (λ b. RowIs (λ l. line_of l line) w (verdict_if b)) e verdict in
      let h = m.1.0.0.2 in
      (m.0, record { terms = m.1.0.0.0; pre = cc; post = cc; sort = cc })

  -- and the other way round
  pub walked-all : (l : Letters) → Makes a l c p q d → walks a (known_of c) p q d ≡ true
  walked-all l m = by_test (walks a (known_of c) p q d) verdict
    where
      by_test : (b : Bool) → RowIs (λ l. line_of l line) w (verdict_if b) → b ≡ true
      by_test true v = refl
      by_test false v =
          absurd (v l (m.terms, tt, (λ i. entails (m.pre i) (m.post i) (shape (m.sort i)))))
