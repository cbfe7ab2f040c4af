-- The verdict of the rule for calls.
use Rattle.std.proofs.Common.{◌≡◌, refl, sym, ap, ◌∙◌, subst, Bool, true, false, ◌&&◌, cond, List, [], ◌∷◌, map, Option, Some, None, bytes_eq}
use Rattle.std.proofs.lemmas.Bool.{and_parts, and_from}
use Rattle.model_shapes.specs.Sorts.{DataSort}
use Rattle.model_shapes.specs.Values.{Name}
use Rattle.model_shapes.specs.Tests.{same_data_sort}
use Rattle.model_shapes.proofs.Tests.{same_data_sort-is, same_data_sort-refl, bytes-is}
use Rattle.model_terms.specs.Terms.{Term}
use Rattle.model_terms.specs.Stores.{ProgVar}
use Rattle.model_formulas.proofs.SameFormulas.{same_formula-is}
use Rattle.model_formulas.specs.SameFormulas.{same_formula}
use Rattle.model_formulas.specs.Substitution.{formula_with}
use Rattle.model_formulas.specs.Formulas.{Formula}
use Rattle.model_commands.specs.Commands.{Command, call}
use Rattle.model_commands.specs.Theories.{Judgement, Procedure, Procedures, procedure_named}
use Rattle.rule_table.specs.Letters.{Letters}
use Rattle.rule_table.specs.Entries.{Row}
use Rattle.rule_table.specs.Notation.{prog_term}
use Rattle.rule_table.specs.Rules.{call_rule, passing, itself}
use Rattle.rule_table.specs.Verdicts.{Written, Concludes, Verdict, instance_verdict, premises_verdict, IsVerdict}
use Rattle.rule_table.proofs.SomeLetters.{plain_letters}
use Rattle.triple_rules.specs.Tests.{no_items, cites}
use Rattle.triple_rules.specs.CallTests.{call_of, call_test}
use Rattle.triple_rules.proofs.Stages.{by_shape, by_citations, founded, misshapen}
use Rattle.triple_rules.proofs.SimpleVerdicts.{step_of, no-items, items-none, parts-of, formula-same}

-- the procedure of a name has it
named : (name : Name) (procedures : Procedures) (f : Procedure)
    → procedure_named name procedures ≡ Some f → name ≡ f.name
named name [] f e = absurd cc
named name (g ∷ procedures) f e =
    by_name (bytes_eq name g.name) refl e (named name procedures f)
  where
    by_name : (b : Bool) → bytes_eq name g.name ≡ b
        → cond b (Some g) (procedure_named name procedures) ≡ Some f
        → (procedure_named name procedures ≡ Some f → name ≡ f.name) → name ≡ f.name
    by_name true h e later =
        let same : g ≡ f = cc in bytes-is name g.name h ∙ ap (λ (z : Procedure). z.name) same
    by_name false h e later = later e

module _ (arguments : List Term) (premises : Option (List Judgement)) (p q : Formula)
    (k : DataSort) where
  -- where there are to be no citations
  abbrev alone_verdict : Verdict
  alone_verdict = cond (cites premises []) instance_verdict premises_verdict

  module _ (procedures : Procedures) where
    abbrev calls : Row
    calls letters = call_rule letters procedures

    module _ (rs : List ProgVar) (name : Name) (es : List Term) where
      abbrev called : Written
      called = step_of arguments premises p (call rs name es) q k

      module _ (f : Procedure) (means : procedure_named name procedures ≡ Some f) where
        abbrev before : Formula
        before = formula_with (passing f.params es itself) f.pre

        abbrev behind : Formula
        behind =
            formula_with (passing f.params es (passing f.results (map prog_term rs) itself)) f.post

        abbrev meets : Bool
        meets =
            no_items arguments
            && (same_formula before p && (same_formula behind q && same_data_sort f.sort k))

        abbrev calling : Letters
        calling = record plain_letters { f = f; rs = rs; es = es }

        call-found : meets ≡ true → IsVerdict (calls ∷ []) called alone_verdict
        call-found t =
            let h = and_parts (no_items arguments) _ t in
            let i = and_parts (same_formula before p) _ h.1 in
            let j = and_parts (same_formula behind q) (same_data_sort f.sort k) i.1 in
            let pre : before ≡ p = same_formula-is before p i.0 in
            let post : behind ≡ q = same_formula-is behind q j.0 in
            let sort : f.sort ≡ k = same_data_sort-is f.sort k j.1 in
            let same : name ≡ f.name = named name procedures f means in
            by_citations calls called instance_verdict calling (
              no-items arguments h.0,
              (subst (λ z. procedure_named z procedures ≡ Some f) same means, tt),
              cc,
            ) (λ m a. refl) (λ g. founded calls called calling (g, tt))

        call-tests : (m : Letters) → Concludes called (calls m) → meets ≡ true
        call-tests m h =
            let same = parts-of h.2 in
            let results : m.rs ≡ rs = let g = same.command in cc in
            let word : m.f.name ≡ name = let g = same.command in cc in
            let terms : m.es ≡ es = let g = same.command in cc in
            let there : procedure_named m.f.name procedures ≡ Some m.f = h.1.0 in
            let found : Some m.f ≡ Some f =
            sym there ∙ ap (λ z. procedure_named z procedures) word ∙ means in
            let procedure : m.f ≡ f = cc in
            and_from (no_items arguments) _ (items-none arguments h.0)
            (and_from (same_formula before p) _
            (formula-same before p (sym (rw (procedure, terms) refl) ∙ same.pre))
            (and_from (same_formula behind q) _
            (formula-same behind q (sym (rw (procedure, terms, results) refl) ∙ same.post))
            (subst (λ z. same_data_sort f.sort z ≡ true)
            (ap (λ (z : Procedure). z.sort) (sym procedure) ∙ same.sort)
            (same_data_sort-refl f.sort))))

        call-met : IsVerdict (calls ∷ []) called
            (call_of arguments (cites premises) (Some f) rs es p q k)
        call-met = by_shape calls called meets alone_verdict call-found call-tests

      by-meaning : (o : Option Procedure) → procedure_named name procedures ≡ o
          → IsVerdict (calls ∷ []) called (call_of arguments (cites premises) o rs es p q k)
      by-meaning (Some f) means = call-met f means
      by-meaning None means =
          misshapen calls called
          (λ m h. let same = parts-of h.2 in
          let word : m.f.name ≡ name = let g = same.command in cc in
          let there : procedure_named m.f.name procedures ≡ Some m.f = h.1.0 in
          let found : Some m.f ≡ None =
          sym there ∙ ap (λ z. procedure_named z procedures) word ∙ means in
          absurd cc)

    pub call-exact : (c : Command) → IsVerdict (calls ∷ []) (step_of arguments premises p c q k)
        (call_test arguments (cites premises) procedures p c q k)
    call-exact (call rs name es) = by-meaning rs name es (procedure_named name procedures) refl
    call-exact c =
        misshapen calls (step_of arguments premises p c q k)
        (λ m h. let e : call m.rs m.f.name m.es ≡ c = (parts-of h.2).command in absurd cc)
