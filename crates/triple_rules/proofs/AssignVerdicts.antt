-- The verdict of the rule for assignments.
use Rattle.std.proofs.Common.{◌≡◌, refl, sym, ap, ◌∙◌, subst, Bool, true, ◌&&◌, cond, List, [], ◌∷◌, Option}
use Rattle.std.proofs.lemmas.Bool.{and_parts, and_from}
use Rattle.model_shapes.specs.Sorts.{DataSort}
use Rattle.model_terms.specs.Terms.{Term}
use Rattle.model_terms.specs.TermSorts.{evaluates}
use Rattle.model_terms.specs.Stores.{ProgVar, as_var, sort_of}
use Rattle.model_formulas.proofs.SameFormulas.{same_formula-is}
use Rattle.model_formulas.specs.SameFormulas.{same_formula}
use Rattle.model_formulas.specs.Substitution.{formula_with, replacing}
use Rattle.model_formulas.specs.Formulas.{Formula}
use Rattle.model_commands.specs.Commands.{Command, assign}
use Rattle.model_commands.specs.Theories.{Judgement, triple}
use Rattle.rule_table.specs.Letters.{Letters}
use Rattle.rule_table.specs.Rules.{assign_rule}
use Rattle.rule_table.specs.Verdicts.{Written, Concludes, Verdict, instance_verdict, premises_verdict, IsVerdict}
use Rattle.rule_table.proofs.SomeLetters.{plain_letters}
use Rattle.triple_rules.specs.Tests.{no_items, cites, assign_test}
use Rattle.triple_rules.proofs.Stages.{by_shape, by_citations, founded, misshapen}
use Rattle.triple_rules.proofs.SimpleVerdicts.{step_of, no-items, items-none, parts-of, formula-same}

module _ (arguments : List Term) (premises : Option (List Judgement)) (p q : Formula)
    (k : DataSort) where
  -- the verdict where there are to be no citations
  abbrev alone_verdict : Verdict
  alone_verdict = cond (cites premises []) instance_verdict premises_verdict

  module _ (v : ProgVar) (e : Term) where
    abbrev assigning : Letters
    assigning = record plain_letters { Q = q; E = e; v = v; k = k }

    abbrev assigned : Written
    assigned = step_of arguments premises p (assign v e) q k

    abbrev put : Formula
    put = formula_with (replacing (as_var v) e) q

    abbrev fits : Bool
    fits = no_items arguments && (evaluates (sort_of v) e && same_formula put p)

    assign-found : fits ≡ true → IsVerdict (assign_rule ∷ []) assigned alone_verdict
    assign-found t =
        let h = and_parts (no_items arguments) _ t in
        let g = and_parts (evaluates (sort_of v) e) (same_formula put p) h.1 in
        by_citations assign_rule assigned instance_verdict assigning (
          no-items arguments h.0,
          (g.0, tt),
          ap (λ z. triple z (assign v e) q k) (same_formula-is put p g.1),
        ) (λ m a. refl) (λ f. founded assign_rule assigned assigning (f, tt))

    assign-tests : (m : Letters) → Concludes assigned (assign_rule m) → fits ≡ true
    assign-tests m h =
        let same = parts-of h.2 in
        let variable : m.v ≡ v = let g = same.command in cc in
        let term : m.E ≡ e = let g = same.command in cc in
        and_from (no_items arguments) _ (items-none arguments h.0)
        (and_from (evaluates (sort_of v) e) _
        (subst (λ z. evaluates (sort_of z) e ≡ true) variable
        (subst (λ z. evaluates (sort_of m.v) z ≡ true) term h.1.0))
        (formula-same put p (sym (rw (variable, term, same.post) refl) ∙ same.pre)))

    assign-set : IsVerdict (assign_rule ∷ []) assigned
        (assign_test arguments (cites premises) p (assign v e) q k)
    assign-set = by_shape assign_rule assigned fits alone_verdict assign-found assign-tests

  pub assign-exact : (c : Command) → IsVerdict (assign_rule ∷ [])
      (step_of arguments premises p c q k) (assign_test arguments (cites premises) p c q k)
  assign-exact (assign v e) = assign-set v e
  assign-exact c =
      misshapen assign_rule (step_of arguments premises p c q k)
      (λ m h. let e : assign m.v m.E ≡ c = (parts-of h.2).command in absurd cc)
