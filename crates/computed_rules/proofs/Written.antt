-- What is written at a step of the program: its terms stand there as they are.
use Rattle.std.proofs.Common.{◌≡◌, ◌∙◌, refl, sym, subst, arith, ◌<◌, List, [], ◌∷◌, length, map, Result, IfOk}
use Rattle.model_formulas.specs.Nameless.{nameless}
use Rattle.model_commands.specs.Theories.{entails}
use Rattle.rule_table.specs.Verdicts.{Verdict}
use Rattle.dom_terms.specs.Sorts.{sort_of}
use Rattle.dom_terms.specs.Terms.{term_of}
use Rattle.dom_terms.specs.declared.terms.Term as terms
use Rattle.dom_terms.specs.declared.verdicts.Verdict as program
use Rattle.formula_syntax.specs.Formulas.{formula_of}
use Rattle.formula_syntax.specs.declared.entailments.Entailment.{Entailment}
use Rattle.formula_syntax.specs.declared.formulas.Formula.TheVariants as f
use Rattle.formula_syntax.proofs.Replacing.{term-plain}
use Rattle.computed_rules.specs.Steps.{judged}
use Rattle.computed_rules.specs.Texts.{by_texts, concat_verdict}
use Rattle.row_patterns.specs.Verdicts.{verdict_in}

-- no arguments
pub none-mapped : {A B : Type 0} (g : A → B) (xs : List A) → length xs < 1 → map g xs ≡ []
none-mapped g [] h = refl
none-mapped g (x ∷ xs) h = absurd (omega arith)

-- the verdict where two terms are said to be equal
pub texts-written : (ts : List terms.Term) (conclusion : Entailment) (a b : terms.Term)
    → length ts < 1 → conclusion.right ≡ f.Eq a b
    → by_texts (term_of a) (term_of b) ≡ concat_verdict (map term_of ts) (judged conclusion)
texts-written ts conclusion a b e h =
    sym ((λ i. concat_verdict (none-mapped term_of ts e i)
    (entails (nameless (formula_of conclusion.left)) (nameless (formula_of (h i)))
    (sort_of conclusion.sort)))
    ∙ (λ i. by_texts (term-plain (term_of a) i) (term-plain (term_of b) i)))

-- another spelling of a verdict that is computed
pub respelled : {E : Type 0} (r : Result program.Verdict E) (v w : Verdict) → v ≡ w
    → IfOk r (λ verdict. verdict_in verdict ≡ v) → IfOk r (λ verdict. verdict_in verdict ≡ w)
respelled r v w e h = subst (λ u. IfOk r (λ verdict. verdict_in verdict ≡ u)) e h
