-- What is cited, number by number.
use Rattle.std.proofs.Common.{◌≡◌, ℕ, suc, length, map, refl, sym, ap, ◌∙◌, subst, Bool, true, false, ◌&&◌, List, [], ◌∷◌, Option, Some, None}
use mathlib.Core.Path.{fun_ext}
use Rattle.model_shapes.specs.Sorts.{DataSort}
use Rattle.model_formulas.specs.Formulas.{Formula}
use Rattle.model_commands.specs.Commands.{Command}
use Rattle.model_commands.specs.Theories.{Judgement, Step, entails, triple}
use Rattle.model_formulas.specs.Nameless.{nameless}
use Rattle.dom_terms.specs.Sorts.{data_sort_of}
use Rattle.dom_terms.specs.Terms.{term_of}
use Rattle.formula_syntax.specs.Formulas.{formula_of}
use Rattle.theory_syntax.specs.Commands.{command_of}
use Rattle.cited_steps.specs.Earlier.{steps_in}
use Rattle.rule_table.specs.Entries.{Row}
use Rattle.rule_table.specs.Verdicts.{Verdict, IsVerdict}
use Rattle.triple_rules.specs.declared.written.Written.{Written}
use Rattle.triple_rules.specs.Written.{written_in}
use Rattle.triple_rules.specs.Tested.{Test, tested}
use Rattle.rule_table.specs.Accepted.{judgement_numbered, in_front, cited}
use Rattle.triple_rules.specs.Tests.{same_judgement, cites, says, cites_by, weaken, weaken_by}

and-false : (x : Bool) → (x && false) ≡ false
and-false true = refl
and-false false = refl

and-true : (x : Bool) → (x && true) ≡ x
and-true true = refl
and-true false = refl

front-none : (j : Option Judgement) (o : Option (List Judgement)) → cites (in_front j o) [] ≡ false
front-none None o = refl
front-none (Some i) None = refl
front-none (Some i) (Some is) = refl

front : (j : Option Judgement) (o : Option (List Judgement)) (i : Judgement) (is : List Judgement)
    → (says j i && cites o is) ≡ cites (in_front j o) (i ∷ is)
front None o i is = refl
front (Some j) None i is = and-false (same_judgement j i)
front (Some j) (Some js) i is = refl

pub cites-by : (earlier : List Step) (ns : List ℕ) (js : List Judgement)
    → cites_by earlier ns js ≡ cites (cited earlier ns) js
cites-by earlier [] [] = refl
cites-by earlier [] (j ∷ js) = refl
cites-by earlier (n ∷ []) [] = sym (front-none (judgement_numbered n earlier) (Some []))
cites-by earlier (n ∷ m ∷ ns) [] =
    sym (front-none (judgement_numbered n earlier) (cited earlier (m ∷ ns)))
cites-by earlier (n ∷ []) (j ∷ []) =
    sym (and-true (says (judgement_numbered n earlier) j))
    ∙ front (judgement_numbered n earlier) (Some []) j []
cites-by earlier (n ∷ m ∷ ns) (j ∷ []) =
    sym (and-false (says (judgement_numbered n earlier) j))
    ∙ ap (λ z. says (judgement_numbered n earlier) j && z)
    (sym (front-none (judgement_numbered m earlier) (cited earlier ns)))
    ∙ front (judgement_numbered n earlier) (cited earlier (m ∷ ns)) j []
cites-by earlier (n ∷ []) (j ∷ i ∷ js) =
    sym (and-false (says (judgement_numbered n earlier) j))
    ∙ front (judgement_numbered n earlier) (Some []) j (i ∷ js)
cites-by earlier (n ∷ m ∷ ns) (j ∷ i ∷ js) =
    ap (λ z. says (judgement_numbered n earlier) j && z) (cites-by earlier (m ∷ ns) (i ∷ js))
    ∙ front (judgement_numbered n earlier) (cited earlier (m ∷ ns)) j (i ∷ js)

pub cites-as : (earlier : List Step) (ns : List ℕ)
    → cites_by earlier ns ≡ cites (cited earlier ns)
cites-as earlier ns = fun_ext (cites-by earlier ns)

-- THE PREMISES OF CONSEQUENCE
module _ (p : Formula) (c : Command) (q : Formula) (k : DataSort) where
  none-weakens : (a : Option Judgement) → weaken (in_front a (Some [])) p c q k ≡ false
  none-weakens None = refl
  none-weakens (Some (entails x y s)) = refl
  none-weakens (Some (triple x d y s)) = refl

  two-weaken : (a b : Option Judgement)
      → weaken (in_front a (in_front b (Some []))) p c q k ≡ false
  two-weaken None b = refl
  two-weaken (Some i) None = refl
  two-weaken (Some i) (Some (entails x y s)) = refl
  two-weaken (Some i) (Some (triple x d y s)) = refl

  many-weaken : (a b d e : Option Judgement) (o : Option (List Judgement))
      → weaken (in_front a (in_front b (in_front d (in_front e o)))) p c q k ≡ false
  many-weaken None b d e o = refl
  many-weaken (Some i) None d e o = refl
  many-weaken (Some i) (Some j) None e o = refl
  many-weaken (Some i) (Some j) (Some l) None o = refl
  many-weaken (Some i) (Some j) (Some l) (Some m) None = refl
  many-weaken (Some i) (Some (entails x y s)) (Some l) (Some m) (Some js) = refl
  many-weaken (Some i) (Some (triple x d y s)) (Some l) (Some m) (Some js) = refl

  pub weaken-by : (earlier : List Step) (ns : List ℕ)
      → weaken_by earlier ns p c q k ≡ weaken (cited earlier ns) p c q k
  weaken-by earlier [] = refl
  weaken-by earlier (a ∷ []) = sym (none-weakens (judgement_numbered a earlier))
  weaken-by earlier (a ∷ b ∷ []) =
      sym (two-weaken (judgement_numbered a earlier) (judgement_numbered b earlier))
  weaken-by earlier (a ∷ b ∷ d ∷ []) = refl
  weaken-by earlier (a ∷ b ∷ d ∷ e ∷ ns) =
      sym (many-weaken (judgement_numbered a earlier) (judgement_numbered b earlier)
      (judgement_numbered d earlier) (judgement_numbered e earlier) (cited earlier ns))

-- as many numbers as judgements
pub cites-apart : (earlier : List Step) (ns : List ℕ) (js : List Judgement)
    → (length ns ≡ length js → ⊥) → false ≡ cites_by earlier ns js
cites-apart earlier [] [] n = absurd (n refl)
cites-apart earlier [] (j ∷ js) n = refl
cites-apart earlier (a ∷ []) [] n = refl
cites-apart earlier (a ∷ b ∷ ns) [] n = refl
cites-apart earlier (a ∷ []) (j ∷ []) n = absurd (n refl)
cites-apart earlier (a ∷ []) (j ∷ i ∷ js) n = refl
cites-apart earlier (a ∷ b ∷ ns) (j ∷ []) n = refl
cites-apart earlier (a ∷ b ∷ ns) (j ∷ i ∷ js) n =
    sym (and-false (says (judgement_numbered a earlier) j))
    ∙ ap (λ z. says (judgement_numbered a earlier) j && z)
    (cites-apart earlier (b ∷ ns) (i ∷ js) (λ e. n (ap suc e)))

-- THE VERDICT ON WHAT IS WRITTEN
pub exact-as : (rows : List Row) (written : Written) (test : Test) (v : Verdict)
    → v ≡ tested test written
    → IsVerdict rows (written_in written) (test (map term_of written.arguments.now)
    (cites (cited (steps_in written.earlier.now) written.citations.now))
    (nameless (formula_of written.triple.now.pre)) (command_of written.triple.now.command)
    (nameless (formula_of written.triple.now.post)) (data_sort_of written.triple.now.sort))
    → IsVerdict rows (written_in written) v
exact-as rows written test v e h =
    subst (λ z. IsVerdict rows (written_in written) z)
    (sym (e ∙ ap (λ f. test (map term_of written.arguments.now) f
    (nameless (formula_of written.triple.now.pre)) (command_of written.triple.now.command)
    (nameless (formula_of written.triple.now.post)) (data_sort_of written.triple.now.sort))
    (cites-as (steps_in written.earlier.now) written.citations.now))) h
