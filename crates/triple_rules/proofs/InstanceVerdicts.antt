-- The verdict of the rule instance.
use Rattle.std.proofs.Common.{◌≡◌, refl, sym, ap, ◌∙◌, subst, ℕ, map, Bool, true, false, ◌&&◌, cond, List, [], ◌∷◌, Option, Some, None}
use Rattle.std.specs.Prelude.{◌↔◌, IsTrue}
use Rattle.std.proofs.lemmas.Bool.{and_parts, and_from}
use mathlib.Core.Path.{fun_ext}
use Rattle.model_shapes.specs.Sorts.{DataSort, Sort, value, shape, context, is_sort}
use Rattle.model_shapes.specs.Tests.{same_data_sort}
use Rattle.model_shapes.proofs.Truth.{false≢true}
use Rattle.model_shapes.proofs.Tests.{same_data_sort-is, same_data_sort-refl}
use Rattle.model_terms.specs.Variables.{Var}
use Rattle.model_terms.specs.VariableTests.{var_eq}
use Rattle.model_terms.specs.Terms.{Term, variable, sum, difference, appended, raised, Substitution}
use Rattle.model_formulas.proofs.SameFormulas.{same_formula-is}
use Rattle.model_formulas.specs.SameFormulas.{same_formula}
use Rattle.model_formulas.specs.Formulas.{Formula}
use Rattle.model_formulas.specs.Substitution.{formula_with, replacing}
use Rattle.model_formulas.specs.Deciding.{replacing_at}
use Rattle.model_formulas.specs.WellSorted.{variable_at}
use Rattle.model_commands.specs.Commands.{Command}
use Rattle.model_commands.specs.Theories.{Judgement, Step, entails, triple}
use Rattle.theory_syntax.specs.SameCommands.{same_command}
use Rattle.theory_syntax.proofs.SameCommands.{same_command-is, same_command-refl}
use Rattle.dom_terms.specs.Sorts.{sort_of}
use Rattle.dom_terms.specs.Terms.{term_of}
use Rattle.dom_terms.specs.declared.terms.Term as program
use Rattle.dom_terms.specs.declared.terms.Term.TheVariants as t
use Rattle.formula_syntax.specs.Substitution.{replaced_or, replacing_each}
use Rattle.rule_table.specs.Accepted.{judgement_numbered, in_front, cited}
use Rattle.rule_table.specs.Letters.{Letters, LogicVar, as_term, as_logic}
use Rattle.rule_table.specs.Rules.{instance_rule}
use Rattle.rule_table.specs.Conditions.{Holds, TermAt, unchanged_term, modified_side}
use Rattle.rule_table.specs.Verdicts.{Written, Concludes, Follows, Verdict, instance_verdict, premises_verdict, side_verdict, IsVerdict}
use Rattle.rule_table.proofs.SomeLetters.{plain_letters}
use Rattle.triple_rules.specs.InstanceTests.{is_at, gives, gives_by, instance_test}
use Rattle.triple_rules.specs.Covered.{covers}
use Rattle.triple_rules.proofs.Covering.{unput_formula, covers-put, put-unput}
use Rattle.triple_rules.proofs.Stages.{by_shape, by_premises, by_condition, misshapen}
use Rattle.triple_rules.proofs.SimpleVerdicts.{step_of, parts-of, formula-same}

at-is : (s : Sort) (t : Term) → is_at s t ≡ true → TermAt s t
at-is (value u) t e = e
at-is (shape k) t e = and_parts (variable_at (shape k) t) (is_sort (shape k)) e
at-is (context h k) t e = and_parts (variable_at (context h k) t) (is_sort (context h k)) e

is-at : (s : Sort) (t : Term) → TermAt s t → is_at s t ≡ true
is-at (value u) t e = e
is-at (shape k) t e = and_from (variable_at (shape k) t) (is_sort (shape k)) e.0 e.1
is-at (context h k) t e = and_from (variable_at (context h k) t) (is_sort (context h k)) e.0 e.1

-- the one premise, from which the triple comes
pub record Given (x : LogicVar) (e : Term) (premises : Option (List Judgement)) (p : Formula)
    (c : Command) (q : Formula) (k : DataSort) : Type 0 where
  pub before : Formula
  pub behind : Formula
  pub cited : Some (triple before c behind k ∷ []) ≡ premises
  pub pre : formula_with (replacing (as_logic x) e) before ≡ p
  pub post : formula_with (replacing (as_logic x) e) behind ≡ q

gives-is : (x : LogicVar) (e : Term) (premises : Option (List Judgement)) (p : Formula)
    (c : Command) (q : Formula) (k : DataSort)
    → gives premises p c q k (replacing (as_logic x) e) ≡ true
    → Given x e premises p c q k
gives-is x e (Some (triple p' c' q' k' ∷ [])) p c q k t =
    let f = replacing (as_logic x) e in
    let h = and_parts (same_formula (formula_with f p') p && same_formula (formula_with f q') q)
    (same_command c' c && same_data_sort k' k) t in
    let g = and_parts (same_formula (formula_with f p') p)
    (same_formula (formula_with f q') q) h.0 in
    let i = and_parts (same_command c' c) (same_data_sort k' k) h.1 in
    record {
      before = p';
      behind = q';
      cited = rw (same_command-is c' c i.0, same_data_sort-is k' k i.1) refl;
      pre = same_formula-is _ p g.0;
      post = same_formula-is _ q g.1;
    }
gives-is x e premises p c q k t = false≢true t

gives-from : (x : LogicVar) (e : Term) (premises : Option (List Judgement)) (p p' : Formula)
    (c : Command) (q q' : Formula) (k : DataSort) → Some (triple p' c q' k ∷ []) ≡ premises
    → formula_with (replacing (as_logic x) e) p' ≡ p
    → formula_with (replacing (as_logic x) e) q' ≡ q
    → gives premises p c q k (replacing (as_logic x) e) ≡ true
gives-from x e premises p p' c q q' k cited pre post =
    subst (λ o. gives o p c q k (replacing (as_logic x) e) ≡ true) cited
    (and_from _ _ (and_from _ _ (formula-same _ p pre) (formula-same _ q post))
    (and_from (same_command c c) (same_data_sort k k) (same_command-refl c)
    (same_data_sort-refl k)))

module _ (premises : Option (List Judgement)) (p : Formula) (c : Command) (q : Formula)
    (k : DataSort) (unchanged : Term → Bool) (x : LogicVar) (e : Term) (plain : raised e ≡ e)
    (tells : IsTrue (unchanged e) ↔ Holds (unchanged_term c e)) where
  abbrev putting : Formula → Formula → Letters
  putting before behind =
      record plain_letters { P = before; Q = behind; E = e; x = x; C = c; k = k }

  abbrev put_step : Written
  put_step = step_of (as_term x ∷ e ∷ []) premises p c q k

  abbrev fits : Bool
  fits = is_at x.sort (as_term x)
      && (is_at x.sort e && (covers (as_logic x) e p && covers (as_logic x) e q))

  -- the one premise becomes the triple
  abbrev given : Bool
  given = gives premises p c q k (replacing (as_logic x) e)

  abbrev last_verdict : Verdict
  last_verdict = cond (unchanged e) instance_verdict (side_verdict modified_side)

  -- the variable and the term of a choice are the written ones
  record SameChoice (m : Letters) : Type 0 where
    variable_is : m.x ≡ x
    term_is : m.E ≡ e
    command_is : m.C ≡ c
    sort_is : m.k ≡ k
    pre_is : formula_with (replacing (as_logic x) e) m.P ≡ p
    post_is : formula_with (replacing (as_logic x) e) m.Q ≡ q

  same-choice : (m : Letters) → Concludes put_step (instance_rule m) → SameChoice m
  same-choice m h =
      let same = parts-of h.2 in
      let name : m.x.name ≡ x.name = let g = h.0 in cc in
      let sort : m.x.sort ≡ x.sort = let g = h.0 in cc in
      let letter : m.x ≡ x = λ j. record { name = name j; sort = sort j } in
      let term : m.E ≡ e = let g = h.0 in cc in
      let moved : replacing (as_logic m.x) m.E ≡ replacing (as_logic x) e =
      λ j. replacing (as_logic (letter j)) (term j) in
      record {
        variable_is = letter;
        term_is = term;
        command_is = same.command;
        sort_is = same.sort;
        pre_is = sym (ap (λ f. formula_with f m.P) moved) ∙ same.pre;
        post_is = sym (ap (λ f. formula_with f m.Q) moved) ∙ same.post;
      }

  instance-fixed : (m : Letters) → Concludes put_step (instance_rule m)
      → (instance_rule m).conditions ≡ unchanged_term c e ∷ []
  instance-fixed m h = let s = same-choice m h in rw (s.command_is, s.term_is) refl

  instance-tests : (m : Letters) → Concludes put_step (instance_rule m) → fits ≡ true
  instance-tests m h =
      let s = same-choice m h in
      let first : TermAt x.sort (as_term x) =
      subst (λ (y : LogicVar). TermAt y.sort (as_term y)) s.variable_is h.1.0 in
      let second : TermAt x.sort e =
      subst (λ t. TermAt x.sort t) s.term_is
      (subst (λ (y : LogicVar). TermAt y.sort m.E) s.variable_is h.1.1.0) in
      and_from _ _ (is-at x.sort (as_term x) first)
      (and_from _ _ (is-at x.sort e second)
      (and_from _ _
      (subst (λ z. covers (as_logic x) e z ≡ true) s.pre_is (covers-put x e plain m.P))
      (subst (λ z. covers (as_logic x) e z ≡ true) s.post_is (covers-put x e plain m.Q))))

  instance-follows : (m : Letters) → Follows put_step (instance_rule m) → given ≡ true
  instance-follows m h =
      let s = same-choice m h.0 in
      let cited : Some (triple m.P c m.Q k ∷ []) ≡ premises =
      rw (sym s.command_is, sym s.sort_is) h.1 in
      gives-from x e premises p m.P c q m.Q k cited s.pre_is s.post_is

  instance-found : fits ≡ true → IsVerdict (instance_rule ∷ []) put_step
      (cond given last_verdict premises_verdict)
  instance-found t =
      let f = and_parts (is_at x.sort (as_term x)) _ t in
      let g = and_parts (is_at x.sort e) _ f.1 in
      let h = and_parts (covers (as_logic x) e p) (covers (as_logic x) e q) g.1 in
      let first = at-is x.sort (as_term x) f.0 in
      let second = at-is x.sort e g.0 in
      by_premises instance_rule put_step given last_verdict
      (putting (unput_formula x e plain p) (unput_formula x e plain q)) (
        refl,
        (first, (second, tt)),
        rw (put-unput x e plain p h.0, put-unput x e plain q h.1) refl,
      ) (λ u. let choice = gives-is x e premises p c q k u in
      by_condition instance_rule put_step (unchanged e) (unchanged_term c e)
      (putting choice.before choice.behind)
      ((refl, (first, (second, tt)), rw (choice.pre, choice.post) refl), choice.cited)
      instance-fixed tells.0 tells.1) instance-follows

  pub instance-put : IsVerdict (instance_rule ∷ []) put_step
      (instance_test (gives premises p c q k) unchanged (as_term x ∷ e ∷ []) p q)
  instance-put =
      by_shape instance_rule put_step fits (cond given last_verdict premises_verdict)
      instance-found instance-tests

-- terms of the program have no bound variables
raised-plain : (a : program.Term) → raised (term_of a) ≡ term_of a
raised-plain t.NullNode = refl
raised-plain t.NullList = refl
raised-plain (t.Int n) = refl
raised-plain (t.Str s) = refl
raised-plain (t.Bool b) = refl
raised-plain (t.Prog x) = refl
raised-plain (t.Logic x) = refl
raised-plain (t.Add' p a q b) = λ j. sum (raised-plain a j) (raised-plain b j)
raised-plain (t.Sub' p a q b) = λ j. difference (raised-plain a j) (raised-plain b j)
raised-plain (t.Cat' p a q b) = λ j. appended (raised-plain a j) (raised-plain b j)

module _ (premises : Option (List Judgement)) (p : Formula) (c : Command) (q : Formula)
    (k : DataSort) where
  -- with any arguments
  pub instance-exact : (unchanged : Term → Bool)
      → ((e : Term) → IsTrue (unchanged e) ↔ Holds (unchanged_term c e))
      → (arguments : List program.Term)
      → IsVerdict (instance_rule ∷ []) (step_of (map term_of arguments) premises p c q k)
      (instance_test (gives premises p c q k) unchanged (map term_of arguments) p q)
  instance-exact unchanged tells (t.Logic x ∷ e ∷ []) =
      instance-put premises p c q k unchanged (record { name = x.name; sort = sort_of x.sort })
      (term_of e) (raised-plain e) (tells (term_of e))
  instance-exact unchanged tells arguments =
      misshapen instance_rule (step_of (map term_of arguments) premises p c q k)
      (λ m h. let e : as_term m.x ∷ m.E ∷ [] ≡ map term_of arguments = h.0 in absurd cc)

-- what is cited, number by number
module _ (p : Formula) (c : Command) (q : Formula) (k : DataSort) where
  many-give : (f : Substitution) (i j : Option Judgement) (o : Option (List Judgement))
      → gives (in_front i (in_front j o)) p c q k f ≡ false
  many-give f None j o = refl
  many-give f (Some i) None o = refl
  many-give f (Some i) (Some j) None = refl
  many-give f (Some (entails a b s)) (Some j) (Some js) = refl
  many-give f (Some (triple a d b l)) (Some j) (Some js) = refl

  gives-by : (earlier : List Step) (ns : List ℕ) (f : Substitution)
      → gives_by earlier ns p c q k f ≡ gives (cited earlier ns) p c q k f
  gives-by earlier [] f = refl
  gives-by earlier (n ∷ []) f = refl
  gives-by earlier (n ∷ m ∷ ns) f =
      sym (many-give f (judgement_numbered n earlier) (judgement_numbered m earlier)
      (cited earlier ns))

  pub gives-as : (earlier : List Step) (ns : List ℕ)
      → gives_by earlier ns p c q k ≡ gives (cited earlier ns) p c q k
  gives-as earlier ns = fun_ext (gives-by earlier ns)

-- A SUBSTITUTION FOR ONE VARIABLE, as a list of pairs
one-pair : (x : Var) (e : Term) (y : Var) → replacing_each ((x, e) ∷ []) y ≡ replacing x e y
one-pair x e y = by_decision (var_eq y x)
  where
    by_decision : (d : Dec (y ≡ x)) → replaced_or e (variable y) d ≡ replacing_at e d
    by_decision (yes h) = refl
    by_decision (no n) = refl

pub pair-puts : (x y : Var) (e t : Term) → x ≡ y → e ≡ t
    → replacing_each ((x, e) ∷ []) ≡ replacing y t
pair-puts x y e t h g = (λ j. replacing_each ((h j, g j) ∷ [])) ∙ fun_ext (one-pair y t)
