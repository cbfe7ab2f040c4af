-- The verdicts of a rule: from the walks over its rows, or from what is computed where nothing is
-- cited.
use Rattle.std.proofs.Common.{◌≡◌, ℕ, refl, sym, ap, ◌∙◌, subst, ⊎_elim, List, [], ◌∷◌, ◌&&◌, Option, Some, None, Result, IfOk, Bool, true, false, bytes_eq, cond, map}
use Rattle.std.proofs.lemmas.Bool.{false≢true}
use Rattle.model_shapes.specs.Values.{Name}
use Rattle.model_shapes.proofs.Truth.{both_true}
use Rattle.model_commands.specs.Theories.{Judgement}
use Rattle.rule_table.specs.Letters.{Letters}
use Rattle.rule_table.specs.Entries.{Row, Entry}
use Rattle.rule_table.specs.Table.{entailments}
use Rattle.rule_table.specs.Verdicts.{Written, SomeLine, Verdict, IsVerdict, readings_in}
use Rattle.rule_patterns.specs.Patterns.{LinePattern}
use Rattle.rule_patterns.specs.Ways.{matched, way_of}
use Rattle.letter_bindings.specs.Bodies.{JudgementSorted}
use Rattle.letter_bindings.specs.Lines.{verdict_by}
use Rattle.letter_bindings.proofs.KeptBodies.{nameless-sorted}
use Rattle.letter_bindings.proofs.StepVerdicts.{verdict-named}
use Rattle.dom_terms.specs.Terms.{term_of}
use Rattle.dom_terms.specs.declared.terms.Term as terms
use Rattle.dom_terms.specs.declared.verdicts.Verdict as program
use Rattle.formula_syntax.specs.Formulas.{formula_of}
use Rattle.formula_syntax.specs.declared.entailments.Entailment.{Entailment}
use Rattle.formula_table.specs.Forms.{term_at}
use Rattle.formula_table.specs.declared.tables.Table.{Table}
use Rattle.row_patterns.specs.Verdicts.{verdict_in}
use Rattle.row_walks.specs.Written as walks
use Rattle.rule_rows.specs.Names.{computed_name}
use Rattle.rule_rows.specs.declared.ways.Computed.{Computed}
use Rattle.rule_rows.specs.declared.ways.Computed.TheVariants as cp
use Rattle.entail_rules.specs.declared.cited.Cited.{Cited}
use Rattle.entail_rules.specs.declared.cited.Cited.TheVariants as ci
use Rattle.entail_rules.specs.declared.numbering.Numbers.{Numbers}
use Rattle.entail_rules.specs.Judged.{judged, all_cited}
use Rattle.entail_rules.specs.Numbers.{AreNumbers}
use Rattle.entail_rules.specs.Premises.{are_few, Cites, unfollowed, written_with}
use Rattle.entail_rules.proofs.Numbers.{cited-are, judgement-is, terms-are}
use Rattle.entail_rules.proofs.VerdictLaws.{unfollowed-verdict}

-- NO LINE OF THE TABLE has more premises than two, and each premise is an entailment
few_in : Letters → List Row → Bool
few_in l [] = true
few_in l (r ∷ rows) = are_few (r l).premises && few_in l rows

few_each : Letters → List Entry → Bool
few_each l [] = true
few_each l (entry ∷ entries) = few_in l entry.readings && few_each l entries

all_few : (l : Letters) → few_each l entailments ≡ true
unfolding few_each few_in
all_few l = refl

few-first : (l : Letters) (rows others : List Row) (b : Bool) → few_in l rows ≡ true
    → few_in l others ≡ true → few_in l (cond b rows others) ≡ true
few-first l rows others true h k = h
few-first l rows others false h k = k

few-named : (l : Letters) (entries : List Entry) (name : Name) → few_each l entries ≡ true
    → few_in l (readings_in entries name) ≡ true
unfolding few_each few_in
few-named l [] name h = refl
few-named l (entry ∷ entries) name h =
    let both : (few_in l entry.readings ≡ true) × (few_each l entries ≡ true) =
    both_true (few_in l entry.readings) (few_each l entries) h in
    few-first l entry.readings (readings_in entries name) (bytes_eq name entry.name) both.0
    (few-named l entries name both.1)

none-few : (rows : List Row) (o : Option (List Judgement))
    → ((l : Letters) → few_in l rows ≡ true) → Cites None o
    → SomeLine rows (λ line. Some line.premises ≡ o) → ⊥
unfolding few_in
none-few [] o f c m = m
none-few (r ∷ rows) o f c m = ⊎_elim
    (λ x. false≢true (sym (c _ (sym x.1)) ∙ (both_true _ _ (f x.0)).0))
    (λ y. none-few rows o (λ l. (both_true _ _ (f l)).1) c y) m

none-named : (name : Name) (o : Option (List Judgement)) → Cites None o
    → SomeLine (readings_in entailments name) (λ line. Some line.premises ≡ o) → ⊥
none-named name o c m =
    none-few (readings_in entailments name) o (λ l. few-named l entailments name (all_few l)) c m

-- those of a rule that computes have none
abbrev NoPremises : List Row → Type 0
NoPremises [] = Unit
NoPremises (r ∷ rows) = ((l : Letters) → (r l).premises ≡ []) × NoPremises rows

no-premises : (rule : Computed) → NoPremises (readings_in entailments (computed_name rule))
no-premises cp.EqSubst = ((λ l. refl), tt)
no-premises cp.Distinct = ((λ l. refl), tt)
no-premises cp.Linear = ((λ l. refl), ((λ l. refl), ((λ l. refl), tt)))
no-premises cp.Concat = ((λ l. refl), tt)

none-of : (rows : List Row) (o : Option (List Judgement)) → NoPremises rows
    → (o ≡ Some [] → ⊥) → SomeLine rows (λ line. Some line.premises ≡ o) → ⊥
none-of [] o p n m = m
none-of (r ∷ rows) o p n m =
    ⊎_elim (λ x. n (sym (ap Some (sym (p.0 x.0)) ∙ x.1))) (λ y. none-of rows o p.1 n y) m

pub not-none : (cited : Cited) → (cited ≡ ci.Nothing → ⊥) → Some (all_cited cited) ≡ Some [] → ⊥
not-none ci.Nothing n e = n refl
not-none (ci.One a) n e = absurd cc
not-none (ci.Two a b) n e = absurd cc

module _ (arguments : List terms.Term) (conclusion : Entailment) where
  -- THE VERDICT where what is cited are no premises of any rule
  pub where-refused : (name : Name) (v r : Verdict) → r ≡ unfollowed v
      → IsVerdict (readings_in entailments name) (written_with arguments (Some []) conclusion) v
      → (premises : Option (List Judgement)) → Cites None premises
      → IsVerdict (readings_in entailments name) (written_with arguments premises conclusion) r
  where-refused name v r e h premises c =
      subst (IsVerdict (readings_in entailments name) (written_with arguments premises conclusion))
      (sym e)
      (unfollowed-verdict (readings_in entailments name)
      (written_with arguments (Some []) conclusion) premises (none-named name premises c) v h)

  -- where a rule that computes is given premises
  pub where-unasked : (rule : Computed) (js : List Judgement) (v r : Verdict)
      → (Some js ≡ Some [] → ⊥) → r ≡ unfollowed v
      → IsVerdict (readings_in entailments (computed_name rule))
      (written_with arguments (Some []) conclusion) v
      → IsVerdict (readings_in entailments (computed_name rule))
      (written_with arguments (Some js) conclusion) r
  where-unasked rule js v r n e h =
      subst (IsVerdict (readings_in entailments (computed_name rule))
      (written_with arguments (Some js) conclusion)) (sym e)
      (unfollowed-verdict (readings_in entailments (computed_name rule))
      (written_with arguments (Some []) conclusion) (Some js)
      (none-of (readings_in entailments (computed_name rule)) (Some js) (no-premises rule) n) v h)

  -- WHAT IS WRITTEN with names binds variables of the sorts
  judged-sorted : (e : Entailment) → JudgementSorted (judged e)
  judged-sorted e = (nameless-sorted (formula_of e.left), nameless-sorted (formula_of e.right))

  -- THE VERDICT OF THE WALKS over the numbers is the rule's
  pub by-its-rows : (name : Name) (ps : List LinePattern) (t : Table) (ns : Numbers)
      (is : List ℕ) (cited : Cited) (v : Verdict) → way_of name ≡ matched ps
      → AreNumbers t ns (map term_of arguments) cited conclusion
      → is ≡ ns.arguments.items
      → v ≡ verdict_by ps (walks.written_at t is ns.cited ns.conclusion)
      → IsVerdict (readings_in entailments name)
      (written_with arguments (Some (all_cited cited)) conclusion) v
  by-its-rows name ps t ns is cited v e h same found =
      let a : map (term_at t) ns.arguments.items ≡ map term_of arguments =
      terms-are t ns.arguments.items (map term_of arguments) h.arguments in
      let b : walks.all_cited t ns.cited ≡ all_cited cited = cited-are t ns.cited cited h.cited in
      let d : walks.judged_at t ns.conclusion ≡ judged conclusion =
      judgement-is t ns.conclusion conclusion h.conclusion in
      let f : v ≡ verdict_by ps (written_with arguments (Some (all_cited cited)) conclusion) =
      found ∙ cc (same, a, b, d) in
      subst (IsVerdict (readings_in entailments name)
      (written_with arguments (Some (all_cited cited)) conclusion)) (sym f)
      (verdict-named name ps e (written_with arguments (Some (all_cited cited)) conclusion)
      (judged-sorted conclusion))

-- the verdict by a rule that computes is that of the rule of the kind
pub of-its-kind : (rule other : Computed) (written : Written) (v : Verdict) → rule ≡ other
    → IsVerdict (readings_in entailments (computed_name other)) written v
    → IsVerdict (readings_in entailments (computed_name rule)) written v
of-its-kind rule other written v e h =
    subst (λ k. IsVerdict (readings_in entailments (computed_name k)) written v) (sym e) h

pub by-its-kind : {E : Type 0} (rule other : Computed) (written : Written)
    (r : Result program.Verdict E) → rule ≡ other
    → IfOk r (λ v. IsVerdict (readings_in entailments (computed_name other)) written (verdict_in v))
    → IfOk r (λ v. IsVerdict (readings_in entailments (computed_name rule)) written (verdict_in v))
by-its-kind rule other written r e h =
    subst (λ k. IfOk r (λ v. IsVerdict (readings_in entailments (computed_name k)) written
    (verdict_in v))) (sym e) h
