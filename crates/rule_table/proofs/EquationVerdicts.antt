-- The verdicts on steps by the rows distinct, concat and eq_subst, found from what is written.
use Rattle.std.proofs.Common.{◌≡◌, refl, sym, ap, ◌∙◌, subst, inl, Bool, true, false, ◌&&◌, ◌==◌, List, [], ◌∷◌, Option, codes}
use Rattle.model_shapes.proofs.Truth.{false≢true, both_true}
use Rattle.model_shapes.specs.Sorts.{Sort, DataSort, value, str_sort}
use Rattle.model_terms.specs.VariableTests.{same_var}
use Rattle.model_shapes.proofs.Tests.{nat-is, nat-refl}
use Rattle.model_terms.specs.VariableTests.{same_var-is, same_var-refl}
use Rattle.model_terms.specs.Terms.{Term}
use Rattle.model_terms.specs.VariableTests.{decided_by}
use Rattle.model_formulas.specs.Formulas.{Formula, conjunction, equality, falsity}
use Rattle.model_commands.specs.Commands.{Command}
use Rattle.model_commands.specs.Theories.{Judgement, entails, triple}
use Rattle.rule_table.specs.Texts.{Piece, character, text_of_variable, pieces}
use Rattle.rule_table.specs.Letters.{Letters}
use Rattle.rule_table.specs.Conditions.{TermAt, same_texts, tested, literal_side}
use Rattle.rule_table.specs.Notation.{instead}
use Rattle.rule_table.specs.Entries.{Row}
use Rattle.rule_table.specs.Verdicts.{Written, Concludes, SomeLine, Verdict, IsVerdict}
use Rattle.rule_table.specs.Entailments as Te
use Rattle.rule_table.specs.Entailments.{different_literals}
use Rattle.rule_table.proofs.SomeLetters.{readings_of, plain_letters, left_in, right_in, is_entailment}
use Rattle.rule_table.proofs.Decisions.{test_holds, both_hold, at_sort, Form, an_order, an_equation, just_false, another, Kind, order_kind, equation_kind, false_kind, other_kind, kind_of, form_of, equation≢order, equation≢false, equation≢other, false≢order, false≢equation, false≢other}
use Rattle.rule_table.proofs.Determined.{refuted, Like, Determined, verdict_on, none_cited}
use Rattle.rule_table.proofs.SubstVerdicts.{test-concludes, concludes-test}
use Rattle.rule_table.proofs.Replaced.{replaced}

-- WHAT ALL THREE SHARE
pub no_arguments : {t : Term} {ts : List Term} → [] ≡ t ∷ ts → ⊥
no_arguments e = cc

pub no_triple : (p q : Formula) (s : Sort) (p' : Formula) (c : Command) (q' : Formula)
    (d : DataSort)
    → entails p q s ≡ triple p' c q' d → ⊥
no_triple p q s p' c q' d e = false≢true (sym (ap is_entailment e))

-- equal terms of two equal equations
pub same_equation : (a b c d : Term) → ◌≡◌ {A = Formula} (equality a b) (equality c d)
    → (a ≡ c) × (b ≡ d)
same_equation a b c d e =
    let f : a ≡ c = cc in
    let g : b ≡ d = cc in (f, g)

-- the pieces are equal or not
abbrev same_piece : Piece → Piece → Bool
same_piece (character c) (character d) = c == d
same_piece (text_of_variable x) (text_of_variable y) = same_var x y
same_piece p q = false

abbrev same_pieces : List Piece → List Piece → Bool
same_pieces [] [] = true
same_pieces (p ∷ ps) (q ∷ qs) = same_piece p q && same_pieces ps qs
same_pieces ps qs = false

same_piece-is : (p q : Piece) → same_piece p q ≡ true → p ≡ q
same_piece-is (character c) (character d) e = ap character (nat-is c d e)
same_piece-is (text_of_variable x) (text_of_variable y) e =
    ap text_of_variable (same_var-is x y e)
same_piece-is p q e = false≢true e

same_piece-refl : (p : Piece) → same_piece p p ≡ true
same_piece-refl (character c) = nat-refl c
same_piece-refl (text_of_variable x) = same_var-refl x

pub same_pieces-is : (a b : List Piece) → same_pieces a b ≡ true → a ≡ b
same_pieces-is [] [] e = refl
same_pieces-is (p ∷ ps) (q ∷ qs) e =
    let h : (same_piece p q ≡ true) × (same_pieces ps qs ≡ true) =
    both_true (same_piece p q) (same_pieces ps qs) e in
    (λ i. same_piece-is p q h.0 i ∷ same_pieces-is ps qs h.1 i)
same_pieces-is a b e = false≢true e

same_pieces-refl : (a : List Piece) → same_pieces a a ≡ true
same_pieces-refl [] = refl
same_pieces-refl (p ∷ ps) = λ i. same_piece-refl p i && same_pieces-refl ps i

pub same_pieces-not : (a b : List Piece) → same_pieces a b ≡ false → a ≡ b → ⊥
same_pieces-not a b h e =
    false≢true (sym h ∙ ap (same_pieces a) (sym e) ∙ same_pieces-refl a)

-- DISTINCT
module _ (o : Option (List Judgement)) (p q : Formula) (s : Sort) where
  abbrev written : Written
  written = record { arguments = []; premises = o; conclusion = entails p q s }

  abbrev chosen : Term → Term → Letters
  chosen a b = record plain_letters { E = a; F = b; s = s }

  pub distinct_line : (a b : Term) → p ≡ equality a b → q ≡ falsity
      → Determined (Te.distinct ∷ []) written (Te.distinct (chosen a b))
  distinct_line a b e f = record {
    found = inl (chosen a b, (refl, tt, (λ i. entails (sym e i) (sym f i) s)));
    alone = ((λ l c. here l c.2), tt);
  }
    where
      here : (l : Letters) → entails (equality l.E l.F) falsity l.s ≡ entails p q s
          → Like (Te.distinct (chosen a b)) (Te.distinct l)
      here l c =
          let g : (l.E ≡ a) × (l.F ≡ b) = same_equation l.E l.F a b (ap left_in c ∙ e) in
          (refl, (λ i. tested literal_side (different_literals (g.0 i) (g.1 i)) ∷ []))

  pub distinct_left : (k : Kind) → kind_of p ≡ k → (equation_kind ≡ k → ⊥) → (l : Letters)
      → Concludes written (Te.distinct l) → ⊥
  distinct_left k h n l c = n (ap (λ j. kind_of (left_in j)) c.2 ∙ h)

  pub distinct_right : (k : Kind) → kind_of q ≡ k → (false_kind ≡ k → ⊥) → (l : Letters)
      → Concludes written (Te.distinct l) → ⊥
  distinct_right k h n l c = n (ap (λ j. kind_of (right_in j)) c.2 ∙ h)

  abbrev pub distinct_from : Form p → Form q
      → (v : Verdict) × IsVerdict (Te.distinct ∷ []) written v
  distinct_from (an_equation a b e) (just_false f) =
      verdict_on (Te.distinct ∷ []) written (Te.distinct (chosen a b)) (distinct_line a b e f)
      (none_cited o) (test_holds (different_literals a b), tt)
  distinct_from (an_equation a b e) (an_order c d f) =
      refuted (Te.distinct ∷ []) written
      ((λ l m. distinct_right order_kind (ap kind_of f) false≢order l m), tt)
  distinct_from (an_equation a b e) (an_equation c d f) =
      refuted (Te.distinct ∷ []) written
      ((λ l m. distinct_right equation_kind (ap kind_of f) false≢equation l m), tt)
  distinct_from (an_equation a b e) (another f) =
      refuted (Te.distinct ∷ []) written ((λ l m. distinct_right other_kind f false≢other l m), tt)
  distinct_from (an_order a b e) f =
      refuted (Te.distinct ∷ []) written
      ((λ l m. distinct_left order_kind (ap kind_of e) equation≢order l m), tt)
  distinct_from (just_false e) f =
      refuted (Te.distinct ∷ []) written
      ((λ l m. distinct_left false_kind (ap kind_of e) equation≢false l m), tt)
  distinct_from (another e) f =
      refuted (Te.distinct ∷ []) written
      ((λ l m. distinct_left other_kind e equation≢other l m), tt)

  -- CONCAT
  pub concat_line : (a b : Term) → q ≡ equality a b → TermAt (value str_sort) a
      → TermAt (value str_sort) b
      → Determined (Te.concat ∷ []) written (Te.concat (record (chosen a b) { P = p }))
  concat_line a b e ta tb = record {
    found =
        inl (record (chosen a b) { P = p }, (refl, (ta, (tb, tt)), (λ i. entails p (sym e i) s)));
    alone = ((λ l c. here l c.2), tt);
  }
    where
      here : (l : Letters) → entails l.P (equality l.E l.F) l.s ≡ entails p q s
          → Like (Te.concat (record (chosen a b) { P = p })) (Te.concat l)
      here l c =
          let g : (l.E ≡ a) × (l.F ≡ b) = same_equation l.E l.F a b (ap right_in c ∙ e) in
          (refl, (λ i. same_texts (g.0 i) (g.1 i) ∷ []))

  pub concat_right : (k : Kind) → kind_of q ≡ k → (equation_kind ≡ k → ⊥) → (l : Letters)
      → Concludes written (Te.concat l) → ⊥
  concat_right k h n l c = n (ap (λ j. kind_of (right_in j)) c.2 ∙ h)

  pub concat_not_sorted : (a b : Term) → q ≡ equality a b
      → (TermAt (value str_sort) a × TermAt (value str_sort) b → ⊥) → (l : Letters)
      → Concludes written (Te.concat l) → ⊥
  concat_not_sorted a b e n l c =
      let g : (l.E ≡ a) × (l.F ≡ b) = same_equation l.E l.F a b (ap right_in c.2 ∙ e) in
      n (subst (TermAt (value str_sort)) g.0 c.1.0, subst (TermAt (value str_sort)) g.1 c.1.1.0)

  abbrev pub concat_sorted : (a b : Term) → q ≡ equality a b
      → Dec (TermAt (value str_sort) a × TermAt (value str_sort) b)
      → (v : Verdict) × IsVerdict (Te.concat ∷ []) written v
  concat_sorted a b e (no n) =
      refuted (Te.concat ∷ []) written ((λ l m. concat_not_sorted a b e n l m), tt)
  concat_sorted a b e (yes t) =
      verdict_on (Te.concat ∷ []) written (Te.concat (record (chosen a b) { P = p }))
      (concat_line a b e t.0 t.1) (none_cited o) (
        decided_by (same_pieces (pieces a) (pieces b)) (same_pieces-is (pieces a) (pieces b))
            (same_pieces-not (pieces a) (pieces b)),
        tt,
      )

  abbrev pub concat_from : Form q → (v : Verdict) × IsVerdict (Te.concat ∷ []) written v
  concat_from (an_equation a b e) =
      concat_sorted a b e (both_hold (at_sort str_sort a) (at_sort str_sort b))
  concat_from (an_order a b e) =
      refuted (Te.concat ∷ []) written
      ((λ l m. concat_right order_kind (ap kind_of e) equation≢order l m), tt)
  concat_from (just_false e) =
      refuted (Te.concat ∷ []) written
      ((λ l m. concat_right false_kind (ap kind_of e) equation≢false l m), tt)
  concat_from (another e) =
      refuted (Te.concat ∷ []) written ((λ l m. concat_right other_kind e equation≢other l m), tt)

  -- EQ_SUBST: where the left formula is (a = b and r)
  pub subst_line : (a b : Term) (r : Formula) → p ≡ conjunction (equality a b) r
      → replaced a b r q ≡ true
      → Determined (Te.eq_subst ∷ []) written (Te.eq_subst (chosen a b))
  subst_line a b r e h = record {
    found =
        subst (λ z. SomeLine (Te.eq_subst ∷ [])
        (Concludes (record { arguments = []; premises = o; conclusion = entails z q s }))) (sym e)
        (test-concludes a b r q s o h);
    alone = ((λ l c. (refl, refl)), tt);
  }

  pub not_replaced : (a b : Term) (r : Formula) → p ≡ conjunction (equality a b) r
      → (replaced a b r q ≡ true → ⊥) → (l : Letters) → Concludes written (Te.eq_subst l) → ⊥
  not_replaced a b r e n l c =
      n (concludes-test a b r q s o
      (subst (λ z. SomeLine (Te.eq_subst ∷ [])
      (Concludes (record { arguments = []; premises = o; conclusion = entails z q s }))) e
      (inl (l, c))))

  abbrev pub subst_tested : (a b : Term) (r : Formula) → p ≡ conjunction (equality a b) r
      → Dec (replaced a b r q ≡ true) → (v : Verdict) × IsVerdict (Te.eq_subst ∷ []) written v
  subst_tested a b r e (no n) =
      refuted (Te.eq_subst ∷ []) written ((λ l m. not_replaced a b r e n l m), tt)
  subst_tested a b r e (yes h) =
      verdict_on (Te.eq_subst ∷ []) written (Te.eq_subst (chosen a b)) (subst_line a b r e h)
      (none_cited o) tt

-- (a = b and r), or another formula
pub data Start (p : Formula) : Type 0 where
  from_equation : (a b : Term) (r : Formula) → p ≡ conjunction (equality a b) r → Start p
  no_equation : ((a b : Term) (r : Formula) → conjunction (equality a b) r ≡ p → ⊥) → Start p

abbrev starts : Formula → Bool
starts (conjunction (equality a b) r) = true
starts p = false

pub otherwise : (p : Formula) → starts p ≡ false → (a b : Term) (r : Formula)
    → conjunction (equality a b) r ≡ p → ⊥
otherwise p h a b r e = false≢true (sym h ∙ sym (ap starts e))

abbrev pub start_of : (p : Formula) → Start p
start_of (conjunction (equality a b) r) = from_equation a b r refl
start_of p = no_equation (otherwise p refl)

abbrev pub subst_from : (o : Option (List Judgement)) (p q : Formula) (s : Sort) → Start p
    → (v : Verdict) × IsVerdict (Te.eq_subst ∷ []) (written o p q s) v
subst_from o p q s (from_equation a b r e) =
    subst_tested o p q s a b r e (test_holds (replaced a b r q))
subst_from o p q s (no_equation n) =
    refuted (Te.eq_subst ∷ []) (written o p q s)
    ((λ l c. n l.E l.F (instead l.E l.x l.P) (ap left_in c.2)), tt)

-- THE VERDICTS, from the arguments, the citations and the judgement
-- a row without arguments whose conclusion is an entailment
abbrev Plain_row : Row → Type 0
Plain_row row = (l : Letters) → ((row l).arguments ≡ []) × (is_entailment (row l).conclusion ≡ true)

pub unwanted : (row : Row) → Plain_row row → (t : Term) (ts : List Term)
    (o : Option (List Judgement)) (j : Judgement) (l : Letters)
    → Concludes (record { arguments = t ∷ ts; premises = o; conclusion = j }) (row l) → ⊥
unwanted row f t ts o j l c = no_arguments (sym (f l).0 ∙ c.0)

pub no_triples : (row : Row) → Plain_row row → (o : Option (List Judgement)) (p q : Formula)
    (c : Command) (d : DataSort) (l : Letters)
    → Concludes (record { arguments = []; premises = o; conclusion = triple p c q d }) (row l) → ⊥
no_triples row f o p q c d l m = false≢true (sym (ap is_entailment m.2) ∙ (f l).1)

-- from the verdicts on entailments
abbrev verdict_by : (row : Row) → Plain_row row
    → ((o : Option (List Judgement)) (p q : Formula) (s : Sort)
    → (v : Verdict) × IsVerdict (row ∷ []) (written o p q s) v)
    → (ts : List Term) (o : Option (List Judgement)) (j : Judgement)
    → (v : Verdict)
    × IsVerdict (row ∷ []) (record { arguments = ts; premises = o; conclusion = j }) v
verdict_by row f g [] o (entails p q s) = g o p q s
verdict_by row f g [] o (triple p c q d) =
    refuted (row ∷ []) (record { arguments = []; premises = o; conclusion = triple p c q d })
    ((λ l m. no_triples row f o p q c d l m), tt)
verdict_by row f g (t ∷ ts) o j =
    refuted (row ∷ []) (record { arguments = t ∷ ts; premises = o; conclusion = j })
    ((λ l m. unwanted row f t ts o j l m), tt)

abbrev pub distinct_verdict : (ts : List Term) (o : Option (List Judgement)) (j : Judgement)
    → (v : Verdict) × IsVerdict (readings_of (codes "distinct"))
    (record { arguments = ts; premises = o; conclusion = j }) v
distinct_verdict =
    verdict_by Te.distinct (λ l. (refl, refl))
    (λ o p q s. distinct_from o p q s (form_of p) (form_of q))

abbrev pub concat_verdict : (ts : List Term) (o : Option (List Judgement)) (j : Judgement)
    → (v : Verdict) × IsVerdict (readings_of (codes "concat"))
    (record { arguments = ts; premises = o; conclusion = j }) v
concat_verdict =
    verdict_by Te.concat (λ l. (refl, refl)) (λ o p q s. concat_from o p q s (form_of q))

abbrev pub subst_verdict : (ts : List Term) (o : Option (List Judgement)) (j : Judgement)
    → (v : Verdict) × IsVerdict (readings_of (codes "eq_subst"))
    (record { arguments = ts; premises = o; conclusion = j }) v
subst_verdict =
    verdict_by Te.eq_subst (λ l. (refl, refl)) (λ o p q s. subst_from o p q s (start_of p))
