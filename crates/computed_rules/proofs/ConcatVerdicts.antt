-- The verdict by the row concat is the one that is computed.
use Rattle.std.proofs.Common.{◌≡◌, ◌∙◌, refl, sym, ap, subst, List, [], ◌∷◌, Some, Bool, true, false, ◌&&◌, codes, cond}
use Rattle.model_shapes.proofs.Truth.{false≢true, both_true}
use Rattle.model_shapes.proofs.Tests.{nat-is, nat-refl}
use Rattle.model_shapes.specs.Sorts.{Sort, value, str_sort}
use Rattle.model_terms.specs.Terms.{Term}
use Rattle.model_terms.specs.TermSorts.{has_sort}
use Rattle.model_terms.specs.VariableTests.{decided_by, same_var-is, same_var-refl}
use Rattle.model_formulas.specs.Formulas.{Formula, equality}
use Rattle.model_commands.specs.Theories.{Judgement, entails}
use Rattle.rule_table.specs.Letters.{Letters}
use Rattle.rule_table.specs.Conditions.{TermAt, of_sort, same_texts}
use Rattle.rule_table.specs.Entailments as Te
use Rattle.rule_table.specs.Texts.{Piece, character, text_of_variable, pieces}
use Rattle.rule_table.specs.Verdicts.{Concludes, IsVerdict, instance_verdict, side_verdict, shape_verdict}
use Rattle.rule_table.specs.Conditions.{texts_side}
use Rattle.rule_table.proofs.SomeLetters.{readings_of, a_step}
use Rattle.rule_table.proofs.EquationVerdicts.{concat_line, concat_not_sorted}
use Rattle.computed_rules.specs.Texts.{same_piece, same_pieces, concat_verdict}
use Rattle.computed_rules.proofs.Decided.{no-line, says-decided, verdict-one}

-- the test decides whether pieces are equal
same_piece-is : (p q : Piece) → same_piece p q ≡ true → p ≡ q
same_piece-is (character c) (character d) e = ap character (nat-is c d e)
same_piece-is (text_of_variable x) (text_of_variable y) e =
    ap text_of_variable (same_var-is x y e)
same_piece-is p q e = false≢true e

same_piece-refl : (p : Piece) → same_piece p p ≡ true
same_piece-refl (character c) = nat-refl c
same_piece-refl (text_of_variable x) = same_var-refl x

same_pieces-is : (a b : List Piece) → same_pieces a b ≡ true → a ≡ b
same_pieces-is [] [] e = refl
same_pieces-is (p ∷ ps) (q ∷ qs) e =
    let h : (same_piece p q ≡ true) × (same_pieces ps qs ≡ true) =
    both_true (same_piece p q) (same_pieces ps qs) e in
    (λ i. same_piece-is p q h.0 i ∷ same_pieces-is ps qs h.1 i)
same_pieces-is a b e = false≢true e

same_pieces-refl : (a : List Piece) → same_pieces a a ≡ true
same_pieces-refl [] = refl
same_pieces-refl (p ∷ ps) = λ i. same_piece-refl p i && same_pieces-refl ps i

same_pieces-not : (a b : List Piece) → same_pieces a b ≡ false → a ≡ b → ⊥
same_pieces-not a b h e =
    false≢true (sym h ∙ ap (same_pieces a) (sym e) ∙ same_pieces-refl a)

-- the arguments and the conclusion of the row
abbrev fits_concat : List Term → Judgement → Bool
fits_concat [] (entails p (equality a b) s) = true
fits_concat ts j = false

apart : (ts : List Term) (j : Judgement) → fits_concat ts j ≡ false → (l : Letters)
    → Concludes (a_step ts [] j) (Te.concat l) → ⊥
apart ts j h l c = false≢true (sym h ∙ sym (λ i. fits_concat (c.0 i) (c.2 i)))

-- where the row fits, by the sorts of the terms
module _ (p : Formula) (a b : Term) (s : Sort) where
  sorted : TermAt (value str_sort) a → TermAt (value str_sort) b
      → IsVerdict (readings_of (codes "concat")) (a_step [] [] (entails p (equality a b) s))
      (cond (same_pieces (pieces a) (pieces b)) instance_verdict (side_verdict texts_side))
  sorted ta tb =
      subst
      (λ (holds : Bool). IsVerdict (readings_of (codes "concat"))
      (a_step [] [] (entails p (equality a b) s))
      (cond holds instance_verdict (side_verdict texts_side)))
      (says-decided (same_pieces (pieces a) (pieces b)) (same_pieces-is (pieces a) (pieces b))
      (same_pieces-not (pieces a) (pieces b)))
      (verdict-one (Te.concat ∷ []) (a_step [] [] (entails p (equality a b) s)) []
      (of_sort (value str_sort) a ∷ of_sort (value str_sort) b ∷ [])
      (entails p (equality a b) s) refl (same_texts a b)
      (concat_line (Some []) p (equality a b) s a b refl ta tb)
      (decided_by (same_pieces (pieces a) (pieces b)) (same_pieces-is (pieces a) (pieces b))
      (same_pieces-not (pieces a) (pieces b))))

  unsorted : (TermAt (value str_sort) a × TermAt (value str_sort) b → ⊥)
      → IsVerdict (readings_of (codes "concat")) (a_step [] [] (entails p (equality a b) s))
      shape_verdict
  unsorted n =
      no-line (Te.concat ∷ []) (a_step [] [] (entails p (equality a b) s))
      ((λ l c. concat_not_sorted (Some []) p (equality a b) s a b refl n l c), tt)

  by_sorts : (x y : Bool) → has_sort str_sort a ≡ x → has_sort str_sort b ≡ y
      → IsVerdict (readings_of (codes "concat")) (a_step [] [] (entails p (equality a b) s))
      (cond (x && y)
      (cond (same_pieces (pieces a) (pieces b)) instance_verdict (side_verdict texts_side))
      shape_verdict)
  by_sorts true true e f = sorted e f
  by_sorts false y e f = unsorted (λ t. false≢true (sym e ∙ t.0))
  by_sorts true false e f = unsorted (λ t. false≢true (sym f ∙ t.1))

pub concat-is : (ts : List Term) (j : Judgement)
    → IsVerdict (readings_of (codes "concat")) (a_step ts [] j) (concat_verdict ts j)
concat-is [] (entails p (equality a b) s) =
    by_sorts p a b s (has_sort str_sort a) (has_sort str_sort b) refl refl
concat-is ts j =
    no-line (Te.concat ∷ []) (a_step ts [] j) ((λ l c. apart ts j refl l c), tt)
