-- The row concat.
use Rattle.std.proofs.Common.{◌≡◌, ℕ, refl, sym, ap, ◌∙◌, List, [], ◌∷◌, ◌++◌, append_assoc, append-nil}
use Rattle.model_shapes.specs.Sorts.{Sort, value, str_sort}
use Rattle.model_shapes.specs.Values.{null, nolist, node_number, list_number, int, str, boolean}
use Rattle.model_shapes.specs.Things.{Thing, val, trees, Fits}
use Rattle.model_terms.specs.Terms.{Term, literal, variable, sum, difference, appended}
use Rattle.model_formulas.specs.Formulas.{Formula, equality}
use Rattle.model_formulas.specs.Satisfaction.{Environment, Entails, meaning_of, text_meant}
use Rattle.rule_table.specs.Texts.{Piece, character, text_of_variable, characters, pieces}
use Rattle.entailment_laws.proofs.Quantified.{Stands}

-- the text of the pieces
abbrev spelled : Environment → List Piece → List ℕ
spelled e [] = []
spelled e (character c ∷ l) = c ∷ spelled e l
spelled e (text_of_variable x ∷ l) = text_meant (e x) ++ spelled e l

spelled-append : (e : Environment) (a b : List Piece)
    → spelled e (a ++ b) ≡ spelled e a ++ spelled e b
spelled-append e [] b = refl
spelled-append e (character c ∷ a) b = ap (λ z. c ∷ z) (spelled-append e a b)
spelled-append e (text_of_variable x ∷ a) b =
    ap (λ z. text_meant (e x) ++ z) (spelled-append e a b)
    ∙ sym (append_assoc (text_meant (e x)) (spelled e a) (spelled e b))

spelled-characters : (e : Environment) (s : List ℕ) → spelled e (characters s) ≡ s
spelled-characters e [] = refl
spelled-characters e (c ∷ s) = ap (λ z. c ∷ z) (spelled-characters e s)

spelled-pieces : (e : Environment) (t : Term) → spelled e (pieces t) ≡ text_meant (meaning_of e t)
spelled-pieces e (literal (str s)) = spelled-characters e s
spelled-pieces e (literal null) = refl
spelled-pieces e (literal nolist) = refl
spelled-pieces e (literal (node_number n)) = refl
spelled-pieces e (literal (list_number n)) = refl
spelled-pieces e (literal (int z)) = refl
spelled-pieces e (literal (boolean b)) = refl
spelled-pieces e (variable x) = append-nil (text_meant (e x))
spelled-pieces e (sum a b) = refl
spelled-pieces e (difference a b) = refl
spelled-pieces e (appended a b) =
    spelled-append e (pieces a) (pieces b) ∙ (λ i. spelled-pieces e a i ++ spelled-pieces e b i)

-- a text is what its characters say
text_is : (x : Thing) → Fits (value str_sort) x → x ≡ val (str (text_meant x))
text_is (val (str s)) f = refl
text_is (val null) f = absurd f
text_is (val nolist) f = absurd f
text_is (val (node_number n)) f = absurd f
text_is (val (list_number n)) f = absurd f
text_is (val (int z)) f = absurd f
text_is (val (boolean b)) f = absurd f
text_is (trees r) f = absurd f

pub concat : (p : Formula) (a b : Term) (s : Sort) → Stands a (value str_sort)
    → Stands b (value str_sort) → pieces a ≡ pieces b → Entails p (equality a b) s
concat p a b s sa sb same e pr t w h =
    text_is (meaning_of e a) (sa e pr)
    ∙ ap (λ z. val (str z)) (sym (spelled-pieces e a) ∙ ap (spelled e) same ∙ spelled-pieces e b)
    ∙ sym (text_is (meaning_of e b) (sb e pr))
