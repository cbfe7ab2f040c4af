-- Where a list is cut, its fault token stands.
use Rattle.std.proofs.Common.{◌≡◌, ℕ, suc, ◌≤◌, List, [], ◌∷◌, ◌++◌, length, take, drop, refl, sym, ap, subst, ◌∙◌, append_assoc, length-append, arith}
use Rattle.std.proofs.lemmas.List.{take-append-drop, take-append-le}
use Rattle.model_text.specs.Lexemes.{Lexeme}
use Rattle.model_text.specs.FaultTokens.{AreOfTokens, Begins, IsFaultToken}
use Rattle.model_text.proofs.OfTokens.{seen_both, seen_rest, seen_front}
use Rattle.model_text.proofs.Usual.{AreUsual}

-- two ways to cut one list, with rests of one length
pub split_rest : (a b p r : List Lexeme) → p ++ r ≡ a ++ b → length r ≡ length b → (p ≡ a) × (r ≡ b)
split_rest [] b [] r e l = (refl, e)
split_rest (x ∷ a) b [] r e l = absurd (omega (
  arith,
  ap
      (length {A = Lexeme}) e,
  length-append a b,
))
split_rest [] b (y ∷ p) r e l = absurd (omega (
  arith,
  ap
      (length {A = Lexeme}) e,
  length-append p r,
))
split_rest (x ∷ a) b (y ∷ p) r e l =
    let h : y ≡ x = cc in
    let t : p ++ r ≡ a ++ b = cc in
    let k = split_rest a b p r t l in
    let k0 : p ≡ a = k.0 in
    (cc, k.1)

take_front : (p s : List Lexeme) (j : ℕ) → j ≤ length p → take j (p ++ s) ≡ take j p
take_front p s j h = take-append-le j p s h

begins_front : {A : Type 0} (L : A → List Lexeme → Type 0) (p : List Lexeme) (j : ℕ) → AreOfTokens p
    → Begins L p → Begins L (take j p)
begins_front L p j each b = (
  b.0,
  drop j p ++ b.1,
  subst (λ (z : List Lexeme). L b.0 z)
      (ap (λ (z : List Lexeme). z ++ b.1) (sym (take-append-drop j p))
      ∙ append_assoc (take j p) (drop j p) b.1) b.2,
  seen_both (drop j p) b.1 (seen_rest j p each) b.3,
)

take_next : (p : List Lexeme) (t : Lexeme) (s : List Lexeme)
    → take (suc (length p)) (p ++ (t ∷ s)) ≡ p ++ (t ∷ [])
take_next [] t s = refl
take_next (x ∷ p) t s = ap (λ (z : List Lexeme). x ∷ z) (take_next p t s)

no_longer : {A : Type 0} (L : A → List Lexeme → Type 0) (ts p rest : List Lexeme) → ts ≡ p ++ rest
    → ((t : Lexeme) (s : List Lexeme) → rest ≡ t ∷ s → (a : A) (u : List Lexeme)
    → L a (p ++ (t ∷ u)) → ⊥)
    → suc (length p) ≤ length ts → Begins L (take (suc (length p)) ts) → ⊥
no_longer L ts p [] e dead le x = omega (arith, ap (length {A = Lexeme}) e, length-append p [])
no_longer L ts p (t ∷ s) e dead le x =
    let h : take (suc (length p)) ts ≡ p ++ (t ∷ []) = ap (take (suc (length p))) e
    ∙ take_next p t s in
    let y : Begins L (p ++ (t ∷ [])) = subst (λ (z : List Lexeme). Begins L z) h x in
    dead t s refl y.0 y.1 (subst (λ (z : List Lexeme). L y.0 z) (append_assoc p (t ∷ []) y.1) y.2)

pub cut_fault : {A : Type 0} (L : A → List Lexeme → Type 0) (ts p rest : List Lexeme)
    → AreOfTokens ts → ts ≡ p ++ rest → Begins L p
    → ((t : Lexeme) (s : List Lexeme) → rest ≡ t ∷ s → (a : A) (u : List Lexeme)
    → L a (p ++ (t ∷ u)) → ⊥)
    → IsFaultToken L ts (suc (length p))
cut_fault L ts p rest each e b dead = record {
  positive = omega arith;
  in_range = omega (arith, ap (length {A = Lexeme}) e, length-append p rest);
  before = λ j lt.
      let h : take j ts ≡ take j p = ap (take j) e ∙ take_front p rest j (omega arith) in
      subst (λ (z : List Lexeme). Begins L z) (sym h) (begins_front L p j
      (seen_front p rest (subst AreOfTokens e each)) b);
  here = λ le x. no_longer L ts p rest e dead le x;
}

-- A list is cut where its fault token stands: the front begins what is spelled, and no longer one
-- does.
pub record Cut {A : Type 0} (L : A → List Lexeme → Type 0) (ts : List Lexeme) (k : ℕ) : Type 0
  where
    pub front : List Lexeme
    pub rest : List Lexeme
    pub whole : ts ≡ front ++ rest
    pub number : k ≡ suc (length front)
    pub value : A
    pub more : List Lexeme
    pub spells : L value (front ++ more)
    pub usual : AreUsual more
    pub dead : (t : Lexeme) (s : List Lexeme) → rest ≡ t ∷ s → (a : A) (u : List Lexeme)
        → L a (front ++ (t ∷ u)) → ⊥
