-- Needn't be believed: what they read is said by the grammar alone. Readers of a list of lexemes:
-- each gives a value and the rest, or where the reading stopped. The program's readers are compared
-- with them.
use Rattle.std.specs.Prelude.{◌≡◌, ℕ, zero, suc, Bool, true, false, not, cond, List, [], ◌∷◌, ◌++◌, length, Option, Some, None, Result, Ok, Err, bytes_eq, option_map}
use Rattle.model_text.specs.Lexemes.{Lexeme, terminal}

-- At k: the lexemes spell nothing, and k are left. Deep: a bound on nesting or length was passed,
-- which says nothing of the lexemes.
pub data Stop : Type 0 where
  At : ℕ → Stop
  Deep : Stop

abbrev pub Answer : Type 0 → Type 0
Answer A = Result (A × List Lexeme) Stop

abbrev pub Read : Type 0 → Type 0
Read A = List Lexeme → Answer A

infixl 10 ◌>>=◌
abbrev pub ◌>>=◌ : {A B : Type 0} → Result A Stop → (A → Result B Stop) → Result B Stop
(Ok x) >>= f = f x
(Err e) >>= f = Err e

-- reads nothing
abbrev pub ret : {A : Type 0} → A → Read A
ret a ts = Ok (a, ts)

-- no value
abbrev pub fail : {A : Type 0} → Read A
fail ts = Err (At (length ts))

-- one after the other
abbrev pub then : {A B : Type 0} → Read A → (A → Read B) → Read B
then r k ts = r ts >>= λ x. k x.0 x.1

-- the lexeme is this terminal
abbrev pub is_terminal : List ℕ → Lexeme → Bool
is_terminal text (terminal t) = bytes_eq t text
is_terminal text _ = false

-- what stands behind the terminal, where it comes first
abbrev pub after : List ℕ → List Lexeme → Option (List Lexeme)
after text [] = None
after text (t ∷ ts) = cond (is_terminal text t) (Some ts) None

-- the terminal doesn't come first, and no lexeme was taken
abbrev pub Stays : List ℕ → List Lexeme → List Lexeme → Type 0
Stays text before behind = (after text before ≡ None) × (behind ≡ before)

abbrev pub either : {A : Type 0} → Option (List Lexeme) → Read A → Answer A → Answer A
either (Some rest) r other = r rest
either None r other = other

-- behind the terminal, where it comes first, the one reader; else the other
abbrev pub when : {A : Type 0} → List ℕ → Read A → Read A → Read A
when text r other ts = either (after text ts) r (other ts)

abbrev pub rest_or : Option (List Lexeme) → ℕ → Result (List Lexeme) Stop
rest_or (Some rest) left = Ok rest
rest_or None left = Err (At left)

-- what stands behind the terminal, which has to come
abbrev pub terminal_at : List ℕ → List Lexeme → Result (List Lexeme) Stop
terminal_at text ts = rest_or (after text ts) (length ts)

abbrev pub expect : {A : Type 0} → List ℕ → Read A → Read A
expect text r ts = terminal_at text ts >>= r

abbrev pub leaf_or : {A : Type 0} → Option A → List Lexeme → Answer A → Answer A
leaf_or (Some a) rest other = Ok (a, rest)
leaf_or None rest other = other

-- one lexeme that stands for a value
abbrev pub leaf : {A : Type 0} → (Lexeme → Option A) → Read A
leaf f [] = Err (At 0)
leaf f (t ∷ ts) = leaf_or (f t) ts (Err (At (length (t ∷ ts))))

-- what a first lexeme stands for, and the rest
abbrev pub first : {X : Type 0} → (Lexeme → Option X) → List Lexeme → Option (X × List Lexeme)
first f [] = None
first f (t ∷ ts) = option_map (λ x. (x, ts)) (f t)

abbrev pub begun : {X A : Type 0} → Option (X × List Lexeme) → (X → Read A) → Answer A → Answer A
begun (Some y) r other = r y.0 y.1
begun None r other = other

-- behind a first lexeme that stands for something, the one reader; else the other
abbrev pub begins : {X A : Type 0} → (Lexeme → Option X) → (X → Read A) → Read A → Read A
begins f r other ts = begun (first f ts) r (other ts)

-- the terminal, as something that a first lexeme stands for
abbrev pub the_terminal : List ℕ → Lexeme → Option Bool
the_terminal text t = cond (is_terminal text t) (Some true) None

-- one or more, with the terminal between each two: at most so many
unfoldable pub sep_list : {A : Type 0} → List ℕ → Read A → ℕ → Read (List A)
sep_list sep item zero ts = Err Deep
sep_list sep item (suc m) ts =
    then item (λ a. when sep (then (sep_list sep item m) λ xs. ret (a ∷ xs)) (ret (a ∷ []))) ts

-- each as long as its first lexeme comes: fewer than so many
unfoldable pub many : {X A : Type 0} → (Lexeme → Option X) → (X → Read A) → ℕ → Read (List A)
many f item zero ts = Err Deep
many f item (suc m) ts =
    begins f (λ x. then (item x) λ a. then (many f item m) λ xs. ret (a ∷ xs)) (ret []) ts

-- the terminal isn't next; nothing that begins an item is next
abbrev pub not_next : List ℕ → List Lexeme → Bool
not_next text [] = true
not_next text (t ∷ ts) = not (is_terminal text t)

abbrev pub is_none : {A : Type 0} → Option A → Bool
is_none None = true
is_none (Some a) = false

abbrev pub not_begun : {X : Type 0} → (Lexeme → Option X) → List Lexeme → Bool
not_begun f [] = true
not_begun f (t ∷ ts) = is_none (f t)

-- what was read before, and what is still read
abbrev pub with_front : {A : Type 0} → List A → Answer (List A) → Answer (List A)
with_front front r = r >>= λ x. Ok (front ++ x.0, x.1)
