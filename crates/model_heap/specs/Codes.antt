-- Needn't be believed: it is how the value that contracts see of a heap is kept, which nothing
-- depends on. Trees as lists of tokens, from which a stack machine makes them again.
use Rattle.std.specs.Prelude.{◌≡◌, ℕ, List, [], ◌∷◌, ◌++◌, refl}
use Rattle.std.proofs.Common.{zero, suc, ap, sym, ◌∙◌, append_assoc}
use Rattle.std.specs.Coded.{Coded, code_by, coded×, coded_ℕ, coded_list}
use Rattle.model_shapes.specs.Trees.{Trees, none, node, hole}

-- what is made, and for a node its name and numbers
abbrev pub Token : Type 0
Token = ℕ × (List ℕ × (ℕ × ℕ))

-- the parts of a tree before it
abbrev pub tokens : Trees → List Token
tokens none = (0, ([], (0, 0))) ∷ []
tokens (node name number kids list rest) = tokens kids
    ++ (tokens rest ++ (1, (name, (number, list))) ∷ [])
tokens (hole rest) = tokens rest ++ (2, ([], (0, 0))) ∷ []

-- one step: parts are taken from the stack, and what is made is put there
abbrev pub step : Token → List Trees → List Trees
step (zero, m) st = none ∷ st
step (suc zero, m) (rest ∷ kids ∷ st) = node m.0 m.1.0 kids m.1.1 rest ∷ st
step (suc (suc k), m) (rest ∷ st) = hole rest ∷ st
step m st = st

-- all steps
abbrev pub steps : List Token → List Trees → List Trees
steps [] st = st
steps (m ∷ ms) st = steps ms (step m st)

-- what lies on top
abbrev pub first : List Trees → Trees
first [] = none
first (t ∷ st) = t

-- the tokens of a tree put it on the stack
pub steps-tokens : (t : Trees) (ms : List Token) (st : List Trees) → steps (tokens t ++ ms) st
    ≡ steps ms (t ∷ st)
steps-tokens none ms st = refl
steps-tokens (node name number kids list rest) ms st =
    ap (λ x. steps x st) (append_assoc (tokens kids)
    (tokens rest ++ (1, (name, (number, list))) ∷ []) ms
    ∙ ap (λ x. tokens kids ++ x) (append_assoc (tokens rest) ((1, (name, (number, list))) ∷ []) ms))
    ∙ steps-tokens kids (tokens rest ++ (1, (name, (number, list))) ∷ ms) st
    ∙ steps-tokens rest ((1, (name, (number, list))) ∷ ms) (kids ∷ st)
steps-tokens (hole rest) ms st = ap (λ x. steps x st)
    (append_assoc (tokens rest) ((2, ([], (0, 0))) ∷ []) ms)
    ∙ steps-tokens rest ((2, ([], (0, 0))) ∷ ms) st

append_nil : (xs : List Token) → xs ++ [] ≡ xs
append_nil [] = refl
append_nil (x ∷ xs) = ap (λ z. x ∷ z) (append_nil xs)

-- so it is made again
pub first-tokens : (t : Trees) → first (steps (tokens t) []) ≡ t
first-tokens t = ap (λ x. first (steps x [])) (sym (append_nil (tokens t)))
    ∙ ap first (steps-tokens t [] [])

-- how trees are kept
abbrev pub trees_code : Coded Trees
trees_code = code_by (List Token) (coded_list
    (coded× coded_ℕ (coded× (coded_list coded_ℕ) (coded× coded_ℕ coded_ℕ)))) tokens
    (λ ms. first (steps ms [])) first-tokens
