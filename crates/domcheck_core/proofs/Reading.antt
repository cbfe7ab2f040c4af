-- What is read from a book, told or not.
use Rattle.std.proofs.Common.{◌≡◌, ◌<◌, ℕ, zero, suc, List, [], ◌∷◌, length, Option, Some, None, refl, arith, subst, ◌∙◌}
use Rattle.outside_io.specs.Causes.{Told}
use Rattle.domcheck_core.specs.Books.{ReadFrom}

-- some list is longer than this
some_long : (n : ℕ) → (bytes : List ℕ) × (n < length bytes)
some_long zero = (0 ∷ [], omega arith)
some_long (suc n) = let shorter = some_long n in (0 ∷ shorter.0, omega (arith, shorter.1))

-- a book that is too long where it is told: some bytes are, and where it is told they are its own
pub read_long : (most : ℕ) (book : Option (List ℕ)) → Told book (λ b. most < length b)
    → ReadFrom book (λ b. most < length b)
read_long most (Some bytes) h = (bytes, h bytes refl, λ b e. cc)
read_long most None h = let long = some_long most in (long.0, long.1, λ b e. absurd cc)

-- of a book that isn't read anything holds that holds of all bytes
pub unread_book : (Has : List ℕ → Type 0) (book : Option (List ℕ)) → ((b : List ℕ) → Has b)
    → ReadFrom book Has
unread_book Has (Some bytes) h = (bytes, h bytes, λ b e. cc)
unread_book Has None h = ([], h [], λ b e. absurd cc)

-- what holds of the bytes in hand holds of those that were read, and what follows from it
pub in_hand : (Has : List ℕ → Type 0) (book : Option (List ℕ)) (bytes slice : List ℕ)
    → ReadFrom book (λ b. bytes ≡ b) → slice ≡ bytes → Has slice → ReadFrom book Has
in_hand Has book bytes slice read e h = (read.0, subst Has (e ∙ read.1) h, read.2)

pub weaker : (P Has : List ℕ → Type 0) (book : Option (List ℕ)) → ((b : List ℕ) → P b → Has b)
    → ReadFrom book P → ReadFrom book Has
weaker P Has book f read = (read.0, f read.0 read.1, read.2)
