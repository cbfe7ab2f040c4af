-- Variables that are declared can be written, where the declarations can.
use Rattle.std.proofs.Common.{◌≡◌, ℕ, Bool, true, false, ◌||◌, List, [], ◌∷◌, ◌++◌, map, refl, sym, subst}
use Rattle.std.specs.List.{list_all, list_any}
use Rattle.model_shapes.proofs.Truth.{both_true, false≢true}
use Rattle.model_shapes.proofs.Tests.{bytes-is}
use Rattle.model_terms.specs.Variables.{Var, prog, logic, bound}
use Rattle.model_terms.specs.Stores.{ProgVar, as_var}
use Rattle.model_commands.specs.Each.{Each}
use Rattle.model_files.specs.FileFaults.{share_name, is_known}
use Rattle.model_text.specs.Lexemes.{name_lexeme}
use Rattle.model_text.specs.Versions.{IsOfVersion}
use Rattle.model_grammar.specs.Writable.{IsName, IsLogicName}

-- one of two tests says yes
pub either_true : {P : Type 0} (a b : Bool) → (a ≡ true → P) → (b ≡ true → P)
    → (a || b) ≡ true → P
either_true true b f g e = f refl
either_true false b f g e = g e

pub each-both : {A : Type 0} (P : A → Type 0) (xs ys : List A) → Each P xs → Each P ys
    → Each P (xs ++ ys)
each-both P [] ys h k = k
each-both P (x ∷ xs) ys h k = (h.0, each-both P xs ys h.1 k)

pub each-parts : {A : Type 0} (P : A → Type 0) (xs ys : List A) → Each P (xs ++ ys)
    → Each P xs × Each P ys
each-parts P [] ys h = (tt, h)
each-parts P (x ∷ xs) ys h = let more = each-parts P xs ys h.1 in ((h.0, more.0), more.1)

-- each of the list passes the test, which gives what is asked of it
pub each-of-tested : {A : Type 0} (test : A → Bool) (P : A → Type 0)
    → ((x : A) → test x ≡ true → P x) → (xs : List A) → list_all test xs ≡ true → Each P xs
each-of-tested test P one [] e = tt
each-of-tested test P one (x ∷ xs) e =
    let both = both_true (test x) (list_all test xs) e in
    (one x both.0, each-of-tested test P one xs both.1)

module _ (version : ℕ) where
  -- the name can be written in a file of the version
  abbrev pub FitsName : List ℕ → Type 0
  FitsName name = IsName name × IsOfVersion version (name_lexeme name)

  -- so can the variable
  abbrev pub Fits : Var → Type 0
  Fits (prog name s) = FitsName name
  Fits (logic name s) = IsLogicName name
  Fits (bound i s) = ⊥

  share-fits : (x y : Var) → share_name x y ≡ true → Fits y → Fits x
  share-fits (prog name s) (prog other u) e h = subst FitsName (sym (bytes-is name other e)) h
  share-fits (logic name s) (logic other u) e h =
      subst IsLogicName (sym (bytes-is name other e)) h
  share-fits x y e h = false≢true e

  -- a variable that is declared is one of those that fit
  pub known-fits : (declared : List Var) → Each Fits declared → (x : Var)
      → is_known declared x ≡ true → Fits x
  known-fits [] h x e = false≢true e
  known-fits (y ∷ ys) h x e =
      either_true (share_name x y) (list_any (share_name x) ys) (λ f. share-fits x y f h.0)
      (known-fits ys h.1 x) e

  pub all-fit : (declared : List Var) → Each Fits declared → (xs : List Var)
      → list_all (is_known declared) xs ≡ true → Each Fits xs
  all-fit declared h = each-of-tested (is_known declared) Fits (known-fits declared h)

  pub names-fit : (xs : List ProgVar) → Each (λ x. Fits (as_var x)) xs → Each Fits (map as_var xs)
  names-fit [] h = tt
  names-fit (x ∷ xs) h = (h.0, names-fit xs h.1)
