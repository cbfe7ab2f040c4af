-- What a contract sees of an observer, and what it is when it was told changes.
use Rattle.std.specs.Prelude.{◌≡◌, ℕ, List, [], ◌∷◌, take, map}
use Rattle.model_machine.specs.Changes.{Change}

-- what an observer holds, what it holds after a change, and what it says of it
pub record Listener : Type 0 where
  pub face : List ℕ
  pub after : List ℕ → Change → List ℕ
  pub says : List ℕ → List ℕ

-- what it says
abbrev pub said_by : Listener → List ℕ
said_by listener = listener.says listener.face

-- told one change
abbrev pub told : Change → Listener → Listener
told change listener = record {
  face = listener.after listener.face change;
  after = listener.after;
  says = listener.says;
}

-- told changes, in order
abbrev pub told_all : List Change → Listener → Listener
told_all [] listener = listener
told_all (change ∷ changes) listener = told_all changes (told change listener)

-- each was told the first few of the changes
abbrev pub ToldSome : List Change → List Listener → List Listener → Type 0
ToldSome changes [] [] = Unit
ToldSome changes (before ∷ others) (after ∷ more) =
    ((n : ℕ) × (after ≡ told_all (take n changes) before)) × ToldSome changes others more
ToldSome changes before after = ⊥

-- observers of any kind that tells of each its face, what it holds after a change and what it says
module _ {Observer : Type 0} (face : Observer → List ℕ)
    (after : Observer → List ℕ → Change → List ℕ) (says : Observer → List ℕ → List ℕ) where
  -- an observer
  abbrev pub listener_of : Observer → Listener
  listener_of observer = record {
    face = face observer;
    after = after observer;
    says = says observer;
  }

  -- all of a list, in their order
  abbrev pub listeners_of : List Observer → List Listener
  listeners_of = map listener_of
