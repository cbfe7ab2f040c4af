use Rattle.std.proofs.Common.{◌≡◌, ℕ, List, inl, inr, refl, sym, ◌∙◌, ap, subst}
use Rattle.std.proofs.Common.{Some, None, arith, rules, position, find, set, get_or, string_bytes}
use Rattle.outside_io.specs.Shelves.{Entry, has_name, shelf_book, faults_in}
use Rattle.outside_io.proofs.Entries.{find-None, find-Some, not_listed}
use Rattle.outside_io.proofs.Entries.{Raised, Raised-set, Raised-books, Raised-later}
use Rattle.outside_io.proofs.Pieces.{GivesPiece-put}
use Rattle.outside_io.proofs.shelf.ShelfLibrary.fetch.Goals as goal

-- the name isn't there
absent : (c : goal.After-self-in_default-1)
    → find (has_name c.args.name.now) c.self.inside.books.items ≡ None
absent c =
    find-None c.self.inside.books.items c.args.name.now
    (sym (c.in_default.ensures ∙ ap (position (has_name c.args.name.now)) c.deref.ensures.value))

pub returns-in_default-clause-cause : goal.returns-in_default-clause-cause
returns-in_default-clause-cause c =
    rw (← c.self.view_is, absent c) (omega (arith, c.saturating_add-self-inside-in_default.ensures))

pub returns-in_default-clause-fails : goal.returns-in_default-clause-fails
returns-in_default-clause-fails c = (λ _. inl (rw (← c.self.view_is, absent c) refl), λ _. refl)

pub returns-in_default-clause-raised : goal.returns-in_default-clause-raised
returns-in_default-clause-raised c =
    rw (← c.self.view_is, absent c) c.saturating_add-self-inside-in_default.ensures

pub returns-in_default-clause-further : goal.returns-in_default-clause-further
returns-in_default-clause-further c = λ some.
    let none = rw (← c.self.view_is, absent c) at some in absurd cc

-- the book at the place of the name, as it was
abbrev before : goal.After-self-then-contains-1 → Entry
before c =
    record {
      name = string_bytes c.book.inside.name;
      bytes = c.book.inside.bytes.items;
      faults = c.book.inside.faults;
    }

-- that book with its count raised
abbrev after : goal.After-self-then-contains-1 → Entry
after c =
    record {
      name = string_bytes c.book.inside.name;
      bytes = c.book.inside.bytes.items;
      faults = c.saturating_add-book-inside.result;
    }

-- all that changed is the count of that book
raised : (c : goal.After-self-then-contains-1)
    → Raised c.self.inside.books.items
    (set c.self.inside.books.items c.in-Some.place (after c)) c.args.name.now (before c) (after c)
raised c =
    let place = ap (position (has_name c.args.name.now)) c.deref.ensures.value in
    let at = sym (c.in-Some.ensures ∙ place) in
    Raised-set c.self.inside.books.items c.args.name.now c.in-Some.place (before c) (after c) at
    (subst (λ (b : Entry). b ≡ get_or c.self.inside.books.items c.in-Some.place b)
    (sym c.book.view_is) c.index_mut-book.ensures.value)
    refl refl c.saturating_add-book-inside.ensures

pub returns-then-contains-clause-kept : goal.returns-then-contains-clause-kept
returns-then-contains-clause-kept c = λ other told is.
    Raised-books _ _ c.args.name.now (before c) (after c) (raised c) other
    ∙ (rw (← c.self.view_is) at is)

pub returns-then-contains-clause-books : goal.returns-then-contains-clause-books
returns-then-contains-clause-books c = λ other.
    rw (← c.self.view_is)
    (Raised-books _ _ c.args.name.now (before c) (after c) (raised c) other)

pub returns-then-contains-clause-later : goal.returns-then-contains-clause-later
returns-then-contains-clause-later c = λ other.
    rw (← c.self.view_is)
    (Raised-later _ _ c.args.name.now (before c) (after c) _ (search rules) (raised c) other)

pub returns-then-contains-clause-raised : goal.returns-then-contains-clause-raised
returns-then-contains-clause-raised c =
    rw (← c.self.view_is, (raised c).now, (raised c).found) (raised c).count

pub returns-then-contains-clause-cause : goal.returns-then-contains-clause-cause
returns-then-contains-clause-cause c =
    rw (← c.self.view_is, (raised c).now, (raised c).found) (omega (arith, (raised c).count))

pub returns-then-contains-clause-others : goal.returns-then-contains-clause-others
returns-then-contains-clause-others c = λ other differs some.
    rw (← c.self.view_is)
    (ap (faults_in c.self.inside.further) ((raised c).others other differs))

-- the book at the place of the name has it
present : (c : goal.After-slice_known-2-1)
    → find (has_name c.args.name.now) c.self.inside.books.items ≡ Some c.index-book.result.now
present c =
    find-Some c.self.inside.books.items c.args.name.now c.in-Some.place _
    (sym (c.in-Some.ensures ∙ ap (position (has_name c.args.name.now)) c.deref.ensures.value))
    c.index-book.ensures

-- a book that is told is that one
told_is : (c : goal.After-slice_known-2-1) (told : List ℕ)
    → shelf_book c.args.self.now c.args.name.now ≡ Some told → c.deref-3.result.now ≡ told
told_is c told is =
    let here = rw (← c.self.view_is, present c, ← c.book-2.view_is) at is in
    c.deref-3.ensures.value ∙ cc

pub returns-clause-bytes : goal.returns-clause-bytes
returns-clause-bytes c = λ told is.
    rw (← told_is c told is) (GivesPiece-put _ c.args.into.now _ c.args.at _ c.copy_piece.ensures)

pub returns-clause-fails : goal.returns-clause-fails
returns-clause-fails c =
    let call = c.saturating_add-self-inside.result in
    let unlisted = not_listed c.deref-2.result.now call c.if-contains.ensures.cases in (
      λ no. absurd cc,
      λ fails. elim fails [
        | inl none ↦ let some = rw (← c.self.view_is, present c) at none in absurd cc
        | inr there ↦
            absurd
            (unlisted
            (rw (c.deref-2.ensures.value, c.saturating_add-self-inside.ensures)
            (rw (← c.self.view_is) at there)))
      ],
    )

pub returns-clause-piece : goal.returns-clause-piece
returns-clause-piece c = λ told is. rw (← told_is c told is) c.copy_piece.ensures
