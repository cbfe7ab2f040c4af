-- What a loop has gathered from the items of a list that it has passed.
use Rattle.std.proofs.Common.{◌≡◌, ◌∙◌, sym, refl, ap, ℕ, suc, ◌+◌, ◌<◌, ◌≤◌, List, [], ◌∷◌, ◌++◌, length, get_or, drop, drop-cons, add-one, subst, append_assoc, append-nil}
use Rattle.std.proofs.lemmas.List.{drop_all}

-- From whatever was held before, something is held now that gives, with what is to come, all.
abbrev pub Leads : {D : Type 0} → (List D → Type 0) → (List D → Type 0) → List D → List D → Type 0
Leads {D} Before Now all rest =
    (ds : List D) → Before ds → (done : List D) × Now done × (done ++ rest ≡ ds ++ all)

module _ {D : Type 0} where
  -- at the start
  pub leads-first : (Before : List D → Type 0) (all : List D) → Leads Before Before all all
  leads-first Before all = λ ds h. (ds, h, refl)

  -- at the end
  pub leads-last : (Before Now : List D → Type 0) (all : List D) → Leads Before Now all []
      → (ds : List D) → Before ds → Now (ds ++ all)
  leads-last Before Now all h ds b =
      let got : (done : List D) × Now done × (done ++ [] ≡ ds ++ all) = h ds b in
      let e : got.0 ≡ ds ++ all = sym (append-nil got.0) ∙ got.2 in
      subst Now e got.1

  -- over one item
  pub leads-next : (Before Now Then : List D → Type 0) (all es rest : List D)
      → Leads Before Now all (es ++ rest) → ((ds : List D) → Now ds → Then (ds ++ es))
      → Leads Before Then all rest
  leads-next Before Now Then all es rest h more = λ ds b.
      let got : (done : List D) × Now done × (done ++ (es ++ rest) ≡ ds ++ all) = h ds b in
      (got.0 ++ es, more got.0 got.1, append_assoc got.0 es rest ∙ got.2)

  -- over the item at an index, where the list is gathered item by item
  pub leads-item : {T : Type 0} (F : List T → List D) (f : T → List D)
      → ((x : T) (xs : List T) → F (x ∷ xs) ≡ f x ++ F xs)
      → (Before Now Then : List D → Type 0) (all : List D) (xs : List T) (i : ℕ) (x : T)
      → i < length xs → x ≡ get_or xs i x → Leads Before Now all (F (drop i xs))
      → ((ds : List D) → Now ds → Then (ds ++ f x)) → Leads Before Then all (F (drop (i + 1) xs))
  leads-item F f cons Before Now Then all xs i x lt is h more =
      leads-next Before Now Then all (f x) (F (drop (i + 1) xs))
      (subst (λ es. Leads Before Now all es) cut h) more
    where
      cut : F (drop i xs) ≡ f x ++ F (drop (i + 1) xs)
      cut =
          ap F (drop-cons xs i x lt) ∙ cons (get_or xs i x) (drop (suc i) xs)
          ∙ (λ j. f (sym is j) ++ F (drop (sym (add-one i) j) xs))

  -- past the last item
  pub leads-end : {T : Type 0} (F : List T → List D) → F [] ≡ []
      → (Before Now : List D → Type 0) (all : List D) (xs : List T) (i : ℕ) → length xs ≤ i
      → Leads Before Now all (F (drop i xs)) → (ds : List D) → Before ds → Now (ds ++ all)
  leads-end F none Before Now all xs i le h =
      leads-last Before Now all
      (subst (λ es. Leads Before Now all es) (ap F (drop_all i xs le) ∙ none) h)
