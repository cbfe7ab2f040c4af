-- What a table has after one more declaration.
use Rattle.std.proofs.Common.{◌≡◌, ◌∙◌, sym, refl, ap, subst, ℕ, List, [], ◌∷◌, ◌++◌, Bool, true, false, not, ◌&&◌, ◌||◌, cond, Option, Some, None, is_some, is_none, bytes_eq}
use Rattle.std.specs.List.{list_any}
use Rattle.std.specs.Option.{option_map}
use Rattle.std.proofs.lemmas.List.Folds.{list_any-append}
use Rattle.std.proofs.lemmas.Slice.Eq.{bytes_eq-Decides}
use Rattle.model_terms.specs.TermLimits.{or_else}
use Rattle.model_commands.specs.SortTests.{distinct_by}
use Rattle.name_table.proofs.RowLaws.{turned}
use Rattle.dom_syntax.specs.declared.tables.Table.{Table}
use Rattle.dom_syntax.specs.Tables.{Declaration, Declares, first_of, found, share}

module _ {W : Type 0} where
  first-step : (b : Bool) (o p q : Option W) (w : W) → q ≡ or_else o p
      → cond b (Some w) q ≡ or_else (cond b (Some w) o) p
  first-step true o p q w e = refl
  first-step false o p q w e = e

  -- what a name is declared as in one list of declarations behind another
  pub first-append : (ds es : List (Declaration W)) (name : List ℕ)
      → first_of (ds ++ es) name ≡ or_else (first_of ds name) (first_of es name)
  first-append [] es name = refl
  first-append (d ∷ ds) es name =
      first-step (bytes_eq name d.0) (first_of ds name) (first_of es name)
      (first_of (ds ++ es) name)
      d.1 (first-append ds es name)

  arranged : (a b c : Bool) (o : Option W) (w : W)
      → (not (a || (b || false)) && (c && is_none o))
      ≡ ((not a && c) && is_none (cond b (Some w) o))
  arranged true b c o w = refl
  arranged false true true o w = refl
  arranged false true false o w = refl
  arranged false false c o w = refl

  -- one more declaration of another name
  pub distinct-more : (ds : List (Declaration W)) (d : Declaration W)
      → distinct_by share (ds ++ d ∷ []) ≡ (distinct_by share ds && is_none (first_of ds d.0))
  distinct-more [] d = refl
  distinct-more (x ∷ ds) d =
      (λ j. not (list_any-append (share x) ds (d ∷ []) j) && distinct-more ds d j)
      ∙ (λ j. not (list_any (share x) ds || (turned x.0 d.0 j || false))
      && (distinct_by share ds && is_none (first_of ds d.0)))
      ∙ arranged (list_any (share x) ds) (bytes_eq d.0 x.0) (distinct_by share ds)
      (first_of ds d.0) x.1

module _ {V W : Type 0} (seen : V → W) where
  none-seen : (o : Option V) → is_none o ≡ is_none (option_map seen o)
  none-seen None = refl
  none-seen (Some v) = refl

  some-is : (o : Option V) (w : W) → is_some o ≡ true → (b : Bool)
      → option_map seen o ≡ or_else (option_map seen o) (cond b (Some w) None)
  some-is (Some v) w e b = refl
  some-is None w e b = absurd (cc)

  not-none : (o : Option V) → is_some o ≡ true → (b : Bool) → true ≡ not (b && is_none o)
  not-none (Some v) e true = refl
  not-none (Some v) e false = refl
  not-none None e b = absurd (cc)

  -- NAMES THAT ARE THERE
  module _ (table : Table V) (name : List ℕ) (w : W)
      (there : is_some (found table name) ≡ true) where
    again-at : (q : List ℕ) (b : Bool) → bytes_eq q name ≡ b
        → option_map seen (found table q)
        ≡ or_else (option_map seen (found table q)) (cond b (Some w) None)
    again-at q true e =
        some-is (found table q) w
        (subst (λ z. is_some (found table z) ≡ true) (sym ((bytes_eq-Decides q name).0 e)) there)
        true
    again-at q false e = or-none (option_map seen (found table q))
      where
        or-none : (o : Option W) → o ≡ or_else o None
        or-none None = refl
        or-none (Some x) = refl

    pub declared-again : (ds : List (Declaration W)) → Declares seen table ds
        → Declares seen (record { first = table.first; repeats = true }) (ds ++ (name, w) ∷ [])
    declared-again ds h = record {
      first = λ q. again-at q (bytes_eq q name) refl
          ∙ ap (λ o. or_else o (cond (bytes_eq q name) (Some w) None)) (h.first q)
          ∙ sym (first-append ds ((name, w) ∷ []) q);
      repeats = not-none (found table name) there (distinct_by share ds)
          ∙ (λ j. not (distinct_by share ds && none-seen (found table name) j))
          ∙ (λ j. not (distinct_by share ds && is_none (h.first name j)))
          ∙ ap not (sym (distinct-more ds (name, w)));
    }

  -- NEW NAMES
  new-first : (o p : Option V) (v : V) (b : Bool) → (b ≡ true → is_some o ≡ false)
      → p ≡ cond b (Some v) o
      → option_map seen p ≡ or_else (option_map seen o) (cond b (Some (seen v)) None)
  new-first None p v true none e = ap (option_map seen) e
  new-first None p v false none e = ap (option_map seen) e
  new-first (Some x) p v true none e = absurd (absent (none refl))
    where
      absent : true ≡ false → ⊥
      absent e = cc
  new-first (Some x) p v false none e = ap (option_map seen) e

  still : (o : Option V) → is_some o ≡ false → (b : Bool) → not b ≡ not (b && is_none o)
  still None e true = refl
  still None e false = refl
  still (Some v) e b = absurd (cc)

  module _ (table : Table V) (name : List ℕ) (v : V) (new : Table V)
      (absent : is_some (found table name) ≡ false) (flag : new.repeats ≡ table.repeats)
      (has : (q : List ℕ) → found new q ≡ cond (bytes_eq q name) (Some v) (found table q)) where
    new-at : (q : List ℕ)
        → option_map seen (found new q)
        ≡ or_else (option_map seen (found table q)) (cond (bytes_eq q name) (Some (seen v)) None)
    new-at q =
        new-first (found table q) (found new q) v (bytes_eq q name)
        (λ e. subst (λ z. is_some (found table z) ≡ false)
        (sym ((bytes_eq-Decides q name).0 e)) absent) (has q)

    pub declared-new : (ds : List (Declaration W)) → Declares seen table ds
        → Declares seen new (ds ++ (name, seen v) ∷ [])
    declared-new ds h = record {
      first = λ q. new-at q
          ∙ ap (λ o. or_else o (cond (bytes_eq q name) (Some (seen v)) None)) (h.first q)
          ∙ sym (first-append ds ((name, seen v) ∷ []) q);
      repeats = flag ∙ h.repeats ∙ still (found table name) absent (distinct_by share ds)
          ∙ (λ j. not (distinct_by share ds && none-seen (found table name) j))
          ∙ (λ j. not (distinct_by share ds && is_none (h.first name j)))
          ∙ ap not (sym (distinct-more ds (name, seen v)));
    }
