-- Judgements of a node, and of one tree with nothing beside it.
use Rattle.std.proofs.Common.{◌≡◌, ◌≢◌, ◌∙◌, ◌≤◌, ◌<◌, ◌==◌, pos, get_or, cond, Bool, true, false, not, ◌&&◌, List, [], ◌∷◌, length, Result, Ok, IfOk, refl, ap, sym, subst, arith}
use Rattle.std.specs.List.{slice_range}
use Rattle.model_shapes.specs.Values.{node_number, list_number, str, int}
use Rattle.model_shapes.specs.Things.{val}
use Rattle.model_shapes.specs.Trees.{Trees, none, node, hole, width}
use Rattle.model_heap.proofs.Moves.{test_yes}
use Rattle.model_terms.specs.Terms.{Term}
use Rattle.model_terms.specs.Stores.{Store}
use Rattle.model_formulas.specs.Formulas.{Named, negation, node_formula, one_tree, one_root, grove_sum, length_is}
use Rattle.model_watch.specs.Watchable.{is_root}
use Rattle.model_formulas.specs.Satisfaction.{meaning_of}
use Rattle.model_watch.specs.Watching.{any_root, same_thing}
use Rattle.dom_terms.specs.declared.memory.OutOfMemory.{OutOfMemory}
use Rattle.dom_watch.specs.declared.rows.Row.{Row}
use Rattle.dom_watch.specs.declared.bindings.Bindings.{Bindings}
use Rattle.dom_watch.specs.Rows.{Shows}
use Rattle.dom_watch.specs.Judged.{environment, Tells, TellsRoot}
use Rattle.dom_watch.proofs.Cuts.{shown_width}
use Rattle.dom_watch.proofs.Connected.{truth_of, Said}

together : (a b c d : Bool) → ((a && (b && c)) && d) ≡ (a && (b && (c && d)))
together true true c d = refl
together true false c d = refl
together false b c d = refl

module _ (all : List Row) (store : Store) (b : Bindings) where
  pub denied : (p n : Named) (rows : List Row) (told : Bool) → n ≡ negation p
      → Said all store b p rows told → Tells all store b n rows (Ok (not told))
  denied p n rows told is said f h =
      subst (λ m. not told ≡ truth_of all store b m f) (sym is) (ap not (said f h))

  -- the terms of a node formula are what stands at the row
  abbrev pub is_called : Term → Term → Term → Row → Bool
  is_called name number list x =
      same_thing (val (str x.name.now)) (meaning_of (environment b store) name)
      && (same_thing (val (node_number x.number)) (meaning_of (environment b store) number)
      && same_thing (val (list_number x.list)) (meaning_of (environment b store) list))

  module _ (name number list : Term) (p n : Named) (is : n ≡ node_formula name number p list) where
    node_means : (x : Row) (f : Trees) → Shows all (x ∷ []) f
        → (k : Trees) × Shows all (slice_range all x.first x.end) k
        × (truth_of all store b n f ≡ (is_called name number list x && truth_of all store b p k))
    node_means x none h = absurd h
    node_means x (hole rest) h = absurd h
    node_means x (node s i k l (hole rest)) h = absurd h.6
    node_means x (node s i k l (node s' i' k' l' rest)) h = absurd h.6
    node_means x (node s i k l none) h = (
      k,
      h.5,
      ap (λ m. truth_of all store b m (node s i k l none)) is
          ∙ (λ j. same_thing (val (str (sym h.0 j))) (meaning_of (environment b store) name)
          && (same_thing (val (node_number (sym h.1 j))) (meaning_of (environment b store) number)
          && (same_thing (val (list_number (sym h.2 j))) (meaning_of (environment b store) list)
          && truth_of all store b p k)))
          ∙ sym (together (same_thing (val (str x.name.now))
          (meaning_of (environment b store) name))
          (same_thing (val (node_number x.number)) (meaning_of (environment b store) number))
          (same_thing (val (list_number x.list)) (meaning_of (environment b store) list))
          (truth_of all store b p k)),
    )

    pub node_on : (x : Row) (told : Bool) (answer : Result Bool OutOfMemory) → told ≡ true
        → told ≡ is_called name number list x
        → Tells all store b p (slice_range all x.first x.end) answer
        → Tells all store b n (x ∷ []) answer
    node_on x told answer e called tells f h =
        let w = node_means x f h in
        subst (λ z. IfOk answer (λ y. y ≡ z)) (sym w.2)
        (subst (λ z. IfOk answer (λ y. y ≡ (z && truth_of all store b p w.0))) (sym e ∙ called)
        (tells w.0 w.1))

    pub node_off : (x : Row) (told : Bool) → told ≡ false → told ≡ is_called name number list x
        → Tells all store b n (x ∷ []) (Ok false)
    node_off x told e called f h =
        let w = node_means x f h in
        subst (λ z. false ≡ z) (sym w.2)
        (subst (λ z. false ≡ (z && truth_of all store b p w.0)) (sym e ∙ called) refl)

    pub node_beside : (rows : List Row) → length rows ≢ 1 → Tells all store b n rows (Ok false)
    node_beside rows d f h = subst (λ m. false ≡ truth_of all store b m f) (sym is) (by_trees f h)
      where
        by_trees : (f : Trees) → Shows all rows f
            → false ≡ truth_of all store b (node_formula name number p list) f
        by_trees none h = refl
        by_trees (hole rest) h = refl
        by_trees (node s i k l (node s' i' k' l' rest)) h = refl
        by_trees (node s i k l (hole rest)) h = refl
        by_trees (node s i k l none) h =
            absurd (d (sym (shown_width all rows (node s i k l none) h)))

  -- <P> and [P]
  module _ (p : Named) (rows : List Row) where
    pub tree_on : (answer : Result Bool OutOfMemory) → length rows ≡ 1
        → Tells all store b p rows answer → Tells all store b (one_tree p) rows answer
    tree_on answer e tells f h =
        let w : (width f == 1) ≡ true = test_yes _ _ (shown_width all rows f h ∙ e) in
        subst (λ z. IfOk answer (λ y. y ≡ (z && truth_of all store b p f))) (sym w) (tells f h)

    pub root_on : (answer : Result Bool OutOfMemory) → length rows ≡ 1
        → Tells all store b p rows answer → Tells all store b (one_root p) rows answer
    root_on answer e tells f h = tree_on answer e tells f h

-- the only row of a list of one
pub alone : (rows : List Row) (x : Row) → 1 ≤ length rows → length rows < 2 → x ≡ get_or rows 0 x
    → rows ≡ x ∷ []
alone [] x h k e = absurd (omega (arith, h))
alone (y ∷ []) x h k e = ap (λ z. z ∷ []) (sym e)
alone (y ∷ z ∷ rows) x h k e = absurd (omega (arith, k))

-- the children of one node
pub kids_shown : (all : List Row) (x : Row) (f : Trees) → Shows all (x ∷ []) f
    → (k : Trees) × Shows all (slice_range all x.first x.end) k
kids_shown all x none h = absurd h
kids_shown all x (hole rest) h = absurd h
kids_shown all x (node s i k l rest) h = (k, h.5)

module _ (all : List Row) (store : Store) (b : Bindings) (rows : List Row)
    (answer : Result Bool OutOfMemory)
  where
    pub plus_on : (p q n : Named) → n ≡ grove_sum p q → is_root p ≡ true
        → TellsRoot all store b p q rows answer → Tells all store b n rows answer
    plus_on p q n is r tells f h =
        subst (λ m. IfOk answer (λ y. y ≡ truth_of all store b m f)) (sym is)
        (subst (λ t. IfOk answer (λ y. y ≡ cond t
        (any_root (λ x o. truth_of all store b p x && truth_of all store b q o) f)
        (any_root (λ x o. truth_of all store b q x && truth_of all store b p o) f)))
        (sym r) (tells f h))

    pub plus_off : (p q n : Named) → n ≡ grove_sum p q → is_root p ≡ false
        → TellsRoot all store b q p rows answer → Tells all store b n rows answer
    plus_off p q n is r tells f h =
        subst (λ m. IfOk answer (λ y. y ≡ truth_of all store b m f)) (sym is)
        (subst (λ t. IfOk answer (λ y. y ≡ cond t
        (any_root (λ x o. truth_of all store b p x && truth_of all store b q o) f)
        (any_root (λ x o. truth_of all store b q x && truth_of all store b p o) f)))
        (sym r) (tells f h))

    pub length_on : (a : Term) (n : Named) → n ≡ length_is a
        → IfOk answer (λ y. y ≡ same_thing (val (int (pos (length rows))))
        (meaning_of (environment b store) a)) → Tells all store b n rows answer
    length_on a n is tells f h =
        subst (λ m. IfOk answer (λ y. y ≡ truth_of all store b m f)) (sym is)
        (subst (λ k. IfOk answer (λ y. y ≡ same_thing (val (int (pos k)))
        (meaning_of (environment b store) a))) (sym (shown_width all rows f h)) tells)
