-- Changes are told step by step on groves that are the same up to the order of roots.
use Rattle.std.proofs.Common.{◌≡◌, ℕ, suc, List, [], ◌∷◌, ◌++◌, refl, sym, ap, ◌∙◌, subst}
use Rattle.model_shapes.specs.Sorts.{shape, grove}
use Rattle.model_shapes.specs.Trees.{Trees}
use Rattle.model_shapes.specs.Shapes.{SameAt, Shaped}
use Rattle.model_shapes.proofs.Shapes.{SameAt-sym, SameAt-trans, same-Shaped}
use Rattle.model_terms.specs.Stores.{ProperStore}
use Rattle.model_commands.specs.SortTests.{BodiesSorted}
use Rattle.model_commands.specs.Theories.{Procedures}
use Rattle.model_groves.specs.Picks.{next_pick}
use Rattle.model_machine.specs.Machine.{Piece, Move, becomes, faults, bad_pick, move, Config, configuration, next, stepped, step}
use Rattle.model_machine.specs.Changes.{Change, change_of, listed_first, changes}
use Rattle.model_machine.specs.Fitting.{FitPieces, FitsConfig}
use Rattle.model_machine.specs.SameMoves.{SameMove}
use Rattle.model_machine.proofs.Fine.{step-fits}
use Rattle.model_machine.proofs.SameRuns.{same-move}
use Rattle.trace_laws.specs.Traced.{Traced}
use Rattle.trace_laws.specs.Followed.{Followed}
use Rattle.trace_laws.proofs.SameChanges.{same-next, same-change}
use Rattle.trace_laws.proofs.Told.{nothing_yet, at_step, all_so_far}

-- the same pieces, the same store and the same grove
abbrev Alike : Config → Config → Type 0
Alike config other =
    (config.pending ≡ other.pending) × (config.store ≡ other.store)
    × SameAt grove config.grove other.grove

-- moves that are the same lead to what is the same
leads_alike : (rest : List Piece) (m m' : Move) (mid : Config) → SameMove m m'
    → stepped rest m' ≡ next mid
    → (config : Config) × (stepped rest m ≡ next config) × Alike config mid
leads_alike rest (becomes xs st g) (becomes ys st' g') mid same e =
    let is : configuration (ys ++ rest) st' g' ≡ mid = cc in (
      configuration (xs ++ rest) st g,
      refl,
      subst (Alike (configuration (xs ++ rest) st g)) is
          (ap (λ zs. zs ++ rest) same.0, same.1, same.2),
    )
leads_alike rest m (faults kind) mid same e = absurd cc
leads_alike rest m bad_pick mid same e = absurd cc
leads_alike rest (faults kind) (becomes ys st' g') mid same e = absurd same
leads_alike rest bad_pick (becomes ys st' g') mid same e = absurd same

module _ (run : ℕ → List Change) (ps : Procedures) (steps : ℕ) (so_far : List Change)
    (here : Config) (f : Followed run ps steps so_far here) where
  abbrev there : Config
  there = configuration here.pending here.store f.roots

  abbrev change_in : Config → List Change
  change_in config = listed_first (change_of (suc steps) (next_pick config.grove) config) []

  steps_alike : (mid : Config) → step ps here (next_pick here.grove) ≡ next mid
      → (config : Config) × (step ps there (next_pick there.grove) ≡ next config)
      × Alike config mid
  steps_alike mid e =
      subst (λ p. (config : Config) × (step ps there p ≡ next config) × Alike config mid)
      (sym (same-next f.roots here.grove f.same f.fits.fine.whole.well_formed))
      (by_pending here.pending e)
    where
      by_pending : (k : List Piece)
          → step ps (configuration k here.store here.grove) (next_pick here.grove) ≡ next mid
          → (config : Config) × (step ps (configuration k here.store f.roots)
          (next_pick here.grove) ≡ next config) × Alike config mid
      by_pending [] d = absurd cc
      by_pending (x ∷ k) d =
          leads_alike k (move ps (next_pick here.grove) x here.store f.roots)
          (move ps (next_pick here.grove) x here.store here.grove) mid
          (same-move f.roots here.grove f.same f.fits.fine.whole.well_formed ps
          (next_pick here.grove) x here.store) d

  -- the next step
  pub followed_next : BodiesSorted ps → (mid after : Config)
      → step ps here (next_pick here.grove) ≡ next mid
      → mid.pending ≡ after.pending → mid.store ≡ after.store
      → SameAt grove mid.grove after.grove
      → Followed run ps (suc steps) (so_far
      ++ listed_first (change_of (suc steps) (next_pick here.grove) here) []) after
  followed_next bodies mid after e pending store same =
      let s = steps_alike mid e in
      let is_left : s.0 ≡ configuration after.pending after.store s.0.grove =
      λ i. configuration ((s.2.0 ∙ pending) i) ((s.2.1 ∙ store) i) s.0.grove in
      let own : change_of (suc steps) (next_pick there.grove) there
      ≡ change_of (suc steps) (next_pick here.grove) here =
      same-change f.roots here.grove f.same f.fits.fine.whole.well_formed (suc steps) here.pending
      here.store in
      record {
        roots = s.0.grove;
        same = SameAt-trans grove s.0.grove mid.grove after.grove s.2.2 same;
        fits = subst (FitsConfig ps) is_left
            (step-fits ps bodies (next_pick there.grove) there s.0 f.fits s.1);
        traced = subst (λ o. Traced run ps (suc steps) (so_far ++ listed_first o [])
            (configuration after.pending after.store s.0.grove)) own
            (subst (Traced run ps (suc steps) (so_far ++ change_in there)) is_left
            (at_step run ps steps so_far there s.0 f.traced s.1));
      }

  -- the changes so far are those of the steps taken
  pub followed_told : run steps ≡ so_far
  followed_told = all_so_far run ps steps so_far there f.traced

-- where a run begins, in any order of the roots
pub followed_start : (ps : Procedures) (here : Config) (roots : Trees)
    → SameAt grove roots here.grove → FitPieces ps here.pending → ProperStore here.store
    → Shaped (shape grove) here.grove
    → Followed (λ n. changes ps n 0 (configuration here.pending here.store roots)) ps 0 [] here
followed_start ps here roots same pieces proper whole = record {
  roots = roots;
  same = same;
  fits = record {
    pieces = pieces;
    fine = record {
      proper = proper;
      whole = same-Shaped (shape grove) here.grove roots (SameAt-sym grove roots here.grove same)
          whole;
    };
  };
  traced = nothing_yet ps (configuration here.pending here.store roots);
}
