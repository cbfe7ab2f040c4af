-- Runs, piece by piece.
use Rattle.std.proofs.Common.{ℕ, zero, suc, ◌≤◌, List, [], ◌∷◌, ◌++◌, length, subst, arith, append_assoc}
use Rattle.model_shapes.specs.Trees.{Trees}
use Rattle.model_terms.specs.Stores.{Store}
use Rattle.model_commands.specs.Theories.{Procedures}
use Rattle.model_groves.specs.Picks.{Pick}
use Rattle.model_machine.specs.Machine.{Piece, Move, becomes, faults, bad_pick, move, configuration, stepped, RunOutcome, running, ended, fault, picked_badly, after_step, runs}
use Rattle.model_machine.specs.ClassicalTriples.{Ends}

-- where a run stands after a move of its first piece
abbrev pub moved_on : Procedures → List Pick → Piece → List Piece → Store → Trees → Move
    → RunOutcome
moved_on th ps x rest st g m =
    after_step (runs th ps) (configuration (x ∷ rest) st g) (stepped rest m)

-- what is asked of an end may be weakened
pub Ends-map : (F : Type 0) (J K : Store → Trees → Type 0) (o : RunOutcome)
    → ((st : Store) (g : Trees) → J st g → K st g) → Ends F J o → Ends F K o
Ends-map F J K running f m = tt
Ends-map F J K picked_badly f m = tt
Ends-map F J K (fault x) f m = m
Ends-map F J K (ended st g) f m = f st g m

module _ (th : Procedures) (F : Type 0) where
  -- runs of at most n steps from here end well
  abbrev pub Well : ℕ → (Store → Trees → Type 0) → List Piece → Store → Trees → Type 0
  Well n J k st g = (ps : List Pick) → length ps ≤ n → Ends F J (runs th ps (configuration k st g))

  -- the same of the runs after a move
  abbrev pub WellOn : ℕ → (Store → Trees → Type 0) → List Piece → Move → Type 0
  WellOn n J rest (becomes ys st g) = Well n J (ys ++ rest) st g
  WellOn n J rest (faults f) = F
  WellOn n J rest bad_pick = Unit

  -- fewer steps end well too
  pub Well-less : (n m : ℕ) (J : Store → Trees → Type 0) (k : List Piece) (st : Store) (g : Trees)
      → m ≤ n → Well n J k st g → Well m J k st g
  Well-less n m J k st g le w ps l = w ps (omega arith)

  -- what is asked of their ends may be weakened
  pub Well-map : (n : ℕ) (J K : Store → Trees → Type 0) (k : List Piece) (st : Store) (g : Trees)
      → ((st : Store) (g : Trees) → J st g → K st g) → Well n J k st g → Well n K k st g
  Well-map n J K k st g f w ps l = Ends-map F J K (runs th ps (configuration k st g)) f (w ps l)

  -- nothing is pending
  pub at_end : (n : ℕ) (J : Store → Trees → Type 0) (st : Store) (g : Trees) → J st g
      → Well n J [] st g
  at_end n J st g j [] l = j
  at_end n J st g j (p ∷ ps) l = j

  -- the first step
  pub at_step : (n : ℕ) (J : Store → Trees → Type 0) (x : Piece) (rest : List Piece) (st : Store)
      (g : Trees)
      → ((p : Pick) → WellOn n J rest (move th p x st g)) → Well (suc n) J (x ∷ rest) st g
  at_step n J x rest st g w [] l = tt
  at_step n J x rest st g w (p ∷ ps) l = after (move th p x st g) (w p)
    where
      after : (m : Move) → WellOn n J rest m → Ends F J (moved_on th ps x rest st g m)
      after (becomes ys st' g') h = h ps (omega arith)
      after (faults f) h = h
      after bad_pick h = tt

  -- without a step nothing is asked
  pub at_zero : (J : Store → Trees → Type 0) (x : Piece) (rest : List Piece) (st : Store)
      (g : Trees) → Well 0 J (x ∷ rest) st g
  at_zero J x rest st g [] l = tt
  at_zero J x rest st g (p ∷ ps) l = absurd (omega arith)

  -- ONE AFTER THE OTHER
  pub followed : (n : ℕ) (J K : Store → Trees → Type 0) (k k' : List Piece)
      → ((st : Store) (g : Trees) → J st g → Well n K k' st g)
      → (st : Store) (g : Trees) → Well n J k st g → Well n K (k ++ k') st g
  followed n J K [] k' next st g w ps l = next st g (w [] (omega arith)) ps l
  followed n J K (x ∷ rest) k' next st g w [] l = tt
  followed zero J K (x ∷ rest) k' next st g w (p ∷ ps) l = absurd (omega arith)
  followed (suc n) J K (x ∷ rest) k' next st g w (p ∷ ps) l =
      after (move th p x st g) (λ qs m. w (p ∷ qs) (omega arith))
      (λ ys st' g' h.
      followed n J K (ys ++ rest) k'
      (λ st'' g'' j. Well-less (suc n) n K k' st'' g'' (omega arith)
      (next st'' g'' j)) st' g' h ps (omega arith))
    where
      after : (m : Move)
          → ((qs : List Pick) → length qs ≤ n → Ends F J (moved_on th qs x rest st g m))
          → ((ys : List Piece) (st' : Store) (g' : Trees) → Well n J (ys ++ rest) st' g'
          → Ends F K (runs th ps (configuration ((ys ++ rest) ++ k') st' g')))
          → Ends F K (moved_on th ps x (rest ++ k') st g m)
      after (becomes ys st' g') h rec =
          subst (λ z. Ends F K (runs th ps (configuration z st' g'))) (append_assoc ys rest k')
          (rec ys st' g' h)
      after (faults f) h rec = h [] (omega arith)
      after bad_pick h rec = tt
