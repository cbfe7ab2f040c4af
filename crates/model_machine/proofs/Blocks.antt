-- A run of pieces followed by others is the run of the pieces, and then of the others.
use Rattle.std.proofs.Common.{◌≡◌, List, [], ◌∷◌, ◌++◌, refl, sym, ap, ◌∙◌, subst, append_assoc, append-nil}
use Rattle.model_shapes.specs.Trees.{Trees}
use Rattle.model_terms.specs.Stores.{Store}
use Rattle.model_commands.specs.Theories.{Procedures}
use Rattle.model_commands.specs.Commands.{Command, block, Block}
use Rattle.model_machine.specs.Blocks.{Unended, Followed, not_yet, ended_with}
use Rattle.model_groves.specs.Picks.{Pick}
use Rattle.model_machine.specs.Machine.{Piece, run, Move, becomes, faults, bad_pick, move, Config, configuration, beginning, runs, pieces_of}
use Rattle.model_machine.proofs.Runs.{moved_on}

module _ (th : Procedures) where
  -- by the first step, and then by what it makes of the pieces
  pub followed_by : (ps : List Pick) (k k' : List Piece) (st : Store) (g : Trees)
      → Followed th ps (configuration k st g) k'
  followed_by ps [] k' st g = ended_with [] ps st g refl refl refl
  followed_by [] (x ∷ k) k' st g = not_yet tt refl
  followed_by (p ∷ ps) (x ∷ k) k' st g =
      by_move (move th p x st g) refl (λ ys st' g'. followed_by ps (ys ++ k) k' st' g')
    where
      after : (ys : List Piece) (st' : Store) (g' : Trees) → move th p x st g ≡ becomes ys st' g'
          → runs th (p ∷ ps) (configuration ((x ∷ k) ++ k') st g)
          ≡ runs th ps (configuration ((ys ++ k) ++ k') st' g')
      after ys st' g' e = ap (moved_on th ps x (k ++ k') st g) e
          ∙ ap (λ z. runs th ps (configuration z st' g')) (sym (append_assoc ys k k'))

      stays : (m : Move) → move th p x st g ≡ m → Unended (moved_on th ps x k st g m)
          → moved_on th ps x (k ++ k') st g m ≡ moved_on th ps x k st g m
          → Followed th (p ∷ ps) (configuration (x ∷ k) st g) k'
      stays m e u q =
          not_yet (subst Unended (sym (ap (moved_on th ps x k st g) e)) u)
          (ap (moved_on th ps x (k ++ k') st g) e ∙ q ∙ sym (ap (moved_on th ps x k st g) e))

      by_move : (m : Move) → move th p x st g ≡ m
          → ((ys : List Piece) (st' : Store) (g' : Trees)
          → Followed th ps (configuration (ys ++ k) st' g') k')
          → Followed th (p ∷ ps) (configuration (x ∷ k) st g) k'
      by_move (faults f) e rec = stays (faults f) e tt refl
      by_move bad_pick e rec = stays bad_pick e tt refl
      by_move (becomes ys st' g') e rec = extend (rec ys st' g')
        where
          extend : Followed th ps (configuration (ys ++ k) st' g') k'
              → Followed th (p ∷ ps) (configuration (x ∷ k) st g) k'
          extend (not_yet u q) =
              not_yet (subst Unended (sym (ap (moved_on th ps x k st g) e)) u) (after ys st' g' e
              ∙ q ∙ sym (ap (moved_on th ps x k st g) e))
          extend (ended_with used left st1 g1 is r q) =
              ended_with (p ∷ used) left st1 g1 (ap (λ z. p ∷ z) is)
              (ap (moved_on th used x k st g) e ∙ r) (after ys st' g' e ∙ q)

  pub one-after-the-other : (ps : List Pick) (c : Config) (k' : List Piece) → Followed th ps c k'
  one-after-the-other ps c k' = followed_by ps c.pending k' c.store c.grove

  -- the step into a block, and a block's commands one after the other
  pub block-step : (p : Pick) (ps : List Pick) (b : Block) (st : Store) (g : Trees)
      → runs th (p ∷ ps) (beginning (block b) st g)
      ≡ runs th ps (configuration (pieces_of b) st g)
  block-step p ps b st g =
      ap (λ z. runs th ps (configuration z st g)) (append-nil (pieces_of b))

  -- a command of a block, and then the others
  pub command-then : (ps : List Pick) (c : Command) (b : Block) (st : Store) (g : Trees)
      → Followed th ps (beginning c st g) (pieces_of b)
  command-then ps c b st g = followed_by ps (run c ∷ []) (pieces_of b) st g
