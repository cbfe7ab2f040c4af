-- The rows of holes, contexts and adjoints are sound.
use Rattle.std.proofs.Common.{Option, Some, None}
use Rattle.model_shapes.specs.Sorts.{shape, context, DataSort, forest, grove}
use Rattle.model_shapes.specs.Trees.{fill}
use Rattle.model_shapes.proofs.Shapes.{Same-refl}
use Rattle.model_formulas.specs.Formulas.{application, bare_hole}
use Rattle.model_formulas.specs.Satisfaction.{Entails}
use Rattle.entailment_laws.specs.Judgements.{Reading}
use Rattle.rule_table.specs.Letters.{Letters, as_logic, sort_at}
use Rattle.rule_table.specs.Entailments.{contexts}
use Rattle.entailment_laws.proofs.Apps as Ap
use Rattle.entailment_laws.proofs.Quantified as Qu
use Rattle.rule_table.proofs.SomeLetters.{◌&◌}
use Rattle.entailment_laws.proofs.SoundRows.{SoundEntries}
use Rattle.entailment_laws.proofs.Holes as Ho
use Rattle.entailment_laws.proofs.Nodes as No
use Rattle.entailment_laws.proofs.Contexts as Co
use Rattle.entailment_laws.proofs.Pieces.{put_in}

-- at a data sort, and at a context sort
module _ (l : Letters) where
  hole_at : (o : Option DataSort)
      → Entails (application l.h (bare_hole l.h) l.P) l.P (sort_at o l.h)
  hole_at None = Ho.hole_left l.P (shape l.h)
  hole_at (Some i) = Ho.hole_left l.P (context i l.h)

  hole_back_at : (o : Option DataSort)
      → Entails l.P (application l.h (bare_hole l.h) l.P) (sort_at o l.h)
  hole_back_at None = Ho.hole_left_back l.P (shape l.h)
  hole_back_at (Some i) = Ho.hole_left_back l.P (context i l.h)

module _ (reading : Reading) where
  pub sound : SoundEntries reading contexts
  sound =
      ((λ l so w c f. hole_at l l.o) & tt)
      & ((λ l so w c f. hole_back_at l l.o) & tt)
      & ((λ l so w c f. Ho.hole_right l.K l.h l.k) & tt)
      & ((λ l so w c f. Ho.hole_right_back l.K l.h l.k) & tt)
      & ((λ l so w c f. Ho.app_assoc l.K l.H l.P l.h l.j l.s) & tt)
      & ((λ l so w c f. Ho.app_assoc_back l.K l.H l.P l.h l.j l.s) & tt)
      & ((λ l so w c f. No.app_node l.S l.I l.L l.K l.P l.h l.s) & tt)
      & ((λ l so w c f. No.app_node_back l.S l.I l.L l.K l.P l.h l.s) & tt)
      & ((λ l so w c f. Ap.app_tree l.K l.P l.h l.s) & tt)
      & ((λ l so w c f. Ap.app_tree_back l.K l.P l.h l.s) & tt)
      & ((λ l so w c f. Ap.app_root l.K l.P l.h l.s) & tt)
      & ((λ l so w c f. Ap.app_root_back l.K l.P l.h l.s) & tt)
      & ((λ l so w c f. Ap.app_star_left l.K l.Q l.P l.h forest)
      & (λ l so w c f. Ap.app_star_left_context l.K l.Q l.P l.h l.j forest) & tt)
      & ((λ l so w c f. Ap.app_star_left_back l.K l.Q l.P l.h forest)
      & (λ l so w c f. Ap.app_star_left_back_context l.K l.Q l.P l.h l.j forest) & tt)
      & ((λ l so w c f. Ap.app_star_right l.K l.Q l.P l.h forest)
      & (λ l so w c f. Ap.app_star_right_context l.K l.Q l.P l.h l.j forest) & tt)
      & ((λ l so w c f. Ap.app_star_right_back l.K l.Q l.P l.h forest)
      & (λ l so w c f. Ap.app_star_right_back_context l.K l.Q l.P l.h l.j forest) & tt)
      & ((λ l so w c f. Ap.app_plus l.K l.Q l.P l.h grove)
      & (λ l so w c f. Ap.app_plus_context l.K l.Q l.P l.h l.j grove) & tt)
      & ((λ l so w c f. Ap.app_plus_back l.K l.Q l.P l.h grove)
      & (λ l so w c f. Ap.app_plus_back_context l.K l.Q l.P l.h l.j grove) & tt)
      & ((λ l so w c f e pr r wr m d wd md wf. f.0.1 e pr (fill r d) wf (put_in l.h (shape l.k)
      (fill r d) l.K l.P e r d wr wd (Same-refl (shape l.k) (fill r d)) m md)) & tt)
      & ((λ l so w c f. Qu.hole_adj_out l.K l.P l.Q l.h l.k) & tt)
      & ((λ l so w c f e pr r wr m d wd md wf. f.0.1 e pr (fill d r) wf (put_in l.h (shape l.k)
      (fill d r) l.K l.P e d r wd wr (Same-refl (shape l.k) (fill d r)) md m)) & tt)
      & ((λ l so w c f. Qu.ctx_adj_out l.K l.P l.Q l.h l.k) & tt)
      & ((λ l so w c f. Co.app_exists_part l.K l.P (as_logic l.x) l.h l.s c.0) & tt)
      & ((λ l so w c f. Co.app_exists_ctx l.K l.P (as_logic l.x) l.h l.s c.0) & tt)
      & ((λ l so w c f. Co.app_or_part l.K l.H l.P l.Q l.h l.s) & tt)
      & ((λ l so w c f. Co.app_or_ctx l.K l.H l.P l.Q l.h l.s) & tt) & tt
