-- The rows of monotony, and those of pure formulas, are sound.
use Rattle.std.proofs.Common.{Option, Some, None}
use Rattle.model_shapes.specs.Sorts.{shape, context, DataSort, tree, forest, grove}
use Rattle.model_formulas.specs.Formulas.{whole, hole_left, hole_right, application, node_formula, one_tree, one_root}
use Rattle.model_formulas.specs.Satisfaction.{Entails}
use Rattle.entailment_laws.specs.Judgements.{Reading}
use Rattle.rule_table.specs.Letters.{Letters, sort_at}
use Rattle.rule_table.specs.Notation.{◌⊢◌, ◌at◌, ◌and◌}
use Rattle.rule_table.specs.Conditions.{pure}
use Rattle.rule_table.specs.Lines.{always, ◌provided◌}
use Rattle.rule_table.specs.Entailments.{monotony}
use Rattle.rule_table.proofs.SomeLetters.{◌&◌}
use Rattle.entailment_laws.proofs.SoundRows.{SoundRow, SoundEntries}
use Rattle.entailment_laws.proofs.Mono as Mo
use Rattle.entailment_laws.proofs.Frames as Fr
use Rattle.entailment_laws.proofs.Pure as Pu

-- at a data sort, and at a context sort
module _ (l : Letters) where
  node_at : (o : Option DataSort) → Entails l.P l.Q (sort_at o forest)
      → Entails (node_formula l.S l.I l.P l.L) (node_formula l.S l.I l.Q l.L) (sort_at o tree)
  node_at None f = Mo.mono_node l.S l.I l.L l.P l.Q (shape tree) f
  node_at (Some i) f = Mo.mono_node l.S l.I l.L l.P l.Q (context i tree) f

  tree_at : (o : Option DataSort) → Entails l.P l.Q (sort_at o tree)
      → Entails (one_tree l.P) (one_tree l.Q) (sort_at o forest)
  tree_at None f = Mo.mono_tree l.P l.Q (shape forest) f
  tree_at (Some i) f = Mo.mono_tree l.P l.Q (context i forest) f

  root_at : (o : Option DataSort) → Entails l.P l.Q (sort_at o tree)
      → Entails (one_root l.P) (one_root l.Q) (sort_at o grove)
  root_at None f = Mo.mono_root l.P l.Q (shape grove) f
  root_at (Some i) f = Mo.mono_root l.P l.Q (context i grove) f

  app_at : (o : Option DataSort) → Entails l.K l.H (context l.h l.k)
      → Entails l.P l.Q (sort_at o l.h)
      → Entails (application l.h l.K l.P) (application l.h l.H l.Q) (sort_at o l.k)
  app_at None g f = Mo.mono_app l.K l.P l.H l.Q (shape l.k) l.h g f
  app_at (Some i) g f = Mo.mono_app l.K l.P l.H l.Q (context i l.k) l.h g f

module _ (reading : Reading) where
  -- at each part, by the law of frames
  out_at : (frame : Letters → Fr.Frame) → SoundRow reading (λ l.
      always (Fr.with_part (frame l) (l.P and l.Q) ⊢ Fr.with_part (frame l) l.P and l.Q at l.s)
      provided pure l.Q)
  out_at frame l so w c h = Pu.pure_out l.P l.Q c.0 (frame l) l.s

  in_at : (frame : Letters → Fr.Frame) → SoundRow reading (λ l.
      always (Fr.with_part (frame l) l.P and l.Q ⊢ Fr.with_part (frame l) (l.P and l.Q) at l.s)
      provided pure l.Q)
  in_at frame l so w c h = Pu.pure_in l.P l.Q c.0 (frame l) l.s

  pub sound : SoundEntries reading monotony
  sound =
      ((λ l so w c h. Mo.mono_joined l.P l.Q l.A l.B (shape forest) whole h.0.1 h.1.0.1) & tt)
      & ((λ l so w c h. Mo.mono_joined l.P l.Q l.A l.B (context l.h forest) hole_left h.0.1 h.1.0.1)
      & tt)
      & ((λ l so w c h. Mo.mono_joined l.P l.Q l.A l.B (context l.h forest) hole_right h.0.1
      h.1.0.1) & tt)
      & ((λ l so w c h. Mo.mono_plus l.P l.Q l.A l.B (shape grove) h.0.1 h.1.0.1) & tt)
      & ((λ l so w c h. Mo.mono_plus_left l.P l.Q l.A l.B (context l.h grove) h.0.1 h.1.0.1) & tt)
      & ((λ l so w c h. node_at l l.o h.0.1) & tt)
      & ((λ l so w c h. tree_at l l.o h.0.1) & tt)
      & ((λ l so w c h. root_at l l.o h.0.1) & tt)
      & ((λ l so w c h. app_at l l.o h.0.1 h.1.0.1) & tt)
      & ((λ l so w c h. Mo.mono_hole_adj l.P l.Q l.A l.B (context l.h l.k) h.0.1 h.1.0.1) & tt)
      & ((λ l so w c h. Mo.mono_ctx_adj l.K l.Q l.H l.B (shape l.h) l.k h.0.1 h.1.0.1) & tt)
      & (out_at (λ l. Fr.joined_first whole l.B) & out_at (λ l. Fr.joined_last whole l.B)
      & out_at (λ l. Fr.joined_first hole_left l.B) & out_at (λ l. Fr.joined_last hole_left l.B)
      & out_at (λ l. Fr.joined_first hole_right l.B) & out_at (λ l. Fr.joined_last hole_right l.B)
      & out_at (λ l. Fr.plus_first l.B) & out_at (λ l. Fr.plus_last l.B)
      & out_at (λ l. Fr.plus_hole_first l.B) & out_at (λ l. Fr.plus_hole_last l.B)
      & out_at (λ l. Fr.in_node l.S l.I l.L) & out_at (λ l. Fr.in_tree) & out_at (λ l. Fr.in_root)
      & out_at (λ l. Fr.as_context l.h l.B) & out_at (λ l. Fr.as_part l.h l.B) & tt)
      & (in_at (λ l. Fr.joined_first whole l.B) & in_at (λ l. Fr.joined_last whole l.B)
      & in_at (λ l. Fr.joined_first hole_left l.B) & in_at (λ l. Fr.joined_last hole_left l.B)
      & in_at (λ l. Fr.joined_first hole_right l.B) & in_at (λ l. Fr.joined_last hole_right l.B)
      & in_at (λ l. Fr.plus_first l.B) & in_at (λ l. Fr.plus_last l.B)
      & in_at (λ l. Fr.plus_hole_first l.B) & in_at (λ l. Fr.plus_hole_last l.B)
      & in_at (λ l. Fr.in_node l.S l.I l.L) & in_at (λ l. Fr.in_tree) & in_at (λ l. Fr.in_root)
      & in_at (λ l. Fr.as_context l.h l.B) & in_at (λ l. Fr.as_part l.h l.B) & tt) & tt
