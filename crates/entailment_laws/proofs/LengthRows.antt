-- The rows of lengths are sound.
use Rattle.std.proofs.Common.{sym, ap, ◌∙◌}
use Rattle.model_shapes.specs.Sorts.{shape, forest}
use Rattle.model_shapes.specs.Trees.{width}
use Rattle.model_shapes.proofs.Narrow.{no_roots}
use Rattle.model_formulas.specs.Satisfaction.{meaning_of}
use Rattle.entailment_laws.specs.Judgements.{Reading}
use Rattle.rule_table.specs.Entailments.{lengths}
use Rattle.rule_table.proofs.SomeLetters.{◌&◌}
use Rattle.entailment_laws.proofs.SoundRows.{SoundEntries}
use Rattle.entailment_laws.proofs.Closed as Cl
use Rattle.entailment_laws.proofs.Lengths as Le
use Rattle.entailment_laws.proofs.Lengths.{count, count-zero, at_least_zero}

module _ (reading : Reading) where
  pub sound : SoundEntries reading lengths
  sound =
      ((λ l so w c f e pr r wr m. ap (λ z. count (width z)) m) & tt)
      & ((λ l so w c f e pr r wr m. no_roots r (count-zero (width r) m)) & tt)
      & ((λ l so w c f e pr r wr m. ap count m.0.width_fits) & tt)
      & ((λ l so w c f. Le.len_star l.P l.Q l.E l.F (shape forest)) & tt)
      & ((λ l so w c f. Cl.len_some (shape forest)) & tt)
      & ((λ l so w c f e pr r wr m. sym m.0 ∙ m.1) & tt)
      & ((λ l so w c f e pr r wr m. at_least_zero (width r) (meaning_of e l.E) m) & tt) & tt
