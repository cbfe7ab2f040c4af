-- The rows of variables, of what cancels beside them and of `is` are sound.
use Rattle.model_shapes.specs.Sorts.{shape, forest, grove}
use Rattle.entailment_laws.specs.Judgements.{Reading}
use Rattle.rule_table.specs.Letters.{as_logic, as_term}
use Rattle.rule_table.specs.Entailments.{variables}
use Rattle.rule_table.proofs.SomeLetters.{◌&◌}
use Rattle.entailment_laws.proofs.SoundRows.{SoundEntries, term-stands}
use Rattle.entailment_laws.proofs.Values as Va
use Rattle.entailment_laws.proofs.Splits as Sp

module _ (reading : Reading) where
  pub sound : SoundEntries reading variables
  sound =
      ((λ l so w c f. Va.some l.P (as_logic l.x) c.0) & tt)
      & ((λ l so w c f. Va.cancel_app (as_term l.x) l.P l.Q l.h l.k) & tt)
      & ((λ l so w c f. Sp.cancel_left (as_term l.x) l.P l.Q (shape forest)) & tt)
      & ((λ l so w c f. Sp.cancel_right (as_term l.x) l.P l.Q (shape forest)) & tt)
      & ((λ l so w c f. Sp.cancel_plus (as_term l.x) l.P l.Q (shape grove)) & tt)
      & ((λ l so w c f. Va.is_in (as_term l.x) l.P l.x.sort) & tt)
      & ((λ l so w c f. Va.is_out (as_term l.x) l.P l.x.sort) & tt)
      & ((λ l so w c f. Va.is_mono (as_term l.x) l.x.sort (term-stands l.x.sort (as_term l.x) w.0)
      l.P l.Q l.s f.0.1) & tt) & tt
