-- The rows of regrouping, units and the order of roots are sound, both ways.
use Rattle.entailment_laws.specs.Judgements.{Reading}
use Rattle.rule_table.specs.Entailments.{structure}
use Rattle.rule_table.proofs.SomeLetters.{◌&◌}
use Rattle.entailment_laws.proofs.SoundRows.{SoundEntries}
use Rattle.entailment_laws.proofs.Stars as St

module _ (reading : Reading) where
  pub sound : SoundEntries reading structure
  sound =
      ((λ l so w c h. St.star_assoc l.P l.Q l.R) & tt)
      & ((λ l so w c h. St.star_assoc_back l.P l.Q l.R) & tt)
      & ((λ l so w c h. St.star_left_assoc l.K l.P l.Q l.h) & tt)
      & ((λ l so w c h. St.star_left_assoc_back l.K l.P l.Q l.h) & tt)
      & ((λ l so w c h. St.star_right_assoc l.K l.P l.Q l.h) & tt)
      & ((λ l so w c h. St.star_right_assoc_back l.K l.P l.Q l.h) & tt)
      & ((λ l so w c h. St.star_mid_assoc l.K l.P l.Q l.h) & tt)
      & ((λ l so w c h. St.star_mid_assoc_back l.K l.P l.Q l.h) & tt)
      & ((λ l so w c h. St.star_unit l.P) & tt)
      & ((λ l so w c h. St.star_unit_back l.P) & tt)
      & ((λ l so w c h. St.unit_star l.P) & tt)
      & ((λ l so w c h. St.unit_star_back l.P) & tt)
      & ((λ l so w c h. St.star_left_unit l.K l.h) & tt)
      & ((λ l so w c h. St.star_left_unit_back l.K l.h) & tt)
      & ((λ l so w c h. St.star_right_unit l.K l.h) & tt)
      & ((λ l so w c h. St.star_right_unit_back l.K l.h) & tt)
      & ((λ l so w c h. St.plus_assoc l.P l.Q l.R) & tt)
      & ((λ l so w c h. St.plus_assoc_back l.P l.Q l.R) & tt)
      & ((λ l so w c h. St.plus_comm l.P l.Q) & tt)
      & ((λ l so w c h. St.plus_unit l.P) & tt)
      & ((λ l so w c h. St.plus_unit_back l.P) & tt)
      & ((λ l so w c h. St.plus_left_assoc l.K l.P l.Q l.h) & tt)
      & ((λ l so w c h. St.plus_left_assoc_back l.K l.P l.Q l.h) & tt)
      & ((λ l so w c h. St.plus_left_unit l.K l.h) & tt)
      & ((λ l so w c h. St.plus_left_unit_back l.K l.h) & tt) & tt
