-- The rows of the connectives and the quantifiers are sound.
use Rattle.entailment_laws.specs.Judgements.{Reading}
use Rattle.rule_table.specs.Letters.{as_logic}
use Rattle.rule_table.specs.Entailments.{connectives}
use Rattle.rule_table.proofs.SomeLetters.{◌&◌}
use Rattle.entailment_laws.proofs.SoundRows.{SoundEntries, term-stands}
use Rattle.entailment_laws.proofs.Plain as Pl
use Rattle.entailment_laws.proofs.Quantified as Qu

module _ (reading : Reading) where
  pub sound : SoundEntries reading connectives
  sound =
      ((λ l so w c h. Pl.id l.P l.s) & tt)
      & ((λ l so w c h. Pl.cut l.P l.Q l.R l.s h.0.1 h.1.0.1) & tt)
      & ((λ l so w c h. Pl.true_in l.P l.s) & tt)
      & ((λ l so w c h. Pl.false_out l.P l.s) & tt)
      & ((λ l so w c h. Pl.and_in l.P l.Q l.R l.s h.0.1 h.1.0.1) & tt)
      & ((λ l so w c h. Pl.and_left l.P l.Q l.s) & tt)
      & ((λ l so w c h. Pl.and_right l.P l.Q l.s) & tt)
      & ((λ l so w c h. Pl.or_left l.P l.Q l.s) & tt)
      & ((λ l so w c h. Pl.or_right l.P l.Q l.s) & tt)
      & ((λ l so w c h. Pl.or_out l.P l.Q l.R l.s h.0.1 h.1.0.1) & tt)
      & ((λ l so w c h. Pl.imp_in l.P l.Q l.R l.s h.0.1) & tt)
      & ((λ l so w c h. Pl.imp_out l.P l.Q l.s) & tt)
      & ((λ l so w c h. Pl.not_in l.P l.Q l.s h.0.1) & tt)
      & ((λ l so w c h. Pl.not_out l.P l.s) & tt)
      & ((λ l so w c h. Pl.classical l.P l.s) & tt)
      & ((λ l so w c h. Qu.forall_in l.x.name l.x.sort l.P l.Q l.s h.0.1 c.0) & tt)
      & ((λ l so w c h. Qu.forall_out (as_logic l.x) l.E l.P l.s (term-stands l.x.sort l.E w.0)) &
      tt)
      & ((λ l so w c h. Qu.exists_in (as_logic l.x) l.E l.P l.s (term-stands l.x.sort l.E w.0)) &
      tt)
      & ((λ l so w c h. Qu.exists_out l.x.name l.x.sort l.P l.Q l.s h.0.1 c.0) & tt) & tt
