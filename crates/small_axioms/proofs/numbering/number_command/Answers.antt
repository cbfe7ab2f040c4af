-- Each number is still that of its term when the last one was added.
use Rattle.std.proofs.Common.{◌∙◌}
use Rattle.formula_table.proofs.KeptNumbers.{terms_grow-refl, terms_grow-trans}
use Rattle.formula_table.specs.Interning.{TermsGrow}
use Rattle.small_axioms.proofs.Numbered.{still}
use Rattle.small_axioms.proofs.numbering.number_command.Goals as goal

pub returns-clause-ok : goal.returns-clause-ok
returns-clause-ok c =
    let last = c.number_term-3.new.table in
    let g : TermsGrow last last = terms_grow-refl last in
    let f : TermsGrow c.number_term-2.new.table last = c.number_term-3.ensures.grows in
    let e : TermsGrow c.number_term.new.table last =
    terms_grow-trans _ c.number_term-2.new.table last c.number_term-2.ensures.grows f in
    let n : TermsGrow c.number_target.new.table last =
    terms_grow-trans _ c.number_term.new.table last c.number_term.ensures.grows e in
    (λ i. record (c.nothing-known.ensures last i) {
      terms = record (c.nothing-known.ensures last i).terms {
        E = still _ last e c.in_ok-e.e _ c.in_ok-e.ensures.ok i;
        F = still _ last f c.in_ok-f.f _ c.in_ok-f.ensures.ok i;
        G = still last last g c.in_ok-g.g _ c.in_ok-g.ensures.ok i;
        N = still _ last n c.in_ok-n.n _ c.in_ok-n.ensures.ok i;
      };
    })
    ∙ c.parts_of-parts.ensures
