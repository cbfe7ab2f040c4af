use Rattle.std.proofs.Common.{sym, subst, rules}
use Rattle.rule_table.specs.Accepted.{IsAccepted}
use Rattle.theory_syntax.specs.Theories.{theory_of}
use Rattle.triple_laws.proofs.Theories.{accepted_theories_hold}
use Rattle.hoare_kernel.specs.Walks.{AreNumbered, EachSorted}
use Rattle.hoare_kernel.proofs.WellFormed.{theory-fine}
use Rattle.hoare_kernel.proofs.theories.check_theory.Goals as goal

pub check_procedures-requires-clause-numbered : goal.check_procedures-requires-clause-numbered
check_procedures-requires-clause-numbered c =
    subst AreNumbered (sym c.as_slice-procedures.ensures)
    (theory-fine c.args.theory.now c.requires.formed).0

pub check_procedures-requires-clause-sorted : goal.check_procedures-requires-clause-sorted
check_procedures-requires-clause-sorted c =
    subst EachSorted (sym c.as_slice-procedures.ensures)
    (theory-fine c.args.theory.now c.requires.formed).1

pub returns-clause-sound : goal.returns-clause-sound
returns-clause-sound c =
    let accepted : IsAccepted (theory_of c.args.theory.now) = search rules in
    accepted_theories_hold (theory_of c.args.theory.now) c.requires.formed accepted
